use Rattle.std.proofs.Common.{◌≡◌, ℕ, ◌+◌, ◌*◌, ◌<◌, ◌≤◌, ◌^◌, true, false, length, sym, ap, subst, ◌∙◌, arith}
use Rattle.std.specs.Prelude.{slice_index}
use Rattle.zarrs_subset.specs.Boxes.{position_count}
use Rattle.zarrs_subset.specs.Regions.{box_of}
use Rattle.zarrs_codec_shard.specs.SubchunkData.{chunk_shape, subchunk_shape}
use Rattle.zarrs_codec_shard.specs.Subchunks.{quotients}
use Rattle.zarrs_codec_shard.specs.Unmet.{shares}
use Rattle.zarrs_codec_shard.proofs.CopiedCells.{starts_fit}
use Rattle.zarrs_codec_shard.proofs.Grids.{cut_at, cut_len}
use Rattle.zarrs_codec_shard.proofs.subchunks.Subchunks.unmet.Goals as goal

pub unmet_run-requires-clause-same_length : goal.unmet_run-requires-clause-same_length
unmet_run-requires-clause-same_length c =
    let self = c.args.self.now in
    let long = cut_len (chunk_shape self) (subchunk_shape self) self.cut in
    ap length c.deref.ensures.value ∙ long.0 ∙ sym long.1 ∙ ap length (sym (c.deref-2.ensures.value ∙ self.grid_is))

pub unmet_run-requires-clause-dimensions : goal.unmet_run-requires-clause-dimensions
unmet_run-requires-clause-dimensions c =
    let self = c.args.self.now in
    let long = cut_len (chunk_shape self) (subchunk_shape self) self.cut in
    c.requires.dimensions ∙ sym long.1 ∙ ap length (sym (c.deref-2.ensures.value ∙ self.grid_is))

pub unmet_run-requires-clause-ends : goal.unmet_run-requires-clause-ends
unmet_run-requires-clause-ends c =
    let self = c.args.self.now in
    let s = chunk_shape self in
    let sub = subchunk_shape self in
    subst (λ g. (k : ℕ) → slice_index g k * slice_index c.deref.result.now k < 2 ^ 64) (sym (c.deref-2.ensures.value ∙ self.grid_is))
    (subst (λ x. (k : ℕ) → slice_index (quotients s sub) k * slice_index x k < 2 ^ 64) (sym c.deref.ensures.value)
    (λ k. omega (arith, starts_fit s sub k self.cut, self.chunk_box.ends_fit k)))

pub unmet_run-requires-clause-some : goal.unmet_run-requires-clause-some
unmet_run-requires-clause-some c =
    let self = c.args.self.now in
    let s = chunk_shape self in
    let long = cut_len s (subchunk_shape self) self.cut in
    subst (λ x. (k : ℕ) → k < length x → 0 < slice_index x k) (sym c.deref.ensures.value) (λ k lt. (cut_at s (subchunk_shape self) k self.cut (omega (arith, long.0))).1)

pub returns : goal.returns
returns c =
    let self = c.args.self.now in
    let sub = subchunk_shape self in
    let part = box_of c.args.part.now in
    let n = c.args.number in
    let run = c.unmet_run.result in
    let grid : c.deref-2.result.now ≡ quotients (chunk_shape self) sub = c.deref-2.ensures.value ∙ self.grid_is in
    record {
      within = subst (λ g. n + run ≤ position_count g) grid c.unmet_run.ensures.within;
      unmet = λ j from upto.
          subst (λ g. shares sub g part j ≡ false) grid (subst (λ x. shares x c.deref-2.result.now part j ≡ false) c.deref.ensures.value (c.unmet_run.ensures.unmet j from upto));
      met = λ none. subst (λ g. shares sub g part n ≡ true) grid (subst (λ x. shares x c.deref-2.result.now part n ≡ true) c.deref.ensures.value (c.unmet_run.ensures.met none));
    }
