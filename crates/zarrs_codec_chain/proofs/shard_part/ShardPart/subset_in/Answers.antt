use Rattle.std.proofs.Common.{◌≡◌, ◌∙◌, ◌+◌, ◌-◌, ◌<◌, ◌^◌, List, ℕ, true, ap, arith, length, subst, sym}
use Rattle.zarrs_codec_chain.specs.OpenShards.{read_of}
use Rattle.zarrs_codec_chain.proofs.OpenShards.{opened}
use Rattle.std.specs.Prelude.{slice_index}
use Rattle.zarrs_codec_shard.specs.Subchunks.{is_cut_by, subchunk_box, subchunk_count}
use Rattle.zarrs_subset.specs.Regions.{Box, box_of}
use Rattle.zarrs_codec_chain.proofs.IntoSteps.{region_ends, region_start}
use Rattle.zarrs_codec_chain.proofs.shard_part.ShardPart.subset_in.Goals as goal

pub shifted-requires-clause-dimensions : goal.shifted-requires-clause-dimensions
shifted-requires-clause-dimensions g c =
    let self = c.args.self.now in
    let r = read_of self in
    let is = opened self in
    let region = box_of c.args.region.now in
    let n = c.args.number in
    let subset = box_of c.in_ok-subset.subset in
    let shape = c.requires.shape in
    let subset_is : subset ≡ subchunk_box region.shape r.sub n = c.in_ok-subset.ensures ∙ ap (λ (x : List ℕ). subchunk_box x r.sub n) (sym shape) in
    let cut : is_cut_by region.shape r.sub ≡ true = ap (λ (x : List ℕ). is_cut_by x r.sub) shape ∙ is.cut in
    let lt : n < subchunk_count region.shape r.sub = omega (arith, c.requires.number, ap (λ (x : List ℕ). subchunk_count x r.sub) shape) in
    let long = c.args.region.now.same_length in
    ap length c.start.ensures ∙ region_start region r.sub cut long n lt ∙ ap (λ (b : Box). length b.start) (sym subset_is)

pub shifted-requires-clause-ends : goal.shifted-requires-clause-ends
shifted-requires-clause-ends g c =
    let self = c.args.self.now in
    let r = read_of self in
    let is = opened self in
    let region = box_of c.args.region.now in
    let n = c.args.number in
    let subset = box_of c.in_ok-subset.subset in
    let shape = c.requires.shape in
    let subset_is : subset ≡ subchunk_box region.shape r.sub n = c.in_ok-subset.ensures ∙ ap (λ (x : List ℕ). subchunk_box x r.sub n) (sym shape) in
    let cut : is_cut_by region.shape r.sub ≡ true = ap (λ (x : List ℕ). is_cut_by x r.sub) shape ∙ is.cut in
    let lt : n < subchunk_count region.shape r.sub = omega (arith, c.requires.number, ap (λ (x : List ℕ). subchunk_count x r.sub) shape) in
    let long = c.args.region.now.same_length in
    subst (λ (o : List ℕ). (j : ℕ) → j < length o → slice_index subset.start j + slice_index subset.shape j + slice_index o j < 2 ^ 64) (sym c.start.ensures)
    (subst (λ (b : Box). (j : ℕ) → j < length region.start → slice_index b.start j + slice_index b.shape j + slice_index region.start j < 2 ^ 64) (sym subset_is)
    (λ j below. region_ends region r.sub cut long n lt j below (c.args.region.now.ends_fit j)))
