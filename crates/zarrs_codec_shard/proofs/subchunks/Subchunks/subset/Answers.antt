use Rattle.std.proofs.Common.{◌≡◌, ℕ, ◌<◌, ◌^◌, length, sym, ap, subst, ◌∙◌, arith, rules}
use Rattle.std.specs.Prelude.{slice_index}
use Rattle.zarrs_subset.specs.Boxes.{unravel, EndsFit}
use Rattle.zarrs_subset.specs.Regions.{box_from}
use Rattle.zarrs_subset.proofs.Positions.{unravel_in}
use Rattle.zarrs_codec_shard.specs.SubchunkData.{chunk_shape, subchunk_shape}
use Rattle.zarrs_codec_shard.specs.Subchunks.{quotients, corner}
use Rattle.zarrs_codec_shard.proofs.SubchunkBoxes.{ends_fit, long_corner}
use Rattle.zarrs_codec_shard.proofs.subchunks.Subchunks.subset.Goals as goal

pub new-requires-clause-same_length : goal.new-requires-clause-same_length
new-requires-clause-same_length c =
    let self = c.args.self.now in
    let s = chunk_shape self in
    let sub = subchunk_shape self in
    let i = unravel (quotients s sub) c.args.number in
    let start : c.in_ok-start.start.items ≡ corner sub i = search rules in
    ap length start ∙ long_corner s sub i self.cut (unravel_in (quotients s sub) c.args.number c.requires) ∙ ap length (sym (c.in_ok-shape.ensures.items ∙ c.deref.ensures.value))

pub new-requires-clause-ends_fit : goal.new-requires-clause-ends_fit
new-requires-clause-ends_fit c =
    let self = c.args.self.now in
    let s = chunk_shape self in
    let sub = subchunk_shape self in
    let i = unravel (quotients s sub) c.args.number in
    let start : c.in_ok-start.start.items ≡ corner sub i = search rules in
    let small : (k : ℕ) → slice_index s k < 2 ^ 64 = λ k. omega (arith, self.chunk_box.ends_fit k) in
    subst (λ x. EndsFit x c.in_ok-shape.shape.items) (sym start)
    (subst (EndsFit (corner sub i)) (sym (c.in_ok-shape.ensures.items ∙ c.deref.ensures.value))
    (ends_fit s sub i self.cut (unravel_in (quotients s sub) c.args.number c.requires) small))

pub returns : goal.returns
returns c =
    let self = c.args.self.now in
    let s = chunk_shape self in
    let sub = subchunk_shape self in
    let i = unravel (quotients s sub) c.args.number in
    let start : c.in_ok-start.start.items ≡ corner sub i = search rules in
    c.new.ensures ∙ ap (λ x. box_from x c.in_ok-shape.shape.items) start ∙ ap (box_from (corner sub i)) (c.in_ok-shape.ensures.items ∙ c.deref.ensures.value)
