use Rattle.std.proofs.Common.{◌≡◌, ℕ, ◌*◌, ◌<◌, ◌^◌, length, sym, ap, subst, ◌∙◌, arith, rules}
use Rattle.std.specs.Prelude.{slice_index}
use Rattle.zarrs_subset.specs.Boxes.{unravel, EndsFit}
use Rattle.zarrs_subset.specs.Regions.{box_from}
use Rattle.zarrs_subset.proofs.Positions.{unravel_in}
use Rattle.zarrs_codec_shard.specs.LentData.{lent_chunk_shape, lent_shape}
use Rattle.zarrs_codec_shard.specs.Subchunks.{quotients, corner}
use Rattle.zarrs_codec_shard.proofs.CopiedCells.{starts_fit}
use Rattle.zarrs_codec_shard.proofs.Grids.{cut_len}
use Rattle.zarrs_codec_shard.proofs.SubchunkBoxes.{ends_fit, long_corner}
use Rattle.zarrs_codec_shard.proofs.lent.LentSubchunks.subset.Goals as goal

pub corner_list-requires-clause-dimensions : goal.corner_list-requires-clause-dimensions
corner_list-requires-clause-dimensions c =
    let self = c.args.self.now in
    let long = cut_len (lent_chunk_shape self) (lent_shape self) self.cut in
    long.0 ∙ sym long.1 ∙ ap length (sym (c.deref.ensures ∙ self.grid_is))

pub corner_list-requires-clause-ends : goal.corner_list-requires-clause-ends
corner_list-requires-clause-ends c =
    let self = c.args.self.now in
    let s = lent_chunk_shape self in
    let sub = lent_shape self in
    subst (λ g. (k : ℕ) → slice_index g k * slice_index sub k < 2 ^ 64) (sym (c.deref.ensures ∙ self.grid_is))
    (λ k. omega (arith, starts_fit s sub k self.cut, self.small k))

pub new-requires-clause-same_length : goal.new-requires-clause-same_length
new-requires-clause-same_length c =
    let self = c.args.self.now in
    let s = lent_chunk_shape self in
    let sub = lent_shape self in
    let i = unravel (quotients s sub) c.args.number in
    let start : c.in_ok-start.start.items ≡ corner sub i = search rules in
    ap length start ∙ long_corner s sub i self.cut (unravel_in (quotients s sub) c.args.number c.requires) ∙ ap length (sym (c.in_ok-shape.ensures.items))

pub new-requires-clause-ends_fit : goal.new-requires-clause-ends_fit
new-requires-clause-ends_fit c =
    let self = c.args.self.now in
    let s = lent_chunk_shape self in
    let sub = lent_shape self in
    let i = unravel (quotients s sub) c.args.number in
    let start : c.in_ok-start.start.items ≡ corner sub i = search rules in
    let small : (k : ℕ) → slice_index s k < 2 ^ 64 = λ k. self.small k in
    subst (λ x. EndsFit x c.in_ok-shape.shape.items) (sym start)
    (subst (EndsFit (corner sub i)) (sym (c.in_ok-shape.ensures.items))
    (ends_fit s sub i self.cut (unravel_in (quotients s sub) c.args.number c.requires) small))

pub returns : goal.returns
returns c =
    let self = c.args.self.now in
    let s = lent_chunk_shape self in
    let sub = lent_shape self in
    let i = unravel (quotients s sub) c.args.number in
    let start : c.in_ok-start.start.items ≡ corner sub i = search rules in
    c.new.ensures ∙ ap (λ x. box_from x c.in_ok-shape.shape.items) start ∙ ap (box_from (corner sub i)) (c.in_ok-shape.ensures.items)
