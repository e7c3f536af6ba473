use Rattle.std.proofs.Common.{◌≡◌, ◌∙◌, ◌<◌, ◌≤◌, List, ℕ, ap, length, subst, sym, arith}
use Rattle.std.specs.Prelude.{slice_index}
use Rattle.zarrs_codec_shard.specs.Subchunks.{corner, quotients}
use Rattle.zarrs_codec_shard.proofs.Grids.{corner_long}
use Rattle.zarrs_codec_shard.proofs.SubchunkBoxes.{ends_fit, long_corner}
use Rattle.zarrs_subset.specs.Boxes.{EndsFit, InShape}
use Rattle.zarrs_subset.specs.Regions.{Box, LiesInBox, box_from, box_of, seen_from}
use Rattle.zarrs_codec_chain.specs.OpenShards.{read_of}
use Rattle.zarrs_codec_chain.specs.ShardReads.{IsAt, ShardRead}
use Rattle.zarrs_codec_chain.proofs.OpenShards.{opened}
use Rattle.zarrs_codec_chain.proofs.ReadSteps.{sole_of}
use Rattle.zarrs_codec_chain.proofs.SubchunkPieces.{subset_is}
use Rattle.zarrs_codec_chain.proofs.shard_part.ShardPart.sole.Goals as goal

pub indices_at-requires : goal.indices_at-requires
indices_at-requires g c = ap length c.start.ensures ∙ c.args.self.now.lies.same_length

pub corner_of-corner-requires : goal.corner_of-corner-requires
corner_of-corner-requires g c =
    let r = read_of c.args.self.now in
    subst (InShape (quotients r.shape r.sub)) c.deref.ensures c.in-Some.ensures.number.in_grid

pub lies_at-requires-clause-long : goal.lies_at-requires-clause-long
lies_at-requires-clause-long g c =
    let r = read_of c.args.self.now in
    let is = opened c.args.self.now in
    let corner_is : c.deref-2.result.now ≡ corner r.sub c.deref.result.now = c.deref-2.ensures ∙ c.corner_of-corner.ensures ∙ ap (corner r.sub) (sym c.deref.ensures) in
    ap length corner_is ∙ long_corner r.shape r.sub c.deref.result.now is.cut c.in-Some.ensures.number.in_grid ∙ ap length (sym c.shape.ensures)

pub lies_at-requires-clause-dimensions : goal.lies_at-requires-clause-dimensions
lies_at-requires-clause-dimensions g c =
    let r = read_of c.args.self.now in
    let is = opened c.args.self.now in
    let corner_is : c.deref-2.result.now ≡ corner r.sub c.deref.result.now = c.deref-2.ensures ∙ c.corner_of-corner.ensures ∙ ap (corner r.sub) (sym c.deref.ensures) in
    ap length corner_is ∙ corner_long r.shape r.sub c.deref.result.now is.cut c.in-Some.ensures.number.in_grid ∙ sym is.lies.same_length

pub lies_at-requires-clause-ends_fit : goal.lies_at-requires-clause-ends_fit
lies_at-requires-clause-ends_fit g c =
    let r = read_of c.args.self.now in
    let is = opened c.args.self.now in
    let corner_is : c.deref-2.result.now ≡ corner r.sub c.deref.result.now = c.deref-2.ensures ∙ c.corner_of-corner.ensures ∙ ap (corner r.sub) (sym c.deref.ensures) in
    subst (λ x. EndsFit x c.shape.result.now) (sym corner_is)
    (subst (EndsFit (corner r.sub c.deref.result.now)) (sym c.shape.ensures) (ends_fit r.shape r.sub c.deref.result.now is.cut c.in-Some.ensures.number.in_grid c.args.self.now.subchunks.small))

pub seen_from_corner-requires-clause-dimensions : goal.seen_from_corner-requires-clause-dimensions
seen_from_corner-requires-clause-dimensions g c =
    ap length (c.deref-3.ensures ∙ sym c.deref-2.ensures) ∙ sym c.if-not-lies_at.ensures.lies.same_length

pub seen_from_corner-requires-clause-above : goal.seen_from_corner-requires-clause-above
seen_from_corner-requires-clause-above g c =
    let part = box_of c.args.self.now.part.now in
    let lies = c.if-not-lies_at.ensures.lies in
    subst (λ (x : List ℕ). (k : ℕ) → k < length part.start → slice_index x k ≤ slice_index part.start k) (c.deref-2.ensures ∙ sym c.deref-3.ensures)
    (λ k lt. lies.starts k (omega (arith, lies.same_length)))

pub returns : goal.returns
returns g c =
    let r : ShardRead = read_of c.args.self.now in
    let is = opened c.args.self.now in
    let n = c.in-Some.number in
    let i = c.deref.result.now in
    let at : IsAt r i n = c.in-Some.ensures.number in
    let start = c.deref-2.result.now in
    let corner_is : start ≡ corner r.sub i = c.deref-2.ensures ∙ c.corner_of-corner.ensures ∙ ap (corner r.sub) (sym c.deref.ensures) in
    let box = subset_is r.shape r.sub r.part i n is.cut is.long is.lies at.in_grid at.at_n in
    sole_of r is n (box_of c.in_ok-own.own) start at.below (corner_is ∙ ap (λ (b : Box). b.start) (sym box)) c.if-not-lies_at.ensures.some
    (subst (λ (x : List ℕ). LiesInBox r.part (box_from start x)) c.shape.ensures c.if-not-lies_at.ensures.lies)
    (c.in_ok-own.ensures ∙ ap (seen_from r.part) (c.deref-3.ensures ∙ sym c.deref-2.ensures))
