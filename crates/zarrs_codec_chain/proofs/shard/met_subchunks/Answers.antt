use Rattle.std.proofs.Common.{◌≡◌, ◌∙◌, sym, subst, arith, rules, length}
use Rattle.zarrs_codec_shard.proofs.Grids.{cut_at, cut_len}
use Rattle.zarrs_subset.specs.Regions.{Box, box_of}
use Rattle.zarrs_codec_chain.specs.ShardParts.{HasOnlyMet, MeetsPart}
use Rattle.zarrs_codec_chain.proofs.SubchunkPieces.{along, meets_part, met_more, only_met}
use Rattle.zarrs_codec_chain.proofs.shard.met_subchunks.Goals as goal

pub nonzero_div-first : goal.nonzero_div-first
nonzero_div-first c =
    let same = (cut_len c.args.shape.now c.args.sub.now c.requires.cut).0 in
    (cut_at c.args.shape.now c.args.sub.now c.loop-axis.axis c.requires.cut (omega (arith, c.loop-axis-test.true))).1

pub met_extent-requires : goal.met_extent-requires
met_extent-requires c =
    let same = (cut_len c.args.shape.now c.args.sub.now c.requires.cut).0 in
    (cut_at c.args.shape.now c.args.sub.now c.loop-axis.axis c.requires.cut (omega (arith, c.loop-axis-test.true))).1

pub loop-axis-preserved : goal.loop-axis-preserved
loop-axis-preserved c =
    let part = box_of c.args.part.now in
    met_more part.start part.shape c.args.sub.now _ _ _ _ c.loop-axis.axis _ _ c.loop-axis.invariant c.in_ok-push.ensures.items c.in_ok-push-2.ensures.items
    (along _ _ _ _ _ _ (search rules) (search rules) c.met_extent.ensures.within c.met_extent.ensures.met c.met_extent.ensures.begins)

pub returns-clause-met : goal.returns-clause-met
returns-clause-met c =
    let part = box_of c.args.part.now in
    let all : c.loop-axis.axis ≡ length c.args.sub.now = omega (arith, c.loop-axis-test.false) in
    let i = c.loop-axis.invariant in
    subst (λ (b : Box). MeetsPart c.args.sub.now part b) (sym c.new.ensures)
    (meets_part c.args.shape.now c.args.sub.now c.loop-axis.start.items c.loop-axis.extents.items part c.requires.cut c.args.part.now.same_length c.requires.part (i.start_len ∙ all) (i.extents_len ∙ all)
    (λ k lt. i.each k (omega arith)))

pub returns-clause-only : goal.returns-clause-only
returns-clause-only c =
    let part = box_of c.args.part.now in
    let all : c.loop-axis.axis ≡ length c.args.sub.now = omega (arith, c.loop-axis-test.false) in
    let i = c.loop-axis.invariant in
    subst (λ (b : Box). HasOnlyMet c.args.sub.now part b) (sym c.new.ensures)
    (only_met c.args.shape.now c.args.sub.now c.loop-axis.start.items c.loop-axis.extents.items part c.requires.cut c.args.part.now.same_length c.requires.part (i.start_len ∙ all) (i.extents_len ∙ all)
    (λ k lt. i.each k (omega arith)))
