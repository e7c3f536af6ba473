use Rattle.std.proofs.Common.{◌<◌, arith, subst}
use Rattle.std.specs.Prelude.{slice_index_or}
use Rattle.zarrs_subset.specs.Regions.{Box, box_of}
use Rattle.zarrs_codec_shard.specs.Blocks.{AddsCells}
use Rattle.zarrs_codec_shard.proofs.RowBlocks.{block_more, some_rows}
use Rattle.zarrs_codec_shard.proofs.blocks.append_blocks.Goals as goal

pub loop-done-preserved : goal.loop-done-preserved
loop-done-preserved c =
    let part = box_of c.args.subset.now in
    let held = box_of c.args.held_box.now in
    let old = c.args.made.now.items in
    let mid = c.loop-done.made.items in
    let new = c.append_block-in-loop-done.new.made.items in
    let some = some_rows part.shape c.loop-done.done (subst (λ l. c.loop-done.done < slice_index_or l 0 0) c.shape-2.ensures c.loop-done-test.true) in (
      omega (arith, c.loop-done-test.true, c.min-count.ensures),
      block_more c.args.size held c.args.bytes.now old mid new c.loop-done.done c.min-count.result part c.args.subset.now.same_length some c.loop-done.invariant.1
          (subst (λ (box : Box). AddsCells c.args.size held c.args.bytes.now box mid new) c.in_ok-block.ensures c.in_ok-append_block.ensures.added),
    )
