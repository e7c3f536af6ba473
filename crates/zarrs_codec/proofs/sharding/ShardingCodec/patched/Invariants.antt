use Rattle.zarrs_data_type.specs.CellTypes.{filling, kind_of}
use Rattle.std.proofs.Common.{◌-◌, ◌≤◌, length}
use Rattle.zarrs_data_type.specs.ArrayData.{data_of}
use Rattle.zarrs_codec_shard.specs.SubchunkData.{chunk_shape, subchunk_shape}
use Rattle.zarrs_subset.specs.Regions.{box_of}
use Rattle.zarrs_codec_chain.specs.Options.{stores_empty_chunks}
use Rattle.zarrs_codec.specs.Chains.{chain_meaning, inner_chain_of}
use Rattle.zarrs_codec.specs.PartialShardings.{HasFirstChanges}
use Rattle.zarrs_codec.specs.ShardUpdates.{parts_in, stored_in}
use Rattle.zarrs_codec.proofs.sharding.ShardingCodec.patched.Given as goal

abbrev pub decreases-loop-number : goal.decreases-loop-number
decreases-loop-number l = l.count - l.number

abbrev pub invariant-loop-number : goal.invariant-loop-number
invariant-loop-number l =
    let u = l.update in
    record {
      within : l.number ≤ length u.ranges.items;
      changes : HasFirstChanges (chain_meaning (inner_chain_of l.self)) (stores_empty_chunks u.options.now) (kind_of u.cell_type.now) (filling u.cell_type.now) (chunk_shape u.subchunks) (subchunk_shape u.subchunks)
          (stored_in u) (box_of u.part.now) (data_of u.bytes.now) (parts_in u) (length u.ranges.items) l.number l.patch;
    }
