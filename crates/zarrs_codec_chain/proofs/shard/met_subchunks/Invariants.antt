use Rattle.zarrs_subset.specs.Regions.{box_of}
use Rattle.zarrs_codec_chain.proofs.SubchunkPieces.{AreMet}
use Rattle.zarrs_codec_chain.proofs.shard.met_subchunks.Given as goal

abbrev pub invariant-loop-axis : goal.invariant-loop-axis
invariant-loop-axis l = AreMet (box_of l.part).start (box_of l.part).shape l.sub l.start.items l.extents.items l.axis
