use Rattle.zarrs_subset.specs.Regions.{box_of}
use Rattle.zarrs_data_type.specs.ArrayData.{data_of}
use Rattle.zarrs_engine.specs.Engine.{layout_of, store_of}
use Rattle.zarrs_engine.specs.Resizes.{HasFilled}
use Rattle.zarrs_engine.proofs.engine.Engine.cut_value.Given as goal

abbrev pub invariant-loop-axis : goal.invariant-loop-axis
invariant-loop-axis g l = HasFilled (layout_of l.self) l.shape (box_of l.chunk.region) (store_of g.S.ReadableStorageTraits.state l.self) l.axis (data_of l.made)
