use Rattle.zarrs_subset.specs.Boxes.{position_count}
use Rattle.zarrs_codec.proofs.Counts.{count_past}
use Rattle.zarrs_codec.proofs.sizes.is_counted.Goals as goal

pub returns-in_default-clause-large : goal.returns-in_default-clause-large
returns-in_default-clause-large c = count_past c.args.data_type.now (position_count c.args.shape.now) c.in_default.ensures
