use Rattle.std.proofs.Common.{rules}
use Rattle.zarrs_subset.specs.Boxes.{position_count}
use Rattle.zarrs_data_type.specs.Cell.{fill_of}
use Rattle.zarrs_data_type.specs.Kind.{kind}
use Rattle.zarrs_codec_shard.proofs.Blanks.{held_large}
use Rattle.zarrs_codec_shard.proofs.subchunks.fill_count.Goals as goal

pub returns-in_default-clause-count : goal.returns-in_default-clause-count
returns-in_default-clause-count c =
    held_large c.args.data_type.now (position_count c.args.shape.now) (fill_of (kind c.args.data_type.now) c.args.fill_value.now) (search rules)
