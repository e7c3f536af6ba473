use Rattle.std.proofs.Common.{ap, ◌∙◌}
use Rattle.zarrs_data_type.specs.Cells.{cells}
use Rattle.zarrs_data_type.specs.Kind as type
use Rattle.zarrs_codec_optional.proofs.OptionalData.{cells-flags}
use Rattle.zarrs_codec_optional.proofs.optional.bools_of.Goals as goal

pub returns : goal.returns
returns c = ap (cells type.bool) c.from_flen.ensures ∙ cells-flags c.args.flags.now c.requires
