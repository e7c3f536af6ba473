use Rattle.std.proofs.Common.{◌∙◌}
use Rattle.zarr_cells.proofs.WordLemmas.{number_is}
use Rattle.zarr_cells.proofs.bits.number.Goals as goal

pub returns : goal.returns
returns c =
    c.ok.ensures.value
    ∙ number_is c.args.word.now c.parse_u64.result c.begins_with_plus.result c.parse_u64.ensures c.begins_with_plus.ensures c.if-begins_with_plus.false
