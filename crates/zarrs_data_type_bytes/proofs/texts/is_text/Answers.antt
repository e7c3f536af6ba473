use Rattle.std.proofs.Common.{◌∙◌}
use Rattle.zarrs_data_type_bytes.proofs.AsciiTexts.{is_ok-utf8}
use Rattle.zarrs_data_type_bytes.proofs.texts.is_text.Goals as goal

pub returns : goal.returns
returns c = c.is_ok.ensures.value ∙ is_ok-utf8 _ _ c.from_utf8.result c.args.bytes.now c.from_utf8.ensures.cases
