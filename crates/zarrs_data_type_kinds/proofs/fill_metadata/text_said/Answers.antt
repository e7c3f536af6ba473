use Rattle.std.proofs.Common.{ap, ◌∙◌}
use Rattle.std.specs.Str.{is_utf8}
use Rattle.std.proofs.lemmas.Str.{is_utf8-from_IsUtf8}
use Rattle.zarrs_data_type_kinds.proofs.fill_metadata.text_said.Goals as goal

pub returns-in_ok-from_slice-in-Some-clause-text : goal.returns-in_ok-from_slice-in-Some-clause-text
returns-in_ok-from_slice-in-Some-clause-text c =
    ap is_utf8 c.in_ok-from_slice-in-Some.ensures.items ∙ is_utf8-from_IsUtf8 c.as_bytes.result.now c.as_bytes.ensures.utf8
