use Rattle.std.proofs.Common.{◌≡◌, ℕ, List, Option, Some, None, option_and_then, sym, ap, ◌∙◌}
use Rattle.std.specs.Str.{IsUtf8}
use Rattle.serde_json.specs.Data.{Data, Members}
use Rattle.serde_json.specs.Find.{as_object}
use Rattle.serde_json.specs.Read.{read}
use Rattle.serde_json.specs.View.{view, members_view}
use Rattle.zarrs_metadata_v3.specs.Members.{value_said}
use Rattle.zarrs_metadata_v3.proofs.TextLaws.{said_value, nothing_said}
use Rattle.zarrs_metadata_v3.proofs.reasons.members_from_slice.Goals as goal

-- the members of the value that is read
of_read : (bytes : List ℕ) (d : Data) (ms : Option Members) → IsUtf8 bytes → read bytes ≡ Some d → ms ≡ as_object d → ms ≡ option_and_then as_object (value_said bytes)
of_read bytes d ms utf8 is found = found ∙ sym (ap (option_and_then as_object) (said_value bytes d utf8 is))

pub returns-in-Some : goal.returns-in-Some
returns-in-Some c =
    let ok = c.in-Ok.ensures.ok in
    of_read c.args.bytes.now (view c.in-Ok.value) (Some (members_view c.in-Some.members.entries)) ok.0 ok.1 c.in-Some.ensures

pub returns-in_ok-from_str-in-None : goal.returns-in_ok-from_str-in-None
returns-in_ok-from_str-in-None c =
    let ok = c.in-Ok.ensures.ok in
    of_read c.args.bytes.now (view c.in-Ok.value) None ok.0 ok.1 c.in-None.ensures

pub returns-in_ok-format-in_default : goal.returns-in_ok-format-in_default
returns-in_ok-format-in_default c =
    sym (ap (option_and_then as_object) (nothing_said c.args.bytes.now (c.in-Err.ensures.err (λ memory. c.in_default.not-Memory (c.classify.ensures.memory.1 memory)))))
