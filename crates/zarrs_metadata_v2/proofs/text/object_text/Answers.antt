use Rattle.std.proofs.Common.{◌≡◌, ◌≤◌, Some, ap, ◌∙◌, subst}
use Rattle.serde_json.specs.Data.{Data, object, depth}
use Rattle.serde_json.specs.Read.{read, max_depth}
use Rattle.serde_json.specs.Written.{IsInOrder}
use Rattle.serde_json.specs.View.{view, members_view}
use Rattle.serde_json.specs.declared.value.Value.{Object}
use Rattle.serde_json.proofs.Views.{view-Object}
use Rattle.zarrs_metadata_v2.proofs.TextLaws.{written_attributes}
use Rattle.zarrs_metadata_v2.proofs.text.object_text.Goals as goal

pub returns : goal.returns
returns c =
    let ms = members_view c.args.members.now.entries in
    let seen : view (Object c.in_ok-copied.field-0) ≡ object ms = view-Object c.in_ok-copied.field-0 ∙ ap object c.in_ok-copied.ensures in
    written_attributes ms c.in_ok-bytes.bytes.items c.in_ok-bytes.ensures.layout c.in_ok-bytes.ensures.utf8
    (subst (λ (d : Data). IsInOrder c.in_ok-bytes.bytes.items d) seen c.in_ok-bytes.ensures.order)
    (subst (λ (d : Data). depth d ≤ max_depth → read c.in_ok-bytes.bytes.items ≡ Some d) seen c.in_ok-bytes.ensures.reads_back)
