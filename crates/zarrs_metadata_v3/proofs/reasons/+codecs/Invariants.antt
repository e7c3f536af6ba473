use Rattle.std.proofs.Common.{◌≡◌, drop}
use Rattle.serde_json.specs.View.{items_view, members_view}
use Rattle.zarrs_metadata_v3.specs.Reasons.{items_name_codec, members_name_codec}
use Rattle.zarrs_metadata_v3.proofs.reasons.+codecs.Given as goal

abbrev pub invariant-items_reason-loop-item : goal.invariant-items_reason-loop-item
invariant-items_reason-loop-item l = items_name_codec (items_view (drop l.item-index l.item-items)) ≡ items_name_codec (items_view l.item-items)

abbrev pub invariant-codecs_reason-loop-name : goal.invariant-codecs_reason-loop-name
invariant-codecs_reason-loop-name l = members_name_codec (members_view l._name-iterator) ≡ members_name_codec (members_view l.initial._name-iterator)
