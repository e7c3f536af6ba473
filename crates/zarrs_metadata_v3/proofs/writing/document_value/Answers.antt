use Rattle.std.proofs.Common.{Some, map, codes, ap, ◌∙◌}
use Rattle.std.proofs.lemmas.Result.{IfOk-weaker}
use Rattle.serde_json.specs.View.{members_view}
use Rattle.serde_json.proofs.Views.{view-Object}
use Rattle.zarrs_metadata_parts.specs.Members.{besides}
use Rattle.zarrs_metadata_parts.specs.Lists.{list_data, numbers_data}
use Rattle.zarrs_metadata_parts.specs.Extension.{extension_data, extension_view}
use Rattle.zarrs_metadata_v3.specs.Document.{document_names}
use Rattle.zarrs_metadata_v3.specs.View.{document_view}
use Rattle.zarrs_metadata_v3.proofs.DocumentLaws.{written_in_turn}
use Rattle.zarrs_metadata_v3.proofs.MemberLemmas.{put_member_is, put_written_is}
use Rattle.zarrs_metadata_v3.proofs.writing.document_value.Goals as goal

pub returns : goal.returns
returns c =
    view-Object c.put_member-4.new.members
    ∙ written_in_turn (document_view c.args.document.now)
    (members_view c.other_members-members.result.entries)
    (members_view c.put_member.new.members.entries)
    (members_view c.put_written.new.members.entries)
    (members_view c.put_written-2.new.members.entries)
    (members_view c.put_written-3.new.members.entries)
    (members_view c.put_written-4.new.members.entries)
    (members_view c.put_written-5.new.members.entries)
    (members_view c.put_written-6.new.members.entries)
    (members_view c.put_written-7.new.members.entries)
    (members_view c.put_member-2.new.members.entries)
    (members_view c.put_member-3.new.members.entries)
    (members_view c.put_member-4.new.members.entries)
    (c.other_members-members.ensures ∙ ap (besides document_names) c.in_ok-fields.ensures)
    (put_member_is (codes "zarr_format") _ _ (members_view c.other_members-members.result.entries) _ c.in_ok-put_member.ensures.put (ap Some c.from.ensures))
    (put_written_is c.try_from_str-node_type.result (codes "node_type") _ (members_view c.put_member.new.members.entries) _ c.in_ok-put_written.ensures.written c.in_ok-put_written.ensures.put c.try_from_str-node_type.ensures)
    (put_written_is c.numbers_value-shape.result (codes "shape") _ (members_view c.put_written.new.members.entries) _ c.in_ok-put_written-2.ensures.written c.in_ok-put_written-2.ensures.put (IfOk-weaker c.numbers_value-shape.result _ _ (λ v h. h ∙ ap numbers_data c.as_slice.ensures.value) c.numbers_value-shape.ensures.written))
    (put_written_is c.to_value-data_type.result (codes "data_type") _ (members_view c.put_written-2.new.members.entries) _ c.in_ok-put_written-3.ensures.written c.in_ok-put_written-3.ensures.put c.to_value-data_type.ensures.written)
    (put_written_is c.to_value-chunk_grid.result (codes "chunk_grid") _ (members_view c.put_written-3.new.members.entries) _ c.in_ok-put_written-4.ensures.written c.in_ok-put_written-4.ensures.put c.to_value-chunk_grid.ensures.written)
    (put_written_is c.to_value-key_encoding.result (codes "chunk_key_encoding") _ (members_view c.put_written-4.new.members.entries) _ c.in_ok-put_written-5.ensures.written c.in_ok-put_written-5.ensures.put c.to_value-key_encoding.ensures.written)
    (put_written_is c.to_value-fill_value.result (codes "fill_value") _ (members_view c.put_written-5.new.members.entries) _ c.in_ok-put_written-6.ensures.written c.in_ok-put_written-6.ensures.put c.to_value-fill_value.ensures)
    (put_written_is c.extensions_value-codecs.result (codes "codecs") _ (members_view c.put_written-6.new.members.entries) _ c.in_ok-put_written-7.ensures.written c.in_ok-put_written-7.ensures.put (IfOk-weaker c.extensions_value-codecs.result _ _ (λ v h. h ∙ ap (λ es. list_data extension_data (map extension_view es)) c.deref.ensures.value) c.extensions_value-codecs.ensures))
    (put_member_is (codes "attributes") _ _ (members_view c.put_written-7.new.members.entries) _ c.in_ok-put_member-2.ensures.put c.in_ok-attributes.ensures)
    (put_member_is (codes "storage_transformers") _ _ (members_view c.put_member-2.new.members.entries) _ c.in_ok-put_member-3.ensures.put c.in_ok-transformers.ensures)
    (put_member_is (codes "dimension_names") _ _ (members_view c.put_member-3.new.members.entries) _ c.in_ok-put_member-4.ensures.put c.in_ok-names.ensures)
