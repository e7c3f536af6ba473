use Rattle.std.proofs.Common.{Some, option_map, codes, ap, ◌∙◌}
use Rattle.std.proofs.lemmas.Result.{IfOk-weaker, MatchResult-weaker}
use Rattle.serde_json.specs.View.{view, members_view}
use Rattle.serde_json.proofs.Views.{view-Object}
use Rattle.zarrs_metadata_parts.specs.Lists.{number_data, numbers_data, sizes_of}
use Rattle.zarrs_metadata_v3.specs.Members.{put_some}
use Rattle.zarrs_metadata_v3.proofs.MemberLemmas.{put_member_is, put_written_is}
use Rattle.zarrs_metadata_v2.specs.View.{document_v2_view}
use Rattle.zarrs_metadata_v2.proofs.DocumentLaws.{written_in_turn}
use Rattle.zarrs_metadata_v2.proofs.writing.value_with.Goals as goal

pub returns : goal.returns
returns c =
    view-Object c.put_member-2.new.members
    ∙ written_in_turn (option_map view c.args.attributes) (document_v2_view c.args.document.now)
    (members_view c.put_member.new.members.entries)
    (members_view c.put_written.new.members.entries)
    (members_view c.put_written-2.new.members.entries)
    (members_view c.put_written-3.new.members.entries)
    (members_view c.put_written-4.new.members.entries)
    (members_view c.put_written-5.new.members.entries)
    (members_view c.put_written-6.new.members.entries)
    (members_view c.put_written-7.new.members.entries)
    (members_view c.put_written-8.new.members.entries)
    (members_view c.put_member-2.new.members.entries)
    (put_member_is (codes "zarr_format") _ _ (members_view c.new-members.result.entries) _ c.in_ok-put_member.ensures.put (ap Some c.from.ensures) ∙ ap (λ es. put_some (codes "zarr_format") (Some (number_data 2)) (members_view es)) c.new-members.ensures.empty)
    (put_written_is c.numbers_value.result (codes "shape") _ (members_view c.put_member.new.members.entries) _ c.in_ok-put_written.ensures.written c.in_ok-put_written.ensures.put (IfOk-weaker c.numbers_value.result _ _ (λ v h. h ∙ ap numbers_data c.as_slice.ensures.value) c.numbers_value.ensures.written))
    (put_written_is c.sizes_value.result (codes "chunks") _ (members_view c.put_written.new.members.entries) _ c.in_ok-put_written-2.ensures.written c.in_ok-put_written-2.ensures.put (IfOk-weaker c.sizes_value.result _ _ (λ v h. h ∙ ap (λ l. numbers_data (sizes_of l)) c.as_slice-2.ensures.value) c.sizes_value.ensures))
    (put_written_is c.to_value.result (codes "dtype") _ (members_view c.put_written-2.new.members.entries) _ c.in_ok-put_written-3.ensures.written c.in_ok-put_written-3.ensures.put c.to_value.ensures)
    (put_written_is c.clone.result (codes "compressor") _ (members_view c.put_written-3.new.members.entries) _ c.in_ok-put_written-4.ensures.written c.in_ok-put_written-4.ensures.put (MatchResult-weaker c.clone.result c.clone.ensures.cases (λ v h. h) (λ e h. tt)))
    (put_written_is c.to_value-2.result (codes "fill_value") _ (members_view c.put_written-4.new.members.entries) _ c.in_ok-put_written-5.ensures.written c.in_ok-put_written-5.ensures.put c.to_value-2.ensures)
    (put_written_is c.to_value-3.result (codes "order") _ (members_view c.put_written-5.new.members.entries) _ c.in_ok-put_written-6.ensures.written c.in_ok-put_written-6.ensures.put c.to_value-3.ensures)
    (put_written_is c.clone-2.result (codes "filters") _ (members_view c.put_written-6.new.members.entries) _ c.in_ok-put_written-7.ensures.written c.in_ok-put_written-7.ensures.put (MatchResult-weaker c.clone-2.result c.clone-2.ensures.cases (λ v h. h) (λ e h. tt)))
    (put_written_is c.to_value-separator.result (codes "dimension_separator") _ (members_view c.put_written-7.new.members.entries) _ c.in_ok-put_written-8.ensures.written c.in_ok-put_written-8.ensures.put c.to_value-separator.ensures.written)
    c.in_ok-put_member-2.ensures.put
