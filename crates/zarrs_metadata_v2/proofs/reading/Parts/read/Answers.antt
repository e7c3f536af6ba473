use Rattle.std.proofs.Common.{ap, ◌∙◌, option_map, option_and_then}
use Rattle.serde_json.specs.Find.{as_str}
use Rattle.serde_json.specs.View.{view}
use Rattle.zarrs_metadata_parts.specs.Lists.{numbers_of, list_of, size_said}
use Rattle.zarrs_metadata_v3.specs.Members.{members_in}
use Rattle.zarrs_metadata_v3.specs.Refusals.{metadata_error_of}
use Rattle.zarrs_metadata_v3.proofs.RefusalLaws.{refuses_on, reads_refused}
use Rattle.zarrs_metadata_v3.proofs.PartsLemmas.{taken_member}
use Rattle.zarrs_metadata_v2.specs.Document.{document_v2_in, chunk_order_of, dimension_separator_in}
use Rattle.zarrs_metadata_v2.specs.View.{document_v2_view}
use Rattle.zarrs_metadata_v2.proofs.DocumentLaws.{document_in_all}
use Rattle.zarrs_metadata_v2.proofs.ReadingLaws.{without_shape, without_chunks, without_dtype, without_compressor, without_fill_value, without_order, without_filters, without_dimension_separator, without_attributes}
use Rattle.zarrs_metadata_v2.proofs.reading.Parts.read.Goals as goal

pub returns-in_err-numbers_in : goal.returns-in_err-numbers_in
returns-in_err-numbers_in c = λ ms are.
    reads_refused document_v2_view (document_v2_in ms) c.from_residual.result c.in_err-numbers_in.field-0.0 c.from_residual.ensures.1
    (refuses_on (option_and_then numbers_of (option_map view c.take.result)) (document_v2_in ms) (metadata_error_of c.in_err-numbers_in.field-0.0) (λ none. without_shape ms (ap (option_and_then numbers_of) (taken_member are.shape c.take.ensures.value) ∙ none)) c.in_err-numbers_in.ensures.read)

pub returns-in_err-sizes_in : goal.returns-in_err-sizes_in
returns-in_err-sizes_in c = λ ms are.
    reads_refused document_v2_view (document_v2_in ms) c.from_residual-in_err-sizes_in.result c.in_err-sizes_in.field-0.0 c.from_residual-in_err-sizes_in.ensures.1
    (refuses_on (option_and_then (list_of size_said) (option_map view c.take-2.result)) (document_v2_in ms) (metadata_error_of c.in_err-sizes_in.field-0.0) (λ none. without_chunks ms (ap (option_and_then numbers_of) (taken_member are.shape c.take.ensures.value) ∙ c.in_ok-numbers_in.ensures.read) (ap (option_and_then (list_of size_said)) (taken_member are.chunks c.take-2.ensures.value) ∙ none)) c.in_err-sizes_in.ensures)

pub returns-in_err-data_type_in : goal.returns-in_err-data_type_in
returns-in_err-data_type_in c = λ ms are.
    reads_refused document_v2_view (document_v2_in ms) c.from_residual-in_err-data_type_in.result c.in_err-data_type_in.field-0.0 c.from_residual-in_err-data_type_in.ensures.1
    (refuses_on (option_and_then as_str (option_map view c.take-3.result)) (document_v2_in ms) (metadata_error_of c.in_err-data_type_in.field-0.0) (λ none. without_dtype ms (ap (option_and_then numbers_of) (taken_member are.shape c.take.ensures.value) ∙ c.in_ok-numbers_in.ensures.read) (ap (option_and_then (list_of size_said)) (taken_member are.chunks c.take-2.ensures.value) ∙ c.in_ok-sizes_in.ensures) (ap (option_and_then as_str) (taken_member are.dtype c.take-3.ensures.value) ∙ none)) c.in_err-data_type_in.ensures)

pub returns-in_err-present : goal.returns-in_err-present
returns-in_err-present c = λ ms are.
    reads_refused document_v2_view (document_v2_in ms) c.from_residual-in_err-present.result c.in_err-present.field-0.0 c.from_residual-in_err-present.ensures.1
    (refuses_on (option_map view c.take-4.result) (document_v2_in ms) (metadata_error_of c.in_err-present.field-0.0) (λ none. without_compressor ms (ap (option_and_then numbers_of) (taken_member are.shape c.take.ensures.value) ∙ c.in_ok-numbers_in.ensures.read) (ap (option_and_then (list_of size_said)) (taken_member are.chunks c.take-2.ensures.value) ∙ c.in_ok-sizes_in.ensures) (ap (option_and_then as_str) (taken_member are.dtype c.take-3.ensures.value) ∙ c.in_ok-data_type_in.ensures) ((taken_member are.compressor c.take-4.ensures.value) ∙ none)) c.in_err-present.ensures.read)

pub returns-in_err-fill_value_in : goal.returns-in_err-fill_value_in
returns-in_err-fill_value_in c = λ ms are.
    reads_refused document_v2_view (document_v2_in ms) c.from_residual-in_err-fill_value_in.result c.in_err-fill_value_in.field-0.0 c.from_residual-in_err-fill_value_in.ensures.1
    (refuses_on (option_map view c.take-5.result) (document_v2_in ms) (metadata_error_of c.in_err-fill_value_in.field-0.0) (λ none. without_fill_value ms (ap (option_and_then numbers_of) (taken_member are.shape c.take.ensures.value) ∙ c.in_ok-numbers_in.ensures.read) (ap (option_and_then (list_of size_said)) (taken_member are.chunks c.take-2.ensures.value) ∙ c.in_ok-sizes_in.ensures) (ap (option_and_then as_str) (taken_member are.dtype c.take-3.ensures.value) ∙ c.in_ok-data_type_in.ensures) ((taken_member are.compressor c.take-4.ensures.value) ∙ c.in_ok-present.ensures.read) ((taken_member are.fill_value c.take-5.ensures.value) ∙ none)) c.in_err-fill_value_in.ensures.read)

pub returns-in_err-order_in : goal.returns-in_err-order_in
returns-in_err-order_in c = λ ms are.
    reads_refused document_v2_view (document_v2_in ms) c.from_residual-in_err-order_in.result c.in_err-order_in.field-0.0 c.from_residual-in_err-order_in.ensures.1
    (refuses_on (option_and_then chunk_order_of (option_map view c.take-6.result)) (document_v2_in ms) (metadata_error_of c.in_err-order_in.field-0.0) (λ none. without_order ms (ap (option_and_then numbers_of) (taken_member are.shape c.take.ensures.value) ∙ c.in_ok-numbers_in.ensures.read) (ap (option_and_then (list_of size_said)) (taken_member are.chunks c.take-2.ensures.value) ∙ c.in_ok-sizes_in.ensures) (ap (option_and_then as_str) (taken_member are.dtype c.take-3.ensures.value) ∙ c.in_ok-data_type_in.ensures) ((taken_member are.compressor c.take-4.ensures.value) ∙ c.in_ok-present.ensures.read) ((taken_member are.fill_value c.take-5.ensures.value) ∙ c.in_ok-fill_value_in.ensures.read) (ap (option_and_then chunk_order_of) (taken_member are.order c.take-6.ensures.value) ∙ none)) c.in_err-order_in.ensures)

pub returns-in_err-present-2 : goal.returns-in_err-present-2
returns-in_err-present-2 c = λ ms are.
    reads_refused document_v2_view (document_v2_in ms) c.from_residual-in_err-present-2.result c.in_err-present-2.field-0.0 c.from_residual-in_err-present-2.ensures.1
    (refuses_on (option_map view c.take-7.result) (document_v2_in ms) (metadata_error_of c.in_err-present-2.field-0.0) (λ none. without_filters ms (ap (option_and_then numbers_of) (taken_member are.shape c.take.ensures.value) ∙ c.in_ok-numbers_in.ensures.read) (ap (option_and_then (list_of size_said)) (taken_member are.chunks c.take-2.ensures.value) ∙ c.in_ok-sizes_in.ensures) (ap (option_and_then as_str) (taken_member are.dtype c.take-3.ensures.value) ∙ c.in_ok-data_type_in.ensures) ((taken_member are.compressor c.take-4.ensures.value) ∙ c.in_ok-present.ensures.read) ((taken_member are.fill_value c.take-5.ensures.value) ∙ c.in_ok-fill_value_in.ensures.read) (ap (option_and_then chunk_order_of) (taken_member are.order c.take-6.ensures.value) ∙ c.in_ok-order_in.ensures) ((taken_member are.filters c.take-7.ensures.value) ∙ none)) c.in_err-present-2.ensures.read)

pub returns-in_err-dimension_separator_in : goal.returns-in_err-dimension_separator_in
returns-in_err-dimension_separator_in c = λ ms are.
    reads_refused document_v2_view (document_v2_in ms) c.from_residual-in_err-dimension_separator_in.result c.in_err-dimension_separator_in.field-0.0 c.from_residual-in_err-dimension_separator_in.ensures.1
    (refuses_on (dimension_separator_in (option_map view c.take-8.result)) (document_v2_in ms) (metadata_error_of c.in_err-dimension_separator_in.field-0.0) (λ none. without_dimension_separator ms (ap (option_and_then numbers_of) (taken_member are.shape c.take.ensures.value) ∙ c.in_ok-numbers_in.ensures.read) (ap (option_and_then (list_of size_said)) (taken_member are.chunks c.take-2.ensures.value) ∙ c.in_ok-sizes_in.ensures) (ap (option_and_then as_str) (taken_member are.dtype c.take-3.ensures.value) ∙ c.in_ok-data_type_in.ensures) ((taken_member are.compressor c.take-4.ensures.value) ∙ c.in_ok-present.ensures.read) ((taken_member are.fill_value c.take-5.ensures.value) ∙ c.in_ok-fill_value_in.ensures.read) (ap (option_and_then chunk_order_of) (taken_member are.order c.take-6.ensures.value) ∙ c.in_ok-order_in.ensures) ((taken_member are.filters c.take-7.ensures.value) ∙ c.in_ok-present-2.ensures.read) (ap (dimension_separator_in) (taken_member are.dimension_separator c.take-8.ensures.value) ∙ none)) c.in_err-dimension_separator_in.ensures)

pub returns-in_err-attributes_in : goal.returns-in_err-attributes_in
returns-in_err-attributes_in c = λ ms are.
    reads_refused document_v2_view (document_v2_in ms) c.from_residual-in_err-attributes_in.result c.in_err-attributes_in.field-0.0 c.from_residual-in_err-attributes_in.ensures.1
    (refuses_on (members_in (option_map view c.take-9.result)) (document_v2_in ms) (metadata_error_of c.in_err-attributes_in.field-0.0) (λ none. without_attributes ms (ap (option_and_then numbers_of) (taken_member are.shape c.take.ensures.value) ∙ c.in_ok-numbers_in.ensures.read) (ap (option_and_then (list_of size_said)) (taken_member are.chunks c.take-2.ensures.value) ∙ c.in_ok-sizes_in.ensures) (ap (option_and_then as_str) (taken_member are.dtype c.take-3.ensures.value) ∙ c.in_ok-data_type_in.ensures) ((taken_member are.compressor c.take-4.ensures.value) ∙ c.in_ok-present.ensures.read) ((taken_member are.fill_value c.take-5.ensures.value) ∙ c.in_ok-fill_value_in.ensures.read) (ap (option_and_then chunk_order_of) (taken_member are.order c.take-6.ensures.value) ∙ c.in_ok-order_in.ensures) ((taken_member are.filters c.take-7.ensures.value) ∙ c.in_ok-present-2.ensures.read) (ap (dimension_separator_in) (taken_member are.dimension_separator c.take-8.ensures.value) ∙ c.in_ok-dimension_separator_in.ensures) (ap (members_in) (taken_member are.attributes c.take-9.ensures.value) ∙ none)) c.in_err-attributes_in.ensures.read)

pub returns : goal.returns
returns c = λ ms are. document_in_all ms _ (ap (option_and_then numbers_of) (taken_member are.shape c.take.ensures.value) ∙ c.in_ok-numbers_in.ensures.read) (ap (option_and_then (list_of size_said)) (taken_member are.chunks c.take-2.ensures.value) ∙ c.in_ok-sizes_in.ensures) (ap (option_and_then as_str) (taken_member are.dtype c.take-3.ensures.value) ∙ c.in_ok-data_type_in.ensures) ((taken_member are.compressor c.take-4.ensures.value) ∙ c.in_ok-present.ensures.read) ((taken_member are.fill_value c.take-5.ensures.value) ∙ c.in_ok-fill_value_in.ensures.read) (ap (option_and_then chunk_order_of) (taken_member are.order c.take-6.ensures.value) ∙ c.in_ok-order_in.ensures) ((taken_member are.filters c.take-7.ensures.value) ∙ c.in_ok-present-2.ensures.read) (ap (dimension_separator_in) (taken_member are.dimension_separator c.take-8.ensures.value) ∙ c.in_ok-dimension_separator_in.ensures) (ap (members_in) (taken_member are.attributes c.take-9.ensures.value) ∙ c.in_ok-attributes_in.ensures.read)
