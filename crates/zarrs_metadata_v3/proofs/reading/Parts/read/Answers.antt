use Rattle.std.proofs.Common.{sym, ap, ◌∙◌, option_map, option_and_then}
use Rattle.serde_json.specs.View.{view}
use Rattle.zarrs_metadata_parts.specs.Lists.{numbers_of}
use Rattle.zarrs_metadata_parts.specs.Extension.{extension_of}
use Rattle.zarrs_metadata_v3.specs.Members.{list_in, members_in}
use Rattle.zarrs_metadata_v3.specs.Fields.{fields_of}
use Rattle.zarrs_metadata_v3.specs.Document.{document_in, transformers_in, names_in}
use Rattle.zarrs_metadata_v3.specs.Refusals.{metadata_error_of}
use Rattle.zarrs_metadata_v3.specs.View.{document_view}
use Rattle.zarrs_metadata_v3.proofs.DocumentLaws.{document_in_all}
use Rattle.zarrs_metadata_v3.proofs.ReadingLaws.{without_shape, without_data_type, without_chunk_grid, without_chunk_key_encoding, without_fill_value, without_codecs, without_attributes, without_storage_transformers, without_dimension_names}
use Rattle.zarrs_metadata_v3.proofs.PartsLemmas.{taken_member}
use Rattle.zarrs_metadata_v3.proofs.RefusalLaws.{refuses_on, reads_refused}
use Rattle.zarrs_metadata_v3.proofs.reading.Parts.read.Goals as goal

pub returns-in_err-numbers_in : goal.returns-in_err-numbers_in
returns-in_err-numbers_in c = λ ms are rest.
    reads_refused document_view (document_in ms) c.from_residual.result c.in_err-numbers_in.field-0.0 c.from_residual.ensures.1
    (refuses_on (option_and_then numbers_of (option_map view c.take.result)) (document_in ms) (metadata_error_of c.in_err-numbers_in.field-0.0) (λ none. without_shape ms (ap (option_and_then numbers_of) (taken_member are.shape c.take.ensures.value) ∙ none)) c.in_err-numbers_in.ensures.read)

pub returns-in_err-extension_in : goal.returns-in_err-extension_in
returns-in_err-extension_in c = λ ms are rest.
    reads_refused document_view (document_in ms) c.from_residual-in_err-extension_in.result c.in_err-extension_in.field-0.0 c.from_residual-in_err-extension_in.ensures.1
    (refuses_on (option_and_then extension_of (option_map view c.take-2.result)) (document_in ms) (metadata_error_of c.in_err-extension_in.field-0.0) (λ none. without_data_type ms (ap (option_and_then numbers_of) (taken_member are.shape c.take.ensures.value) ∙ c.in_ok-numbers_in.ensures.read) (ap (option_and_then extension_of) (taken_member are.data_type c.take-2.ensures.value) ∙ none)) c.in_err-extension_in.ensures)

pub returns-in_err-extension_in-2 : goal.returns-in_err-extension_in-2
returns-in_err-extension_in-2 c = λ ms are rest.
    reads_refused document_view (document_in ms) c.from_residual-in_err-extension_in-2.result c.in_err-extension_in-2.field-0.0 c.from_residual-in_err-extension_in-2.ensures.1
    (refuses_on (option_and_then extension_of (option_map view c.take-3.result)) (document_in ms) (metadata_error_of c.in_err-extension_in-2.field-0.0) (λ none. without_chunk_grid ms (ap (option_and_then numbers_of) (taken_member are.shape c.take.ensures.value) ∙ c.in_ok-numbers_in.ensures.read) (ap (option_and_then extension_of) (taken_member are.data_type c.take-2.ensures.value) ∙ c.in_ok-extension_in.ensures) (ap (option_and_then extension_of) (taken_member are.chunk_grid c.take-3.ensures.value) ∙ none)) c.in_err-extension_in-2.ensures)

pub returns-in_err-extension_in-3 : goal.returns-in_err-extension_in-3
returns-in_err-extension_in-3 c = λ ms are rest.
    reads_refused document_view (document_in ms) c.from_residual-in_err-extension_in-3.result c.in_err-extension_in-3.field-0.0 c.from_residual-in_err-extension_in-3.ensures.1
    (refuses_on (option_and_then extension_of (option_map view c.take-4.result)) (document_in ms) (metadata_error_of c.in_err-extension_in-3.field-0.0) (λ none. without_chunk_key_encoding ms (ap (option_and_then numbers_of) (taken_member are.shape c.take.ensures.value) ∙ c.in_ok-numbers_in.ensures.read) (ap (option_and_then extension_of) (taken_member are.data_type c.take-2.ensures.value) ∙ c.in_ok-extension_in.ensures) (ap (option_and_then extension_of) (taken_member are.chunk_grid c.take-3.ensures.value) ∙ c.in_ok-extension_in-2.ensures) (ap (option_and_then extension_of) (taken_member are.chunk_key_encoding c.take-4.ensures.value) ∙ none)) c.in_err-extension_in-3.ensures)

pub returns-in_err-fill_value_in : goal.returns-in_err-fill_value_in
returns-in_err-fill_value_in c = λ ms are rest.
    reads_refused document_view (document_in ms) c.from_residual-in_err-fill_value_in.result c.in_err-fill_value_in.field-0.0 c.from_residual-in_err-fill_value_in.ensures.1
    (refuses_on (option_map view c.take-5.result) (document_in ms) (metadata_error_of c.in_err-fill_value_in.field-0.0) (λ none. without_fill_value ms (ap (option_and_then numbers_of) (taken_member are.shape c.take.ensures.value) ∙ c.in_ok-numbers_in.ensures.read) (ap (option_and_then extension_of) (taken_member are.data_type c.take-2.ensures.value) ∙ c.in_ok-extension_in.ensures) (ap (option_and_then extension_of) (taken_member are.chunk_grid c.take-3.ensures.value) ∙ c.in_ok-extension_in-2.ensures) (ap (option_and_then extension_of) (taken_member are.chunk_key_encoding c.take-4.ensures.value) ∙ c.in_ok-extension_in-3.ensures) ((taken_member are.fill_value c.take-5.ensures.value) ∙ none)) c.in_err-fill_value_in.ensures.read)

pub returns-in_err-extensions_in : goal.returns-in_err-extensions_in
returns-in_err-extensions_in c = λ ms are rest.
    reads_refused document_view (document_in ms) c.from_residual-in_err-extensions_in.result c.in_err-extensions_in.field-0.0 c.from_residual-in_err-extensions_in.ensures.1
    (refuses_on (list_in extension_of (option_map view c.take-6.result)) (document_in ms) (metadata_error_of c.in_err-extensions_in.field-0.0) (λ none. without_codecs ms (ap (option_and_then numbers_of) (taken_member are.shape c.take.ensures.value) ∙ c.in_ok-numbers_in.ensures.read) (ap (option_and_then extension_of) (taken_member are.data_type c.take-2.ensures.value) ∙ c.in_ok-extension_in.ensures) (ap (option_and_then extension_of) (taken_member are.chunk_grid c.take-3.ensures.value) ∙ c.in_ok-extension_in-2.ensures) (ap (option_and_then extension_of) (taken_member are.chunk_key_encoding c.take-4.ensures.value) ∙ c.in_ok-extension_in-3.ensures) ((taken_member are.fill_value c.take-5.ensures.value) ∙ c.in_ok-fill_value_in.ensures.read) (ap (list_in extension_of) (taken_member are.codecs c.take-6.ensures.value) ∙ none)) c.in_err-extensions_in.ensures)

pub returns-in_err-attributes_in : goal.returns-in_err-attributes_in
returns-in_err-attributes_in c = λ ms are rest.
    reads_refused document_view (document_in ms) c.from_residual-in_err-attributes_in.result c.in_err-attributes_in.field-0.0 c.from_residual-in_err-attributes_in.ensures.1
    (refuses_on (members_in (option_map view c.take-7.result)) (document_in ms) (metadata_error_of c.in_err-attributes_in.field-0.0) (λ none. without_attributes ms (ap (option_and_then numbers_of) (taken_member are.shape c.take.ensures.value) ∙ c.in_ok-numbers_in.ensures.read) (ap (option_and_then extension_of) (taken_member are.data_type c.take-2.ensures.value) ∙ c.in_ok-extension_in.ensures) (ap (option_and_then extension_of) (taken_member are.chunk_grid c.take-3.ensures.value) ∙ c.in_ok-extension_in-2.ensures) (ap (option_and_then extension_of) (taken_member are.chunk_key_encoding c.take-4.ensures.value) ∙ c.in_ok-extension_in-3.ensures) ((taken_member are.fill_value c.take-5.ensures.value) ∙ c.in_ok-fill_value_in.ensures.read) (ap (list_in extension_of) (taken_member are.codecs c.take-6.ensures.value) ∙ c.in_ok-extensions_in.ensures) (ap (members_in) (taken_member are.attributes c.take-7.ensures.value) ∙ none)) c.in_err-attributes_in.ensures.read)

pub returns-in_err-transformers_in : goal.returns-in_err-transformers_in
returns-in_err-transformers_in c = λ ms are rest.
    reads_refused document_view (document_in ms) c.from_residual-in_err-transformers_in.result c.in_err-transformers_in.field-0.0 c.from_residual-in_err-transformers_in.ensures.1
    (refuses_on (transformers_in (option_map view c.take-8.result)) (document_in ms) (metadata_error_of c.in_err-transformers_in.field-0.0) (λ none. without_storage_transformers ms (ap (option_and_then numbers_of) (taken_member are.shape c.take.ensures.value) ∙ c.in_ok-numbers_in.ensures.read) (ap (option_and_then extension_of) (taken_member are.data_type c.take-2.ensures.value) ∙ c.in_ok-extension_in.ensures) (ap (option_and_then extension_of) (taken_member are.chunk_grid c.take-3.ensures.value) ∙ c.in_ok-extension_in-2.ensures) (ap (option_and_then extension_of) (taken_member are.chunk_key_encoding c.take-4.ensures.value) ∙ c.in_ok-extension_in-3.ensures) ((taken_member are.fill_value c.take-5.ensures.value) ∙ c.in_ok-fill_value_in.ensures.read) (ap (list_in extension_of) (taken_member are.codecs c.take-6.ensures.value) ∙ c.in_ok-extensions_in.ensures) (ap (members_in) (taken_member are.attributes c.take-7.ensures.value) ∙ c.in_ok-attributes_in.ensures.read) (ap (transformers_in) (taken_member are.storage_transformers c.take-8.ensures.value) ∙ none)) c.in_err-transformers_in.ensures)

pub returns-in_err-names_in : goal.returns-in_err-names_in
returns-in_err-names_in c = λ ms are rest.
    reads_refused document_view (document_in ms) c.from_residual-in_err-names_in.result c.in_err-names_in.field-0.0 c.from_residual-in_err-names_in.ensures.1
    (refuses_on (names_in (option_map view c.take-9.result)) (document_in ms) (metadata_error_of c.in_err-names_in.field-0.0) (λ none. without_dimension_names ms (ap (option_and_then numbers_of) (taken_member are.shape c.take.ensures.value) ∙ c.in_ok-numbers_in.ensures.read) (ap (option_and_then extension_of) (taken_member are.data_type c.take-2.ensures.value) ∙ c.in_ok-extension_in.ensures) (ap (option_and_then extension_of) (taken_member are.chunk_grid c.take-3.ensures.value) ∙ c.in_ok-extension_in-2.ensures) (ap (option_and_then extension_of) (taken_member are.chunk_key_encoding c.take-4.ensures.value) ∙ c.in_ok-extension_in-3.ensures) ((taken_member are.fill_value c.take-5.ensures.value) ∙ c.in_ok-fill_value_in.ensures.read) (ap (list_in extension_of) (taken_member are.codecs c.take-6.ensures.value) ∙ c.in_ok-extensions_in.ensures) (ap (members_in) (taken_member are.attributes c.take-7.ensures.value) ∙ c.in_ok-attributes_in.ensures.read) (ap (transformers_in) (taken_member are.storage_transformers c.take-8.ensures.value) ∙ c.in_ok-transformers_in.ensures) (ap (names_in) (taken_member are.dimension_names c.take-9.ensures.value) ∙ none)) c.in_err-names_in.ensures)

pub returns : goal.returns
returns c = λ ms are rest. document_in_all ms _ (ap (option_and_then numbers_of) (taken_member are.shape c.take.ensures.value) ∙ c.in_ok-numbers_in.ensures.read) (ap (option_and_then extension_of) (taken_member are.data_type c.take-2.ensures.value) ∙ c.in_ok-extension_in.ensures) (ap (option_and_then extension_of) (taken_member are.chunk_grid c.take-3.ensures.value) ∙ c.in_ok-extension_in-2.ensures) (ap (option_and_then extension_of) (taken_member are.chunk_key_encoding c.take-4.ensures.value) ∙ c.in_ok-extension_in-3.ensures) ((taken_member are.fill_value c.take-5.ensures.value) ∙ c.in_ok-fill_value_in.ensures.read) (ap (list_in extension_of) (taken_member are.codecs c.take-6.ensures.value) ∙ c.in_ok-extensions_in.ensures) (ap (members_in) (taken_member are.attributes c.take-7.ensures.value) ∙ c.in_ok-attributes_in.ensures.read) (ap (transformers_in) (taken_member are.storage_transformers c.take-8.ensures.value) ∙ c.in_ok-transformers_in.ensures) (ap (names_in) (taken_member are.dimension_names c.take-9.ensures.value) ∙ c.in_ok-names_in.ensures) (ap fields_of (sym rest) ∙ sym c.in_ok-read_fields.ensures)
