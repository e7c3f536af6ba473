use Rattle.std.proofs.Common.{sym, refl}
use Rattle.zarrs_metadata_v3.specs.Document.{document_from}
use Rattle.zarrs_metadata_v3.specs.Refusals.{metadata_error_of}
use Rattle.zarrs_metadata_v3.specs.View.{document_view}
use Rattle.zarrs_metadata_v3.proofs.RefusalLaws.{refuses_nothing, reads_refused}
use Rattle.zarrs_metadata_v3.proofs.reading.Parts.read_array.Goals as goal

pub returns-in_err-check_array : goal.returns-in_err-check_array
returns-in_err-check_array c = λ ms are rest.
    reads_refused document_view (document_from ms) c.from_residual.result c.in_err-check_array.field-0.0 c.from_residual.ensures.1
    (refuses_nothing (document_from ms) (metadata_error_of c.in_err-check_array.field-0.0) (rw (sym (c.in_err-check_array.ensures ms are)) refl))
