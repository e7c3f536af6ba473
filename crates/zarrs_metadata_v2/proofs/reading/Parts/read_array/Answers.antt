use Rattle.std.proofs.Common.{◌≡◌, false, codes, sym, ap, ◌∙◌, refl}
use Rattle.serde_json.specs.Find.{get_member}
use Rattle.zarrs_metadata_v3.specs.Members.{reads_as_number}
use Rattle.zarrs_metadata_v3.specs.Refusals.{metadata_error_of}
use Rattle.zarrs_metadata_v3.proofs.RefusalLaws.{refuses_nothing}
use Rattle.zarrs_metadata_v2.specs.Document.{document_v2_from}
use Rattle.zarrs_metadata_v2.proofs.reading.Parts.read_array.Goals as goal

pub returns-then-not-reads_as_number : goal.returns-then-not-reads_as_number
returns-then-not-reads_as_number c = λ ms are.
    let other : reads_as_number 2 (get_member (codes "zarr_format") ms) ≡ false = ap (reads_as_number 2) (sym are.zarr_format) ∙ sym c.reads_as_number.ensures ∙ c.if-not-reads_as_number.true in
    refuses_nothing (document_v2_from ms) (metadata_error_of c.fault.result) (rw other refl)
