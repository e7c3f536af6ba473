use Rattle.std.proofs.Common.{◌≡◌, ◌∙◌, refl, sym, subst}
use Rattle.zarrs_metadata.specs.Versions.{MetadataData, metadata_view}
use Rattle.zarrs_creation.specs.Meanings.{Meaning, meaning_with, Says}
use Rattle.zarrs.specs.Agreement.{meaning_of}
use Rattle.zarrs.specs.declared.array.Array.{Array}
use Rattle.zarrs.proofs.Layouts.{layout_of_parts}
use Rattle.zarrs.proofs.array.Array.with_storage.Goals as goal

pub returns-clause-copied : goal.returns-clause-copied
returns-clause-copied g c =
    let array = c.args.self.now in
    let engine = c.new-engine.result in
    let same = c.new-engine.ensures.parts in
    let copied = c.in_ok-metadata.metadata in
    let parts : meaning_of engine ≡ meaning_of array.engine = (λ i. meaning_with (same.grid i) (same.keys i) (same.chain i) (same.data_type i) (same.fill_value i)) ∙ c.in_ok-parts.ensures.parts in
    let path = same.path ∙ c.in_ok-path.ensures.cases ∙ c.path.ensures in
    let metadata : metadata_view copied ≡ metadata_view array.metadata = c.in_ok-metadata.ensures in
    let copy : Array g.row.TStorage2.Denot = record {
      engine = engine;
      metadata = copied;
      codec_options = array.codec_options;
      codec_specific_options = array.codec_specific_options;
      metadata_options = array.metadata_options;
      agrees = subst (λ (m : MetadataData). Says m (meaning_of engine)) (sym metadata) (subst (λ (p : Meaning). Says (metadata_view array.metadata) p) (sym parts) array.agrees);
    } in
    record {
      path = path;
      metadata = metadata;
      parts = parts;
      layout = layout_of_parts array copy path parts;
      codec_options = refl;
      codec_specific_options = refl;
      metadata_options = refl;
    }
