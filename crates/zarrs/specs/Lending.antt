-- Arrays whose attributes are lent.
use Rattle.std.proofs.Common.{ap, ◌∙◌}
use Rattle.std.specs.Borrow.{Lends, MutBor, Fml, RattleType}
use Rattle.std.specs.Result.{result_ok}
use Rattle.serde_json.specs.Rows.{map_row}
use Rattle.serde_json.specs.View.{members_view}
use Rattle.zarrs_metadata_v3.specs.View.{document_view}
use Rattle.zarrs_metadata_v2.specs.View.{document_v2_view}
use Rattle.zarrs_metadata.specs.Versions.{metadata_view}
use Rattle.zarrs_metadata.specs.declared.versions.ArrayMetadata.{ArrayMetadata}
use Rattle.zarrs_metadata.specs.declared.versions.ArrayMetadata.TheVariants.{V3, V2}
use Rattle.zarrs_creation.specs.Meanings.{Meaning, Says}
use Rattle.zarrs_creation.proofs.Names.{attributes_of_v3_say_nothing, attributes_say_nothing}
use Rattle.zarrs.specs.declared.array.Array.{Array}
use Rattle.zarrs.specs.contracts.array.Array.{the_row}
use Rattle.zarrs_metadata.specs.contracts.versions.ArrayMetadata.{the_row as metadata_row}

-- the metadata with these attributes
abbrev pub with_attributes : ArrayMetadata → map_row.Denot → ArrayMetadata
with_attributes (V3 m) attributes = V3 (record m { attributes = attributes })
with_attributes (V2 m) attributes = V2 (record m { attributes = attributes })

-- once the borrow ends, the metadata has the attributes last left behind it, and else what it had
abbrev pub LendsAttributesIn : MutBor ArrayMetadata → MutBor map_row.Denot → Fml
LendsAttributesIn metadata attributes = Lends metadata_row map_row metadata attributes (with_attributes metadata.now)

-- no part of an array is made of its attributes
pub still_says : (m : ArrayMetadata) (attributes : map_row.Denot) (parts : Meaning)
    → Says (metadata_view m) parts
    → Says (metadata_view (with_attributes m attributes)) parts
still_says (V3 m) attributes parts says = ap result_ok (attributes_of_v3_say_nothing (document_view m) (members_view attributes.entries)) ∙ says
still_says (V2 m) attributes parts says = ap result_ok (attributes_say_nothing (document_v2_view m) (members_view attributes.entries)) ∙ says

module _ {S : Type 0} where
  -- the array with these attributes
  abbrev pub attributed : Array S → map_row.Denot → Array S
  attributed array attributes = record {
    engine = array.engine;
    metadata = with_attributes array.metadata attributes;
    codec_options = array.codec_options;
    codec_specific_options = array.codec_specific_options;
    metadata_options = array.metadata_options;
    agrees = still_says array.metadata attributes _ array.agrees;
  }

-- once the borrow ends, the array has the attributes last left behind it, and else what it had
abbrev pub LendsAttributes : (S : RattleType) → MutBor (Array S.Denot) → MutBor map_row.Denot → Fml
LendsAttributes S array attributes = Lends (the_row S) map_row array attributes (attributed array.now)
