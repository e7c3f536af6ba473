-- The metadata of the codec `sharding_indexed`: the configuration that says it, and what is written.
use Rattle.std.specs.Prelude.{ℕ, Bool, true, false, List, [], ◌∷◌, codes, ◌&&◌, if◌then◌else◌, Option, Some, None, option_and_then}
use Rattle.std.specs.Str.{bytes_eq}
use Rattle.serde_json.specs.Data.{Data, string, Members, no_members, member}
use Rattle.serde_json.specs.Find.{get_member, as_str}
use Rattle.zarrs_metadata_parts.specs.Extension.{ExtensionData, extension_of, extension_data, ◌>>=◌}
use Rattle.zarrs_metadata_parts.specs.Lists.{list_of, list_data, number_data, size_said}
use Rattle.zarrs_metadata_parts.specs.Members.{has_only}
use Rattle.zarrs_codec_leaf.specs.declared.bytes_codec.Endianness.TheVariants.{Little}
use Rattle.zarrs_codec_optional.specs.BytesMetadata.{are_little_bytes, extension_of_bytes}
use Rattle.zarrs_codec_optional.specs.Sole.{list_of_one}

-- what a configuration says: the shape of the subchunks, whether the index stands at the start, and the extension points
-- of the chain of the subchunks
pub record ShardingData : Type 0 where
  pub chunk_shape : List ℕ
  pub at_start : Bool
  pub codecs : List ExtensionData

-- ---- what metadata says

-- whether the index stands at the start: an absent member says that it stands at the end
abbrev pub location_named : List ℕ → Option Bool
location_named text = if bytes_eq text (codes "start") then Some true else (if bytes_eq text (codes "end") then Some false else None)

abbrev pub location_said : Option Data → Option Bool
location_said None = Some false
location_said (Some value) = option_and_then location_named (as_str value)

abbrev pub sharding_names : List (List ℕ)
sharding_names = codes "chunk_shape" ∷ codes "codecs" ∷ codes "index_codecs" ∷ codes "index_location" ∷ []

-- the configuration of these parts
abbrev pub sharding_from : Option Bool → Option (List ℕ) → Option (List ExtensionData) → Option ShardingData
sharding_from at_start chunk_shape codecs = do
  location ← at_start
  sizes ← chunk_shape
  list ← codecs
  Some (record { chunk_shape = sizes; at_start = location; codecs = list })

-- what a configuration says
abbrev pub sharding_data : Members → Option ShardingData
sharding_data ms =
    if has_only sharding_names ms && are_little_bytes (get_member (codes "index_codecs") ms)
    then sharding_from (location_said (get_member (codes "index_location") ms)) (option_and_then (list_of size_said) (get_member (codes "chunk_shape") ms))
    (option_and_then (list_of extension_of) (get_member (codes "codecs") ms)) else None

-- ---- what is written

abbrev pub location_name : Bool → List ℕ
location_name true = codes "start"
location_name false = codes "end"

-- the location of the index is written always
abbrev pub sharding_extension : ShardingData → ExtensionData
sharding_extension d = record {
  name = codes "sharding_indexed";
  configuration = Some
      (member (codes "chunk_shape") (list_data number_data d.chunk_shape)
      (member (codes "codecs") (list_data extension_data d.codecs)
      (member (codes "index_codecs") (list_of_one (extension_of_bytes (Some Little)))
      (member (codes "index_location") (string (location_name d.at_start)) no_members))));
  must_understand = true;
}
