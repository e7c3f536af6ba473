-- The metadata of the codec `zarrs.vlen`: the configuration that says it, and what is written.
use Rattle.std.specs.Prelude.{ℕ, List, [], ◌∷◌, Bool, true, ◌&&◌, codes, Some}
use Rattle.serde_json.specs.Data.{string, Members, no_members, member}
use Rattle.serde_json.specs.Find.{get_member}
use Rattle.zarrs_metadata_parts.specs.Extension.{ExtensionData, named}
use Rattle.zarrs_metadata_parts.specs.Members.{has_only}
use Rattle.zarrs_codec_leaf.specs.declared.bytes_codec.Endianness.TheVariants.{Little}
use Rattle.zarrs_codec_optional.specs.BytesMetadata.{are_little_bytes, extension_of_bytes, is_plain_bytes}
use Rattle.zarrs_codec_optional.specs.Sole.{sole_codec, list_of_one}
use Rattle.zarrs_codec_optional.specs.Texts.{is_text, is_text_or_absent, passes}

abbrev pub vlen_names : List (List ℕ)
vlen_names = codes "index_data_type" ∷ codes "index_location" ∷ codes "index_codecs" ∷ codes "data_codecs" ∷ []

-- whether a configuration says the codec: an index of `uint64` at the start, by the codec `bytes`, little endian, and
-- the data by the codec `bytes` without configuration
abbrev pub vlen_said : Members → Bool
vlen_said ms =
    has_only vlen_names ms
    && (is_text (codes "uint64") (get_member (codes "index_data_type") ms)
    && (is_text_or_absent (codes "start") (get_member (codes "index_location") ms)
    && (are_little_bytes (get_member (codes "index_codecs") ms)
    && passes is_plain_bytes (sole_codec (get_member (codes "data_codecs") ms)))))

-- ---- what is written

-- the location of the index is left out
abbrev pub vlen_members : Members
vlen_members =
    member (codes "data_codecs") (list_of_one (named (codes "bytes")))
    (member (codes "index_codecs") (list_of_one (extension_of_bytes (Some Little))) (member (codes "index_data_type") (string (codes "uint64")) no_members))

abbrev pub extension_of_vlen : ExtensionData
extension_of_vlen = record { name = codes "zarrs.vlen"; configuration = Some vlen_members; must_understand = true }
