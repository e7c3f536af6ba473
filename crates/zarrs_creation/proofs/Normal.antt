-- A document and its normal form say the same parts.
use Rattle.std.proofs.Common.{◌≡◌, ◌-◌, ℕ, List, [], ◌∷◌, length, map, take, slice_get, Option, Some, None, option_map, option_and_then, refl, ap, ◌∙◌}
use Rattle.std.proofs.lemmas.List.{take-map, length-map}
use Rattle.std.proofs.lemmas.Option.{slice_get-map}
use Rattle.serde_json.specs.Data.{Members, no_members, member}
use Rattle.zarrs_metadata_parts.specs.Extension.{ExtensionData, settings, normal}
use Rattle.zarrs_chunk_grid.specs.Metadata.{grid_said}
use Rattle.zarrs_keys.specs.Metadata.{key_encoding_of}
use Rattle.zarrs_data_type.specs.TypeMetadata.{kind_of}
use Rattle.zarrs_codec_array.specs.Metadata.{array_codec_said}
use Rattle.zarrs_codec.specs.Metadata.{bytes_codec_said, array_codecs_said, chain_of_parts, chain_said}
use Rattle.zarrs_codec.specs.Configurations.{ChainData}
use Rattle.zarrs_options.specs.Options.{transformers_said}
use Rattle.zarrs_metadata_v3.specs.Document.{DocumentData, normal_document}
use Rattle.zarrs_creation.specs.Meanings.{creation_v3}

same_settings : (e : ExtensionData) → settings (normal e) ≡ settings e
same_settings e = go e.configuration refl
  where
    go : (o : Option Members) → e.configuration ≡ o → settings (normal e) ≡ settings e
    go None is = rw is refl
    go (Some no_members) is = rw is refl
    go (Some (member key d ms)) is = rw is refl

-- ---- chains

same_array_codec : (e : ExtensionData) → array_codec_said (normal e) ≡ array_codec_said e
same_array_codec e = rw (same_settings e) refl

same_bytes_codec : (e : ExtensionData) → bytes_codec_said (normal e) ≡ bytes_codec_said e
same_bytes_codec e = rw (same_settings e) refl

same_front : (es : List ExtensionData) → array_codecs_said (map normal es) ≡ array_codecs_said es
same_front [] = refl
same_front (e ∷ es) = rw (same_array_codec e, same_front es) refl

same_last : (o : Option ExtensionData) → option_and_then bytes_codec_said (option_map normal o) ≡ option_and_then bytes_codec_said o
same_last None = refl
same_last (Some e) = same_bytes_codec e

abbrev chain_at : ℕ → List ExtensionData → Option ChainData
chain_at n es = chain_of_parts (array_codecs_said (take (n - 1) es)) (option_and_then bytes_codec_said (slice_get es (n - 1)))

same_chain : (es : List ExtensionData) → chain_said (map normal es) ≡ chain_said es
same_chain es =
    let n = length es in
    let front : array_codecs_said (take (n - 1) (map normal es)) ≡ array_codecs_said (take (n - 1) es) = ap array_codecs_said (take-map normal (n - 1) es) ∙ same_front (take (n - 1) es) in
    let last : option_and_then bytes_codec_said (slice_get (map normal es) (n - 1)) ≡ option_and_then bytes_codec_said (slice_get es (n - 1)) =
    ap (λ o. option_and_then bytes_codec_said o) (slice_get-map normal es (n - 1)) ∙ same_last (slice_get es (n - 1)) in
    ap (λ k. chain_at k (map normal es)) (length-map es normal)
    ∙ ap (λ a. chain_of_parts a (option_and_then bytes_codec_said (slice_get (map normal es) (n - 1)))) front
    ∙ ap (λ b. chain_of_parts (array_codecs_said (take (n - 1) es)) b) last

-- ---- the other parts

same_transformers : (es : List ExtensionData) → transformers_said (map normal es) ≡ transformers_said es
same_transformers [] = refl
same_transformers (e ∷ es) = refl

same_kind : (e : ExtensionData) → kind_of (normal e) ≡ kind_of e
same_kind e = rw (same_settings e) refl

same_grid : (e : ExtensionData) (shape : List ℕ) → grid_said (normal e) shape ≡ grid_said e shape
same_grid e shape = rw (same_settings e) refl

same_keys : (e : ExtensionData) → key_encoding_of (normal e) ≡ key_encoding_of e
same_keys e = rw (same_settings e) refl

pub normal_says_the_same : (m : DocumentData) → creation_v3 (normal_document m) ≡ creation_v3 m
unfolding creation_v3
normal_says_the_same m = rw (same_chain m.codecs, same_kind m.data_type, same_grid m.chunk_grid m.shape, same_transformers m.storage_transformers, same_keys m.chunk_key_encoding) refl
