-- Metadata that is shown says the same parts: the names of extensions are main names or aliases of one meaning.
use Rattle.std.proofs.Common.{◌≡◌, ◌-◌, ℕ, List, [], ◌∷◌, length, map, take, slice_get, Bool, true, false, codes, bytes_eq, if◌then◌else◌, Option, Some, None, option_map, option_and_then, Result, Ok, Err, refl, ap, sym, subst, ◌∙◌, ◌==◌}
use Rattle.std.proofs.lemmas.List.{take-map, length-map}
use Rattle.std.proofs.lemmas.Option.{slice_get-map}
use Rattle.std.proofs.lemmas.Slice.Eq.{bytes_eq-Decides}
use Rattle.zarrs_metadata_parts.specs.Extension.{ExtensionData}
use Rattle.zarrs_metadata_v3.specs.Document.{DocumentData}
use Rattle.zarrs_metadata.specs.Conversion.{ConversionRefusal, no_type, no_fill_value, no_codecs, type_v2, fill_v3, is_uncompressed, converted, converted_with_fill, converted_with_type, to_v3}
use Rattle.serde_json.specs.Data.{Data, Members}
use Rattle.zarrs_metadata_v2.specs.Document.{DocumentV2Data}
use Rattle.zarrs_metadata.specs.Versions.{MetadataData, v3, v2}
use Rattle.zarrs_chunk_grid.specs.Metadata.{grid_said}
use Rattle.zarrs_keys.specs.Metadata.{key_encoding_of}
use Rattle.zarrs_data_type.specs.FillMetadata.{fill_said}
use Rattle.zarrs_data_type.specs.TypeMetadata.{kind_of}
use Rattle.zarrs_codec_array.specs.Metadata.{array_codec_said}
use Rattle.zarrs_codec.specs.Metadata.{bytes_codec_said, array_codecs_said, chain_of_parts, chain_said}
use Rattle.zarrs_codec.specs.Configurations.{ChainData}
use Rattle.zarrs_options.specs.Options.{MetadataOptionsData}
use Rattle.zarrs_options.specs.Refusals.{CreateRefusal, codecs, data_type, chunk_grid, fill_value_metadata, said_or}
use Rattle.zarrs_options.specs.declared.versions.MetadataConvertVersion.{MetadataConvertVersion}
use Rattle.zarrs_options.specs.declared.versions.MetadataConvertVersion.TheVariants as convert
use Rattle.zarrs_creation.specs.Meanings.{Meaning, not_converted, creation_v3, creation_by, creation_v2, creation, ◌>>=◌}
use Rattle.zarrs_creation.proofs.Openings.{goes_on}
use Rattle.zarrs_creation.specs.Shown.{shown_attributes, main_type_name, main_grid_name, main_encoding_name, main_codec_name, renamed, with_main_names, shown_v3, shown_as_v3, shown_version, shown}

-- ---- names

-- what is said by a main name and by its alias is said by any name that becomes the main one
one_name : {A : Type 0} (f : List ℕ → A) (alias main rest name : List ℕ) → f main ≡ f alias → f rest ≡ f name → f (if bytes_eq name alias then main else rest) ≡ f name
one_name f alias main rest name same others = go (bytes_eq name alias) refl
  where
    go : (b : Bool) → bytes_eq name alias ≡ b → f (if b then main else rest) ≡ f name
    go true is = same ∙ ap f (sym ((bytes_eq-Decides name alias).0 is))
    go false is = others

same_kind : (e : ExtensionData) → kind_of (renamed main_type_name e) ≡ kind_of e
same_kind e =
    let f = λ (name : List ℕ). kind_of (record e { name = name }) in
    one_name f (codes "variable_length_bytes") (codes "bytes") _ e.name refl (one_name f (codes "optional") (codes "zarrs.optional") e.name e.name refl refl)

same_grid : (e : ExtensionData) (shape : List ℕ) → grid_said (renamed main_grid_name e) shape ≡ grid_said e shape
same_grid e shape =
    one_name (λ (name : List ℕ). grid_said (record e { name = name }) shape) (codes "zarrs.regular_bounded") (codes "regular_bounded") e.name e.name refl refl

same_keys : (e : ExtensionData) → key_encoding_of (renamed main_encoding_name e) ≡ key_encoding_of e
same_keys e =
    one_name (λ (name : List ℕ). key_encoding_of (record e { name = name })) (codes "zarrs.default_suffix") (codes "default_suffix") e.name e.name refl refl

-- ---- chains

module _ {A : Type 0} (f : List ℕ → A) where
  same_codec : f (codes "reshape") ≡ f (codes "zarrs.reshape") → f (codes "squeeze") ≡ f (codes "zarrs.squeeze") → f (codes "zarrs.vlen") ≡ f (codes "vlen") → f (codes "zarrs.optional") ≡ f (codes "optional")
      → (name : List ℕ) → f (main_codec_name name) ≡ f name
  same_codec reshape squeeze vlen optional name =
      one_name f (codes "zarrs.reshape") (codes "reshape") _ name reshape
      (one_name f (codes "zarrs.squeeze") (codes "squeeze") _ name squeeze
      (one_name f (codes "vlen") (codes "zarrs.vlen") _ name vlen
      (one_name f (codes "optional") (codes "zarrs.optional") name name optional refl)))

same_array_codec : (e : ExtensionData) → array_codec_said (renamed main_codec_name e) ≡ array_codec_said e
same_array_codec e = same_codec (λ (name : List ℕ). array_codec_said (record e { name = name })) refl refl refl refl e.name

same_bytes_codec : (e : ExtensionData) → bytes_codec_said (renamed main_codec_name e) ≡ bytes_codec_said e
same_bytes_codec e = same_codec (λ (name : List ℕ). bytes_codec_said (record e { name = name })) refl refl refl refl e.name

abbrev main_codec : ExtensionData → ExtensionData
main_codec = renamed main_codec_name

same_front : (es : List ExtensionData) → array_codecs_said (map main_codec es) ≡ array_codecs_said es
same_front [] = refl
same_front (e ∷ es) = rw (same_array_codec e, same_front es) refl

same_last : (o : Option ExtensionData) → option_and_then bytes_codec_said (option_map main_codec o) ≡ option_and_then bytes_codec_said o
same_last None = refl
same_last (Some e) = same_bytes_codec e

abbrev chain_at : ℕ → List ExtensionData → Option ChainData
chain_at n es = chain_of_parts (array_codecs_said (take (n - 1) es)) (option_and_then bytes_codec_said (slice_get es (n - 1)))

same_chain : (es : List ExtensionData) → chain_said (map main_codec es) ≡ chain_said es
same_chain es =
    let n = length es in
    let front : array_codecs_said (take (n - 1) (map main_codec es)) ≡ array_codecs_said (take (n - 1) es) = ap array_codecs_said (take-map main_codec (n - 1) es) ∙ same_front (take (n - 1) es) in
    let last : option_and_then bytes_codec_said (slice_get (map main_codec es) (n - 1)) ≡ option_and_then bytes_codec_said (slice_get es (n - 1)) =
    ap (λ o. option_and_then bytes_codec_said o) (slice_get-map main_codec es (n - 1)) ∙ same_last (slice_get es (n - 1)) in
    ap (λ k. chain_at k (map main_codec es)) (length-map es main_codec)
    ∙ ap (λ a. chain_of_parts a (option_and_then bytes_codec_said (slice_get (map main_codec es) (n - 1)))) front
    ∙ ap (λ b. chain_of_parts (array_codecs_said (take (n - 1) es)) b) last

-- ---- documents

-- an accepted step of a creation, and what comes after it
pub record Accepted {A B : Type 0} (o : Result A CreateRefusal) (f : A → Result B CreateRefusal) (b : B) : Type 0 where
  pub value : A
  pub first : o ≡ Ok value
  pub rest : f value ≡ Ok b

pub accepted : {A B : Type 0} (o : Result A CreateRefusal) (f : A → Result B CreateRefusal) (b : B) → (o >>= f) ≡ Ok b → Accepted o f b
accepted (Ok a) f b is = record { value = a; first = refl; rest = is }
accepted (Err e) f b is = absurd cc

-- which refusal it would be does not matter to what is accepted
said_anyhow : {A : Type 0} (r s : CreateRefusal) (o : Option A) (a : A) → said_or r o ≡ Ok a → said_or s o ≡ Ok a
said_anyhow r s (Some b) a is = is
said_anyhow r s None a is = absurd cc

with_main_names_says : (m : DocumentData) (parts : Meaning) → creation_v3 m ≡ Ok parts → creation_v3 (with_main_names m) ≡ Ok parts
unfolding creation_v3
with_main_names_says m parts made =
    let chain = accepted (said_or codecs (chain_said m.codecs)) _ parts made in
    let kind = accepted (said_or data_type (kind_of m.data_type)) _ parts chain.rest in
    let grid = accepted (said_or chunk_grid (grid_said m.chunk_grid m.shape)) _ parts kind.rest in
    let fill = accepted (said_or (fill_value_metadata m.data_type.name m.fill_value) (fill_said kind.value m.fill_value)) _ parts grid.rest in
    goes_on _ _ chain.value parts (ap (said_or codecs) (same_chain m.codecs) ∙ chain.first)
    (goes_on _ _ kind.value parts (ap (said_or data_type) (same_kind m.data_type) ∙ kind.first)
    (goes_on _ _ grid.value parts (ap (said_or chunk_grid) (same_grid m.chunk_grid m.shape) ∙ grid.first)
    (goes_on _ _ fill.value parts (said_anyhow _ (fill_value_metadata (main_type_name m.data_type.name) m.fill_value) (fill_said kind.value m.fill_value) fill.value fill.first)
    (rw (same_keys m.chunk_key_encoding) fill.rest))))

shown_v3_says : (o : MetadataOptionsData) (m : DocumentData) (parts : Meaning) → creation_v3 m ≡ Ok parts → creation_v3 (shown_v3 o m) ≡ Ok parts
unfolding creation_v3
shown_v3_says o m parts made = go o.convert_aliased_extension_names refl
  where
    go : (b : Bool) → o.convert_aliased_extension_names ≡ b → creation_v3 (shown_v3 o m) ≡ Ok parts
    go true is = rw is (with_main_names_says m parts made)
    go false is = rw is made

-- what is shown is this metadata
abbrev shown_ok : MetadataData → Result MetadataData ConversionRefusal
shown_ok m = Ok m

of_shown : (m n : MetadataData) (parts : Meaning) → shown_ok m ≡ Ok n → creation m ≡ Ok parts → creation n ≡ Ok parts
of_shown m n parts is made = let same : m ≡ n = cc in subst (λ (x : MetadataData). creation x ≡ Ok parts) same made

-- the parts of an array are not in its attributes
pub attributes_of_v3_say_nothing : (m : DocumentData) (ms : Members) → creation_v3 (record m { attributes = ms }) ≡ creation_v3 m
unfolding creation_v3
attributes_of_v3_say_nothing m ms = refl

pub attributes_say_nothing : (m : DocumentV2Data) (ms : Members) → creation_v2 (record m { attributes = ms }) ≡ creation_v2 m
unfolding creation_v3 to_v3
attributes_say_nothing m ms = by_type (type_v2 m.dtype)
  where
    by_codecs : (t : _) (fill : Data) (b : Bool) → creation_by (record m { attributes = ms }) (if b then Ok (converted (record m { attributes = ms }) t fill) else Err no_codecs)
        ≡ creation_by m (if b then Ok (converted m t fill) else Err no_codecs)
    by_codecs t fill true = refl
    by_codecs t fill false = refl

    by_fill : (t : _) (fill : Option Data) → creation_by (record m { attributes = ms }) (converted_with_fill (record m { attributes = ms }) t fill) ≡ creation_by m (converted_with_fill m t fill)
    by_fill t None = refl
    by_fill t (Some fill) = by_codecs t fill (is_uncompressed t.kind m)

    by_type : (t : Option _) → creation_by (record m { attributes = ms }) (converted_with_type (record m { attributes = ms }) t) ≡ creation_by m (converted_with_type m t)
    by_type None = refl
    by_type (Some t) = by_fill t (fill_v3 t.kind m.fill_value)

shown_as_v3_says : (o : MetadataOptionsData) (m : DocumentV2Data) (r : Result DocumentData ConversionRefusal) (n : MetadataData) (parts : Meaning) → shown_as_v3 o r ≡ Ok n → creation_by m r ≡ Ok parts → creation n ≡ Ok parts
shown_as_v3_says o m (Ok d) n parts is made = of_shown _ n parts is (shown_v3_says o d parts made)
shown_as_v3_says o m (Err e) n parts is made = absurd cc

shown_version_says : (version : MetadataConvertVersion) (o : MetadataOptionsData) (m : DocumentV2Data) (n : MetadataData) (parts : Meaning) → shown_version version o m ≡ Ok n → creation_v2 m ≡ Ok parts → creation n ≡ Ok parts
shown_version_says convert.Default o m n parts is made = of_shown _ n parts is (attributes_say_nothing m (shown_attributes o.include_zarrs_metadata m.attributes) ∙ made)
shown_version_says convert.V3 o m n parts is made = shown_as_v3_says o m (to_v3 m) n parts is made

-- metadata that is shown says the same parts
pub shown_says_the_same : (o : MetadataOptionsData) (m n : MetadataData) (parts : Meaning) → shown o m ≡ Ok n → creation m ≡ Ok parts → creation n ≡ Ok parts
shown_says_the_same o (v3 m) n parts is made = of_shown _ n parts is (shown_v3_says o m parts made)
shown_says_the_same o (v2 m) n parts is made = shown_version_says o.convert_version o m n parts is made

-- ---- V3 metadata of V2 metadata

-- what says the parts of an array has a V3 document
pub converts : (m : DocumentV2Data) (parts : Meaning) (refusal : ConversionRefusal) → creation_v2 m ≡ Ok parts → to_v3 m ≡ Err refusal → ⊥
converts m parts (no_type dtype) made is = let wrong = rw is at made in absurd cc
converts m parts (no_fill_value name value) made is = let wrong = rw is at made in go (length m.chunks == length m.shape) refl wrong
  where
    go : (b : Bool) → (length m.chunks == length m.shape) ≡ b → not_converted m (no_fill_value name value) ≡ Ok parts → ⊥
    go true same said = let wrong = rw same at said in absurd cc
    go false same said = let wrong = rw same at said in absurd cc
converts m parts no_codecs made is = let wrong = rw is at made in go (length m.chunks == length m.shape) refl wrong
  where
    go : (b : Bool) → (length m.chunks == length m.shape) ≡ b → not_converted m no_codecs ≡ Ok parts → ⊥
    go true same said = let wrong = rw same at said in absurd cc
    go false same said = let wrong = rw same at said in absurd cc
