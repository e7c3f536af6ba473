-- The metadata of a chain, codec by codec.
use Rattle.std.proofs.Common.{Bool, true, false, ◌≡◌, ℕ, ◌+◌, ◌-◌, ◌<◌, List, [], ◌∷◌, ◌++◌, length, map, take, drop, get_or, Option, Some}
use Rattle.std.proofs.Common.{None, option_map, option_and_then, refl, sym, ap, ◌∙◌, arith}
use Rattle.std.specs.Prelude.{slice_get, codes}
use Rattle.std.proofs.Math.Seq.{take-append_seam}
use Rattle.std.proofs.lemmas.List.{drop_more, length-append}
use Rattle.zarrs_metadata_parts.specs.Extension.{ExtensionData, extension_view, extension_of, extension_data, settings}
use Rattle.zarrs_metadata_parts.specs.Refusals.{RefusesMeaning}
use Rattle.zarrs_metadata_parts.specs.declared.error.PluginCreateError.{PluginCreateError}
use Rattle.zarrs_metadata_parts.specs.declared.error.PluginCreateError.TheVariants as plugin
use Rattle.zarrs_metadata_parts.specs.declared.extension.MetadataV3.{MetadataV3}
use Rattle.zarrs_codec_array.specs.Metadata.{array_codec_said, extension_of_array_codec}
use Rattle.zarrs_codec_array.specs.ArrayCodecs.{array_codec_data}
use Rattle.zarrs_codec_array.specs.Configurations.{ArrayCodecData, transpose, reshape, squeeze}
use Rattle.zarrs_codec_array.specs.declared.array.ArrayToArrayCodec.{ArrayToArrayCodec}
use Rattle.zarrs_codec_array.proofs.MetadataLaws.{array_codec_back}
use Rattle.std.specs.Str.{bytes_eq}
use Rattle.std.specs.declared.num.NonZeroU64.{NonZeroU64}
use Rattle.serde_json.specs.View.{items_of}
use Rattle.zarrs_metadata_parts.specs.Lists.{all_of, list_of, list_data, sizes_of}
use Rattle.zarrs_metadata_parts.proofs.ListLemmas.{sizes_back}
use Rattle.zarrs_codec_optional.specs.Metadata.{extension_of_cells_codec}
use Rattle.zarrs_codec_optional.specs.CellsCodecs.{optional_codec_data}
use Rattle.zarrs_codec_optional.specs.Configurations.{CellsCodecData, plain, optional}
use Rattle.zarrs_codec_optional.specs.PlainCodecs.{bytes}
use Rattle.zarrs_codec_optional.proofs.OptionalMetadata.{codec_again, cells_codec_back}
use Rattle.zarrs_codec.specs.Chains.{is_at_start, bytes_codec_data}
use Rattle.zarrs_codec_optional.specs.ShardingMetadata.{ShardingData, sharding_data, sharding_from, sharding_extension}
use Rattle.zarrs_codec.specs.declared.codec.ArrayToBytesCodec.{ArrayToBytesCodec}
use Rattle.zarrs_codec.specs.declared.codec.ArrayToBytesCodec as code
use Rattle.zarrs_codec.specs.Metadata.{bytes_codec_said, sharding_with, array_codecs_said, chain_of_parts, chain_said, last_of, extension_of_bytes_codec}
use Rattle.zarrs_codec.specs.Configurations.{BytesCodecData, cells, sharding, is_plain}
use Rattle.zarrs_codec.specs.Metadata.{extensions_of_chain}
use Rattle.zarrs_codec.proofs.ShardingMetadata.{said-cells, said-sharding}

-- the last of the extension points, and those before it
rest_count : (n m : ℕ) → n ≡ m + 1 → n - 1 ≡ m
rest_count n m is = omega arith

count_before : {A : Type 0} (xs : List A) (x : A) → length (xs ++ x ∷ []) - 1 ≡ length xs
count_before xs x = rest_count (length (xs ++ x ∷ [])) (length xs) (length-append xs (x ∷ []))

last_at : {A : Type 0} (xs : List A) (x : A) → slice_get (xs ++ x ∷ []) (length xs) ≡ Some x
last_at [] x = refl
last_at (y ∷ xs) x = last_at xs x

last_is : {A : Type 0} (xs : List A) (x : A) → slice_get (xs ++ x ∷ []) (length (xs ++ x ∷ []) - 1) ≡ Some x
last_is xs x = ap (slice_get (xs ++ x ∷ [])) (count_before xs x) ∙ last_at xs x

front_is : {A : Type 0} (xs : List A) (x : A) → take (length (xs ++ x ∷ []) - 1) (xs ++ x ∷ []) ≡ xs
front_is xs x = ap (λ n. take n (xs ++ x ∷ [])) (count_before xs x) ∙ take-append_seam xs (x ∷ [])

pub chain_said-parts : (front : List ExtensionData) (last : ExtensionData) → chain_said (front ++ last ∷ []) ≡ chain_of_parts (array_codecs_said front) (bytes_codec_said last)
chain_said-parts front last =
    ap (λ es. chain_of_parts (array_codecs_said es) (option_and_then bytes_codec_said (slice_get (front ++ last ∷ []) (length (front ++ last ∷ []) - 1)))) (front_is front last)
    ∙ ap (λ o. chain_of_parts (array_codecs_said front) (option_and_then bytes_codec_said o)) (last_is front last)

array_codecs_back : (cs : List ArrayToArrayCodec) → array_codecs_said (map extension_of_array_codec (map array_codec_data cs)) ≡ Some (map array_codec_data cs)
array_codecs_back [] = refl
array_codecs_back (c ∷ cs) = rw (array_codec_back c, array_codecs_back cs) refl

-- what is written for a chain reads as that chain, if what is written for its last codec reads as that codec
chain_with_back : (cs : List ArrayToArrayCodec) (c : BytesCodecData) → bytes_codec_said (extension_of_bytes_codec c) ≡ Some c
    → chain_said (extensions_of_chain (record { array_to_array = map array_codec_data cs; array_to_bytes = c })) ≡ Some (record { array_to_array = map array_codec_data cs; array_to_bytes = c })
chain_with_back cs c back =
    chain_said-parts (map extension_of_array_codec (map array_codec_data cs)) (extension_of_bytes_codec c)
    ∙ rw (array_codecs_back cs, back) refl

-- ---- what is written for a codec

array_again : (c : ArrayCodecData) → extension_of (extension_data (extension_of_array_codec c)) ≡ Some (extension_of_array_codec c)
array_again (transpose order) = refl
array_again (reshape entries) = refl
array_again squeeze = refl

bytes_again : (c : BytesCodecData) → extension_of (extension_data (extension_of_bytes_codec c)) ≡ Some (extension_of_bytes_codec c)
bytes_again (cells c) = codec_again c
bytes_again (sharding chunk_shape at_start front last) = refl

all_again : (cs : List ArrayCodecData) (c : BytesCodecData)
    → all_of extension_of (items_of (map extension_data (map extension_of_array_codec cs ++ extension_of_bytes_codec c ∷ []))) ≡ Some (map extension_of_array_codec cs ++ extension_of_bytes_codec c ∷ [])
all_again [] c = ap (option_and_then (λ a. option_map (λ more. a ∷ more) (Some []))) (bytes_again c)
all_again (x ∷ cs) c =
    ap (option_and_then (λ a. option_map (λ more. a ∷ more) (all_of extension_of (items_of (map extension_data (map extension_of_array_codec cs ++ extension_of_bytes_codec c ∷ [])))))) (array_again x)
    ∙ ap (option_map (λ more. extension_of_array_codec x ∷ more)) (all_again cs c)

data_again : (sizes : List NonZeroU64) (at_start : Bool) (codecs : List ExtensionData) → list_of extension_of (list_data extension_data codecs) ≡ Some codecs
    → sharding_data (settings (sharding_extension (record { chunk_shape = sizes_of sizes; at_start = at_start; codecs = codecs }))) ≡ Some (record { chunk_shape = sizes_of sizes; at_start = at_start; codecs = codecs })
data_again sizes true codecs again =
    ap (λ s. sharding_from (Some true) s (list_of extension_of (list_data extension_data codecs))) (sizes_back sizes) ∙ ap (sharding_from (Some true) (Some (sizes_of sizes))) again
data_again sizes false codecs again =
    ap (λ s. sharding_from (Some false) s (list_of extension_of (list_data extension_data codecs))) (sizes_back sizes) ∙ ap (sharding_from (Some false) (Some (sizes_of sizes))) again

other_name : (c : CellsCodecData) → bytes_eq (extension_of_cells_codec c).name (codes "sharding_indexed") ≡ false
other_name (plain (bytes None)) = refl
other_name (plain (bytes (Some endian))) = refl
other_name (plain codec) = refl
other_name (optional mask inner) = refl

cells_back : (c : CellsCodecData) → bytes_codec_said (extension_of_bytes_codec (cells c)) ≡ Some (cells c)
cells_back c = said-cells (extension_of_cells_codec c) (other_name c) ∙ ap (option_map cells) (cells_codec_back c)

sharding_back : (sizes : List NonZeroU64) (at_start : Bool) (cs : List ArrayToArrayCodec) (c : BytesCodecData) → bytes_codec_said (extension_of_bytes_codec c) ≡ Some c
    → bytes_codec_said (extension_of_bytes_codec (sharding (sizes_of sizes) at_start (map array_codec_data cs) c)) ≡ Some (sharding (sizes_of sizes) at_start (map array_codec_data cs) c)
sharding_back sizes at_start cs c back =
    let codecs = map extension_of_array_codec (map array_codec_data cs) ++ extension_of_bytes_codec c ∷ [] in
    let d : ShardingData = record { chunk_shape = sizes_of sizes; at_start = at_start; codecs = codecs } in
    said-sharding (sharding_extension d) d refl (data_again sizes at_start codecs (all_again (map array_codec_data cs) c))
    ∙ ap (sharding_with d) (chain_with_back cs c back)

plain_back : (c : BytesCodecData) → is_plain c ≡ true → bytes_codec_said (extension_of_bytes_codec c) ≡ Some c
plain_back (cells codec) is = cells_back codec
plain_back (sharding chunk_shape at_start front last) is = cc

-- what is written for a codec of the code reads as that codec
pub bytes_codec_back : (c : ArrayToBytesCodec) → bytes_codec_said (extension_of_bytes_codec (bytes_codec_data c)) ≡ Some (bytes_codec_data c)
bytes_codec_back (code.Optional codec) = cells_back (optional_codec_data codec)
bytes_codec_back (code.Sharding' p sub at before last after) = sharding_back sub.items (is_at_start at) before.items (bytes_codec_data last) (bytes_codec_back last)
bytes_codec_back c = plain_back (bytes_codec_data c) refl

-- what is written for a chain of the code reads as that chain
pub chain_back : (cs : List ArrayToArrayCodec) (c : ArrayToBytesCodec)
    → chain_said (extensions_of_chain (record { array_to_array = map array_codec_data cs; array_to_bytes = bytes_codec_data c })) ≡ Some (record { array_to_array = map array_codec_data cs; array_to_bytes = bytes_codec_data c })
chain_back cs c = chain_with_back cs (bytes_codec_data c) (bytes_codec_back c)

-- a part that says nothing
pub no_front : (last : Option BytesCodecData) (front : Option (List ArrayCodecData)) → front ≡ None → chain_of_parts front last ≡ None
no_front last front is = rw is refl

pub no_last : (last : Option BytesCodecData) (front : Option (List ArrayCodecData)) → last ≡ None → chain_of_parts front last ≡ None
no_last last None is = refl
no_last last (Some front) is = rw is refl

-- ---- of the code's values

map_last : {A B : Type 0} (f : A → B) (xs : List A) (x : A) → map f (xs ++ x ∷ []) ≡ map f xs ++ f x ∷ []
map_last f [] x = refl
map_last f (y ∷ xs) x = ap (λ l. f y ∷ l) (map_last f xs x)

pub read_parts : (ms front : List MetadataV3) (last : MetadataV3) → ms ≡ front ++ last ∷ [] → chain_said (map extension_view ms) ≡ chain_of_parts (array_codecs_said (map extension_view front)) (bytes_codec_said (extension_view last))
read_parts ms front last is =
    ap (λ l. chain_said (map extension_view l)) is ∙ ap chain_said (map_last extension_view front last) ∙ chain_said-parts (map extension_view front) (extension_view last)

pub made_parts : (ms front : List MetadataV3) (last : MetadataV3) (codecs : List ArrayCodecData) (codec : BytesCodecData) → ms ≡ front ++ last ∷ [] → array_codecs_said (map extension_view front) ≡ Some codecs → bytes_codec_said (extension_view last) ≡ Some codec
    → chain_said (map extension_view ms) ≡ Some (record { array_to_array = codecs; array_to_bytes = codec })
made_parts ms front last codecs codec is first second = read_parts ms front last is ∙ rw (first, second) refl

-- no extension point says no chain
pub no_chain : (ms : List MetadataV3) → length ms ≡ 0 → chain_said (map extension_view ms) ≡ None
no_chain [] none = refl
no_chain (m ∷ ms) none = absurd (omega arith)

-- the codecs of a configuration
pub last_read : (ms front : List MetadataV3) (last : MetadataV3) → ms ≡ front ++ last ∷ [] → last_of (map extension_view ms) ≡ Some (extension_view last)
last_read ms front last is =
    ap (λ l. last_of (map extension_view l)) is ∙ ap last_of (map_last extension_view front last) ∙ last_is (map extension_view front) (extension_view last)

pub said-parts : (e : ExtensionData) (d : ShardingData) (ms front : List MetadataV3) (last : MetadataV3) → bytes_eq e.name (codes "sharding_indexed") ≡ true → sharding_data (settings e) ≡ Some d → d.codecs ≡ map extension_view ms
    → ms ≡ front ++ last ∷ [] → sharding_with d (chain_of_parts (array_codecs_said (map extension_view front)) (bytes_codec_said (extension_view last))) ≡ bytes_codec_said e
said-parts e d ms front last named is codecs cut =
    sym (said-sharding e d named is ∙ ap (λ l. sharding_with d (chain_said l)) codecs ∙ ap (sharding_with d) (read_parts ms front last cut))

pub said-nothing : (e : ExtensionData) (d : ShardingData) (ms : List MetadataV3) → bytes_eq e.name (codes "sharding_indexed") ≡ true → sharding_data (settings e) ≡ Some d → d.codecs ≡ map extension_view ms → length ms ≡ 0 → None ≡ bytes_codec_said e
said-nothing e d ms named is codecs none =
    sym (said-sharding e d named is ∙ ap (λ l. sharding_with d (chain_said l)) codecs ∙ ap (sharding_with d) (no_chain ms none))

-- a refusal of a part is one of the whole
pub refuses_through : {A B : Type 0} (o : Option A) (whole : Option B) (e : PluginCreateError) → (o ≡ None → whole ≡ None) → RefusesMeaning o e → RefusesMeaning whole e
refuses_through o whole (plugin.Other said) none refused = none refused
refuses_through o whole plugin.OutOfMemory none refused = tt

-- the metadata of codecs, then that of the last one
pub written_parts : (ms front : List MetadataV3) (last : MetadataV3) (cs : List ArrayToArrayCodec) (c : BytesCodecData) → ms ≡ front ++ last ∷ [] → map extension_view front ≡ map extension_of_array_codec (map array_codec_data cs)
    → extension_view last ≡ extension_of_bytes_codec c → map extension_view ms ≡ extensions_of_chain (record { array_to_array = map array_codec_data cs; array_to_bytes = c })
written_parts ms front last cs c is first second =
    ap (map extension_view) is ∙ map_last extension_view front last
    ∙ ap (λ l. l ++ extension_view last ∷ []) first
    ∙ ap (λ e. map extension_of_array_codec (map array_codec_data cs) ++ e ∷ []) second

pub refuses_none : {B : Type 0} (whole : Option B) (e : PluginCreateError) → whole ≡ None → RefusesMeaning whole e
refuses_none whole (plugin.Other said) none = none
refuses_none whole plugin.OutOfMemory none = tt

-- an extension point that says no array-to-array codec
pub codec_refused : (ms : List MetadataV3) (i : ℕ) (m : MetadataV3) (made : List ArrayCodecData) → i < length ms → m ≡ get_or ms i m
    → array_codecs_said (map extension_view ms) ≡ option_map (λ more. made ++ more) (array_codecs_said (map extension_view (drop i ms)))
    → array_codec_said (extension_view m) ≡ None → array_codecs_said (map extension_view ms) ≡ None
codec_refused ms i m made lt is said none =
    let rest = drop (i + 1) ms in
    let first : array_codecs_said (map extension_view (drop i ms)) ≡ None =
    ap (λ l. array_codecs_said (map extension_view l)) (drop_more ms i m lt)
    ∙ ap (λ x. array_codecs_said (extension_view x ∷ map extension_view rest)) (sym is)
    ∙ ap (λ o. option_and_then (λ codec. option_map (λ more. codec ∷ more) (array_codecs_said (map extension_view rest))) o) none in
    said ∙ ap (option_map (λ more. made ++ more)) first
