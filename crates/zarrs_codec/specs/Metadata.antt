-- The metadata of a chain of codecs: what is read from it, and what is written for one.
use Rattle.std.specs.Prelude.{ℕ, zero, suc, ◌-◌, List, [], ◌∷◌, ◌++◌, codes, if◌then◌else◌, Option, Some, None}
use Rattle.std.specs.Prelude.{length, map, take, slice_get, option_map, option_and_then}
use Rattle.std.specs.Str.{bytes_eq}
use Rattle.zarrs_metadata_parts.specs.Extension.{ExtensionData, settings, ◌>>=◌}
use Rattle.zarrs_codec_array.specs.Metadata.{array_codec_said, extension_of_array_codec}
use Rattle.zarrs_codec_array.specs.Configurations.{ArrayCodecData}
use Rattle.zarrs_data_type.specs.Kind.{Kind}
use Rattle.zarrs_data_type.specs.TypeMetadata.{levels_in}
use Rattle.zarrs_codec_optional.specs.Metadata.{cells_codec_said, extension_of_cells_codec, default_cells_codec}
use Rattle.zarrs_codec_optional.specs.ShardingMetadata.{ShardingData, sharding_data, sharding_extension}
use Rattle.zarrs_codec.specs.Configurations.{BytesCodecData, ChainData, cells, sharding}

-- ---- what metadata says

-- the array-to-array codecs that extension points say, if each says one
abbrev pub array_codecs_said : List ExtensionData → Option (List ArrayCodecData)
array_codecs_said [] = Some []
array_codecs_said (e ∷ es) = option_and_then (λ codec. option_map (λ more. codec ∷ more) (array_codecs_said es)) (array_codec_said e)

-- the chain of these codecs
abbrev pub chain_of_parts : Option (List ArrayCodecData) → Option BytesCodecData → Option ChainData
chain_of_parts front last = do
  codecs ← front
  codec ← last
  Some (record { array_to_array = codecs; array_to_bytes = codec })

-- all of a list but the last, and the last
abbrev pub front_of : List ExtensionData → List ExtensionData
front_of es = take (length es - 1) es

abbrev pub last_of : List ExtensionData → Option ExtensionData
last_of es = slice_get es (length es - 1)

-- `sharding_indexed` with this configuration, around this chain
abbrev pub sharding_with : ShardingData → Option ChainData → Option BytesCodecData
sharding_with d chain =
    option_map (λ inner. sharding d.chunk_shape d.at_start inner.array_to_array inner.array_to_bytes) chain

-- the codec that an extension point says, within this number of levels of codecs
abbrev pub bytes_codec_within : ℕ → ExtensionData → Option BytesCodecData
bytes_codec_within zero e = None
bytes_codec_within (suc levels) e =
    if bytes_eq e.name (codes "sharding_indexed")
    then option_and_then
    (λ d. sharding_with d (chain_of_parts (array_codecs_said (front_of d.codecs)) (option_and_then (λ x. bytes_codec_within levels x) (last_of d.codecs))))
    (sharding_data (settings e))
    else option_map cells (cells_codec_said e)

-- the codec that metadata says
abbrev pub bytes_codec_said : ExtensionData → Option BytesCodecData
bytes_codec_said e = bytes_codec_within (suc (levels_in (settings e))) e

-- the chain that extension points say: the last one says the array-to-bytes codec, those before it say array-to-array
-- codecs
abbrev pub chain_said : List ExtensionData → Option ChainData
chain_said es = chain_of_parts (array_codecs_said (take (length es - 1) es)) (option_and_then bytes_codec_said (slice_get es (length es - 1)))

-- what a builder takes if it is given none
abbrev pub default_codec : Kind → BytesCodecData
default_codec k = cells (default_cells_codec k)

-- ---- what is written for a chain

abbrev pub extension_of_bytes_codec : BytesCodecData → ExtensionData
extension_of_bytes_codec (cells codec) = extension_of_cells_codec codec
extension_of_bytes_codec (sharding chunk_shape at_start front last) =
    sharding_extension (record {
      chunk_shape = chunk_shape;
      at_start = at_start;
      codecs = map extension_of_array_codec front ++ extension_of_bytes_codec last ∷ [];
    })

-- the metadata of a chain, codec by codec
abbrev pub extensions_of_chain : ChainData → List ExtensionData
extensions_of_chain chain = map extension_of_array_codec chain.array_to_array ++ extension_of_bytes_codec chain.array_to_bytes ∷ []
