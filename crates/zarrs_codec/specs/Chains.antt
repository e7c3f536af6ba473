-- What the chains of the code are made of, and what they mean.
use Rattle.std.specs.Prelude.{Bool, true, false, Option, Some, None, List, map, ◌&&◌}
use Rattle.std.specs.declared.num.NonZeroU64.{NonZeroU64}
use Rattle.zarrs_codec_array.specs.ArrayCodecs.{array_codec_data, arrays_meaning}
use Rattle.zarrs_codec_array.specs.declared.array.ArrayToArrayCodec.{ArrayToArrayCodec}
use Rattle.zarrs_codec_leaf.specs.Bytes.{endian_of}
use Rattle.zarrs_codec_leaf.specs.declared.bytes_codec.Endianness.{Endianness}
use Rattle.zarrs_codec_leaf.specs.declared.bytes_codec.Endianness.TheVariants as endian
use Rattle.zarrs_codec_leaf.specs.Leaf.{LeafMeaning}
use Rattle.zarrs_codec_optional.specs.CellsCodecs.{optional_codec_data}
use Rattle.zarrs_codec_optional.specs.Configurations.{plain}
use Rattle.zarrs_codec_optional.specs.PlainCodecs.{bytes, packbits, vlen_utf8, vlen_bytes, vlen}
use Rattle.zarrs_metadata_parts.specs.Lists.{sizes_of}
use Rattle.zarrs_codec.specs.declared.codec.ArrayToBytesCodec.{ArrayToBytesCodec}
use Rattle.zarrs_codec.specs.declared.codec.ArrayToBytesCodec as codec
use Rattle.zarrs_codec.specs.declared.chain.BytesToBytesCodecs.{BytesToBytesCodecs}
use Rattle.zarrs_codec.specs.declared.chain.CodecChain.{CodecChain}
use Rattle.zarrs_codec.specs.declared.sharding.ShardingCodec.{ShardingCodec}
use Rattle.zarrs_codec.specs.declared.sharding.ShardingIndexLocation.{ShardingIndexLocation}
use Rattle.zarrs_codec.specs.declared.sharding.ShardingIndexLocation.TheVariants as location
use Rattle.zarrs_codec_chain.specs.Chain.{ChainMeaning}
use Rattle.zarrs_codec.specs.Configurations.{BytesCodecData, ChainData, cells, sharding, cells_meaning_of, whole_chunk}
use Rattle.zarrs_codec.specs.Configurations.{no_array_codec, behind_codecs, meaning_of_bytes_codec, meaning_of_chain}
use Rattle.zarrs_codec.specs.Through.{through}

-- the parts of a chain
abbrev pub array_to_array_of : CodecChain → List ArrayToArrayCodec
array_to_array_of chain = chain.array_to_array.items

abbrev pub array_to_bytes_of : CodecChain → ArrayToBytesCodec
array_to_bytes_of chain = chain.array_to_bytes

abbrev pub bytes_to_bytes_of : CodecChain → BytesToBytesCodecs
bytes_to_bytes_of chain = chain.bytes_to_bytes

-- the parts of a codec of shards
abbrev pub subchunk_sizes_of : ShardingCodec → List NonZeroU64
subchunk_sizes_of codec = codec.subchunk_shape.items

abbrev pub location_of : ShardingCodec → ShardingIndexLocation
location_of codec = codec.index_location

abbrev pub inner_chain_of : ShardingCodec → CodecChain
inner_chain_of codec = codec.inner

abbrev pub is_at_start : ShardingIndexLocation → Bool
is_at_start location.Start = true
is_at_start location.End = false

-- ---- the configurations of the code's codecs

abbrev pub bytes_codec_data : ArrayToBytesCodec → BytesCodecData
bytes_codec_data (codec.Bytes c) = cells (plain (bytes (endian_of c)))
bytes_codec_data (codec.PackBits c) = cells (plain packbits)
bytes_codec_data (codec.VlenUtf8 c) = cells (plain vlen_utf8)
bytes_codec_data (codec.VlenBytes c) = cells (plain vlen_bytes)
bytes_codec_data (codec.Vlen c) = cells (plain vlen)
bytes_codec_data (codec.Optional c) = cells (optional_codec_data c)
bytes_codec_data (codec.Sharding' p sub at before last after) =
    sharding (sizes_of sub.items) (is_at_start at) (map array_codec_data before.items) (bytes_codec_data last)

abbrev pub chain_data : CodecChain → ChainData
chain_data chain = record {
  array_to_array = map array_codec_data (array_to_array_of chain);
  array_to_bytes = bytes_codec_data (array_to_bytes_of chain);
}

abbrev pub sharding_data_of : ShardingCodec → BytesCodecData
sharding_data_of codec =
    let inner = chain_data (inner_chain_of codec) in
    sharding (sizes_of (subchunk_sizes_of codec)) (is_at_start (location_of codec)) inner.array_to_array inner.array_to_bytes

-- ---- what they mean

-- what a codec means to cells alone
abbrev pub leaf_meaning : ArrayToBytesCodec → LeafMeaning
leaf_meaning codec = cells_meaning_of (bytes_codec_data codec)

-- whether there is no codec
abbrev pub no_codec : List ArrayToArrayCodec → Bool
no_codec codecs = no_array_codec (map array_codec_data codecs)

-- the chain `m` behind array-to-array codecs
abbrev pub behind : List ArrayToArrayCodec → ChainMeaning → ChainMeaning
behind codecs m = behind_codecs (map array_codec_data codecs) m

-- what a codec means
abbrev pub codec_meaning : ArrayToBytesCodec → ChainMeaning
codec_meaning codec = meaning_of_bytes_codec (bytes_codec_data codec)

-- what a chain means
abbrev pub chain_meaning : CodecChain → ChainMeaning
chain_meaning chain = meaning_of_chain (chain_data chain)

-- what a chain means whose last codec looks at cells alone
abbrev pub cells_chain_meaning : CodecChain → ChainMeaning
cells_chain_meaning chain =
    through (arrays_meaning (array_to_array_of chain)) (whole_chunk (leaf_meaning (array_to_bytes_of chain)))

-- what a codec of shards means
abbrev pub sharding_meaning : ShardingCodec → ChainMeaning
sharding_meaning codec = meaning_of_bytes_codec (sharding_data_of codec)

-- whether an endian leaves the bytes of each cell as they stand in memory, which is little endian
abbrev pub keeps_order : Option Endianness → Bool
keeps_order (Some endian.Big) = false
keeps_order (Some endian.Little) = true
keeps_order None = true

-- whether a codec makes bytes that are the cells as they stand in memory
abbrev pub codec_keeps_cells : ArrayToBytesCodec → Bool
codec_keeps_cells (codec.Bytes c) = keeps_order (endian_of c)
codec_keeps_cells c = false

-- the same, of a chain
abbrev pub keeps_cells : CodecChain → Bool
keeps_cells chain = no_codec (array_to_array_of chain) && codec_keeps_cells (array_to_bytes_of chain)
