-- Which names are known and not supported.
use Rattle.std.specs.Prelude.{ℕ, ◌==◌, List, [], ◌∷◌, ◌&&◌, ◌||◌, Bool, false, codes, bytes_eq, nat_eq}
use Rattle.std.specs.List.{starts_with}
use Rattle.serde_json.specs.Data.{Data, null, boolean, number, string, array, object, Items, no_items, item, Members, no_members, member}

-- ---- data types

-- the name of a V2 type whose kind is this letter, behind the order of its bytes
abbrev pub has_kind : ℕ → List ℕ → Bool
has_kind letter [] = false
has_kind letter (order ∷ []) = false
has_kind letter (order ∷ kind ∷ size) = (order == 60 || order == 62 || order == 124) && kind == letter

-- a data type of this name, of V3 or of V2, has floats
abbrev pub names_floats : List ℕ → Bool
names_floats name = starts_with nat_eq name (codes "float") || starts_with nat_eq name (codes "bfloat") || has_kind 102 name

-- a data type of this name, of V3 or of V2, has complex numbers
abbrev pub names_complex : List ℕ → Bool
names_complex name = starts_with nat_eq name (codes "complex") || has_kind 99 name

-- a data type of this name is not supported for its numbers
abbrev pub is_unsupported_type : List ℕ → Bool
is_unsupported_type name = names_floats name || names_complex name

-- ---- codecs

-- a codec of this name compresses bytes
abbrev pub compresses : List ℕ → Bool
compresses name =
    bytes_eq name (codes "blosc") || bytes_eq name (codes "bz2") || bytes_eq name (codes "gzip") || bytes_eq name (codes "lz4")
    || bytes_eq name (codes "pcodec") || bytes_eq name (codes "zfp") || bytes_eq name (codes "zlib") || bytes_eq name (codes "zstd")

-- a codec of this name checks bytes
abbrev pub checks_bytes : List ℕ → Bool
checks_bytes name = bytes_eq name (codes "adler32") || bytes_eq name (codes "crc32c") || bytes_eq name (codes "fletcher32")

-- a codec of this name is known and not supported
abbrev pub is_unsupported_codec : List ℕ → Bool
is_unsupported_codec name = compresses name || checks_bytes name

-- a text of the value is the name of such a codec, at any depth
abbrev mutual
  pub names_codec : Data → Bool
  names_codec null = false
  names_codec (boolean b) = false
  names_codec (number n) = false
  names_codec (string text) = is_unsupported_codec text
  names_codec (array ds) = items_name_codec ds
  names_codec (object ms) = members_name_codec ms

  pub items_name_codec : Items → Bool
  items_name_codec no_items = false
  items_name_codec (item d ds) = names_codec d || items_name_codec ds

  pub members_name_codec : Members → Bool
  members_name_codec no_members = false
  members_name_codec (member k d ms) = names_codec d || members_name_codec ms
