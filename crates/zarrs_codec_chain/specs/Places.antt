-- Which places of a chunk's bytes a read of a part of its cells needs. Each place is one of these bytes.
use Rattle.std.specs.Prelude.{◌≡◌, ℕ, ◌+◌, ◌-◌, ◌*◌, ◌/◌, ◌<◌, Bool, true, false, not, None, Some, List, length, take, drop, nat_lt, nat_le}
use Rattle.std.specs.Prelude.{◌==◌, ◌&&◌, ◌||◌, if◌then◌else◌}
use Rattle.std.specs.Int.{w64, from_le_bytes}
use Rattle.std.specs.List.{list_any, range_with_len}
use Rattle.std.proofs.lemmas.Bool.{and_parts, ltb-true}
use Rattle.zarrs_codec_shard.specs.Shards.{absent, index_in}
use Rattle.zarrs_codec_shard.specs.Subchunks.{subchunk_box, subchunk_count}
use Rattle.zarrs_subset.specs.Boxes.{position_count, unravel}
use Rattle.zarrs_subset.specs.Pieces.{piece_at}
use Rattle.zarrs_subset.specs.Regions.{Box, in_box, overlap_of}
use Rattle.zarrs_data_type.specs.Kind.{Kind, element_size}

-- the places that a read of this part of a chunk of this type and shape needs, of the chunk's bytes
abbrev pub Places : Type 0
Places = (kind : Kind) (shape : List ℕ) (part : Box) (encoded : List ℕ) (place : ℕ) → Bool

-- every place
abbrev pub all_places : (k : Kind) (shape : List ℕ) (part : Box) (encoded : List ℕ) (place : ℕ) → Bool
all_places k shape part encoded place = nat_lt place (length encoded)

-- of cells that stand one after another, the places of those of the part
abbrev pub cell_places : (k : Kind) (shape : List ℕ) (part : Box) (encoded : List ℕ) (place : ℕ) → Bool
cell_places k shape part encoded place = nat_lt place (length encoded) && elim (element_size k) [
  | None ↦ false
  | Some size ↦ nat_lt (place / size) (position_count shape) && in_box part (unravel shape (place / size))
]

-- some position lies in both boxes
abbrev pub boxes_meet : Box → Box → Bool
boxes_meet a b = nat_lt 0 (position_count (overlap_of a b).shape)

-- the place is one of the index of a shard of so many subchunks and bytes
abbrev pub is_index_place : (at_start : Bool) (count len place : ℕ) → Bool
is_index_place at_start count len place = if at_start then nat_lt place (count * 16) else nat_le (len - count * 16) place

-- the places of the index of a shard of so many subchunks and bytes
abbrev pub index_places : (at_start : Bool) (count len place : ℕ) → Bool
index_places at_start count len place = nat_lt place len && is_index_place at_start count len place

-- the place is one of the range that an entry of an index names, if it names one
abbrev pub is_range_place : (entry : List ℕ) (place : ℕ) → Bool
is_range_place entry place =
    let offset = from_le_bytes w64 (take 8 entry) in
    let len = from_le_bytes w64 (drop 8 entry) in
    not ((offset == absent) && (len == absent)) && (nat_le offset place && nat_lt place (offset + len))

-- of a shard, the places of its index and of the range of each present subchunk that the part meets
abbrev pub shard_places : (at_start : Bool) (sub : List ℕ) (k : Kind) (shape : List ℕ) (part : Box) (encoded : List ℕ) (place : ℕ) → Bool
shard_places at_start sub k shape part encoded place =
    let count = subchunk_count shape sub in
    let index = index_in at_start count encoded in
    nat_lt place (length encoded)
    && (is_index_place at_start count (length encoded) place
    || list_any (λ j. boxes_meet part (subchunk_box shape sub j) && is_range_place (piece_at 16 index j) place) (range_with_len 0 count))

-- behind codecs that make an array of an array every place may be needed; where there is none, those of the codec that
-- makes bytes
abbrev pub places_behind : (none : Bool) (places : Places) (k : Kind) (shape : List ℕ) (part : Box) (encoded : List ℕ) (place : ℕ) → Bool
places_behind none places k shape part encoded place =
    if none then places k shape part encoded place else all_places k shape part encoded place

-- ---- no place past the bytes

pub all_places-inside : (k : Kind) (shape : List ℕ) (part : Box) (encoded : List ℕ) (place : ℕ)
    → all_places k shape part encoded place ≡ true
    → place < length encoded
all_places-inside k shape part encoded place is = ltb-true place (length encoded) is

pub cell_places-inside : (k : Kind) (shape : List ℕ) (part : Box) (encoded : List ℕ) (place : ℕ)
    → cell_places k shape part encoded place ≡ true
    → place < length encoded
cell_places-inside k shape part encoded place is = ltb-true place (length encoded) (and_parts (nat_lt place (length encoded)) _ is).0

pub shard_places-inside : (at_start : Bool) (sub : List ℕ) (k : Kind) (shape : List ℕ) (part : Box) (encoded : List ℕ) (place : ℕ)
    → shard_places at_start sub k shape part encoded place ≡ true
    → place < length encoded
shard_places-inside at_start sub k shape part encoded place is = ltb-true place (length encoded) (and_parts (nat_lt place (length encoded)) _ is).0

pub places_behind-inside : (none : Bool) (places : Places)
    → ((k : Kind) (shape : List ℕ) (part : Box) (encoded : List ℕ) (place : ℕ) → places k shape part encoded place ≡ true → place < length encoded)
    → (k : Kind) (shape : List ℕ) (part : Box) (encoded : List ℕ) (place : ℕ)
    → places_behind none places k shape part encoded place ≡ true
    → place < length encoded
places_behind-inside true places inside k shape part encoded place is = inside k shape part encoded place is
places_behind-inside false places inside k shape part encoded place is = all_places-inside k shape part encoded place is
