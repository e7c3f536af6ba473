-- A part that is read of a shard.
use Rattle.std.specs.Prelude.{◌≡◌, ◌<◌, ◌≤◌, ℕ, Bool, true, List, [], Option, Some, length, slice_index, unwrap_or, ◌&&◌}
use Rattle.zarrs_codec_shard.specs.Shards.{index_in, shard_parts}
use Rattle.zarrs_codec_shard.specs.Subchunks.{corner, is_cut_by, quotients, subchunk_box, subchunk_count}
use Rattle.zarrs_data_type.specs.Kind.{bool}
use Rattle.zarrs_subset.specs.Boxes.{InShape, place}
use Rattle.zarrs_subset.specs.Pieces.{piece_at}
use Rattle.zarrs_subset.specs.Regions.{Box, Holds, IsLong, LiesInBox, LiesInShape, in_box, overlap_of, seen_from}
use Rattle.zarrs_codec_chain.specs.Places.{boxes_meet, shard_places}

-- a part of a shard of this shape, with these bytes, that is cut into subchunks of the shape `sub`
pub record ShardRead : Type 0 where
  pub at_start : Bool
  pub shape : List ℕ
  pub sub : List ℕ
  pub part : Box
  pub encoded : List ℕ
  pub refuses : Bool

abbrev pub shard_read : (at_start : Bool) (shape sub : List ℕ) (part : Box) (encoded : List ℕ) (refuses : Bool) → ShardRead
shard_read at_start shape sub part encoded refuses =
    record { at_start = at_start; shape = shape; sub = sub; part = part; encoded = encoded; refuses = refuses }

-- how many subchunks it has
abbrev pub count_of : ShardRead → ℕ
count_of r = subchunk_count r.shape r.sub

-- the parts that its index names
abbrev pub parts_of : ShardRead → List (Option (List ℕ))
parts_of r = unwrap_or (shard_parts r.at_start (count_of r) r.encoded) []

-- the entry of the subchunk of this number in its index
abbrev pub entry_of : ShardRead → ℕ → List ℕ
entry_of r n = piece_at 16 (index_in r.at_start (count_of r) r.encoded) n

-- the box of the subchunk of this number
abbrev pub box_at : ShardRead → ℕ → Box
box_at r n = subchunk_box r.shape r.sub n

-- the places that the part needs: cells of any type need the same
abbrev pub part_places : ShardRead → ℕ → Bool
part_places r = shard_places r.at_start r.sub bool r.shape r.part r.encoded

-- the bytes are such a shard, and the part lies in it
pub record IsOpen (r : ShardRead) : Type 0 where
  pub cut : is_cut_by r.shape r.sub ≡ true
  pub long : IsLong r.part
  pub lies : LiesInShape r.part r.shape
  pub parts : shard_parts r.at_start (count_of r) r.encoded ≡ Some (parts_of r)

-- the part has no position of the subchunk with these indices
abbrev pub HasNone : ShardRead → (index : List ℕ) → Type 0
HasNone r i = (position : List ℕ) → Holds r.part position → quotients position r.sub ≡ i → ⊥

-- the subchunk of this number has these indices
pub record IsAt (r : ShardRead) (i : List ℕ) (n : ℕ) : Type 0 where
  pub in_grid : InShape (quotients r.shape r.sub) i
  pub at_n : place (quotients r.shape r.sub) i ≡ n
  pub below : n < count_of r

-- no subchunk has these indices
abbrev pub HasNoSubchunk : ShardRead → (index : List ℕ) → Type 0
HasNoSubchunk r i = (n : ℕ) → IsAt r i n → ⊥

-- the positions that the part shares with the subchunk with these indices, and the same seen from the corner of the subchunk
pub record IsShare (r : ShardRead) (i : List ℕ) (n : ℕ) (shared own : Box) : Type 0 where
  pub meets : boxes_meet r.part (box_at r n) ≡ true
  pub shared_is : shared ≡ overlap_of r.part (box_at r n)
  pub common : (position : List ℕ) → in_box shared position ≡ (in_box r.part position && in_box (box_at r n) position)
  pub shared_lies : LiesInBox shared r.part
  pub corner_is : (box_at r n).start ≡ corner r.sub i
  pub corner_len : length (corner r.sub i) ≡ length shared.start
  pub above : (k : ℕ) → k < length shared.start → slice_index (corner r.sub i) k ≤ slice_index shared.start k
  pub own_is : own ≡ seen_from shared (corner r.sub i)
  pub own_lies : LiesInShape own r.sub

-- the subchunk of this number has each position of the part, and `own` is the part, seen from the corner of the subchunk
pub record IsSole (r : ShardRead) (n : ℕ) (own : Box) : Type 0 where
  pub below : n < count_of r
  pub share : (i : List ℕ) → IsAt r i n → IsShare r i n r.part own
