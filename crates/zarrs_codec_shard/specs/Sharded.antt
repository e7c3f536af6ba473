-- Which bytes stand for the cells of a chunk that is sharded (`sharding_indexed`), over any chain of its subchunks.
use Rattle.std.specs.Prelude.{◌≡◌, ◌≢◌, ◌⊎◌, ℕ, ◌<◌, ◌^◌, Bool, true, false, not, Option, None, Some, List, length, map, replicate}
use Rattle.std.specs.Prelude.{[], option_map, unwrap_or, slice_index_or, ◌&&◌, if◌then◌else◌}
use Rattle.std.specs.List.{list_all, list_any, range_with_len}
use Rattle.zarrs_data_type.specs.Kind.{Kind}
use Rattle.zarrs_data_type.specs.Cell.{Cell, cell_eq, are_values, values_only}
use Rattle.zarrs_subset.specs.Boxes.{position_count}
use Rattle.zarrs_codec_shard.specs.Shards.{shard_parts, written_shard, compaction}
use Rattle.zarrs_metadata_parts.specs.Extension.{◌>>=◌}
use Rattle.zarrs_codec_shard.specs.Steps.{given_if, all_present}
use Rattle.zarrs_codec_shard.specs.Subchunks.{is_cut_by, subchunk_count, subchunk_at, assembled}

-- what the chain of subchunks means at one type, fill value and shape
pub record SubchunkMeaning : Type 0 where
  -- whether it takes the type and the shape
  pub fits : Bool
  -- the bytes of a subchunk's cells, or nothing if a size is too large
  pub encoded : (cells : List Cell) → Option (List ℕ)
  -- the cells of a subchunk's bytes, or nothing if they are the bytes of no cells
  pub decoded : (encoded : List ℕ) → Option (List Cell)

-- the law of the chain of subchunks of so many cells
pub record IsLawfulSubchunk (k : Kind) (count : ℕ) (m : SubchunkMeaning) : Type 0 where
  -- values, as many as a subchunk has, decode to what was encoded
  pub round_trip : (cs : List Cell) (b : List ℕ) → are_values k cs ≡ true → length cs ≡ count → m.encoded cs ≡ Some b → m.decoded b ≡ Some cs
  -- as many cells decode as a subchunk has
  pub decoded_len : (b : List ℕ) (cs : List Cell) → m.decoded b ≡ Some cs → length cs ≡ count

-- whether each cell is the fill value's
abbrev pub is_all_fill : (fill : Cell) (cells : List Cell) → Bool
is_all_fill fill cells = list_all (λ c. cell_eq c fill) cells

-- the part of a subchunk's cells: absent if they are all fill and empty ones are not stored
abbrev pub part_of : SubchunkMeaning → (store_empty : Bool) (fill : Cell) (cells : List Cell) → Option (Option (List ℕ))
part_of m store_empty fill cells =
    if not store_empty && is_all_fill fill cells then Some None else option_map Some (m.encoded cells)

-- the cells of a subchunk's part: an absent one is all fill
abbrev pub cells_of_part : SubchunkMeaning → (fill : Cell) (sub : List ℕ) → Option (List ℕ) → Option (List Cell)
cells_of_part m fill sub None = Some (replicate (position_count sub) fill)
cells_of_part m fill sub (Some b) = m.decoded b

-- the parts of the first n subchunks of a chunk's cells
abbrev pub first_parts : SubchunkMeaning → (store_empty : Bool) (fill : Cell) (shape sub : List ℕ) (cells : List Cell) (n : ℕ) → Option (List (Option (List ℕ)))
first_parts m store_empty fill shape sub cells n =
    all_present (map (λ j. part_of m store_empty fill (subchunk_at shape sub cells j)) (range_with_len 0 n))

-- the parts of a chunk's cells
abbrev pub parts_of : SubchunkMeaning → (store_empty : Bool) (fill : Cell) (shape sub : List ℕ) (cells : List Cell) → Option (List (Option (List ℕ)))
parts_of m store_empty fill shape sub cells =
    first_parts m store_empty fill shape sub cells (subchunk_count shape sub)

-- the cells of a chunk's parts
abbrev pub cells_of_parts : SubchunkMeaning → Kind → (fill : Cell) (shape sub : List ℕ) → List (Option (List ℕ)) → Option (List Cell)
cells_of_parts m k fill shape sub parts =
    all_present (map (cells_of_part m fill sub) parts) >>= λ subchunks. values_only k (assembled shape sub subchunks)

-- ---- the four of a chain

-- whether the chunk is cut into whole subchunks that fit
abbrev pub sharded_fits : SubchunkMeaning → (shape sub : List ℕ) → Bool
sharded_fits m shape sub = is_cut_by shape sub && m.fits

-- the bytes of a chunk's cells
abbrev pub sharded_encoded : SubchunkMeaning → (at_start store_empty : Bool) (fill : Cell) (shape sub : List ℕ) (cells : List Cell) → Option (List ℕ)
sharded_encoded m at_start store_empty fill shape sub cells =
    given_if (sharded_fits m shape sub) (parts_of m store_empty fill shape sub cells >>= written_shard at_start)

-- the cells of a chunk's bytes
abbrev pub sharded_decoded : SubchunkMeaning → (at_start : Bool) → Kind → (fill : Cell) (shape sub : List ℕ) (encoded : List ℕ) → Option (List Cell)
sharded_decoded m at_start k fill shape sub encoded =
    given_if (sharded_fits m shape sub)
    (shard_parts at_start (subchunk_count shape sub) encoded >>= cells_of_parts m k fill shape sub)

-- the compaction of a chunk's bytes
abbrev pub sharded_compacted : (at_start : Bool) (shape sub : List ℕ) (encoded : List ℕ) → Option (Option (List ℕ))
sharded_compacted at_start shape sub encoded =
    given_if (is_cut_by shape sub) (compaction at_start (subchunk_count shape sub) encoded)

-- whether a part is absent, or its bytes leave out cells
abbrev pub part_leaves_out : (inner : List ℕ → Bool) → Option (List ℕ) → Bool
part_leaves_out inner None = true
part_leaves_out inner (Some b) = inner b

-- whether a chunk's bytes leave out cells, where `inner` says so of the bytes of a subchunk
abbrev pub sharded_leaves_out : (inner : List ℕ → Bool) (at_start : Bool) (shape sub : List ℕ) (encoded : List ℕ) → Bool
sharded_leaves_out inner at_start shape sub encoded =
    is_cut_by shape sub && list_any (part_leaves_out inner) (unwrap_or (shard_parts at_start (subchunk_count shape sub) encoded) [])

-- ---- the laws

-- the law of a chain, of shards
pub record IsLawfulShard (m : SubchunkMeaning) (at_start store_empty : Bool) (k : Kind) (fill : Cell) (shape sub : List ℕ) : Type 0 where
  -- values, one for each position of the chunk, decode to what was encoded
  pub round_trip : (cs : List Cell) (b : List ℕ) → are_values k cs ≡ true → length cs ≡ position_count shape
      → sharded_encoded m at_start store_empty fill shape sub cs ≡ Some b → sharded_decoded m at_start k fill shape sub b ≡ Some cs
  -- one cell decodes for each position of the chunk
  pub decoded_len : (b : List ℕ) (cs : List Cell) → sharded_decoded m at_start k fill shape sub b ≡ Some cs → length cs ≡ position_count shape
  -- what decodes are values
  pub decoded_values : (b : List ℕ) (cs : List Cell) → sharded_decoded m at_start k fill shape sub b ≡ Some cs → are_values k cs ≡ true
  -- a compaction decodes to the same, if a u64 counts its bytes
  pub compacted_same : (b less : List ℕ) → sharded_compacted at_start shape sub b ≡ Some (Some less) → length less < 2 ^ 64
      → sharded_decoded m at_start k fill shape sub less ≡ sharded_decoded m at_start k fill shape sub b
  -- and differs from what was compacted
  pub compacted_differs : (b less : List ℕ) → sharded_compacted at_start shape sub b ≡ Some (Some less) → less ≢ b
  -- what was encoded has no compaction
  pub encoded_compact : (cs : List Cell) (b : List ℕ) → sharded_encoded m at_start store_empty fill shape sub cs ≡ Some b
      → sharded_compacted at_start shape sub b ≡ Some None
  -- nothing is encoded that does not fit
  pub unfit : (cs : List Cell) → sharded_fits m shape sub ≡ false → sharded_encoded m at_start store_empty fill shape sub cs ≡ None
  -- nor decoded
  pub unfit_decoded : (b : List ℕ) → sharded_fits m shape sub ≡ false → sharded_decoded m at_start k fill shape sub b ≡ None

-- the bytes are those of their cells, which are not all fill
pub record IsEncodedPart (m : SubchunkMeaning) (fill : Cell) (encoded : List ℕ) : Type 0 where
  pub cells : List Cell
  pub decoded_is : m.decoded encoded ≡ Some cells
  pub encoded_is : m.encoded cells ≡ Some encoded
  pub not_fill : is_all_fill fill cells ≡ false

-- each present part of the shard holds the bytes of its cells, none of them all fill
pub record HoldsEncodedParts (m : SubchunkMeaning) (at_start : Bool) (fill : Cell) (shape sub encoded : List ℕ) : Type 0 where
  pub parts : List (Option (List ℕ))
  pub parts_are : shard_parts at_start (subchunk_count shape sub) encoded ≡ Some parts
  pub each : (j : ℕ) (part : List ℕ) → j < length parts → slice_index_or parts j None ≡ Some part → IsEncodedPart m fill part

-- the bytes are these and have no compaction, or they compact to these
abbrev pub CompactsTo : (at_start : Bool) (shape sub encoded made : List ℕ) → Type 0
CompactsTo at_start shape sub encoded made =
    ((encoded ≡ made) × (sharded_compacted at_start shape sub encoded ≡ Some None))
    ⊎ (sharded_compacted at_start shape sub encoded ≡ Some (Some made))
