-- A part of a chunk's cells written into its shard, whose index stands at the end.
use Rattle.std.specs.Prelude.{◌≡◌, ℕ, ◌+◌, ◌-◌, ◌*◌, ◌^◌, Bool, true, false, not, Option, None, Some, List, [], ◌∷◌, ◌++◌, length, map, take, drop}
use Rattle.std.specs.Prelude.{replicate, option_map, unwrap_or, is_some, nat_lt, slice_index_or, ◌&&◌, if◌then◌else◌}
use Rattle.std.specs.List.{flat_map, list_all, range_with_len}
use Rattle.zarrs_data_type.specs.Kind.{Kind}
use Rattle.zarrs_data_type.specs.Cell.{Cell, none, is_value, are_values}
use Rattle.zarrs_subset.specs.Boxes.{position_count, place, unravel, offset_by}
use Rattle.zarrs_subset.specs.Pieces.{pieces}
use Rattle.zarrs_subset.specs.Rearranged.{made_of}
use Rattle.zarrs_subset.specs.Regions.{Box, box_at_origin, in_box, overlap_of, place_in, TakesPart}
use Rattle.zarrs_metadata_parts.specs.Extension.{◌>>=◌}
use Rattle.zarrs_codec_shard.specs.Sharded.{SubchunkMeaning, part_of, cells_of_part, sharded_fits, sharded_decoded}
use Rattle.zarrs_codec_shard.specs.Shards.{absent, entry_bytes, index_in, shard_parts}
use Rattle.zarrs_codec_shard.specs.Steps.{given_if, all_present}
use Rattle.zarrs_codec_shard.specs.Subchunks.{quotients, corner, subchunk_box, subchunk_count}

-- what is done with the key of a chunk
pub data PartialChange : Type 0 where
  -- its bytes from an offset on become these
  put : (offset : ℕ) → (bytes : List ℕ) → PartialChange
  -- it goes
  erase : PartialChange

-- the bytes, those from an offset on being others; a gap is zeros
abbrev pub written_over : (value : List ℕ) (offset : ℕ) (bytes : List ℕ) → List ℕ
written_over value offset bytes = take offset value ++ replicate (offset - length value) 0 ++ bytes ++ drop (offset + length bytes) value

-- what stands at the key afterwards
abbrev pub after : PartialChange → (stored : Option (List ℕ)) → Option (List ℕ)
after (put offset bytes) stored = Some (written_over (unwrap_or stored []) offset bytes)
after erase stored = None

-- ---- the shard that is stored, or the absence of its key

-- its parts: without a key each is absent
abbrev pub stored_parts : (count : ℕ) → Option (List ℕ) → Option (List (Option (List ℕ)))
stored_parts count None = Some (replicate count None)
stored_parts count (Some shard) = shard_parts false count shard

-- the entries of its index
abbrev pub stored_entries : (count : ℕ) → Option (List ℕ) → List (List ℕ)
stored_entries count None = replicate count (entry_bytes absent absent)
stored_entries count (Some shard) = pieces 16 count (index_in false count shard)

-- where its data part ends, which is where the index begins
abbrev pub stored_end : (count : ℕ) → Option (List ℕ) → ℕ
stored_end count None = 0
stored_end count (Some shard) = length shard - count * 16

-- ---- one subchunk

-- whether the part has a position of the subchunk of this number
abbrev pub is_met : (shape sub : List ℕ) (part : Box) (number : ℕ) → Bool
is_met shape sub part number = nat_lt 0 (position_count (overlap_of (subchunk_box shape sub number) part).shape)

-- the cells of the subchunk of this number, those of the part where it has the position
abbrev pub updated_subchunk : (shape sub : List ℕ) (part : Box) (given : List Cell) (number : ℕ) (held : List Cell) → List Cell
updated_subchunk shape sub part given number held =
    made_of
    (λ q. let p = offset_by (corner sub (unravel (quotients shape sub) number)) q in
    if in_box part p then slice_index_or given (place_in part p) none else slice_index_or held (place sub q) none)
    sub

-- what becomes of the subchunk of this number: none if the part does not meet it, and else its part
abbrev pub change_at : SubchunkMeaning → (store_empty : Bool) (fill : Cell) (shape sub : List ℕ) (part : Box) (given : List Cell)
    → (parts : List (Option (List ℕ))) (number : ℕ) → Option (Option (Option (List ℕ)))
change_at m store_empty fill shape sub part given parts number =
    if is_met shape sub part number then (cells_of_part m fill sub (slice_index_or parts number None) >>= λ held.
    option_map Some (part_of m store_empty fill (updated_subchunk shape sub part given number held)))
    else Some None

-- what becomes of the first n subchunks
abbrev pub first_changes : SubchunkMeaning → (store_empty : Bool) (fill : Cell) (shape sub : List ℕ) (part : Box) (given : List Cell)
    → (parts : List (Option (List ℕ))) (n : ℕ) → Option (List (Option (Option (List ℕ))))
first_changes m store_empty fill shape sub part given parts n =
    all_present (map (λ j. change_at m store_empty fill shape sub part given parts j) (range_with_len 0 n))

-- ---- the shard afterwards

-- its parts
abbrev pub changed_parts : List (Option (List ℕ)) → (changes : List (Option (Option (List ℕ)))) → List (Option (List ℕ))
changed_parts [] changes = []
changed_parts (p ∷ parts) [] = p ∷ parts
changed_parts (p ∷ parts) (None ∷ changes) = p ∷ changed_parts parts changes
changed_parts (p ∷ parts) (Some q ∷ changes) = q ∷ changed_parts parts changes

-- the entries of its index: present subchunks that change stand one after another from an offset on
abbrev pub changed_entries : (offset : ℕ) → List (List ℕ) → (changes : List (Option (Option (List ℕ)))) → List (List ℕ)
changed_entries offset [] changes = []
changed_entries offset (e ∷ entries) [] = e ∷ entries
changed_entries offset (e ∷ entries) (None ∷ changes) = e ∷ changed_entries offset entries changes
changed_entries offset (e ∷ entries) (Some None ∷ changes) = entry_bytes absent absent ∷ changed_entries offset entries changes
changed_entries offset (e ∷ entries) (Some (Some b) ∷ changes) =
    entry_bytes offset (length b) ∷ changed_entries (offset + length b) entries changes

-- the bytes of those subchunks
abbrev pub changed_bytes : List (Option (Option (List ℕ))) → List ℕ
changed_bytes changes = flat_map (λ change. unwrap_or (unwrap_or change None) []) changes

-- whether each part is absent
abbrev pub all_absent : List (Option (List ℕ)) → Bool
all_absent parts = list_all (λ part. not (is_some part)) parts

-- the subchunks that change, and the new index, in place of the old one
abbrev pub changed_text : (count : ℕ) → Option (List ℕ) → (changes : List (Option (Option (List ℕ)))) → List ℕ
changed_text count stored changes =
    changed_bytes changes ++ flat_map (λ entry. entry) (changed_entries (stored_end count stored) (stored_entries count stored) changes)

-- what is done with the key: it goes if each subchunk is absent then. Nothing if a size passes u64
abbrev pub write_of : (count : ℕ) → (stored : Option (List ℕ)) (parts : List (Option (List ℕ)))
    → (changes : List (Option (Option (List ℕ)))) → Option PartialChange
write_of count stored parts changes =
    if all_absent (changed_parts parts changes) then Some erase
    else given_if (nat_lt (stored_end count stored + length (changed_text count stored changes)) (2 ^ 64))
    (Some (put (stored_end count stored) (changed_text count stored changes)))

-- what is done with the key of a chunk for the cells of a part. It is nothing if the chunk is not cut into subchunks
-- that fit, or if the shard has no parts. It is nothing too if a subchunk that the part meets does not decode, or if
-- a size is too large.
abbrev pub sharded_partly : SubchunkMeaning → (store_empty : Bool) (fill : Cell) (shape sub : List ℕ)
    → (stored : Option (List ℕ)) (part : Box) (given : List Cell) → Option PartialChange
sharded_partly m store_empty fill shape sub stored part given =
    given_if (sharded_fits m shape sub && nat_lt (subchunk_count shape sub * 16) (2 ^ 64))
    (stored_parts (subchunk_count shape sub) stored >>= λ parts.
    first_changes m store_empty fill shape sub part given parts (subchunk_count shape sub) >>= λ changes.
    write_of (subchunk_count shape sub) stored parts changes)

-- ---- the law

-- the cells of a chunk: without a key each is fill
abbrev pub stored_cells : SubchunkMeaning → Kind → (fill : Cell) (shape sub : List ℕ) → Option (List ℕ) → Option (List Cell)
stored_cells m k fill shape sub None = Some (replicate (position_count shape) fill)
stored_cells m k fill shape sub (Some shard) = sharded_decoded m false k fill shape sub shard

-- the cells of a chunk, with the given ones at the positions of a part
abbrev pub updated_cells : (shape : List ℕ) (part : Box) (given held : List Cell) → List Cell
updated_cells shape part given held =
    made_of (λ p. if in_box part p then slice_index_or given (place_in part p) none else slice_index_or held (place shape p) none) shape

-- the chunk has these cells, except at the positions of a part, where it has the given ones
pub record IsUpdated (shape : List ℕ) (part : Box) (given held : List Cell) (now : Option (List Cell)) : Type 0 where
  pub made : List Cell
  pub made_is : now ≡ Some made
  pub count : length made ≡ position_count shape
  pub takes : TakesPart (box_at_origin shape) part given held made

-- what a partial encode leaves decodes to the updated cells, if what was stored decodes
abbrev pub UpdatesShard : SubchunkMeaning → (store_empty : Bool) → Kind → (fill : Cell) (shape sub : List ℕ) → Type 0
UpdatesShard m store_empty k fill shape sub =
    (stored : Option (List ℕ)) (part : Box) (given held : List Cell) (change : PartialChange)
    → is_value k fill ≡ true → are_values k given ≡ true → length given ≡ position_count part.shape
    → length part.start ≡ length shape → length part.shape ≡ length shape
    → sharded_partly m store_empty fill shape sub stored part given ≡ Some change
    → stored_cells m k fill shape sub stored ≡ Some held
    → IsUpdated shape part given held (stored_cells m k fill shape sub (after change stored))
