-- What a read of a part of a shard has after some of its subchunks.
use Rattle.std.specs.Prelude.{◌≡◌, ℕ, ◌<◌, Bool, true, false, Option, None, Some}
use Rattle.std.specs.Prelude.{List, ◌∷◌, [], ◌++◌, length, slice_get, slice_index_or, nat_eq}
use Rattle.std.specs.Cmp.Lexicographic.{pointwise}
use Rattle.std.specs.List.{list_any}
use Rattle.zarrs_data_type.specs.ArrayData.{ArrayData}
use Rattle.zarrs_data_type.specs.Cells.{cells}
use Rattle.zarrs_codec_shard.specs.Sharded.{SubchunkMeaning, sharded_decoded}
use Rattle.zarrs_codec_shard.specs.Subchunks.{quotients, remainders}
use Rattle.zarrs_subset.specs.Boxes.{position_count, place}
use Rattle.zarrs_subset.specs.Regions.{Box, Holds, cell_in}
use Rattle.zarrs_data_type.specs.Cell.{Cell}
use Rattle.zarrs_data_type.specs.Kind.{Kind}
use Rattle.zarrs_codec_leaf.specs.declared.error.CodecError.TheVariants as codec
use Rattle.zarrs_codec_leaf.specs.Sources.{RefusesSource}
use Rattle.zarrs_codec_chain.specs.declared.error.PartError.{PartError}
use Rattle.zarrs_codec_chain.specs.declared.error.PartError.TheVariants.{Codec, Source}

-- the chain of subchunks decodes as this function does
abbrev pub DecodesAs : SubchunkMeaning → (List ℕ → Option (List Cell)) → Type 0
DecodesAs m decoded = (encoded : List ℕ) → m.decoded encoded ≡ decoded encoded

-- nothing decodes of a shard, whatever its subchunks decode to
abbrev pub IsNoShard : (at_start : Bool) (shape sub encoded : List ℕ) → Type 0
IsNoShard at_start shape sub encoded =
    (m : SubchunkMeaning) (k : Kind) (fill : Cell) → sharded_decoded m at_start k fill shape sub encoded ≡ None

-- whether these are the indices of one of the subchunks
abbrev pub is_among : List (List ℕ) → List ℕ → Bool
is_among done index = list_any (λ i. pointwise nat_eq i index) done

-- the cell is that of a subchunk's part at a place, if the part decodes: an absent one is all fill
abbrev pub IsCellOf : (List ℕ → Option (List Cell)) → (fill : Cell) (at : ℕ) → Option (List ℕ) → Option Cell → Type 0
IsCellOf decoded fill at None cell = cell ≡ Some fill
IsCellOf decoded fill at (Some encoded) cell = (cells : List Cell) → decoded encoded ≡ Some cells → cell ≡ slice_get cells at

-- the cell is the one that the parts of a shard have at a position
abbrev pub IsPartCell : (List ℕ → Option (List Cell)) → (fill : Cell) (shape sub : List ℕ) → List (Option (List ℕ)) → (position : List ℕ) → Option Cell → Type 0
IsPartCell decoded fill shape sub parts position cell =
    IsCellOf decoded fill (place sub (remainders position sub)) (slice_index_or parts (place (quotients shape sub) (quotients position sub)) None) cell

-- the cell is the one of the parts, or fill if its subchunk was not read
abbrev pub IsReadOrFill : Bool → (List ℕ → Option (List Cell)) → (fill : Cell) (shape sub : List ℕ)
    → List (Option (List ℕ)) → (position : List ℕ) → Option Cell → Type 0
IsReadOrFill true decoded fill shape sub parts position cell = IsPartCell decoded fill shape sub parts position cell
IsReadOrFill false decoded fill shape sub parts position cell = cell ≡ Some fill

-- the data has the cells of these subchunks at the positions of the part, and fill at its other positions
pub record HasSubchunkParts (k : Kind) (decoded : List ℕ → Option (List Cell)) (fill : Cell) (shape sub : List ℕ)
    (part : Box) (parts : List (Option (List ℕ))) (done : List (List ℕ)) (held : ArrayData) : Type 0 where
  pub given : List Cell
  pub are_cells : cells k held ≡ Some given
  pub count : length given ≡ position_count part.shape
  pub each : (position : List ℕ) → Holds part position
      → IsReadOrFill (is_among done (quotients position sub)) decoded fill shape sub parts position (cell_in part given position)

-- one more subchunk was read
abbrev pub ReadsSubchunk : Kind → (List ℕ → Option (List Cell)) → (fill : Cell) (shape sub : List ℕ)
    → Box → List (Option (List ℕ)) → (index : List ℕ)
    → ArrayData → ArrayData → Type 0
ReadsSubchunk k decoded fill shape sub part parts index old new =
    (done : List (List ℕ))
    → HasSubchunkParts k decoded fill shape sub part parts done old
    → HasSubchunkParts k decoded fill shape sub part parts (done ++ index ∷ []) new

-- a subchunk that is present does not decode
abbrev pub IsBrokenShard : (List ℕ → Option (List Cell)) → List (Option (List ℕ)) → Type 0
IsBrokenShard decoded parts = (j : ℕ) × (encoded : List ℕ) × (j < length parts) × (slice_index_or parts j None ≡ Some encoded) × (decoded encoded ≡ None)

-- the data has the cells of the parts at each position of the part
pub record HasAllParts (k : Kind) (decoded : List ℕ → Option (List Cell)) (fill : Cell) (shape sub : List ℕ)
    (part : Box) (parts : List (Option (List ℕ))) (held : ArrayData) : Type 0 where
  pub given : List Cell
  pub are_cells : cells k held ≡ Some given
  pub count : length given ≡ position_count part.shape
  pub each : (position : List ℕ) → Holds part position → IsPartCell decoded fill shape sub parts position (cell_in part given position)

-- the box has the indices of the subchunk of each position of the part
abbrev pub MeetsPart : (sub : List ℕ) → (part met : Box) → Type 0
MeetsPart sub part met = (position : List ℕ) → Holds part position → Holds met (quotients position sub)

-- and no others, if the part has a position: each is the subchunk of some position of it
abbrev pub HasOnlyMet : (sub : List ℕ) → (part met : Box) → Type 0
HasOnlyMet sub part met =
    0 < position_count part.shape → (index : List ℕ) → Holds met index → ((position : List ℕ) × Holds part position × (quotients position sub ≡ index))

-- what would be decoded whole of a subchunk that is present is too large
pub record HasTooLarge (TooLarge : (number : ℕ) (encoded : List ℕ) → Type 0) (parts : List (Option (List ℕ))) : Type 0 where
  pub number : ℕ
  pub encoded : List ℕ
  pub below : number < length parts
  pub present : slice_index_or parts number None ≡ Some encoded
  pub large : TooLarge number encoded

-- why a subchunk is not read: one that is present does not decode, or is too large to be decoded, or the source refuses
abbrev pub RefusesStep : (List ℕ → Option (List Cell)) → (TooLarge : (number : ℕ) (encoded : List ℕ) → Type 0)
    → List (Option (List ℕ)) → (refuses : Bool) → PartError → Type 0
RefusesStep decoded TooLarge parts refuses (Codec (codec.DoesNotFit _)) = IsBrokenShard decoded parts
RefusesStep decoded TooLarge parts refuses (Codec codec.SizeOverflow) = HasTooLarge TooLarge parts
RefusesStep decoded TooLarge parts refuses (Codec codec.OutOfMemory) = Unit {0}
RefusesStep decoded TooLarge parts refuses (Source e) = RefusesSource refuses e
