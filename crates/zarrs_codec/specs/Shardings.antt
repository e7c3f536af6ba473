-- Chains whose last codec is `sharding_indexed`, over the chain of their subchunks.
use Rattle.std.specs.Prelude.{◌≡◌, ℕ, ◌*◌, ◌≤◌, ◌^◌, Bool, true, false, not, nat_le, slice_index_or, ◌||◌}
use Rattle.std.specs.Prelude.{Option, None, Some, List, [], ◌∷◌, ◌++◌, length, map, take, is_some, unwrap_or, ◌&&◌}
use Rattle.std.specs.List.{list_all, list_any, range_with_len}
use Rattle.zarrs_data_type.specs.Kind.{Kind}
use Rattle.zarrs_data_type.specs.Cell.{Cell, held_size}
use Rattle.zarrs_data_type.specs.ArrayData.{ArrayData, fixed}
use Rattle.zarrs_data_type.specs.Cells.{cells, HasCells}
use Rattle.zarrs_codec_leaf.specs.declared.error.CodecError.{CodecError}
use Rattle.zarrs_codec_leaf.specs.declared.error.CodecError.TheVariants as error
use Rattle.zarrs_codec_shard.specs.PartialShards.{is_met, sharded_partly, stored_parts}
use Rattle.zarrs_codec_shard.specs.Steps.{given_if, all_present}
use Rattle.zarrs_codec_shard.specs.ShardIndex.{IsWriting, PushesPart}
use Rattle.zarrs_codec_shard.specs.declared.shard_index.ShardWriter.{ShardWriter}
use Rattle.zarrs_codec_shard.specs.Sharded.{SubchunkMeaning, part_of, part_leaves_out, first_parts, cells_of_part, cells_of_parts}
use Rattle.zarrs_codec_shard.specs.Sharded.{sharded_fits, sharded_encoded, sharded_decoded, sharded_compacted, sharded_leaves_out}
use Rattle.zarrs_codec_shard.specs.SubchunkData.{HasSubchunks}
use Rattle.zarrs_codec_shard.specs.Subchunks.{is_cut_by, subchunk_box, subchunk_count}
use Rattle.zarrs_codec_shard.specs.Shards.{shard_parts}
use Rattle.zarrs_subset.specs.Boxes.{position_count}
use Rattle.zarrs_subset.specs.Regions.{Box, overlap_of, seen_from}
use Rattle.zarrs_codec_chain.specs.Places.{boxes_meet, shard_places}
use Rattle.zarrs_codec_chain.specs.Chain.{ChainMeaning, is_too_large}

-- what a chain means to subchunks of one shape
abbrev pub subchunk_meaning : ChainMeaning → (store_empty : Bool) → Kind → (fill : Cell) (sub : List ℕ) → SubchunkMeaning
subchunk_meaning m store_empty k fill sub = record {
  fits = m.fits k sub;
  encoded = m.encoded store_empty k fill sub;
  decoded = m.decoded k fill sub;
}

-- the cells of the part of a subchunk
abbrev pub decoded_part : ChainMeaning → Kind → Cell → (sub : List ℕ) → Option (List ℕ) → Option (List Cell)
decoded_part m k f sub part = cells_of_part (subchunk_meaning m false k f sub) f sub part

-- ---- writes of parts, of a shard whose index stands at the end

-- whether a subchunk is too large to be decoded
abbrev pub part_too_large : ChainMeaning → Kind → Cell → (sub : List ℕ) → Option (List ℕ) → Bool
part_too_large m k f sub None = nat_le (2 ^ 64) (position_count sub * held_size k f)
part_too_large m k f sub (Some b) = is_too_large (m.leaves_out sub b) k f sub

-- whether a subchunk decodes, or is too large for that
abbrev pub part_decodes : ChainMeaning → Kind → Cell → (sub : List ℕ) → Option (List ℕ) → Bool
part_decodes m k f sub part = is_some (decoded_part m k f sub part) || part_too_large m k f sub part

-- whether each subchunk that a part of the chunk meets does
abbrev pub all_met_decode : ChainMeaning → Kind → Cell → (shape sub : List ℕ) (part : Box) (parts : List (Option (List ℕ))) → Bool
all_met_decode m k f s sub part parts =
    list_all (λ j. not (is_met s sub part j) || part_decodes m k f sub (slice_index_or parts j None)) (range_with_len 0 (subchunk_count s sub))

-- whether one of them is too large
abbrev pub any_met_too_large : ChainMeaning → Kind → Cell → (shape sub : List ℕ) (part : Box) (parts : List (Option (List ℕ))) → Bool
any_met_too_large m k f s sub part parts =
    list_any (λ j. is_met s sub part j && part_too_large m k f sub (slice_index_or parts j None)) (range_with_len 0 (subchunk_count s sub))

-- the same of what stands at a key
abbrev pub sharded_partly_decodes : ChainMeaning → Kind → Cell → (shape sub : List ℕ) (stored : Option (List ℕ)) (part : Box) → Bool
sharded_partly_decodes m k f s sub None part = true
sharded_partly_decodes m k f s sub (Some b) part = elim (stored_parts (subchunk_count s sub) (Some b)) [
  | None ↦ false
  | Some parts ↦ all_met_decode m k f s sub part parts
]

abbrev pub sharded_partly_too_large : ChainMeaning → Kind → Cell → (shape sub : List ℕ) (stored : Option (List ℕ)) (part : Box) → Bool
sharded_partly_too_large m k f s sub stored part = elim (stored_parts (subchunk_count s sub) stored) [
  | None ↦ false
  | Some parts ↦ any_met_too_large m k f s sub part parts
]

-- ---- reads of parts

-- whether something is too large that a read of this part of a shard decodes whole of the subchunk of this number,
-- whose bytes these are. So it is if the part meets the subchunk, and the inner chain decodes too much of it for the
-- positions that they share.
abbrev pub reads_large_subchunk : ChainMeaning → Kind → Cell → (shape sub : List ℕ) → (part : Box) → (number : ℕ) → (encoded : List ℕ) → Bool
reads_large_subchunk m k f s sub part number b =
    let own = subchunk_box s sub number in
    boxes_meet part own && m.reads_too_large k f sub (seen_from (overlap_of part own) own.start) b

abbrev pub ReadsLargeSubchunk : ChainMeaning → Kind → Cell → (shape sub : List ℕ) → (part : Box) → (number : ℕ) → (encoded : List ℕ) → Type 0
ReadsLargeSubchunk m k f s sub part number b = reads_large_subchunk m k f s sub part number b ≡ true

-- the same of one that is present
abbrev pub reads_large_part : ChainMeaning → Kind → Cell → (shape sub : List ℕ) → (part : Box) → (number : ℕ) → Option (List ℕ) → Bool
reads_large_part m k f s sub part number None = false
reads_large_part m k f s sub part number (Some b) = reads_large_subchunk m k f s sub part number b

-- of one of the subchunks
abbrev pub sharded_reads_too_large : (at_start : Bool) → ChainMeaning → Kind → Cell → (shape sub : List ℕ) → (part : Box) → (encoded : List ℕ) → Bool
sharded_reads_too_large at_start m k f s sub part b = is_cut_by s sub && elim (shard_parts at_start (subchunk_count s sub) b) [
  | None ↦ false
  | Some parts ↦ list_any (λ j. reads_large_part m k f s sub part j (slice_index_or parts j None)) (range_with_len 0 (subchunk_count s sub))
]

-- ---- the chain

-- `sharding_indexed` with subchunks of this shape, which the chain `m` encodes
abbrev pub sharded : (at_start : Bool) (sub : List ℕ) → ChainMeaning → ChainMeaning
sharded at_start sub m = record {
  fits = λ k s. is_cut_by s sub && m.fits k sub;
  encoded = λ store_empty k fill s cs. sharded_encoded (subchunk_meaning m store_empty k fill sub) at_start store_empty fill s sub cs;
  decoded = λ k fill s b. sharded_decoded (subchunk_meaning m false k fill sub) at_start k fill s sub b;
  compacts = true;
  compacted = λ s b. sharded_compacted at_start s sub b;
  leaves_out = λ s b. sharded_leaves_out (m.leaves_out sub) at_start s sub b;
  encodes_partly = not at_start;
  partly_encoded = λ store_empty k fill s stored part cs.
      given_if (not at_start) (sharded_partly (subchunk_meaning m store_empty k fill sub) store_empty fill s sub stored part cs);
  places = shard_places at_start sub;
  reads_too_large = λ k f s part b. sharded_reads_too_large at_start m k f s sub part b;
  partly_decodes = λ k f s stored part. sharded_partly_decodes m k f s sub stored part;
  partly_too_large = λ k f s stored part. sharded_partly_too_large m k f s sub stored part;
}

-- the cells of data that has some
abbrev pub cells_of : Kind → ArrayData → List Cell
cells_of k d = unwrap_or (cells k d) []

-- ---- why the encoding of subchunks refuses. Out of memory may come at any time

-- the chain does not take chunks of this shape
abbrev pub RefusesCut : ChainMeaning → Kind → (shape : List ℕ) → CodecError → Type 0
RefusesCut m k s (error.DoesNotFit _) = m.fits k s ≡ false
RefusesCut m k s error.SizeOverflow = ⊥
RefusesCut m k s error.OutOfMemory = Unit {0}

-- the inner chain does not take them, or else a size is too large
abbrev pub RefusesPart : SubchunkMeaning → Bool → Cell → List Cell → CodecError → Type 0
RefusesPart m empty f cs (error.DoesNotFit _) = m.fits ≡ false
RefusesPart m empty f cs error.SizeOverflow = (m.fits ≡ true) × (part_of m empty f cs ≡ None)
RefusesPart m empty f cs error.OutOfMemory = Unit {0}

-- the chunk is not cut into subchunks that fit, or else a size is too large
abbrev pub RefusesParts : SubchunkMeaning → (at_start empty : Bool) → Cell → (shape sub : List ℕ) → List Cell → CodecError → Type 0
RefusesParts m at_start empty f s sub cs (error.DoesNotFit _) = sharded_fits m s sub ≡ false
RefusesParts m at_start empty f s sub cs error.SizeOverflow = sharded_encoded m at_start empty f s sub cs ≡ None
RefusesParts m at_start empty f s sub cs error.OutOfMemory = Unit {0}

-- the writer of a shard got the part of a subchunk of these cells
pub record PushesCells (m : SubchunkMeaning) (empty : Bool) (f : Cell) (cs : List Cell) (old new : ShardWriter) : Type 0 where
  pub part : Option (List ℕ)
  pub part_is : part_of m empty f cs ≡ Some part
  pub pushes : PushesPart old new part

-- the writer of a shard has the parts of the first n subchunks of a chunk's cells
pub record HasFirstParts (m : SubchunkMeaning) (at_start empty : Bool) (f : Cell) (s sub : List ℕ) (cs : List Cell)
    (count n : ℕ) (writer : ShardWriter) : Type 0 where
  pub parts : List (Option (List ℕ))
  pub parts_are : first_parts m empty f s sub cs n ≡ Some parts
  pub writing : IsWriting at_start count writer parts

-- ---- decoding

-- the cells of the parts of a chunk
abbrev pub decoded_parts : ChainMeaning → Kind → Cell → (shape sub : List ℕ) → List (Option (List ℕ)) → Option (List Cell)
decoded_parts m k f s sub parts = cells_of_parts (subchunk_meaning m false k f sub) k f s sub parts

-- The chunk holds the cells of the first n parts, and its other subchunks are all one filler, which is the fill value's
-- if some part is absent.
pub record HasFirstCells (m : ChainMeaning) (k : Kind) (f : Cell) (s sub : List ℕ) (parts : List (Option (List ℕ))) (n : ℕ)
    (chunk : ArrayData) : Type 0 where
  pub filler : Cell
  pub filler_is : list_all is_some parts ≡ false → filler ≡ f
  pub held : List (List Cell)
  pub held_is : all_present (map (decoded_part m k f sub) (take n parts)) ≡ Some held
  pub has : HasSubchunks k filler s sub held chunk

-- the subchunks that the chunk holds, with the cells of these bytes
pub record HasNextSubchunk (m : ChainMeaning) (k : Kind) (f filler : Cell) (s sub : List ℕ) (held : List (List Cell)) (encoded : List ℕ)
    (chunk : ArrayData) : Type 0 where
  pub next : List Cell
  pub next_is : m.decoded k f sub encoded ≡ Some next
  pub has : HasSubchunks k filler s sub (held ++ next ∷ []) chunk

-- the cells of these bytes are put into the chunk as the subchunk of this number, if it holds those before
abbrev pub PutsPart : ChainMeaning → Kind → Cell → (shape sub : List ℕ) → (number : ℕ) → (encoded : List ℕ) → (old new : ArrayData) → Type 0
PutsPart m k f s sub number encoded old new =
    (filler : Cell) (held : List (List Cell)) → length held ≡ number → HasSubchunks k filler s sub held old
    → HasNextSubchunk m k f filler s sub held encoded new

-- why it refuses: the parts are those of no cells, or some of them leave out cells, and a chunk of fill is too large
abbrev pub RefusesCells : ChainMeaning → Kind → Cell → (shape sub : List ℕ) → List (Option (List ℕ)) → CodecError → Type 0
RefusesCells m k f s sub parts (error.DoesNotFit _) = decoded_parts m k f s sub parts ≡ None
RefusesCells m k f s sub parts error.SizeOverflow =
    (list_any (part_leaves_out (m.leaves_out sub)) parts ≡ true) × (2 ^ 64 ≤ position_count s * held_size k f)
RefusesCells m k f s sub parts error.OutOfMemory = Unit {0}

-- ---- subchunks whose bytes are their cells as they stand in memory

-- The bytes of a subchunk decode to the cells that they are in memory, and others to nothing.
pub record ReadsCells (m : ChainMeaning) (k : Kind) (f : Cell) (sub : List ℕ) : Type 0 where
  pub same : (b : List ℕ) → HasCells k (fixed b) (position_count sub) → cells k (fixed b) ≡ m.decoded k f sub b
  pub none : (b : List ℕ) → (HasCells k (fixed b) (position_count sub) → ⊥) → m.decoded k f sub b ≡ None

-- the cells of the parts are put into the chunk, if all its cells are one filler
abbrev pub CopiesParts : Kind → (shape sub : List ℕ) → List (Option (List ℕ)) → (old new : ArrayData) → Type 0
CopiesParts k s sub parts old new =
    (m : ChainMeaning) (f : Cell) → ReadsCells m k f sub → HasFirstCells m k f s sub parts 0 old → HasFirstCells m k f s sub parts (length parts) new

-- why that refuses
abbrev pub RefusesCopies : Kind → (shape sub : List ℕ) → List (Option (List ℕ)) → CodecError → Type 0
RefusesCopies k s sub parts e = (m : ChainMeaning) (f : Cell) → ReadsCells m k f sub → RefusesCells m k f s sub parts e

-- why one part is refused: its bytes are not the cells of a subchunk
abbrev pub RefusesCopy : Kind → (sub : List ℕ) (encoded : List ℕ) → CodecError → Type 0
RefusesCopy k sub b (error.DoesNotFit _) = HasCells k (fixed b) (position_count sub) → ⊥
RefusesCopy k sub b error.SizeOverflow = ⊥
RefusesCopy k sub b error.OutOfMemory = Unit {0}
