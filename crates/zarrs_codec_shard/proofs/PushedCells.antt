-- Cells that are written into a shard as they stand in memory.
use Rattle.std.proofs.Common.{◌≡◌, ℕ, ◌-◌, ◌<◌, ◌≤◌, ◌*◌, true, false, Bool, List, [], length, ◌++◌, take, drop, Option, None, Some, sym, ap, subst, ◌∙◌, arith}
use Rattle.std.specs.Prelude.{not, ◌&&◌, if◌then◌else◌, IfSome}
use Rattle.std.proofs.lemmas.List.{append-nil, drop_all, drop_at, length-append, take_all, take_at}
use Rattle.zarrs_data_type.specs.ArrayData.{fixed}
use Rattle.zarrs_data_type.specs.Cells.{HasCells}
use Rattle.zarrs_data_type.specs.Parts.{ExtractsAt, ExtractsCells}
use Rattle.zarrs_data_type_bytes.proofs.Parts.{extracts_cells, put_whole}
use Rattle.zarrs_subset.specs.Regions.{LiesInBox, Box, IsLong, box_at_origin}
use Rattle.zarrs_subset.specs.Boxes.{position_count}
use Rattle.zarrs_subset.specs.Pieces.{piece_at}
use Rattle.zarrs_data_type.specs.Cell.{Cell}
use Rattle.zarrs_data_type_kinds.specs.declared.data_type.DataType.{DataType}
use Rattle.zarrs_data_type.specs.Kind.{Kind, kind, element_size}
use Rattle.zarrs_codec_shard.specs.declared.shard_index.ShardWriter.{ShardWriter}
use Rattle.zarrs_codec_shard.specs.CellParts.{PushesExtract, PushesSubchunk}
use Rattle.zarrs_codec_shard.specs.Sharded.{is_all_fill}
use Rattle.zarrs_codec_shard.specs.ShardIndex.{IsSameWriter, PushesPart}
use Rattle.zarrs_codec_shard.specs.Subchunks.{is_cut_by, subchunk_box, subchunk_count}
use Rattle.zarrs_codec_shard.proofs.FixedCells.{extracts_fixed}
use Rattle.zarrs_codec_shard.proofs.SubchunkCells.{extracts_subchunk}
use Rattle.zarrs_data_type_bytes.proofs.FixedSizes.{some_is}

-- ---- a list that gets longer, whose new bytes are written over

pub made_longer : (n : ℕ) (held old more new : List ℕ) → new ≡ take n held ++ more → held ≡ old → length old ≤ n → new ≡ old ++ more
made_longer n held old more new is same le =
    is ∙ ap (λ l. take n l ++ more) same ∙ ap (λ l. l ++ more) (take_all n old le)

module _ (old more whole : List ℕ) (start : ℕ) (is : whole ≡ old ++ more) (at : length old ≡ start) where
  pub behind_is : take (length whole - start) (drop start whole) ≡ more
  behind_is =
      let rest : drop start whole ≡ more = ap (drop start) is ∙ drop_at old more start at in
      ap (take (length whole - start)) rest ∙ take_all (length whole - start) more (omega (arith, ap length is, length-append old more))

  pub written_behind : (n : ℕ) (items put : List ℕ) → n ≡ length items → whole ≡ items → length put ≡ length more
      → (let w = take start whole ++ (put ++ drop (length whole - start) (drop start whole)) in take n (w ++ drop (length w) items)) ≡ old ++ put
  written_behind n items put count same len =
      let w = take start whole ++ (put ++ drop (length whole - start) (drop start whole)) in
      let rest : drop start whole ≡ more = ap (drop start) is ∙ drop_at old more start at in
      let none : drop (length whole - start) (drop start whole) ≡ [] =
      ap (drop (length whole - start)) rest ∙ drop_all (length whole - start) more (omega (arith, ap length is, length-append old more)) in
      let first : take start whole ≡ old = ap (take start) is ∙ take_at old more start at in
      let w_is : w ≡ old ++ put = ap (λ l. l ++ (put ++ drop (length whole - start) (drop start whole))) first ∙ ap (λ l. old ++ (put ++ l)) none ∙ ap (λ l. old ++ l) (append-nil put) in
      put_whole n items w count (omega (arith, ap length w_is, ap length is, ap length same, length-append old more, length-append old put)) ∙ w_is

-- ---- the cells at the positions of a part

pub added_extracts : (t : DataType) (size : ℕ) (box part : Box) (bytes added : List ℕ) → element_size (kind t) ≡ Some size → IsLong box → IsLong part → LiesInBox part box
    → HasCells (kind t) (fixed bytes) (position_count box.shape) → length added ≡ position_count part.shape * size
    → ExtractsAt box (piece_at size bytes) part (piece_at size added) → ExtractsCells (kind t) box (fixed bytes) part (fixed added)
added_extracts t size box part bytes added sized long part_long inside has len each =
    extracts_cells t box part (fixed bytes) (fixed added) long part_long inside has (extracts_fixed (kind t) size sized box part bytes added len each)

pub at_some : {A : Type 0} (o : Option A) (x : A) (P : A → Type 0) → o ≡ Some x → IfSome o P → P x
at_some {A = A} o x P is known = subst (λ (o : Option A). IfSome o P) is known

-- ---- the writer

-- a writer that has what another one has that had it
pub same_again : (a b c : ShardWriter) → IsSameWriter a b → IsSameWriter b c → IsSameWriter a c
same_again a b c one other = record {
  place_is = other.place_is ∙ one.place_is;
  encoded_is = other.encoded_is ∙ one.encoded_is;
  entries_are = other.entries_are ∙ one.entries_are;
}

pub pushes_again : (old held new : ShardWriter) (part : Option (List ℕ)) → IsSameWriter old held → PushesPart held new part → PushesPart old new part
pushes_again old held new part same pushes = λ at_start count parts is.
    pushes at_start count parts (record {
      place_is = same.place_is ∙ is.place_is;
      encoded_is = same.encoded_is ∙ is.encoded_is;
      entries_are = same.entries_are ∙ is.entries_are;
    })

module _ (k : Kind) (store_empty : Bool) (fill : Cell) (box : Box) (bytes : List ℕ) (part : Box) (old new : ShardWriter) (added : List ℕ) (x : ExtractsCells k box (fixed bytes) part (fixed added)) where
  pub pushes_fill : (not store_empty && is_all_fill fill x.made) ≡ true → PushesPart old new None → PushesExtract k store_empty fill box bytes part old new
  pushes_fill is pushes = record {
    added = added;
    extracts = x;
    pushes = subst (PushesPart old new) (ap (λ b. if b then None else Some added) (sym is)) pushes;
  }

  pub pushes_added : (not store_empty && is_all_fill fill x.made) ≡ false → PushesPart old new (Some added) → PushesExtract k store_empty fill box bytes part old new
  pushes_added is pushes = record {
    added = added;
    extracts = x;
    pushes = subst (PushesPart old new) (ap (λ b. if b then None else Some added) (sym is)) pushes;
  }

-- the cells of a subchunk
pub pushes_subchunk : (k : Kind) (store_empty : Bool) (fill : Cell) (s sub : List ℕ) (n : ℕ) (bytes : List ℕ) (old new : ShardWriter) → is_cut_by s sub ≡ true → n < subchunk_count s sub
    → PushesExtract k store_empty fill (box_at_origin s) bytes (subchunk_box s sub n) old new → PushesSubchunk k store_empty fill s sub n bytes old new
pushes_subchunk k store_empty fill s sub n bytes old new cut lt x =
    let y = extracts_subchunk k s sub n cut lt (fixed bytes) (fixed x.added) x.extracts in
    record {
      added = x.added;
      extracts = y;
      pushes = subst (λ (cs : List Cell). PushesPart old new (if not store_empty && is_all_fill fill cs then None else Some x.added)) (some_is (sym x.extracts.new_is ∙ y.new_is)) x.pushes;
    }
