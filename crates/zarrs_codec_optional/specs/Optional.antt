-- The codec `zarrs.optional`: a mask of bools, and the inner cells of the cells that are some.
use Rattle.std.specs.Prelude.{ℕ, zero, suc, ◌+◌, ◌^◌, Bool, false, Option, None, Some, List, [], ◌∷◌, ◌++◌, map}
use Rattle.std.specs.Prelude.{length, take, drop, count_by, nat_lt, ◌==◌, ◌&&◌, if◌then◌else◌}
use Rattle.std.specs.Int.{w64, to_le_bytes, from_le_bytes}
use Rattle.zarrs_metadata_parts.specs.Extension.{◌>>=◌}
use Rattle.zarrs_data_type.specs.Kind.{Kind, inner_of}
use Rattle.zarrs_data_type.specs.Kind as type
use Rattle.zarrs_data_type.specs.Cell.{Cell, bytes, none, some}
use Rattle.zarrs_data_type.specs.Present.{flag_set, present_cells, spread_cells}
use Rattle.zarrs_codec_leaf.specs.Leaf.{LeafMeaning}
use Rattle.zarrs_codec_leaf.specs.PackBits.{flag_of, flag_cell}

-- 1 for a cell that is some, 0 for another
abbrev pub some_flag : Cell → ℕ
some_flag (some c) = 1
some_flag none = 0
some_flag (bytes b) = 0

-- the mask of cells, as cells of bool
abbrev pub mask_cells : List Cell → List Cell
mask_cells cs = map (λ c. flag_cell (some_flag c)) cs

-- two byte strings behind their lengths, if the lengths fit their fields
abbrev pub behind_lengths : List ℕ → List ℕ → Option (List ℕ)
behind_lengths mask inner =
    if nat_lt (length mask) (2 ^ 64) && nat_lt (length inner) (2 ^ 64)
    then Some (to_le_bytes w64 (length mask) ++ (to_le_bytes w64 (length inner) ++ (mask ++ inner))) else None

-- the two byte strings, behind which nothing follows
abbrev pub mask_and_data : List ℕ → Option (List ℕ × List ℕ)
mask_and_data b =
    let mask_len = from_le_bytes w64 (take 8 b) in
    let data_len = from_le_bytes w64 (take 8 (drop 8 b)) in
    if length b == 16 + mask_len + data_len then Some (take mask_len (drop 16 b), drop mask_len (drop 16 b)) else None

-- what a codec makes of cells, but no byte of no cell
abbrev pub encoded_if_any : LeafMeaning → Kind → List Cell → Option (List ℕ)
encoded_if_any leaf k [] = if leaf.takes k then Some [] else None
encoded_if_any leaf k (c ∷ cs) = leaf.encoded k (c ∷ cs)

abbrev pub decoded_if_any : LeafMeaning → Kind → ℕ → List ℕ → Option (List Cell)
decoded_if_any leaf k zero b = if leaf.takes k && (length b == 0) then Some [] else None
decoded_if_any leaf k (suc n) b = leaf.decoded k (suc n) b

-- a codec, except that no cell has no byte
abbrev pub if_any : LeafMeaning → LeafMeaning
if_any leaf = record {
  takes = leaf.takes;
  encoded = encoded_if_any leaf;
  decoded = decoded_if_any leaf;
}

-- whether the inner type of an optional type is taken
abbrev pub takes_optional : LeafMeaning → Kind → Bool
takes_optional inner k = elim (inner_of k) [ None ↦ false | Some u ↦ inner.takes u ]

-- a mask that is 1 for each cell that is some, then the inner cells of those, in their order
abbrev pub optional_meaning : LeafMeaning → LeafMeaning → LeafMeaning
optional_meaning mask inner = record {
  takes = takes_optional inner;
  encoded = λ k cs. do
    u ← inner_of k
    m ← mask.encoded type.bool (mask_cells cs)
    d ← encoded_if_any inner u (present_cells cs)
    behind_lengths m d;
  decoded = λ k n b. do
    u ← inner_of k
    p ← mask_and_data b
    bools ← mask.decoded type.bool n p.0
    present ← decoded_if_any inner u (count_by flag_set (map flag_of bools)) p.1
    Some (spread_cells (map flag_of bools) present);
}
