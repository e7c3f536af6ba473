-- The cells of a subchunk, copied over those of its chunk.
use Rattle.std.proofs.Common.{◌≡◌, ℕ, zero, suc, ◌+◌, ◌-◌, ◌*◌, ◌%◌, ◌<◌, ◌≤◌, true, cond, eqb, ◌&&◌, List, [], ◌∷◌, length, replicate, Some, refl, sym, ap, ◌∙◌, arith}
use Rattle.std.specs.Prelude.{nat_le, nat_lt, slice_index}
use Rattle.std.proofs.Math.Nat.{div-add-mod'}
use Rattle.std.proofs.lemmas.Bool.{and_parts, ltb-true, false≢true}
use Rattle.std.proofs.lemmas.List.{length-replicate}
use Rattle.zarrs_data_type.specs.ArrayData.{fixed}
use Rattle.zarrs_data_type.specs.Cells.{HasCells}
use Rattle.zarrs_data_type.specs.Parts.{TakesAt}
use Rattle.zarrs_data_type_bytes.proofs.Fixed.{length-fixed}
use Rattle.zarrs_data_type_bytes.proofs.Parts.{takes-fixed, takes_cells}
use Rattle.zarrs_subset.specs.Boxes.{position_count, place, InShape, BoxFits, in_range, is_within, moved, offset_from, unravel}
use Rattle.zarrs_subset.specs.Cells.{CellsCopied}
use Rattle.zarrs_subset.specs.Pieces.{piece_at}
use Rattle.zarrs_subset.specs.Regions.{Holds, box_at_origin, box_from}
use Rattle.zarrs_subset.proofs.Positions.{unravel_in}
use Rattle.zarrs_data_type_kinds.specs.declared.data_type.DataType.{DataType}
use Rattle.zarrs_data_type.specs.Kind.{kind, element_size}
use Rattle.zarrs_codec_shard.specs.SubchunkData.{PutsSubchunk}
use Rattle.zarrs_codec_shard.specs.Subchunks.{is_cut_by, quotients, corner, subchunk_box, subchunk_count}
use Rattle.zarrs_codec_shard.proofs.Grids.{corner_at, corner_long}
use Rattle.zarrs_codec_shard.proofs.SubchunkBoxes.{long_corner, place_in_chunk}
use Rattle.zarrs_codec_shard.proofs.SubchunkCells.{puts_subchunk}

-- a position of the chunk's box
in_shape_of : (s p : List ℕ) → Holds (box_at_origin s) p → InShape s p
in_shape_of [] [] holds = tt
in_shape_of [] (i ∷ p) holds = absurd (false≢true holds)
in_shape_of (n ∷ s) [] holds = absurd (false≢true holds)
in_shape_of (n ∷ s) (i ∷ p) holds =
    let w = and_parts (in_range 0 n i) (is_within (replicate (length s) 0) s p) holds in
    let lt : i < 0 + n = ltb-true i (0 + n) (and_parts (nat_le 0 i) (nat_lt i (0 + n)) w.0).1 in
    (omega arith, in_shape_of s p w.1)

-- a position, moved from a corner to the origin
moved_home : (from p : List ℕ) (n : ℕ) → n ≡ length from → moved from (replicate n 0) p ≡ offset_from from p
moved_home [] p n is = refl
moved_home (a ∷ from) p zero is = absurd (omega arith)
moved_home (a ∷ from) [] (suc n) is = refl
moved_home (a ∷ from) (i ∷ p) (suc n) is =
    let here : 0 + (i - a) ≡ i - a = omega arith in
    ap (λ x. x ∷ moved from (replicate n 0) p) here ∙ ap (λ l. (i - a) ∷ l) (moved_home from p n (omega arith))

-- the box of an array lies in it
pub whole_fits : (sub : List ℕ) (n : ℕ) → n ≡ length sub → BoxFits (replicate n 0) sub sub
whole_fits [] zero is = tt
whole_fits [] (suc n) is = absurd (omega arith)
whole_fits (c ∷ sub) zero is = absurd (omega arith)
whole_fits (c ∷ sub) (suc n) is = (omega arith, whole_fits sub n (omega arith))

-- and that of a subchunk in its chunk
pub own_fits : (s sub i : List ℕ) → is_cut_by s sub ≡ true → InShape (quotients s sub) i → BoxFits (corner sub i) sub s
own_fits [] [] [] cut in_grid = tt
own_fits [] [] (i ∷ is) cut in_grid = absurd in_grid
own_fits [] (c ∷ sub) i cut in_grid = absurd (false≢true cut)
own_fits (n ∷ s) [] i cut in_grid = absurd (false≢true cut)
own_fits (n ∷ s) (c ∷ sub) [] cut in_grid = absurd in_grid
own_fits (n ∷ s) (c ∷ sub) (i ∷ is) cut in_grid =
    let at = corner_at (n ∷ s) (c ∷ sub) (i ∷ is) 0 cut in_grid (omega arith) in
    (at.below, own_fits s sub is (and_parts (nat_lt 0 c && eqb (n % c) 0) (is_cut_by s sub) cut).1 in_grid.1)

-- no subchunk starts behind the chunk's end
pub starts_fit : (s sub : List ℕ) (k : ℕ) → is_cut_by s sub ≡ true → slice_index (quotients s sub) k * slice_index sub k ≤ slice_index s k
starts_fit [] [] k cut = omega arith
starts_fit [] (c ∷ sub) k cut = absurd (false≢true cut)
starts_fit (n ∷ s) [] k cut = absurd (false≢true cut)
starts_fit (n ∷ s) (c ∷ sub) zero cut = let whole = div-add-mod' n c in omega arith
starts_fit (n ∷ s) (c ∷ sub) (suc k) cut = starts_fit s sub k (and_parts (nat_lt 0 c && eqb (n % c) 0) (is_cut_by s sub) cut).1

-- what a copy of the subchunk's array leaves, over the box of the chunk
copied_taken : (size : ℕ) (s sub at part old new : List ℕ) → length at ≡ length s → CellsCopied size sub (replicate (length s) 0) s at sub part old new
    → TakesAt (box_at_origin s) (box_from at sub) (piece_at size part) (piece_at size old) (piece_at size new)
copied_taken size s sub at part old new long copied position holds =
    let inside = in_shape_of s position holds in
    let here = place_in_chunk s position inside in
    ap (piece_at size new) here ∙ copied position inside
    ∙ ap (λ q. cond (is_within at sub position) (piece_at size part (place sub q)) (piece_at size old (place s position))) (moved_home at position (length s) (sym long))
    ∙ ap (λ j. cond (is_within at sub position) (piece_at size part (place sub (offset_from at position))) (piece_at size old j)) (sym here)

pub puts_copied : (t : DataType) (size : ℕ) (s sub : List ℕ) (n : ℕ) (part old new : List ℕ) → element_size (kind t) ≡ Some size → is_cut_by s sub ≡ true → n < subchunk_count s sub
    → HasCells (kind t) (fixed old) (position_count s) → HasCells (kind t) (fixed part) (position_count sub) → length new ≡ length old
    → CellsCopied size sub (replicate (length s) 0) s (corner sub (unravel (quotients s sub) n)) sub part old new → PutsSubchunk (kind t) s sub n (fixed part) (fixed old) (fixed new)
puts_copied t size s sub n part old new sized cut lt held given len copied =
    let i = unravel (quotients s sub) n in
    let in_grid = unravel_in (quotients s sub) n lt in
    let box = box_at_origin s in
    let own = subchunk_box s sub n in
    let taken = copied_taken size s sub (corner sub i) part old new (corner_long s sub i cut in_grid) copied in
    let long = length-replicate {A = ℕ} (length s) 0 in
    let own_long = long_corner s sub i cut in_grid in
    let new_len : length new ≡ position_count s * size = len ∙ length-fixed (kind t) size sized old (position_count s) held in
    puts_subchunk (kind t) s sub n cut lt (fixed part) (fixed old) (fixed new)
    (takes_cells t box own (fixed part) (fixed old) (fixed new) long own_long held given (takes-fixed (kind t) size box own part old new sized new_len taken))
    held given
