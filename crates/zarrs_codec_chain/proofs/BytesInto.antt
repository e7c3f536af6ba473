-- Cells of a chunk under the codec `bytes` that were put straight into a box.
use Rattle.std.proofs.Common.{◌≡◌, ℕ, ◌+◌, ◌-◌, ◌*◌, ◌≤◌, Bool, true, false, cond, List, [], ◌∷◌, length, slice_get, Option, None, Some, refl, sym, ap, ◌∙◌, subst, arith}
use Rattle.std.specs.Prelude.{nat_le, nat_lt}
use Rattle.std.specs.List.{flat_map}
use Rattle.std.proofs.lemmas.Bool.{and_parts, eq-eqb, false≢true, leb-true}
use Rattle.std.proofs.lemmas.List.{length-reverse}
use Rattle.zarrs_data_type.specs.ArrayData.{fixed}
use Rattle.zarrs_data_type.specs.Cells.{cell_at}
use Rattle.zarrs_codec_leaf.specs.declared.bytes_codec.Endianness.{Endianness}
use Rattle.zarrs_codec_leaf.specs.Bytes.{bytes_meaning_of, in_order, reverses}
use Rattle.zarrs_codec_leaf.specs.Chosen.{some_is}
use Rattle.zarrs_codec_leaf.specs.Sources.{window_bytes}
use Rattle.zarrs_codec_leaf.specs.declared.source.Window.{Window}
use Rattle.zarrs_subset.specs.Boxes.{in_range, is_within, moved, offset_by, offset_from, place, position_count}
use Rattle.zarrs_subset.specs.Pieces.{piece_at}
use Rattle.zarrs_subset.specs.Regions.{Box, IsLong, LiesInShape, box_at_origin, place_in, positions}
use Rattle.zarrs_subset.proofs.Kernel.{cell_ends, length_part, place_below}
use Rattle.zarrs_data_type.specs.Targets.{KeepsOutside, masked, takes_type}
use Rattle.zarrs_data_type_region.proofs.Copies.{in_parent, place_in_parent}
use Rattle.zarrs_data_type_region.proofs.TypeSizes.{element_is, type_taken}
use Rattle.zarrs_data_type.specs.Cell.{Cell, bytes, none, is_element, is_value, takes_any_bytes}
use Rattle.zarrs_data_type.specs.Kind.{Kind, element_size}
use Rattle.zarrs_data_type.specs.Kind as type
use Rattle.zarrs_codec_chain.specs.BytesInto.{AreCells, PutsPart}
use Rattle.zarrs_codec_chain.specs.Parts.{DecodesPartAt}
use Rattle.zarrs_codec_chain.proofs.BytesParts.{all_at, decoded_pieces, window_len}
use Rattle.zarrs_codec_chain.proofs.MovedBoxes.{moved_holds, moved_to}
use Rattle.zarrs_codec_chain.proofs.PartBoxes.{part_fits, within_shape}

-- a position of a part, moved to another box and back
pub moved_back : (to start extents p : List ℕ) → length to ≡ length start → length start ≡ length extents → is_within start extents p ≡ true → moved to start (offset_by to (offset_from start p)) ≡ p
moved_back [] [] [] [] same long holds = refl
moved_back [] [] [] (i ∷ p) same long holds = absurd (false≢true holds)
moved_back [] [] (e ∷ extents) p same long holds = absurd (omega arith)
moved_back [] (s ∷ start) extents p same long holds = absurd (omega arith)
moved_back (t ∷ to) [] extents p same long holds = absurd (omega arith)
moved_back (t ∷ to) (s ∷ start) [] p same long holds = absurd (omega arith)
moved_back (t ∷ to) (s ∷ start) (e ∷ extents) [] same long holds = absurd (false≢true holds)
moved_back (t ∷ to) (s ∷ start) (e ∷ extents) (i ∷ p) same long holds =
    let parts = and_parts (in_range s e i) (is_within start extents p) holds in
    let tests = and_parts (nat_le s i) (nat_lt i (s + e)) parts.0 in
    let low : s ≤ i = leb-true s i tests.0 in
    let first : s + (t + (i - s) - t) ≡ i = omega arith in
    ap (λ x. x ∷ moved to start (offset_by to (offset_from start p))) first ∙ ap (λ l. i ∷ l) (moved_back to start extents p (omega arith) (omega arith) parts.1)

-- ---- values

pub any_element : (k : Kind) (size : ℕ) (b : List ℕ) → element_size k ≡ Some size → takes_any_bytes k ≡ true → length b ≡ size → is_element k b ≡ true
any_element type.bool size b is any len = absurd (false≢true any)
any_element type.int8 size b is any len = eq-eqb (length b) 1 (len ∙ sym (some_is is))
any_element type.int16 size b is any len = eq-eqb (length b) 2 (len ∙ sym (some_is is))
any_element type.int32 size b is any len = eq-eqb (length b) 4 (len ∙ sym (some_is is))
any_element type.int64 size b is any len = eq-eqb (length b) 8 (len ∙ sym (some_is is))
any_element type.uint8 size b is any len = eq-eqb (length b) 1 (len ∙ sym (some_is is))
any_element type.uint16 size b is any len = eq-eqb (length b) 2 (len ∙ sym (some_is is))
any_element type.uint32 size b is any len = eq-eqb (length b) 4 (len ∙ sym (some_is is))
any_element type.uint64 size b is any len = eq-eqb (length b) 8 (len ∙ sym (some_is is))
any_element (type.raw n) size b is any len = eq-eqb (length b) n (len ∙ sym (some_is is))
any_element type.string size b is any len = cc
any_element type.bytes size b is any len = cc
any_element (type.optional inner) size b is any len = cc

pub length_order : (reversed : Bool) (b : List ℕ) → length (in_order reversed b) ≡ length b
length_order true b = length-reverse b
length_order false b = refl

cell_is : (k : Kind) (size : ℕ) (b : List ℕ) (i : ℕ) → element_size k ≡ Some size → cell_at k (fixed b) i ≡ bytes (piece_at size b i)
cell_is k size b i is = ap (λ o. cell_of o) is
  where
    cell_of : Option ℕ → Cell
    cell_of o = elim o [ None ↦ none | Some s ↦ bytes (piece_at s b i) ]

-- ---- what was put

pub puts_keep : (reversed : Bool) (size : ℕ) (shape : List ℕ) (part own : Box) (parent all old new : List ℕ) → PutsPart reversed size shape part parent own all old new
    → KeepsOutside size (box_at_origin parent) own (fixed old) (fixed new)
puts_keep reversed size shape part own parent all old new put = λ position holds out.
    let inside = in_parent parent position holds in
    ap (piece_at size new) (place_in_parent parent position inside)
    ∙ put position inside
    ∙ ap (λ t. cond t (in_order reversed (piece_at size all (place shape (moved own.start part.start position)))) (piece_at size old (place parent position))) out
    ∙ ap (piece_at size old) (sym (place_in_parent parent position inside))

module _ (e : Option Endianness) (k : Kind) (size : ℕ) (is : element_size k ≡ Some size) (any : takes_any_bytes k ≡ true) (shape : List ℕ) (part own : Box) (parent all old new : List ℕ)
    (long : IsLong part) (own_long : IsLong own) (same : own.shape ≡ part.shape) (lies : LiesInShape part shape) (own_lies : LiesInShape own parent)
    (len : length all ≡ position_count shape * size) (put : PutsPart (reverses e k) size shape part parent own all old new) where
  abbrev piece : List ℕ → List ℕ
  piece p = piece_at size all (place shape p)

  -- the cells of the part, in the box
  pub put_decodes : DecodesPartAt k shape part ((bytes_meaning_of e).decoded k (position_count shape) all) (box_at_origin parent) own (fixed new)
  put_decodes = λ position holds.
      let fits = part_fits part shape long lies in
      let q = moved_to own part position in
      let there = moved_holds own part own_long long same position holds in
      let inside = within_shape own.start own.shape parent q (part_fits own parent own_long own_lies) there in
      let starts : length own.start ≡ length part.start = own_long ∙ ap length same ∙ sym long in
      let back : moved own.start part.start q ≡ position = moved_back own.start part.start part.shape position starts long holds in
      let i = place_in (box_at_origin parent) q in
      let b = in_order (reverses e k) (piece position) in
      let here : piece_at size new i ≡ b =
      ap (piece_at size new) (place_in_parent parent q inside)
      ∙ put q inside
      ∙ ap (λ t. cond t (in_order (reverses e k) (piece (moved own.start part.start q))) (piece_at size old (place parent q))) there
      ∙ ap (λ p. in_order (reverses e k) (piece p)) back in
      let is_cell : cell_at k (fixed new) i ≡ bytes b = cell_is k size new i is ∙ ap bytes here in
      let below = place_below shape position (within_shape part.start part.shape shape position fits holds) in
      let width : length b ≡ size = length_order (reverses e k) (piece position) ∙ length_part (place shape position * size) size all (cell_ends size (place shape position) (position_count shape) (length all) below len) in
      record {
        value = ap (is_value k) is_cell ∙ any_element k size b is any width;
        same = λ whole made.
            let w = decoded_pieces e k size is (position_count shape) all whole made in
            ap Some is_cell
            ∙ sym (ap (λ l. slice_get l (place_in (box_at_origin shape) position)) w.0 ∙ all_at e k size is shape part all (flat_map piece (positions part)) long fits len refl position holds);
      }

-- ---- the same, of what the code has

module _ (e : Option Endianness) (k : Kind) (shape : List ℕ) (part own : Box) (parent : List ℕ) (window : Window) (source got : List ℕ) (cell_size depth : ℕ) (old new : List ℕ)
    (are : AreCells e k (position_count shape) window.len) (takes : takes_type cell_size depth k ≡ true) (long : IsLong part) (own_long : IsLong own) (same : own.shape ≡ part.shape)
    (lies : LiesInShape part shape) (own_lies : LiesInShape own parent) (inside : window.offset + window.len ≤ length source) (got_is : got ≡ window_bytes window source) where
  sized : element_size k ≡ Some cell_size
  sized = are.sized ∙ (sym (element_is k are.size are.sized).0 ∙ (type_taken cell_size depth k takes).0)

  no_depth : depth ≡ 0
  no_depth = sym (type_taken cell_size depth k takes).1 ∙ (element_is k are.size are.sized).1

  pub cells_len : length got ≡ position_count shape * cell_size
  cells_len = ap length got_is ∙ window_len window source inside ∙ are.length_is ∙ ap (λ s. position_count shape * s) (some_is (sym are.sized ∙ sized))

  module _ (put : PutsPart (reverses e k) cell_size shape part parent own got old new) (new_depth : ℕ) (same_depth : new_depth ≡ depth) (count new_count : ℕ) (masks new_masks : List ℕ) where
    put_all : PutsPart (reverses e k) cell_size shape part parent own (window_bytes window source) old new
    put_all = subst (λ (all : List ℕ). PutsPart (reverses e k) cell_size shape part parent own all old new) got_is put

    len : length (window_bytes window source) ≡ position_count shape * cell_size
    len = sym (ap length got_is) ∙ cells_len

    pub put_into : DecodesPartAt k shape part ((bytes_meaning_of e).decoded k (position_count shape) (window_bytes window source)) (box_at_origin parent) own (masked new_depth new_count new_masks new)
    put_into =
        subst (λ d. DecodesPartAt k shape part ((bytes_meaning_of e).decoded k (position_count shape) (window_bytes window source)) (box_at_origin parent) own (masked d new_count new_masks new)) (sym (same_depth ∙ no_depth))
        (put_decodes e k cell_size sized are.any shape part own parent (window_bytes window source) old new long own_long same lies own_lies len put_all)

    pub put_outside : KeepsOutside cell_size (box_at_origin parent) own (masked depth count masks old) (masked new_depth new_count new_masks new)
    put_outside =
        subst (λ d. KeepsOutside cell_size (box_at_origin parent) own (masked d count masks old) (masked new_depth new_count new_masks new)) (sym no_depth)
        (subst (λ d. KeepsOutside cell_size (box_at_origin parent) own (fixed old) (masked d new_count new_masks new)) (sym (same_depth ∙ no_depth))
        (puts_keep (reverses e k) cell_size shape part own parent (window_bytes window source) old new put_all))
