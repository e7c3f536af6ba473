-- The cells of a part of a chunk, of the bytes of its cells.
use Rattle.std.proofs.Common.{◌≡◌, ℕ, ◌+◌, ◌*◌, ◌/◌, ◌<◌, ◌≤◌, Bool, true, false, cond, eqb, ◌&&◌, List, [], length, map, drop, get_or, slice_get, Option, None, Some, refl, sym, ap, ◌∙◌, arith}
use Rattle.std.specs.Prelude.{nat_lt, option_and_then, IsSome}
use Rattle.std.specs.List.{flat_map}
use Rattle.std.specs.Option.{option_map}
use Rattle.std.proofs.lemmas.Bool.{and_from, lt-ltb, eqb-true, eq-eqb}
use Rattle.std.proofs.lemmas.List.{length-map, length-take-le, length-drop}
use Rattle.std.proofs.lemmas.List.Sums.{list_all-from_AllPass, AllPass-from_list_all}
use Rattle.std.proofs.lemmas.List.FromFn.{get_or-map-range_with_len}
use Rattle.std.proofs.lemmas.Nat.{div-mul-add}
use Rattle.std.proofs.lemmas.Option.{slice_get-get_or, slice_get-map, slice_get_within, get_or_from_slice_get}
use Rattle.zarrs_data_type.specs.ArrayData.{ArrayData}
use Rattle.zarrs_data_type.specs.Cells.{cells}
use Rattle.zarrs_data_type_bytes.proofs.Pieces.{length-flat_map_same, length-pieces, pieces-flat_map}
use Rattle.zarrs_codec_leaf.specs.declared.bytes_codec.Endianness.{Endianness}
use Rattle.zarrs_codec_leaf.specs.Bytes.{takes_bytes, reverses, in_order, bytes_meaning_of}
use Rattle.zarrs_codec_leaf.specs.Chosen.{only_parts, some_is}
use Rattle.zarrs_codec_leaf.specs.BoxReads.{box_bytes, MayReadBox}
use Rattle.zarrs_codec_leaf.specs.Sources.{MayRead, window_bytes}
use Rattle.zarrs_codec_leaf.specs.declared.source.Window.{Window}
use Rattle.zarrs_codec_leaf.proofs.Gathered.{read_cells}
use Rattle.zarrs_subset.specs.Boxes.{position_count, place, unravel, BoxFits}
use Rattle.zarrs_subset.specs.Pieces.{piece_at, pieces}
use Rattle.zarrs_subset.specs.Regions.{Box, Holds, IsLong, LiesInShape, box_at_origin, in_box, place_in, positions}
use Rattle.zarrs_subset.proofs.Kernel.{place_below, length_part, cell_ends}
use Rattle.zarrs_subset.proofs.Positions.{length-positions, positions_in, positions_all, positions_once, unravel-place}
use Rattle.zarrs_codec_shard.proofs.SubchunkBoxes.{place_in_chunk}
use Rattle.zarrs_data_type.specs.Cell.{Cell, bytes, is_value, are_values, values_only}
use Rattle.zarrs_data_type_region.proofs.TypeSizes.{element_is}
use Rattle.zarrs_data_type.specs.Kind.{Kind, cell_size, element_size}
use Rattle.zarrs_codec_chain.proofs.PartBoxes.{part_fits, within_shape}
use Rattle.zarrs_codec_chain.specs.Parts.{DecodesPart}
use Rattle.zarrs_codec_chain.specs.Places.{cell_places}
use Rattle.zarrs_data_type_bytes.proofs.FixedSizes.{size_is}

-- ---- the places of a part's cells

-- those of the part are those of its box
pub may_read_part : (may_read : ℕ → Bool) (window : Window) (k : Kind) (size : ℕ) (shape : List ℕ) (part : Box) (encoded : List ℕ) → element_size k ≡ Some size
    → BoxFits part.start part.shape shape → length encoded ≡ position_count shape * size
    → MayRead may_read window (cell_places k shape part encoded) → MayReadBox may_read size shape part.start part.shape window.offset
may_read_part may_read window k size shape part encoded is fits len may p j inside lt =
    let c = place shape p in
    let x = c * size + j in
    let in_shape = within_shape part.start part.shape shape p fits inside in
    let below = place_below shape p in_shape in
    let ends : c * size + size ≤ length encoded = cell_ends size c (position_count shape) (length encoded) below len in
    let number : x / size ≡ c = div-mul-add c size j lt in
    let at : window.offset + c * size + j ≡ window.offset + x = omega arith in
    let same : in_box part (unravel shape (x / size)) ≡ true = ap (λ n. in_box part (unravel shape n)) number ∙ ap (in_box part) (unravel-place shape p in_shape) ∙ inside in
    let few : nat_lt (x / size) (position_count shape) ≡ true = ap (λ n. nat_lt n (position_count shape)) number ∙ lt-ltb c (position_count shape) below in
    let tested = and_from (nat_lt (x / size) (position_count shape)) (in_box part (unravel shape (x / size))) few same in
    ap may_read at
    ∙ may x
    (and_from (nat_lt x (length encoded)) (elim (element_size k) [ None ↦ false | Some s ↦ nat_lt (x / s) (position_count shape) && in_box part (unravel shape (x / s)) ])
    (lt-ltb x (length encoded) (omega arith))
    (ap (λ o. elim o [ None ↦ false | Some s ↦ nat_lt (x / s) (position_count shape) && in_box part (unravel shape (x / s)) ]) is ∙ tested))

-- ---- what decodes

pub piece_get : (size m : ℕ) (b : List ℕ) (i : ℕ) → i < m → slice_get (pieces size m b) i ≡ Some (piece_at size b i)
piece_get size m b i lt =
    slice_get-get_or (pieces size m b) i [] (omega (arith, length-pieces size m b))
    ∙ ap Some (get_or-map-range_with_len (piece_at size b) 0 m i i [] lt (omega arith))

module _ (e : Option Endianness) (k : Kind) (size : ℕ) (is : element_size k ≡ Some size) where
  abbrev cell : List ℕ → Cell
  cell p = bytes (in_order (reverses e k) p)

  abbrev decoding : ℕ → List ℕ → Option (List Cell)
  decoding n b = (bytes_meaning_of e).decoded k n b

  pub decoding_is : (n : ℕ) (b : List ℕ) → decoding n b ≡ cond (takes_bytes e k && eqb (length b) (n * size)) (values_only k (map cell (pieces size n b))) None
  decoding_is n b = ap (option_and_then (λ s. cond (takes_bytes e k && eqb (length b) (n * s)) (values_only k (map cell (pieces s n b))) None)) is

  -- the cells are the pieces
  pub decoded_pieces : (n : ℕ) (b : List ℕ) (cs : List Cell) → decoding n b ≡ Some cs → (cs ≡ map cell (pieces size n b)) × (are_values k cs ≡ true)
  decoded_pieces n b cs made =
      let p = only_parts (takes_bytes e k && eqb (length b) (n * size)) (values_only k (map cell (pieces size n b))) cs (sym (decoding_is n b) ∙ made) in
      let q = only_parts (are_values k (map cell (pieces size n b))) (Some (map cell (pieces size n b))) cs p.1 in
      let same = some_is q.1 in
      (sym same, ap (are_values k) (sym same) ∙ q.0)

  module _ (shape : List ℕ) (part : Box) (all got : List ℕ) (long : IsLong part) (fits : BoxFits part.start part.shape shape)
      (len : length all ≡ position_count shape * size) (got_is : got ≡ flat_map (λ p. piece_at size all (place shape p)) (positions part)) where
    abbrev n : ℕ
    n = position_count part.shape

    abbrev piece : List ℕ → List ℕ
    piece p = piece_at size all (place shape p)

    count : length (positions part) ≡ n
    count = length-positions part.start part.shape long

    length_piece : (p : List ℕ) → Holds part p → length (piece p) ≡ size
    length_piece p holds =
        let below = place_below shape p (within_shape part.start part.shape shape p fits holds) in
        length_part (place shape p * size) size all (cell_ends size (place shape p) (position_count shape) (length all) below len)

    got_pieces : pieces size n got ≡ map piece (positions part)
    got_pieces =
        ap (λ m. pieces size m got) (sym count)
        ∙ ap (pieces size (length (positions part))) got_is
        ∙ pieces-flat_map piece size (positions part)
        (λ i d lt. length_piece (get_or (positions part) i d)
        (positions_in part.start part.shape i (get_or (positions part) i d) long (slice_get-get_or (positions part) i d lt)))

    -- the cell at a position of the part
    got_at : (p : List ℕ) → Holds part p → slice_get (map cell (pieces size n got)) (place_in part p) ≡ Some (cell (piece p))
    got_at p holds =
        let j = place_in part p in
        ap (λ l. slice_get (map cell l) j) got_pieces
        ∙ slice_get-map cell (map piece (positions part)) j
        ∙ ap (option_map cell) (slice_get-map piece (positions part) j ∙ ap (option_map piece) (positions_all part.start part.shape p long holds))

    pub all_at : (p : List ℕ) → Holds part p → slice_get (map cell (pieces size (position_count shape) all)) (place_in (box_at_origin shape) p) ≡ Some (cell (piece p))
    all_at p holds =
        let inside = within_shape part.start part.shape shape p fits holds in
        let below = place_below shape p inside in
        ap (slice_get (map cell (pieces size (position_count shape) all))) (place_in_chunk shape p inside)
        ∙ slice_get-map cell (pieces size (position_count shape) all) (place shape p)
        ∙ ap (option_map cell) (piece_get size (position_count shape) all (place shape p) below)

    -- data with the cells of these bytes has those of the part
    pub decodes_part : (d : ArrayData) → cells k d ≡ decoding n got → IsSome (cells k d) → DecodesPart k shape part (decoding (position_count shape) all) d
    decodes_part d same some = go (cells k d) refl some
      where
        go : (o : Option (List Cell)) → cells k d ≡ o → IsSome o → DecodesPart k shape part (decoding (position_count shape) all) d
        go None made none = cc
        go (Some cs) made present =
            let p = decoded_pieces n got cs (sym same ∙ made) in
            record {
              given = cs;
              are_cells = made;
              count = ap length p.0 ∙ length-map (pieces size n got) cell ∙ length-pieces size n got;
              same = λ whole decoded position holds.
                  let w = decoded_pieces (position_count shape) all whole decoded in
                  ap (λ l. slice_get l (place_in part position)) p.0
                  ∙ got_at position holds
                  ∙ sym (ap (λ l. slice_get l (place_in (box_at_origin shape) position)) w.0 ∙ all_at position holds);
            }

    -- if the bytes of the part are no cells, those of the chunk are none
    pub undecoded_part : takes_bytes e k ≡ true → length got ≡ n * size → decoding n got ≡ None → decoding (position_count shape) all ≡ None
    undecoded_part taken got_len none = go (decoding (position_count shape) all) refl
      where
        value : (whole : List Cell) → decoding (position_count shape) all ≡ Some whole → (i : ℕ) (d : Cell) → i < length (map cell (pieces size n got)) → is_value k (get_or (map cell (pieces size n got)) i d) ≡ true
        value whole made i d lt =
            let w = decoded_pieces (position_count shape) all whole made in
            let below : i < n = omega (arith, length-map (pieces size n got) cell, length-pieces size n got) in
            let p = get_or (positions part) i [] in
            let found = slice_get-get_or (positions part) i [] (omega (arith, count)) in
            let holds = positions_in part.start part.shape i p long found in
            let number : i ≡ place_in part p = positions_once part.start part.shape i p long found in
            let here : slice_get (map cell (pieces size n got)) i ≡ Some (cell (piece p)) = ap (slice_get (map cell (pieces size n got))) number ∙ got_at p holds in
            let there : slice_get whole (place_in (box_at_origin shape) p) ≡ Some (cell (piece p)) = ap (λ l. slice_get l (place_in (box_at_origin shape) p)) w.0 ∙ all_at p holds in
            ap (is_value k) (get_or_from_slice_get (map cell (pieces size n got)) i (cell (piece p)) d here)
            ∙ ap (is_value k) (sym (get_or_from_slice_get whole (place_in (box_at_origin shape) p) (cell (piece p)) d there))
            ∙ AllPass-from_list_all (λ c. is_value k c) whole w.1 (place_in (box_at_origin shape) p) d (slice_get_within whole (place_in (box_at_origin shape) p) (cell (piece p)) there)

        go : (o : Option (List Cell)) → decoding (position_count shape) all ≡ o → decoding (position_count shape) all ≡ None
        go None made = made
        go (Some whole) made =
            let values : are_values k (map cell (pieces size n got)) ≡ true = list_all-from_AllPass (λ c. is_value k c) (map cell (pieces size n got)) (λ i d lt. value whole made i d lt) in
            let present : decoding n got ≡ Some (map cell (pieces size n got)) =
            decoding_is n got
            ∙ ap (λ x. cond x (values_only k (map cell (pieces size n got))) None) (and_from (takes_bytes e k) (eqb (length got) (n * size)) taken (eq-eqb (length got) (n * size) got_len))
            ∙ ap (λ x. cond x (Some (map cell (pieces size n got))) None) values in
            let no : None ≡ Some (map cell (pieces size n got)) = sym none ∙ present in
            cc

    got_length : length got ≡ n * size
    got_length =
        ap length got_is
        ∙ length-flat_map_same piece size (positions part)
        (λ i d lt. length_piece (get_or (positions part) i d)
        (positions_in part.start part.shape i (get_or (positions part) i d) long (slice_get-get_or (positions part) i d lt)))
        ∙ ap (λ m. m * size) count

-- ---- the same, of what the code has

pub window_len : (window : Window) (source : List ℕ) → window.offset + window.len ≤ length source → length (window_bytes window source) ≡ window.len
window_len window source inside = length-take-le window.len (drop window.offset source) (omega (arith, length-drop window.offset source))

-- bytes of another length do not decode
pub wrong_length : (e : Option Endianness) (k : Kind) (size n : ℕ) (b : List ℕ) → element_size k ≡ Some size → (length b ≡ n * size → ⊥) → (bytes_meaning_of e).decoded k n b ≡ None
wrong_length e k size n b is differs = decoding_is e k size is n b ∙ go (eqb (length b) (n * size)) refl
  where
    and_false : (x : Bool) → (x && false) ≡ false
    and_false true = refl
    and_false false = refl

    go : (x : Bool) → eqb (length b) (n * size) ≡ x → cond (takes_bytes e k && eqb (length b) (n * size)) (values_only k (map (cell e k size is) (pieces size n b))) None ≡ None
    go true same = absurd (differs (eqb-true (length b) (n * size) same))
    go false other =
        ap (λ x. cond (takes_bytes e k && x) (values_only k (map (cell e k size is) (pieces size n b))) None) other
        ∙ ap (λ x. cond x (values_only k (map (cell e k size is) (pieces size n b))) None) (and_false (takes_bytes e k))

-- the cells of a part, of the bytes that were read
pub read_part : (e : Option Endianness) (k : Kind) (size : ℕ) (shape : List ℕ) (part : Box) (window : Window) (source got : List ℕ) (d : ArrayData)
    → element_size k ≡ Some size → IsLong part → LiesInShape part shape → window.offset + window.len ≤ length source → window.len ≡ position_count shape * size
    → got ≡ box_bytes size shape part.start part.shape source window.offset
    → cells k d ≡ (bytes_meaning_of e).decoded k (position_count part.shape) got → IsSome (cells k d)
    → DecodesPart k shape part ((bytes_meaning_of e).decoded k (position_count shape) (window_bytes window source)) d
read_part e k size shape part window source got d is long lies inside len got_is same some =
    let fits = part_fits part shape long lies in
    decodes_part e k size is shape part (window_bytes window source) got long fits (window_len window source inside ∙ len)
    (got_is ∙ read_cells size window.len window.offset shape part source fits len) d same some

-- if the bytes that were read are no cells, the bytes of the chunk are none
pub part_refused : (e : Option Endianness) (k : Kind) (size : ℕ) (shape : List ℕ) (part : Box) (window : Window) (source got : List ℕ)
    → element_size k ≡ Some size → IsLong part → LiesInShape part shape → window.offset + window.len ≤ length source → window.len ≡ position_count shape * size
    → got ≡ box_bytes size shape part.start part.shape source window.offset → takes_bytes e k ≡ true
    → (bytes_meaning_of e).decoded k (position_count part.shape) got ≡ None
    → (bytes_meaning_of e).decoded k (position_count shape) (window_bytes window source) ≡ None
part_refused e k size shape part window source got is long lies inside len got_is taken none =
    let fits = part_fits part shape long lies in
    let all_len = window_len window source inside ∙ len in
    let are = got_is ∙ read_cells size window.len window.offset shape part source fits len in
    undecoded_part e k size is shape part (window_bytes window source) got long fits all_len are taken
    (got_length e k size is shape part (window_bytes window source) got long fits all_len are) none

pub sized_cell : (k : Kind) (size : ℕ) → element_size k ≡ Some size → cell_size k ≡ size
sized_cell k size is = size_is k size (element_is k size is).0
