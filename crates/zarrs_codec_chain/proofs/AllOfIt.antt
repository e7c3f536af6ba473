-- The part of a chunk that is all of it.
use Rattle.std.proofs.Common.{◌≡◌, ℕ, ◌*◌, ◌<◌, ◌≤◌, true, false, cond, List, [], length, map, take, drop, get_or, slice_get, Option, None, Some, refl, sym, ap, ◌∙◌, subst, arith, suc, ◌+◌, ◌∷◌, replicate}
use Rattle.std.specs.Prelude.{IsSome, slice_index}
use Rattle.std.proofs.lemmas.Bool.{and_from, eq-eqb, false≢true}
use Rattle.std.proofs.lemmas.List.{get_or-map, length-map, take_all}
use Rattle.std.proofs.lemmas.List.Sums.{list_all-from_AllPass}
use Rattle.zarrs_data_type.specs.ArrayData.{ArrayData}
use Rattle.zarrs_data_type.specs.Cells.{cells, cell_at, HasCells}
use Rattle.zarrs_data_type_bytes.proofs.Cells.{HasCells-cells}
use Rattle.zarrs_data_type_bytes.proofs.FixedSizes.{some_is}
use Rattle.zarrs_data_type_bytes.proofs.Pieces.{length-piece, length-pieces}
use Rattle.zarrs_codec_leaf.specs.declared.bytes_codec.Endianness.{Endianness}
use Rattle.zarrs_codec_leaf.specs.declared.error.CodecError.{CodecError}
use Rattle.zarrs_codec_leaf.specs.declared.error.CodecError.TheVariants as codec
use Rattle.zarrs_codec_leaf.specs.Bytes.{bytes_meaning_of, in_order, reverses}
use Rattle.zarrs_codec_leaf.specs.BoxReads.{box_bytes}
use Rattle.zarrs_codec_leaf.specs.Sources.{window_bytes}
use Rattle.zarrs_codec_leaf.specs.declared.source.Window.{Window}
use Rattle.zarrs_codec_leaf.proofs.RowReads.{box_whole}
use Rattle.zarrs_subset.specs.Boxes.{position_count, offset_by, offset_from, BoxFits, InShape}
use Rattle.zarrs_subset.specs.Pieces.{pieces}
use Rattle.zarrs_subset.specs.Regions.{Box, Holds, IsLong, LiesInShape, box_at_origin, place_in}
use Rattle.zarrs_subset.proofs.Positions.{offset_by-from, offset_from-by, offset_from-in}
use Rattle.zarrs_data_type_region.proofs.TargetBoxes.{origin_long}
use Rattle.zarrs_data_type.specs.Cell.{Cell, bytes, is_value, are_values, values_only}
use Rattle.zarrs_data_type.specs.Kind.{Kind}
use Rattle.zarrs_codec_chain.specs.BytesInto.{AreCells}
use Rattle.zarrs_codec_chain.specs.Parts.{DecodesInto, DecodesPart, DecodesPartAt}
use Rattle.zarrs_codec_chain.specs.PartRefusals.{IsWholeError, RefusesIntoDecoding, RefusesPartDecoding}
use Rattle.zarrs_codec_chain.specs.declared.error.PartError.{PartError}
use Rattle.zarrs_codec_chain.specs.declared.error.PartError.TheVariants as part_error
use Rattle.zarrs_codec_chain.proofs.BytesInto.{any_element, length_order}
use Rattle.zarrs_codec_chain.proofs.BytesParts.{decoding_is}
use Rattle.zarrs_codec_chain.proofs.MovedBoxes.{moved_holds, moved_place, moved_to}
use Rattle.zarrs_codec_chain.proofs.PartBoxes.{part_fits}

-- what is read of all cells are all bytes, so what decodes of them is the chunk
pub whole_read : (e : Option Endianness) (k : Kind) (size : ℕ) (shape : List ℕ) (part : Box) (window : Window) (source got : List ℕ) (d : ArrayData)
    → part.shape ≡ shape → IsLong part → LiesInShape part shape → window.len ≡ position_count shape * size
    → got ≡ box_bytes size shape part.start part.shape source window.offset
    → cells k d ≡ (bytes_meaning_of e).decoded k (position_count part.shape) got
    → cells k d ≡ (bytes_meaning_of e).decoded k (position_count shape) (window_bytes window source)
whole_read e k size shape part window source got d all long lies len got_is same =
    let fits : BoxFits part.start shape shape = subst (λ (x : List ℕ). BoxFits part.start x shape) all (part_fits part shape long lies) in
    let bytes_are : got ≡ window_bytes window source =
    got_is ∙ ap (λ (x : List ℕ). box_bytes size shape part.start x source window.offset) all ∙ box_whole size shape part.start source window.offset fits
    ∙ ap (λ n. take n (drop window.offset source)) (sym len) in
    same ∙ ap (λ (x : List ℕ). (bytes_meaning_of e).decoded k (position_count x) got) all ∙ ap ((bytes_meaning_of e).decoded k (position_count shape)) bytes_are

-- bytes that are cells, whatever they are, decode
pub cells_decode : (e : Option Endianness) (k : Kind) (n : ℕ) (b : List ℕ) → AreCells e k n (length b) → IsSome ((bytes_meaning_of e).decoded k n b)
cells_decode e k n b are =
    let size = are.size in
    let cell : List ℕ → Cell = λ p. bytes (in_order (reverses e k) p) in
    let ps = pieces size n b in
    let cs = map cell ps in
    let values : are_values k cs ≡ true = list_all-from_AllPass (λ c. is_value k c) cs (λ i d lt.
    let below : i < length ps = omega (arith, length-map ps cell) in
    let short : i < n = omega (arith, length-pieces size n b) in
    ap (is_value k) (get_or-map cell ps i [] d below)
    ∙ any_element k size (in_order (reverses e k) (get_or ps i [])) are.sized are.any (length_order (reverses e k) (get_or ps i []) ∙ length-piece size n b are.length_is i [] short)) in
    let is : (bytes_meaning_of e).decoded k n b ≡ Some cs =
    decoding_is e k size are.sized n b
    ∙ ap (λ x. cond x (values_only k cs) None) (and_from _ _ are.taken (eq-eqb (length b) (n * size) are.length_is))
    ∙ ap (λ x. cond x (Some cs) None) values in
    subst IsSome (sym is) refl

-- ---- boxes

abbrev box_from_parts : List ℕ → List ℕ → Box
box_from_parts start shape = record { start = start; shape = shape }

zero_start : (start s : List ℕ) → length start ≡ length s → ((k : ℕ) → k < length s → slice_index start k + slice_index s k ≤ slice_index s k) → start ≡ replicate (length s) 0
zero_start [] [] same ends = refl
zero_start [] (e ∷ s) same ends = absurd (omega arith)
zero_start (a ∷ start) [] same ends = absurd (omega arith)
zero_start (a ∷ start) (e ∷ s) same ends =
    let last : a + e ≤ e = ends 0 (omega arith) in
    let first : a ≡ 0 = omega arith in
    ap (λ x. x ∷ start) first ∙ ap (λ l. 0 ∷ l) (zero_start start s (omega arith) (λ k lt. ends (suc k) (omega arith)))

-- a part of the shape of the chunk is all of it
pub origin_box : (part : Box) (s : List ℕ) → part.shape ≡ s → LiesInShape part s → part ≡ box_at_origin s
origin_box part s is lies =
    let start : part.start ≡ replicate (length s) 0 =
    zero_start part.start s lies.same_length (λ k lt. subst (λ (x : List ℕ). slice_index part.start k + slice_index x k ≤ slice_index s k) is (lies.ends k lt)) in
    ap (λ (x : List ℕ). box_from_parts x part.shape) start ∙ ap (λ (x : List ℕ). box_from_parts (replicate (length s) 0) x) is

-- the data of a chunk as the part that is all of it
pub whole_is_part : (k : Kind) (s : List ℕ) (part : Box) (d made : ArrayData) → part ≡ box_at_origin s → made ≡ d → HasCells k d (position_count s) → DecodesPart k s part (cells k d) made
whole_is_part k s part d made part_is same has =
    let h = HasCells-cells k d (position_count s) has in
    record {
      given = h.0;
      are_cells = ap (cells k) same ∙ h.1;
      count = h.2 ∙ ap (λ (b : Box). position_count b.shape) (sym part_is);
      same = λ whole is position holds.
          ap (λ (b : Box). slice_get h.0 (place_in b position)) part_is
          ∙ ap (λ (l : List Cell). slice_get l (place_in (box_at_origin s) position)) (some_is (sym h.1 ∙ is));
    }

-- a target that has the part that is all of a chunk, which decodes, has the chunk
pub whole_part : (k : Kind) (parent shape : List ℕ) (part own : Box) (decoded : Option (List Cell)) (held : ArrayData)
    → IsLong own → own.shape ≡ shape → part ≡ box_at_origin shape → IsSome decoded
    → DecodesPartAt k shape part decoded (box_at_origin parent) own held → DecodesInto k (box_at_origin parent) own decoded held
whole_part k parent shape part own decoded held long same part_is some at = go decoded refl some
  where
    go : (o : Option (List Cell)) → decoded ≡ o → IsSome o → DecodesInto k (box_at_origin parent) own decoded held
    go None is nothing = absurd (false≢true nothing)
    go (Some whole) is present = record {
      whole = whole;
      decoded_is = is;
      has = λ p holds.
          let origin = box_at_origin shape in
          let flat = origin_long shape in
          let q = moved_to origin own p in
          let q_in : Holds origin q = moved_holds origin own flat long (sym same) p holds in
          let here = subst (λ (b : Box). DecodesPartAt k shape b decoded (box_at_origin parent) own held) part_is at q q_in in
          let back : offset_by own.start (offset_from origin.start q) ≡ p =
          ap (offset_by own.start) (offset_from-by origin.start shape (offset_from own.start p) flat (subst (λ (s : List ℕ). InShape s (offset_from own.start p)) same (offset_from-in own.start own.shape p long holds)))
          ∙ offset_by-from own.start own.shape p long holds in
          ap (λ x. Some (cell_at k held (place_in (box_at_origin parent) x))) (sym back)
          ∙ here.same whole is
          ∙ ap (slice_get whole) (moved_place origin own flat long (sym same) p holds);
    }

into_codec : (decoded : Option (List Cell)) (TooLarge : Type 0) (e : CodecError) → (TooLarge → ⊥)
    → RefusesPartDecoding decoded TooLarge false (part_error.Codec e) → RefusesIntoDecoding decoded e
into_codec decoded TooLarge (codec.DoesNotFit _) small why = why
into_codec decoded TooLarge codec.SizeOverflow small why = small why
into_codec decoded TooLarge codec.OutOfMemory small why = why

-- why the part that is all of a chunk in memory, which is not too large, is not read
pub whole_refused : (decoded : Option (List Cell)) (TooLarge : Type 0) (p : PartError) (e : CodecError) → (TooLarge → ⊥)
    → RefusesPartDecoding decoded TooLarge false p → IsWholeError p e → RefusesIntoDecoding decoded e
whole_refused decoded TooLarge (part_error.Codec p) e small why is = subst (RefusesIntoDecoding decoded) (sym is) (into_codec decoded TooLarge p small why)
whole_refused decoded TooLarge (part_error.Source p) e small why is = subst (RefusesIntoDecoding decoded) (sym is) tt

-- the window of all bytes has all of them
pub all_bytes : (b : List ℕ) → window_bytes (record { offset = 0; len = length b }) b ≡ b
all_bytes b = take_all (length b) b (omega arith)
