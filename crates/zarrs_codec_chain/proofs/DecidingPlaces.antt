-- The places of a part decide its cells: of all bytes, of cells one after another, and of shards.
use Rattle.std.proofs.Common.{◌≡◌, ℕ, zero, suc, ◌+◌, ◌-◌, ◌*◌, ◌/◌, ◌<◌, ◌≤◌, Bool, true, false, cond, eqb, not, ◌&&◌, ◌||◌, List, [], ◌∷◌, length, map, take, drop, get_or, replicate, slice_get, Option, None, Some, refl, sym, ap, subst, ◌∙◌, arith}
use Rattle.std.specs.Prelude.{max, min, nat_lt, nat_le, slice_range, unwrap_or}
use Rattle.std.specs.Int.{w64, from_le_bytes}
use Rattle.std.specs.List.{list_any, range_with_len}
use Rattle.std.specs.Option.{option_map}
use Rattle.std.proofs.lemmas.Bool.{and_from, and_parts, false≢true, le-leb, leb-true, lt-ltb, ltb-true, or_left, or_right}
use Rattle.std.proofs.lemmas.List.{ext_get_or, get_or-drop, get_or-map, length-drop, length-map}
use Rattle.std.proofs.lemmas.List.Folds.{list_any_at}
use Rattle.std.proofs.lemmas.List.FromFn.{get_or-map-range_with_len, get_or-range_with_len, length-range_with_len}
use Rattle.std.proofs.lemmas.Nat.{div-mul-add}
use Rattle.std.proofs.lemmas.Option.{slice_get-get_or, slice_get-map, unwrap_or-slice_get}
use Rattle.std.proofs.Math.Nat.{mul-pos}
use Rattle.zarrs_metadata_parts.specs.Extension.{◌>>=◌}
use Rattle.zarrs_data_type.specs.Cell.{Cell, bytes, none, values_only}
use Rattle.zarrs_data_type.specs.Kind.{Kind, element_size}
use Rattle.zarrs_data_type_bytes.proofs.FixedSizes.{some_is}
use Rattle.zarrs_data_type_bytes.proofs.Pieces.{length-pieces}
use Rattle.zarrs_subset.specs.Boxes.{InShape, in_range, is_within, overlap_extents, place, position_count, unravel}
use Rattle.zarrs_subset.specs.Pieces.{piece_at, pieces}
use Rattle.zarrs_subset.specs.Regions.{Box, Holds, box_at_origin, in_box}
use Rattle.zarrs_subset.proofs.Kernel.{place_below}
use Rattle.zarrs_subset.proofs.Positions.{unravel-place}
use Rattle.zarrs_subset.proofs.RearrangedCells.{made_at}
use Rattle.zarrs_codec_leaf.specs.Bytes.{bytes_meaning_of, in_order, reverses, takes_bytes}
use Rattle.zarrs_codec_leaf.specs.Chosen.{bind_parts}
use Rattle.zarrs_codec_leaf.specs.declared.bytes_codec.Endianness.{Endianness}
use Rattle.zarrs_codec_shard.specs.Sharded.{SubchunkMeaning, cells_of_part, cells_of_parts, sharded_decoded, sharded_fits}
use Rattle.zarrs_codec_shard.specs.Shards.{absent, data_end, data_start, index_in, named_part, shard_parts}
use Rattle.zarrs_codec_shard.specs.Steps.{all_present, given_if}
use Rattle.zarrs_codec_shard.specs.Subchunks.{assembled, corner, is_cut_by, quotients, remainders, subchunk_box, subchunk_count}
use Rattle.zarrs_codec_shard.proofs.Cuts.{length-assembled, position_divided}
use Rattle.zarrs_codec_shard.proofs.Missing.{all_present-at, given_if-parts, values_only_parts}
use Rattle.zarrs_codec_shard.proofs.Missing as missing
use Rattle.zarrs_codec_shard.proofs.ShardLaws.{length-shard_parts}
use Rattle.zarrs_codec_shard.proofs.SubchunkBoxes.{holds_own}
use Rattle.zarrs_codec_chain.proofs.BytesParts.{decoded_pieces, piece_get}
use Rattle.zarrs_codec_chain.specs.Deciding.{Decoding, PlacesDecide}
use Rattle.zarrs_codec_chain.specs.Places.{all_places, boxes_meet, cell_places, is_index_place, is_range_place, shard_places}

-- ---- lists that agree in part

same_read : (x y : List ℕ) (n : ℕ) → slice_get y n ≡ slice_get x n → get_or y n 0 ≡ get_or x n 0
same_read x y n same = sym (unwrap_or-slice_get y n 0) ∙ ap (λ o. unwrap_or o 0) same ∙ unwrap_or-slice_get x n 0

same_take : (k : ℕ) (x y : List ℕ) → length y ≡ length x → ((n : ℕ) → n < k → n < length x → get_or y n 0 ≡ get_or x n 0) → take k y ≡ take k x
same_take zero x y long each = refl
same_take (suc k) [] [] long each = refl
same_take (suc k) [] (b ∷ y) long each = absurd (omega arith)
same_take (suc k) (a ∷ x) [] long each = absurd (omega arith)
same_take (suc k) (a ∷ x) (b ∷ y) long each =
    let first : b ≡ a = each 0 (omega arith) (omega arith) in
    ap (λ c. c ∷ take k y) first ∙ ap (λ l. a ∷ l) (same_take k x y (omega arith) (λ n lt short. each (suc n) (omega arith) (omega arith)))

module _ (x y : List ℕ) (long : length y ≡ length x) where
  dropped : (a : ℕ) → length (drop a y) ≡ length (drop a x)
  dropped a = length-drop a y ∙ ap (λ n. n - a) long ∙ sym (length-drop a x)

  -- behind a place
  same_drop : (a : ℕ) → ((n : ℕ) → a ≤ n → n < length x → slice_get y n ≡ slice_get x n) → drop a y ≡ drop a x
  same_drop a each =
      ext_get_or 0 (drop a y) (drop a x) (dropped a)
      (λ i lt. get_or-drop a y i 0 ∙ same_read x y (a + i) (each (a + i) (omega arith) (omega (arith, length-drop a y))) ∙ sym (get_or-drop a x i 0))

  -- in a range
  same_slice : (a b : ℕ) → ((n : ℕ) → a ≤ n → n < b → n < length x → slice_get y n ≡ slice_get x n) → slice_range y a b ≡ slice_range x a b
  same_slice a b each =
      same_take (b - a) (drop a x) (drop a y) (dropped a)
      (λ i lt short. get_or-drop a y i 0 ∙ same_read x y (a + i) (each (a + i) (omega arith) (omega arith) (omega (arith, length-drop a x))) ∙ sym (get_or-drop a x i 0))

-- a position of the box of a chunk is one of the chunk
in_chunk : (s p : List ℕ) → Holds (box_at_origin s) p → InShape s p
in_chunk [] [] is = tt
in_chunk [] (i ∷ p) is = absurd (false≢true is)
in_chunk (n ∷ s) [] is = absurd (false≢true is)
in_chunk (n ∷ s) (i ∷ p) is =
    let q = and_parts (in_range 0 n i) (is_within (replicate (length s) 0) s p) is in
    let r = and_parts (nat_le 0 i) (nat_lt i (0 + n)) q.0 in
    ((let lt : i < 0 + n = ltb-true i (0 + n) r.1 in omega arith), in_chunk s p q.1)

-- ---- all places

pub all_decide : (decoded : Decoding) → PlacesDecide decoded all_places
all_decide decoded k f s part x y cs ds is_x is_y long same p inside within =
    let whole : y ≡ x = same_drop x y long 0 (λ n from below. same n (lt-ltb n (length x) below)) in
    ap (λ l. slice_get l (place s p)) (some_is (sym is_y ∙ ap (decoded k f s) whole ∙ is_x))

-- ---- cells one after another

module _ (e : Option Endianness) (k : Kind) (size : ℕ) (is : element_size k ≡ Some size) (s : List ℕ) (part : Box) (x y : List ℕ) (long : length y ≡ length x)
    (same : (n : ℕ) → cell_places k s part x n ≡ true → slice_get y n ≡ slice_get x n) (p : List ℕ) (inside : InShape s p) (within : Holds part p) where
  abbrev cell : List ℕ → Cell
  cell b = bytes (in_order (reverses e k) b)

  at_place : (b : List ℕ) (cs : List Cell) → (bytes_meaning_of e).decoded k (position_count s) b ≡ Some cs → slice_get cs (place s p) ≡ Some (cell (piece_at size b (place s p)))
  at_place b cs made =
      ap (λ l. slice_get l (place s p)) (decoded_pieces e k size is (position_count s) b cs made).0
      ∙ slice_get-map cell (pieces size (position_count s) b) (place s p)
      ∙ ap (option_map cell) (piece_get size (position_count s) b (place s p) (place_below s p inside))

  is_cell_place : (n : ℕ) → place s p * size ≤ n → n < place s p * size + size → n < length x → cell_places k s part x n ≡ true
  is_cell_place n from to short =
      let c = place s p in
      let j = n - c * size in
      let split : n ≡ c * size + j = omega arith in
      let number : n / size ≡ c = ap (λ m. m / size) split ∙ div-mul-add c size j (omega arith) in
      let few : nat_lt (n / size) (position_count s) ≡ true = ap (λ m. nat_lt m (position_count s)) number ∙ lt-ltb c (position_count s) (place_below s p inside) in
      let held : in_box part (unravel s (n / size)) ≡ true = ap (λ m. in_box part (unravel s m)) number ∙ ap (in_box part) (unravel-place s p inside) ∙ within in
      let test : Option ℕ → Bool = λ o. elim o [ None ↦ false | Some z ↦ nat_lt (n / z) (position_count s) && in_box part (unravel s (n / z)) ] in
      and_from (nat_lt n (length x)) (test (element_size k)) (lt-ltb n (length x) short)
      (ap test is ∙ and_from (nat_lt (n / size) (position_count s)) (in_box part (unravel s (n / size))) few held)

  same_cell : (cs ds : List Cell) → (bytes_meaning_of e).decoded k (position_count s) x ≡ Some cs → (bytes_meaning_of e).decoded k (position_count s) y ≡ Some ds
      → slice_get ds (place s p) ≡ slice_get cs (place s p)
  same_cell cs ds is_x is_y =
      let c = place s p * size in
      at_place y ds is_y
      ∙ ap (λ b. Some (cell b)) (same_slice x y long c (c + size) (λ n from to short. same n (is_cell_place n from to short)))
      ∙ sym (at_place x cs is_x)

pub cells_decide : (e : Option Endianness) → PlacesDecide (λ k f s b. (bytes_meaning_of e).decoded k (position_count s) b) cell_places
cells_decide e k f s part x y cs ds is_x is_y long same p inside within =
    let size = bind_parts (element_size k) (λ z. cond (takes_bytes e k && eqb (length x) (position_count s * z)) (values_only k (map (λ b. bytes (in_order (reverses e k) b)) (pieces z (position_count s) x))) None) cs is_x in
    same_cell e k size.0 size.1 s part x y long same p (in_chunk s p inside) within cs ds is_x is_y

-- ---- shards

-- two boxes that have one position meet
meet_at : (S X T Y p : List ℕ) → is_within S X p ≡ true → is_within T Y p ≡ true → 0 < position_count (overlap_extents S X T Y)
meet_at [] X [] Y [] one other = omega arith
meet_at [] X [] Y (i ∷ p) one other = absurd (false≢true one)
meet_at [] X (t ∷ T) Y (i ∷ p) one other = absurd (false≢true one)
meet_at [] X (t ∷ T) [] [] one other = absurd (false≢true other)
meet_at [] X (t ∷ T) (y ∷ Y) [] one other = absurd (false≢true other)
meet_at (s ∷ S) [] T Y p one other = absurd (false≢true one)
meet_at (s ∷ S) (x ∷ X) T Y [] one other = absurd (false≢true one)
meet_at (s ∷ S) (x ∷ X) [] Y (i ∷ p) one other = absurd (false≢true other)
meet_at (s ∷ S) (x ∷ X) (t ∷ T) [] (i ∷ p) one other = absurd (false≢true other)
meet_at (s ∷ S) (x ∷ X) (t ∷ T) (y ∷ Y) (i ∷ p) one other =
    let a = and_parts (in_range s x i) (is_within S X p) one in
    let b = and_parts (in_range t y i) (is_within T Y p) other in
    let c = and_parts (nat_le s i) (nat_lt i (s + x)) a.0 in
    let d = and_parts (nat_le t i) (nat_lt i (t + y)) b.0 in
    let c_from : s ≤ i = leb-true s i c.0 in
    let c_to : i < s + x = ltb-true i (s + x) c.1 in
    let d_from : t ≤ i = leb-true t i d.0 in
    let d_to : i < t + y = ltb-true i (t + y) d.1 in
    let some : 0 < min (s + x) (t + y) - max s t = omega arith in
    mul-pos some (meet_at S X T Y p a.1 b.1)

-- the index, where its places are the same
same_index : (at_start : Bool) (count : ℕ) (x y : List ℕ) → length y ≡ length x
    → ((n : ℕ) → n < length x → is_index_place at_start count (length x) n ≡ true → slice_get y n ≡ slice_get x n) → index_in at_start count y ≡ index_in at_start count x
same_index true count x y long each = same_take (count * 16) x y long (λ n lt short. same_read x y n (each n short (lt-ltb n (count * 16) lt)))
same_index false count x y long each =
    ap (λ l. drop (l - count * 16) y) long
    ∙ same_drop x y long (length x - count * 16) (λ n from short. each n short (le-leb (length x - count * 16) n from))

-- a part, where the places of its range are the same
same_part : (start end : ℕ) (entry x y : List ℕ) (a b : Option (List ℕ)) → length y ≡ length x
    → ((n : ℕ) → n < length x → is_range_place entry n ≡ true → slice_get y n ≡ slice_get x n) → named_part x start end entry ≡ Some a → named_part y start end entry ≡ Some b → b ≡ a
same_part start end entry x y a b long each is_x is_y =
    go (eqb offset absent && eqb len absent) refl is_x is_y
  where
    offset : ℕ
    offset = from_le_bytes w64 (take 8 entry)

    len : ℕ
    len = from_le_bytes w64 (drop 8 entry)

    fits : Bool
    fits = nat_le start offset && nat_le (offset + len) end

    named : Bool → List ℕ → Option (Option (List ℕ))
    named out z = cond out (Some None) (given_if fits (Some (Some (slice_range z offset (offset + len)))))

    go : (out : Bool) → (eqb offset absent && eqb len absent) ≡ out → named out x ≡ Some a → named out y ≡ Some b → b ≡ a
    go true out is_x is_y = sym (some_is is_y) ∙ some_is is_x
    go false present is_x is_y =
        let p = given_if-parts fits (Some (Some (slice_range x offset (offset + len)))) a is_x in
        let q = given_if-parts fits (Some (Some (slice_range y offset (offset + len)))) b is_y in
        sym (some_is q.1)
        ∙ ap Some (same_slice x y long offset (offset + len) (λ n from to short. each n short (
        ap (λ o. not o && (nat_le offset n && nat_lt n (offset + len))) present
        ∙ and_from (nat_le offset n) (nat_lt n (offset + len)) (le-leb offset n from) (lt-ltb n (offset + len) to))))
        ∙ some_is p.1

-- the part of number j
part_named : (at_start : Bool) (count : ℕ) (b : List ℕ) (parts : List (Option (List ℕ))) (j : ℕ) → shard_parts at_start count b ≡ Some parts → j < count
    → named_part b (data_start at_start count) (data_end at_start count (length b)) (piece_at 16 (index_in at_start count b) j) ≡ Some (get_or parts j None)
part_named at_start count b parts j made lt =
    let read = named_part b (data_start at_start count) (data_end at_start count (length b)) in
    let entries = pieces 16 count (index_in at_start count b) in
    let p = given_if-parts (nat_le (count * 16) (length b)) (all_present (map read entries)) parts made in
    let n = length-pieces 16 count (index_in at_start count b) in
    ap read (sym (get_or-map-range_with_len (piece_at 16 (index_in at_start count b)) 0 count j j [] lt (omega arith)))
    ∙ sym (get_or-map read entries j [] None (omega arith))
    ∙ all_present-at (map read entries) parts j None None p.1 (omega (arith, length-map entries read))

-- the cell at a position of a shard: the one that the part of its subchunk has
record IsCellAt (m : SubchunkMeaning) (at_start : Bool) (f : Cell) (s sub : List ℕ) (b : List ℕ) (cs : List Cell) (p : List ℕ) : Type 0 where
  parts : List (Option (List ℕ))
  parts_are : shard_parts at_start (subchunk_count s sub) b ≡ Some parts
  held : List Cell
  held_is : cells_of_part m f sub (get_or parts (place (quotients s sub) (quotients p sub)) None) ≡ Some held
  cut : is_cut_by s sub ≡ true
  cell : slice_get cs (place s p) ≡ Some (get_or held (place sub (remainders p sub)) none)

module _ (m : SubchunkMeaning) (at_start : Bool) (k : Kind) (f : Cell) (s sub : List ℕ) (p : List ℕ) (inside : InShape s p) where
  abbrev number : ℕ
  number = place (quotients s sub) (quotients p sub)

  cell_at : (b : List ℕ) (cs : List Cell) → sharded_decoded m at_start k f s sub b ≡ Some cs → IsCellAt m at_start f s sub b cs p
  cell_at b cs made =
      let count = subchunk_count s sub in
      let P = cells_of_part m f sub in
      let a = given_if-parts (sharded_fits m s sub) (shard_parts at_start count b >>= cells_of_parts m k f s sub) cs made in
      let q = missing.bind_parts (shard_parts at_start count b) (cells_of_parts m k f s sub) cs a.1 in
      let r = missing.bind_parts (all_present (map P q.0)) (λ subchunks. values_only k (assembled s sub subchunks)) cs q.2 in
      let v = values_only_parts k (assembled s sub r.0) cs r.2 in
      let cut = (and_parts (is_cut_by s sub) m.fits a.0).0 in
      let d = position_divided s sub p cut inside in
      let lt : number < count = place_below (quotients s sub) (quotients p sub) d.in_grid in
      let n = length-shard_parts at_start count b q.0 q.1 in
      let below = place_below s p inside in
      let F : List ℕ → Cell = λ p. get_or (get_or r.0 (place (quotients s sub) (quotients p sub)) []) (place sub (remainders p sub)) none in
      record {
        parts = q.0;
        parts_are = q.1;
        held = get_or r.0 number [];
        held_is = sym (get_or-map P q.0 number None None (omega arith)) ∙ all_present-at (map P q.0) r.0 number None [] r.1 (omega (arith, length-map q.0 P));
        cut = cut;
        cell =
            ap (λ l. slice_get l (place s p)) (sym v.1)
            ∙ slice_get-get_or (assembled s sub r.0) (place s p) none (omega (arith, length-assembled s sub r.0))
            ∙ ap Some (made_at F s p none inside);
      }

  -- the subchunk of the position is one that a part with the position meets
  meets : (part : Box) → is_cut_by s sub ≡ true → Holds part p → boxes_meet part (subchunk_box s sub number) ≡ true
  meets part cut within =
      let d = position_divided s sub p cut inside in
      let own = holds_own s sub (quotients p sub) (remainders p sub) cut d.in_grid d.in_part in
      let at : unravel (quotients s sub) number ≡ quotients p sub = unravel-place (quotients s sub) (quotients p sub) d.in_grid in
      let box = subchunk_box s sub number in
      let here : is_within (corner sub (quotients p sub)) sub p ≡ true = subst (λ r. is_within (corner sub (quotients p sub)) sub r ≡ true) d.again own in
      let has : is_within box.start box.shape p ≡ true = subst (λ q. is_within (corner sub q) sub p ≡ true) (sym at) here in
      lt-ltb 0 (position_count (overlap_extents part.start part.shape box.start box.shape)) (meet_at part.start part.shape box.start box.shape p within has)

  module _ (part : Box) (within : Holds part p) (x y : List ℕ) (long : length y ≡ length x) (same : (n : ℕ) → shard_places at_start sub k s part x n ≡ true → slice_get y n ≡ slice_get x n) where
    abbrev count : ℕ
    count = subchunk_count s sub

    abbrev index : List ℕ
    index = index_in at_start count x

    abbrev ranged : ℕ → ℕ → Bool
    ranged n j = boxes_meet part (subchunk_box s sub j) && is_range_place (piece_at 16 index j) n

    index_place : (n : ℕ) → n < length x → is_index_place at_start count (length x) n ≡ true → shard_places at_start sub k s part x n ≡ true
    index_place n short is =
        and_from (nat_lt n (length x)) (is_index_place at_start count (length x) n || list_any (ranged n) (range_with_len 0 count)) (lt-ltb n (length x) short)
        (or_left (is_index_place at_start count (length x) n) (list_any (ranged n) (range_with_len 0 count)) is)

    range_place : is_cut_by s sub ≡ true → number < count → (n : ℕ) → n < length x → is_range_place (piece_at 16 index number) n ≡ true → shard_places at_start sub k s part x n ≡ true
    range_place cut lt n short is =
        let own : ranged n number ≡ true = and_from (boxes_meet part (subchunk_box s sub number)) (is_range_place (piece_at 16 index number) n) (meets part cut within) is in
        let at : get_or (range_with_len 0 count) number 0 ≡ number = get_or-range_with_len 0 count number 0 lt ∙ (let e : 0 + number ≡ number = omega arith in e) in
        let any = list_any_at (ranged n) (range_with_len 0 count) number 0 (omega (arith, length-range_with_len 0 count)) (ap (ranged n) at ∙ own) in
        and_from (nat_lt n (length x)) (is_index_place at_start count (length x) n || list_any (ranged n) (range_with_len 0 count)) (lt-ltb n (length x) short)
        (or_right (is_index_place at_start count (length x) n) (list_any (ranged n) (range_with_len 0 count)) any)

    same_shard_cell : (cs ds : List Cell) → sharded_decoded m at_start k f s sub x ≡ Some cs → sharded_decoded m at_start k f s sub y ≡ Some ds → slice_get ds (place s p) ≡ slice_get cs (place s p)
    same_shard_cell cs ds is_x is_y =
        let a = cell_at x cs is_x in
        let b = cell_at y ds is_y in
        let d = position_divided s sub p a.cut inside in
        let lt : number < count = place_below (quotients s sub) (quotients p sub) d.in_grid in
        let start = data_start at_start count in
        let same_entry = ap (λ l. piece_at 16 l number) (same_index at_start count x y long (λ n short is. same n (index_place n short is))) in
        let named =
        ap (λ n. named_part y start (data_end at_start count n) (piece_at 16 index number)) (sym long)
        ∙ ap (named_part y start (data_end at_start count (length y))) (sym same_entry)
        ∙ part_named at_start count y b.parts number b.parts_are lt in
        let same_parts : get_or b.parts number None ≡ get_or a.parts number None =
        same_part start (data_end at_start count (length x)) (piece_at 16 index number) x y (get_or a.parts number None) (get_or b.parts number None) long
        (λ n short is. same n (range_place a.cut lt n short is)) (part_named at_start count x a.parts number a.parts_are lt) named in
        let same_held : b.held ≡ a.held = some_is (sym b.held_is ∙ ap (cells_of_part m f sub) same_parts ∙ a.held_is) in
        b.cell ∙ ap (λ h. Some (get_or h (place sub (remainders p sub)) none)) same_held ∙ sym a.cell

pub shards_decide : (m : Kind → Cell → SubchunkMeaning) (at_start : Bool) (sub : List ℕ) → PlacesDecide (λ k f s b. sharded_decoded (m k f) at_start k f s sub b) (shard_places at_start sub)
shards_decide m at_start sub k f s part x y cs ds is_x is_y long same p inside within =
    same_shard_cell (m k f) at_start k f s sub p (in_chunk s p inside) part within x y long same cs ds is_x is_y
