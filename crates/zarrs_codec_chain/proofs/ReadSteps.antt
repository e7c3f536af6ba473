-- The steps of a read of one subchunk.
use Rattle.std.proofs.Common.{◌≡◌, ℕ, ◌+◌, ◌-◌, ◌*◌, ◌^◌, ◌<◌, ◌≤◌, Bool, true, false, ◌&&◌, ◌||◌, List, [], length, map, get_or, Option, None, Some, refl, sym, ap, ◌∙◌, subst, arith}
use Rattle.std.specs.Prelude.{is_some, nat_le, nat_lt, slice_index, slice_index_or, unwrap_or}
use Rattle.std.specs.List.{list_any, range_with_len}
use Rattle.std.proofs.lemmas.Bool.{and_from, false≢true, leb-true, lt-ltb}
use Rattle.std.proofs.lemmas.List.{get_or-map, length-map}
use Rattle.std.proofs.lemmas.List.FromFn.{get_or-map-range_with_len, get_or-range_with_len, length-range_with_len}
use Rattle.zarrs_data_type.specs.ArrayData.{ArrayData}
use Rattle.zarrs_codec_shard.specs.declared.shard_index.SubchunkRange.{SubchunkRange}
use Rattle.zarrs_codec_shard.specs.ShardIndex.{IsRangeWithin, range_entry}
use Rattle.zarrs_codec_shard.specs.Shards.{data_end, data_start, index_in, named_part, shard_parts}
use Rattle.zarrs_codec_shard.specs.Steps.{all_present}
use Rattle.zarrs_codec_shard.specs.Subchunks.{corner, quotients}
use Rattle.zarrs_codec_shard.proofs.Cuts.{position_divided}
use Rattle.zarrs_codec_shard.proofs.Missing.{all_present-at, given_if-parts}
use Rattle.zarrs_codec_shard.proofs.ShardLaws.{length-shard_parts}
use Rattle.zarrs_data_type_bytes.proofs.Pieces.{length-pieces}
use Rattle.zarrs_codec_shard.proofs.SubchunkBoxes.{long_corner}
use Rattle.zarrs_subset.specs.Boxes.{InShape, place, unravel}
use Rattle.zarrs_subset.specs.Pieces.{piece_at, pieces}
use Rattle.zarrs_subset.specs.Regions.{Box, Holds, IsLong, LiesInBox, LiesInShape, box_from, in_box, overlap_of, seen_from}
use Rattle.zarrs_subset.proofs.Kernel.{place_below}
use Rattle.zarrs_subset.proofs.Overlaps.{AllSome, in_box-empty}
use Rattle.zarrs_subset.proofs.Positions.{unravel_in}
use Rattle.zarrs_data_type.specs.Cell.{Cell}
use Rattle.zarrs_data_type.specs.Kind.{Kind}
use Rattle.zarrs_codec_chain.specs.Places.{boxes_meet, is_index_place, is_range_place}
use Rattle.zarrs_codec_chain.specs.ShardParts.{ReadsSubchunk}
use Rattle.zarrs_codec_chain.specs.ShardReads.{HasNoSubchunk, HasNone, IsAt, IsOpen, IsShare, IsSole, ShardRead, box_at, count_of, entry_of, part_places, parts_of}
use Rattle.zarrs_codec_chain.proofs.MovedBoxes.{in_overlap, overlap_within}
use Rattle.zarrs_codec_chain.proofs.PartBoxes.{part_fits, within_shape}
use Rattle.zarrs_codec_chain.proofs.SubchunkPieces.{any_at, meets, named_place, piece_of, shared_inside, subset_is}
use Rattle.zarrs_codec_chain.proofs.SubchunkSteps.{own_holds, skip_more}

-- ---- the index

pub some_is_there : {A : Type 0} (o : Option (List A)) → is_some o ≡ true → o ≡ Some (unwrap_or o [])
some_is_there None some = cc
some_is_there (Some x) some = refl

-- the index fits the bytes
pub index_fits : (at_start : Bool) (count : ℕ) (encoded : List ℕ) (parts : List (Option (List ℕ))) → shard_parts at_start count encoded ≡ Some parts → count * 16 ≤ length encoded
index_fits at_start count encoded parts are =
    leb-true (count * 16) (length encoded)
    (given_if-parts (nat_le (count * 16) (length encoded))
    (all_present (map (named_part encoded (data_start at_start count) (data_end at_start count (length encoded))) (pieces 16 count (index_in at_start count encoded)))) parts are).0

-- the part of the subchunk of this number is the one that its entry names
pub part_named : (r : ShardRead) (n : ℕ) (o : Option (Option (List ℕ))) → IsOpen r → n < count_of r
    → named_part r.encoded (data_start r.at_start (count_of r)) (data_end r.at_start (count_of r) (length r.encoded)) (entry_of r n) ≡ o → o ≡ Some (slice_index_or (parts_of r) n None)
part_named r n o is lt named =
    let count = count_of r in
    let index = index_in r.at_start count r.encoded in
    let read = named_part r.encoded (data_start r.at_start count) (data_end r.at_start count (length r.encoded)) in
    let all : all_present (map read (pieces 16 count index)) ≡ Some (parts_of r) =
    (given_if-parts (nat_le (count * 16) (length r.encoded)) (all_present (map read (pieces 16 count index))) (parts_of r) is.parts).1 in
    let len = length-pieces 16 count index in
    let here : get_or (map read (pieces 16 count index)) n None ≡ Some (get_or (parts_of r) n None) =
    all_present-at (map read (pieces 16 count index)) (parts_of r) n None None all (omega (arith, length-map (pieces 16 count index) read)) in
    sym named
    ∙ ap read (sym (get_or-map-range_with_len (piece_at 16 index) 0 count n n [] lt (omega arith)))
    ∙ sym (get_or-map read (pieces 16 count index) n [] None (omega arith))
    ∙ here

module _ (r : ShardRead) (is : IsOpen r) where
  pub parts_len : length (parts_of r) ≡ count_of r
  parts_len = length-shard_parts r.at_start (count_of r) r.encoded (parts_of r) is.parts

  pub count_fits : count_of r * 16 ≤ length r.encoded
  count_fits = index_fits r.at_start (count_of r) r.encoded (parts_of r) is.parts

  -- the part needs the places of each subchunk that it meets
  pub in_places : (n : ℕ) (range : SubchunkRange) (x : ℕ) → n < count_of r → boxes_meet r.part (box_at r n) ≡ true → entry_of r n ≡ range_entry (Some range)
      → IsRangeWithin (length r.encoded) (Some range) → length r.encoded < 2 ^ 64 → range.start ≤ x → x < range.end → part_places r x ≡ true
  in_places n range x below meets entry within small from last =
      let count = count_of r in
      let index = index_in r.at_start count r.encoded in
      let order : range.start ≤ range.end = within.0 in
      let end : range.end ≤ length r.encoded = within.1 in
      let named : is_range_place (piece_at 16 index n) x ≡ true = ap (λ e. is_range_place e x) entry ∙ named_place range x order (omega arith) from last in
      let test : (boxes_meet r.part (box_at r n) && is_range_place (piece_at 16 index n) x) ≡ true = and_from (boxes_meet r.part (box_at r n)) (is_range_place (piece_at 16 index n) x) meets named in
      let any : list_any (λ j. boxes_meet r.part (box_at r j) && is_range_place (piece_at 16 index j) x) (range_with_len 0 count) ≡ true =
      any_at (λ j. boxes_meet r.part (box_at r j) && is_range_place (piece_at 16 index j) x) (range_with_len 0 count) n 0 (omega (arith, length-range_with_len 0 count))
      (ap (λ j. boxes_meet r.part (box_at r j) && is_range_place (piece_at 16 index j) x) (get_or-range_with_len 0 count n 0 below ∙ (let e : 0 + n ≡ n = omega arith in e)) ∙ test) in
      and_from (nat_lt x (length r.encoded))
      (is_index_place r.at_start count (length r.encoded) x || list_any (λ j. boxes_meet r.part (box_at r j) && is_range_place (piece_at 16 index j) x) (range_with_len 0 count))
      (lt-ltb x (length r.encoded) (omega arith))
      (ap (λ b. is_index_place r.at_start count (length r.encoded) x || b) any ∙ or_true (is_index_place r.at_start count (length r.encoded) x))
    where
      or_true : (b : Bool) → (b || true) ≡ true
      or_true true = refl
      or_true false = refl

  -- ---- positions of the part that no subchunk has

  in_shape : (p : List ℕ) → Holds r.part p → InShape r.shape p
  in_shape p holds = within_shape r.part.start r.part.shape r.shape p (part_fits r.part r.shape is.long is.lies) holds

  -- indices that no subchunk has
  pub none_unfound : (i : List ℕ) → HasNoSubchunk r i → HasNone r i
  none_unfound i none p holds same =
      let inside = subst (InShape (quotients r.shape r.sub)) same (position_divided r.shape r.sub p is.cut (in_shape p holds)).in_grid in
      none (place (quotients r.shape r.sub) i) (record { in_grid = inside; at_n = refl; below = place_below (quotients r.shape r.sub) i inside })

  -- a subchunk that the part does not meet
  pub none_empty : (i : List ℕ) (n : ℕ) (shared : Box) (j : ℕ) → IsAt r i n → IsLong shared → j < length shared.shape → slice_index shared.shape j ≡ 0
      → ((p : List ℕ) → in_box shared p ≡ (in_box r.part p && in_box (box_at r n) p)) → HasNone r i
  none_empty i n shared j at shared_long lt none_is common p holds same =
      let own = own_holds r.shape r.sub i p is.cut (in_shape p holds) same in
      let there = subst (λ b. in_box b p ≡ true) (sym (subset_is r.shape r.sub r.part i n is.cut is.long is.lies at.in_grid at.at_n)) own in
      let both = common p ∙ and_from (in_box r.part p) (in_box (box_at r n) p) holds there in
      false≢true (sym (in_box-empty shared.start shared.shape p j shared_long lt none_is) ∙ both)

  -- ---- what the part shares with a subchunk

  pub share_of : (i : List ℕ) (n : ℕ) (shared own : Box) (at_corner : List ℕ) → IsAt r i n → shared ≡ overlap_of r.part (box_at r n)
      → ((p : List ℕ) → in_box shared p ≡ (in_box r.part p && in_box (box_at r n) p)) → AllSome shared.shape → at_corner ≡ (box_at r n).start → own ≡ seen_from shared at_corner
      → IsShare r i n shared own
  share_of i n shared own at_corner at shared_of common full corner_of own_of =
      let box = subset_is r.shape r.sub r.part i n is.cut is.long is.lies at.in_grid at.at_n in
      let shared_is : shared ≡ overlap_of r.part (box_from (corner r.sub i) r.sub) = shared_of ∙ ap (overlap_of r.part) box in
      let all = subst (λ b. AllSome b.shape) shared_is full in
      let piece = piece_of r.shape r.sub r.part i n is.cut is.long is.lies at.in_grid at.at_n all in
      let corner_is : at_corner ≡ corner r.sub i = corner_of ∙ piece.corner_is in
      let own_is : own ≡ seen_from shared (corner r.sub i) = own_of ∙ ap (seen_from shared) corner_is in
      record {
        meets = meets r.shape r.sub r.part i n is.cut is.long is.lies at.in_grid at.at_n all;
        shared_is = shared_of;
        common = common;
        shared_lies = subst (λ b. LiesInBox b r.part) (sym shared_is) (shared_inside r.shape r.sub r.part i n is.cut is.long is.lies at.in_grid at.at_n all);
        corner_is = piece.corner_is;
        corner_len = subst (λ (b : Box). length (corner r.sub i) ≡ length b.start) (sym shared_is) piece.corner_len;
        above = subst (λ (b : Box). (k : ℕ) → k < length b.start → slice_index (corner r.sub i) k ≤ slice_index b.start k) (sym shared_is) piece.above;
        own_is = own_is;
        own_lies = subst (λ b. LiesInShape b r.sub) (sym (own_is ∙ ap (λ b. seen_from b (corner r.sub i)) shared_is)) piece.own_lies;
      }

  -- all of a part that lies in one subchunk
  pub sole_of : (n : ℕ) (own : Box) (at_corner : List ℕ) → n < count_of r → at_corner ≡ (box_at r n).start → ((k : ℕ) → k < length r.part.start → 0 < slice_index r.part.shape k)
      → LiesInBox r.part (box_from at_corner r.sub) → own ≡ seen_from r.part at_corner → IsSole r n own
  sole_of n own at_corner lt corner_of full lies own_of =
      let box_is : box_from at_corner r.sub ≡ box_at r n = ap (λ (x : List ℕ). box_from x r.sub) corner_of in
      let inside : LiesInBox r.part (box_at r n) = subst (LiesInBox r.part) box_is lies in
      let box_long : IsLong (box_at r n) = long_corner r.shape r.sub (unravel (quotients r.shape r.sub) n) is.cut (unravel_in (quotients r.shape r.sub) n lt) in
      let shared_is : r.part ≡ overlap_of r.part (box_at r n) = sym (overlap_within r.part (box_at r n) is.long box_long inside) in
      record {
        below = lt;
        share = λ i at.
            share_of i n r.part own at_corner at shared_is
            (λ p. ap (λ (b : Box). in_box b p) shared_is ∙ in_overlap r.part (box_at r n) p is.long box_long inside.same_length)
            (λ k below none. absurd (omega (arith, full k (omega (arith, is.long)))))
            corner_of own_of;
      }

  -- ---- nothing is read

  module _ (k : Kind) (decoded : List ℕ → Option (List Cell)) (fill : Cell) (i : List ℕ) (held : ArrayData) where
    -- of a subchunk without a position of the part
    pub skip_none : HasNone r i → ReadsSubchunk k decoded fill r.shape r.sub r.part (parts_of r) i held held
    skip_none none done h = skip_more k decoded fill r.shape r.sub r.part (parts_of r) done i held (λ p holds same. absurd (none p holds same)) h

    -- of an absent one
    pub skip_absent : (n : ℕ) → IsAt r i n → slice_index_or (parts_of r) n None ≡ None → ReadsSubchunk k decoded fill r.shape r.sub r.part (parts_of r) i held held
    skip_absent n at absent done h =
        skip_more k decoded fill r.shape r.sub r.part (parts_of r) done i held
        (λ p holds same. ap (λ j. slice_index_or (parts_of r) (place (quotients r.shape r.sub) j) None) same ∙ ap (λ j. slice_index_or (parts_of r) j None) at.at_n ∙ absent)
        h
