-- The piece of a subchunk that a part of its shard meets.
use Rattle.std.proofs.Common.{◌≡◌, ℕ, zero, suc, ◌+◌, ◌-◌, ◌*◌, ◌/◌, ◌^◌, ◌<◌, ◌≤◌, max, min, Bool, true, false, eqb, ◌&&◌, ◌||◌, List, [], ◌∷◌, ◌++◌, length, drop, get_or, Some, inl, inr, refl, sym, ap, ◌∙◌, subst, arith}
use Rattle.std.specs.Prelude.{slice_index, nat_le, nat_lt, not}
use Rattle.std.specs.List.{list_any}
use Rattle.std.specs.Int.{w64, from_le_bytes}
use Rattle.std.proofs.Math.Seq.{get_or-append_seam}
use Rattle.std.proofs.Math.Nat.{add-mul, div-eq_of_lt-le, div-lt_iff_lt-mul, div-mul-le_self}
use Rattle.std.proofs.lemmas.Bool.{and_from, cases_lt, le-leb, lt-ltb}
use Rattle.std.proofs.lemmas.Grind.{same_number_lists}
use Rattle.std.proofs.lemmas.List.{get_or_append_left, length-append}
use Rattle.zarrs_codec_shard.specs.declared.shard_index.SubchunkRange.{SubchunkRange}
use Rattle.zarrs_codec_shard.specs.ShardIndex.{range_entry}
use Rattle.zarrs_codec_shard.specs.Shards.{absent, entry_bytes}
use Rattle.zarrs_codec_shard.proofs.ShardBytes.{entry_len, entry_offset, not_absent}
use Rattle.zarrs_codec_shard.specs.Subchunks.{corner, is_cut_by, quotients, subchunk_box}
use Rattle.zarrs_codec_shard.proofs.Grids.{corner_long, cut_at, cut_len}
use Rattle.zarrs_codec_shard.proofs.SubchunkBoxes.{long_corner}
use Rattle.zarrs_subset.specs.Boxes.{position_count, InShape, place, unravel, zip_with}
use Rattle.zarrs_subset.specs.Regions.{Box, IsLong, LiesInShape, box_from, overlap_of, seen_from, LiesInBox}
use Rattle.zarrs_subset.proofs.Bytes.{along_holds, holds_along}
use Rattle.zarrs_subset.proofs.Counts.{count_some, some_extent}
use Rattle.zarrs_subset.proofs.Overlaps.{AllSome, length-overlap_extents, length-zip_with}
use Rattle.zarrs_subset.proofs.Parts.{overlap_extents-at, zip_with-at}
use Rattle.zarrs_subset.proofs.Positions.{unravel-place}
use Rattle.zarrs_subset.proofs.Inside.{count_inside}
use Rattle.zarrs_codec_chain.specs.ShardParts.{HasOnlyMet, MeetsPart}
use Rattle.zarrs_codec_chain.specs.Places.{boxes_meet, is_range_place}

-- ---- the boxes

-- what is known of the piece of the subchunk with the indices i
pub record IsPiece (s sub : List ℕ) (part : Box) (i : List ℕ) (subset shared : Box) : Type 0 where
  pub corner_is : subset.start ≡ corner sub i
  pub dimensions : length subset.start ≡ length part.start
  pub shared_long : IsLong shared
  pub corner_len : length (corner sub i) ≡ length shared.start
  pub above : (k : ℕ) → k < length shared.start → slice_index (corner sub i) k ≤ slice_index shared.start k
  pub own_lies : LiesInShape (seen_from shared (corner sub i)) sub
  pub own_few : position_count shared.shape ≤ position_count part.shape

module _ (s sub : List ℕ) (part : Box) (i : List ℕ) (n : ℕ) (cut : is_cut_by s sub ≡ true) (long : IsLong part) (lies : LiesInShape part s)
    (in_grid : InShape (quotients s sub) i) (at_n : place (quotients s sub) i ≡ n) where
  pub subset_is : subchunk_box s sub n ≡ box_from (corner sub i) sub
  subset_is = ap (λ j. box_from (corner sub j) sub) (ap (unravel (quotients s sub)) (sym at_n) ∙ unravel-place (quotients s sub) i in_grid)

  corner_len_s : length (corner sub i) ≡ length s
  corner_len_s = corner_long s sub i cut in_grid

  own_long : length (corner sub i) ≡ length sub
  own_long = long_corner s sub i cut in_grid

  same_dims : length part.start ≡ length (corner sub i)
  same_dims = lies.same_length ∙ sym corner_len_s

  abbrev shared_box : Box
  shared_box = overlap_of part (box_from (corner sub i) sub)

  start_len : length shared_box.start ≡ length part.start
  start_len = length-zip_with (λ a b. max a b) part.start (corner sub i) same_dims

  shape_len : length shared_box.shape ≡ length part.start
  shape_len = length-overlap_extents part.start part.shape (corner sub i) sub long own_long same_dims

  start_at : (k : ℕ) → k < length part.start → slice_index shared_box.start k ≡ max (slice_index part.start k) (slice_index (corner sub i) k)
  start_at k lt = zip_with-at (λ a b. max a b) part.start (corner sub i) k lt (omega (arith, same_dims))

  shape_at : (k : ℕ) → k < length part.start
      → slice_index shared_box.shape k
      ≡ min (slice_index part.start k + slice_index part.shape k) (slice_index (corner sub i) k + slice_index sub k) - max (slice_index part.start k) (slice_index (corner sub i) k)
  shape_at k lt = overlap_extents-at part.start part.shape (corner sub i) sub k long own_long same_dims lt

  not_zero : (e : ℕ) → (e ≡ 0 → ⊥) → 0 < e
  not_zero zero never = absurd (never refl)
  not_zero (suc e) never = omega arith

  within_both : (a x b y f e : ℕ) → f ≡ max a b → e ≡ min (a + x) (b + y) - max a b → 0 < e → f + e ≤ a + x
  within_both a x b y f e first extent some = omega arith

  own_within : (a x b y f e o : ℕ) → f ≡ max a b → e ≡ min (a + x) (b + y) - max a b → o ≡ f - b → 0 < e → o + e ≤ y
  own_within a x b y f e o first extent moved some = omega arith

  pub shared_inside : AllSome shared_box.shape → LiesInBox shared_box part
  shared_inside full = record {
    same_length = start_len;
    starts = λ k lt. omega (arith, start_at k lt);
    ends = λ k lt.
        within_both (slice_index part.start k) (slice_index part.shape k) (slice_index (corner sub i) k) (slice_index sub k) (slice_index shared_box.start k) (slice_index shared_box.shape k)
        (start_at k lt) (shape_at k lt) (not_zero (slice_index shared_box.shape k) (full k (omega (arith, shape_len))));
  }

  abbrev own_box : Box
  own_box = seen_from shared_box (corner sub i)

  pub meets : AllSome shared_box.shape → boxes_meet part (subchunk_box s sub n) ≡ true
  meets full =
      ap (λ b. nat_lt 0 (position_count (overlap_of part b).shape)) subset_is ∙ lt-ltb 0 (position_count shared_box.shape) (count_some shared_box.shape full)

  pub piece_of : AllSome shared_box.shape → IsPiece s sub part i (subchunk_box s sub n) shared_box
  piece_of full = record {
    corner_is = ap (λ b. b.start) subset_is;
    dimensions = ap (λ b. length b.start) subset_is ∙ sym same_dims;
    shared_long = start_len ∙ sym shape_len;
    corner_len = sym same_dims ∙ sym start_len;
    above = λ k lt. omega (arith, start_at k (omega (arith, start_len)));
    own_lies = record {
      same_length = length-zip_with (λ a b. a - b) shared_box.start (corner sub i) (start_len ∙ same_dims) ∙ start_len ∙ same_dims ∙ own_long;
      ends = λ k lt.
          let below : k < length part.start = omega (arith, own_long, same_dims) in
          let wide : k < length shared_box.start = omega (arith, start_len) in
          let moved = zip_with-at (λ a b. a - b) shared_box.start (corner sub i) k wide (omega (arith, same_dims)) in
          let a = slice_index part.start k in
          let b = slice_index (corner sub i) k in
          let x = slice_index part.shape k in
          let y = slice_index sub k in
          own_within a x b y (slice_index shared_box.start k) (slice_index shared_box.shape k) (slice_index own_box.start k) (start_at k below) (shape_at k below) moved (not_zero (slice_index shared_box.shape k) (full k (omega (arith, shape_len))));
    };
    own_few = count_inside shared_box part (start_len ∙ sym shape_len) long (shared_inside full);
  }

-- ---- the bytes

pub any_at : {X : Type 0} (f : X → Bool) (xs : List X) (j : ℕ) (d : X) → j < length xs → f (get_or xs j d) ≡ true → list_any f xs ≡ true
any_at f [] j d lt is = absurd (omega arith)
any_at f (x ∷ xs) zero d lt is = ap (λ b. b || list_any f xs) is
any_at f (x ∷ xs) (suc j) d lt is = ap (λ b. f x || b) (any_at f xs j d (omega arith) is) ∙ or_true (f x)
  where
    or_true : (b : Bool) → (b || true) ≡ true
    or_true true = refl
    or_true false = refl

-- an entry names the places of its range
pub named_place : (r : SubchunkRange) (x : ℕ) → r.start ≤ r.end → r.end < 2 ^ 64 → r.start ≤ x → x < r.end → is_range_place (range_entry (Some r)) x ≡ true
named_place r x order small from below =
    let o = r.start in
    let l = r.end - r.start in
    let e = entry_bytes o l in
    let end : x < o + l = omega arith in
    ap (λ a. not ((eqb a absent) && (eqb (from_le_bytes w64 (drop 8 e)) absent)) && (nat_le a x && nat_lt x (a + from_le_bytes w64 (drop 8 e)))) (entry_offset o l (omega arith))
    ∙ ap (λ b. not ((eqb o absent) && (eqb b absent)) && (nat_le o x && nat_lt x (o + b))) (entry_len o l (omega arith))
    ∙ ap (λ b. not b && (nat_le o x && nat_lt x (o + l))) (not_absent o l (omega arith))
    ∙ and_from (nat_le o x) (nat_lt x (o + l)) (le-leb o x from) (lt-ltb x (o + l) end)

-- ---- the subchunks that a part meets

div_above : (s p c : ℕ) → 0 < c → s ≤ p → s / c ≤ p / c
div_above s p c some le = elim (cases_lt (p / c) (s / c)) [
  | inl lt ↦
      let past : p < s / c * c = (div-lt_iff_lt-mul {k = c} {x = p} {y = s / c} some).0 lt in
      let whole : s / c * c ≤ s = div-mul-le_self s c in
      absurd (omega arith)
  | inr ge ↦ ge
]

-- along one dimension: the first subchunk, and how many
pub record MeetsAlong (s x c first count : ℕ) : Type 0 where
  pub first_is : first ≡ s / c
  pub fits : first + count < 2 ^ 64
  pub met : (i : ℕ) → i < s + x → i / c < first + count
  pub begins : (i : ℕ) → first ≤ i → i < first + count → i * c < s + x

pub meets_part : (s sub start extents : List ℕ) (part : Box) → is_cut_by s sub ≡ true → IsLong part → LiesInShape part s → length start ≡ length sub → length extents ≡ length sub
    → ((k : ℕ) → k < length sub → MeetsAlong (slice_index part.start k) (slice_index part.shape k) (slice_index sub k) (slice_index start k) (slice_index extents k))
    → MeetsPart sub part (box_from start extents)
meets_part s sub start extents part cut long lies start_len extents_len each p holds =
    let at = holds_along part p long holds in
    let sub_len = (cut_len s sub cut).0 in
    let p_len : length p ≡ length sub = at.same_length ∙ lies.same_length ∙ sym sub_len in
    let wide = length-zip_with (λ n c. n / c) p sub p_len in
    along_holds (box_from start extents) (quotients p sub) (start_len ∙ sym extents_len)
    (record {
      same_length = wide ∙ p_len ∙ sym start_len;
      from = λ k lt.
          let below : k < length sub = omega arith in
          let along = each k below in
          let some = (cut_at s sub k cut (omega arith)).1 in
          let here = zip_with-at (λ n c. n / c) p sub k (omega arith) below in
          let low = div_above (slice_index part.start k) (slice_index p k) (slice_index sub k) some (at.from k (omega (arith, lies.same_length))) in
          omega (arith, here, along.first_is);
      below = λ k lt.
          let below : k < length sub = omega arith in
          let along = each k below in
          let here = zip_with-at (λ n c. n / c) p sub k (omega arith) below in
          let high = along.met (slice_index p k) (at.below k (omega (arith, lies.same_length))) in
          omega (arith, here);
    })

-- the first place of the part in one of them
pub first_met : (s x c first count i p : ℕ) → 0 < c → 0 < x → MeetsAlong s x c first count → first ≤ i → i < first + count → p ≡ max s (i * c)
    → (s ≤ p) × (p < s + x) × (p / c ≡ i)
first_met s x c first count i p some full along from lt p_is =
    let begins : i * c < s + x = along.begins i from lt in
    let first_is : first ≡ s / c = along.first_is in
    let before : s < (i + 1) * c = (div-lt_iff_lt-mul {k = c} {x = s} {y = i + 1} some).0 (omega arith) in
    let next : (i + 1) * c ≡ i * c + c = suc_mul i c in
    let low : i * c ≤ p = omega arith in
    let high : p < (i + 1) * c = omega arith in
    (omega arith, omega arith, div-eq_of_lt-le c low high)
  where
    suc_mul : (i c : ℕ) → (i + 1) * c ≡ i * c + c
    suc_mul i c = omega (arith, add-mul i 1 c)

-- each of them is the one of a position of the part, if the part has one
pub only_met : (s sub start extents : List ℕ) (part : Box) → is_cut_by s sub ≡ true → IsLong part → LiesInShape part s → length start ≡ length sub → length extents ≡ length sub
    → ((k : ℕ) → k < length sub → MeetsAlong (slice_index part.start k) (slice_index part.shape k) (slice_index sub k) (slice_index start k) (slice_index extents k))
    → HasOnlyMet sub part (box_from start extents)
only_met s sub start extents part cut long lies start_len extents_len each some index holds =
    let at = holds_along (box_from start extents) index (start_len ∙ sym extents_len) holds in
    let sub_len = (cut_len s sub cut).0 in
    let index_len : length sub ≡ length index = sym start_len ∙ sym at.same_length in
    let C = corner sub index in
    let C_len = length-zip_with (λ c i. i * c) sub index index_len in
    let part_len : length part.start ≡ length sub = lies.same_length ∙ sym sub_len in
    let p = zip_with (λ a b. max a b) part.start C in
    let p_len = length-zip_with (λ a b. max a b) part.start C (part_len ∙ sym C_len) in
    let here : (k : ℕ) → k < length sub → (slice_index part.start k ≤ slice_index p k) × (slice_index p k < slice_index part.start k + slice_index part.shape k) × (slice_index p k / slice_index sub k ≡ slice_index index k) =
    λ k lt.
    first_met (slice_index part.start k) (slice_index part.shape k) (slice_index sub k) (slice_index start k) (slice_index extents k) (slice_index index k) (slice_index p k)
    (cut_at s sub k cut (omega arith)).1 (some_extent part.shape k 0 (omega (arith, long)) some) (each k lt) (at.from k (omega arith)) (at.below k (omega arith))
    (zip_with-at (λ a b. max a b) part.start C k (omega arith) (omega arith) ∙ ap (max (slice_index part.start k)) (zip_with-at (λ c i. i * c) sub index k lt (omega arith))) in
    let wide = length-zip_with (λ n c. n / c) p sub (p_len ∙ part_len) in (
      p,
      along_holds part p long (record { same_length = p_len; from = λ k lt. (here k (omega arith)).0; below = λ k lt. (here k (omega arith)).1 }),
      same_number_lists (quotients p sub) index (wide ∙ p_len ∙ part_len ∙ index_len)
          (λ k lt. zip_with-at (λ n c. n / c) p sub k (omega arith) (omega arith) ∙ (here k (omega arith)).2),
    )

-- one dimension more
pub along_more : (starts extents ps px sub : List ℕ) (n first count : ℕ) → length starts ≡ n → length extents ≡ n
    → ((k : ℕ) → k < n → MeetsAlong (slice_index ps k) (slice_index px k) (slice_index sub k) (slice_index starts k) (slice_index extents k))
    → MeetsAlong (slice_index ps n) (slice_index px n) (slice_index sub n) first count
    → (k : ℕ) → k < n + 1 → MeetsAlong (slice_index ps k) (slice_index px k) (slice_index sub k) (slice_index (starts ++ first ∷ []) k) (slice_index (extents ++ count ∷ []) k)
along_more starts extents ps px sub n first count starts_len extents_len each last k lt = elim (cases_lt k n) [
  | inl below ↦
      let a : slice_index (starts ++ first ∷ []) k ≡ slice_index starts k = get_or_append_left starts (first ∷ []) 0 k (omega arith) in
      let b : slice_index (extents ++ count ∷ []) k ≡ slice_index extents k = get_or_append_left extents (count ∷ []) 0 k (omega arith) in
      subst (λ y. MeetsAlong (slice_index ps k) (slice_index px k) (slice_index sub k) (slice_index (starts ++ first ∷ []) k) y) (sym b)
      (subst (λ x. MeetsAlong (slice_index ps k) (slice_index px k) (slice_index sub k) x (slice_index extents k)) (sym a) (each k below))
  | inr past ↦
      let at : n ≡ k = omega arith in
      let a : slice_index (starts ++ first ∷ []) k ≡ first = ap (slice_index (starts ++ first ∷ [])) (sym at ∙ sym starts_len) ∙ get_or-append_seam starts first [] 0 in
      let b : slice_index (extents ++ count ∷ []) k ≡ count = ap (slice_index (extents ++ count ∷ [])) (sym at ∙ sym extents_len) ∙ get_or-append_seam extents count [] 0 in
      subst (λ y. MeetsAlong (slice_index ps k) (slice_index px k) (slice_index sub k) (slice_index (starts ++ first ∷ []) k) y) (sym b)
      (subst (λ x. MeetsAlong (slice_index ps k) (slice_index px k) (slice_index sub k) x count) (sym a)
      (subst (λ j. MeetsAlong (slice_index ps j) (slice_index px j) (slice_index sub j) first count) at last))
]

-- the lists after one dimension more
pub record AreMet (ps px sub starts extents : List ℕ) (n : ℕ) : Type 0 where
  pub start_len : length starts ≡ n
  pub extents_len : length extents ≡ n
  pub each : (k : ℕ) → k < n → MeetsAlong (slice_index ps k) (slice_index px k) (slice_index sub k) (slice_index starts k) (slice_index extents k)

pub met_more : (ps px sub starts extents new_starts new_extents : List ℕ) (n first count : ℕ) → AreMet ps px sub starts extents n → new_starts ≡ starts ++ first ∷ [] → new_extents ≡ extents ++ count ∷ []
    → MeetsAlong (slice_index ps n) (slice_index px n) (slice_index sub n) first count → AreMet ps px sub new_starts new_extents (n + 1)
met_more ps px sub starts extents new_starts new_extents n first count met starts_are extents_are last = record {
  start_len = ap length starts_are ∙ length-append starts (first ∷ []) ∙ (let e : length starts + 1 ≡ n + 1 = omega (arith, met.start_len) in e);
  extents_len = ap length extents_are ∙ length-append extents (count ∷ []) ∙ (let e : length extents + 1 ≡ n + 1 = omega (arith, met.extents_len) in e);
  each = λ k lt.
      subst (λ l. MeetsAlong (slice_index ps k) (slice_index px k) (slice_index sub k) (slice_index new_starts k) (slice_index l k)) (sym extents_are)
      (subst (λ l. MeetsAlong (slice_index ps k) (slice_index px k) (slice_index sub k) (slice_index l k) (slice_index (extents ++ count ∷ []) k)) (sym starts_are)
      (along_more starts extents ps px sub n first count met.start_len met.extents_len met.each last k lt));
}

-- along one dimension
pub along : (s x c first end count : ℕ) → first ≡ s / c → end ≡ s + x → first + count < 2 ^ 64 → ((i : ℕ) → i < end → i / c < first + count)
    → ((i : ℕ) → first ≤ i → i < first + count → i * c < end) → MeetsAlong s x c first count
along s x c first end count first_is end_is fits met begins = record {
  first_is = first_is;
  fits = fits;
  met = λ i lt. met i (omega arith);
  begins = λ i from lt. let here : i * c < end = begins i from lt in omega arith;
}
