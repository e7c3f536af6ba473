-- The rows of a box of two dimensions, each of which lies together in the array.
use Rattle.std.proofs.Common.{◌≡◌, ℕ, zero, suc, ◌+◌, ◌-◌, ◌*◌, ◌<◌, ◌≤◌, List, [], ◌∷◌, length, ◌++◌, take, drop, Result, Ok, Err, IfErr, refl, sym, ap, subst, ◌∙◌, arith}
use Rattle.std.specs.Prelude.{nat_le, nat_lt, slice_index}
use Rattle.std.proofs.lemmas.Bool.{and_parts, ltb-true, leb-true, false≢true}
use Rattle.std.proofs.lemmas.List.{append-nil, length-take-le, length-drop, take-append-drop}
use Rattle.std.proofs.Math.Nat.{add-mul, mul-le-mul_right, mul_assoc}
use Rattle.zarrs_data_type_bytes.proofs.Parts.{positive_size}
use Rattle.zarrs_subset.specs.Regions.{LiesInBox, Box, IsLong, Holds, box_from, place_in}
use Rattle.zarrs_subset.specs.Boxes.{position_count, in_range, is_within}
use Rattle.zarrs_subset.specs.Pieces.{piece_at}
use Rattle.zarrs_codec_shard.specs.Blocks.{rows_of, AddsCells}
use Rattle.zarrs_codec_shard.proofs.RowBlocks.{piece_front, piece_past}

-- no row
nothing : (size : ℕ) (held : Box) (bytes old : List ℕ) (s : ℕ) (ss ts : List ℕ) → AddsCells size held bytes (box_from (s ∷ ss) (0 ∷ ts)) old old
nothing size held bytes old s ss ts = record {
  added = [];
  new_is = sym (append-nil old);
  count = omega arith;
  cells_are = none;
}
  where
    none : (position : List ℕ) → Holds (box_from (s ∷ ss) (0 ∷ ts)) position → piece_at size [] (place_in (box_from (s ∷ ss) (0 ∷ ts)) position) ≡ piece_at size bytes (place_in held position)
    none [] holds = absurd (false≢true holds)
    none (i ∷ q) holds =
        let a = and_parts (nat_le s i) (nat_lt i (s + 0)) (and_parts (in_range s 0 i) (is_within ss ts q) holds).0 in
        let low : s ≤ i = leb-true s i a.0 in
        let high : i < s + 0 = ltb-true i (s + 0) a.1 in
        absurd (omega arith)

pub no_rows : (size : ℕ) (held : Box) (bytes old : List ℕ) (part : Box) → IsLong part → 0 < length part.shape → AddsCells size held bytes (rows_of part 0 0) old old
no_rows size held bytes old part long some = go part.start part.shape long some
  where
    go : (start shape : List ℕ) → length start ≡ length shape → 0 < length shape → AddsCells size held bytes (rows_of (box_from start shape) 0 0) old old
    go start [] l some = absurd (omega arith)
    go [] (t ∷ ts) l some = absurd (omega arith)
    go (s ∷ ss) (t ∷ ts) l some = nothing size held bytes old (s + 0) ss ts

-- a box without rows
pub no_cells : (size : ℕ) (held : Box) (bytes old : List ℕ) (part : Box) → IsLong part → 0 < length part.shape → slice_index part.shape 0 ≡ 0 → AddsCells size held bytes part old old
no_cells size held bytes old part long some is = go part.start part.shape long some is
  where
    go : (start shape : List ℕ) → length start ≡ length shape → 0 < length shape → slice_index shape 0 ≡ 0 → AddsCells size held bytes (box_from start shape) old old
    go start [] l some is = absurd (omega arith)
    go [] (t ∷ ts) l some is = absurd (omega arith)
    go (s ∷ ss) (zero ∷ ts) l some is = nothing size held bytes old s ss ts
    go (s ∷ ss) (suc t ∷ ts) l some is = absurd (omega (arith, is))

-- what holds whatever the refusal is
pub if_refused : {T E P : Type 0} (r : Result T E) → P → IfErr r (λ _. P)
if_refused (Ok t) p = tt
if_refused (Err e) p = p

pub two_of : (l : List ℕ) → length l ≡ 2 → l ≡ slice_index l 0 ∷ slice_index l 1 ∷ []
two_of [] is = absurd (omega arith)
two_of (a ∷ []) is = absurd (omega arith)
two_of (a ∷ b ∷ []) is = refl
two_of (a ∷ b ∷ c ∷ l) is = absurd (omega arith)

-- the pieces of a list that lie together
piece_together : (size n first : ℕ) (b : List ℕ) (x : ℕ) → (first + n) * size ≤ length b → x < n
    → piece_at size (take (n * size) (drop (first * size) b)) x ≡ piece_at size b (first + x)
piece_together size n first b x room lt =
    let r = drop (first * size) b in
    let more : (first + n) * size ≡ first * size + n * size = add-mul first n size in
    let front : length (take (first * size) b) ≡ first * size = length-take-le (first * size) b (omega arith) in
    let own : length (take (n * size) r) ≡ n * size = length-take-le (n * size) r (omega (arith, length-drop (first * size) b)) in
    sym (piece_front size n (take (n * size) r) (drop (n * size) r) x own lt)
    ∙ ap (λ l. piece_at size l x) (take-append-drop (n * size) r)
    ∙ sym (piece_past size first (take (first * size) b) r x front)
    ∙ ap (λ l. piece_at size l (first + x)) (take-append-drop (first * size) b)

-- where a row begins, and that it lies in the array
pub record RowFits (size len row s0 s1 t1 h0 h1 H0 H1 : ℕ) : Type 0 where
  pub above : s0 - h0 + row < H0
  pub line : (s0 - h0 + row) * H1 ≤ H0 * H1
  pub cell : (s0 - h0 + row) * H1 + (s1 - h1) + t1 ≤ H0 * H1
  pub most : H0 * H1 ≤ len
  pub bytes : ((s0 - h0 + row) * H1 + (s1 - h1)) * size + t1 * size ≤ len
  pub whole : (((s0 - h0 + row) * H1 + (s1 - h1)) + t1) * size ≤ len
  pub stride : H1 * size ≤ len

row_fits : (size len row s0 s1 t0 t1 h0 h1 H0 H1 : ℕ) → 0 < size → len ≡ H0 * (H1 * 1) * size → h0 ≤ s0 → h1 ≤ s1 → s0 + t0 ≤ h0 + H0 → s1 + t1 ≤ h1 + H1 → row < t0
    → RowFits size len row s0 s1 t1 h0 h1 H0 H1
row_fits size len row s0 s1 t0 t1 h0 h1 H0 H1 positive long low0 low1 high0 high1 lt =
    let a = s0 - h0 + row in
    let above : a + 1 ≤ H0 = omega arith in
    let next : (a + 1) * H1 ≡ a * H1 + H1 = omega (arith, add-mul a 1 H1) in
    let line = mul-le-mul_right {m = a + 1} {n = H0} H1 above in
    let cell : a * H1 + (s1 - h1) + t1 ≤ H0 * H1 = omega arith in
    let one : H1 * 1 ≡ H1 = omega arith in
    let long : len ≡ H0 * H1 * size = long ∙ ap (λ n. H0 * n * size) one in
    let whole = mul-le-mul_right {m = a * H1 + (s1 - h1) + t1} {n = H0 * H1} size cell in
    let line_one : H1 ≤ H0 * H1 = omega (arith, mul-le-mul_right {m = 1} {n = H0} H1 (omega arith)) in
    let stride = mul-le-mul_right {m = H1} {n = H0 * H1} size line_one in
    record {
      above = omega arith;
      line = omega arith;
      cell = cell;
      most = omega (arith, positive_size (H0 * H1) size positive);
      bytes = omega (arith, add-mul (a * H1 + (s1 - h1)) t1 size);
      whole = omega arith;
      stride = omega arith;
    }

-- a row begins so many strides after the first one
place_is : (size a d row H1 : ℕ) → (a * H1 + d) * size + row * (H1 * size) ≡ ((a + row) * H1 + d) * size
place_is size a d row H1 =
    let sum : (a + row) * H1 + d ≡ a * H1 + d + row * H1 = omega (arith, add-mul a row H1) in
    omega (arith, ap (λ n. n * size) sum, add-mul (a * H1 + d) (row * H1) size, mul_assoc row H1 size)

module _ (size row h0 h1 H0 H1 s0 s1 t0 t1 : ℕ) (bytes old : List ℕ) (low : h0 ≤ s0) (low1 : h1 ≤ s1) (f : RowFits size (length bytes) row s0 s1 t1 h0 h1 H0 H1) where
  row_cells : let first = (s0 - h0 + row) * H1 + (s1 - h1) in
      AddsCells size (box_from (h0 ∷ h1 ∷ []) (H0 ∷ H1 ∷ [])) bytes (rows_of (box_from (s0 ∷ s1 ∷ []) (t0 ∷ t1 ∷ [])) row 1) old (old ++ take (t1 * size) (drop (first * size) bytes))
  row_cells =
      let first = (s0 - h0 + row) * H1 + (s1 - h1) in
      record {
        added = take (t1 * size) (drop (first * size) bytes);
        new_is = refl;
        count =
            length-take-le (t1 * size) (drop (first * size) bytes) (omega (arith, f.bytes, length-drop (first * size) bytes))
            ∙ ap (λ n. n * size) (let e : t1 ≡ 1 * (t1 * 1) = omega arith in e);
        cells_are = each;
      }
    where
      each : (position : List ℕ) → Holds (box_from ((s0 + row) ∷ s1 ∷ []) (1 ∷ t1 ∷ [])) position
          → (let first = (s0 - h0 + row) * H1 + (s1 - h1) in piece_at size (take (t1 * size) (drop (first * size) bytes)) (place_in (box_from ((s0 + row) ∷ s1 ∷ []) (1 ∷ t1 ∷ [])) position))
          ≡ piece_at size bytes (place_in (box_from (h0 ∷ h1 ∷ []) (H0 ∷ H1 ∷ [])) position)
      each [] holds = absurd (false≢true holds)
      each (i ∷ []) holds = absurd (false≢true (and_parts (in_range (s0 + row) 1 i) (is_within (s1 ∷ []) (t1 ∷ []) []) holds).1)
      each (i ∷ j ∷ k ∷ p) holds =
          let w = and_parts (in_range (s0 + row) 1 i) (is_within (s1 ∷ []) (t1 ∷ []) (j ∷ k ∷ p)) holds in
          absurd (false≢true (and_parts (in_range s1 t1 j) (is_within [] [] (k ∷ p)) w.1).1)
      each (i ∷ j ∷ []) holds =
          let first = (s0 - h0 + row) * H1 + (s1 - h1) in
          let w = and_parts (in_range (s0 + row) 1 i) (is_within (s1 ∷ []) (t1 ∷ []) (j ∷ [])) holds in
          let v = and_parts (in_range s1 t1 j) (is_within [] [] []) w.1 in
          let a = and_parts (nat_le (s0 + row) i) (nat_lt i (s0 + row + 1)) w.0 in
          let b = and_parts (nat_le s1 j) (nat_lt j (s1 + t1)) v.0 in
          let i_low : s0 + row ≤ i = leb-true (s0 + row) i a.0 in
          let i_high : i < s0 + row + 1 = ltb-true i (s0 + row + 1) a.1 in
          let j_low : s1 ≤ j = leb-true s1 j b.0 in
          let j_high : j < s1 + t1 = ltb-true j (s1 + t1) b.1 in
          let none : i - (s0 + row) ≡ 0 = omega arith in
          let here : (i - (s0 + row)) * (t1 * 1) + ((j - s1) * 1 + 0) ≡ j - s1 = omega (arith, ap (λ n. n * (t1 * 1)) none) in
          let line : i - h0 ≡ s0 - h0 + row = omega arith in
          let one : H1 * 1 ≡ H1 = omega arith in
          let there : first + (j - s1) ≡ (i - h0) * (H1 * 1) + ((j - h1) * 1 + 0) = omega (arith, ap (λ n. n * (H1 * 1)) line, ap (λ n. (s0 - h0 + row) * n) one) in
          ap (piece_at size (take (t1 * size) (drop (first * size) bytes))) here
          ∙ piece_together size t1 first bytes (j - s1) f.whole (omega arith)
          ∙ ap (piece_at size bytes) there

module _ (size row : ℕ) (held part : Box) (bytes : List ℕ) (positive : 0 < size) (long : IsLong held) (part_long : IsLong part) (plane : length part.start ≡ 2) (inside : LiesInBox part held)
    (len : length bytes ≡ position_count held.shape * size) (lt : row < slice_index part.shape 0) where
  abbrev first : ℕ
  first = (slice_index part.start 0 - slice_index held.start 0 + row) * slice_index held.shape 1 + (slice_index part.start 1 - slice_index held.start 1)

  pub fits : RowFits size (length bytes) row (slice_index part.start 0) (slice_index part.start 1) (slice_index part.shape 1) (slice_index held.start 0) (slice_index held.start 1) (slice_index held.shape 0) (slice_index held.shape 1)
  fits =
      let n : length held.start ≡ 2 = sym inside.same_length ∙ plane in
      row_fits size (length bytes) row (slice_index part.start 0) (slice_index part.start 1) (slice_index part.shape 0) (slice_index part.shape 1) (slice_index held.start 0) (slice_index held.start 1) (slice_index held.shape 0) (slice_index held.shape 1) positive
      (len ∙ ap (λ l. position_count l * size) (two_of held.shape (sym long ∙ n)))
      (inside.starts 0 (omega arith)) (inside.starts 1 (omega arith)) (inside.ends 0 (omega arith)) (inside.ends 1 (omega arith)) lt

  from_is : (a b d : List ℕ) → a ≡ part.start → b ≡ held.start → d ≡ held.shape → ((slice_index a 0 - slice_index b 0 + row) * slice_index d 1 + (slice_index a 1 - slice_index b 1)) * size ≡ first * size
  from_is a b d p q r =
      ap (λ l. ((slice_index l 0 - slice_index b 0 + row) * slice_index d 1 + (slice_index l 1 - slice_index b 1)) * size) p
      ∙ ap (λ l. ((slice_index part.start 0 - slice_index l 0 + row) * slice_index d 1 + (slice_index part.start 1 - slice_index l 1)) * size) q
      ∙ ap (λ l. ((slice_index part.start 0 - slice_index held.start 0 + row) * slice_index l 1 + (slice_index part.start 1 - slice_index held.start 1)) * size) r

  -- the same, from where the first row begins
  pub place_of : (a b d : List ℕ) → a ≡ part.start → b ≡ held.start → d ≡ held.shape
      → ((slice_index a 0 - slice_index b 0) * slice_index d 1 + (slice_index a 1 - slice_index b 1)) * size + row * (slice_index d 1 * size) ≡ first * size
  place_of a b d p q r = place_is size (slice_index a 0 - slice_index b 0) (slice_index a 1 - slice_index b 1) row (slice_index d 1) ∙ from_is a b d p q r

  pub row_added : (old new : List ℕ) (from l : ℕ) → from ≡ first * size → l ≡ slice_index part.shape 1 * size → new ≡ old ++ take (from + l - from) (drop from bytes) → AddsCells size held bytes (rows_of part row 1) old new
  row_added old new from l from_is l_is new_is =
      let n : length held.start ≡ 2 = sym inside.same_length ∙ plane in
      let h = two_of held.start n in
      let H = two_of held.shape (sym long ∙ n) in
      let s = two_of part.start plane in
      let t = two_of part.shape (sym part_long ∙ plane) in
      let width : from + l - from ≡ slice_index part.shape 1 * size = omega (arith, l_is) in
      let is : new ≡ old ++ take (slice_index part.shape 1 * size) (drop (first * size) bytes) =
      new_is ∙ ap (λ k. old ++ take k (drop from bytes)) width ∙ ap (λ k. old ++ take (slice_index part.shape 1 * size) (drop k bytes)) from_is in
      subst (λ (x : List ℕ). AddsCells size held bytes (rows_of part row 1) old x) (sym is)
      (subst (λ (x : List ℕ). AddsCells size (box_from x held.shape) bytes (rows_of part row 1) old (old ++ take (slice_index part.shape 1 * size) (drop (first * size) bytes))) (sym h)
      (subst (λ (x : List ℕ). AddsCells size (box_from (slice_index held.start 0 ∷ slice_index held.start 1 ∷ []) x) bytes (rows_of part row 1) old (old ++ take (slice_index part.shape 1 * size) (drop (first * size) bytes))) (sym H)
      (subst (λ (x : List ℕ). AddsCells size (box_from (slice_index held.start 0 ∷ slice_index held.start 1 ∷ []) (slice_index held.shape 0 ∷ slice_index held.shape 1 ∷ [])) bytes (rows_of (box_from x part.shape) row 1) old (old ++ take (slice_index part.shape 1 * size) (drop (first * size) bytes))) (sym s)
      (subst (λ (x : List ℕ). AddsCells size (box_from (slice_index held.start 0 ∷ slice_index held.start 1 ∷ []) (slice_index held.shape 0 ∷ slice_index held.shape 1 ∷ [])) bytes (rows_of (box_from (slice_index part.start 0 ∷ slice_index part.start 1 ∷ []) x) row 1) old (old ++ take (slice_index part.shape 1 * size) (drop (first * size) bytes))) (sym t)
      (row_cells size row (slice_index held.start 0) (slice_index held.start 1) (slice_index held.shape 0) (slice_index held.shape 1) (slice_index part.start 0) (slice_index part.start 1) (slice_index part.shape 0) (slice_index part.shape 1) bytes old
      (inside.starts 0 (omega arith)) (inside.starts 1 (omega arith)) fits)))))
