-- Lemmas of the runs that copy a box, one dimension more.
use Rattle.std.proofs.Common.{◌≡◌, ℕ, ◌+◌, ◌-◌, ◌*◌, ◌/◌, ◌%◌, ◌^◌, ◌<◌, ◌≤◌, ◌↔◌, List, [], ◌∷◌, length}
use Rattle.std.proofs.Common.{drop, slice_set, refl, sym, ap, ◌∙◌, arith}
use Rattle.std.proofs.Math.Nat.{mul-le-mul_right, mul-le-mul_left, add-mul, mul_comm, mul_assoc}
use Rattle.std.proofs.lemmas.List.{drop-set}
use Rattle.std.proofs.lemmas.Nat.{div_below, mod_below, div-add-mod', mul-add-lt, pow-add}
use Rattle.zarrs_subset.specs.declared.runs.Stride.{Stride}
use Rattle.zarrs_subset.specs.Boxes.{place}
use Rattle.zarrs_subset.specs.Strides.{Reaches, source_span, target_span, AreApart}

-- how the strides and the runs take one dimension more: the runs get longer, or there is one stride more, or nothing changes
pub data Extends (e ss ts : ℕ) (strides : List Stride) (len used : ℕ) (strides' : List Stride) (len' used' : ℕ) : Type 0 where
  joined : strides ≡ [] → ss ≡ len → ts ≡ len → strides' ≡ [] → len' ≡ len * e → used' ≡ used → Extends e ss ts strides len used strides' len' used'
  pushed : 2 ≤ e → strides' ≡ record { count = e; source_step = ss; target_step = ts } ∷ strides → len' ≡ len → used' ≡ used + 1
      → Extends e ss ts strides len used strides' len' used'
  single : e ≡ 1 → strides' ≡ strides → len' ≡ len → used' ≡ used → Extends e ss ts strides len used strides' len' used'

-- ---- the same bytes

joined_reaches : (e len t s : ℕ) → 0 < len
    → Reaches [] (len * e) t s ↔ Reaches (record { count = e; source_step = len; target_step = len } ∷ []) len t s
joined_reaches e len t s some = (
  λ reached.
      let same : t ≡ s = reached.0 in
      let below : t < len * e = reached.1 in
      let inside : t < e * len = omega (arith, mul_comm len e) in
      let whole : t / len * len + t % len ≡ t = div-add-mod' t len in
      (t / len, t % len, t % len, div_below t len e some inside, sym whole, sym same ∙ sym whole, (refl, mod_below t len some)),
  λ reached.
      let numbered : reached.0 < e = reached.3 in
      let tIs : t ≡ reached.0 * len + reached.1 = reached.4 in
      let sIs : s ≡ reached.0 * len + reached.2 = reached.5 in
      let same : reached.1 ≡ reached.2 = reached.6.0 in
      let below : reached.1 < len = reached.6.1 in
      let inside = mul-add-lt reached.0 len reached.1 e numbered below in
      (omega arith, omega (arith, inside, mul_comm len e)),
)

single_reaches : (ss ts : ℕ) (strides : List Stride) (len t s : ℕ)
    → Reaches strides len t s ↔ Reaches (record { count = 1; source_step = ss; target_step = ts } ∷ strides) len t s
single_reaches ss ts strides len t s = (
  λ reached. (0, t, s, omega arith, omega arith, omega arith, reached),
  λ reached.
      let numbered : reached.0 < 1 = reached.3 in
      let first : reached.0 ≡ 0 = omega arith in
      let tIs : t ≡ reached.1 = reached.4 ∙ (rw first (omega arith)) in
      let sIs : s ≡ reached.2 = reached.5 ∙ (rw first (omega arith)) in
      rw (tIs, sIs) reached.6,
)

pub extended_reaches : (e ss ts : ℕ) (strides : List Stride) (len used : ℕ) (strides' : List Stride) (len' used' : ℕ) (t s : ℕ) → 0 < len
    → Extends e ss ts strides len used strides' len' used'
    → Reaches strides' len' t s ↔ Reaches (record { count = e; source_step = ss; target_step = ts } ∷ strides) len t s
extended_reaches e ss ts strides len used strides' len' used' t s some (joined none sIs tIs none' lenIs usedIs) =
    rw (none, sIs, tIs, none', lenIs) (joined_reaches e len t s some)
extended_reaches e ss ts strides len used strides' len' used' t s some (pushed two stridesIs lenIs usedIs) = rw (stridesIs, lenIs) (λ r. r, λ r. r)
extended_reaches e ss ts strides len used strides' len' used' t s some (single one stridesIs lenIs usedIs) =
    rw (one, stridesIs, lenIs) (single_reaches ss ts strides len t s)

-- the strides of one dimension more
pub reaches_more : (e ss ts ss' ts' : ℕ) (strides strides' : List Stride) (len len' t s : ℕ) → ss ≡ ss' → ts ≡ ts'
    → ((t s : ℕ) → Reaches strides len t s ↔ Reaches strides' len' t s)
    → Reaches (record { count = e; source_step = ss; target_step = ts } ∷ strides) len t s
    ↔ Reaches (record { count = e; source_step = ss'; target_step = ts' } ∷ strides') len' t s
reaches_more e ss ts ss' ts' strides strides' len len' t s sIs tIs same = rw (sIs, tIs) (
  λ r. (r.0, r.1, r.2, r.3, r.4, r.5, (same r.1 r.2).0 r.6),
  λ r. (r.0, r.1, r.2, r.3, r.4, r.5, (same r.1 r.2).1 r.6),
)

-- ---- what stays true

pub extended_apart : (e ss ts : ℕ) (strides : List Stride) (len used : ℕ) (strides' : List Stride) (len' used' : ℕ)
    → target_span strides len ≤ ts → AreApart strides len
    → Extends e ss ts strides len used strides' len' used' → AreApart strides' len'
extended_apart e ss ts strides len used strides' len' used' room apart (joined none sIs tIs none' lenIs usedIs) = rw none' tt
extended_apart e ss ts strides len used strides' len' used' room apart (pushed two stridesIs lenIs usedIs) =
    rw (stridesIs, lenIs) ((omega arith, room), apart)
extended_apart e ss ts strides len used strides' len' used' room apart (single one stridesIs lenIs usedIs) = rw (stridesIs, lenIs) apart

steps_then_last : (e len : ℕ) → 0 < e → len * e ≡ (e - 1) * len + len
steps_then_last e len some =
    let is : e ≡ (e - 1) + 1 = omega arith in
    mul_comm len e ∙ ap (λ n. n * len) is ∙ omega (arith, add-mul (e - 1) 1 len)

pub extended_source_span : (e ss ts : ℕ) (strides : List Stride) (len used : ℕ) (strides' : List Stride) (len' used' : ℕ) → 0 < e
    → Extends e ss ts strides len used strides' len' used' → source_span strides' len' ≡ (e - 1) * ss + source_span strides len
extended_source_span e ss ts strides len used strides' len' used' some (joined none sIs tIs none' lenIs usedIs) =
    rw (none, sIs, none', lenIs) (steps_then_last e len some)
extended_source_span e ss ts strides len used strides' len' used' some (pushed two stridesIs lenIs usedIs) = rw (stridesIs, lenIs) refl
extended_source_span e ss ts strides len used strides' len' used' some (single one stridesIs lenIs usedIs) = rw (one, stridesIs, lenIs) (omega arith)

pub extended_target_span : (e ss ts : ℕ) (strides : List Stride) (len used : ℕ) (strides' : List Stride) (len' used' : ℕ) → 0 < e
    → Extends e ss ts strides len used strides' len' used' → target_span strides' len' ≡ (e - 1) * ts + target_span strides len
extended_target_span e ss ts strides len used strides' len' used' some (joined none sIs tIs none' lenIs usedIs) =
    rw (none, tIs, none', lenIs) (steps_then_last e len some)
extended_target_span e ss ts strides len used strides' len' used' some (pushed two stridesIs lenIs usedIs) = rw (stridesIs, lenIs) refl
extended_target_span e ss ts strides len used strides' len' used' some (single one stridesIs lenIs usedIs) = rw (one, stridesIs, lenIs) (omega arith)

-- a box with one dimension more ends within its array
pub room_more : (offset span block start e n : ℕ) → offset + span ≤ block → start + e ≤ n → 0 < e
    → (offset + start * block) + ((e - 1) * block + span) ≤ block * n
room_more offset span block start e n room fits some =
    let is : e ≡ (e - 1) + 1 = omega arith in
    let split : e * block ≡ (e - 1) * block + block = ap (λ v. v * block) is ∙ omega (arith, add-mul (e - 1) 1 block) in
    omega (arith, mul-le-mul_right block fits, add-mul start e block, mul_comm block n)

-- each stride at least doubles the bytes
pub few_more : (e ss ts : ℕ) (strides : List Stride) (len used : ℕ) (strides' : List Stride) (len' used' : ℕ) (n m : ℕ) → e ≤ m
    → 2 ^ used * len ≤ n → Extends e ss ts strides len used strides' len' used' → 2 ^ used' * len' ≤ n * m
few_more e ss ts strides len used strides' len' used' n m below few (joined none sIs tIs none' lenIs usedIs) =
    rw (lenIs, usedIs) (times (2 ^ used) len e n m below few)
  where
    times : (c len e n m : ℕ) → e ≤ m → c * len ≤ n → c * (len * e) ≤ n * m
    times c len e n m below few = omega (arith, sym (mul_assoc c len e), mul-le-mul_right e few, mul-le-mul_left n below)
few_more e ss ts strides len used strides' len' used' n m below few (pushed two stridesIs lenIs usedIs) =
    rw (lenIs, usedIs) (twice (2 ^ used) (2 ^ (used + 1)) len n m (omega arith) few (pow-add 2 used 1 ∙ refl))
  where
    twice : (c c' len n m : ℕ) → 2 ≤ m → c * len ≤ n → c' ≡ c * 2 → c' * len ≤ n * m
    twice c c' len n m two few is = rw is (omega (arith, mul_assoc c 2 len, mul_comm 2 len, sym (mul_assoc c len 2), mul-le-mul_left n two))
few_more e ss ts strides len used strides' len' used' n m below few (single one stridesIs lenIs usedIs) =
    let some : 1 ≤ m = omega arith in
    rw (lenIs, usedIs) (omega (arith, mul-le-mul_left n some))

pub some_more : (e ss ts : ℕ) (strides : List Stride) (len used : ℕ) (strides' : List Stride) (len' used' : ℕ) → 0 < len → 0 < e
    → Extends e ss ts strides len used strides' len' used' → 0 < len'
some_more e ss ts strides len used strides' len' used' some some_extent (joined none sIs tIs none' lenIs usedIs) =
    let low : 1 ≤ len = some in
    let more : 1 ≤ e = some_extent in
    rw lenIs (omega (arith, mul-le-mul_left len more))
some_more e ss ts strides len used strides' len' used' some some_extent (pushed two stridesIs lenIs usedIs) = rw lenIs some
some_more e ss ts strides len used strides' len' used' some some_extent (single one stridesIs lenIs usedIs) = rw lenIs some

-- where the first run begins
pub offset_more : (offset place count start block size : ℕ) → offset ≡ place * size → block ≡ count * size
    → offset + start * block ≡ (start * count + place) * size
offset_more offset place count start block size offsetIs blockIs =
    omega (arith, ap (λ n. start * n) blockIs, sym (mul_assoc start count size), add-mul (start * count) place size)

pub iff_trans : (A B C : Type 0) → (A ↔ B) → (B ↔ C) → A ↔ C
iff_trans A B C ab bc = (λ a. bc.0 (ab.0 a), λ c. ab.1 (bc.1 c))

-- a stride before those so far
pub drop-set_before : (strides : List Stride) (first : ℕ) (stride : Stride) → 0 < first → first ≤ length strides
    → drop (first - 1) (slice_set strides (first - 1) stride) ≡ stride ∷ drop first strides
drop-set_before strides first stride some within =
    let next : first - 1 + 1 ≡ first = omega arith in
    drop-set strides (first - 1) stride (omega arith) ∙ ap (λ n. stride ∷ drop n strides) next
