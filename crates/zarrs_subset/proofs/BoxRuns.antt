-- The runs that copy a box copy its cells.
use Rattle.std.proofs.Common.{◌≡◌, ◌≢◌, ℕ, zero, suc, ◌+◌, ◌-◌, ◌*◌, ◌/◌, ◌<◌, ◌≤◌, true, false}
use Rattle.std.proofs.Common.{List, [], ◌∷◌, length, take, drop, slice_index, get_or, refl, sym, ap, ◌∙◌, arith, inl}
use Rattle.std.proofs.Common.{inr}
use Rattle.std.proofs.Math.Nat.{mul-le-mul_right, mul_assoc, add-mul}
use Rattle.std.proofs.lemmas.Nat.{div-mul-add}
use Rattle.std.proofs.lemmas.List.{drop_more, drop_all}
use Rattle.std.proofs.lemmas.Bool.{cases_Bool, false≢true}
use Rattle.zarrs_subset.specs.declared.runs.Runs.{Runs}
use Rattle.zarrs_subset.specs.Boxes.{position_count, InShape, place, unravel, BoxFits, is_within, moved, offset_from, offset_by}
use Rattle.zarrs_subset.specs.Cells.{BoxCopied}
use Rattle.zarrs_subset.specs.Strides.{Reaches, RunsCopied}
use Rattle.zarrs_subset.specs.Plans.{dimension_strides, strides_of, IsPlan}
use Rattle.zarrs_subset.proofs.Kernel.{in_block}
use Rattle.zarrs_subset.proofs.Overlaps.{AllSome}
use Rattle.zarrs_subset.proofs.Counts.{length-InShape, count_drop, count_some}
use Rattle.zarrs_subset.proofs.Positions.{unravel-place, in_box-offset_by, offset_from-in, offset_by-from}
use Rattle.zarrs_subset.proofs.Joined.{length_shape, count_split}
use Rattle.zarrs_subset.proofs.Nothing.{length_fits}

-- ---- positions seen from a corner

place-offset_by : (shape corner q : List ℕ) → length corner ≡ length shape → length q ≡ length shape
    → place shape (offset_by corner q) ≡ place shape corner + place shape q
place-offset_by [] corner q l m = omega arith
place-offset_by (n ∷ shape) [] q l m = absurd (omega arith)
place-offset_by (n ∷ shape) (u ∷ corner) [] l m = absurd (omega arith)
place-offset_by (n ∷ shape) (u ∷ corner) (j ∷ q) l m =
    omega (arith, place-offset_by shape corner q (omega arith) (omega arith), add-mul u j (position_count shape))

InShape-offset_by : (corner extents shape q : List ℕ) → BoxFits corner extents shape → InShape extents q → InShape shape (offset_by corner q)
InShape-offset_by [] [] [] q h i = tt
InShape-offset_by [] [] (n ∷ shape) q h i = absurd h
InShape-offset_by [] (e ∷ extents) shape q h i = absurd h
InShape-offset_by (u ∷ corner) [] shape q h i = absurd h
InShape-offset_by (u ∷ corner) (e ∷ extents) [] q h i = absurd h
InShape-offset_by (u ∷ corner) (e ∷ extents) (n ∷ shape) [] h i = absurd i
InShape-offset_by (u ∷ corner) (e ∷ extents) (n ∷ shape) (j ∷ q) h i =
    let room : u + e ≤ n = h.0 in
    let below : j < e = i.0 in
    (omega arith, InShape-offset_by corner extents shape q h.1 i.1)

moved-offset : (from to p : List ℕ) → moved from to p ≡ offset_by to (offset_from from p)
moved-offset [] [] p = refl
moved-offset [] (b ∷ to) p = refl
moved-offset (a ∷ from) [] p = refl
moved-offset (a ∷ from) (b ∷ to) [] = refl
moved-offset (a ∷ from) (b ∷ to) (i ∷ p) = ap (λ q. (b + (i - a)) ∷ q) (moved-offset from to p)

place_same : (shape p q : List ℕ) → InShape shape p → InShape shape q → place shape p ≡ place shape q → p ≡ q
place_same shape p q i j same = sym (unravel-place shape p i) ∙ ap (λ k. unravel shape k) same ∙ unravel-place shape q j

same_cell : (a b size k l : ℕ) → k < size → l < size → a * size + k ≡ b * size + l → a ≡ b
same_cell a b size k l h i same = sym (div-mul-add a size k h) ∙ ap (λ n. n / size) same ∙ div-mul-add b size l i

-- ---- the bytes that a stride for each dimension reaches

reach_from : (size : ℕ) (S T es q : List ℕ) (b : ℕ) → length S ≡ length es → length T ≡ length es → InShape es q → b < size
    → Reaches (dimension_strides size S T es) size (place T q * size + b) (place S q * size + b)
reach_from size [] [] [] [] b l m inside below = (refl, omega arith)
reach_from size [] [] [] (j ∷ q) b l m inside below = absurd inside
reach_from size [] T (e ∷ es) q b l m inside below = absurd (omega arith)
reach_from size (n ∷ S) T [] q b l m inside below = absurd (omega arith)
reach_from size [] (n ∷ T) [] q b l m inside below = absurd (omega arith)
reach_from size (n ∷ S) [] (e ∷ es) q b l m inside below = absurd (omega arith)
reach_from size (n ∷ S) (m ∷ T) (e ∷ es) [] b l k inside below = absurd inside
reach_from size (n ∷ S) (m ∷ T) (e ∷ es) (j ∷ q) b l k inside below = (
  j,
  place T q * size + b,
  place S q * size + b,
  inside.0,
  in_block j (position_count T) (place T q) size b,
  in_block j (position_count S) (place S q) size b,
  reach_from size S T es q b (omega arith) (omega arith) inside.1 below,
)

record IsReached (size : ℕ) (T es : List ℕ) (t : ℕ) : Type 0 where
  offset : List ℕ
  byte : ℕ
  inside : InShape es offset
  below : byte < size
  at : t ≡ place T offset * size + byte

reach_to : (size : ℕ) (S T es : List ℕ) (t s : ℕ) → length S ≡ length es → length T ≡ length es
    → Reaches (dimension_strides size S T es) size t s → IsReached size T es t
reach_to size [] [] [] t s l m reached = record { offset = []; byte = t; inside = tt; below = reached.1; at = omega arith }
reach_to size [] T (e ∷ es) t s l m reached = absurd (omega arith)
reach_to size (n ∷ S) T [] t s l m reached = absurd (omega arith)
reach_to size [] (n ∷ T) [] t s l m reached = absurd (omega arith)
reach_to size (n ∷ S) [] (e ∷ es) t s l m reached = absurd (omega arith)
reach_to size (n ∷ S) (m ∷ T) (e ∷ es) t s l k reached =
    let inner = reach_to size S T es reached.1 reached.2 (omega arith) (omega arith) reached.6 in
    record {
      offset = reached.0 ∷ inner.offset;
      byte = inner.byte;
      inside = (reached.3, inner.inside);
      below = inner.below;
      at = reached.4 ∙ ap (λ v. reached.0 * (position_count T * size) + v) inner.at ∙ sym (in_block reached.0 (position_count T) (place T inner.offset) size inner.byte);
    }

-- ---- the cells

pub box_copied : (size : ℕ) (S F T U es from old new : List ℕ) (runs : Runs)
    → BoxFits F es S → BoxFits U es T → IsPlan size S F T U es runs
    → RunsCopied (strides_of runs) runs.len runs.source_offset runs.target_offset from old new → BoxCopied size S F T U es from old new
box_copied size S F T U es from old new runs fitsS fitsT plan copied p k inside below =
    let longS = length_shape F es S fitsS in
    let longT = length_shape U es T fitsT in
    let longF = length_fits F es S fitsS in
    let longU = length_fits U es T fitsT in
    elim (cases_Bool (is_within U es p)) [
      | inl hit ↦
          let q = offset_from U p in
          let q_in = offset_from-in U es p longU hit in
          let long = length-InShape es q q_in in
          let reached = (plan.reaches (place T q * size + k) (place S q * size + k)).1 (reach_from size S T es q k longS longT q_in below) in
          let to : place T p ≡ place T U + place T q =
          ap (λ r. place T r) (sym (offset_by-from U es p longU hit)) ∙ place-offset_by T U q (omega arith) (omega arith) in
          let source : place S (moved U F p) ≡ place S F + place S q =
          ap (λ r. place S r) (moved-offset U F p) ∙ place-offset_by S F q (omega arith) (omega arith) in
          let to_is : place T p * size + k ≡ runs.target_offset + (place T q * size + k) =
          omega (arith, ap (λ v. v * size) to, add-mul (place T U) (place T q) size, plan.target_offset) in
          let from_is : runs.source_offset + (place S q * size + k) ≡ place S (moved U F p) * size + k =
          omega (arith, ap (λ v. v * size) source, add-mul (place S F) (place S q) size, plan.source_offset) in
          rw hit (ap (λ n. get_or new n 0) to_is ∙ copied.copied (place T q * size + k) (place S q * size + k) reached ∙ ap (λ n. get_or from n 0) from_is)
      | inr miss ↦
          rw miss (copied.kept (place T p * size + k) (λ t s reached e.
          let r = reach_to size S T es t s longS longT ((plan.reaches t s).0 reached) in
          let long = length-InShape es r.offset r.inside in
          let q = offset_by U r.offset in
          let to : place T q ≡ place T U + place T r.offset = place-offset_by T U r.offset (omega arith) (omega arith) in
          let same : place T p * size + k ≡ place T q * size + r.byte =
          omega (arith, e, r.at, ap (λ v. v * size) to, add-mul (place T U) (place T r.offset) size, plan.target_offset) in
          let cell = same_cell (place T p) (place T q) size k r.byte below r.below same in
          let p_is = place_same T p q inside (InShape-offset_by U es T r.offset fitsT r.inside) cell in
          false≢true (sym miss ∙ ap (λ v. is_within U es v) p_is ∙ in_box-offset_by U es r.offset longU r.inside)))
    ]

-- ---- one dimension more

pub BoxFits-at : (start extents shape : List ℕ) (k : ℕ) → k < length extents → BoxFits start extents shape → slice_index start k + slice_index extents k ≤ slice_index shape k
BoxFits-at [] [] shape k below h = absurd (omega arith)
BoxFits-at [] (e ∷ extents) shape k below h = absurd h
BoxFits-at (s ∷ start) [] shape k below h = absurd h
BoxFits-at (s ∷ start) (e ∷ extents) [] k below h = absurd h
BoxFits-at (s ∷ start) (e ∷ extents) (n ∷ shape) zero below h = h.0
BoxFits-at (s ∷ start) (e ∷ extents) (n ∷ shape) (suc k) below h = BoxFits-at start extents shape k (omega arith) h.1

-- an array that a box with positions fits has positions
pub AllSome-fits : (start extents shape : List ℕ) → AllSome extents → BoxFits start extents shape → AllSome shape
AllSome-fits start extents shape some h k below z =
    let long = length_shape start extents shape h in
    some k (omega arith) (omega (arith, BoxFits-at start extents shape k (omega arith) h, z))

-- the block of one dimension is no larger than the array
pub block_within : (shape : List ℕ) (k size block len : ℕ) → k < length shape → AllSome shape → block ≡ position_count (drop (k + 1) shape) * size
    → len ≡ position_count shape * size → slice_index shape k * block ≤ len
block_within shape k size block len below some is whole =
    let here : slice_index shape k * block ≡ position_count (drop k shape) * size =
    ap (λ v. slice_index shape k * v) is ∙ sym (mul_assoc (slice_index shape k) (position_count (drop (k + 1) shape)) size)
    ∙ ap (λ v. v * size) (sym (count_drop shape k below)) in
    let front : 1 ≤ position_count (take k shape) = count_some (take k shape) (AllSome-take shape k some) in
    omega (
      arith,
      here,
      whole,
      ap (λ v. v * size) (count_split shape k),
      mul_assoc (position_count (take k shape)) (position_count (drop k shape)) size,
      mul-le-mul_right (position_count (drop k shape) * size) front,
    )
  where
    AllSome-take : (shape : List ℕ) (k : ℕ) → AllSome shape → AllSome (take k shape)
    AllSome-take shape zero some j below z = absurd (omega arith)
    AllSome-take [] (suc k) some j below z = absurd (omega arith)
    AllSome-take (n ∷ shape) (suc k) some zero below z = some zero (omega arith) z
    AllSome-take (n ∷ shape) (suc k) some (suc j) below z = AllSome-take shape k (λ i h e. some (suc i) (omega arith) e) j (omega arith) z

-- what a copy between two arrays knows of dimension k
pub record FitsAt (S F T U es : List ℕ) (k : ℕ) : Type 0 where
  pub in_source : k < length S
  pub in_source_start : k < length F
  pub in_target : k < length T
  pub in_target_start : k < length U
  pub in_extents : k < length es
  pub source_fits : slice_index F k + slice_index es k ≤ slice_index S k
  pub target_fits : slice_index U k + slice_index es k ≤ slice_index T k

pub fits_at : (S F T U es : List ℕ) (k : ℕ) → BoxFits F es S → BoxFits U es T → k < length es → FitsAt S F T U es k
fits_at S F T U es k source target below = record {
  in_source = omega (arith, length_shape F es S source);
  in_source_start = omega (arith, length_fits F es S source);
  in_target = omega (arith, length_shape U es T target);
  in_target_start = omega (arith, length_fits U es T target);
  in_extents = below;
  source_fits = BoxFits-at F es S k below source;
  target_fits = BoxFits-at U es T k below target;
}

-- no dimension so far
pub IsPlan-none : (size : ℕ) (S F T U es : List ℕ) (runs : Runs) → BoxFits F es S → BoxFits U es T → IsPlan size [] [] [] [] [] runs
    → IsPlan size (drop (length es) S) (drop (length es) F) (drop (length es) T) (drop (length es) U) (drop (length es) es) runs
IsPlan-none size S F T U es runs source target plan =
    rw (
      drop_all (length es) S (omega (arith, length_shape F es S source)),
      drop_all (length es) F (omega (arith, length_fits F es S source)),
      drop_all (length es) T (omega (arith, length_shape U es T target)),
      drop_all (length es) U (omega (arith, length_fits U es T target)),
      drop_all (length es) es (omega arith),
    ) plan

-- one dimension more
pub IsPlan-more : (size j k : ℕ) (S F T U es : List ℕ) (old new : Runs) → j ≡ k + 1 → FitsAt S F T U es k
    → ((size : ℕ) (S' F' T' U' es' : List ℕ) → IsPlan size S' F' T' U' es' old
    → IsPlan size (slice_index S k ∷ S') (slice_index F k ∷ F') (slice_index T k ∷ T') (slice_index U k ∷ U') (slice_index es k ∷ es') new)
    → IsPlan size (drop j S) (drop j F) (drop j T) (drop j U) (drop j es) old
    → IsPlan size (drop k S) (drop k F) (drop k T) (drop k U) (drop k es) new
IsPlan-more size j k S F T U es old new jIs fits step plan =
    rw (drop_more S k 0 fits.in_source, drop_more F k 0 fits.in_source_start, drop_more T k 0 fits.in_target, drop_more U k 0 fits.in_target_start, drop_more es k 0 fits.in_extents)
    (step size _ _ _ _ _ (rw jIs at plan))
