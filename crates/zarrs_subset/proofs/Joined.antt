-- A box whose trailing dimensions are whole in both arrays, as a box of fewer dimensions and larger cells.
use Rattle.std.proofs.Common.{◌≡◌, ℕ, zero, suc, ◌+◌, ◌-◌, ◌*◌, ◌<◌, ◌≤◌, true, ◌&&◌, List, [], ◌∷◌, length, take, drop}
use Rattle.std.proofs.Common.{slice_index, refl, sym, ap, ◌∙◌, arith}
use Rattle.std.proofs.Math.Nat.{mul-le-mul_left, mul-le-mul_right, mul_assoc, mul_comm}
use Rattle.std.proofs.lemmas.List.{drop_more}
use Rattle.std.proofs.lemmas.Bool.Decides.{nat_tests}
use Rattle.zarrs_subset.specs.Boxes.{position_count, InShape, place, BoxFits, in_range, is_within, moved}
use Rattle.zarrs_subset.specs.Cells.{BoxCopied}
use Rattle.zarrs_subset.proofs.Overlaps.{AllSome}
use Rattle.zarrs_subset.proofs.Counts.{count_drop}
use Rattle.zarrs_subset.proofs.Kernel.{place_below, in_block, below_block}

-- ---- a shape in two parts

pub count_split : (shape : List ℕ) (k : ℕ) → position_count shape ≡ position_count (take k shape) * position_count (drop k shape)
count_split shape zero = omega arith
count_split [] (suc k) = omega arith
count_split (n ∷ shape) (suc k) =
    ap (λ v. n * v) (count_split shape k) ∙ sym (mul_assoc n (position_count (take k shape)) (position_count (drop k shape)))

pub len_split : (shape R : List ℕ) (k size len c : ℕ) → len ≡ position_count shape * size → drop k shape ≡ R → c ≡ position_count R * size → len ≡ position_count (take k shape) * c
len_split shape R k size len c l is cIs =
    l ∙ ap (λ n. n * size) (count_split shape k) ∙ mul_assoc (position_count (take k shape)) (position_count (drop k shape)) size
    ∙ ap (λ n. position_count (take k shape) * n) (ap (λ r. position_count r * size) is ∙ sym cIs)

pub BoxFits-take : (start extents shape : List ℕ) (k : ℕ) → BoxFits start extents shape → BoxFits (take k start) (take k extents) (take k shape)
BoxFits-take start extents shape zero h = tt
BoxFits-take [] [] [] (suc k) h = tt
BoxFits-take [] [] (n ∷ shape) (suc k) h = absurd h
BoxFits-take [] (e ∷ extents) shape (suc k) h = absurd h
BoxFits-take (s ∷ start) [] shape (suc k) h = absurd h
BoxFits-take (s ∷ start) (e ∷ extents) [] (suc k) h = absurd h
BoxFits-take (s ∷ start) (e ∷ extents) (n ∷ shape) (suc k) h = (h.0, BoxFits-take start extents shape k h.1)

pub length_shape : (start extents shape : List ℕ) → BoxFits start extents shape → length shape ≡ length extents
length_shape [] [] [] h = refl
length_shape [] [] (n ∷ shape) h = absurd h
length_shape [] (e ∷ extents) shape h = absurd h
length_shape (s ∷ start) [] shape h = absurd h
length_shape (s ∷ start) (e ∷ extents) [] h = absurd h
length_shape (s ∷ start) (e ∷ extents) (n ∷ shape) h = ap suc (length_shape start extents shape h.1)

-- the whole dimensions have no more positions than the array
pub count_within : (start extents shape : List ℕ) (k : ℕ) → AllSome extents → BoxFits start extents shape → position_count (drop k extents) ≤ position_count shape
count_within [] [] [] zero some h = omega arith
count_within [] [] [] (suc k) some h = omega arith
count_within [] [] (n ∷ shape) k some h = absurd h
count_within [] (e ∷ extents) shape k some h = absurd h
count_within (s ∷ start) [] shape k some h = absurd h
count_within (s ∷ start) (e ∷ extents) [] k some h = absurd h
count_within (s ∷ start) (e ∷ extents) (n ∷ shape) zero some h =
    let inner = count_within start extents shape 0 (λ j below z. some (suc j) (omega arith) z) h.1 in
    let first : e ≤ n = omega arith in
    omega (arith, mul-le-mul_left e inner, mul-le-mul_right (position_count shape) first)
count_within (s ∷ start) (e ∷ extents) (n ∷ shape) (suc k) some h =
    let inner = count_within start extents shape k (λ j below z. some (suc j) (omega arith) z) h.1 in
    let positive : 1 ≤ n = (let here : e ≡ 0 → ⊥ = some zero (omega arith) in omega arith) in
    omega (arith, mul-le-mul_right (position_count shape) positive, inner)

-- one dimension more is whole
pub whole_more : (shape extents : List ℕ) (k : ℕ) → k < length shape → k < length extents → slice_index shape k ≡ slice_index extents k
    → drop (k + 1) shape ≡ drop (k + 1) extents → drop k shape ≡ drop k extents
whole_more shape extents k below below' same rest =
    drop_more shape k 0 below ∙ ap (λ n. n ∷ drop (k + 1) shape) same ∙ ap (λ l. slice_index extents k ∷ l) rest ∙ sym (drop_more extents k 0 below')

pub block_more : (extents : List ℕ) (k size : ℕ) → k < length extents → position_count (drop (k + 1) extents) * size * slice_index extents k ≡ position_count (drop k extents) * size
block_more extents k size below =
    let c = position_count (drop (k + 1) extents) in
    let e = slice_index extents k in
    mul_comm (c * size) e ∙ sym (mul_assoc e c size) ∙ ap (λ n. n * size) (sym (count_drop extents k below))

-- ---- a box that is the whole array

whole_within : (U R p : List ℕ) → BoxFits U R R → InShape R p → is_within U R p ≡ true
whole_within [] [] [] h inside = refl
whole_within [] [] (i ∷ p) h inside = absurd inside
whole_within [] (n ∷ R) p h inside = absurd h
whole_within (u ∷ U) [] p h inside = absurd h
whole_within (u ∷ U) (n ∷ R) [] h inside = absurd inside
whole_within (u ∷ U) (n ∷ R) (i ∷ p) h inside =
    let here : in_range u n i ≡ true = in_all u n i h.0 inside.0 in
    rw here (whole_within U R p h.1 inside.1)
  where
    in_all : (u n i : ℕ) → u + n ≤ n → i < n → in_range u n i ≡ true
    in_all u n i low below = grind (arith, nat_tests)

whole_moved : (U F R p : List ℕ) → BoxFits U R R → BoxFits F R R → InShape R p → moved U F p ≡ p
whole_moved [] [] [] [] h g inside = refl
whole_moved [] (f ∷ F) [] p h g inside = absurd g
whole_moved [] F [] (i ∷ p) h g inside = absurd inside
whole_moved [] F (n ∷ R) p h g inside = absurd h
whole_moved (u ∷ U) F [] p h g inside = absurd h
whole_moved (u ∷ U) [] (n ∷ R) p h g inside = absurd g
whole_moved (u ∷ U) (f ∷ F) (n ∷ R) [] h g inside = absurd inside
whole_moved (u ∷ U) (f ∷ F) (n ∷ R) (i ∷ p) h g inside =
    let first : f + (i - u) ≡ i = omega arith in
    rw (first, whole_moved U F R p h.1 g.1 inside.1) refl

-- ---- a position in two parts

record InParts (k : ℕ) (S F T U es R p : List ℕ) : Type 0 where
  inside : InShape (take k T) (take k p)
  rest : InShape R (drop k p)
  within : is_within U es p ≡ is_within (take k U) (take k es) (take k p)
  target : place T p ≡ place (take k T) (take k p) * position_count R + place R (drop k p)
  source : place S (moved U F p) ≡ place (take k S) (moved (take k U) (take k F) (take k p)) * position_count R + place R (drop k p)

in_parts : (k : ℕ) (S F T U es R p : List ℕ) → BoxFits F es S → BoxFits U es T → drop k S ≡ R → drop k T ≡ R → drop k es ≡ R → InShape T p → InParts k S F T U es R p
in_parts zero S F T U es R p fitsS fitsT isS isT isE inside =
    let fitsF : BoxFits F R R = rw (isS, isE) at fitsS in
    let fitsU : BoxFits U R R = rw (isT, isE) at fitsT in
    let at : InShape R p = rw isT at inside in
    record {
      inside = tt;
      rest = at;
      within = rw isE (whole_within U R p fitsU at);
      target = rw isT (omega arith);
      source = rw (isS, whole_moved U F R p fitsU fitsF at) (omega arith);
    }
in_parts (suc k) [] [] [] [] [] R [] fitsS fitsT isS isT isE inside = record {
  inside = tt;
  rest = rw (sym isS) tt;
  within = refl;
  target = rw (sym isS) (omega arith);
  source = rw (sym isS) (omega arith);
}
in_parts (suc k) [] F [] U [] R (i ∷ p) fitsS fitsT isS isT isE inside = absurd inside
in_parts (suc k) [] (f ∷ F) T U [] R p fitsS fitsT isS isT isE inside = absurd fitsS
in_parts (suc k) (n ∷ S) [] T U [] R p fitsS fitsT isS isT isE inside = absurd fitsS
in_parts (suc k) (n ∷ S) (f ∷ F) T U [] R p fitsS fitsT isS isT isE inside = absurd fitsS
in_parts (suc k) [] [] (m ∷ T) [] [] R p fitsS fitsT isS isT isE inside = absurd fitsT
in_parts (suc k) [] [] T (u ∷ U) [] R p fitsS fitsT isS isT isE inside = absurd fitsT
in_parts (suc k) S [] T U (e ∷ es) R p fitsS fitsT isS isT isE inside = absurd fitsS
in_parts (suc k) [] (f ∷ F) T U (e ∷ es) R p fitsS fitsT isS isT isE inside = absurd fitsS
in_parts (suc k) (n ∷ S) (f ∷ F) T [] (e ∷ es) R p fitsS fitsT isS isT isE inside = absurd fitsT
in_parts (suc k) (n ∷ S) (f ∷ F) [] (u ∷ U) (e ∷ es) R p fitsS fitsT isS isT isE inside = absurd fitsT
in_parts (suc k) (n ∷ S) (f ∷ F) (m ∷ T) (u ∷ U) (e ∷ es) R [] fitsS fitsT isS isT isE inside = absurd inside
in_parts (suc k) (n ∷ S) (f ∷ F) (m ∷ T) (u ∷ U) (e ∷ es) R (i ∷ p) fitsS fitsT isS isT isE inside =
    let inner = in_parts k S F T U es R p fitsS.1 fitsT.1 isS isT isE inside.1 in
    record {
      inside = (inside.0, inner.inside);
      rest = inner.rest;
      within = ap (λ b. in_range u e i && b) inner.within;
      target = one_more i T (place T p) _ _ _ _ inner.target (count_split T k ∙ ap (λ l. position_count (take k T) * position_count l) isT);
      source = one_more (f + (i - u)) S (place S (moved U F p)) _ _ _ _ inner.source (count_split S k ∙ ap (λ l. position_count (take k S) * position_count l) isS);
    }
  where
    one_more : (j : ℕ) (X : List ℕ) (v q r c b : ℕ) → v ≡ q * r + b → position_count X ≡ c * r → j * position_count X + v ≡ (j * c + q) * r + b
    one_more j X v q r c b is count = rw (is, count) (sym (in_block j c q r b))

-- the copy of the larger cells is the copy of the cells
pub joined : (size c k : ℕ) (S F T U es R from old new : List ℕ) → BoxFits F es S → BoxFits U es T → drop k S ≡ R → drop k T ≡ R → drop k es ≡ R → c ≡ position_count R * size
    → BoxCopied c (take k S) (take k F) (take k T) (take k U) (take k es) from old new → BoxCopied size S F T U es from old new
joined size c k S F T U es R from old new fitsS fitsT isS isT isE cIs copied p b inside below =
    let parts = in_parts k S F T U es R p fitsS fitsT isS isT isE inside in
    let n = position_count R in
    let r = place R (drop k p) in
    let byte = r * size + b in
    let small : byte < c = rw cIs (below_block n r size b (place_below R (drop k p) parts.rest) below) in
    let at = place (take k T) (take k p) in
    let from_at = place (take k S) (moved (take k U) (take k F) (take k p)) in
    let target : place T p * size + b ≡ at * c + byte = rw (parts.target, cIs) (in_block at n r size b) in
    let source : place S (moved U F p) * size + b ≡ from_at * c + byte = rw (parts.source, cIs) (in_block from_at n r size b) in
    rw (target, source, parts.within) (copied (take k p) byte parts.inside small)
