-- Walks without the dimensions of extent 1.
use Rattle.std.proofs.Common.{◌≡◌, ℕ, ◌+◌, ◌*◌, ◌<◌, Bool, true, false, cond, eqb, List, [], ◌∷◌, ◌++◌, length}
use Rattle.std.proofs.Common.{refl, sym, ap, ◌∙◌, arith, append-nil}
use Rattle.std.specs.Prelude.{slice_index}
use Rattle.std.specs.List.{flat_map, range_with_len}
use Rattle.std.proofs.lemmas.Bool.{eqb-true}
use Rattle.zarrs_subset.specs.Boxes.{position_count, InShape, place, without_ones}
use Rattle.zarrs_subset.proofs.Ones.{count-without_ones}
use Rattle.zarrs_codec_array.specs.Orders.{dot_product}
use Rattle.zarrs_codec_array.specs.Gathered.{IsGathered, AreWithin, walked}

-- ---- positions with and without them

-- p is a position of the array, and q the same position of the array without the dimensions of extent 1
record AreSame (shape steps p q : List ℕ) : Type 0 where
  part : InShape (without_ones shape shape) q
  places : place shape p ≡ place (without_ones shape shape) q
  products : dot_product steps p ≡ dot_product (without_ones shape steps) q

below_one : (n i : ℕ) → n ≡ 1 → i < n → i ≡ 0
below_one n i one lt = omega arith

-- one dimension more, in front
kept_in : (n i : ℕ) (W Q : List ℕ) (b : Bool) → i < n → InShape W Q → InShape (cond b W (n ∷ W)) (cond b Q (i ∷ Q))
kept_in n i W Q true lt inside = inside
kept_in n i W Q false lt inside = (lt, inside)

kept_place : (n i : ℕ) (shape p W Q : List ℕ) (b : Bool) → eqb n 1 ≡ b → i < n → position_count W ≡ position_count shape → place shape p ≡ place W Q
    → place (n ∷ shape) (i ∷ p) ≡ place (cond b W (n ∷ W)) (cond b Q (i ∷ Q))
kept_place n i shape p W Q true is lt count same =
    let none : i * position_count shape ≡ 0 * position_count shape = ap (λ j. j * position_count shape) (below_one n i (eqb-true n 1 is) lt) in
    omega arith
kept_place n i shape p W Q false is lt count same =
    let block : i * position_count W ≡ i * position_count shape = ap (λ c. i * c) count in
    omega arith

kept_product : (n i a : ℕ) (steps p S Q : List ℕ) (b : Bool) → eqb n 1 ≡ b → i < n → dot_product steps p ≡ dot_product S Q
    → dot_product (a ∷ steps) (i ∷ p) ≡ dot_product (cond b S (a ∷ S)) (cond b Q (i ∷ Q))
kept_product n i a steps p S Q true is lt same =
    let none : i * a ≡ 0 * a = ap (λ j. j * a) (below_one n i (eqb-true n 1 is) lt) in
    omega arith
kept_product n i a steps p S Q false is lt same = ap (λ d. i * a + d) same

shrunk : (shape steps p : List ℕ) → length shape ≡ length steps → InShape shape p → AreSame shape steps p (without_ones shape p)
shrunk [] [] [] len inside = record { part = tt; places = refl; products = refl }
shrunk [] [] (i ∷ p) len inside = absurd inside
shrunk [] (a ∷ steps) p len inside = absurd (omega arith)
shrunk (n ∷ shape) [] p len inside = absurd (omega arith)
shrunk (n ∷ shape) (a ∷ steps) [] len inside = absurd inside
shrunk (n ∷ shape) (a ∷ steps) (i ∷ p) len inside =
    let rest = shrunk shape steps p (omega arith) inside.1 in
    record {
      part = kept_in n i (without_ones shape shape) (without_ones shape p) (eqb n 1) inside.0 rest.part;
      places = kept_place n i shape p (without_ones shape shape) (without_ones shape p) (eqb n 1) refl inside.0 (count-without_ones shape) rest.places;
      products = kept_product n i a steps p (without_ones shape steps) (without_ones shape p) (eqb n 1) refl inside.0 rest.products;
    }

grown : (shape steps q : List ℕ) → length shape ≡ length steps → InShape (without_ones shape shape) q
    → (p : List ℕ) × (InShape shape p × (dot_product steps p ≡ dot_product (without_ones shape steps) q))
grown [] [] [] len inside = ([], (tt, refl))
grown [] [] (i ∷ q) len inside = absurd inside
grown [] (a ∷ steps) q len inside = absurd (omega arith)
grown (n ∷ shape) [] q len inside = absurd (omega arith)
grown (n ∷ shape) (a ∷ steps) q len inside = go (eqb n 1) refl q inside (λ r within. grown shape steps r (omega arith) within)
  where
    go : (b : Bool) → eqb n 1 ≡ b → (q : List ℕ) → InShape (cond b (without_ones shape shape) (n ∷ without_ones shape shape)) q
        → ((r : List ℕ) → InShape (without_ones shape shape) r → (p : List ℕ) × (InShape shape p × (dot_product steps p ≡ dot_product (without_ones shape steps) r)))
        → (p : List ℕ) × (InShape (n ∷ shape) p × (dot_product (a ∷ steps) p ≡ dot_product (cond b (without_ones shape steps) (a ∷ without_ones shape steps)) q))
    go true is q within below =
        let rest = below q within in
        let some : 0 < n = (let one = eqb-true n 1 is in omega arith) in
        (0 ∷ rest.0, ((some, rest.1.0), (let same = rest.1.1 in omega arith)))
    go false is [] within below = absurd within
    go false is (i ∷ q) within below =
        let rest = below q within.1 in
        (i ∷ rest.0, ((within.0, rest.1.0), ap (λ d. i * a + d) rest.1.1))

pub within-without_ones : (size : ℕ) (shape steps : List ℕ) (start len : ℕ) → length shape ≡ length steps → AreWithin size shape steps start len
    → AreWithin size (without_ones shape shape) (without_ones shape steps) start len
within-without_ones size shape steps start len same within = record {
  each = λ q inside.
      let at = grown shape steps q same inside in
      let room = within.each at.0 at.1.0 in
      let is = at.1.1 in
      omega arith;
}

pub gathered-without_ones : (size : ℕ) (shape steps : List ℕ) (start : ℕ) (from to : List ℕ) → length shape ≡ length steps
    → IsGathered size (without_ones shape shape) (without_ones shape steps) start from to → IsGathered size shape steps start from to
gathered-without_ones size shape steps start from to same gathered = record {
  same = λ p k inside lt.
      let at = shrunk shape steps p same inside in
      ap (λ n. slice_index to (n * size + k)) at.places
      ∙ gathered.same (without_ones shape p) k at.part lt
      ∙ sym (ap (λ n. slice_index from (start + n + k)) at.products);
}

-- ---- walks with and without them

flat_map-same : (f g : ℕ → List ℕ) (xs : List ℕ) → ((i : ℕ) → f i ≡ g i) → flat_map f xs ≡ flat_map g xs
flat_map-same f g [] each = refl
flat_map-same f g (x ∷ xs) each = ap (λ l. l ++ flat_map f xs) (each x) ∙ ap (λ l. g x ++ l) (flat_map-same f g xs each)

pub walked-without_ones : (shape steps : List ℕ) (start : ℕ) → length shape ≡ length steps
    → walked (without_ones shape shape) (without_ones shape steps) start ≡ walked shape steps start
walked-without_ones [] [] start len = refl
walked-without_ones [] (a ∷ steps) start len = absurd (omega arith)
walked-without_ones (n ∷ shape) [] start len = absurd (omega arith)
walked-without_ones (n ∷ shape) (a ∷ steps) start len = go (eqb n 1) refl (λ at. walked-without_ones shape steps at (omega arith))
  where
    go : (b : Bool) → eqb n 1 ≡ b → ((at : ℕ) → walked (without_ones shape shape) (without_ones shape steps) at ≡ walked shape steps at)
        → walked (cond b (without_ones shape shape) (n ∷ without_ones shape shape)) (cond b (without_ones shape steps) (a ∷ without_ones shape steps)) start
        ≡ flat_map (λ i. walked shape steps (start + i * a)) (range_with_len 0 n)
    go true is rows =
        let first : start ≡ start + 0 * a = omega arith in
        rows start
        ∙ ap (walked shape steps) first
        ∙ sym (append-nil (walked shape steps (start + 0 * a)))
        ∙ ap (λ m. flat_map (λ i. walked shape steps (start + i * a)) (range_with_len 0 m)) (sym (eqb-true n 1 is))
    go false is rows = flat_map-same (λ i. walked (without_ones shape shape) (without_ones shape steps) (start + i * a)) (λ i. walked shape steps (start + i * a)) (range_with_len 0 n) (λ i. rows (start + i * a))
