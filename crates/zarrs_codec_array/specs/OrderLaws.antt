-- The laws of orders: a sum or a product over an order is that over the numbers below its length.
use Rattle.std.proofs.Common.{◌≡◌, ℕ, zero, suc, ◌+◌, ◌*◌, ◌<◌, ◌≤◌, Bool, true, false, cond, eqb, ◌||◌, List, [], ◌∷◌}
use Rattle.std.proofs.Common.{length, map, get_or, refl, sym, ap, ◌∙◌, arith}
use Rattle.std.specs.Prelude.{slice_index, nat_lt}
use Rattle.std.specs.List.{range_with_len, list_any}
use Rattle.std.proofs.Math.Nat.{mul_comm, mul_assoc}
use Rattle.std.proofs.lemmas.Bool.{eqb-true, eq-eqb, ltb-true, lt-ltb, false≢true}
use Rattle.std.proofs.lemmas.List.{length-map, get_or-map, ext_get_or}
use Rattle.std.proofs.lemmas.List.Folds.{list_any_at}
use Rattle.std.proofs.lemmas.List.FromFn.{length-range_with_len, get_or-range_with_len, length-map-range_with_len}
use Rattle.std.proofs.lemmas.List.FromFn.{get_or-map-range_with_len}
use Rattle.std.proofs.lemmas.List.Sums.{AllPass-from_list_all}
use Rattle.zarrs_subset.specs.Boxes.{position_count, InShape, place}
use Rattle.zarrs_subset.proofs.Counts.{InShape-from, length-InShape, InShape-at}
use Rattle.zarrs_codec_array.specs.Orders.{is_order, permuted, index_of, inverse, strides, dot_product}

abbrev has : ℕ → List ℕ → Bool
has j ks = list_any (λ k. eqb k j) ks

-- ---- a list that has each number below its length, without one of them

abbrev without : ℕ → List ℕ → List ℕ
without j [] = []
without j (k ∷ ks) = cond (eqb k j) ks (k ∷ without j ks)

length-without_step : (j k : ℕ) (ks : List ℕ) (b : Bool) → (has j ks ≡ true → suc (length (without j ks)) ≡ length ks) → (b || has j ks) ≡ true
    → suc (length (cond b ks (k ∷ without j ks))) ≡ suc (length ks)
length-without_step j k ks true rest is = refl
length-without_step j k ks false rest is = ap suc (rest is)

length-without : (j : ℕ) (ks : List ℕ) → has j ks ≡ true → suc (length (without j ks)) ≡ length ks
length-without j [] is = absurd (false≢true is)
length-without j (k ∷ ks) is = length-without_step j k ks (eqb k j) (length-without j ks) is

-- one that is not i, and whether it is j
kept_step : (i j k : ℕ) (ks : List ℕ) (b : Bool) → (i ≡ j → ⊥) → eqb k j ≡ b → (has i ks ≡ true → has i (without j ks) ≡ true)
    → (eqb k i || has i ks) ≡ true → has i (cond b ks (k ∷ without j ks)) ≡ true
kept_step i j k ks true apart here rest is = other (eqb k i) refl is
  where
    other : (c : Bool) → eqb k i ≡ c → (c || has i ks) ≡ true → has i ks ≡ true
    other true e got = absurd (apart (sym (eqb-true k i e) ∙ eqb-true k j here))
    other false e got = got
kept_step i j k ks false apart here rest is = other (eqb k i) is
  where
    other : (c : Bool) → (c || has i ks) ≡ true → (c || has i (without j ks)) ≡ true
    other true got = refl
    other false got = rest got

kept : (i j : ℕ) (ks : List ℕ) → (i ≡ j → ⊥) → has i ks ≡ true → has i (without j ks) ≡ true
kept i j [] apart is = is
kept i j (k ∷ ks) apart is = kept_step i j k ks (eqb k j) apart refl (kept i j ks apart) is

-- ---- a sum or a product over such a list

abbrev pub total : (ℕ → ℕ → ℕ) → ℕ → (ℕ → ℕ) → List ℕ → ℕ
total op unit g [] = unit
total op unit g (k ∷ ks) = op (g k) (total op unit g ks)

-- the same over the numbers below d
abbrev pub up_to : (ℕ → ℕ → ℕ) → ℕ → (ℕ → ℕ) → ℕ → ℕ
up_to op unit g zero = unit
up_to op unit g (suc d) = op (g d) (up_to op unit g d)

module _ (op : ℕ → ℕ → ℕ) (unit : ℕ) (comm : (a b : ℕ) → op a b ≡ op b a) (assoc : (a b c : ℕ) → op (op a b) c ≡ op a (op b c)) (g : ℕ → ℕ) where
  total_step : (j k : ℕ) (ks : List ℕ) (b : Bool) → eqb k j ≡ b → (has j ks ≡ true → total op unit g ks ≡ op (g j) (total op unit g (without j ks)))
      → (b || has j ks) ≡ true → op (g k) (total op unit g ks) ≡ op (g j) (total op unit g (cond b ks (k ∷ without j ks)))
  total_step j k ks true here rest is = ap (λ x. op (g x) (total op unit g ks)) (eqb-true k j here)
  total_step j k ks false here rest is =
      ap (op (g k)) (rest is)
      ∙ sym (assoc (g k) (g j) (total op unit g (without j ks)))
      ∙ ap (λ x. op x (total op unit g (without j ks))) (comm (g k) (g j))
      ∙ assoc (g j) (g k) (total op unit g (without j ks))

  total-without : (j : ℕ) (ks : List ℕ) → has j ks ≡ true → total op unit g ks ≡ op (g j) (total op unit g (without j ks))
  total-without j [] is = absurd (false≢true is)
  total-without j (k ∷ ks) is = total_step j k ks (eqb k j) refl (total-without j ks) is

  total-all : (d : ℕ) (ks : List ℕ) → length ks ≡ d → ((j : ℕ) → j < d → has j ks ≡ true) → total op unit g ks ≡ up_to op unit g d
  total-all zero [] len all = refl
  total-all zero (k ∷ ks) len all = absurd (omega arith)
  total-all (suc d) ks len all =
      let last = all d (omega arith) in
      let rest = length-without d ks last in
      total-without d ks last
      ∙ ap (op (g d)) (total-all d (without d ks) (omega arith) (λ j lt. kept j d ks (λ e. absurd (omega arith)) (all j (omega arith))))

-- the numbers below d
range_has : (d j : ℕ) → j < d → has j (range_with_len 0 d) ≡ true
range_has d j lt =
    list_any_at (λ k. eqb k j) (range_with_len 0 d) j 0 (omega (arith, length-range_with_len 0 d))
    (eq-eqb (get_or (range_with_len 0 d) j 0) j (get_or-range_with_len 0 d j 0 lt ∙ (let z : 0 + j ≡ j = omega arith in z)))

module _ (order : List ℕ) (is : is_order order ≡ true) where
  pub order_has : (j : ℕ) → j < length order → list_any (λ k. eqb k j) order ≡ true
  order_has j lt =
      let any = AllPass-from_list_all (λ x. list_any (λ k. eqb k x) order)
      (range_with_len 0 (length order)) is j 0 (omega (arith, length-range_with_len 0 (length order))) in
      let z : 0 + j ≡ j = omega arith in
      ap (λ x. list_any (λ k. eqb k x) order) (sym (get_or-range_with_len 0 (length order) j 0 lt ∙ z)) ∙ any

  -- over the order as over the numbers below its length
  reordered : (op : ℕ → ℕ → ℕ) (unit : ℕ) → ((a b : ℕ) → op a b ≡ op b a) → ((a b c : ℕ) → op (op a b) c ≡ op a (op b c)) → (g : ℕ → ℕ)
      → total op unit g order ≡ total op unit g (range_with_len 0 (length order))
  reordered op unit comm assoc g =
      let d = length order in
      total-all op unit comm assoc g d order refl order_has
      ∙ sym (total-all op unit comm assoc g d (range_with_len 0 d) (length-range_with_len 0 d) (λ j lt. range_has d j lt))

-- ---- sums

abbrev add : ℕ → ℕ → ℕ
add a b = a + b

add_comm' : (a b : ℕ) → add a b ≡ add b a
add_comm' a b = omega arith

add_assoc' : (a b c : ℕ) → add (add a b) c ≡ add a (add b c)
add_assoc' a b c = omega arith

-- how often a number is in a list
abbrev is_at : ℕ → ℕ → ℕ
is_at j k = cond (eqb k j) 1 0

abbrev count_in : ℕ → List ℕ → ℕ
count_in j ks = total add 0 (is_at j) ks

apart : (d j : ℕ) → (d ≡ j → ⊥) → eqb d j ≡ false
apart d j differ = other (eqb d j) refl
  where
    other : (b : Bool) → eqb d j ≡ b → b ≡ false
    other true e = absurd (differ (eqb-true d j e))
    other false e = refl

none_at : (j d : ℕ) → d ≤ j → up_to add 0 (is_at j) d ≡ 0
none_at j zero le = refl
none_at j (suc d) le =
    ap (λ b. cond b 1 0 + up_to add 0 (is_at j) d) (apart d j (λ e. omega arith)) ∙ omega (arith, none_at j d (omega arith))

one_step : (j d : ℕ) (b : Bool) → eqb d j ≡ b → j < suc d → (j < d → up_to add 0 (is_at j) d ≡ 1) → cond b 1 0 + up_to add 0 (is_at j) d ≡ 1
one_step j d true here lt rest = let same = eqb-true d j here in omega (arith, none_at j d (omega arith))
one_step j d false here lt rest =
    let differ : d ≡ j → ⊥ = λ e. false≢true (sym here ∙ eq-eqb d j e) in
    let less : j < d = smaller j d lt differ in
    omega (arith, rest less)
  where
    smaller : (j d : ℕ) → j < suc d → (d ≡ j → ⊥) → j < d
    smaller j d lt differ = omega arith

one_at : (j d : ℕ) → j < d → up_to add 0 (is_at j) d ≡ 1
one_at j zero lt = absurd (omega arith)
one_at j (suc d) lt = one_step j d (eqb d j) refl lt (one_at j d)

counted : (ks : List ℕ) (i : ℕ) → i < length ks → 1 ≤ count_in (slice_index ks i) ks
counted [] i lt = absurd (omega arith)
counted (k ∷ ks) zero lt = let here : eqb k k ≡ true = eq-eqb k k refl in rw here (omega arith)
counted (k ∷ ks) (suc i) lt = omega (arith, counted ks i (omega arith))

-- a number that is in a list once is at its index
first_step : (k j i : ℕ) (ks : List ℕ) (b : Bool) → 1 ≤ count_in j ks → cond b 1 0 + count_in j ks ≡ 1 → (count_in j ks ≡ 1 → index_of j ks ≡ i)
    → cond b 0 (suc (index_of j ks)) ≡ suc i
first_step k j i ks true some once rest = absurd (omega arith)
first_step k j i ks false some once rest = ap suc (rest (omega arith))

first : (ks : List ℕ) (i : ℕ) → i < length ks → count_in (slice_index ks i) ks ≡ 1 → index_of (slice_index ks i) ks ≡ i
first [] i lt once = absurd (omega arith)
first (k ∷ ks) zero lt once = ap (λ b. cond b 0 (suc (index_of k ks))) (eq-eqb k k refl)
first (k ∷ ks) (suc i) lt once =
    let j = slice_index ks i in
    first_step k j i ks (eqb k j) (counted ks i (omega arith)) once (first ks i (omega arith))

zero_each : (g : ℕ → ℕ) (ks : List ℕ) (i : ℕ) → total add 0 g ks ≡ 0 → i < length ks → g (slice_index ks i) ≡ 0
zero_each g [] i none lt = absurd (omega arith)
zero_each g (k ∷ ks) zero none lt = omega arith
zero_each g (k ∷ ks) (suc i) none lt = zero_each g ks i (omega arith) (omega arith)

-- whether a number is not below d
abbrev outside : ℕ → ℕ → ℕ
outside d k = cond (nat_lt k d) 0 1

none_outside : (d e : ℕ) → e ≤ d → up_to add 0 (outside d) e ≡ 0
none_outside d zero le = refl
none_outside d (suc e) le = ap (λ b. cond b 0 1 + up_to add 0 (outside d) e) (lt-ltb e d (omega arith)) ∙ omega (arith, none_outside d e (omega arith))

inside : (d k : ℕ) (b : Bool) → nat_lt k d ≡ b → cond b 0 1 < 1 → k < d
inside d k true is none = ltb-true k d is
inside d k false is none = absurd (omega arith)

-- ---- what an order does with coordinates

index_step : (j k : ℕ) (ks : List ℕ) (b : Bool) → eqb k j ≡ b → (has j ks ≡ true → (index_of j ks < length ks) × (slice_index ks (index_of j ks) ≡ j))
    → (b || has j ks) ≡ true → (cond b 0 (suc (index_of j ks)) < suc (length ks)) × (slice_index (k ∷ ks) (cond b 0 (suc (index_of j ks))) ≡ j)
index_step j k ks true is rest any = (omega arith, eqb-true k j is)
index_step j k ks false is rest any = let r = rest any in (omega (arith, r.0), r.1)

-- a number of a list is at its index
index_found : (j : ℕ) (ks : List ℕ) → has j ks ≡ true → (index_of j ks < length ks) × (slice_index ks (index_of j ks) ≡ j)
index_found j [] any = absurd (false≢true any)
index_found j (k ∷ ks) any = index_step j k ks (eqb k j) refl (index_found j ks) any

pub length-permuted : (way p : List ℕ) → length (permuted way p) ≡ length way
length-permuted way p = length-map way (λ j. slice_index p j)

abbrev mul : ℕ → ℕ → ℕ
mul a b = a * b

mul_comm' : (a b : ℕ) → mul a b ≡ mul b a
mul_comm' a b = mul_comm a b

mul_assoc' : (a b c : ℕ) → mul (mul a b) c ≡ mul a (mul b c)
mul_assoc' a b c = mul_assoc a b c

count_total : (ks : List ℕ) (g : ℕ → ℕ) → position_count (map g ks) ≡ total mul 1 g ks
count_total [] g = refl
count_total (k ∷ ks) g = ap (λ n. g k * n) (count_total ks g)

-- a list, read at each of its indices
map_all : (s : List ℕ) → map (λ j. slice_index s j) (range_with_len 0 (length s)) ≡ s
map_all s =
    let len = length-map-range_with_len (λ j. slice_index s j) 0 (length s) in
    ext_get_or 0 (map (λ j. slice_index s j) (range_with_len 0 (length s))) s len
    (λ i lt. get_or-map-range_with_len (λ j. slice_index s j) 0 (length s) i i 0 (omega arith) (omega arith))

-- a sum of products, as a sum over the indices
dot_total : (steps p : List ℕ) (c : ℕ) (h : ℕ → ℕ) → length steps ≡ length p
    → ((i : ℕ) → i < length steps → h (c + i) ≡ slice_index p i * slice_index steps i) → total add 0 h (range_with_len c (length steps)) ≡ dot_product steps p
dot_total [] p c h len each = refl
dot_total (a ∷ steps) [] c h len each = absurd (omega arith)
dot_total (a ∷ steps) (i ∷ p) c h len each =
    let here : h c ≡ i * a = (let z : c ≡ c + 0 = omega arith in ap h z ∙ each 0 (omega arith)) in
    ap (λ x. x + total add 0 h (range_with_len (c + 1) (length steps))) here
    ∙ ap (λ x. i * a + x)
    (dot_total steps p (c + 1) h (omega arith)
    (λ k lt. (let z : c + 1 + k ≡ c + suc k = omega arith in ap h z) ∙ each (suc k) (omega arith)))

-- a sum over the entries of a list, as a sum over its indices
total_from : (ks : List ℕ) (c : ℕ) (g h : ℕ → ℕ) → ((i : ℕ) → i < length ks → h (c + i) ≡ g (slice_index ks i))
    → total add 0 h (range_with_len c (length ks)) ≡ total add 0 g ks
total_from [] c g h each = refl
total_from (k ∷ ks) c g h each =
    let here : h c ≡ g k = (let z : c ≡ c + 0 = omega arith in ap h z ∙ each 0 (omega arith)) in
    ap (λ x. x + total add 0 h (range_with_len (c + 1) (length ks))) here
    ∙ ap (λ x. g k + x)
    (total_from ks (c + 1) g h
    (λ i lt. (let z : c + 1 + i ≡ c + suc i = omega arith in ap h z) ∙ each (suc i) (omega arith)))

total_over : (ks : List ℕ) (g : ℕ → ℕ) → total add 0 (λ i. g (slice_index ks i)) (range_with_len 0 (length ks)) ≡ total add 0 g ks
total_over ks g =
    total_from ks 0 g (λ i. g (slice_index ks i)) (λ i lt. (let z : 0 + i ≡ i = omega arith in ap (λ x. g (slice_index ks x)) z))

module _ (order : List ℕ) (is : is_order order ≡ true) where
  pub entry_below : (i : ℕ) → i < length order → slice_index order i < length order
  entry_below i lt =
      let d = length order in
      let none = total-all add 0 add_comm' add_assoc' (outside d) d order refl (order_has order is) ∙ none_outside d d (omega arith) in
      inside d (slice_index order i) (nat_lt (slice_index order i) d) refl (omega (arith, zero_each (outside d) order i none lt))

  pub index_at : (i : ℕ) → i < length order → index_of (slice_index order i) order ≡ i
  index_at i lt =
      let d = length order in
      let j = slice_index order i in
      first order i lt (total-all add 0 add_comm' add_assoc' (is_at j) d order refl (order_has order is) ∙ one_at j d (entry_below i lt))

  pub at_index : (j : ℕ) → j < length order → (index_of j order < length order) × (slice_index order (index_of j order) ≡ j)
  at_index j lt = index_found j order (order_has order is j lt)

  pub length-inverse : length (inverse order) ≡ length order
  length-inverse = length-map-range_with_len (λ j. index_of j order) 0 (length order)

  pub permuted_at : (p : List ℕ) (i : ℕ) → i < length order → slice_index (permuted order p) i ≡ slice_index p (slice_index order i)
  permuted_at p i lt = get_or-map (λ j. slice_index p j) order i 0 0 lt

  pub inverse_at : (q : List ℕ) (j : ℕ) → j < length order → slice_index (permuted (inverse order) q) j ≡ slice_index q (index_of j order)
  inverse_at q j lt =
      get_or-map (λ k. slice_index q k) (inverse order) j 0 0 (omega (arith, length-inverse))
      ∙ ap (λ k. slice_index q k) (get_or-map-range_with_len (λ k. index_of k order) 0 (length order) j j 0 lt (omega arith))

  module _ (s : List ℕ) (long : length order ≡ length s) where
    pub permuted_in : (p : List ℕ) → InShape s p → InShape (permuted order s) (permuted order p)
    permuted_in p within =
        let n = length-permuted order s in
        InShape-from (permuted order s) (permuted order p) (length-permuted order p ∙ sym n)
        (λ j lt.
        let here : j < length order = omega arith in
        let below = InShape-at s p (slice_index order j) within (omega (arith, entry_below j here)) in
        omega (arith, permuted_at p j here, permuted_at s j here))

    pub inverse_in : (q : List ℕ) → InShape (permuted order s) q → InShape s (permuted (inverse order) q)
    inverse_in q within =
        InShape-from s (permuted (inverse order) q) (length-permuted (inverse order) q ∙ length-inverse ∙ long)
        (λ j lt.
        let here : j < length order = omega arith in
        let f = at_index j here in
        let below = InShape-at (permuted order s) q (index_of j order) within (omega (arith, f.0, length-permuted order s)) in
        let e : slice_index (permuted order s) (index_of j order) ≡ slice_index s j = permuted_at s (index_of j order) f.0 ∙ ap (λ k. slice_index s k) f.1 in
        omega (arith, inverse_at q j here))

    pub there_and_back : (p : List ℕ) → InShape s p → permuted (inverse order) (permuted order p) ≡ p
    there_and_back p within =
        let m = length-InShape s p within in
        let l = length-permuted (inverse order) (permuted order p) in
        let i = length-inverse in
        ext_get_or 0 (permuted (inverse order) (permuted order p)) p (omega arith)
        (λ j lt.
        let here : j < length order = omega arith in
        let f = at_index j here in
        inverse_at (permuted order p) j here ∙ permuted_at p (index_of j order) f.0 ∙ ap (λ k. slice_index p k) f.1)

    -- the number of positions stays
    pub count-permuted : position_count (permuted order s) ≡ position_count s
    count-permuted =
        count_total order (λ j. slice_index s j)
        ∙ reordered order is mul 1 mul_comm' mul_assoc' (λ j. slice_index s j)
        ∙ sym (count_total (range_with_len 0 (length order)) (λ j. slice_index s j))
        ∙ ap position_count (ap (λ n. map (λ j. slice_index s j) (range_with_len 0 n)) long ∙ map_all s)

    -- the row-major number of a position, by the steps of the array that has the dimensions in the order
    pub dot-permuted : (steps q : List ℕ) → length steps ≡ length order → length q ≡ length order
        → dot_product (permuted order steps) q ≡ dot_product steps (permuted (inverse order) q)
    dot-permuted steps q ls lq =
        let d = length order in
        let g : ℕ → ℕ = λ j. slice_index q (index_of j order) * slice_index steps j in
        let p = permuted (inverse order) q in
        let lp : length p ≡ d = length-permuted (inverse order) q ∙ length-inverse in
        sym (dot_total (permuted order steps) q 0 (λ i. g (slice_index order i)) (length-permuted order steps ∙ sym lq)
        (λ i lt.
        let here : i < length order = omega (arith, length-permuted order steps) in
        let z : 0 + i ≡ i = omega arith in
        ap (λ x. g (slice_index order x)) z
        ∙ ap (λ x. slice_index q x * slice_index steps (slice_index order i)) (index_at i here)
        ∙ ap (λ x. slice_index q i * x) (sym (permuted_at steps i here))))
        ∙ ap (λ n. total add 0 (λ i. g (slice_index order i)) (range_with_len 0 n)) (length-permuted order steps)
        ∙ total_over order g
        ∙ reordered order is add 0 add_comm' add_assoc' g
        ∙ ap (λ n. total add 0 g (range_with_len 0 n)) (sym ls)
        ∙ dot_total steps p 0 g (omega arith)
        (λ j lt.
        let z : 0 + j ≡ j = omega arith in
        ap g z ∙ ap (λ x. x * slice_index steps j) (sym (inverse_at q j (omega arith))))

pub length-strides : (s : List ℕ) → length (strides s) ≡ length s
length-strides [] = refl
length-strides (n ∷ s) = ap suc (length-strides s)

-- the row-major number of a position
pub place-dot : (s p : List ℕ) → InShape s p → place s p ≡ dot_product (strides s) p
place-dot [] p is = refl
place-dot (n ∷ s) [] is = refl
place-dot (n ∷ s) (i ∷ p) is = ap (λ x. i * position_count s + x) (place-dot s p is.1)
