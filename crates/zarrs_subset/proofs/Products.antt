-- The running product of the extents of a box.
use Rattle.std.proofs.Common.{◌≡◌, ℕ, ◌+◌, ◌*◌, ◌<◌, ◌≤◌, ◌^◌, nat_eq, Bool, true, false, ◌||◌}
use Rattle.std.proofs.Common.{List, length, drop, slice_index, Option, None, Some}
use Rattle.std.proofs.Common.{MatchOption, SomeIff, OnErr, refl, sym, ap, ◌∙◌, arith, inl, inr}
use Rattle.std.proofs.lemmas.Bool.{or_cases, cases_eq, cases_lt, eqb-true, eqb-false}
use Rattle.std.proofs.lemmas.List.{drop_all}
use Rattle.std.specs.Prelude.{IfOk}
use Rattle.std.specs.Option.{ok_or}
use Rattle.zarrs_subset.specs.Boxes.{position_count}
use Rattle.zarrs_subset.proofs.Overlaps.{AllSome}
use Rattle.zarrs_subset.proofs.Counts.{count_zero, count_drop, count_some, AllSome-drop, product_more, product_past}

-- what is known after k extents: whether one of them is 0, and their product, if no product on the way passes `u64`
pub record Counted (extents : List ℕ) (k : ℕ) (is_empty : Bool) (count : Option ℕ) : Type 0 where
  pub none : is_empty ≡ true → position_count extents ≡ 0
  pub some : is_empty ≡ false → (j : ℕ) → j < k → slice_index extents j ≡ 0 → ⊥
  pub product : MatchOption count (AllSome extents → 2 ^ 64 ≤ position_count extents) (λ n. n * position_count (drop k extents) ≡ position_count extents)

pub counted_none : (extents : List ℕ) → Counted extents 0 false (Some 1)
counted_none extents = record {
  none = λ e. absurd (cc);
  some = λ e j below z. absurd (omega arith);
  product = omega arith;
}

one_more : (extents : List ℕ) (k : ℕ) (b : Bool) → k < length extents → ((b ≡ true) → position_count extents ≡ 0) → (b || nat_eq (slice_index extents k) 0) ≡ true → position_count extents ≡ 0
one_more extents k b below before h =
    elim (or_cases b (nat_eq (slice_index extents k) 0) h) [
      | inl was ↦ before was
      | inr is ↦ count_zero extents k below (eqb-true (slice_index extents k) 0 is)
    ]

none_more : (extents : List ℕ) (k : ℕ) (b : Bool) → (b ≡ false → (j : ℕ) → j < k → slice_index extents j ≡ 0 → ⊥) → (b || nat_eq (slice_index extents k) 0) ≡ false
    → (j : ℕ) → j < k + 1 → slice_index extents j ≡ 0 → ⊥
none_more extents k true before h j below z = absurd (cc)
none_more extents k false before h j below z =
    elim (cases_eq j k) [
      | inl same ↦ eqb-false (slice_index extents k) 0 h (ap (λ v. slice_index extents v) (sym same) ∙ z)
      | inr other ↦ before refl j (omega arith) z
    ]

-- one extent more, where the product stands
pub counted_more : (extents : List ℕ) (k n : ℕ) (is_empty : Bool) (next : Option ℕ) → k < length extents
    → Counted extents k is_empty (Some n)
    → SomeIff next (n * slice_index extents k < 2 ^ 64) (n * slice_index extents k)
    → Counted extents (k + 1) (is_empty || nat_eq (slice_index extents k) 0) next
counted_more extents k n is_empty next below before step = record {
  none = one_more extents k is_empty below before.none;
  some = none_more extents k is_empty before.some;
  product = more next step;
}
  where
    e : ℕ
    e = slice_index extents k

    rest : ℕ
    rest = position_count (drop (k + 1) extents)

    whole : n * (e * rest) ≡ position_count extents
    whole = ap (λ v. n * v) (sym (count_drop extents k below)) ∙ before.product

    more : (next : Option ℕ) → SomeIff next (n * e < 2 ^ 64) (n * e)
        → MatchOption next (AllSome extents → 2 ^ 64 ≤ position_count extents) (λ m. m * rest ≡ position_count extents)
    more None past = λ all.
        let large : 2 ^ 64 ≤ n * e = elim (cases_lt (n * e) (2 ^ 64)) [ inl small ↦ absurd (past small) | inr large ↦ large ] in
        product_past n e rest (position_count extents) whole (count_some (drop (k + 1) extents) (AllSome-drop extents (k + 1) all)) large
    more (Some m) is = ap (λ v. v * rest) is.1 ∙ product_more n e rest (position_count extents) whole

-- and where it has passed `u64`
pub counted_past : (extents : List ℕ) (k : ℕ) (is_empty : Bool) → k < length extents
    → Counted extents k is_empty None → Counted extents (k + 1) (is_empty || nat_eq (slice_index extents k) 0) None
counted_past extents k is_empty below before = record {
  none = one_more extents k is_empty below before.none;
  some = none_more extents k is_empty before.some;
  product = before.product;
}

-- after all of them
pub counted_all : (extents : List ℕ) (k : ℕ) (count : Option ℕ) → length extents ≤ k → Counted extents k false count
    → MatchOption count (2 ^ 64 ≤ position_count extents) (λ n. n ≡ position_count extents)
counted_all extents k None all counted = counted.product (λ j below z. counted.some refl j (omega arith) z)
counted_all extents k (Some n) all counted =
    let last : position_count (drop k extents) ≡ 1 = ap position_count (drop_all k extents all) in
    let one : n * 1 ≡ n = omega arith in
    sym one ∙ ap (λ v. n * v) (sym last) ∙ counted.product

-- and as a call returns it
pub counted_or : {E : Type 0} (extents : List ℕ) (count : Option ℕ) (error : E) → MatchOption count (2 ^ 64 ≤ position_count extents) (λ n. n ≡ position_count extents)
    → IfOk (ok_or count error) (λ n. n ≡ position_count extents) × OnErr (ok_or count error) (2 ^ 64 ≤ position_count extents)
counted_or extents None error is = (tt, is)
counted_or extents (Some n) error is = (is, tt)
