-- Whether a chunk is cut, one dimension after another.
use Rattle.std.proofs.Common.{◌≡◌, ◌<◌, ◌≤◌, ◌+◌, ◌-◌, ◌&&◌, ◌^◌, ℕ, zero, suc, Bool, true, false, not, cond, List, length, slice_index}
use Rattle.std.proofs.Common.{Some, None, sym, subst, ◌∙◌, ap, inl, inr, arith}
use Rattle.std.specs.Bool.{then_some}
use Rattle.std.specs.Prelude.{nat_le, nat_lt}
use Rattle.std.proofs.lemmas.Bool.{and_cases, and_parts, cases_Bool, cases_lt, leb-false, leb-true, ltb-false, ltb-true, true≢false}
use Rattle.zarrs_subset.proofs.Overlaps.{length-zip_with}
use Rattle.zarrs_chunk_grid.specs.Axes.{IsInterval}
use Rattle.zarrs_chunk_grid.specs.Grids.{Grid, IsGrid, box_at, has_box, start_along, extent_along}
use Rattle.zarrs_chunk_grid.proofs.AxisLemmas.{interval_fits}
use Rattle.zarrs_chunk_grid.proofs.Chunks.{box_dimensions, box_is_there, box_long, has_box_is, no_box}
use Rattle.zarrs_chunk_grid.proofs.MetChunks.{at_dimension}
use Rattle.zarrs_engine_calls.specs.ChunkBoxes.{last_of}
use Rattle.zarrs_engine_calls.specs.Cuts.{is_below, is_cut, keeps_some}
use Rattle.zarrs_engine_calls.proofs.Below.{along_below, below_along}
use Rattle.zarrs_engine_calls.proofs.Covers.{last_at}

-- along the first n dimensions there is a chunk of that number
abbrev pub NumberedTo : Grid → List ℕ → ℕ → Type 0
NumberedTo grid index n = (k : ℕ) → k < n → slice_index index k < (grid.axis k).count

-- whether it holds of each number below n
abbrev pub all_below : (ℕ → Bool) → ℕ → Bool
all_below f zero = true
all_below f (suc n) = all_below f n && f n

all_true : (f : ℕ → Bool) (n : ℕ) → all_below f n ≡ true → (k : ℕ) → k < n → f k ≡ true
all_true f zero all k below = absurd (omega arith)
all_true f (suc n) all k below =
    let both = and_parts (all_below f n) (f n) all in
    elim (cases_lt k n) [
      | inl under ↦ all_true f n both.0 k under
      | inr over ↦ let at : n ≡ k = omega arith in subst (λ j. f j ≡ true) at both.1
    ]

all_false : (f : ℕ → Bool) (n : ℕ) → all_below f n ≡ false → (k : ℕ) × (k < n) × (f k ≡ false)
all_false f zero none = absurd (true≢false none)
all_false f (suc n) none = elim (and_cases (all_below f n) (f n) none) [
  | inl before ↦ let found = all_false f n before in (found.0, omega (arith, found.1), found.2)
  | inr here ↦ (n, omega arith, here)
]

-- what decides it at each number decides it of all
all_decides : (f : ℕ → Bool) (n : ℕ) (b : Bool) → (((k : ℕ) → k < n → f k ≡ true) → true ≡ b) → ((k : ℕ) → k < n → f k ≡ false → false ≡ b) → all_below f n ≡ b
all_decides f n b each_is one_is_not = elim (cases_Bool (all_below f n)) [
  | inl each ↦ each ∙ each_is (all_true f n each)
  | inr some ↦ let found = all_false f n some in some ∙ one_is_not found.0 found.1 found.2
]

-- along dimension k the chunk begins below the shape, or ends there
abbrev pub begins_at : Grid → List ℕ → List ℕ → ℕ → Bool
begins_at grid shape index k = nat_lt ((grid.axis k).edge (slice_index index k)) (slice_index shape k)

abbrev pub ends_at : Grid → List ℕ → List ℕ → ℕ → Bool
ends_at grid shape index k = nat_le ((grid.axis k).edge (slice_index index k + 1)) (slice_index shape k)

-- what the first n dimensions of the chunk say
pub record CutTo (grid : Grid) (shape index : List ℕ) (begins ends : Bool) (n : ℕ) : Type 0 where
  pub numbered : NumberedTo grid index n
  pub begins_is : begins ≡ all_below (begins_at grid shape index) n
  pub ends_is : ends ≡ all_below (ends_at grid shape index) n

-- along the first n dimensions the chunk begins below the shape, or ends there
abbrev pub BeginsTo : Grid → List ℕ → List ℕ → ℕ → Type 0
BeginsTo grid shape index n = (k : ℕ) → k < n → (grid.axis k).edge (slice_index index k) < slice_index shape k

abbrev pub EndsTo : Grid → List ℕ → List ℕ → ℕ → Type 0
EndsTo grid shape index n = (k : ℕ) → k < n → (grid.axis k).edge (slice_index index k + 1) ≤ slice_index shape k

all_numbered : (grid : Grid) (index : List ℕ) (n : ℕ) → n ≡ grid.dimensions → length index ≡ grid.dimensions → NumberedTo grid index n → true ≡ has_box grid index
all_numbered grid index n all long numbered = sym (has_box_is grid index (record { long = long; numbered = λ k below. numbered k (omega arith) }))

pub one_missing : (grid : Grid) (index : List ℕ) (k : ℕ) → k < grid.dimensions → (grid.axis k).count ≤ slice_index index k → false ≡ has_box grid index
one_missing grid index k below past = sym (no_box grid index k below past)

-- the end of a chunk fits u64
pub end_fits : (grid : Grid) → IsGrid grid → (n number start extent : ℕ) → n < grid.dimensions → IsInterval (grid.axis n) number start extent → start + extent < 2 ^ 64
end_fits grid lawful n number start extent below v = interval_fits (grid.axis n) (lawful n below) number start extent v

module _ (grid : Grid) (lawful : IsGrid grid) (shape index : List ℕ) (has : has_box grid index ≡ true) (long : length shape ≡ grid.dimensions) where
  start_is : (k : ℕ) → k < grid.dimensions → slice_index (box_at grid index).start k ≡ (grid.axis k).edge (slice_index index k)
  unfolding box_at
  start_is k below = at_dimension grid.dimensions (start_along grid index) k below

  extent_is : (k : ℕ) → k < grid.dimensions → slice_index (box_at grid index).shape k ≡ (grid.axis k).edge (slice_index index k + 1) - (grid.axis k).edge (slice_index index k)
  unfolding box_at
  extent_is k below = at_dimension grid.dimensions (extent_along grid index) k below

  pub last_is : (k : ℕ) → k < grid.dimensions → slice_index (last_of (box_at grid index)) k + 1 ≡ (grid.axis k).edge (slice_index index k + 1)
  last_is k below =
      let dimensions = box_dimensions grid index in
      let at = last_at (box_at grid index).start (box_at grid index).shape k (box_long grid index) (omega (arith, dimensions)) in
      let s = start_is k below in
      let e = extent_is k below in
      let rises = (lawful k below).ascends (slice_index index k) ((box_is_there grid index has).numbered k below) in
      omega arith

  last_long : length (last_of (box_at grid index)) ≡ length shape
  last_long = length-zip_with (λ s e. s + e - 1) (box_at grid index).start (box_at grid index).shape (box_long grid index) ∙ box_dimensions grid index ∙ sym long

  -- along some dimension the chunk ends past the shape
  ends_past : (k : ℕ) → k < length shape → slice_index shape k < (grid.axis k).edge (slice_index index k + 1) → false ≡ is_below shape (last_of (box_at grid index))
  ends_past k below past = elim (cases_Bool (is_below shape (last_of (box_at grid index)))) [
    | inr out ↦ sym out
    | inl all ↦
        let b = below_along shape (last_of (box_at grid index)) all in
        let low = b.below k below in
        let at = last_is k (omega arith) in
        absurd (omega arith)
  ]

  -- along no dimension it does
  pub ends_all : (n : ℕ) → n ≡ length shape → EndsTo grid shape index n → true ≡ is_below shape (last_of (box_at grid index))
  ends_all n all within = sym (along_below shape (last_of (box_at grid index)) (record {
    same_length = last_long;
    below = λ k here.
        let at = last_is k (omega arith) in
        let low = within k (omega arith) in
        omega arith;
  }))

  -- along some dimension the chunk begins past the shape
  begins_past : (k : ℕ) → k < length shape → slice_index shape k ≤ (grid.axis k).edge (slice_index index k) → false ≡ keeps_some grid shape index
  begins_past k below past = elim (cases_Bool (keeps_some grid shape index)) [
    | inr out ↦ sym out
    | inl all ↦
        let b = below_along shape (box_at grid index).start all in
        let low = b.below k below in
        let at = start_is k (omega arith) in
        absurd (omega arith)
  ]

  -- along no dimension it does
  begins_all : (n : ℕ) → n ≡ length shape → BeginsTo grid shape index n → true ≡ keeps_some grid shape index
  begins_all n all within = sym (along_below shape (box_at grid index).start (record {
    same_length = box_dimensions grid index ∙ sym long;
    below = λ k here.
        let at = start_is k (omega arith) in
        let low = within k (omega arith) in
        omega arith;
  }))

  -- each dimension said it
  keeps_said : (begins ends : Bool) (n : ℕ) → n ≡ length shape → CutTo grid shape index begins ends n → begins ≡ keeps_some grid shape index
  keeps_said begins ends n all c = c.begins_is ∙ all_decides (begins_at grid shape index) n (keeps_some grid shape index)
      (λ each. begins_all n all (λ k below. ltb-true _ _ (each k below)))
      (λ k below past. begins_past k (omega (arith, below)) (ltb-false _ _ past))

  below_said : (begins ends : Bool) (n : ℕ) → n ≡ length shape → CutTo grid shape index begins ends n → ends ≡ is_below shape (last_of (box_at grid index))
  below_said begins ends n all c = c.ends_is ∙ all_decides (ends_at grid shape index) n (is_below shape (last_of (box_at grid index)))
      (λ each. ends_all n all (λ k below. leb-true _ _ (each k below)))
      (λ k below past. ends_past k (omega (arith, below)) (leb-false _ _ past))

-- what these say together
pub no_chunk_cut : (grid : Grid) (shape index : List ℕ) → has_box grid index ≡ false → None ≡ cond (is_cut grid shape index) (Some (keeps_some grid shape index)) None
no_chunk_cut grid shape index none = sym (ap (λ b. cond (b && not (is_below shape (last_of (box_at grid index)))) (Some (keeps_some grid shape index)) None) none)

whole_cut : (grid : Grid) (shape index : List ℕ) → has_box grid index ≡ true → is_below shape (last_of (box_at grid index)) ≡ true → None ≡ cond (is_cut grid shape index) (Some (keeps_some grid shape index)) None
whole_cut grid shape index has all = sym (ap (λ b. cond b (Some (keeps_some grid shape index)) None) (ap (λ b. b && not (is_below shape (last_of (box_at grid index)))) has ∙ ap not all))

some_cut : (grid : Grid) (shape index : List ℕ) (keeps : Bool) → has_box grid index ≡ true → is_below shape (last_of (box_at grid index)) ≡ false → keeps ≡ keeps_some grid shape index → Some keeps ≡ cond (is_cut grid shape index) (Some (keeps_some grid shape index)) None
some_cut grid shape index keeps has past is = ap Some is ∙ sym (ap (λ b. cond b (Some (keeps_some grid shape index)) None) (ap (λ b. b && not (is_below shape (last_of (box_at grid index)))) has ∙ ap not past))

-- a chunk that ends below the shape is not cut, another one is
pub cut_said : (grid : Grid) → IsGrid grid → (shape index : List ℕ) (begins ends : Bool) (n : ℕ) → length index ≡ grid.dimensions → length shape ≡ grid.dimensions → n ≡ length shape
    → CutTo grid shape index begins ends n → then_some (not ends) begins ≡ cond (is_cut grid shape index) (Some (keeps_some grid shape index)) None
cut_said grid lawful shape index begins ends n long same all c =
    let has : has_box grid index ≡ true = sym (all_numbered grid index n (all ∙ same) long c.numbered) in
    let keeps = keeps_said grid lawful shape index has same begins ends n all c in
    let below = below_said grid lawful shape index has same begins ends n all c in
    elim (cases_Bool ends) [
      | inl whole ↦ ap (λ b. then_some (not b) begins) whole ∙ whole_cut grid shape index has (sym below ∙ whole)
      | inr past ↦ ap (λ b. then_some (not b) begins) past ∙ some_cut grid shape index begins has (sym below ∙ past) keeps
    ]
