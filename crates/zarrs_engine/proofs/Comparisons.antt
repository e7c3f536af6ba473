-- The chunks of a list, compared one after another.
use Rattle.std.proofs.Common.{◌≡◌, ◌∙◌, ◌+◌, ◌⊎◌, ℕ, Bool, true, false, List, length, take, get_or, slice_get, Some, None}
use Rattle.std.proofs.Common.{Contains, inl, inr, refl, ap, subst, arith}
use Rattle.std.specs.Bool.{OnFalse, OnTrue}
use Rattle.std.proofs.lemmas.Bool.{cases_lt, false≢true}
use Rattle.std.proofs.lemmas.Option.{slice_get-get_or}
use Rattle.std.proofs.lemmas.List.{get_or_past, take_all}
use Rattle.std.proofs.lemmas.List.Elements.{Contains-push_cases}
use Rattle.zarrs_subset.specs.Boxes.{EndsFit}
use Rattle.zarrs_subset.specs.Regions.{Box, IsLong, positions}
use Rattle.zarrs_subset.proofs.Bytes.{holds_along}
use Rattle.zarrs_subset.proofs.Positions.{positions_in}
use Rattle.zarrs_keys.specs.Keys.{IsIndexList}
use Rattle.zarrs_storage.specs.Store.{StoreState}
use Rattle.zarrs_engine_calls.specs.Layout.{Layout, IsLawful}
use Rattle.zarrs_engine_calls.specs.Content.{value_at}
use Rattle.zarrs_engine_calls.specs.Refusals.{Refusal, RefusesBy, key_refusal}
use Rattle.zarrs_engine_calls.proofs.Comparisons.{comparison_is_content}
use Rattle.zarrs_engine.specs.Comparisons.{ComparesContent, DifferInChunk, HoldSameChunks, ReadBothKeys, RefusesComparison}
use Rattle.zarrs_engine.proofs.Encoded.{keys_all, keys_more, value_refused}
use Rattle.zarrs_engine.proofs.Ranges.{next_front}

module _ (a b : Layout) (one two : StoreState) (chunks : List (List ℕ)) where
  -- one more chunk has the same bytes
  pub same_more : (n m : ℕ) (index : List ℕ) → m ≡ n + 1 → slice_get chunks n ≡ Some index → HoldSameChunks a b one two (take n chunks)
      → value_at one (a.key index) ≡ value_at two (b.key index) → HoldSameChunks a b one two (take m chunks)
  same_more n m index later at before here i among =
      let next = ap (λ k. take k chunks) later ∙ next_front a chunks n index at in
      elim (Contains-push_cases (take n chunks) index i (subst (λ (done : List (List ℕ)). Contains done i) next among)) [
        | inl earlier ↦ before i earlier
        | inr is ↦ subst (λ (j : List ℕ). value_at one (a.key j) ≡ value_at two (b.key j)) is here
      ]

  -- all of them have
  pub same_all : (n : ℕ) → n ≡ length chunks → HoldSameChunks a b one two (take n chunks) → HoldSameChunks a b one two chunks
  same_all n all same =
      subst (λ (done : List (List ℕ)). HoldSameChunks a b one two done) (ap (λ n. take n chunks) all ∙ take_all (length chunks) chunks (omega arith)) same

  -- of one more chunk both keys are read
  pub both_more : (n m : ℕ) (index : List ℕ) → m ≡ n + 1 → slice_get chunks n ≡ Some index → ReadBothKeys a b one two (take n chunks)
      → key_refusal a index one ≡ None → key_refusal b index two ≡ None → ReadBothKeys a b one two (take m chunks)
  both_more n m index later at before first second =
      (keys_more a one chunks n m index later at before.0 first, keys_more b two chunks n m index later at before.1 second)

  -- of all of them
  pub both_all : (n : ℕ) → n ≡ length chunks → ReadBothKeys a b one two (take n chunks) → ReadBothKeys a b one two chunks
  both_all n all read = (keys_all a one chunks n all read.0, keys_all b two chunks n all read.1)

  -- one chunk's bytes are not returned
  pub comparison_refused : (index : List ℕ) (r : Refusal) → Contains chunks index → RefusesBy (key_refusal a index one) r ⊎ RefusesBy (key_refusal b index two) r
      → RefusesComparison a b one two chunks r
  comparison_refused index r among why = elim why [
    | inl first ↦ inl (value_refused a one chunks index r among first)
    | inr second ↦ inr (value_refused b two chunks index r among second)
  ]

  -- of canonical arrays the answer is that of their cells
  pub compares_content : IsLawful a → IsLawful b → ((index : List ℕ) → Contains chunks index → IsIndexList a.grid.dimensions index)
      → (equal : Bool) → OnTrue equal (HoldSameChunks a b one two chunks) → OnFalse equal (DifferInChunk a b one two chunks)
      → ComparesContent a b one two chunks equal
  compares_content p q long true same differ keys canon other =
      let both = comparison_is_content a b p q keys one two canon other chunks long in
      (λ is. both.0 same, λ agree. refl)
  compares_content p q long false same differ keys canon other =
      let both = comparison_is_content a b p q keys one two canon other chunks long in
      (λ is. absurd (false≢true is), λ agree. absurd (differ.2 (both.1 agree differ.0 differ.1)))

-- the positions of a range are index lists
pub range_indices : (range : Box) → IsLong range → EndsFit range.start range.shape → (dimensions : ℕ) → length range.start ≡ dimensions
    → (index : List ℕ) → Contains (positions range) index → IsIndexList dimensions index
range_indices range long fits dimensions count index (n, below, at) =
    let inside = holds_along range index long (positions_in range.start range.shape n index long (slice_get-get_or (positions range) n index below ∙ ap Some at)) in
    record {
      long = inside.same_length ∙ count;
      words = λ k. elim (cases_lt k (length range.start)) [
        | inl along ↦ (let last = inside.below k along in let fit = fits k in omega arith)
        | inr past ↦ (let none : get_or index k 0 ≡ 0 = get_or_past index k 0 (let same = inside.same_length in omega arith) in omega arith)
      ];
    }
