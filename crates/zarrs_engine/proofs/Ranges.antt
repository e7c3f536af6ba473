-- Erasures of many chunks, one after another.
use Rattle.std.proofs.Common.{◌≡◌, ◌+◌, ℕ, List, [], ◌∷◌, ◌++◌, length, take, Option, Some, None, slice_get, refl, sym}
use Rattle.std.proofs.Common.{◌∙◌, ap, subst, inl, inr, arith}
use Rattle.std.proofs.lemmas.List.{take_more, take_all}
use Rattle.std.proofs.lemmas.Option.{slice_get_within, get_or_from_slice_get}
use Rattle.zarrs_subset.specs.Regions.{Box, IsLong, positions}
use Rattle.zarrs_subset.proofs.Bytes.{holds_along}
use Rattle.zarrs_subset.proofs.Positions.{positions_in}
use Rattle.zarrs_storage.specs.Store.{StoreState}
use Rattle.zarrs_storage.proofs.ValuesLemmas.{reach_on}
use Rattle.zarrs_engine_calls.specs.Layout.{Layout, IsLawful}
use Rattle.zarrs_engine_calls.specs.Refusals as refusal
use Rattle.zarrs_engine_calls.specs.Refusals.{Refusal, RefusesBy, length_refusal}
use Rattle.zarrs_engine_calls.specs.Changes.{Makes, Erases}
use Rattle.zarrs_engine_calls.specs.StateRefusals.{RefusesErasure}
use Rattle.zarrs_engine_calls.specs.Fronts.{Front, ErasesAll}
use Rattle.zarrs_engine_calls.specs.Step.{ErasesChunk, RefusesEraseChunk, RefusesEraseChunks, RefusesErase}
use Rattle.zarrs_engine.proofs.Writes.{refused_early}
use Rattle.zarrs_engine_calls.proofs.Loops.{erases_push, erases_all}
use Rattle.zarrs_engine_calls.proofs.RefusalLemmas.{makes_none, memory_or_said}

-- none is gone yet
erases_none : (layout : Layout) (state : StoreState) → Erases layout [] state state
erases_none layout state = record {
  inside = λ position covered among. let b = among.1 in absurd (omega arith);
  outside = λ position out. refl;
  keys = λ key apart. refl;
  long = λ i among. let b = among.1 in absurd (omega arith);
  absent = λ i among. let b = among.1 in absurd (omega arith);
}

-- a refused call that leaves the values
erases_same : (layout : Layout) (indices : List (List ℕ)) (old mid new : StoreState) → new.values ≡ mid.values → Erases layout indices old mid → Erases layout indices old new
erases_same layout indices old mid new same e =
    let moved = subst (λ values. Erases layout indices old (record mid { values = values })) (sym same)
    (record { inside = e.inside; outside = e.outside; keys = e.keys; long = e.long; absent = e.absent }) in
    record { inside = moved.inside; outside = moved.outside; keys = moved.keys; long = moved.long; absent = moved.absent }

-- calls after calls
pub makes_then : (a b c d : ℕ) (old mid new : StoreState) → Makes a b old mid → Makes c d mid new → Makes (a + c) (b + d) old new
makes_then a b c d old mid new p q = record {
  calls = let x = p.calls in let y = q.calls in omega arith;
  failures = let x = p.failures in let y = q.failures in omega arith;
  reach = reach_on old mid new p.reach q.reach;
}

-- the first `done` chunks are gone, each by one writing call
pub record Gone (layout : Layout) (chunks : List (List ℕ)) (done : ℕ) (old new : StoreState) : Type 0 where
  pub erases : Erases layout (take done chunks) old new
  pub untouched : done ≡ 0 → new.values ≡ old.values
  pub makes : Makes done 0 old new

module _ (layout : Layout) (chunks : List (List ℕ)) where
  pub gone_none : (state : StoreState) → Gone layout chunks 0 state state
  gone_none state = record { erases = erases_none layout state; untouched = λ none. refl; makes = makes_none state }

  -- one more of them
  pub next_front : (done : ℕ) (index : List ℕ) → slice_get chunks done ≡ Some index → take (done + 1) chunks ≡ take done chunks ++ index ∷ []
  next_front done index at =
      take_more chunks done index (slice_get_within chunks done index at)
      ∙ ap (λ x. take done chunks ++ x ∷ []) (get_or_from_slice_get chunks done index index at)

  pub gone_more : IsLawful layout → (done : ℕ) (index : List ℕ) (old mid new : StoreState) → Gone layout chunks done old mid → slice_get chunks done ≡ Some index
      → ErasesChunk layout index mid new → Gone layout chunks (done + 1) old new
  gone_more lawful done index old mid new g at one = record {
    erases = subst (λ front. Erases layout front old new) (sym (next_front done index at)) (erases_push layout lawful (take done chunks) index old mid new g.erases one.1.erases);
    untouched = λ none. absurd (omega arith);
    makes = makes_then done 0 1 0 old mid new g.makes one.1.front.makes;
  }

  -- all are gone
  pub gone_all : (done : ℕ) (old new : StoreState) → done ≡ length chunks → Gone layout chunks done old new → ErasesAll layout chunks old new
  gone_all done old new all g =
      let whole : take done chunks ≡ chunks = ap (λ n. take n chunks) all ∙ take_all (length chunks) chunks (omega arith) in
      let erases = subst (λ front. Erases layout front old new) whole g.erases in
      let front : Front Makes (λ indices. Erases layout indices old new) chunks (length chunks) 0 old new = record {
        within = omega arith;
        untouched = λ none. g.untouched (all ∙ none);
        changes = λ some. subst (λ front. Erases layout front old new) (sym (take_all (length chunks) chunks (omega arith))) erases;
        makes = subst (λ n. Makes n 0 old new) all g.makes;
      } in
      erases_all layout chunks old new erases front

  erasure_memory : (failed : ℕ) (state : StoreState) (r : Refusal) → r ≡ refusal.out_of_memory → RefusesErasure failed state r
  erasure_memory failed state r is = subst (RefusesErasure failed state) (sym is) tt

  -- why the next chunk is not gone
  next_cause : (first : Option Refusal) (index : List ℕ) (r : Refusal) (mid new : StoreState) → length_refusal layout index ≡ None → first ≡ None → (s : RefusesEraseChunk layout index r mid new) → (first ≡ None) × RefusesErasure s.failed new r
  next_cause first index r mid new long none s = elim s.cause [
    | inl before ↦ elim (memory_or_said _ r before.0) [
      | inl memory ↦ (none, erasure_memory s.failed new r memory)
      | inr said ↦ absurd (let clash : None ≡ Some r = sym long ∙ said in cc)
    ]
    | inr late ↦ (none, late.2.1)
  ]

  -- the next chunk is refused
  pub gone_fails : (first : Option Refusal) (done : ℕ) (index : List ℕ) (r : Refusal) (old mid new : StoreState) → first ≡ None → length_refusal layout index ≡ None
      → Gone layout chunks done old mid → slice_get chunks done ≡ Some index → RefusesEraseChunk layout index r mid new → RefusesErase layout first chunks r old new
  gone_fails first done index r old mid new none long g at s =
      let within = slice_get_within chunks done index at in
      let zero_done : s.done ≡ 0 = (let b = s.below (omega arith) in omega arith) in
      let same = s.front.untouched zero_done in
      let makes = makes_then done 0 0 s.failed old mid new g.makes (subst (λ n. Makes n s.failed mid new) zero_done s.front.makes) in
      let done_is : done + 0 ≡ done = omega arith in
      let failed_is : 0 + s.failed ≡ s.failed = omega arith in
      record {
        done = done;
        failed = s.failed;
        front = record {
          within = omega arith;
          untouched = λ nothing. same ∙ g.untouched nothing;
          changes = λ some. erases_same layout (take done chunks) old mid new same g.erases;
          makes = subst (λ n. Makes n s.failed old new) done_is (subst (λ n. Makes (done + 0) n old new) failed_is makes);
        };
        below = λ some. within;
        one = s.one;
        counted = s.counted;
        cause = inr (index, at, next_cause first index r mid new long none s);
      }

-- each index list of a range has as many numbers as the range has dimensions
pub range_length : (range : Box) → IsLong range → (n : ℕ) (index : List ℕ) → slice_get (positions range) n ≡ Some index → length index ≡ length range.start
range_length range long n index at = (holds_along range index long (positions_in range.start range.shape n index long at)).same_length

-- out of memory before the first chunk
pub range_short : (layout : Layout) (range : Box) (state : StoreState) → RefusesEraseChunks layout range refusal.out_of_memory state state
range_short layout range state = refused_early _ _ _ _ state tt

-- the range has another number of dimensions, or out of memory
pub range_refused : (layout : Layout) (range : Box) (state : StoreState) (r : Refusal) → RefusesBy (length_refusal layout range.start) r → RefusesEraseChunks layout range r state state
range_refused layout range state r why = refused_early _ _ _ _ state why
