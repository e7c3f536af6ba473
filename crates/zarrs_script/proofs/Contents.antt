-- The store of an open array has what the array holds, and no other key.
use Rattle.std.proofs.Common.{◌≡◌, ℕ, List, Bool, None, Result, Ok, Err, IfOk, OnErr, sym, subst, ap, ◌∙◌}
use Rattle.std.proofs.Math.Logic.{∥∥₁_map}
use Rattle.std.specs.Cmp.Lexicographic.{slice_cmp}
use Rattle.std.specs.FinMap.{get-empty}
use Rattle.std.specs.Ordering.{nat_cmp}
use Rattle.zarrs_storage.specs.Store.{StoreState}
use Rattle.zarrs_engine_calls.specs.declared.call.Call.{Call}
use Rattle.zarrs_engine_calls.specs.declared.call.Reply.{Reply}
use Rattle.zarrs_engine_calls.specs.Layout.{Layout, IsLawful, ArrayState}
use Rattle.zarrs_engine_calls.specs.Content.{value_at}
use Rattle.zarrs_engine_calls.specs.Canon.{IsCanonical, HasChunksAlone}
use Rattle.zarrs_engine_calls.specs.Events.{events_of}
use Rattle.zarrs_engine_calls.specs.Step.{Run}
use Rattle.zarrs_engine_calls.proofs.LawProofs.{empty_is_canonical}
use Rattle.zarrs_engine_calls.proofs.Maps.{stores_are_their_map}
use Rattle.zarrs_engine_calls.proofs.Steps.{courses_keep_other_keys, runs_are_courses}
use Rattle.zarrs_script.specs.Transcript.{Opened, ListsContent, keys_text, new_store}

-- no key is in a new store
none_at : (key : List ℕ) → value_at new_store key ≡ None
none_at key = get-empty (slice_cmp nat_cmp) key

-- it is canonical, and has no key
pub new_is_canonical : (layout : Layout) → IsLawful layout → (store : StoreState) → store ≡ new_store → IsCanonical layout (value_at store)
new_is_canonical layout lawful store is =
    subst (λ (s : StoreState). IsCanonical layout (value_at s)) (sym is) (empty_is_canonical layout lawful new_store (λ index long. none_at (layout.key index)))

pub new_has_none : (layout : Layout) (store : StoreState) → store ≡ new_store → HasChunksAlone layout store
new_has_none layout store is key apart = ap (λ (s : StoreState). value_at s key) is ∙ none_at key

-- calls leave the keys of no chunk, also if they were not made
pub chunks_stay_alone : {A E : Type 0} (items : A → List Reply) (layout after : Layout) (keep : Bool) (calls : List Call) (result : Result A E) (old new : ArrayState)
    → IsLawful layout → after ≡ layout → IfOk result (λ replies. Run layout keep calls (items replies) old new) → OnErr result (new.store ≡ old.store)
    → HasChunksAlone layout old.store → HasChunksAlone after new.store
chunks_stay_alone items layout after keep calls (Ok replies) old new lawful same run untouched alone =
    subst (λ (l : Layout). HasChunksAlone l new.store) (sym same) (λ key apart.
    courses_keep_other_keys layout lawful keep (events_of layout calls (items replies)) old new (runs_are_courses layout keep calls (items replies) old new run) key apart ∙ alone key apart)
chunks_stay_alone items layout after keep calls (Err error) old new lawful same run untouched alone =
    subst (λ (l : Layout). HasChunksAlone l new.store) (sym same) (subst (HasChunksAlone layout) (sym untouched) alone)

-- the keys of such a store list what the array holds
pub content_listed : (array : Opened) → IsLawful array.layout → ∥ IsCanonical array.layout (value_at array.state.store) ∥₁ → HasChunksAlone array.layout array.state.store
    → (text : List ℕ) → text ≡ keys_text array.state.store.values → ListsContent array text
content_listed array lawful canonical alone text is =
    ∥∥₁_map canonical (λ canon. (array.state.store.values, stores_are_their_map array.layout lawful array.state.store canon alone, is))
