-- What holds of each of the chunks that a loop has gone over, and what a call may ask then.
use Rattle.std.proofs.Common.{◌≡◌, ℕ, List, [], ◌∷◌, ◌++◌, ◌<◌, length, true, refl, sym, subst, ap, ◌∙◌, inl, inr, arith}
use Rattle.std.specs.Prelude.{◌⊎◌, Contains, Option, Some, None, Result, Ok, IfOk}
use Rattle.std.specs.declared.alloc.AllocError.{AllocError}
use Rattle.smallvec.specs.SmallVec.{SmallVec}
use Rattle.zarrs_subset.specs.declared.indices.Indices.{Indices}
use Rattle.zarrs_subset.specs.Walks.{positions_left, YieldsPosition}
use Rattle.std.proofs.lemmas.List.{append-nil, append_assoc}
use Rattle.std.proofs.lemmas.List.Elements.{Contains-append_right, Contains-push_cases}
use Rattle.std.specs.Str.{bytes_eq}
use Rattle.std.proofs.lemmas.Bool.{cases_Bool, false≢true}
use Rattle.std.proofs.lemmas.Slice.Eq.{bytes_eq-Decides}
use Rattle.zarrs_subset.specs.Regions.{Box}
use Rattle.zarrs_storage.specs.Store.{StoreState}
use Rattle.zarrs_engine_calls.specs.Layout.{Layout}
use Rattle.zarrs_engine_calls.specs.ChunkBoxes.{CoversBox, chunks_met}
use Rattle.zarrs_engine_calls.specs.Reach.{MayAskChunk, MayAskParts, MayReadParts}
use Rattle.zarrs_directory.specs.Directory.{directory_state, was_read, Forgets, ReadsKey}
use Rattle.zarrs_data_type.specs.ArrayData.{ArrayData}
use Rattle.zarrs_engine_calls.specs.Reads.{ReadsRegion}
use Rattle.zarr_arrays.specs.Reading.{HasRead, HasReadPart, KeepsRead, KeepsStore, ReadsAtMost, ReadsNoOthers}
use Rattle.zarrs_chunk_grid.specs.Grids.{box_at}
use Rattle.zarrs_directory.specs.declared.store.DirectoryStore.{DirectoryStore}

-- a front of the list is done, and P holds of each of it
abbrev pub Each : (List ℕ → Type 0) → List (List ℕ) → List (List ℕ) → Type 0
Each P all left = (done : List (List ℕ)) × (done ++ left ≡ all) × ((index : List ℕ) → Contains done index → P index)

pub each_none : (P : List ℕ → Type 0) (all : List (List ℕ)) → Each P all all
each_none P all = ([], refl, λ index (h : Contains [] index). absurd (let below : h.0 < 0 = h.1 in omega arith))

pub each_more : (P Q : List ℕ → Type 0) (all left rest : List (List ℕ)) (first : List ℕ) → left ≡ first ∷ rest → Q first
    → ((index : List ℕ) → P index → Q index) → Each P all left → Each Q all rest
each_more P Q all left rest first split holds keeps each = (
  each.0 ++ first ∷ [],
  append_assoc each.0 (first ∷ []) rest ∙ ap (λ l. each.0 ++ l) (sym split) ∙ each.1,
  λ index among. elim (Contains-push_cases each.0 first index among) [ inl before ↦ keeps index (each.2 index before) | inr last ↦ subst Q last holds ],
)

pub each_all : (P : List ℕ → Type 0) (all left : List (List ℕ)) → left ≡ [] → Each P all left → (index : List ℕ) → Contains all index → P index
each_all P all left none each index among =
    each.2 index (subst (λ l. Contains l index) (sym (sym (append-nil each.0) ∙ ap (λ l. each.0 ++ l) (sym none) ∙ each.1)) among)

-- the chunk that is next is one of all
pub each_next : (P : List ℕ → Type 0) (all left rest : List (List ℕ)) (first : List ℕ) → left ≡ first ∷ rest → Each P all left → Contains all first
each_next P all left rest first split each =
    let head : Contains (first ∷ rest) first = (0, omega arith, refl) in
    subst (λ (l : List (List ℕ)). Contains l first) each.1
    (Contains-append_right each.0 left first (subst (λ (l : List (List ℕ)). Contains l first) (sym split) head))

-- a store at whose keys each place may be asked
abbrev pub ReadsAnyPlace : StoreState → Type 0
ReadsAnyPlace state = (key : List ℕ) (place : ℕ) → state.may_read key place ≡ true

pub may_ask : (layout : Layout) (index : List ℕ) (state : StoreState) → ReadsAnyPlace state → state.may_ask (layout.key index) ≡ true → MayAskChunk layout index state
may_ask layout index state any asked = record { key = λ long. asked; places = λ long value place at below. any (layout.key index) place }

-- ---- what a step of a loop reads

module _ {R : Type 0} where
  pub kept_itself : (store : DirectoryStore R) → KeepsStore store store
  kept_itself store = record { directory = refl; counts = record { calls = refl; failures = refl; parts = refl } }

  pub kept_forgotten : (old new : DirectoryStore R) → Forgets old new → KeepsStore old new
  kept_forgotten old new forgets = record { directory = forgets.directory; counts = forgets.cache.counts }

  pub kept_on : (old between new : DirectoryStore R) → KeepsStore old between → KeepsStore between new → KeepsStore old new
  kept_on old between new first then = record {
    directory = then.directory ∙ first.directory;
    counts = record {
      calls = then.counts.calls ∙ first.counts.calls;
      failures = then.counts.failures ∙ first.counts.failures;
      parts = then.counts.parts ∙ first.counts.parts;
    };
  }

module _ {R : Type 0} (layout : Layout) where
  -- a chunk whose key was read
  pub chunk_asked : (store : DirectoryStore R) (index key : List ℕ) → key ≡ layout.key index → was_read store key ≡ true → HasRead layout store index
  chunk_asked store index key is_key read =
      may_ask layout index (directory_state store) (λ key place. refl) (subst (λ (k : List ℕ). was_read store k ≡ true) is_key read)

  pub other_length : (store : DirectoryStore R) (index : List ℕ) → (length index ≡ layout.grid.dimensions → ⊥) → HasRead layout store index
  other_length store index other = record { key = λ long. absurd (other long.long); places = λ long value place at below. refl }

  pub keeps_read : (old new : DirectoryStore R) (key : List ℕ) → ReadsKey old new key → KeepsRead layout old new
  keeps_read old new key reads = record {
    chunks = λ index before. record { key = λ long. reads.notes.keys.kept (layout.key index) (before.key long); places = λ long value place at below. refl };
    kept = record { directory = reads.directory; counts = reads.notes.counts };
  }

  pub keeps_same : (store : DirectoryStore R) → KeepsRead layout store store
  keeps_same store = record { chunks = λ index before. before; kept = kept_itself store }

  -- a chunk that the region covers
  pub is_no_part : (store : DirectoryStore R) (region : Box) (index : List ℕ) → CoversBox region (box_at layout.grid index) → HasReadPart layout region store index
  is_no_part store region index covers part = absurd (part covers)

-- ---- no more is read

pub same_or_apart : (q k : List ℕ) → (q ≡ k) ⊎ (q ≡ k → ⊥)
same_or_apart q k =
    elim (cases_Bool (bytes_eq q k)) [
      | inl same ↦ inl ((bytes_eq-Decides q k).0 same)
      | inr other ↦ inr (λ (same : q ≡ k). false≢true (sym other ∙ (bytes_eq-Decides q k).1 same))
    ]

module _ {R : Type 0} (layout : Layout) where
  pub reads_at_most : (old new : DirectoryStore R) (index key : List ℕ) → key ≡ layout.key index → ReadsKey old new key → ReadsAtMost layout old new index
  reads_at_most old new index key is_key reads = record {
    keys = λ other read.
        elim (same_or_apart other key) [
          | inl same ↦ inr (same ∙ is_key)
          | inr apart ↦ inl (sym (reads.notes.keys.others other apart) ∙ read)
        ];
  }

  pub same_at_most : (store : DirectoryStore R) (index : List ℕ) → ReadsAtMost layout store store index
  same_at_most store index = record { keys = λ key read. inl read }

  pub none_read : (chunks : List (List ℕ)) (store : DirectoryStore R) → ReadsNoOthers layout chunks store store
  none_read chunks store = record { keys = λ key read. inl read }

  pub more_read : (chunks : List (List ℕ)) (start old new : DirectoryStore R) (index : List ℕ) → Contains chunks index → ReadsAtMost layout old new index
      → ReadsNoOthers layout chunks start old → ReadsNoOthers layout chunks start new
  more_read chunks start old new index among most others = record {
    keys = λ key read.
        elim (most.keys key read) [
          | inl before ↦ others.keys key before
          | inr is ↦ inr (index, among, is)
        ];
  }

-- a call of the iterator returned this position, or none
pub yielded : (old new : Indices) (item : Option (Result (SmallVec ℕ) AllocError)) (position : SmallVec ℕ) → YieldsPosition old item new → item ≡ Some (Ok position)
    → positions_left old ≡ position.items ∷ positions_left new
yielded old new item position steps is = subst (λ (i : Option (Result (SmallVec ℕ) AllocError)). YieldsPosition old i new) is steps

pub ended : (old new : Indices) (item : Option (Result (SmallVec ℕ) AllocError)) → YieldsPosition old item new → item ≡ None → positions_left old ≡ []
ended old new item steps is = (subst (λ (i : Option (Result (SmallVec ℕ) AllocError)). YieldsPosition old i new) is steps).0

-- ---- calls of arrays over the store of a directory

-- what may be asked of the one layout and state may be asked of the other, if they are the same
module _ (layout other : Layout) (now then : StoreState) where
  pub chunk_at : (index : List ℕ) → layout ≡ other → now ≡ then → MayAskChunk other index then → MayAskChunk layout index now
  chunk_at index same_layout same_state asked =
      subst (λ (l : Layout). MayAskChunk l index now) (sym same_layout) (subst (λ (s : StoreState). MayAskChunk other index s) (sym same_state) asked)

  pub reads_at : (region : Box) → layout ≡ other → now ≡ then → MayReadParts other region (chunks_met other.grid region) then
      → MayReadParts layout region (chunks_met layout.grid region) now
  reads_at region same_layout same_state asked =
      subst (λ (l : Layout). MayReadParts l region (chunks_met l.grid region) now) (sym same_layout)
      (subst (λ (s : StoreState). MayReadParts other region (chunks_met other.grid region) s) (sym same_state) asked)

  pub parts_at : (region : Box) → layout ≡ other → now ≡ then → MayAskParts other region (chunks_met other.grid region) then
      → MayAskParts layout region (chunks_met layout.grid region) now
  parts_at region same_layout same_state asked =
      subst (λ (l : Layout). MayAskParts l region (chunks_met l.grid region) now) (sym same_layout)
      (subst (λ (s : StoreState). MayAskParts other region (chunks_met other.grid region) s) (sym same_state) asked)

  pub cells_at : (region : Box) (held made : ArrayData) → layout ≡ other → now ≡ then → made ≡ held
      → ReadsRegion layout region (chunks_met layout.grid region) held now → ReadsRegion other region (chunks_met other.grid region) made then
  cells_at region held made same_layout same_state same reads =
      subst (λ (d : ArrayData). ReadsRegion other region (chunks_met other.grid region) d then) (sym same)
      (subst (λ (s : StoreState). ReadsRegion other region (chunks_met other.grid region) held s) same_state
      (subst (λ (l : Layout). ReadsRegion l region (chunks_met l.grid region) held now) same_layout reads))

-- what holds if the result is good
pub ok_holds : {A E : Type 0} (P : A → Type 0) (result : Result A E) (value : A) → result ≡ Ok value → IfOk result P → P value
ok_holds P result value is holds = subst (λ r. IfOk r P) is holds
