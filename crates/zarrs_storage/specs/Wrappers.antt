-- Stores over a store.
use Rattle.std.specs.Prelude.{◌≡◌, ℕ, ◌+◌, ◌==◌, ◌&&◌, ◌||◌, Bool, false, not, nat_lt, List, ◌∷◌}
use Rattle.std.specs.Prelude.{Option, Some, None, Result, MatchResult, true, codes, IfOk, IfErr, OnOk, OnErr, IsErrOf, IsErrAnd}
use Rattle.std.specs.Borrow.{MutBor}
use Rattle.zarrs_storage.specs.Refusals.{SaysOther}
use Rattle.zarrs_storage.specs.Store.{StoreState, Values, Accepts, Refuses, AcceptsPartial, RefusesPartial, is_listed, last_call}
use Rattle.zarrs_storage.specs.declared.error.StorageError.{StorageError}
use Rattle.zarrs_storage.specs.declared.error.StorageError.TheVariants.{Exhausted}
use Rattle.zarrs_storage.specs.declared.faults.Fault.{Fault}
use Rattle.zarrs_storage.specs.declared.fences.Fence.{Fence}
use Rattle.zarrs_storage.specs.declared.lending.Lent.{Lent}
use Rattle.zarrs_storage.specs.declared.stops.Stop.{Stop}
use Rattle.zarrs_storage.specs.declared.whole.WholeRefused.{WholeRefused}

-- ---- states

-- the state of a lent store, with its lender
abbrev pub lent_state : {S : Type 0} → (S → StoreState) → MutBor S → StoreState
lent_state state s = record (state s.now) { lenders = s.ghost_name ∷ (state s.now).lenders }

-- the store that is lent
abbrev pub lent_store : {S : Type 0} → Lent S → MutBor S
lent_store lent = lent.store

-- the state, with counts of its own
abbrev pub with_counts : StoreState → ℕ → ℕ → ℕ → StoreState
with_counts s calls failures parts = record s { calls = calls; failures = failures; parts = parts }

-- the state, if these keys refuse too
abbrev pub with_refused : StoreState → List (List ℕ) → StoreState
with_refused s keys = record s { refuses = λ key. is_listed keys key || s.refuses key }

-- the state, if these keys alone may be asked
abbrev pub fenced : StoreState → List (List ℕ) → StoreState
fenced s keys = record s { may_ask = λ key. is_listed keys key && s.may_ask key }

-- the store that is fenced
abbrev pub fence_store : {S : Type 0} → Fence S → MutBor S
fence_store fence = fence.store

-- the keys that may be asked
abbrev pub fence_keys : {S : Type 0} → Fence S → List (List ℕ)
fence_keys fence = fence.keys.items

-- ---- reads

-- A read of a store over a store at a key: what the trait says of it where the store is seen as this state; if the store
-- refuses the key by itself, it does so with this text. `given` is what an accepted read returns, and `causes` why another
-- one may be refused.
pub record ReadsOver {A : Type 0} (given : A) (causes : StorageError → Type 0) (is_own : Bool) (text : List ℕ) (result : Result A StorageError) : Type 0 where
  pub value : IfOk result (λ read. read ≡ given)
  pub refused : IfErr result causes
  pub own : is_own ≡ true → IsErrAnd result (SaysOther text)

-- ---- writing calls

-- the ways in which a writing call ends: accepted, and refused
pub record Endings : Type 1 where
  pub accepts : StoreState → StoreState → Values → Type 0
  pub refuses : StoreState → StoreState → Type 0

-- of a call that writes a whole value
abbrev pub whole_value : Endings
whole_value = record { accepts = Accepts; refuses = Refuses }

-- of a call that writes a part
abbrev pub part_of_value : Endings
part_of_value = record { accepts = AcceptsPartial; refuses = RefusesPartial }

-- a writing call that was passed on, and accepted or refused there
abbrev pub PassedOn : {T E : Type 0} → Endings → Result T E → StoreState → StoreState → Values → Type 0
PassedOn ends result old new written = MatchResult result (λ _. ends.accepts old new written) (λ _. ends.refuses old new)

-- What the trait says of a writing call, where `state` is what the store is seen as, and `write` what the call makes of the
-- values.
pub record WritesBy {W : Type 0} (ends : Endings) (state : W → StoreState) (write : Values → Values) (old new : W)
    (result : Result (Unit {0}) StorageError) : Type 0 where
  pub ok : OnOk result (ends.accepts (state old) (state new) (write (state old).values))
  pub refused : OnErr result (ends.refuses (state old) (state new))
  pub exhausted : (state old).calls ≡ last_call → IsErrOf result Exhausted

-- A writing call of a store over a store that counts its calls by itself: what the trait says. At the last call
-- nothing is passed on. If it is the one to be refused it is refused with this text, and not passed on. Else it is
-- passed on. `write` is what the call makes of the values.
pub record WritesOver {W S : Type 0} (ends : Endings) (outer : W → StoreState) (below : W → S) (state : S → StoreState) (is_next passes_on : W → Bool)
    (text : List ℕ) (write : Values → Values) (old new : W) (result : Result (Unit {0}) StorageError) : Type 0 where
  pub ok : OnOk result (ends.accepts (outer old) (outer new) (write (outer old).values))
  pub refused : OnErr result (ends.refuses (outer old) (outer new))
  pub exhausted : (outer old).calls ≡ last_call → IsErrOf result Exhausted × (below new ≡ below old)
  pub own : is_next old ≡ true → IsErrAnd result (SaysOther text) × (below new ≡ below old)
  pub passed_on : passes_on old ≡ true → PassedOn ends result (state (below old)) (state (below new)) (write (state (below old)).values)

-- whether a number is given, and is this one
abbrev pub is_write_number : Option ℕ → ℕ → Bool
is_write_number None number = false
is_write_number (Some given) number = given == number

-- ---- `Fault`

-- the store below with counts of its own; the listed keys refuse
abbrev pub fault_state : {S : Type 0} → (S → StoreState) → Fault S → StoreState
fault_state state fault = with_counts (with_refused (state fault.store) fault.refused_keys.items) fault.counts.calls fault.counts.failures fault.counts.parts

abbrev pub below_fault : {S : Type 0} → Fault S → S
below_fault fault = fault.store

abbrev pub fault_keys : {S : Type 0} → Fault S → List (List ℕ)
fault_keys fault = fault.refused_keys.items

abbrev pub fault_write : {S : Type 0} → Fault S → Option ℕ
fault_write fault = fault.refused_write

-- what no call changes: the keys that refuse, and the number of the writing call that is refused
pub record KeepsFault {S : Type 0} (old new : Fault S) : Type 0 where
  pub keys : fault_keys new ≡ fault_keys old
  pub write : fault_write new ≡ fault_write old

-- whether the next writing call is the one to be refused
abbrev pub fault_is_next : {S : Type 0} → Fault S → Bool
fault_is_next fault = nat_lt fault.counts.calls last_call && is_write_number fault.refused_write (fault.counts.calls + 1)

-- whether the next writing call is passed on
abbrev pub fault_passes_on : {S : Type 0} → Fault S → Bool
fault_passes_on fault = nat_lt fault.counts.calls last_call && not (is_write_number fault.refused_write (fault.counts.calls + 1))

-- a read of a `Fault` at a key: what it gives, why else it is refused there
abbrev pub FaultReads : {S A : Type 0} → Fault S → A → (List ℕ → StorageError → Type 0) → List ℕ → Result A StorageError → Type 0
FaultReads fault given causes key = ReadsOver given (causes key) (is_listed (fault_keys fault) key) (codes "fault")

-- a writing call of a `Fault`
abbrev pub FaultWrites : {S : Type 0} → Endings → (S → StoreState) → (Values → Values) → Fault S → Fault S → Result (Unit {0}) StorageError → Type 0
FaultWrites ends state write = WritesOver ends (fault_state state) below_fault state fault_is_next fault_passes_on (codes "fault") write

-- ---- `Stop`

-- the store below, with counts of its own
abbrev pub stop_state : {S : Type 0} → (S → StoreState) → Stop S → StoreState
stop_state state stop = with_counts (state stop.store) stop.counts.calls stop.counts.failures stop.counts.parts

abbrev pub below_stop : {S : Type 0} → Stop S → S
below_stop stop = stop.store

abbrev pub stop_limit : {S : Type 0} → Stop S → ℕ
stop_limit stop = stop.passed

-- whether the next writing call is one to be refused
abbrev pub stop_is_next : {S : Type 0} → Stop S → Bool
stop_is_next stop = nat_lt stop.counts.calls last_call && not (nat_lt stop.counts.calls stop.passed)

-- whether the next writing call is passed on
abbrev pub stop_passes_on : {S : Type 0} → Stop S → Bool
stop_passes_on stop = nat_lt stop.counts.calls last_call && nat_lt stop.counts.calls stop.passed

-- a writing call of a `Stop`
abbrev pub StopWrites : {S : Type 0} → Endings → (S → StoreState) → (Values → Values) → Stop S → Stop S → Result (Unit {0}) StorageError → Type 0
StopWrites ends state write = WritesOver ends (stop_state state) below_stop state stop_is_next stop_passes_on (codes "stop") write

-- ---- `WholeRefused`

-- the store below; the listed keys refuse
abbrev pub whole_state : {S : Type 0} → (S → StoreState) → WholeRefused S → StoreState
whole_state state whole = with_refused (state whole.store) whole.keys.items

abbrev pub below_whole : {S : Type 0} → WholeRefused S → S
below_whole whole = whole.store

abbrev pub whole_keys : {S : Type 0} → WholeRefused S → List (List ℕ)
whole_keys whole = whole.keys.items

-- a writing call of a `WholeRefused`, which is passed on
abbrev pub WholeWrites : {S : Type 0} → Endings → (S → StoreState) → (Values → Values) → WholeRefused S → WholeRefused S
    → Result (Unit {0}) StorageError → Type 0
WholeWrites ends state write = WritesBy ends (whole_state state) write
