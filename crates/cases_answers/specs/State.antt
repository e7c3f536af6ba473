-- The state of the store of a call: that of the store below, which may be asked anything.
use Rattle.std.specs.Prelude.{true, false}
use Rattle.zarrs_storage.specs.Store.{StoreState, last_call}
use Rattle.zarrs_storage.specs.Memory.{MemoryState}
use Rattle.zarrs_storage.specs.declared.faults.Fault.{Fault}
use Rattle.zarrs_storage.specs.declared.lending.Lent.{Lent}
use Rattle.zarrs_storage.specs.declared.lending.ReadOnly.{ReadOnly}
use Rattle.zarrs_storage.specs.declared.stops.Stop.{Stop}
use Rattle.zarrs_storage.specs.declared.whole.WholeRefused.{WholeRefused}
use Rattle.cases_answers.specs.declared.store.Below.{Below}
use Rattle.cases_answers.specs.declared.store.Below.TheVariants as below

-- a store in memory that refuses what a case says
abbrev pub Refusing : Type 0
Refusing = Stop (Fault (WholeRefused MemoryState))

-- the state, if anything may be asked
abbrev pub opened : StoreState → StoreState
opened s = record s { may_ask = λ key. true; may_read = λ key place. true }

-- the state, if no writing call is left
abbrev pub closed : StoreState → StoreState
closed s = record s { calls = last_call; sets_parts = false }

-- the state of the store, or of the one that is lent; one that is lent to be read takes no writing call
abbrev pub state_below : (Refusing → StoreState) → (ReadOnly Refusing → StoreState) → (Lent Refusing → StoreState) → Below → StoreState
state_below own read_only lent (below.Own s) = own s.now
state_below own read_only lent (below.ReadOnly s) = closed (read_only s)
state_below own read_only lent (below.Lent s) = lent s
