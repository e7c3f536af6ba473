-- What an act ends in, whichever call asked for it.
use Rattle.std.specs.Prelude.{Bool, Option, option_map}
use Rattle.zarrs_data_type.specs.ArrayData.{ArrayData, data_of}
use Rattle.zarrs_engine_calls.specs.Refusals.{Refusal, refusal_of}
use Rattle.zarrs_engine_calls.specs.declared.call.Reply.{Reply}
use Rattle.zarrs_engine_calls.specs.declared.call.Reply.TheVariants.{Done, Compacted, Cells, MaybeCells, Refused}

-- what a reply says, over data: so a call that takes or returns typed values has one too
pub data Outcome : Type 0 where
  -- a store, an erasure or a change of the array's shape was accepted
  done : Outcome
  -- a compaction was accepted: whether it wrote
  compacted : Bool → Outcome
  -- the data that was read
  cells : ArrayData → Outcome
  -- the data that was read, or none if the chunk is absent
  maybe : Option ArrayData → Outcome
  -- the call was refused
  refused : Refusal → Outcome

-- the outcome that a reply says
abbrev pub outcome_of : Reply → Outcome
outcome_of Done = done
outcome_of (Compacted answer) = compacted answer
outcome_of (Cells held) = cells (data_of held)
outcome_of (MaybeCells found) = maybe (option_map data_of found)
outcome_of (Refused e) = refused (refusal_of e)
