-- What is left if a box finds no memory.
use Rattle.std.proofs.Common.{inl, refl, arith, ℕ, Bool, List, [], ◌∷◌}
use Rattle.zarrs_storage.specs.Store.{StoreState}
use Rattle.zarrs_subset.specs.Regions.{Box}
use Rattle.zarrs_data_type.specs.ArrayData.{ArrayData}
use Rattle.zarrs_engine_calls.specs.Layout.{Layout}
use Rattle.zarrs_engine_calls.specs.Patches.{IsEncoded, RefusesEncodePart}
use Rattle.zarrs_engine_calls.specs.Refusals.{out_of_memory}
use Rattle.zarrs_engine_calls.specs.Step.{RefusesEraseChunks}
use Rattle.zarrs_engine_calls.proofs.PartCounts.{none_made}
use Rattle.zarrs_engine_calls.proofs.RefusalLemmas.{makes_none}

pub erase_short : (layout : Layout) (range : Box) (state : StoreState) → RefusesEraseChunks layout range out_of_memory state state
erase_short layout range state = record {
  done = 0;
  failed = 0;
  front = record { within = omega arith; untouched = λ none. refl; changes = λ some. absurd (omega arith); makes = makes_none state };
  below = λ some. some;
  one = omega arith;
  counted = λ some. absurd (omega arith);
  cause = inl (tt, refl, refl);
}

pub encode_short : (layout : Layout) (keep : Bool) (index : List ℕ) (part : Box) (held : ArrayData) (state : StoreState) → RefusesEncodePart layout keep index part held out_of_memory state state
encode_short layout keep index part held state = record {
  done = 0;
  failed = 0;
  front = record { within = omega arith; untouched = λ none. refl; changes = λ some. absurd (omega arith); makes = none_made (IsEncoded layout state) (index ∷ []) state };
  below = λ some. some;
  one = omega arith;
  counted = λ some. absurd (omega arith);
  cause = inl (tt, refl, refl);
}
