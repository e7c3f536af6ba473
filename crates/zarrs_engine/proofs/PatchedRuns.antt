-- Steps and runs of which the stores may write parts by themselves.
use Rattle.std.proofs.Common.{Result, Ok, Err, OnOk, IfErr, ◌≡◌, ℕ, Bool, true, false, cond, List, [], ◌∷◌, ◌++◌, Option, None, Contains, refl, subst, sym}
use Rattle.zarrs_subset.specs.Regions.{box_of}
use Rattle.zarrs_chunk_grid.specs.Grids.{box_at}
use Rattle.zarrs_storage.specs.Store.{StoreState, KeepsRules}
use Rattle.zarrs_storage.proofs.ValuesLemmas.{rules_of}
use Rattle.zarrs_data_type.specs.ArrayData.{data_of}
use Rattle.zarrs_codec_chain.specs.Options.{encodes_partially, stores_empty_chunks}
use Rattle.zarrs_codec_chain.specs.declared.options.CodecOptions.{CodecOptions}
use Rattle.zarrs_engine_calls.specs.Layout.{ArrayState, Layout, IsLawful}
use Rattle.zarrs_engine_calls.specs.declared.call.Call.{Call}
use Rattle.zarrs_engine_calls.specs.declared.call.Call.TheVariants as call
use Rattle.zarrs_engine_calls.specs.declared.error.ArrayError.{ArrayError}
use Rattle.zarrs_engine_calls.specs.declared.call.Reply.{Reply}
use Rattle.zarrs_engine_calls.specs.declared.call.Reply.TheVariants.{Done, Compacted, Cells, MaybeCells, Refused}
use Rattle.zarrs_engine_calls.specs.Acts.{Act, store, erase, compact, read, read_chunk, resize, act_of}
use Rattle.zarrs_engine_calls.specs.ArgumentRefusals.{argument_refusal, read_part_refusal}
use Rattle.zarrs_engine_calls.specs.ChunkBoxes.{CoversBox, is_whole_of, part_box}
use Rattle.zarrs_engine_calls.specs.Reach.{MayAskCalls}
use Rattle.zarrs_engine_calls.specs.Refusals.{Refusal, refusal_of}
use Rattle.zarrs_engine_calls.specs.StateRefusals.{IsPart}
use Rattle.zarrs_engine_calls.specs.Step.{ActStep, Step}
use Rattle.zarrs_engine_calls.specs.Patches.{IsPatched, PatchActStep, PatchRun, PatchStep}
use Rattle.zarrs_engine_calls.proofs.Contents.{only_member}
use Rattle.zarrs_engine_calls.proofs.Copied.{takes_stored_range}
use Rattle.zarrs_engine_calls.proofs.Reached.{range_whole}
use Rattle.zarrs_engine_calls.proofs.Runs.{calls_after}
use Rattle.zarrs_engine_calls.proofs.Steps.{act_reach}
use Rattle.zarrs_engine.specs.Outcomes.{StepsAs}
use Rattle.zarrs_engine.proofs.PatchedRegions.{all_patched, refused_patches}

-- calls that name whole chunks, and those that are no stores
abbrev pub IsOfWholeChunks : Call → Type 0
IsOfWholeChunks (call.StoreChunkSubset index part held) = ⊥
IsOfWholeChunks (call.StoreArraySubset region held) = ⊥
IsOfWholeChunks _ = Unit {0}

-- a store whose arguments are accepted covers each of its chunks
abbrev CoversEach : Layout → Option Refusal → Act → Type 0
CoversEach layout first (store region held chunks) = first ≡ None → (index : List ℕ) → Contains chunks index → IsPart layout region index → ⊥
CoversEach layout first (erase chunks) = Unit {0}
CoversEach layout first (compact index) = Unit {0}
CoversEach layout first (read region chunks) = Unit {0}
CoversEach layout first (read_chunk needed index) = Unit {0}
CoversEach layout first (resize wanted) = Unit {0}

covers_each : (layout : Layout) → IsLawful layout → (shape : List ℕ) (call : Call) → IsOfWholeChunks call → CoversEach layout (argument_refusal layout shape call) (act_of layout call)
covers_each layout lawful shape (call.StoreChunk index held) whole = λ none i among part.
    part (subst (λ (j : List ℕ). CoversBox (box_at layout.grid index.items) (box_at layout.grid j)) (sym (only_member index.items i among)) (λ position holds. holds))
covers_each layout lawful shape (call.StoreChunks range held) whole = λ none i among part.
    part (range_whole layout lawful (box_of range) range.same_length (takes_stored_range layout (box_of range) (data_of held) range.same_length none) i among)
covers_each layout lawful shape (call.StoreChunkSubset index part held) whole = absurd whole
covers_each layout lawful shape (call.StoreArraySubset region held) whole = absurd whole
covers_each layout lawful shape (call.RetrieveChunkSubset index part) whole =
    let i = index.items in
    let chunk = box_at layout.grid i in
    elim (is_whole_of chunk.shape (box_of part)) as (λ v. CoversEach layout (read_part_refusal layout i (box_of part)) (cond v (read_chunk true i) (read (part_box chunk (box_of part)) (i ∷ [])))) [
      | true ↦ tt
      | false ↦ tt
    ]
covers_each layout lawful shape (call.EraseChunk index) whole = tt
covers_each layout lawful shape (call.EraseChunks range) whole = tt
covers_each layout lawful shape (call.CompactChunk index) whole = tt
covers_each layout lawful shape (call.RetrieveChunkIfExists index) whole = tt
covers_each layout lawful shape (call.RetrieveChunk index) whole = tt
covers_each layout lawful shape (call.RetrieveChunks range) whole = tt
covers_each layout lawful shape (call.RetrieveArraySubset region) whole = tt
covers_each layout lawful shape (call.Resize wanted) whole = tt

-- a step of whole chunks is one in which no chunk takes its part by itself
act_patched : (layout : Layout) → IsLawful layout → (keep asked : Bool) (shape : List ℕ) (first : Option Refusal) (act : Act) (reply : Reply) (old new : StoreState)
    → CoversEach layout first act → ActStep layout keep shape first act reply old new → PatchActStep layout keep asked shape first act reply old new
act_patched layout lawful keep asked shape first (store region held chunks) Done old new covers s =
    (s.0, all_patched layout lawful keep (IsPatched layout asked region old) region held chunks old new (λ i among is. covers s.0 i among is.1) s.1)
act_patched layout lawful keep asked shape first (store region held chunks) (Refused e) old new covers s =
    refused_patches layout lawful keep (IsPatched layout asked region old) region first held chunks (refusal_of e) old new (λ none i among is. covers none i among is.1) s
act_patched layout lawful keep asked shape first (store region held chunks) (Compacted answer) old new covers s = s
act_patched layout lawful keep asked shape first (store region held chunks) (Cells found) old new covers s = s
act_patched layout lawful keep asked shape first (store region held chunks) (MaybeCells found) old new covers s = s
act_patched layout lawful keep asked shape first (erase chunks) reply old new covers s = s
act_patched layout lawful keep asked shape first (compact index) reply old new covers s = s
act_patched layout lawful keep asked shape first (read region chunks) reply old new covers s = s
act_patched layout lawful keep asked shape first (read_chunk needed index) reply old new covers s = s
act_patched layout lawful keep asked shape first (resize wanted) reply old new covers s = s

pub steps_as : (layout : Layout) → IsLawful layout → (options : CodecOptions) (call : Call) (reply : Reply) (old new : ArrayState) → IsOfWholeChunks call
    → Step layout (stores_empty_chunks options) call reply old new → StepsAs layout options call reply old new
steps_as layout lawful options call reply old new whole s = record {
  whole = λ off. s;
  partly = (
    s.0,
    act_patched layout lawful (stores_empty_chunks options) (encodes_partially options) old.shape (argument_refusal layout old.shape call) (act_of layout call) reply
        old.store new.store (covers_each layout lawful old.shape call whole) s.1,
  );
}

-- what may be asked stays
patch_act_reach : (layout : Layout) (keep asked : Bool) (shape : List ℕ) (first : Option Refusal) (act : Act) (reply : Reply) (old new : StoreState)
    → PatchActStep layout keep asked shape first act reply old new → KeepsRules old new
patch_act_reach layout keep asked shape first (store region held chunks) Done old new s = s.1.makes.rules
patch_act_reach layout keep asked shape first (store region held chunks) (Refused e) old new s = s.front.makes.rules
patch_act_reach layout keep asked shape first (store region held chunks) (Compacted answer) old new s = absurd s
patch_act_reach layout keep asked shape first (store region held chunks) (Cells found) old new s = absurd s
patch_act_reach layout keep asked shape first (store region held chunks) (MaybeCells found) old new s = absurd s
patch_act_reach layout keep asked shape first (erase chunks) reply old new s = rules_of old new (act_reach layout keep shape first (erase chunks) reply old new s)
patch_act_reach layout keep asked shape first (compact index) reply old new s = rules_of old new (act_reach layout keep shape first (compact index) reply old new s)
patch_act_reach layout keep asked shape first (read region chunks) reply old new s = rules_of old new (act_reach layout keep shape first (read region chunks) reply old new s)
patch_act_reach layout keep asked shape first (read_chunk needed index) reply old new s = rules_of old new (act_reach layout keep shape first (read_chunk needed index) reply old new s)
patch_act_reach layout keep asked shape first (resize wanted) reply old new s = rules_of old new (act_reach layout keep shape first (resize wanted) reply old new s)

pub patch_reach : (layout : Layout) (keep asked : Bool) (call : Call) (reply : Reply) (old new : ArrayState) → PatchStep layout keep asked call reply old new → KeepsRules old.store new.store
patch_reach layout keep asked call reply old new s =
    patch_act_reach layout keep asked old.shape (argument_refusal layout old.shape call) (act_of layout call) reply old.store new.store s.1

-- one more step
pub patch_push : (layout : Layout) (keep asked : Bool) (calls : List Call) (replies : List Reply) (call : Call) (reply : Reply) (old mid new : ArrayState)
    → PatchRun layout keep asked calls replies old mid → PatchStep layout keep asked call reply mid new → PatchRun layout keep asked (calls ++ call ∷ []) (replies ++ reply ∷ []) old new
patch_push layout keep asked [] [] call reply old mid new r s = (new, subst (λ state. PatchStep layout keep asked call reply state new) r s, refl)
patch_push layout keep asked (c ∷ cs) (p ∷ ps) call reply old mid new r s = (r.0, r.1, patch_push layout keep asked cs ps call reply r.0 mid new r.2 s)
patch_push layout keep asked [] (p ∷ ps) call reply old mid new r s = absurd r
patch_push layout keep asked (c ∷ cs) [] call reply old mid new r s = absurd r

-- what the later calls may ask still may be asked
pub patch_asked : (layout : Layout) (keep asked : Bool) (call : Call) (calls : List Call) (reply : Reply) (old new : ArrayState) → PatchStep layout keep asked call reply old new
    → MayAskCalls layout (call ∷ calls) old → MayAskCalls layout calls new
patch_asked layout keep asked call calls reply old new s may =
    calls_after layout keep asked call calls reply old new s (patch_reach layout keep asked call reply old new s) may

-- the reply to a store
pub patched_step : (layout : Layout) (keep asked : Bool) (shape : List ℕ) (first : Option Refusal) (act : Act) (old new : StoreState) {T : Type 0} (made : Result T ArrayError) (reply : Reply)
    → OnOk made (PatchActStep layout keep asked shape first act Done old new) → IfErr made (λ e. PatchActStep layout keep asked shape first act (Refused e) old new)
    → OnOk made (reply ≡ Done) → IfErr made (λ e. reply ≡ Refused e) → PatchActStep layout keep asked shape first act reply old new
patched_step layout keep asked shape first act old new (Ok x) reply step refused is none = subst (λ (r : Reply). PatchActStep layout keep asked shape first act r old new) (sym is) step
patched_step layout keep asked shape first act old new (Err e) reply step refused none is = subst (λ (r : Reply). PatchActStep layout keep asked shape first act r old new) (sym is) refused
