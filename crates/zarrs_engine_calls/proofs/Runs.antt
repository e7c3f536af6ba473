-- Runs, one step after another, and what may be asked on the way.
use Rattle.std.proofs.Common.{◌≡◌, ◌⊎◌, ℕ, Bool, true, false, cond, List, [], ◌∷◌, ◌++◌, None, refl, ◌∙◌, subst, inl, inr}
use Rattle.zarrs_subset.specs.Regions.{Box, box_of}
use Rattle.zarrs_chunk_grid.specs.Grids.{box_at}
use Rattle.zarrs_storage.specs.Store.{StoreState, KeepsRules}
use Rattle.zarrs_engine_calls.specs.Layout.{Layout, ArrayState}
use Rattle.zarrs_engine_calls.specs.declared.call.Call.{Call}
use Rattle.zarrs_engine_calls.specs.declared.call.Reply.{Reply}
use Rattle.zarrs_engine_calls.specs.declared.call.Call.TheVariants as call
use Rattle.zarrs_engine_calls.specs.declared.call.Reply.TheVariants.{Done, Compacted, Cells, MaybeCells, Refused}
use Rattle.zarrs_engine_calls.specs.Acts.{read, read_chunk, read_part_act, resize, shape_after}
use Rattle.zarrs_engine_calls.specs.ArgumentRefusals.{resize_refusal}
use Rattle.zarrs_engine_calls.specs.ChunkBoxes.{is_whole_of, part_box}
use Rattle.zarrs_engine_calls.specs.Patches.{PatchStep}
use Rattle.zarrs_engine_calls.specs.Reach.{Reach, MayAskCall, MayAskCalls, MayLeave, location_refusal}
use Rattle.zarrs_engine_calls.specs.Step.{ActStep, Step, Run}

-- one more step
pub run_push : (layout : Layout) (keep : Bool) (calls : List Call) (replies : List Reply) (call : Call) (reply : Reply) (old mid new : ArrayState) → Run layout keep calls replies old mid → Step layout keep call reply mid new → Run layout keep (calls ++ call ∷ []) (replies ++ reply ∷ []) old new
run_push layout keep [] [] call reply old mid new r s = (new, subst (λ state. Step layout keep call reply state new) r s, refl)
run_push layout keep (c ∷ cs) (p ∷ ps) call reply old mid new r s = (r.0, r.1, run_push layout keep cs ps call reply r.0 mid new r.2 s)
run_push layout keep [] (p ∷ ps) call reply old mid new r s = absurd r
run_push layout keep (c ∷ cs) [] call reply old mid new r s = absurd r

-- what a call may ask still may be asked
pub ask_later : (layout : Layout) (call : Call) (old new : ArrayState) → new.shape ≡ old.shape → KeepsRules old.store new.store → MayAskCall layout call old → MayAskCall layout call new
ask_later layout call old new shape reach may = λ located index r long.
    let m = may (subst (λ s. location_refusal layout s call ≡ None) shape located) index (subst (λ s. Reach layout s call index) shape r) long in
    record { key = reach.may_ask (layout.key index) ∙ m.key; places = λ place. reach.may_read (layout.key index) place ∙ m.places place }

-- and what each of some calls may ask
pub calls_later : (layout : Layout) (calls : List Call) (old new : ArrayState) → new.shape ≡ old.shape → KeepsRules old.store new.store → MayAskCalls layout calls old → MayAskCalls layout calls new
calls_later layout [] old new shape reach may = tt
calls_later layout (call ∷ calls) old new shape reach may = (
  ask_later layout call old new shape reach may.0,
  λ later leaves. calls_later layout calls (record old { shape = later }) (record new { shape = later }) refl reach
      (may.1 later (subst (λ s. MayLeave layout call s later) shape leaves)),
)

-- a change of the shape leaves the shape that it found, or the one that it was given if that is accepted
resize_leaves : (layout : Layout) (keep : Bool) (shape later wanted : List ℕ) (reply : Reply) (old new : StoreState)
    → later ≡ shape_after (resize wanted) reply shape → ActStep layout keep shape (resize_refusal layout wanted) (resize wanted) reply old new
    → (later ≡ shape) ⊎ ((resize_refusal layout wanted ≡ None) × (later ≡ wanted))
resize_leaves layout keep shape later wanted Done old new is s = inr (s.0, is)
resize_leaves layout keep shape later wanted (Refused e) old new is s = inl is
resize_leaves layout keep shape later wanted (Compacted answer) old new is s = absurd s
resize_leaves layout keep shape later wanted (Cells found) old new is s = absurd s
resize_leaves layout keep shape later wanted (MaybeCells found) old new is s = absurd s

-- a read of a part, whole or not, leaves it
part_leaves : (layout : Layout) (index : List ℕ) (part : Box) (reply : Reply) (shape later : List ℕ)
    → later ≡ shape_after (read_part_act layout index part) reply shape → later ≡ shape
part_leaves layout index part reply shape later =
    let chunk = box_at layout.grid index in
    elim (is_whole_of chunk.shape part) as (λ v. later ≡ shape_after (cond v (read_chunk true index) (read (part_box chunk part) (index ∷ []))) reply shape → later ≡ shape) [
      | true ↦ λ is. is
      | false ↦ λ is. is
    ]

-- the shape after a step is one that its call may leave; also where the parts of chunks may be written by themselves
pub patch_leaves : (layout : Layout) (keep asked : Bool) (call : Call) (reply : Reply) (old new : ArrayState) → PatchStep layout keep asked call reply old new → MayLeave layout call old.shape new.shape
patch_leaves layout keep asked (call.Resize wanted) reply old new s = resize_leaves layout keep old.shape new.shape wanted.items reply old.store new.store s.0 s.1
patch_leaves layout keep asked (call.RetrieveChunkSubset index part) reply old new s = part_leaves layout index.items (box_of part) reply old.shape new.shape s.0
patch_leaves layout keep asked (call.StoreChunk index held) reply old new s = s.0
patch_leaves layout keep asked (call.StoreChunks range held) reply old new s = s.0
patch_leaves layout keep asked (call.StoreChunkSubset index part held) reply old new s = s.0
patch_leaves layout keep asked (call.StoreArraySubset region held) reply old new s = s.0
patch_leaves layout keep asked (call.EraseChunk index) reply old new s = s.0
patch_leaves layout keep asked (call.EraseChunks range) reply old new s = s.0
patch_leaves layout keep asked (call.CompactChunk index) reply old new s = s.0
patch_leaves layout keep asked (call.RetrieveChunkIfExists index) reply old new s = s.0
patch_leaves layout keep asked (call.RetrieveChunk index) reply old new s = s.0
patch_leaves layout keep asked (call.RetrieveChunks range) reply old new s = s.0
patch_leaves layout keep asked (call.RetrieveArraySubset region) reply old new s = s.0

-- after a step the calls behind it may ask what they may ask
pub calls_after : (layout : Layout) (keep asked : Bool) (call : Call) (calls : List Call) (reply : Reply) (old new : ArrayState)
    → PatchStep layout keep asked call reply old new → KeepsRules old.store new.store → MayAskCalls layout (call ∷ calls) old → MayAskCalls layout calls new
calls_after layout keep asked call calls reply old new s reach may =
    calls_later layout calls (record old { shape = new.shape }) new refl reach (may.1 new.shape (patch_leaves layout keep asked call reply old new s))
