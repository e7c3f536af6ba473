use Rattle.std.proofs.Common.{◌≡◌, ◌∙◌, Option, None, OnErr, Result, Ok, Err, inl, inr, sym, subst, rules}
use Rattle.std.specs.Prelude.{IsSome}
use Rattle.std.proofs.lemmas.Bool.{false≢true}
use Rattle.std.proofs.lemmas.Result.{on_ok_weaker}
use Rattle.zarrs_subset.specs.Regions.{Box, box_of, positions}
use Rattle.zarrs_data_type_kinds.proofs.Sizes.{element_size-positive}
use Rattle.zarrs_data_type_region.proofs.Kept.{keeps_itself}
use Rattle.zarrs_data_type.specs.States.{data_of_target, parent_box, target_box}
use Rattle.zarrs_engine_calls.specs.declared.error.ArrayError.{ArrayError}
use Rattle.zarrs_engine_calls.specs.Reach.{MayReadParts}
use Rattle.zarrs_engine_calls.specs.Refusals.{Refusal, RefusesBy, refusal_of}
use Rattle.zarrs_engine_calls.specs.StateRefusals.{RefusesSomeChunk}
use Rattle.zarrs_engine_layout.specs.Covers.{CoverRegion}
use Rattle.zarrs_engine.specs.Engine.{layout_of}
use Rattle.zarrs_engine.specs.TargetReads.{HasReadInto}
use Rattle.zarrs_engine.specs.Into.{RefusesRetrieveInto, target_refusal}
use Rattle.zarrs_engine.proofs.Into.{target_region}
use Rattle.zarrs_engine.proofs.IntoReads.{content_read, retrieves_into}
use Rattle.zarrs_engine.proofs.Puts.{each_error}
use Rattle.zarrs_engine.proofs.engine.Engine.retrieve_array_subset_into.Goals as goal

pub returns-in_err-chunks : goal.returns-in_err-chunks
returns-in_err-chunks g c =
    let t = c.args.target.now in
    let layout = layout_of c.args.self.now in
    let state = g.S.ReadableStorageTraits.state c.args.self.now.storage in
    let shape = g.G.ChunkGridTraits.array_extents c.args.self.now.layout.grid in
    let region = box_of c.args.array_subset.now in
    let e = c.in_ok-check_target.ensures in
    let r = refusal_of c.in_err-chunks.field-0.0 in
    let same = target_region layout c.args.self.now.layout.lawful region t shape e.dimensions e.target.takes e.target.same_shape in
    let why : RefusesRetrieveInto layout shape region t r state = inl (subst (λ (o : Option Refusal). RefusesBy o r) (sym same) c.in_err-chunks.ensures.refused) in
    let kept = keeps_itself t in
    search (rules, why, kept)

pub read_into-requires-clause-over : goal.read_into-requires-clause-over
read_into-requires-clause-over g c =
    let layout = layout_of c.args.self.now in
    let state = g.S.ReadableStorageTraits.state c.args.self.now.storage in
    let chunks = c.in_ok-chunks.ensures in
    record {
      cover = chunks.answer.cover;
      ask = subst (λ (b : Box). MayReadParts layout (box_of c.args.array_subset.now) (positions b) state) (sym chunks.answer.chunks) (c.requires chunks.accepted);
    }

pub read_into-requires-clause-filled : goal.read_into-requires-clause-filled
read_into-requires-clause-filled g c = λ is. absurd (false≢true is)

-- nothing is refused by the arguments any more
unrefused : {A E : Type 0} (result : Result A E) (first : Option Refusal) (P : Type 0) → first ≡ None → OnErr result (IsSome first → P)
unrefused (Ok x) first P none = tt
unrefused (Err e) first P none = λ some. absurd (false≢true (subst (λ (o : Option Refusal). IsSome o) none some))

pub returns : goal.returns
returns g c =
    let t = c.args.target.now in
    let new = c.read_into.new.target in
    let layout = layout_of c.args.self.now in
    let state = g.S.ReadableStorageTraits.state c.args.self.now.storage in
    let shape = g.G.ChunkGridTraits.array_extents c.args.self.now.layout.grid in
    let region = box_of c.args.array_subset.now in
    let chunks = box_of c.in_ok-chunks.chunks in
    let e = c.in_ok-check_target.ensures in
    let is = c.in_ok-chunks.ensures.answer.chunks in
    let cover = subst (λ (b : Box). CoverRegion layout.grid region (positions b)) is c.in_ok-chunks.ensures.answer.cover in
    let accepted = target_region layout c.args.self.now.layout.lawful region t shape e.dimensions e.target.takes e.target.same_shape ∙ c.in_ok-chunks.ensures.accepted in
    let all = λ (read : HasReadInto layout region (positions chunks) state (parent_box t) (target_box t) (data_of_target new)).
    subst (λ (b : Box). HasReadInto layout region (positions b) state (parent_box t) (target_box t) (data_of_target new)) is read in
    record {
      kept = c.read_into.ensures.kept;
      cells =
          on_ok_weaker c.read_into.result
          (λ read. retrieves_into layout region state t new e.target.same_shape cover (all read) shape c.read_into.ensures.kept e.target.takes (element_size-positive c.args.self.now.layout.cell_type.data_type) accepted)
          c.read_into.ensures.read;
      content = on_ok_weaker c.read_into.result (λ read. content_read layout region state t new e.target.same_shape cover (all read)) c.read_into.ensures.read;
      refused =
          each_error c.read_into.result (λ (e : ArrayError). RefusesSomeChunk layout region (positions chunks) state (refusal_of e)) (λ (e : ArrayError). RefusesRetrieveInto layout shape region t (refusal_of e) state)
          (λ e why. inr (accepted, subst (λ (b : Box). RefusesSomeChunk layout region (positions b) state (refusal_of e)) is why)) c.read_into.ensures.refused;
      kept_bytes = unrefused c.read_into.result (target_refusal layout shape region t) _ accepted;
      kept_masks = unrefused c.read_into.result (target_refusal layout shape region t) _ accepted;
    }
