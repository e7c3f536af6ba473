use Rattle.std.proofs.Common.{◌∙◌, ℕ, List, IfErr, [], ◌∷◌, OnOk, Some, rules, ap, subst, sym}
use Rattle.std.proofs.lemmas.Bool.{false≢true}
use Rattle.std.proofs.lemmas.Result.{on_ok_weaker}
use Rattle.zarrs_subset.specs.Boxes.{position_count}
use Rattle.zarrs_subset.specs.Regions.{Box, LiesInShape, box_of, LiesInBox}
use Rattle.zarrs_chunk_grid.specs.Grids.{box_at}
use Rattle.zarrs_chunk_grid.proofs.Chunks.{box_long}
use Rattle.zarrs_data_type.specs.ArrayData.{data_of}
use Rattle.zarrs_data_type.specs.Cells.{HasCells}
use Rattle.zarrs_codec_chain.specs.Options.{encodes_partially, stores_empty_chunks}
use Rattle.zarrs_engine_calls.specs.ArgumentRefusals.{store_part_refusal}
use Rattle.zarrs_engine_calls.specs.ChunkBoxes.{CoversBox, part_box}
use Rattle.zarrs_engine_calls.specs.Patches.{IsPatched, RefusesPatchPart}
use Rattle.zarrs_engine_calls.specs.Reach.{MayAskChunk, MayAskParts}
use Rattle.zarrs_engine_calls.specs.StateRefusals.{IsPart}
use Rattle.zarrs_engine_calls.specs.declared.error.ArrayError.{ArrayError}
use Rattle.zarrs_engine_calls.specs.Refusals.{dimensionality, refusal_of}
use Rattle.zarrs_engine_calls.specs.Step.{RefusesStorePart, StoresPart}
use Rattle.zarrs_engine_calls.proofs.Contents.{member}
use Rattle.zarrs_engine_calls.proofs.RefusalLemmas.{refuses_said}
use Rattle.zarrs_engine_layout.proofs.ChunkParts.{chunk_has, part_lies}
use Rattle.zarrs_engine_layout.proofs.OneChunk.{covers_lies}
use Rattle.zarrs_engine.specs.Engine.{layout_of}
use Rattle.zarrs_engine.specs.Outcomes.{Writes}
use Rattle.zarrs_engine.specs.Patches.{LeavesPartly, PatchesChunk}
use Rattle.zarrs_engine.specs.RegionWrites.{LeavesPart, StoresOneMore}
use Rattle.zarrs_engine.proofs.Canon.{store_canon}
use Rattle.zarrs_engine.proofs.PartReads.{part_cover}
use Rattle.zarrs_engine.proofs.PartStores.{data_refuses, part_chunk, part_length, part_passing, stored_ask_part, stored_at, stores_early, takes_none, takes_part}
use Rattle.zarrs_engine.proofs.PartWrites.{lies_covers}
use Rattle.zarrs_engine.proofs.PatchedRegions.{part_patched, part_refuses, patch_early, patched_left, patched_part, supported_parts}
use Rattle.zarrs_engine.proofs.Puts.{each_error}
use Rattle.zarrs_engine.proofs.engine.Engine.store_chunk_subset.Goals as goal

pub returns-then-chunk_indices-dimensions : goal.returns-then-chunk_indices-dimensions
returns-then-chunk_indices-dimensions g c =
    let layout = layout_of c.args.self.now in
    let keep = stores_empty_chunks c.args.options.now in
    let asked = encodes_partially c.args.options.now in
    let state = g.S.ReadableStorageTraits.state c.args.self.now.storage in
    let index = c.args.chunk_indices.now in
    let part = box_of c.args.chunk_subset.now in
    let held = data_of c.args.chunk_subset_data.now in
    let e = c.new-error.result in
    let r = dimensionality e.got e.expected in
    let said = ap (λ n. Some (dimensionality n layout.grid.dimensions)) (sym c.new-error.ensures.got) ∙ ap (λ n. Some (dimensionality e.got n)) (sym (c.new-error.ensures.expected ∙ c.dimensionality-dimensions.ensures)) in
    let first = part_length layout index part held r (λ is. c.if-chunk_indices-dimensions.true (is ∙ sym c.dimensionality-dimensions.ensures)) said in
    let why = stores_early layout index part held keep state r first in
    let partly = patch_early layout keep asked index part held r state first in
    search (rules, why, partly)

pub returns-in_err-chunk : goal.returns-in_err-chunk
returns-in_err-chunk g c =
    let layout = layout_of c.args.self.now in
    let keep = stores_empty_chunks c.args.options.now in
    let asked = encodes_partially c.args.options.now in
    let state = g.S.ReadableStorageTraits.state c.args.self.now.storage in
    let index = c.args.chunk_indices.now in
    let part = box_of c.args.chunk_subset.now in
    let held = data_of c.args.chunk_subset_data.now in
    let long = c.if-chunk_indices-dimensions.false ∙ c.dimensionality-dimensions.ensures in
    let r = refusal_of c.in_err-chunk.field-0.0 in
    let first = part_chunk layout index part held r long c.in_err-chunk.ensures.refused in
    let why = stores_early layout index part held keep state r first in
    let partly = patch_early layout keep asked index part held r state first in
    search (rules, why, partly)

pub returns-in_err-region : goal.returns-in_err-region
returns-in_err-region g c =
    let layout = layout_of c.args.self.now in
    let keep = stores_empty_chunks c.args.options.now in
    let asked = encodes_partially c.args.options.now in
    let state = g.S.ReadableStorageTraits.state c.args.self.now.storage in
    let index = c.args.chunk_indices.now in
    let part = box_of c.args.chunk_subset.now in
    let held = data_of c.args.chunk_subset_data.now in
    let long = c.if-chunk_indices-dimensions.false ∙ c.dimensionality-dimensions.ensures in
    let r = refusal_of c.in_err-region.field-0.0 in
    let first = part_passing layout index part held r long c.in_ok-chunk.ensures.accepted c.in_err-region.ensures.refused in
    let why = stores_early layout index part held keep state r first in
    let partly = patch_early layout keep asked index part held r state first in
    search (rules, why, partly)

pub returns-in_err-check_cells : goal.returns-in_err-check_cells
returns-in_err-check_cells g c =
    let layout = layout_of c.args.self.now in
    let keep = stores_empty_chunks c.args.options.now in
    let asked = encodes_partially c.args.options.now in
    let state = g.S.ReadableStorageTraits.state c.args.self.now.storage in
    let index = c.args.chunk_indices.now in
    let part = box_of c.args.chunk_subset.now in
    let held = data_of c.args.chunk_subset_data.now in
    let chunk = c.in_ok-chunk.ensures in
    let chunk_is = chunk.answer.chunk.region ∙ ap (λ i. box_at layout.grid i) chunk.answer.indices in
    let region = c.in_ok-region.ensures in
    let r = refusal_of c.in_err-check_cells.field-0.0 in
    let first = data_refuses layout c.args.self.now.layout.lawful index part (box_of c.in_ok-chunk.chunk.region) (box_of c.in_ok-region.region) c.args.chunk_subset.now.same_length chunk_is region.answer chunk.accepted region.accepted held c.eq.result c.eq.ensures r
    (refuses_said _ r c.in_err-check_cells.ensures.refused) in
    let why = stores_early layout index part held keep state r first in
    let partly = patch_early layout keep asked index part held r state first in
    search (rules, why, partly)

pub store_whole-requires-clause-dimensions : goal.store_whole-requires-clause-dimensions
store_whole-requires-clause-dimensions g c =
    let layout = layout_of c.args.self.now in
    let keep = stores_empty_chunks c.args.options.now in
    let state = g.S.ReadableStorageTraits.state c.args.self.now.storage in
    let index = c.args.chunk_indices.now in
    let part = box_of c.args.chunk_subset.now in
    let held = data_of c.args.chunk_subset_data.now in
    let chunk = c.in_ok-chunk.ensures in
    let chunk_is = chunk.answer.chunk.region ∙ ap (λ i. box_at layout.grid i) chunk.answer.indices in
    let region = c.in_ok-region.ensures in
    (part_cover layout c.args.self.now.layout.lawful index part (box_of c.in_ok-chunk.chunk.region) (box_of c.in_ok-region.region) c.args.chunk_subset.now.same_length chunk_is region.answer chunk.accepted region.accepted).dimensions

pub store_whole-requires-clause-covered : goal.store_whole-requires-clause-covered
store_whole-requires-clause-covered g c =
    let layout = layout_of c.args.self.now in
    let keep = stores_empty_chunks c.args.options.now in
    let state = g.S.ReadableStorageTraits.state c.args.self.now.storage in
    let index = c.args.chunk_indices.now in
    let part = box_of c.args.chunk_subset.now in
    let held = data_of c.args.chunk_subset_data.now in
    let chunk = c.in_ok-chunk.ensures in
    let chunk_is = chunk.answer.chunk.region ∙ ap (λ i. box_at layout.grid i) chunk.answer.indices in
    let region = c.in_ok-region.ensures in
    (part_cover layout c.args.self.now.layout.lawful index part (box_of c.in_ok-chunk.chunk.region) (box_of c.in_ok-region.region) c.args.chunk_subset.now.same_length chunk_is region.answer chunk.accepted region.accepted).covered

pub store_whole-requires-clause-ask : goal.store_whole-requires-clause-ask
store_whole-requires-clause-ask g c =
    let layout = layout_of c.args.self.now in
    let keep = stores_empty_chunks c.args.options.now in
    let state = g.S.ReadableStorageTraits.state c.args.self.now.storage in
    let index = c.args.chunk_indices.now in
    let part = box_of c.args.chunk_subset.now in
    let held = data_of c.args.chunk_subset_data.now in
    let chunk = c.in_ok-chunk.ensures in
    let chunk_is = chunk.answer.chunk.region ∙ ap (λ i. box_at layout.grid i) chunk.answer.indices in
    let region = c.in_ok-region.ensures in
    let asked = stored_ask_part layout c.args.self.now.layout.lawful index part (box_of c.in_ok-chunk.chunk.region) (box_of c.in_ok-region.region) c.args.chunk_subset.now.same_length chunk_is region.answer chunk.accepted region.accepted held state
    (c.requires chunk.accepted region.accepted) in
    subst (λ (i : List ℕ). MayAskParts layout (box_of c.in_ok-region.region) (i ∷ []) state) (sym chunk.answer.indices) asked

pub returns : goal.returns
returns g c =
    let layout = layout_of c.args.self.now in
    let keep = stores_empty_chunks c.args.options.now in
    let asked = encodes_partially c.args.options.now in
    let state = g.S.ReadableStorageTraits.state c.args.self.now.storage in
    let index = c.args.chunk_indices.now in
    let part = box_of c.args.chunk_subset.now in
    let held = data_of c.args.chunk_subset_data.now in
    let lawful = c.args.self.now.layout.lawful in
    let chunk = c.in_ok-chunk.ensures in
    let chunk_is = chunk.answer.chunk.region ∙ ap (λ i. box_at layout.grid i) chunk.answer.indices in
    let region = c.in_ok-region.ensures in
    let here = part_box (box_at layout.grid index) part in
    let at = stored_at layout lawful index part (box_of c.in_ok-chunk.chunk.region) (box_of c.in_ok-region.region) c.args.chunk_subset.now.same_length chunk_is region.answer chunk.accepted region.accepted held in
    let boxed = chunk_has layout index chunk.accepted in
    let dimensions = (part_cover layout lawful index part (box_of c.in_ok-chunk.chunk.region) (box_of c.in_ok-region.region) c.args.chunk_subset.now.same_length chunk_is region.answer chunk.accepted region.accepted).dimensions in
    let new = g.S.ReadableStorageTraits.state c.store_whole.new.self.storage in
    let fits = c.in_ok-check_cells.ensures in
    let e = subst (λ (i : List ℕ). Writes refusal_of g.S.ReadableStorageTraits.state (StoresOneMore layout keep (box_of c.in_ok-region.region) held i) (LeavesPart layout keep (box_of c.in_ok-region.region) held i) c.args.self.now c.store_whole.new.self c.store_whole.result) chunk.answer.indices c.store_whole.ensures.writes in
    let done : OnOk c.store_whole.result (StoresPart layout keep index part held state new) =
    on_ok_weaker c.store_whole.result (takes_part layout lawful index part (box_of c.in_ok-chunk.chunk.region) (box_of c.in_ok-region.region) c.args.chunk_subset.now.same_length chunk_is region.answer chunk.accepted region.accepted held c.eq.result c.eq.ensures keep fits.accepted fits.given state new) e.done in
    let refused : IfErr c.store_whole.result (λ (e : ArrayError). RefusesStorePart layout keep index part held (refusal_of e) state new) =
    each_error c.store_whole.result (λ (e : ArrayError). LeavesPart layout keep (box_of c.in_ok-region.region) held index (refusal_of e) state new)
    (λ (e : ArrayError). RefusesStorePart layout keep index part held (refusal_of e) state new)
    (λ e left. takes_none layout lawful index part (box_of c.in_ok-chunk.chunk.region) (box_of c.in_ok-region.region) c.args.chunk_subset.now.same_length chunk_is region.answer chunk.accepted region.accepted held c.eq.result c.eq.ensures keep fits.accepted fits.given state new (refusal_of e) left)
    e.refused in
    let not : IsPatched layout asked here state index → ⊥ = λ is.
    let proper : LiesInBox (box_of c.in_ok-chunk.chunk.region) (box_of c.in_ok-region.region) → ⊥ = λ lies.
    is.1 (subst (λ (b : Box). CoversBox b (box_at layout.grid index)) at
    (lies_covers (box_at layout.grid index) (box_of c.in_ok-region.region) (box_long layout.grid index) c.in_ok-region.region.same_length (subst (λ (b : Box). LiesInBox b (box_of c.in_ok-region.region)) chunk_is lies))) in
    false≢true (sym c.if-writes_part.false ∙ c.writes_part.ensures.1 (is.0, proper)) in
    record {
      whole = λ off. record {
        done = done;
        refused = refused;
        canonical = store_canon layout lawful keep state new (store_part_refusal layout index part held) here held (index ∷ []) c.store_whole.result done refused;
        layout_kept = e.layout_kept;
      };
      partly = record {
        done = on_ok_weaker c.store_whole.result (part_patched layout lawful keep asked index part held state new not) done;
        refused = each_error c.store_whole.result (λ (e : ArrayError). RefusesStorePart layout keep index part held (refusal_of e) state new)
            (λ (e : ArrayError). RefusesPatchPart layout keep asked index part held (refusal_of e) state new)
            (λ e why. part_refuses layout lawful keep asked index part held (refusal_of e) state new (λ _. not) why)
            refused;
        layout_kept = e.layout_kept;
      };
    }

pub patch_chunk-requires-clause-supported : goal.patch_chunk-requires-clause-supported
patch_chunk-requires-clause-supported g c =
    let layout = layout_of c.args.self.now in
    let asked = encodes_partially c.args.options.now in
    let state = g.S.ReadableStorageTraits.state c.args.self.now.storage in
    supported_parts asked layout state (c.writes_part.ensures.0 c.if-writes_part.true).0

pub patch_chunk-requires-clause-part : goal.patch_chunk-requires-clause-part
patch_chunk-requires-clause-part g c =
    let layout = layout_of c.args.self.now in
    subst (λ (i : List ℕ). LiesInShape (box_of c.args.chunk_subset.now) (box_at layout.grid i).shape) (sym c.in_ok-chunk.ensures.answer.indices)
    (part_lies layout c.args.chunk_indices.now (box_of c.args.chunk_subset.now) c.in_ok-region.ensures.accepted)

pub patch_chunk-requires-clause-ask : goal.patch_chunk-requires-clause-ask
patch_chunk-requires-clause-ask g c =
    let layout = layout_of c.args.self.now in
    let keep = stores_empty_chunks c.args.options.now in
    let asked = encodes_partially c.args.options.now in
    let state = g.S.ReadableStorageTraits.state c.args.self.now.storage in
    let index = c.args.chunk_indices.now in
    let part = box_of c.args.chunk_subset.now in
    let held = data_of c.args.chunk_subset_data.now in
    let lawful = c.args.self.now.layout.lawful in
    let chunk = c.in_ok-chunk.ensures in
    let chunk_is = chunk.answer.chunk.region ∙ ap (λ i. box_at layout.grid i) chunk.answer.indices in
    let region = c.in_ok-region.ensures in
    let here = part_box (box_at layout.grid index) part in
    let at = stored_at layout lawful index part (box_of c.in_ok-chunk.chunk.region) (box_of c.in_ok-region.region) c.args.chunk_subset.now.same_length chunk_is region.answer chunk.accepted region.accepted held in
    let boxed = chunk_has layout index chunk.accepted in
    let dimensions = (part_cover layout lawful index part (box_of c.in_ok-chunk.chunk.region) (box_of c.in_ok-region.region) c.args.chunk_subset.now.same_length chunk_is region.answer chunk.accepted region.accepted).dimensions in
    let region_box = box_of c.in_ok-region.region in
    let proper : IsPart layout region_box index = λ covers.
    let lies = covers_lies layout.grid lawful.grid index boxed region_box c.in_ok-region.region.same_length dimensions covers in
    (c.writes_part.ensures.0 c.if-writes_part.true).1 (subst (λ (b : Box). LiesInBox b region_box) (sym chunk_is) lies) in
    let asked : MayAskChunk layout index state = stored_ask_part layout lawful index part (box_of c.in_ok-chunk.chunk.region) (box_of c.in_ok-region.region) c.args.chunk_subset.now.same_length chunk_is region.answer chunk.accepted region.accepted held state (c.requires chunk.accepted region.accepted) index (member index) proper in
    subst (λ (i : List ℕ). MayAskChunk layout i state) (sym chunk.answer.indices) asked

pub returns-then-writes_part : goal.returns-then-writes_part
returns-then-writes_part g c =
    let layout = layout_of c.args.self.now in
    let keep = stores_empty_chunks c.args.options.now in
    let asked = encodes_partially c.args.options.now in
    let state = g.S.ReadableStorageTraits.state c.args.self.now.storage in
    let index = c.args.chunk_indices.now in
    let part = box_of c.args.chunk_subset.now in
    let held = data_of c.args.chunk_subset_data.now in
    let lawful = c.args.self.now.layout.lawful in
    let chunk = c.in_ok-chunk.ensures in
    let chunk_is = chunk.answer.chunk.region ∙ ap (λ i. box_at layout.grid i) chunk.answer.indices in
    let region = c.in_ok-region.ensures in
    let here = part_box (box_at layout.grid index) part in
    let at = stored_at layout lawful index part (box_of c.in_ok-chunk.chunk.region) (box_of c.in_ok-region.region) c.args.chunk_subset.now.same_length chunk_is region.answer chunk.accepted region.accepted held in
    let boxed = chunk_has layout index chunk.accepted in
    let dimensions = (part_cover layout lawful index part (box_of c.in_ok-chunk.chunk.region) (box_of c.in_ok-region.region) c.args.chunk_subset.now.same_length chunk_is region.answer chunk.accepted region.accepted).dimensions in
    let region_box = box_of c.in_ok-region.region in
    let new = g.S.ReadableStorageTraits.state c.patch_chunk.new.self.storage in
    let fits = c.in_ok-check_cells.ensures in
    let lies = part_lies layout index part region.accepted in
    let given = subst (λ (b : Box). HasCells layout.kind held (position_count b.shape)) at fits.given in
    let takes = c.writes_part.ensures.0 c.if-writes_part.true in
    let proper : IsPart layout region_box index = λ covers.
    let within = covers_lies layout.grid lawful.grid index boxed region_box c.in_ok-region.region.same_length dimensions covers in
    takes.1 (subst (λ (b : Box). LiesInBox b region_box) (sym chunk_is) within) in
    let is : IsPatched layout asked here state index = (takes.0, subst (λ (b : Box). IsPart layout b index) at proper) in
    let e = subst (λ (i : List ℕ). Writes refusal_of g.S.ReadableStorageTraits.state (PatchesChunk layout keep i part held) (LeavesPartly layout keep i part held) c.args.self.now c.patch_chunk.new.self c.patch_chunk.result) chunk.answer.indices c.patch_chunk.ensures.writes in
    record {
      whole = λ off. absurd (false≢true (sym off ∙ takes.0));
      partly = record {
        done = on_ok_weaker c.patch_chunk.result (patched_part layout lawful index part (box_of c.in_ok-chunk.chunk.region) (box_of c.in_ok-region.region) c.args.chunk_subset.now.same_length chunk_is region.answer chunk.accepted region.accepted held c.eq.result c.eq.ensures fits.accepted state new keep asked is) e.done;
        refused = each_error c.patch_chunk.result (λ (e : ArrayError). LeavesPartly layout keep index part held (refusal_of e) state new)
            (λ (e : ArrayError). RefusesPatchPart layout keep asked index part held (refusal_of e) state new)
            (λ e left. patched_left layout lawful index part (box_of c.in_ok-chunk.chunk.region) (box_of c.in_ok-region.region) c.args.chunk_subset.now.same_length chunk_is region.answer chunk.accepted region.accepted held c.eq.result c.eq.ensures fits.accepted state new keep asked is lies given (refusal_of e) left)
            e.refused;
        layout_kept = e.layout_kept;
      };
    }
