use Rattle.std.proofs.Common.{◌≡◌, ◌∙◌, Contains, IfErr, OnOk, Option, Some, None, rules, subst, sym}
use Rattle.std.proofs.lemmas.Result.{on_ok_weaker}
use Rattle.zarrs_subset.specs.Regions.{Box, box_of, positions}
use Rattle.zarrs_data_type.specs.ArrayData.{data_of}
use Rattle.zarrs_codec_chain.specs.Options.{encodes_partially, stores_empty_chunks}
use Rattle.zarrs_engine_calls.specs.Reach.{MayAskParts}
use Rattle.zarrs_chunk_grid.specs.Grids.{met}
use Rattle.zarrs_engine_calls.specs.ChunkBoxes.{chunks_met}
use Rattle.zarrs_engine_calls.specs.ArgumentRefusals.{box_data_refusal, region_refusal, store_region_refusal}
use Rattle.zarrs_engine_calls.specs.Fronts.{StoresAll}
use Rattle.zarrs_engine_calls.specs.Patches.{IsPatched, PatchesAll, RefusesPatches, RefusesPatchRegion, writes_parts}
use Rattle.zarrs_engine_calls.specs.Step.{RefusesStore, RefusesStoreRegion, StoresRegion}
use Rattle.zarrs_engine_calls.specs.declared.error.ArrayError.{ArrayError}
use Rattle.zarrs_engine.proofs.Canon.{store_canon}
use Rattle.zarrs_engine.proofs.Puts.{each_error}
use Rattle.zarrs_engine_calls.specs.Refusals.{Refusal, refusal_of}
use Rattle.zarrs_engine_calls.proofs.MetParts.{shares}
use Rattle.zarrs_engine_calls.proofs.RefusalLemmas.{refuses_said, second_refusal}
use Rattle.zarrs_engine.specs.Engine.{layout_of}
use Rattle.zarrs_engine.specs.PartStores.{TakesItself}
use Rattle.zarrs_engine.proofs.PatchedRegions.{patches_as, refuses_as, region_early, region_patch_early, supported_parts}
use Rattle.zarrs_engine.proofs.RegionArguments.{no_refusal, region_first, region_second}
use Rattle.zarrs_engine.proofs.engine.Engine.store_array_subset.Goals as goal

pub returns-in_err-chunks : goal.returns-in_err-chunks
returns-in_err-chunks g c =
    let layout = layout_of c.args.self.now in
    let keep = stores_empty_chunks c.args.options.now in
    let asked = encodes_partially c.args.options.now in
    let shape = g.G.ChunkGridTraits.array_extents c.args.self.now.layout.grid in
    let region = box_of c.args.array_subset.now in
    let held = data_of c.args.subset_data.now in
    let state = g.S.ReadableStorageTraits.state c.args.self.now.storage in
    let r = refusal_of c.in_err-chunks.field-0.0 in
    let first = region_first layout shape region held r c.in_err-chunks.ensures.refused in
    let why = region_early layout keep shape region held r state first in
    let partly = region_patch_early layout keep asked shape region held r state first in
    search (rules, why, partly)

pub returns-in_err-check_cells : goal.returns-in_err-check_cells
returns-in_err-check_cells g c =
    let layout = layout_of c.args.self.now in
    let keep = stores_empty_chunks c.args.options.now in
    let asked = encodes_partially c.args.options.now in
    let shape = g.G.ChunkGridTraits.array_extents c.args.self.now.layout.grid in
    let region = box_of c.args.array_subset.now in
    let held = data_of c.args.subset_data.now in
    let state = g.S.ReadableStorageTraits.state c.args.self.now.storage in
    let r = refusal_of c.in_err-check_cells.field-0.0 in
    let first = region_second layout shape region held r c.in_ok-chunks.ensures.accepted
    (refuses_said _ r (subst (λ b. box_data_refusal layout b region.shape held ≡ Some r) c.in_ok-is_chunk.ensures.one c.in_err-check_cells.ensures.refused)) in
    let why = region_early layout keep shape region held r state first in
    let partly = region_patch_early layout keep asked shape region held r state first in
    search (rules, why, partly)

pub returns-in_err-is_chunk : goal.returns-in_err-is_chunk
returns-in_err-is_chunk g c =
    let layout = layout_of c.args.self.now in
    let keep = stores_empty_chunks c.args.options.now in
    let asked = encodes_partially c.args.options.now in
    let shape = g.G.ChunkGridTraits.array_extents c.args.self.now.layout.grid in
    let region = box_of c.args.array_subset.now in
    let held = data_of c.args.subset_data.now in
    let state = g.S.ReadableStorageTraits.state c.args.self.now.storage in
    let r = refusal_of c.in_err-is_chunk.field-0.0 in
    let first = region_second layout shape region held r c.in_ok-chunks.ensures.accepted (no_refusal _ r c.in_err-is_chunk.ensures.refused) in
    let why = region_early layout keep shape region held r state first in
    let partly = region_patch_early layout keep asked shape region held r state first in
    search (rules, why, partly)

pub store_along-requires-clause-ask : goal.store_along-requires-clause-ask
store_along-requires-clause-ask g c =
    subst (λ (b : Box). MayAskParts (layout_of c.args.self.now) (box_of c.args.array_subset.now) (positions b) (g.S.ReadableStorageTraits.state c.args.self.now.storage))
    (sym c.in_ok-chunks.ensures.answer.chunks) (c.requires c.in_ok-chunks.ensures.accepted)

pub store_along-requires-clause-supported : goal.store_along-requires-clause-supported
store_along-requires-clause-supported g c = λ is.
    let state = g.S.ReadableStorageTraits.state c.args.self.now.storage in
    supported_parts (encodes_partially c.args.options.now) (layout_of c.args.self.now) state (sym c.writes_parts-parts.ensures ∙ is)

pub store_along-requires-clause-meets : goal.store_along-requires-clause-meets
store_along-requires-clause-meets g c = λ is.
    let layout = layout_of c.args.self.now in
    let region = box_of c.args.array_subset.now in
    let cover = c.in_ok-chunks.ensures.answer.cover in
    λ index among. shares layout.grid c.args.self.now.layout.lawful.grid region c.args.array_subset.now.same_length cover.dimensions cover.covered index
    (subst (λ (b : Box). Contains (positions b) index) c.in_ok-chunks.ensures.answer.chunks among)

pub returns : goal.returns
returns g c =
    let layout = layout_of c.args.self.now in
    let lawful = c.args.self.now.layout.lawful in
    let keep = stores_empty_chunks c.args.options.now in
    let asked = encodes_partially c.args.options.now in
    let shape = g.G.ChunkGridTraits.array_extents c.args.self.now.layout.grid in
    let region = box_of c.args.array_subset.now in
    let held = data_of c.args.subset_data.now in
    let old = g.S.ReadableStorageTraits.state c.args.self.now.storage in
    let range = box_of c.in_ok-chunks.chunks in
    let at : range ≡ met layout.grid region = c.in_ok-chunks.ensures.answer.chunks in
    let first = store_region_refusal layout shape region held in
    let fits = subst (λ b. box_data_refusal layout b region.shape held ≡ None) c.in_ok-is_chunk.ensures.one c.in_ok-check_cells.ensures.accepted in
    let none : first ≡ None = second_refusal (region_refusal layout shape region) _ c.in_ok-chunks.ensures.accepted ∙ fits in
    let new = g.S.ReadableStorageTraits.state c.store_along.new.self.storage in
    let is : c.writes_parts-parts.result ≡ writes_parts asked layout old = c.writes_parts-parts.ensures in
    let itself = TakesItself layout c.writes_parts-parts.result region in
    let patched = IsPatched layout asked region old in
    let p = c.store_along.ensures.partly in
    record {
      whole = λ off.
          let e = c.store_along.ensures.whole (is ∙ off) in
          let done : OnOk c.store_along.result (StoresRegion layout keep shape region held old new) =
          on_ok_weaker c.store_along.result (λ (p : StoresAll layout keep region held (positions range) old new). (none, subst (λ (b : Box). StoresAll layout keep region held (positions b) old new) at p)) e.done in
          let refused : IfErr c.store_along.result (λ (e : ArrayError). RefusesStoreRegion layout keep shape region held (refusal_of e) old new) =
          each_error c.store_along.result (λ (e : ArrayError). RefusesStore layout keep None region held (positions range) (refusal_of e) old new)
          (λ (e : ArrayError). RefusesStoreRegion layout keep shape region held (refusal_of e) old new)
          (λ e why. subst (λ (f : Option Refusal). RefusesStore layout keep f region held (chunks_met layout.grid region) (refusal_of e) old new) (sym none)
          (subst (λ (b : Box). RefusesStore layout keep None region held (positions b) (refusal_of e) old new) at why))
          e.refused in
          record {
            done = done;
            refused = refused;
            canonical = store_canon layout lawful keep old new first region held (chunks_met layout.grid region) c.store_along.result done refused;
            layout_kept = e.layout_kept;
          };
      partly = record {
        done = on_ok_weaker c.store_along.result (λ (t : PatchesAll layout keep itself region held (positions range) old new). (
          none,
          patches_as layout keep itself patched region held (chunks_met layout.grid region) old new (λ i among takes. (sym is ∙ takes.0, takes.1)) (λ i among takes. (is ∙ takes.0, takes.1))
              (subst (λ (b : Box). PatchesAll layout keep itself region held (positions b) old new) at t),
        )) p.done;
        refused = each_error c.store_along.result (λ (e : ArrayError). RefusesPatches layout keep itself None region held (positions range) (refusal_of e) old new)
            (λ (e : ArrayError). RefusesPatchRegion layout keep asked shape region held (refusal_of e) old new)
            (λ e why. subst (λ (f : Option Refusal). RefusesPatches layout keep patched f region held (chunks_met layout.grid region) (refusal_of e) old new) (sym none)
            (refuses_as layout keep itself patched None region held (chunks_met layout.grid region) (refusal_of e) old new (λ i takes. (sym is ∙ takes.0, takes.1)) (λ i takes. (is ∙ takes.0, takes.1))
            (subst (λ (b : Box). RefusesPatches layout keep itself None region held (positions b) (refusal_of e) old new) at why)))
            p.refused;
        layout_kept = p.layout_kept;
      };
    }
