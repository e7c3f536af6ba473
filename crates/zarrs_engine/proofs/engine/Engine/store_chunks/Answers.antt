use Rattle.std.proofs.Common.{◌≡◌, ◌≢◌, ◌∙◌, ◌==◌, ◌<◌, ◌^◌, false, ℕ, IfErr, List, None, OnOk, Option, Some, refl, rules, ap, subst, sym, arith}
use Rattle.std.proofs.lemmas.Result.{on_ok_weaker}
use Rattle.zarrs_subset.specs.Boxes.{position_count}
use Rattle.zarrs_subset.specs.Regions.{box_of, positions}
use Rattle.zarrs_chunk_grid.specs.Grids.{chunks_box}
use Rattle.zarrs_data_type.specs.ArrayData.{data_of}
use Rattle.zarrs_codec_chain.specs.Options.{stores_empty_chunks}
use Rattle.zarrs_engine_calls.specs.declared.error.ArrayError.{ArrayError}
use Rattle.zarrs_engine_calls.specs.ArgumentRefusals.{box_data_refusal, store_chunks_refusal}
use Rattle.zarrs_engine_calls.specs.Refusals.{Refusal, RefusesBy, refusal_of, size_overflow}
use Rattle.zarrs_engine_calls.specs.Step.{RefusesStore, RefusesStoreChunks, StoresChunks}
use Rattle.zarrs_engine_calls.proofs.RefusalLemmas.{refuses_said}
use Rattle.zarrs_engine.specs.Engine.{layout_of}
use Rattle.zarrs_engine_layout.specs.Steps.{RefusesIndices}
use Rattle.zarrs_engine_layout.proofs.Chunks.{wrong_length}
use Rattle.zarrs_engine.proofs.PartStores.{chunks_early, chunks_none, none_empty, range_ask, range_data}
use Rattle.zarrs_engine.proofs.PartStores.{range_first_none, range_left, range_many, range_missing, range_none, range_refuses, range_stored, two_ok}
use Rattle.zarrs_engine.proofs.Canon.{store_canon}
use Rattle.zarrs_engine.proofs.Puts.{each_error}
use Rattle.zarrs_engine.proofs.engine.Engine.store_chunks.Goals as goal

pub returns-in_default : goal.returns-in_default
returns-in_default g c =
    let layout = layout_of c.args.self.now in
    let keep = stores_empty_chunks c.args.options.now in
    let state = g.S.ReadableStorageTraits.state c.args.self.now.storage in
    let range = box_of c.args.chunks.now in
    let held = data_of c.args.chunks_data.now in
    let why = chunks_early layout keep range held state size_overflow (range_many layout range held c.in_default.ensures.refused) in
    search (rules, why)

pub returns-then-number-eq0 : goal.returns-then-number-eq0
returns-then-number-eq0 g c =
    let layout = layout_of c.args.self.now in
    let keep = stores_empty_chunks c.args.options.now in
    let state = g.S.ReadableStorageTraits.state c.args.self.now.storage in
    let range = box_of c.args.chunks.now in
    let held = data_of c.args.chunks_data.now in
    let small : position_count range.shape < 2 ^ 64 = omega (arith, c.in-Ok.ensures.ok) in
    let none = sym c.in-Ok.ensures.ok ∙ c.if-number-eq0.true in
    record {
      done = two_ok c.check_cells.result (λ accepted given.
          chunks_none layout keep range held state (c.args.chunks.now.same_length) none (none_empty range none) (range_none layout range held small none ∙ accepted) given)
          c.check_cells.ensures.accepted c.check_cells.ensures.given;
      refused = each_error c.check_cells.result (λ (e : ArrayError). box_data_refusal layout false range.shape held ≡ Some (refusal_of e)) (λ (e : ArrayError). RefusesStoreChunks layout keep range held (refusal_of e) state state)
          (λ e why. chunks_early layout keep range held state (refusal_of e) (refuses_said _ (refusal_of e) (range_none layout range held small none ∙ why)))
          c.check_cells.ensures.refused;
      canonical = λ off canon. canon;
      layout_kept = refl;
    }

pub returns-then-dimensionality : goal.returns-then-dimensionality
returns-then-dimensionality g c =
    let layout = layout_of c.args.self.now in
    let keep = stores_empty_chunks c.args.options.now in
    let state = g.S.ReadableStorageTraits.state c.args.self.now.storage in
    let range = box_of c.args.chunks.now in
    let held = data_of c.args.chunks_data.now in
    let small : position_count range.shape < 2 ^ 64 = omega (arith, c.in-Ok.ensures.ok) in
    let some : position_count range.shape ≢ 0 = λ none. c.if-number-eq0.false (c.in-Ok.ensures.ok ∙ none) in
    let e = c.invalid_indices.result in
    let missing = wrong_length layout range.start (λ long. c.if-dimensionality.true (c.dimensionality.ensures.count ∙ long ∙ sym c.dimensionality-2.ensures)) in
    let why = subst (λ (i : List ℕ). RefusesIndices i e) c.start.ensures c.invalid_indices.ensures in
    let why = chunks_early layout keep range held state (refusal_of e) (subst (λ (o : Option Refusal). RefusesBy o (refusal_of e)) (sym (range_missing layout range held small some missing)) why) in
    search (rules, why)

pub returns-in_err-region : goal.returns-in_err-region
returns-in_err-region g c =
    let layout = layout_of c.args.self.now in
    let keep = stores_empty_chunks c.args.options.now in
    let state = g.S.ReadableStorageTraits.state c.args.self.now.storage in
    let range = box_of c.args.chunks.now in
    let held = data_of c.args.chunks_data.now in
    let small : position_count range.shape < 2 ^ 64 = omega (arith, c.in-Ok.ensures.ok) in
    let some : position_count range.shape ≢ 0 = λ none. c.if-number-eq0.false (c.in-Ok.ensures.ok ∙ none) in
    let dimensions = sym c.dimensionality.ensures.count ∙ c.if-dimensionality.false ∙ c.dimensionality-2.ensures in
    let shape = g.G.ChunkGridTraits.array_extents c.args.self.now.layout.grid in
    let why = range_refuses layout c.args.self.now.layout.lawful keep range range held (c.args.chunks.now.same_length) dimensions small some shape state (refusal_of c.in_err-region.field-0.0) c.in_err-region.ensures.refused in
    search (rules, why)

pub returns-in_err-check_cells : goal.returns-in_err-check_cells
returns-in_err-check_cells g c =
    let layout = layout_of c.args.self.now in
    let keep = stores_empty_chunks c.args.options.now in
    let state = g.S.ReadableStorageTraits.state c.args.self.now.storage in
    let range = box_of c.args.chunks.now in
    let held = data_of c.args.chunks_data.now in
    let small : position_count range.shape < 2 ^ 64 = omega (arith, c.in-Ok.ensures.ok) in
    let some : position_count range.shape ≢ 0 = λ none. c.if-number-eq0.false (c.in-Ok.ensures.ok ∙ none) in
    let dimensions = sym c.dimensionality.ensures.count ∙ c.if-dimensionality.false ∙ c.dimensionality-2.ensures in
    let shape = g.G.ChunkGridTraits.array_extents c.args.self.now.layout.grid in
    let region = c.in_ok-region.ensures in
    let one = ap (λ n. n == 1) c.in-Ok.ensures.ok in
    let why = range_data layout c.args.self.now.layout.lawful keep range (box_of c.in_ok-region.region) held (c.args.chunks.now.same_length) dimensions small some shape region.answer.region region.answer.cover region.accepted (c.in-Ok.number == 1) one state (refusal_of c.in_err-check_cells.field-0.0) (refuses_said _ (refusal_of c.in_err-check_cells.field-0.0) c.in_err-check_cells.ensures.refused) in
    search (rules, why)

pub store_along-requires-clause-ask : goal.store_along-requires-clause-ask
store_along-requires-clause-ask g c =
    let layout = layout_of c.args.self.now in
    let keep = stores_empty_chunks c.args.options.now in
    let state = g.S.ReadableStorageTraits.state c.args.self.now.storage in
    let range = box_of c.args.chunks.now in
    let held = data_of c.args.chunks_data.now in
    let small : position_count range.shape < 2 ^ 64 = omega (arith, c.in-Ok.ensures.ok) in
    let some : position_count range.shape ≢ 0 = λ none. c.if-number-eq0.false (c.in-Ok.ensures.ok ∙ none) in
    let dimensions = sym c.dimensionality.ensures.count ∙ c.if-dimensionality.false ∙ c.dimensionality-2.ensures in
    let shape = g.G.ChunkGridTraits.array_extents c.args.self.now.layout.grid in
    let region = c.in_ok-region.ensures in
    let one = ap (λ n. n == 1) c.in-Ok.ensures.ok in
    range_ask layout c.args.self.now.layout.lawful keep range (box_of c.in_ok-region.region) held (c.args.chunks.now.same_length) dimensions small some shape region.answer.region region.answer.cover region.accepted state

pub returns : goal.returns
returns g c =
    let layout = layout_of c.args.self.now in
    let keep = stores_empty_chunks c.args.options.now in
    let state = g.S.ReadableStorageTraits.state c.args.self.now.storage in
    let range = box_of c.args.chunks.now in
    let held = data_of c.args.chunks_data.now in
    let small : position_count range.shape < 2 ^ 64 = omega (arith, c.in-Ok.ensures.ok) in
    let some : position_count range.shape ≢ 0 = λ none. c.if-number-eq0.false (c.in-Ok.ensures.ok ∙ none) in
    let dimensions = sym c.dimensionality.ensures.count ∙ c.if-dimensionality.false ∙ c.dimensionality-2.ensures in
    let shape = g.G.ChunkGridTraits.array_extents c.args.self.now.layout.grid in
    let region = c.in_ok-region.ensures in
    let one = ap (λ n. n == 1) c.in-Ok.ensures.ok in
    let new = g.S.ReadableStorageTraits.state c.store_along.new.self.storage in
    let first = store_chunks_refusal layout range held in
    let none = range_first_none layout c.args.self.now.layout.lawful keep range (box_of c.in_ok-region.region) held (c.args.chunks.now.same_length) dimensions small some shape region.answer.region region.answer.cover region.accepted (c.in-Ok.number == 1) one c.in_ok-check_cells.ensures.accepted state new in
    let e = c.store_along.ensures.whole refl in
    let done : OnOk c.store_along.result (StoresChunks layout keep range held state new) =
    on_ok_weaker c.store_along.result (range_stored layout c.args.self.now.layout.lawful keep range (box_of c.in_ok-region.region) held (c.args.chunks.now.same_length) dimensions small some shape region.answer.region region.answer.cover region.accepted (c.in-Ok.number == 1) one c.in_ok-check_cells.ensures.accepted state new) e.done in
    let refused : IfErr c.store_along.result (λ (e : ArrayError). RefusesStoreChunks layout keep range held (refusal_of e) state new) =
    each_error c.store_along.result (λ (e : ArrayError). RefusesStore layout keep first (box_of c.in_ok-region.region) held (positions range) (refusal_of e) state new)
    (λ (e : ArrayError). RefusesStoreChunks layout keep range held (refusal_of e) state new)
    (λ e left. range_left layout c.args.self.now.layout.lawful keep range (box_of c.in_ok-region.region) held (c.args.chunks.now.same_length) dimensions small some shape region.answer.region region.answer.cover region.accepted (c.in-Ok.number == 1) one c.in_ok-check_cells.ensures.accepted state new (refusal_of e) left)
    (each_error c.store_along.result (λ (e : ArrayError). RefusesStore layout keep None (box_of c.in_ok-region.region) held (positions range) (refusal_of e) state new)
    (λ (e : ArrayError). RefusesStore layout keep first (box_of c.in_ok-region.region) held (positions range) (refusal_of e) state new)
    (λ e left. subst (λ (f : Option Refusal). RefusesStore layout keep f (box_of c.in_ok-region.region) held (positions range) (refusal_of e) state new) (sym none) left) e.refused) in
    record {
      done = done;
      refused = refused;
      canonical = store_canon layout c.args.self.now.layout.lawful keep state new first (chunks_box layout.grid range) held (positions range) c.store_along.result done refused;
      layout_kept = e.layout_kept;
    }
