use Rattle.std.proofs.Common.{◌≡◌, ◌∙◌, true, length, refl, rules, subst, sym, ap}
use Rattle.std.proofs.lemmas.Result.{err_from_is_err_and, on_ok_weaker}
use Rattle.zarrs_subset.specs.Regions.{Box, LiesInShape, box_of, seen_from}
use Rattle.zarrs_subset.specs.Refusals.{RefusesOffset}
use Rattle.zarrs_chunk_grid.proofs.Chunks.{box_dimensions}
use Rattle.zarrs_data_type.specs.ArrayData.{data_of}
use Rattle.zarrs_codec_chain.specs.Options.{stores_empty_chunks}
use Rattle.zarrs_engine_calls.specs.Errors.{error_of_subset}
use Rattle.zarrs_engine_calls.specs.Refusals.{out_of_memory, refusal_of}
use Rattle.zarrs_engine_calls.specs.declared.error.ArrayError.{ArrayError}
use Rattle.zarrs_engine.specs.Engine.{layout_of}
use Rattle.zarrs_engine.specs.PartStores.{TakesItself}
use Rattle.zarrs_engine.specs.Patches.{LeavesPartly, LeavesPatch}
use Rattle.zarrs_engine.proofs.Cuts.{err_kept}
use Rattle.zarrs_engine.proofs.PatchRefusals.{length_memory, memory_leaves}
use Rattle.zarrs_engine.proofs.PatchedParts.{offset_short, part_inside, patched_shared, shared_left, shared_lies}
use Rattle.zarrs_engine.proofs.Puts.{each_error}
use Rattle.zarrs_engine.proofs.engine.Engine.patch_part.Goals as goal

pub returns-in_err-shared : goal.returns-in_err-shared
returns-in_err-shared g c =
    let layout = layout_of c.args.self.now in
    let keep = stores_empty_chunks c.args.options.now in
    let state = g.S.ReadableStorageTraits.state c.args.self.now.storage in
    let index = c.args.chunk.now.indices.now in
    let region = box_of c.args.region.now in
    let same = ap (λ (b : Box). length b.start) c.requires.chunk.region ∙ box_dimensions layout.grid index ∙ sym c.requires.dimensions in
    let why = memory_leaves layout keep (TakesItself layout true region) region (data_of c.args.region_data.now) index _ state
    (length_memory _ _ c.in_err-shared.field-0.0 same c.in_err-shared.ensures.refused) in
    record { done = search rules; refused = search (rules, why); layout_kept = refl }

pub extract_array_subset-requires-clause-inside : goal.extract_array_subset-requires-clause-inside
extract_array_subset-requires-clause-inside g c =
    let region = box_of c.args.region.now in
    let chunk = box_of c.args.chunk.now.region in
    let shares = c.requires.meets in
    shared_lies region chunk (box_of c.in_ok-shared.shared) chunk c.args.region.now.same_length c.args.chunk.now.region.same_length c.in_ok-shared.ensures.dimensions c.in_ok-shared.ensures.value shares

pub returns-in_err-part : goal.returns-in_err-part
returns-in_err-part g c =
    let layout = layout_of c.args.self.now in
    let keep = stores_empty_chunks c.args.options.now in
    let state = g.S.ReadableStorageTraits.state c.args.self.now.storage in
    let index = c.args.chunk.now.indices.now in
    let chunk = box_of c.args.chunk.now.region in
    let memory = offset_short (box_of c.args.region.now) chunk (box_of c.in_ok-shared.shared) chunk c.args.region.now.same_length c.args.chunk.now.region.same_length c.in_ok-shared.ensures.dimensions c.in_ok-shared.ensures.value
    c.in_err-part.field-0.0
    (subst (λ start. RefusesOffset (box_of c.in_ok-shared.shared).start start c.in_err-part.field-0.0) c.start-origin.ensures c.in_err-part.ensures.refused) in
    let region = box_of c.args.region.now in
    let held = data_of c.args.region_data.now in
    let why = memory_leaves layout keep (TakesItself layout true region) region held index _ state memory in
    record {
      done = search rules;
      refused = err_kept c.from_residual-in_err-part.result (error_of_subset c.in_err-part.field-0.0) (λ (e : ArrayError). LeavesPatch layout keep (TakesItself layout true region) region held index (refusal_of e) state state) c.from_residual-in_err-part.ensures.1 why;
      layout_kept = refl;
    }

pub returns-in_err-data : goal.returns-in_err-data
returns-in_err-data g c =
    let layout = layout_of c.args.self.now in
    let keep = stores_empty_chunks c.args.options.now in
    let state = g.S.ReadableStorageTraits.state c.args.self.now.storage in
    let region = box_of c.args.region.now in
    let why = memory_leaves layout keep (TakesItself layout true region) region (data_of c.args.region_data.now) c.args.chunk.now.indices.now out_of_memory state refl in
    let p = err_from_is_err_and c.from_residual-in_err-data.result c.from_residual-in_err-data.ensures.1 in
    rw (p.1, p.2) (record { done = tt; refused = why; layout_kept = refl })

pub patch_chunk-requires-clause-part : goal.patch_chunk-requires-clause-part
patch_chunk-requires-clause-part g c =
    let region = box_of c.args.region.now in
    let chunk = box_of c.args.chunk.now.region in
    let shared = box_of c.in_ok-shared.shared in
    let part = box_of c.in_ok-part.part in
    let shares = c.requires.meets in
    let part_is : part ≡ seen_from shared chunk.start = c.in_ok-part.ensures.value ∙ ap (λ start. seen_from shared start) c.start-origin.ensures in
    subst (λ (b : Box). LiesInShape part b.shape) c.requires.chunk.region
    (part_inside region chunk shared part c.args.region.now.same_length c.args.chunk.now.region.same_length c.in_ok-shared.ensures.dimensions c.in_ok-shared.ensures.value shares part_is)

pub returns : goal.returns
returns g c =
    let layout = layout_of c.args.self.now in
    let keep = stores_empty_chunks c.args.options.now in
    let index = c.args.chunk.now.indices.now in
    let region = box_of c.args.region.now in
    let chunk = box_of c.args.chunk.now.region in
    let shared = box_of c.in_ok-shared.shared in
    let part = box_of c.in_ok-part.part in
    let shares = c.requires.meets in
    let part_is : part ≡ seen_from shared chunk.start = c.in_ok-part.ensures.value ∙ ap (λ start. seen_from shared start) c.start-origin.ensures in
    let itself : TakesItself layout true region index = (refl, c.requires.part) in
    let old = g.S.ReadableStorageTraits.state c.args.self.now.storage in
    let new = g.S.ReadableStorageTraits.state c.patch_chunk.new.self.storage in
    let held = data_of c.args.region_data.now in
    let taken = data_of c.in_ok-data.data in
    record {
      done =
          on_ok_weaker c.patch_chunk.result (patched_shared region chunk shared part c.args.region.now.same_length c.args.chunk.now.region.same_length c.in_ok-shared.ensures.dimensions c.in_ok-shared.ensures.value shares part_is
          layout keep (TakesItself layout true region) index itself c.requires.chunk.region (data_of c.args.region_data.now) (data_of c.in_ok-data.data) c.in_ok-data.ensures old new c.requires.given)
          c.patch_chunk.ensures.writes.done;
      refused =
          each_error c.patch_chunk.result (λ (e : ArrayError). LeavesPartly layout keep index part taken (refusal_of e) old new)
          (λ (e : ArrayError). LeavesPatch layout keep (TakesItself layout true region) region held index (refusal_of e) old new)
          (λ e l. shared_left region chunk shared part c.args.region.now.same_length c.args.chunk.now.region.same_length c.in_ok-shared.ensures.dimensions c.in_ok-shared.ensures.value shares part_is
          layout keep (TakesItself layout true region) index itself c.requires.chunk.region held taken c.in_ok-data.ensures old new (refusal_of e) l)
          c.patch_chunk.ensures.writes.refused;
      layout_kept = c.patch_chunk.ensures.writes.layout_kept;
    }
