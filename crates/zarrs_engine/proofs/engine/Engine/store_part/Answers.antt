use Rattle.std.proofs.Common.{◌∙◌, List, ℕ, [], ◌∷◌, rules, ap, subst, sym}
use Rattle.std.proofs.lemmas.Bool.{false≢true}
use Rattle.std.proofs.lemmas.Result.{on_ok_weaker}
use Rattle.zarrs_subset.specs.Regions.{Box, LiesInBox, box_of}
use Rattle.zarrs_chunk_grid.specs.Grids.{box_at}
use Rattle.zarrs_chunk_grid.proofs.Chunks.{box_long}
use Rattle.zarrs_data_type.specs.ArrayData.{data_of}
use Rattle.zarrs_codec_chain.specs.Options.{stores_empty_chunks}
use Rattle.zarrs_engine_calls.specs.Reach.{MayAskParts}
use Rattle.zarrs_engine_calls.specs.Refusals.{Refusal, refusal_of}
use Rattle.zarrs_engine_calls.specs.StateRefusals.{IsPart}
use Rattle.zarrs_engine_calls.specs.declared.error.ArrayError.{ArrayError}
use Rattle.zarrs_engine_calls.proofs.Contents.{member}
use Rattle.zarrs_engine_layout.proofs.ChunkParts.{chunk_accepted}
use Rattle.zarrs_engine_layout.proofs.OneChunk.{covers_lies}
use Rattle.zarrs_engine.specs.Engine.{layout_of}
use Rattle.zarrs_engine.specs.PartStores.{StoresPartOf, TakesItself}
use Rattle.zarrs_engine.specs.Patches.{LeavesPatch, Shares}
use Rattle.zarrs_engine.specs.RegionWrites.{LeavesPart}
use Rattle.zarrs_engine.proofs.PartWrites.{lies_covers}
use Rattle.zarrs_engine.proofs.PatchRefusals.{memory_leaves, only_memory}
use Rattle.zarrs_engine.proofs.PatchedRegions.{leaves_patch, stored_patched}
use Rattle.zarrs_engine.proofs.Puts.{each_error}
use Rattle.zarrs_engine.proofs.RegionFronts.{leaves_memory}
use Rattle.zarrs_engine.proofs.StoredParts.{by_itself}
use Rattle.zarrs_engine.proofs.engine.Engine.store_part.Goals as goal

pub returns-in_err-chunk : goal.returns-in_err-chunk
returns-in_err-chunk g c =
    let layout = layout_of c.args.self.now in
    let keep = stores_empty_chunks c.args.options.now in
    let state = g.S.ReadableStorageTraits.state c.args.self.now.storage in
    let index = c.args.chunk_indices.now in
    let region = box_of c.args.region.now in
    let held = data_of c.args.region_data.now in
    let r = refusal_of c.in_err-chunk.field-0.0 in
    let memory = only_memory _ r (chunk_accepted layout index c.requires.boxed) c.in_err-chunk.ensures.refused in
    let partly = memory_leaves layout keep (TakesItself layout c.args.parts region) region held index r state memory in
    let why = subst (λ (r : Refusal). LeavesPart layout keep region held index r state state) (sym memory) (leaves_memory layout keep region held index state) in
    search (rules, why, partly)

pub patch_part-requires-clause-supported : goal.patch_part-requires-clause-supported
patch_part-requires-clause-supported g c = c.requires.supported (c.takes_itself.ensures.0 c.if-takes_itself.true).0

pub patch_part-requires-clause-part : goal.patch_part-requires-clause-part
patch_part-requires-clause-part g c = λ covers.
    let layout = layout_of c.args.self.now in
    let region = box_of c.args.region.now in
    let is = c.in_ok-chunk.ensures.answer.chunk in
    let lies = covers_lies layout.grid c.args.self.now.layout.lawful.grid c.in_ok-chunk.chunk.indices.now is.boxed region c.args.region.now.same_length c.requires.dimensions covers in
    (c.takes_itself.ensures.0 c.if-takes_itself.true).1 (subst (λ (b : Box). LiesInBox b region) (sym is.region) lies)

pub patch_part-requires-clause-meets : goal.patch_part-requires-clause-meets
patch_part-requires-clause-meets g c =
    let layout = layout_of c.args.self.now in
    let same = c.in_ok-chunk.ensures.answer.chunk.region ∙ ap (λ i. box_at layout.grid i) c.in_ok-chunk.ensures.answer.indices in
    subst (Shares (box_of c.args.region.now)) (sym same) (c.requires.meets (c.takes_itself.ensures.0 c.if-takes_itself.true).0)

pub patch_part-requires-clause-ask : goal.patch_part-requires-clause-ask
patch_part-requires-clause-ask g c =
    let layout = layout_of c.args.self.now in
    let region = box_of c.args.region.now in
    let state = g.S.ReadableStorageTraits.state c.args.self.now.storage in
    let index = c.in_ok-chunk.chunk.indices.now in
    let is = c.in_ok-chunk.ensures.answer.chunk in
    let proper : IsPart layout region index = λ covers.
    let lies = covers_lies layout.grid c.args.self.now.layout.lawful.grid index is.boxed region c.args.region.now.same_length c.requires.dimensions covers in
    (c.takes_itself.ensures.0 c.if-takes_itself.true).1 (subst (λ (b : Box). LiesInBox b region) (sym is.region) lies) in
    (subst (λ (i : List ℕ). MayAskParts layout region (i ∷ []) state) (sym c.in_ok-chunk.ensures.answer.indices) c.requires.ask) index (member index) proper

pub returns-then-takes_itself : goal.returns-then-takes_itself
returns-then-takes_itself g c =
    let layout = layout_of c.args.self.now in
    let keep = stores_empty_chunks c.args.options.now in
    let region = box_of c.args.region.now in
    let held = data_of c.args.region_data.now in
    let parts = (c.takes_itself.ensures.0 c.if-takes_itself.true).0 in
    subst (λ (i : List ℕ). StoresPartOf g.S.ReadableStorageTraits.state keep c.args.parts region held i c.args.self.now c.patch_part.new.self c.patch_part.result) c.in_ok-chunk.ensures.answer.indices
    (by_itself g.S.ReadableStorageTraits.state keep c.args.parts region held c.in_ok-chunk.chunk.indices.now c.args.self.now c.patch_part.new.self c.patch_part.result parts c.patch_part.ensures)

pub store_whole-requires-clause-ask : goal.store_whole-requires-clause-ask
store_whole-requires-clause-ask g c =
    let layout = layout_of c.args.self.now in
    let state = g.S.ReadableStorageTraits.state c.args.self.now.storage in
    subst (λ (i : List ℕ). MayAskParts layout (box_of c.args.region.now) (i ∷ []) state) (sym c.in_ok-chunk.ensures.answer.indices) c.requires.ask

pub returns : goal.returns
returns g c =
    let layout = layout_of c.args.self.now in
    let keep = stores_empty_chunks c.args.options.now in
    let old = g.S.ReadableStorageTraits.state c.args.self.now.storage in
    let new = g.S.ReadableStorageTraits.state c.store_whole.new.self.storage in
    let region = box_of c.args.region.now in
    let held = data_of c.args.region_data.now in
    let index = c.in_ok-chunk.chunk.indices.now in
    let is = c.in_ok-chunk.ensures.answer.chunk in
    let itself = TakesItself layout c.args.parts region in
    let not : itself index → ⊥ = λ takes.
    false≢true (sym c.if-takes_itself.false ∙ c.takes_itself.ensures.1 (
      takes.0,
      λ lies.
          takes.1 (lies_covers (box_at layout.grid index) region (box_long layout.grid index) c.args.region.now.same_length (subst (λ (b : Box). LiesInBox b region) is.region lies)),
    )) in
    let e = c.store_whole.ensures.writes in
    subst (λ (i : List ℕ). StoresPartOf g.S.ReadableStorageTraits.state keep c.args.parts region held i c.args.self.now c.store_whole.new.self c.store_whole.result) c.in_ok-chunk.ensures.answer.indices
    (record {
      whole = λ off. e;
      partly = record {
        done = on_ok_weaker c.store_whole.result (stored_patched layout c.args.self.now.layout.lawful keep itself region held index old new not) e.done;
        refused = each_error c.store_whole.result (λ (e : ArrayError). LeavesPart layout keep region held index (refusal_of e) old new)
            (λ (e : ArrayError). LeavesPatch layout keep itself region held index (refusal_of e) old new)
            (λ e l. leaves_patch layout keep itself region held index (refusal_of e) old new not l) e.refused;
        layout_kept = e.layout_kept;
      };
    })
