use Rattle.std.proofs.Common.{◌≡◌, ◌∙◌, ℕ, List, IsErr, OnOk, true, ap, refl, rules, subst, sym}
use Rattle.std.proofs.lemmas.Bool.{false≢true}
use Rattle.std.proofs.lemmas.Result.{err_from_is_err_and, on_ok_weaker}
use Rattle.zarrs_subset.specs.Boxes.{position_count}
use Rattle.zarrs_subset.specs.Regions.{Box, LiesInShape, box_of}
use Rattle.zarrs_chunk_grid.specs.Grids.{box_at}
use Rattle.zarrs_chunk_grid.proofs.Chunks.{box_is_there}
use Rattle.zarrs_data_type.specs.ArrayData.{data_of}
use Rattle.zarrs_data_type.specs.Cells.{HasCells}
use Rattle.zarrs_codec_chain.specs.Options.{stores_empty_chunks}
use Rattle.zarrs_engine_calls.specs.ChunkBoxes.{part_box}
use Rattle.zarrs_engine_calls.specs.Patches.{IsEncoded, RefusesEncodePart}
use Rattle.zarrs_engine_calls.specs.Reach.{MayAskChunk}
use Rattle.zarrs_engine_calls.specs.declared.error.ArrayError.{ArrayError}
use Rattle.zarrs_engine_calls.specs.Refusals.{refusal_of}
use Rattle.zarrs_engine_calls.specs.StateRefusals.{IsPart}
use Rattle.zarrs_engine_calls.specs.Step.{StoresPart}
use Rattle.zarrs_engine_calls.proofs.Contents.{only_member}
use Rattle.zarrs_engine_calls.proofs.RefusalLemmas.{refuses_said}
use Rattle.zarrs_engine_layout.proofs.ChunkParts.{part_lies}
use Rattle.zarrs_engine.specs.Engine.{layout_of}
use Rattle.zarrs_engine.specs.Outcomes.{Writes}
use Rattle.zarrs_engine.specs.Patches.{LeavesPartly, PatchesChunk}
use Rattle.zarrs_engine.specs.RegionWrites.{LeavesPart, StoresOneMore}
use Rattle.zarrs_engine.proofs.Encoded.{key_said}
use Rattle.zarrs_engine.proofs.PartReads.{is_part, part_cover}
use Rattle.zarrs_engine.proofs.PartStores.{accepted_part, data_refuses, part_chunk, part_passing, stored_at, takes_part}
use Rattle.zarrs_engine.proofs.PatchedRegions.{encode_early, encoded_left, encoded_part, encoded_whole, key_left, whole_left}
use Rattle.zarrs_engine.proofs.Puts.{each_error}
use Rattle.zarrs_engine.proofs.engine.Engine.partial_encode.Goals as goal
use Rattle.zarrs_engine.proofs.engine.Engine.partial_encode.Goals.{then-whole+in_ok-stored_at+in-None-1, then-whole+in_ok-stored_at+in-Some+in-None-1, then-whole+in_ok-stored_at+in-Some+in-Some-branch-6, else-whole}

pub returns-in_err-chunk : goal.returns-in_err-chunk
returns-in_err-chunk g c =
    let layout = layout_of c.args.self.now in
    let keep = stores_empty_chunks c.args.options.now in
    let state = g.S.ReadableStorageTraits.state c.args.self.now.storage in
    let index = c.args.chunk_indices.now in
    let part = box_of c.args.chunk_subset.now in
    let held = data_of c.args.chunk_subset_data.now in
    let long = (box_is_there layout.grid index c.requires.boxed).long in
    let r = refusal_of c.in_err-chunk.field-0.0 in
    let why = encode_early layout keep index part held r state (part_chunk layout index part held r long c.in_err-chunk.ensures.refused) in
    search (rules, why)

pub returns-in_err-region : goal.returns-in_err-region
returns-in_err-region g c =
    let layout = layout_of c.args.self.now in
    let keep = stores_empty_chunks c.args.options.now in
    let state = g.S.ReadableStorageTraits.state c.args.self.now.storage in
    let index = c.args.chunk_indices.now in
    let part = box_of c.args.chunk_subset.now in
    let held = data_of c.args.chunk_subset_data.now in
    let long = (box_is_there layout.grid index c.requires.boxed).long in
    let r = refusal_of c.in_err-region.field-0.0 in
    let why = encode_early layout keep index part held r state (part_passing layout index part held r long c.in_ok-chunk.ensures.accepted c.in_err-region.ensures.refused) in
    let p = err_from_is_err_and c.from_residual-in_err-region.result c.from_residual-in_err-region.ensures.1 in
    rw (p.1, p.2) (record { done = tt; refused = why; refusing = λ said. refl; layout_kept = refl })

pub returns-in_err-check_cells : goal.returns-in_err-check_cells
returns-in_err-check_cells g c =
    let layout = layout_of c.args.self.now in
    let keep = stores_empty_chunks c.args.options.now in
    let state = g.S.ReadableStorageTraits.state c.args.self.now.storage in
    let index = c.args.chunk_indices.now in
    let part = box_of c.args.chunk_subset.now in
    let held = data_of c.args.chunk_subset_data.now in
    let lawful = c.args.self.now.layout.lawful in
    let chunk = c.in_ok-chunk.ensures in
    let chunk_is = chunk.answer.chunk.region ∙ ap (λ i. box_at layout.grid i) chunk.answer.indices in
    let region = c.in_ok-region.ensures in
    let r = refusal_of c.in_err-check_cells.field-0.0 in
    let why = encode_early layout keep index part held r state
    (data_refuses layout lawful index part (box_of c.in_ok-chunk.chunk.region) (box_of c.in_ok-region.region) c.args.chunk_subset.now.same_length chunk_is region.answer chunk.accepted region.accepted held c.eq-whole.result c.eq-whole.ensures r
    (refuses_said _ r c.in_err-check_cells.ensures.refused)) in
    let p = err_from_is_err_and c.from_residual-in_err-check_cells.result c.from_residual-in_err-check_cells.ensures.1 in
    rw (p.1, p.2) (record { done = tt; refused = why; refusing = λ said. refl; layout_kept = refl })

pub patch_chunk-requires-clause-part : goal.patch_chunk-requires-clause-part
patch_chunk-requires-clause-part g c =
    let layout = layout_of c.args.self.now in
    subst (λ (i : List ℕ). LiesInShape (box_of c.args.chunk_subset.now) (box_at layout.grid i).shape) (sym c.in_ok-chunk.ensures.answer.indices)
    (part_lies layout c.args.chunk_indices.now (box_of c.args.chunk_subset.now) c.in_ok-region.ensures.accepted)

pub patch_chunk-requires-clause-ask : goal.patch_chunk-requires-clause-ask
patch_chunk-requires-clause-ask g c =
    let state = g.S.ReadableStorageTraits.state c.args.self.now.storage in
    subst (λ (i : List ℕ). MayAskChunk (layout_of c.args.self.now) i state) (sym c.in_ok-chunk.ensures.answer.indices) (c.requires.ask c.in_ok-region.ensures.accepted)

pub stored_at-requires-clause-long : goal.stored_at-requires-clause-long
stored_at-requires-clause-long g c = (box_is_there (layout_of c.args.self.now).grid c.args.chunk_indices.now c.requires.boxed).long

pub stored_at-requires-clause-key : goal.stored_at-requires-clause-key
stored_at-requires-clause-key g c = c.in_ok-chunk.ensures.answer.chunk.key ∙ ap (layout_of c.args.self.now).key c.in_ok-chunk.ensures.answer.indices

pub stored_at-requires-clause-ask : goal.stored_at-requires-clause-ask
stored_at-requires-clause-ask g c = c.requires.ask c.in_ok-region.ensures.accepted

pub store_whole-requires-clause-dimensions : goal.store_whole-requires-clause-dimensions
store_whole-requires-clause-dimensions g c =
    let layout = layout_of c.args.self.now in
    let keep = stores_empty_chunks c.args.options.now in
    let state = g.S.ReadableStorageTraits.state c.args.self.now.storage in
    let index = c.args.chunk_indices.now in
    let part = box_of c.args.chunk_subset.now in
    let held = data_of c.args.chunk_subset_data.now in
    let lawful = c.args.self.now.layout.lawful in
    let chunk = c.in_ok-chunk.ensures in
    let chunk_is = chunk.answer.chunk.region ∙ ap (λ i. box_at layout.grid i) chunk.answer.indices in
    let region = c.in_ok-region.ensures in
    (part_cover layout lawful index part (box_of c.in_ok-chunk.chunk.region) (box_of c.in_ok-region.region) c.args.chunk_subset.now.same_length chunk_is region.answer chunk.accepted region.accepted).dimensions

pub store_whole-requires-clause-covered : goal.store_whole-requires-clause-covered
store_whole-requires-clause-covered g c =
    let layout = layout_of c.args.self.now in
    let keep = stores_empty_chunks c.args.options.now in
    let state = g.S.ReadableStorageTraits.state c.args.self.now.storage in
    let index = c.args.chunk_indices.now in
    let part = box_of c.args.chunk_subset.now in
    let held = data_of c.args.chunk_subset_data.now in
    let lawful = c.args.self.now.layout.lawful in
    let chunk = c.in_ok-chunk.ensures in
    let chunk_is = chunk.answer.chunk.region ∙ ap (λ i. box_at layout.grid i) chunk.answer.indices in
    let region = c.in_ok-region.ensures in
    (part_cover layout lawful index part (box_of c.in_ok-chunk.chunk.region) (box_of c.in_ok-region.region) c.args.chunk_subset.now.same_length chunk_is region.answer chunk.accepted region.accepted).covered

pub store_whole-requires-clause-ask : goal.store_whole-requires-clause-ask
store_whole-requires-clause-ask g c = λ i among proper.
    let state = g.S.ReadableStorageTraits.state c.args.self.now.storage in
    subst (λ (j : List ℕ). MayAskChunk (layout_of c.args.self.now) j state) (sym (only_member c.in_ok-chunk.chunk.indices.now i among ∙ c.in_ok-chunk.ensures.answer.indices))
    (c.requires.ask c.in_ok-region.ensures.accepted)

pub returns-then-encodes_partly : goal.returns-then-encodes_partly
returns-then-encodes_partly g c =
    let layout = layout_of c.args.self.now in
    let keep = stores_empty_chunks c.args.options.now in
    let state = g.S.ReadableStorageTraits.state c.args.self.now.storage in
    let index = c.args.chunk_indices.now in
    let part = box_of c.args.chunk_subset.now in
    let held = data_of c.args.chunk_subset_data.now in
    let lawful = c.args.self.now.layout.lawful in
    let chunk = c.in_ok-chunk.ensures in
    let chunk_is = chunk.answer.chunk.region ∙ ap (λ i. box_at layout.grid i) chunk.answer.indices in
    let region = c.in_ok-region.ensures in
    let new = g.S.ReadableStorageTraits.state c.patch_chunk.new.self.storage in
    let fits = c.in_ok-check_cells.ensures in
    let lies = part_lies layout index part region.accepted in
    let is : IsEncoded layout state index = sym c.encodes_partly.ensures ∙ c.if-encodes_partly.true in
    let given = subst (λ (b : Box). HasCells layout.kind held (position_count b.shape)) (stored_at layout lawful index part (box_of c.in_ok-chunk.chunk.region) (box_of c.in_ok-region.region) c.args.chunk_subset.now.same_length chunk_is region.answer chunk.accepted region.accepted held) fits.given in
    let e = subst (λ (i : List ℕ). Writes refusal_of g.S.ReadableStorageTraits.state (PatchesChunk layout keep i part held) (LeavesPartly layout keep i part held) c.args.self.now c.patch_chunk.new.self c.patch_chunk.result) chunk.answer.indices c.patch_chunk.ensures.writes in
    record {
      done = on_ok_weaker c.patch_chunk.result (encoded_part layout lawful index part (box_of c.in_ok-chunk.chunk.region) (box_of c.in_ok-region.region) c.args.chunk_subset.now.same_length chunk_is region.answer chunk.accepted region.accepted held c.eq-whole.result c.eq-whole.ensures fits.accepted state new keep is) e.done;
      refused = each_error c.patch_chunk.result (λ (e : ArrayError). LeavesPartly layout keep index part held (refusal_of e) state new)
          (λ (e : ArrayError). RefusesEncodePart layout keep index part held (refusal_of e) state new)
          (λ e left. encoded_left layout lawful index part (box_of c.in_ok-chunk.chunk.region) (box_of c.in_ok-region.region) c.args.chunk_subset.now.same_length chunk_is region.answer chunk.accepted region.accepted held c.eq-whole.result c.eq-whole.ensures fits.accepted state new keep is lies given (refusal_of e) left)
          e.refused;
      refusing = subst (λ (i : List ℕ). state.refuses (layout.key i) ≡ true → IsErr c.patch_chunk.result) chunk.answer.indices c.patch_chunk.ensures.refusing;
      layout_kept = e.layout_kept;
    }

pub returns-in_err-stored_at : goal.returns-in_err-stored_at
returns-in_err-stored_at g c =
    let layout = layout_of c.args.self.now in
    let keep = stores_empty_chunks c.args.options.now in
    let state = g.S.ReadableStorageTraits.state c.args.self.now.storage in
    let index = c.args.chunk_indices.now in
    let part = box_of c.args.chunk_subset.now in
    let held = data_of c.args.chunk_subset_data.now in
    let lawful = c.args.self.now.layout.lawful in
    let chunk = c.in_ok-chunk.ensures in
    let chunk_is = chunk.answer.chunk.region ∙ ap (λ i. box_at layout.grid i) chunk.answer.indices in
    let region = c.in_ok-region.ensures in
    let fits = c.in_ok-check_cells.ensures in
    let long = (box_is_there layout.grid index c.requires.boxed).long in
    let r = refusal_of c.in_err-stored_at.field-0.0 in
    let of_key = key_said layout index long state r c.in_err-stored_at.ensures.refused in
    let not : IsEncoded layout state index → ⊥ = λ is. false≢true (sym c.if-encodes_partly.false ∙ c.encodes_partly.ensures ∙ is) in
    let accepted = accepted_part layout lawful index part (box_of c.in_ok-chunk.chunk.region) (box_of c.in_ok-region.region) c.args.chunk_subset.now.same_length chunk_is region.answer chunk.accepted region.accepted held c.eq-whole.result c.eq-whole.ensures fits.accepted in
    let why = key_left layout keep index part held state accepted not r of_key in
    let p = err_from_is_err_and c.from_residual-in_err-stored_at.result c.from_residual-in_err-stored_at.ensures.1 in
    rw (p.1, p.2) (record { done = tt; refused = why; refusing = λ said. refl; layout_kept = refl })

pub returns : goal.returns
returns g c =
    let layout = layout_of c.args.self.now in
    let keep = stores_empty_chunks c.args.options.now in
    let state = g.S.ReadableStorageTraits.state c.args.self.now.storage in
    let index = c.args.chunk_indices.now in
    let part = box_of c.args.chunk_subset.now in
    let held = data_of c.args.chunk_subset_data.now in
    let lawful = c.args.self.now.layout.lawful in
    let chunk = c.in_ok-chunk.ensures in
    let chunk_is = chunk.answer.chunk.region ∙ ap (λ i. box_at layout.grid i) chunk.answer.indices in
    let region = c.in_ok-region.ensures in
    let new = g.S.ReadableStorageTraits.state c.store_whole.new.self.storage in
    let fits = c.in_ok-check_cells.ensures in
    let not : IsEncoded layout state index → ⊥ = λ is. false≢true (sym c.if-encodes_partly.false ∙ c.encodes_partly.ensures ∙ is) in
    let e = subst (λ (i : List ℕ). Writes refusal_of g.S.ReadableStorageTraits.state (StoresOneMore layout keep (box_of c.in_ok-region.region) held i) (LeavesPart layout keep (box_of c.in_ok-region.region) held i) c.args.self.now c.store_whole.new.self c.store_whole.result) chunk.answer.indices c.store_whole.ensures.writes in
    let here = part_box (box_at layout.grid index) part in
    let at = stored_at layout lawful index part (box_of c.in_ok-chunk.chunk.region) (box_of c.in_ok-region.region) c.args.chunk_subset.now.same_length chunk_is region.answer chunk.accepted region.accepted held in
    let done : OnOk c.store_whole.result (StoresPart layout keep index part held state new) =
    on_ok_weaker c.store_whole.result (takes_part layout lawful index part (box_of c.in_ok-chunk.chunk.region) (box_of c.in_ok-region.region) c.args.chunk_subset.now.same_length chunk_is region.answer chunk.accepted region.accepted held c.eq-whole.result c.eq-whole.ensures keep fits.accepted fits.given state new) e.done in
    record {
      done = on_ok_weaker c.store_whole.result (encoded_whole layout lawful index part (box_of c.in_ok-chunk.chunk.region) (box_of c.in_ok-region.region) c.args.chunk_subset.now.same_length chunk_is region.answer chunk.accepted region.accepted held c.eq-whole.result c.eq-whole.ensures fits.accepted state new keep not) done;
      refused = each_error c.store_whole.result (λ (e : ArrayError). LeavesPart layout keep (box_of c.in_ok-region.region) held index (refusal_of e) state new)
          (λ (e : ArrayError). RefusesEncodePart layout keep index part held (refusal_of e) state new)
          (λ e left. whole_left layout lawful index part (box_of c.in_ok-chunk.chunk.region) (box_of c.in_ok-region.region) c.args.chunk_subset.now.same_length chunk_is region.answer chunk.accepted region.accepted held c.eq-whole.result c.eq-whole.ensures fits.accepted state new keep not (refusal_of e)
          (subst (λ (b : Box). LeavesPart layout keep b held index (refusal_of e) state new) at left))
          e.refused;
      refusing = λ said. elim c.if-whole.branch [
        | then-whole+in_ok-stored_at+in-None-1 w ↦ absurd (false≢true (w.in_ok-stored_at.ensures.refusing said))
        | then-whole+in_ok-stored_at+in-Some+in-None-1 w ↦ absurd (false≢true (w.in_ok-stored_at.ensures.refusing said))
        | then-whole+in_ok-stored_at+in-Some+in-Some-branch-6 w ↦ absurd (false≢true (w.in_ok-stored_at.ensures.refusing said))
        | else-whole w ↦
            (subst (λ (i : List ℕ). IsPart layout (box_of c.in_ok-region.region) i → state.refuses (layout.key i) ≡ true → IsErr c.store_whole.result) chunk.answer.indices c.store_whole.ensures.refusing)
            (is_part layout lawful index part (box_of c.in_ok-chunk.chunk.region) (box_of c.in_ok-region.region) c.args.chunk_subset.now.same_length chunk_is region.answer chunk.accepted region.accepted
            (λ same. false≢true (sym w.if-whole.false ∙ c.eq-whole.ensures.1 same))) said
      ];
      layout_kept = e.layout_kept;
    }
