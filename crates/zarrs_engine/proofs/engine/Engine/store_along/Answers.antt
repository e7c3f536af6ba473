use Rattle.std.proofs.Common.{◌≡◌, ◌∙◌, ◌+◌, [], ◌∷◌, true, None, Some, slice_get, length, refl, rules, sym, ap, subst, arith}
use Rattle.std.proofs.lemmas.Option.{slice_get_within}
use Rattle.std.proofs.lemmas.Result.{err_from_is_err_and}
use Rattle.zarrs_subset.specs.Boxes.{position_count}
use Rattle.zarrs_subset.specs.Regions.{Box, box_of, positions}
use Rattle.zarrs_subset.specs.Walks.{walk_number}
use Rattle.zarrs_chunk_grid.specs.Grids.{box_at, has_box}
use Rattle.zarrs_data_type.specs.ArrayData.{data_of}
use Rattle.zarrs_data_type_bytes.proofs.Cells.{HasCells-cells}
use Rattle.zarrs_codec_chain.specs.Options.{stores_empty_chunks}
use Rattle.zarrs_engine_calls.specs.Patches.{PatchesAll}
use Rattle.zarrs_engine_calls.specs.Reach.{MayAskParts}
use Rattle.zarrs_engine_calls.specs.Refusals.{refusal_of}
use Rattle.zarrs_engine.specs.Engine.{layout_of}
use Rattle.zarrs_engine_layout.specs.Layouts.{layout_meaning}
use Rattle.zarrs_engine.specs.PartStores.{TakesItself}
use Rattle.zarrs_engine.specs.Patches.{HasPatched, LeavesPatch, Shares}
use Rattle.zarrs_engine.specs.RegionWrites.{HasStored, LeavesPart, StoresOneMore}
use Rattle.zarrs_engine.proofs.PatchedRegions.{patched_all, patched_ask, patched_fails, patched_more, patched_none, patched_short}
use Rattle.zarrs_engine.proofs.RegionFronts.{stored_all, stored_fails, stored_more, stored_none, stored_short}
use Rattle.zarrs_engine.proofs.RegionSteps.{at_among}
use Rattle.zarrs_engine.proofs.engine.Engine.store_along.Goals as goal

pub returns-in_err-walk : goal.returns-in_err-walk
returns-in_err-walk g c =
    let layout = layout_of c.args.self.now in
    let keep = stores_empty_chunks c.args.options.now in
    let region = box_of c.args.region.now in
    let held = data_of c.args.region_data.now in
    let state = g.S.ReadableStorageTraits.state c.args.self.now.storage in
    let why = stored_short layout keep region held (positions (box_of c.args.chunks.now)) None state in
    let partly = patched_short layout c.args.self.now.layout.lawful keep (TakesItself layout c.args.parts region) region held (box_of c.args.chunks.now) c.args.chunks.now.same_length None state in
    search (rules, why, partly)

pub loop-walk-init : goal.loop-walk-init
loop-walk-init g c =
    let layout = layout_of c.args.self.now in
    let keep = stores_empty_chunks c.args.options.now in
    let region = box_of c.args.region.now in
    let held = data_of c.args.region_data.now in
    let chunks = positions (box_of c.args.chunks.now) in
    let state = g.S.ReadableStorageTraits.state c.args.self.now.storage in
    let itself = TakesItself layout c.args.parts region in
    let found = HasCells-cells layout.kind held (position_count region.shape) c.requires.given in
    let whole = stored_none layout keep region held chunks found.0 state found.1 found.2 in
    let partly = patched_none layout c.args.self.now.layout.lawful keep itself region held (box_of c.args.chunks.now) c.args.chunks.now.same_length found.0 state found.1 found.2 in
    search (rules, whole, partly)

pub store_part-requires-clause-supported : goal.store_part-requires-clause-supported
store_part-requires-clause-supported g c = λ is.
    subst (λ own. (layout_meaning own).chain.encodes_partly ≡ true) (sym c.loop-walk.invariant.layout_kept) (c.requires.supported is)

pub store_part-requires-clause-boxed : goal.store_part-requires-clause-boxed
store_part-requires-clause-boxed g c =
    let i = c.loop-walk.invariant in
    let layout = layout_of c.args.self.now in
    let keep = stores_empty_chunks c.args.options.now in
    let region = box_of c.args.region.now in
    let held = data_of c.args.region_data.now in
    let chunks = positions (box_of c.args.chunks.now) in
    let parts = c.args.parts in
    let itself = TakesItself layout parts region in
    let lawful = c.args.self.now.layout.lawful in
    let long = c.args.chunks.now.same_length in
    let n = walk_number c.loop-walk.walk in
    let index = c.current-chunk.result.now in
    let at = subst (λ (b : Box). slice_get (positions b) n ≡ Some index) i.same_box c.current-chunk.ensures in
    let old = g.S.ReadableStorageTraits.state c.args.self.now.storage in
    let mid = g.S.ReadableStorageTraits.state c.loop-walk.self.storage in
    ap (λ own. has_box (g.G.ChunkGridTraits.grid own.grid) index) i.layout_kept ∙ c.requires.cover.boxed index (at_among chunks n index at)

pub store_part-requires-clause-meets : goal.store_part-requires-clause-meets
store_part-requires-clause-meets g c = λ is.
    let i = c.loop-walk.invariant in
    let layout = layout_of c.args.self.now in
    let keep = stores_empty_chunks c.args.options.now in
    let region = box_of c.args.region.now in
    let held = data_of c.args.region_data.now in
    let chunks = positions (box_of c.args.chunks.now) in
    let parts = c.args.parts in
    let itself = TakesItself layout parts region in
    let lawful = c.args.self.now.layout.lawful in
    let long = c.args.chunks.now.same_length in
    let n = walk_number c.loop-walk.walk in
    let index = c.current-chunk.result.now in
    let at = subst (λ (b : Box). slice_get (positions b) n ≡ Some index) i.same_box c.current-chunk.ensures in
    let old = g.S.ReadableStorageTraits.state c.args.self.now.storage in
    let mid = g.S.ReadableStorageTraits.state c.loop-walk.self.storage in
    subst (λ own. Shares region (box_at (layout_meaning own).grid index)) (sym i.layout_kept) (c.requires.meets is index (at_among chunks n index at))

pub store_part-requires-clause-ask : goal.store_part-requires-clause-ask
store_part-requires-clause-ask g c =
    let i = c.loop-walk.invariant in
    let layout = layout_of c.args.self.now in
    let keep = stores_empty_chunks c.args.options.now in
    let region = box_of c.args.region.now in
    let held = data_of c.args.region_data.now in
    let chunks = positions (box_of c.args.chunks.now) in
    let parts = c.args.parts in
    let itself = TakesItself layout parts region in
    let lawful = c.args.self.now.layout.lawful in
    let long = c.args.chunks.now.same_length in
    let n = walk_number c.loop-walk.walk in
    let index = c.current-chunk.result.now in
    let at = subst (λ (b : Box). slice_get (positions b) n ≡ Some index) i.same_box c.current-chunk.ensures in
    let old = g.S.ReadableStorageTraits.state c.args.self.now.storage in
    let mid = g.S.ReadableStorageTraits.state c.loop-walk.self.storage in
    let ask = patched_ask layout lawful keep itself region held (box_of c.args.chunks.now) long c.requires.cover old mid c.requires.ask n index at i.patched in
    subst (λ own. MayAskParts (layout_meaning own) region (index ∷ []) mid) (sym i.layout_kept) ask

pub returns-in_err-store_part : goal.returns-in_err-store_part
returns-in_err-store_part g c =
    let i = c.loop-walk.invariant in
    let layout = layout_of c.args.self.now in
    let keep = stores_empty_chunks c.args.options.now in
    let region = box_of c.args.region.now in
    let held = data_of c.args.region_data.now in
    let chunks = positions (box_of c.args.chunks.now) in
    let parts = c.args.parts in
    let itself = TakesItself layout parts region in
    let lawful = c.args.self.now.layout.lawful in
    let long = c.args.chunks.now.same_length in
    let n = walk_number c.loop-walk.walk in
    let index = c.current-chunk.result.now in
    let at = subst (λ (b : Box). slice_get (positions b) n ≡ Some index) i.same_box c.current-chunk.ensures in
    let old = g.S.ReadableStorageTraits.state c.args.self.now.storage in
    let mid = g.S.ReadableStorageTraits.state c.loop-walk.self.storage in
    let new = g.S.ReadableStorageTraits.state c.store_part.new.self.storage in
    let r = refusal_of c.in_err-store_part.field-0.0 in
    let e = c.in_err-store_part.ensures in
    let left = subst (λ own. LeavesPatch (layout_meaning own) keep (TakesItself (layout_meaning own) parts region) region held index r mid new) i.layout_kept e.partly.refused in
    let partly = patched_fails layout lawful keep itself region held (box_of c.args.chunks.now) long None n index r old mid new refl i.patched at left in
    let kept = e.partly.layout_kept ∙ i.layout_kept in
    let p = err_from_is_err_and c.from_residual-in_err-store_part.result c.from_residual-in_err-store_part.ensures.1 in
    rw (p.1, p.2) (record {
      whole = λ off.
          let gone = subst (λ own. LeavesPart (layout_meaning own) keep region held index r mid new) i.layout_kept (e.whole off).refused in
          record { done = tt; refused = stored_fails layout keep region held chunks None n index r old mid new refl (i.stored off) at gone; layout_kept = kept };
      partly = record { done = tt; refused = partly; layout_kept = kept };
    })

pub returns-then-not-advance : goal.returns-then-not-advance
returns-then-not-advance g c =
    let i = c.loop-walk.invariant in
    let layout = layout_of c.args.self.now in
    let keep = stores_empty_chunks c.args.options.now in
    let region = box_of c.args.region.now in
    let held = data_of c.args.region_data.now in
    let chunks = positions (box_of c.args.chunks.now) in
    let parts = c.args.parts in
    let itself = TakesItself layout parts region in
    let lawful = c.args.self.now.layout.lawful in
    let long = c.args.chunks.now.same_length in
    let n = walk_number c.loop-walk.walk in
    let index = c.current-chunk.result.now in
    let at = subst (λ (b : Box). slice_get (positions b) n ≡ Some index) i.same_box c.current-chunk.ensures in
    let old = g.S.ReadableStorageTraits.state c.args.self.now.storage in
    let mid = g.S.ReadableStorageTraits.state c.loop-walk.self.storage in
    let new = g.S.ReadableStorageTraits.state c.store_part.new.self.storage in
    let e = c.in_ok-store_part.ensures in
    let one = subst (λ own. PatchesAll (layout_meaning own) keep (TakesItself (layout_meaning own) parts region) region held (index ∷ []) mid new) i.layout_kept e.partly.done in
    let more = patched_more layout lawful keep itself region held (box_of c.args.chunks.now) long n index old mid new i.patched at one in
    let last = subst (λ (b : Box). n + 1 ≡ length (positions b)) i.same_box c.if-not-advance.ensures.last in
    let kept = e.partly.layout_kept ∙ i.layout_kept in
    record {
      whole = λ off.
          let put = subst (λ own. StoresOneMore (layout_meaning own) keep region held index mid new) i.layout_kept (e.whole off).done in
          let stored = stored_more layout keep region held chunks lawful n index old mid new (i.stored off) at put in
          record { done = stored_all layout keep region held chunks (n + 1) old new last c.requires.cover.listed stored; refused = tt; layout_kept = kept };
      partly = record { done = patched_all layout lawful keep itself region held (box_of c.args.chunks.now) long (n + 1) old new last more; refused = tt; layout_kept = kept };
    }

pub loop-walk-smaller : goal.loop-walk-smaller
loop-walk-smaller g c =
    let i = c.loop-walk.invariant in
    let layout = layout_of c.args.self.now in
    let keep = stores_empty_chunks c.args.options.now in
    let region = box_of c.args.region.now in
    let held = data_of c.args.region_data.now in
    let chunks = positions (box_of c.args.chunks.now) in
    let parts = c.args.parts in
    let itself = TakesItself layout parts region in
    let lawful = c.args.self.now.layout.lawful in
    let long = c.args.chunks.now.same_length in
    let n = walk_number c.loop-walk.walk in
    let index = c.current-chunk.result.now in
    let at = subst (λ (b : Box). slice_get (positions b) n ≡ Some index) i.same_box c.current-chunk.ensures in
    let old = g.S.ReadableStorageTraits.state c.args.self.now.storage in
    let mid = g.S.ReadableStorageTraits.state c.loop-walk.self.storage in
    let here = slice_get_within chunks n index at in
    let next = c.if-not-advance.ensures.next in
    omega arith

pub loop-walk-preserved : goal.loop-walk-preserved
loop-walk-preserved g c =
    let i = c.loop-walk.invariant in
    let layout = layout_of c.args.self.now in
    let keep = stores_empty_chunks c.args.options.now in
    let region = box_of c.args.region.now in
    let held = data_of c.args.region_data.now in
    let chunks = positions (box_of c.args.chunks.now) in
    let parts = c.args.parts in
    let itself = TakesItself layout parts region in
    let lawful = c.args.self.now.layout.lawful in
    let long = c.args.chunks.now.same_length in
    let n = walk_number c.loop-walk.walk in
    let index = c.current-chunk.result.now in
    let at = subst (λ (b : Box). slice_get (positions b) n ≡ Some index) i.same_box c.current-chunk.ensures in
    let old = g.S.ReadableStorageTraits.state c.args.self.now.storage in
    let mid = g.S.ReadableStorageTraits.state c.loop-walk.self.storage in
    let new = g.S.ReadableStorageTraits.state c.store_part.new.self.storage in
    let e = c.in_ok-store_part.ensures in
    let one = subst (λ own. PatchesAll (layout_meaning own) keep (TakesItself (layout_meaning own) parts region) region held (index ∷ []) mid new) i.layout_kept e.partly.done in
    let more = patched_more layout lawful keep itself region held (box_of c.args.chunks.now) long n index old mid new i.patched at one in
    record {
      same_box = c.if-not-advance.ensures.same_box ∙ i.same_box;
      stored = λ off.
          let put = subst (λ own. StoresOneMore (layout_meaning own) keep region held index mid new) i.layout_kept (e.whole off).done in
          let stored = stored_more layout keep region held chunks lawful n index old mid new (i.stored off) at put in
          subst (λ m. HasStored layout keep region held chunks m old new) (sym c.if-not-advance.ensures.next) stored;
      patched = subst (λ m. HasPatched layout keep itself region held chunks m old new) (sym c.if-not-advance.ensures.next) more;
      layout_kept = e.partly.layout_kept ∙ i.layout_kept;
    }
