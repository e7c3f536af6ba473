use Rattle.std.proofs.Common.{◌≡◌, ◌∙◌, ◌<◌, true, false, length, Ok, None, option_map, ap, inl, refl, rules, slice_index, subst, sym, arith}
use Rattle.zarrs_subset.specs.Boxes.{position_count}
use Rattle.zarrs_subset.specs.Regions.{Box, box_at_origin, box_of}
use Rattle.zarrs_chunk_grid.specs.Grids.{box_at}
use Rattle.zarrs_chunk_grid.proofs.Chunks.{box_dimensions}
use Rattle.zarrs_data_type.specs.ArrayData.{data_of}
use Rattle.zarrs_data_type.specs.Cells.{HasCells, cells}
use Rattle.zarrs_data_type_bytes.proofs.Cells.{HasCells-some}
use Rattle.zarrs_codec_chain.specs.Options.{stores_empty_chunks}
use Rattle.zarrs_engine_calls.specs.Refusals.{RefusesBy, data_refusal, is_too_large, refusal_of, size_overflow}
use Rattle.zarrs_engine_calls.proofs.Below.{below_along}
use Rattle.zarrs_engine_layout.proofs.Chunks.{value_moved}
use Rattle.zarrs_engine.specs.Engine.{layout_of}
use Rattle.zarrs_engine.specs.Resizes.{HasFilled, RefusesFilling}
use Rattle.zarrs_engine.proofs.Beyond.{cut_filled, filling_cut, first_filled}
use Rattle.zarrs_engine.proofs.Cuts.{chain_fails, cut_value_is, read_fails, refuses_kept, value_kept}
use Rattle.zarrs_engine.proofs.engine.Engine.cut_value.Goals as goal

pub returns-in_default : goal.returns-in_default
returns-in_default g c =
    let layout = layout_of c.args.self.now in
    let keep = stores_empty_chunks c.args.options.now in
    let state = g.S.ReadableStorageTraits.state c.args.self.now.storage in
    let same = c.shape-extents.ensures ∙ ap (λ (b : Box). b.shape) c.requires.chunk.region in
    let large = subst (λ s. is_too_large layout s ≡ true) same c.in_default.ensures.large in
    record { value = tt; refused = refuses_kept layout keep c.args.shape.now c.args.chunk.now.indices.now state c.requires.chunk.boxed c.requires.kept size_overflow (refl, inl large) }

pub returns-in_err-made : goal.returns-in_err-made
returns-in_err-made g c =
    let layout = layout_of c.args.self.now in
    let keep = stores_empty_chunks c.args.options.now in
    let state = g.S.ReadableStorageTraits.state c.args.self.now.storage in
    let shape = c.args.shape.now in
    let index = c.args.chunk.now.indices.now in
    let same = c.shape-extents.ensures ∙ ap (λ (b : Box). b.shape) c.requires.chunk.region in
    let fit = subst (λ s. is_too_large layout s ≡ false) same c.in-Some.ensures.small in
    let r = refusal_of c.in_err-made.field-0.0 in
    let why = refuses_kept layout keep shape index state c.requires.chunk.boxed c.requires.kept r
    (read_fails layout keep shape index state c.requires.chunk.boxed fit c.args.self.now.layout.lawful r c.in_err-made.ensures.refused) in
    search (rules, why)

pub fill_beyond-requires-clause-fit : goal.fill_beyond-requires-clause-fit
fill_beyond-requires-clause-fit g c = subst (λ s. is_too_large (layout_of c.args.self.now) s ≡ false) c.shape-extents.ensures c.in-Some.ensures.small

pub fill_beyond-requires-clause-dimensions : goal.fill_beyond-requires-clause-dimensions
fill_beyond-requires-clause-dimensions g c =
    let layout = layout_of c.args.self.now in
    c.requires.dimensions ∙ sym (ap (λ (b : Box). length b.start) c.requires.chunk.region ∙ box_dimensions layout.grid c.args.chunk.now.indices.now)

pub fill_beyond-requires-clause-begins : goal.fill_beyond-requires-clause-begins
fill_beyond-requires-clause-begins g c =
    let shape = c.args.shape.now in
    let axis = c.loop-axis.axis in
    let low = (below_along shape (box_at (layout_of c.args.self.now).grid c.args.chunk.now.indices.now).start c.requires.kept).below axis (omega arith) in
    subst (λ (b : Box). slice_index b.start axis < slice_index shape axis) (sym c.requires.chunk.region) low

pub returns-in_err-made-2 : goal.returns-in_err-made-2
returns-in_err-made-2 g c =
    let layout = layout_of c.args.self.now in
    let keep = stores_empty_chunks c.args.options.now in
    let state = g.S.ReadableStorageTraits.state c.args.self.now.storage in
    let shape = c.args.shape.now in
    let index = c.args.chunk.now.indices.now in
    let r = refusal_of c.in_err-made-2.field-0.0 in
    let why = refuses_kept layout keep shape index state c.requires.chunk.boxed c.requires.kept r
    (filling_cut layout keep shape index state r (subst (λ (b : Box). RefusesFilling layout shape b r) c.requires.chunk.region c.in_err-made-2.ensures.refused)) in
    search (rules, why)

pub loop-axis-init : goal.loop-axis-init
loop-axis-init g c =
    let layout = layout_of c.args.self.now in
    let state = g.S.ReadableStorageTraits.state c.args.self.now.storage in
    let held = data_of c.in_ok-made.made in
    subst (λ (b : Box). HasFilled layout c.args.shape.now b state 0 held) (sym c.requires.chunk.region)
    (first_filled layout c.args.shape.now c.args.chunk.now.indices.now state held c.in_ok-made.ensures.cells)

pub value_of_owned-requires : goal.value_of_owned-requires
value_of_owned-requires g c =
    let layout = layout_of c.args.self.now in
    let state = g.S.ReadableStorageTraits.state c.args.self.now.storage in
    let made = data_of c.loop-axis.made in
    let cut = cut_filled layout c.args.shape.now c.args.chunk.now.indices.now state (box_of c.args.chunk.now.region) made c.loop-axis.axis c.requires.chunk.region (omega arith) c.requires.dimensions c.loop-axis.invariant in
    let same = c.shape-extents.ensures ∙ ap (λ (b : Box). b.shape) c.requires.chunk.region in
    let count : length cut.chunk ≡ position_count c.shape-extents.result.now = cut.cut.count ∙ ap position_count (sym same) in
    subst (HasCells layout.kind made) count (HasCells-some layout.kind made cut.chunk cut.is_chunk)

pub returns-in_err-value : goal.returns-in_err-value
returns-in_err-value g c =
    let layout = layout_of c.args.self.now in
    let keep = stores_empty_chunks c.args.options.now in
    let state = g.S.ReadableStorageTraits.state c.args.self.now.storage in
    let shape = c.args.shape.now in
    let index = c.args.chunk.now.indices.now in
    let made = data_of c.loop-axis.made in
    let cut = cut_filled layout shape index state (box_of c.args.chunk.now.region) made c.loop-axis.axis c.requires.chunk.region (omega arith) c.requires.dimensions c.loop-axis.invariant in
    let same = c.shape-extents.ensures ∙ ap (λ (b : Box). b.shape) c.requires.chunk.region in
    let fit = subst (λ s. is_too_large layout s ≡ false) same c.in-Some.ensures.small in
    let r = refusal_of c.in_err-value.field-0.0 in
    let said = subst (λ s. RefusesBy (data_refusal layout keep s (cells layout.kind made)) r) same c.in_err-value.ensures.refused in
    let why = refuses_kept layout keep shape index state c.requires.chunk.boxed c.requires.kept r (chain_fails layout keep shape index state c.requires.chunk.boxed fit made cut r said) in
    search (rules, why)

pub returns : goal.returns
returns g c =
    let layout = layout_of c.args.self.now in
    let keep = stores_empty_chunks c.args.options.now in
    let state = g.S.ReadableStorageTraits.state c.args.self.now.storage in
    let shape = c.args.shape.now in
    let index = c.args.chunk.now.indices.now in
    let made = data_of c.loop-axis.made in
    let cut = cut_filled layout shape index state (box_of c.args.chunk.now.region) made c.loop-axis.axis c.requires.chunk.region (omega arith) c.requires.dimensions c.loop-axis.invariant in
    let same = c.shape-extents.ensures ∙ ap (λ (b : Box). b.shape) c.requires.chunk.region in
    let fit = subst (λ s. is_too_large layout s ≡ false) same c.in-Some.ensures.small in
    let value = option_map (λ v. v.items) c.in_ok-value.value in
    let v = value_moved layout keep None (box_at_origin c.shape-extents.result.now) (box_at layout.grid index) made (Ok c.in_ok-value.value) same refl c.in_ok-value.ensures in
    record {
      value = value_kept layout keep shape index state c.requires.chunk.boxed c.requires.kept value (cut_value_is layout keep shape index state c.requires.chunk.boxed fit made value cut v.accepted v.answer);
      refused = tt;
    }
