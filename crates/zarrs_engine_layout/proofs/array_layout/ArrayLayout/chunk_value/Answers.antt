use Rattle.std.proofs.Common.{◌≡◌, ◌∙◌, ap, sym, subst, rules}
use Rattle.std.specs.Option.{option_or}
use Rattle.zarrs_subset.specs.Boxes.{position_count}
use Rattle.zarrs_subset.specs.Regions.{box_at_origin}
use Rattle.zarrs_data_type.specs.ArrayData.{data_of}
use Rattle.zarrs_codec_chain.specs.Options.{stores_empty_chunks}
use Rattle.zarrs_chunk_grid.specs.Grids.{box_at}
use Rattle.zarrs_data_type.specs.Cells.{HasCells, cells}
use Rattle.zarrs_engine_calls.specs.Refusals.{RefusesBy, box_refusal, data_refusal, refusal_of}
use Rattle.zarrs_engine_calls.proofs.RefusalLemmas.{refused_first, refused_second, refuses_said}
use Rattle.zarrs_engine_layout.specs.Layouts.{layout_meaning}
use Rattle.zarrs_engine_layout.proofs.Chunks.{value_moved}
use Rattle.zarrs_engine_layout.proofs.array_layout.ArrayLayout.chunk_value.Goals as goal

pub returns-in_err-chunk : goal.returns-in_err-chunk
returns-in_err-chunk g c =
    let layout = layout_meaning c.args.self.now in
    let keep = stores_empty_chunks c.args.options.now in
    let index = c.args.chunk_indices.now in
    let unfit = data_refusal layout keep (box_at layout.grid index).shape (cells layout.kind (data_of c.args.chunk_data.now)) in
    let r = refusal_of c.in_err-chunk.field-0.0 in
    let why : RefusesBy (option_or (box_refusal layout index) unfit) r = refused_first (box_refusal layout index) unfit r c.in_err-chunk.ensures.refused in
    search (rules, why)

pub returns-in_err-check_count : goal.returns-in_err-check_count
returns-in_err-check_count g c =
    let layout = layout_meaning c.args.self.now in
    let keep = stores_empty_chunks c.args.options.now in
    let index = c.args.chunk_indices.now in
    let shape = (box_at layout.grid index).shape in
    let unfit = data_refusal layout keep shape (cells layout.kind (data_of c.args.chunk_data.now)) in
    let r = refusal_of c.in_err-check_count.field-0.0 in
    let count : position_count shape ≡ c.in_ok-chunk.chunk.count = sym (ap position_count c.in_ok-chunk.ensures.answer) ∙ sym c.in_ok-chunk.chunk.counted in
    let why : RefusesBy (option_or (box_refusal layout index) unfit) r =
    refused_second (box_refusal layout index) unfit r c.in_ok-chunk.ensures.accepted (refuses_said unfit r (c.in_err-check_count.ensures.refused keep shape count)) in
    search (rules, why)

pub value_of-requires : goal.value_of-requires
value_of-requires g c =
    let layout = layout_meaning c.args.self.now in
    subst (HasCells layout.kind (data_of c.args.chunk_data.now)) (c.in_ok-chunk.chunk.counted ∙ sym (ap position_count c.as_slice.ensures)) c.in_ok-check_count.ensures.cells

pub returns : goal.returns
returns g c =
    let layout = layout_meaning c.args.self.now in
    let keep = stores_empty_chunks c.args.options.now in
    let index = c.args.chunk_indices.now in
    value_moved layout keep (box_refusal layout index) (box_at_origin c.as_slice.result.now) (box_at layout.grid index) (data_of c.args.chunk_data.now) c.value_of.result
    (c.as_slice.ensures ∙ c.in_ok-chunk.ensures.answer) c.in_ok-chunk.ensures.accepted c.value_of.ensures
