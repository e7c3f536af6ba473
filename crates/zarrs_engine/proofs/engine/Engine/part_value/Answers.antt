use Rattle.std.proofs.Common.{◌≡◌, ◌∙◌, true, false, length, None, refl, rules, ap, inl, subst, sym}
use Rattle.std.proofs.lemmas.Bool.{false≢true}
use Rattle.zarrs_subset.specs.Boxes.{position_count}
use Rattle.zarrs_subset.specs.Regions.{Box, box_at_origin, box_of}
use Rattle.zarrs_chunk_grid.specs.Grids.{box_at}
use Rattle.zarrs_data_type.specs.ArrayData.{data_of}
use Rattle.zarrs_data_type.specs.Cells.{HasCells}
use Rattle.zarrs_data_type_bytes.proofs.Cells.{HasCells-some}
use Rattle.zarrs_codec_chain.specs.Options.{stores_empty_chunks}
use Rattle.zarrs_engine_calls.specs.ChunkBoxes.{CoversBox}
use Rattle.zarrs_engine_calls.specs.Refusals.{is_too_large}
use Rattle.zarrs_engine_layout.proofs.Chunks.{value_moved}
use Rattle.zarrs_engine.specs.Engine.{layout_of}
use Rattle.zarrs_engine.proofs.PartWrites.{updated_same}
use Rattle.zarrs_engine.proofs.RegionFronts.{part_value_made}
use Rattle.zarrs_engine.proofs.engine.Engine.part_value.Goals as goal

pub returns-in_default-clause-makes : goal.returns-in_default-clause-makes
returns-in_default-clause-makes g c =
    let same = c.shape-shape.ensures ∙ ap (λ (b : Box). b.shape) c.requires.chunk.region in
    record { value = tt; fit = tt; refused = (refl, inl (subst (λ s. is_too_large (layout_of c.args.self.now) s ≡ true) same c.in_default.ensures.large)) }

-- the region is the chunk
pub value_of-requires : goal.value_of-requires
value_of-requires g c =
    let same = c.shape-shape.ensures ∙ ap (λ (b : Box). b.shape) (c.eq.ensures.0 c.if-eq.true) in
    subst (λ s. HasCells (layout_of c.args.self.now).kind (data_of c.args.region_data.now) (position_count s)) (sym same) c.requires.given

pub returns-then-eq-clause-makes : goal.returns-then-eq-clause-makes
returns-then-eq-clause-makes g c =
    let layout = layout_of c.args.self.now in
    let keep = stores_empty_chunks c.args.options.now in
    let region = box_of c.args.region.now in
    let held = data_of c.args.region_data.now in
    let index = c.args.chunk.now.indices.now in
    let state = g.S.ReadableStorageTraits.state c.args.self.now.storage in
    let is = sym (c.eq.ensures.0 c.if-eq.true) ∙ c.requires.chunk.region in
    let same = c.shape-shape.ensures ∙ ap (λ (b : Box). b.shape) c.requires.chunk.region in
    let fit = subst (λ s. is_too_large layout s ≡ false) same c.in-Some.ensures.small in
    part_value_made layout keep region held index fit held state (updated_same layout region held index state is c.requires.given) c.value_of.result
    (value_moved layout keep None (box_at_origin c.shape-shape.result.now) (box_at layout.grid index) held c.value_of.result same refl c.value_of.ensures)

pub returns-in_err-data-clause-makes : goal.returns-in_err-data-clause-makes
returns-in_err-data-clause-makes g c =
    let why = c.in_err-data.ensures.refused (stores_empty_chunks c.args.options.now) in
    search (rules, why)

-- another region
pub updated_chunk-requires-clause-fit : goal.updated_chunk-requires-clause-fit
updated_chunk-requires-clause-fit g c = subst (λ s. is_too_large (layout_of c.args.self.now) s ≡ false) c.shape-shape.ensures c.in-Some.ensures.small

pub value_of_owned-requires : goal.value_of_owned-requires
value_of_owned-requires g c =
    let layout = layout_of c.args.self.now in
    let made = data_of c.in_ok-data.data in
    let u = c.in_ok-data.ensures.updated in
    let same = c.shape-shape.ensures ∙ ap (λ (b : Box). b.shape) c.requires.chunk.region in
    let count : length u.chunk ≡ position_count c.shape-shape.result.now = u.updated.count ∙ ap position_count (sym same) in
    subst (HasCells layout.kind made) count (HasCells-some layout.kind made u.chunk u.is_chunk)

pub returns-clause-makes : goal.returns-clause-makes
returns-clause-makes g c =
    let layout = layout_of c.args.self.now in
    let keep = stores_empty_chunks c.args.options.now in
    let index = c.args.chunk.now.indices.now in
    let state = g.S.ReadableStorageTraits.state c.args.self.now.storage in
    let made = data_of c.in_ok-data.data in
    let same = c.shape-shape.ensures ∙ ap (λ (b : Box). b.shape) c.requires.chunk.region in
    let fit = subst (λ s. is_too_large layout s ≡ false) same c.in-Some.ensures.small in
    part_value_made layout keep (box_of c.args.region.now) (data_of c.args.region_data.now) index fit made state c.in_ok-data.ensures.updated c.value_of_owned.result
    (value_moved layout keep None (box_at_origin c.shape-shape.result.now) (box_at layout.grid index) made c.value_of_owned.result same refl c.value_of_owned.ensures)

-- the region does not cover the chunk, which is read
pub returns-then-eq-clause-refusing : goal.returns-then-eq-clause-refusing
returns-then-eq-clause-refusing g c = λ part said.
    let box = box_at (layout_of c.args.self.now).grid c.args.chunk.now.indices.now in
    let is = sym (c.eq.ensures.0 c.if-eq.true) ∙ c.requires.chunk.region in
    let covers : CoversBox box box = λ position holds. holds in
    absurd (part (subst (λ (b : Box). CoversBox b box) (sym is) covers))

pub returns-clause-refusing : goal.returns-clause-refusing
returns-clause-refusing g c = λ part said. absurd (false≢true (c.in_ok-data.ensures.refusing part said))
