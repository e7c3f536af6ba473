use Rattle.std.proofs.Common.{◌≡◌, ◌∙◌, Some, ap, arith, length, replicate, rules, slice_index, subst, sym}
use Rattle.zarrs_subset.specs.Regions.{Box, box_of}
use Rattle.zarrs_data_type.specs.ArrayData.{data_of}
use Rattle.zarrs_data_type.specs.Cells.{HasCells, cells}
use Rattle.zarrs_data_type.specs.Parts.{TakesCells}
use Rattle.zarrs_subset.specs.Boxes.{position_count}
use Rattle.std.proofs.lemmas.List.{length-set}
use Rattle.zarrs_data_type_bytes.proofs.Cells.{HasCells-some}
use Rattle.zarrs_engine_calls.specs.Refusals.{RefusesBy, refusal_of}
use Rattle.zarrs_engine_layout.specs.Steps.{filled_refusal}
use Rattle.zarrs_engine.specs.Engine.{layout_of}
use Rattle.zarrs_engine.proofs.Beyond.{filling_fails, filling_made, none_past}
use Rattle.zarrs_engine.proofs.Cuts.{filled_cells}
use Rattle.zarrs_engine.proofs.engine.Engine.fill_beyond.Goals as goal

pub returns-in_default-clause-filled : goal.returns-in_default-clause-filled
returns-in_default-clause-filled g c =
    let layout = layout_of c.args.self.now in
    let state = g.S.ReadableStorageTraits.state c.args.self.now.storage in
    let box = box_of c.args.chunk.now in
    let shape = c.args.shape.now in
    let top = rw c.in_default.is at c.in_ok-gone.ensures in
    none_past layout box shape c.args.axis state (data_of c.args.held) c.args.chunk.now.same_length (omega (arith, c.requires.dimensions)) top c.requires.held

pub returns-in_err-filled-clause-refused : goal.returns-in_err-filled-clause-refused
returns-in_err-filled-clause-refused g c =
    let layout = layout_of c.args.self.now in
    let state = g.S.ReadableStorageTraits.state c.args.self.now.storage in
    let box = box_of c.args.chunk.now in
    let shape = c.args.shape.now in
    let is = rw c.in-Some.is at c.in_ok-gone.ensures in
    let said = subst (λ (b : Box). RefusesBy (filled_refusal layout b.shape) (refusal_of c.in_err-filled.field-0.0)) is.1 c.in_err-filled.ensures.refused in
    let why = filling_fails box shape c.args.axis c.args.chunk.now.same_length c.requires.dimensions c.requires.axis c.requires.begins is.0 layout state c.requires.fit (refusal_of c.in_err-filled.field-0.0) said in
    search (rules, why)

pub update_array_bytes-requires-clause-dimensions : goal.update_array_bytes-requires-clause-dimensions
update_array_bytes-requires-clause-dimensions g c =
    let box = box_of c.args.chunk.now in
    let is = rw c.in-Some.is at c.in_ok-gone.ensures in
    sym (ap (λ (b : Box). length b.start) is.1 ∙ length-set box.start c.args.axis (slice_index c.args.shape.now c.args.axis))

pub update_array_bytes-requires-clause-held : goal.update_array_bytes-requires-clause-held
update_array_bytes-requires-clause-held g c =
    let layout = layout_of c.args.self.now in
    let held = data_of c.args.held in
    let h = c.requires.held in
    subst (HasCells layout.kind held) h.count (HasCells-some layout.kind held h.chunk h.is_chunk)

pub update_array_bytes-requires-clause-part : goal.update_array_bytes-requires-clause-part
update_array_bytes-requires-clause-part g c =
    filled_cells (layout_of c.args.self.now) (box_of c.in-Some.gone) (data_of c.in_ok-filled.filled) c.in_ok-filled.ensures.answer

pub returns-clause-filled : goal.returns-clause-filled
returns-clause-filled g c =
    let layout = layout_of c.args.self.now in
    let state = g.S.ReadableStorageTraits.state c.args.self.now.storage in
    let box = box_of c.args.chunk.now in
    let shape = c.args.shape.now in
    let held = data_of c.args.held in
    let filled = data_of c.in_ok-filled.filled in
    let made = data_of c.in_ok-made.made in
    let is = rw c.in-Some.is at c.in_ok-gone.ensures in
    let f = subst (λ (b : Box). cells layout.kind filled ≡ Some (replicate (position_count b.shape) layout.fill)) is.1 c.in_ok-filled.ensures.answer in
    let t = subst (λ (b : Box). TakesCells layout.kind box b filled held made) is.1 c.in_ok-made.ensures in
    filling_made box shape c.args.axis c.args.chunk.now.same_length c.requires.dimensions c.requires.axis c.requires.begins is.0 layout state held filled made c.requires.held f t
