use Rattle.std.proofs.Common.{◌≡◌, ◌∙◌, None, length, rules, sym, ap, subst}
use Rattle.std.proofs.lemmas.Bool.{OnFalse_at, OnTrue_at}
use Rattle.std.proofs.lemmas.Option.{IfSome_then}
use Rattle.std.proofs.lemmas.Result.{IfErr-weaker, IfOk-weaker}
use Rattle.zarrs_subset.specs.Boxes.{position_count}
use Rattle.zarrs_subset.specs.Regions.{Box, IsLong, LiesInShape, box_of, overlap_of}
use Rattle.zarrs_chunk_grid.specs.Grids.{box_at}
use Rattle.zarrs_chunk_grid.proofs.Chunks.{box_dimensions}
use Rattle.zarrs_data_type.specs.ArrayData.{data_of}
use Rattle.zarrs_data_type.specs.Cells.{HasCells}
use Rattle.zarrs_data_type_bytes.proofs.Cells.{HasCells-some}
use Rattle.zarrs_data_type.specs.Parts.{TakesCells}
use Rattle.zarrs_engine_calls.specs.ArgumentRefusals.{size_refusal}
use Rattle.zarrs_engine_calls.specs.Reach.{MayDecodePart}
use Rattle.zarrs_engine_calls.specs.Refusals.{refusal_of}
use Rattle.zarrs_engine.specs.Engine.{layout_of}
use Rattle.zarrs_engine.proofs.PartBytes.{box_why, smaller_fits}
use Rattle.zarrs_engine.proofs.RegionReads.{none_then, own_shared, read_absent, read_apart, read_part}
use Rattle.zarrs_engine.proofs.engine.Engine.shared_part.Goals as goal

pub returns-in_err-extents : goal.returns-in_err-extents
returns-in_err-extents g c =
    let layout = layout_of c.args.self.now in
    let state = g.S.ReadableStorageTraits.state c.args.self.now.storage in
    let region = box_of c.args.region.now in
    let index = c.args.chunk_indices.now in
    let why = box_why layout region index state c.requires.boxed (refusal_of c.in_err-extents.field-0.0) c.in_err-extents.ensures.refused in
    search (rules, why)

pub returns-then-not-branch : goal.returns-then-not-branch
returns-then-not-branch g c =
    let layout = layout_of c.args.self.now in
    let state = g.S.ReadableStorageTraits.state c.args.self.now.storage in
    let region = box_of c.args.region.now in
    let index = c.args.chunk_indices.now in
    let apart = OnFalse_at c.if-not-branch.true c.in_ok-find.ensures.none in
    record { none = λ held. read_apart layout c.args.self.now.layout.lawful region index state c.requires.boxed held apart; some = tt; refused = tt }

pub part_of_chunk-requires-clause-shape : goal.part_of_chunk-requires-clause-shape
part_of_chunk-requires-clause-shape g c = c.as_slice.ensures ∙ c.in_ok-extents.ensures.answer

pub part_of_chunk-requires-clause-part : goal.part_of_chunk-requires-clause-part
part_of_chunk-requires-clause-part g c =
    let shared = OnTrue_at c.if-not-branch.false c.in_ok-find.ensures.part in
    subst (LiesInShape (box_of c.find.new.self.part)) (sym (c.as_slice.ensures ∙ c.in_ok-extents.ensures.answer)) shared.lies

pub part_of_chunk-requires-clause-size : goal.part_of_chunk-requires-clause-size
part_of_chunk-requires-clause-size g c =
    let layout = layout_of c.args.self.now in
    let state = g.S.ReadableStorageTraits.state c.args.self.now.storage in
    let region = box_of c.args.region.now in
    let index = c.args.chunk_indices.now in
    let shared = OnTrue_at c.if-not-branch.false c.in_ok-find.ensures.part in
    let fits = smaller_fits layout (overlap_of region (box_at layout.grid index)).shape region.shape shared.few c.requires.size in
    subst (λ (b : Box). size_refusal layout b.shape ≡ None) (sym shared.part_is) fits

pub part_of_chunk-requires-clause-ask : goal.part_of_chunk-requires-clause-ask
part_of_chunk-requires-clause-ask g c =
    let layout = layout_of c.args.self.now in
    let state = g.S.ReadableStorageTraits.state c.args.self.now.storage in
    let region = box_of c.args.region.now in
    let index = c.args.chunk_indices.now in
    let shared = OnTrue_at c.if-not-branch.false c.in_ok-find.ensures.part in
    subst (λ (b : Box). MayDecodePart layout b index state) (sym shared.part_is) c.requires.ask

pub returns : goal.returns
returns g c =
    let layout = layout_of c.args.self.now in
    let state = g.S.ReadableStorageTraits.state c.args.self.now.storage in
    let region = box_of c.args.region.now in
    let index = c.args.chunk_indices.now in
    let lawful = c.args.self.now.layout.lawful in
    let chunk = box_at layout.grid index in
    let over = overlap_of region chunk in
    let shared = OnTrue_at c.if-not-branch.false c.in_ok-find.ensures.part in
    let is = OnTrue_at c.if-not-branch.false c.in_ok-find.ensures.own in
    let own = own_shared region chunk (box_of c.find.new.self.own) is in
    let long = subst (λ (b : Box). IsLong b) own c.find.new.self.own.same_length in
    let same = c.requires.dimensions ∙ sym (box_dimensions layout.grid index) in
    let found = c.part_of_chunk.result in
    record {
      none = IfOk-weaker found _ _ (λ cut absent. none_then cut (λ none held. read_absent layout lawful region index state c.requires.boxed held none) absent) c.part_of_chunk.ensures.absent;
      some =
          IfOk-weaker found _ _
          (λ cut some. IfSome_then cut some
          (λ made d. record {
            dimensions = sym (ap (λ (b : Box). length b.start) own ∙ is.shared.in_region.same_length);
            has =
                subst (λ (b : Box). HasCells layout.kind (data_of made) (position_count b.shape)) (sym own)
                (subst (HasCells layout.kind (data_of made)) (d.decodes.count ∙ ap (λ (b : Box). position_count b.shape) shared.part_is) (HasCells-some layout.kind (data_of made) d.decodes.given d.decodes.are_cells));
            reads = λ old new takes.
                read_part layout lawful region index state c.requires.boxed c.args.region.now.same_length same over (box_of c.find.new.self.part) long shared
                c.requires.part old (data_of made) new d (subst (λ (b : Box). TakesCells layout.kind region b (data_of made) old new) own takes);
          }))
          c.part_of_chunk.ensures.part;
      refused = IfErr-weaker found _ _ (λ e why. why region c.requires.part shared.part_is) c.part_of_chunk.ensures.refused;
    }
