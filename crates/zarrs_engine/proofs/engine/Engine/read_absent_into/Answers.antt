use Rattle.std.proofs.Common.{◌≡◌, ◌∙◌, None, Some, ap, refl, rules, sym}
use Rattle.std.proofs.lemmas.Bool.{OnFalse_at, OnTrue_at}
use Rattle.zarrs_subset.specs.Regions.{Box, box_of, overlap_of, seen_from}
use Rattle.zarrs_subset.proofs.Inside.{holds_inside}
use Rattle.zarrs_chunk_grid.specs.Grids.{box_at}
use Rattle.zarrs_chunk_grid.proofs.Chunks.{box_long}
use Rattle.zarrs_data_type.specs.States.{data_of_target, parent_box, target_box}
use Rattle.zarrs_data_type_region.proofs.Kept.{keeps_itself}
use Rattle.zarrs_data_type_region.proofs.TargetBoxes.{lies_at_origin, origin_long}
use Rattle.zarrs_engine_calls.specs.Content.{value_at}
use Rattle.zarrs_engine_calls.proofs.Contents.{absent_fill}
use Rattle.zarrs_engine_layout.specs.Shared.{IsSharedIn}
use Rattle.zarrs_engine.specs.Engine.{layout_of}
use Rattle.zarrs_engine.specs.TargetReads.{HasPositions}
use Rattle.zarrs_engine.proofs.IntoReads.{same_takes}
use Rattle.zarrs_engine.proofs.LentParts.{IsTakenBack, back_kept, back_reads, made_lies}
use Rattle.zarrs_engine.proofs.TargetReads.{filled_positions, into_absent, into_apart, is_long}
use Rattle.zarrs_engine.proofs.engine.Engine.read_absent_into.Goals as goal

pub returns-then-filled : goal.returns-then-filled
returns-then-filled g c =
    let layout = layout_of c.args.self.now in
    let state = g.S.ReadableStorageTraits.state c.args.self.now.storage in
    let t = c.args.target.now in
    let read =
    into_absent layout c.args.self.now.layout.lawful (box_of c.args.region.now) state (parent_box t) (target_box t) c.args.filled c.args.chunk_indices.now c.requires.boxed (data_of_target t) c.if-filled.true c.requires.absent in
    record { kept = keeps_itself t; read = read; refused = tt }

pub returns-in_err-find : goal.returns-in_err-find
returns-in_err-find g c =
    let kept = keeps_itself c.args.target.now in
    search (rules, kept)

pub returns-then-not-branch : goal.returns-then-not-branch
returns-then-not-branch g c =
    let layout = layout_of c.args.self.now in
    let state = g.S.ReadableStorageTraits.state c.args.self.now.storage in
    let t = c.args.target.now in
    let apart = OnFalse_at c.if-not-branch.true c.in_ok-find.ensures.none in
    let read =
    into_apart layout c.args.self.now.layout.lawful (box_of c.args.region.now) state (parent_box t) (target_box t) c.args.filled c.args.chunk_indices.now c.requires.boxed (data_of_target t) apart in
    record { kept = keeps_itself t; read = read; refused = tt }

pub subdivide-part-requires : goal.subdivide-part-requires
subdivide-part-requires g c =
    let layout = layout_of c.args.self.now in
    let t = c.args.target.now in
    let index = c.args.chunk_indices.now in
    let is : IsSharedIn (target_box t) (box_of c.args.region.now) (box_at layout.grid index) (box_of c.find.new.self.own) = OnTrue_at c.if-not-branch.false c.in_ok-find.ensures.own in
    record {
      inside =
          made_lies (target_box t) (box_of c.args.region.now) (box_at layout.grid index) (box_of c.find.new.self.own) t.region.now.same_length c.args.region.now.same_length (box_long layout.grid index)
          c.requires.target.same_shape is;
    }

pub copy_fill_value_into-done-requires-clause-takes : goal.copy_fill_value_into-done-requires-clause-takes
copy_fill_value_into-done-requires-clause-takes g c =
    let p = c.subdivide-part.result.target in
    let same = c.subdivide-part.ensures.bytes in
    same_takes c.args.target.now p (layout_of c.args.self.now).kind same.cell_size same.depth c.requires.target.takes

pub returns : goal.returns
returns g c =
    let layout = layout_of c.args.self.now in
    let lawful = c.args.self.now.layout.lawful in
    let state = g.S.ReadableStorageTraits.state c.args.self.now.storage in
    let index = c.args.chunk_indices.now in
    let region = box_of c.args.region.now in
    let chunk = box_at layout.grid index in
    let over = overlap_of region chunk in
    let t = c.args.target.now in
    let l = c.subdivide-part.new.self in
    let p = c.subdivide-part.result.target in
    let q = c.copy_fill_value_into-done.new.target in
    let u = c.rejoin.new.self in
    let lent = c.subdivide-part.ensures in
    let written = c.copy_fill_value_into-done.ensures in
    let made = box_of c.find.new.self.own in
    let lends : IsTakenBack made t l p q u = record { bytes = lent.bytes; masks = lent.masks; lent = lent.lent; kept = written.kept; back = c.rejoin.ensures } in
    let is : IsSharedIn (target_box t) region chunk made = OnTrue_at c.if-not-branch.false c.in_ok-find.ensures.own in
    let made_is : target_box p ≡ made = lent.bytes.region in
    let region_long = c.args.region.now.same_length in
    let chunk_long = box_long layout.grid index in
    let over_long = is_long region chunk over (seen_from over chunk.start) region_long chunk_long is.shared in
    let fills = rw c.in_ok-done.was at written.fills in
    let read : HasPositions layout over state (parent_box p) (target_box p) (data_of_target q) =
    filled_positions layout lawful state (parent_box p) (target_box p) (origin_long p.parent_shape.now) p.region.now.same_length
    (lies_at_origin (target_box p) p.parent_shape.now p.whole.inside) over (data_of_target p) (data_of_target q) over_long (ap (λ (b : Box). b.shape) (made_is ∙ is.made_is))
    (λ position holds.
    absent_fill layout (value_at state) lawful index c.requires.boxed c.requires.absent position (holds_inside over chunk position over_long chunk_long is.shared.in_chunk holds))
    fills in
    let read =
    back_reads made t l p q u lends region chunk region_long chunk_long c.requires.target.same_shape is
    layout lawful state c.args.filled index c.requires.boxed refl c.requires.target.takes read
    (λ covers broken. let clash : None ≡ Some broken.encoded = sym c.requires.absent ∙ broken.stands in cc) in
    record { kept = back_kept made t l p q u lends region chunk region_long chunk_long c.requires.target.same_shape is; read = read; refused = tt }

pub returns-in_err-done : goal.returns-in_err-done
returns-in_err-done g c =
    let layout = layout_of c.args.self.now in
    let index = c.args.chunk_indices.now in
    let t = c.args.target.now in
    let lent = c.subdivide-part.ensures in
    let made = box_of c.find.new.self.own in
    let chunk = box_at layout.grid index in
    let is : IsSharedIn (target_box t) (box_of c.args.region.now) chunk made = OnTrue_at c.if-not-branch.false c.in_ok-find.ensures.own in
    let kept = back_kept made t c.subdivide-part.new.self c.subdivide-part.result.target c.copy_fill_value_into-done.new.target c.rejoin.new.self
    (record { bytes = lent.bytes; masks = lent.masks; lent = lent.lent; kept = c.copy_fill_value_into-done.ensures.kept; back = c.rejoin.ensures }) (box_of c.args.region.now) chunk c.args.region.now.same_length
    (box_long layout.grid index) c.requires.target.same_shape is in
    search (rules, kept)
