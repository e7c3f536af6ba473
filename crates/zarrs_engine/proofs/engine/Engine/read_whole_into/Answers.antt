use Rattle.std.proofs.Common.{◌≡◌, ◌∙◌, ℕ, List, None, Some, ap, refl, sym, subst, rules}
use Rattle.std.proofs.lemmas.Bool.{OnFalse_at, OnTrue_at}
use Rattle.zarrs_subset.specs.Regions.{Box, box_of, overlap_of}
use Rattle.zarrs_chunk_grid.specs.Grids.{box_at}
use Rattle.zarrs_chunk_grid.proofs.Chunks.{box_long}
use Rattle.zarrs_data_type.specs.States.{data_of_target, parent_box, target_box}
use Rattle.zarrs_data_type_region.proofs.Kept.{keeps_itself}
use Rattle.zarrs_data_type_region.proofs.TargetBoxes.{lies_at_origin, origin_long}
use Rattle.zarrs_codec_chain.specs.Parts.{DecodesInto}
use Rattle.zarrs_codec_chain.specs.PartRefusals.{RefusesIntoDecoding}
use Rattle.zarrs_codec_chain.proofs.MovedBoxes.{overlap_inside}
use Rattle.zarrs_engine_calls.specs.Content.{decoded_cells}
use Rattle.zarrs_engine_calls.specs.Refusals.{refusal_of}
use Rattle.zarrs_engine_layout.specs.Shared.{IsSharedIn}
use Rattle.zarrs_engine_layout.proofs.RegionRefusals.{some_key}
use Rattle.zarrs_engine.specs.Engine.{layout_of}
use Rattle.zarrs_engine.specs.TargetReads.{HasPositions}
use Rattle.zarrs_engine.proofs.IntoReads.{into_why, same_takes}
use Rattle.zarrs_engine.proofs.LentParts.{IsTakenBack, back_kept, back_reads, made_lies}
use Rattle.zarrs_engine.proofs.TargetReads.{decoded_positions, into_apart}
use Rattle.zarrs_engine.proofs.engine.Engine.read_whole_into.Goals as goal

pub returns-in_err-encoded : goal.returns-in_err-encoded
returns-in_err-encoded g c =
    let layout = layout_of c.args.self.now in
    let state = g.S.ReadableStorageTraits.state c.args.self.now.storage in
    let why = some_key layout (box_of c.args.region.now) c.args.chunk_indices.now state c.requires.boxed (refusal_of c.in_err-encoded.field-0.0) c.in_err-encoded.ensures.refused in
    let kept = keeps_itself c.args.target.now in
    search (rules, why, kept)

pub read_absent_into-requires-clause-absent : goal.read_absent_into-requires-clause-absent
read_absent_into-requires-clause-absent g c = sym c.in_ok-encoded.ensures.value ∙ c.in_default.is

pub returns-in_err-find : goal.returns-in_err-find
returns-in_err-find g c =
    let kept = keeps_itself c.args.target.now in
    search (rules, kept)

pub returns-then-not-branch : goal.returns-then-not-branch
returns-then-not-branch g c =
    let layout = layout_of c.args.self.now in
    let state = g.S.ReadableStorageTraits.state c.args.self.now.storage in
    let t = c.args.target.now in
    let apart = OnFalse_at c.if-not-branch.true c.in_ok-find.ensures.none in
    let read =
    into_apart layout c.args.self.now.layout.lawful (box_of c.args.region.now) state (parent_box t) (target_box t) c.args.filled c.args.chunk_indices.now c.requires.boxed (data_of_target t) apart in
    record { kept = keeps_itself t; read = read; refused = tt }

pub subdivide-part-requires : goal.subdivide-part-requires
subdivide-part-requires g c =
    let layout = layout_of c.args.self.now in
    let t = c.args.target.now in
    let index = c.args.chunk_indices.now in
    let is : IsSharedIn (target_box t) (box_of c.args.region.now) (box_at layout.grid index) (box_of c.find.new.self.own) = OnTrue_at c.if-not-branch.false c.in_ok-find.ensures.own in
    record {
      inside =
          made_lies (target_box t) (box_of c.args.region.now) (box_at layout.grid index) (box_of c.find.new.self.own) t.region.now.same_length c.args.region.now.same_length (box_long layout.grid index)
          c.requires.target.same_shape is;
    }

pub decode_into-done-requires : goal.decode_into-done-requires
decode_into-done-requires g c =
    let p = c.subdivide-part.result.target in
    let same = c.subdivide-part.ensures.bytes in
    record { takes = same_takes c.args.target.now p (layout_of c.args.self.now).kind same.cell_size same.depth c.requires.target.takes }

pub returns-in_err-done : goal.returns-in_err-done
returns-in_err-done g c =
    let layout = layout_of c.args.self.now in
    let lawful = c.args.self.now.layout.lawful in
    let state = g.S.ReadableStorageTraits.state c.args.self.now.storage in
    let index = c.args.chunk_indices.now in
    let region = box_of c.args.region.now in
    let chunk = box_at layout.grid index in
    let over = overlap_of region chunk in
    let t = c.args.target.now in
    let l = c.subdivide-part.new.self in
    let p = c.subdivide-part.result.target in
    let q = c.decode_into-done.new.target in
    let u = c.rejoin.new.self in
    let lent = c.subdivide-part.ensures in
    let written = c.decode_into-done.ensures in
    let made = box_of c.find.new.self.own in
    let lends : IsTakenBack made t l p q u = record { bytes = lent.bytes; masks = lent.masks; lent = lent.lent; kept = written.kept; back = c.rejoin.ensures } in
    let is : IsSharedIn (target_box t) region chunk made = OnTrue_at c.if-not-branch.false c.in_ok-find.ensures.own in
    let made_is : target_box p ≡ made = lent.bytes.region in
    let region_long = c.args.region.now.same_length in
    let chunk_long = box_long layout.grid index in
    let encoded = c.deref.result.now in
    let e = c.in_err-done.field-0.0 in
    let stands = sym (ap Some c.deref.ensures ∙ sym c.in-Some.is ∙ c.in_ok-encoded.ensures.value) in
    let whole : over ≡ chunk = overlap_inside region chunk region_long chunk_long c.requires.covers in
    let shape : (target_box p).shape ≡ chunk.shape = ap (λ (b : Box). b.shape) (made_is ∙ is.made_is) ∙ ap (λ (b : Box). b.shape) whole in
    let refused = rw c.in_err-done.was at written.refused in
    let said = subst (λ (s : List ℕ). RefusesIntoDecoding (layout.chain.decoded layout.kind layout.fill s encoded) e) shape refused in
    let why = into_why layout region index state encoded e stands said in
    let kept = back_kept made t l p q u lends region chunk region_long chunk_long c.requires.target.same_shape is in
    search (rules, why, kept)

pub returns : goal.returns
returns g c =
    let layout = layout_of c.args.self.now in
    let lawful = c.args.self.now.layout.lawful in
    let state = g.S.ReadableStorageTraits.state c.args.self.now.storage in
    let index = c.args.chunk_indices.now in
    let region = box_of c.args.region.now in
    let chunk = box_at layout.grid index in
    let over = overlap_of region chunk in
    let t = c.args.target.now in
    let l = c.subdivide-part.new.self in
    let p = c.subdivide-part.result.target in
    let q = c.decode_into-done.new.target in
    let u = c.rejoin.new.self in
    let lent = c.subdivide-part.ensures in
    let written = c.decode_into-done.ensures in
    let made = box_of c.find.new.self.own in
    let lends : IsTakenBack made t l p q u = record { bytes = lent.bytes; masks = lent.masks; lent = lent.lent; kept = written.kept; back = c.rejoin.ensures } in
    let is : IsSharedIn (target_box t) region chunk made = OnTrue_at c.if-not-branch.false c.in_ok-find.ensures.own in
    let made_is : target_box p ≡ made = lent.bytes.region in
    let region_long = c.args.region.now.same_length in
    let chunk_long = box_long layout.grid index in
    let encoded = c.deref.result.now in
    let stands = sym (ap Some c.deref.ensures ∙ sym c.in-Some.is ∙ c.in_ok-encoded.ensures.value) in
    let whole : over ≡ chunk = overlap_inside region chunk region_long chunk_long c.requires.covers in
    let shape : (target_box p).shape ≡ chunk.shape = ap (λ (b : Box). b.shape) (made_is ∙ is.made_is) ∙ ap (λ (b : Box). b.shape) whole in
    let got = rw c.in_ok-done.was at written.cells in
    let cells = subst (λ (s : List ℕ). DecodesInto layout.kind (parent_box p) (target_box p) (layout.chain.decoded layout.kind layout.fill s encoded) (data_of_target q)) shape got in
    let has = decoded_positions layout lawful state (parent_box p) (target_box p) (origin_long p.parent_shape.now) p.region.now.same_length
    (lies_at_origin (target_box p) p.parent_shape.now p.whole.inside) index c.requires.boxed encoded (data_of_target q) shape stands cells in
    let read = subst (λ (b : Box). HasPositions layout b state (parent_box p) (target_box p) (data_of_target q)) (sym whole) has in
    let read =
    back_reads made t l p q u lends region chunk region_long chunk_long c.requires.target.same_shape is
    layout lawful state c.args.filled index c.requires.boxed refl c.requires.target.takes read
    (λ covers broken.
    let one : Some broken.encoded ≡ Some encoded = sym broken.stands ∙ stands in
    let same : broken.encoded ≡ encoded = cc in
    let undecoded = subst (λ (v : List ℕ). decoded_cells layout chunk v ≡ None) same broken.undecoded in
    let clash : None ≡ Some cells.whole = sym undecoded ∙ cells.decoded_is in
    cc) in
    record { kept = back_kept made t l p q u lends region chunk region_long chunk_long c.requires.target.same_shape is; read = read; refused = tt }
