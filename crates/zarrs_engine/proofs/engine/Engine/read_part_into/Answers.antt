use Rattle.std.proofs.Common.{◌≡◌, ◌∙◌, ℕ, List, [], ◌∷◌, true, Some, ap, refl, sym, subst, rules}
use Rattle.std.proofs.lemmas.Result.{IfErr-weaker, on_ok_weaker}
use Rattle.std.proofs.lemmas.Bool.{OnFalse_at, OnTrue_at}
use Rattle.zarrs_subset.specs.Regions.{Box, LiesInShape, box_of, overlap_of}
use Rattle.zarrs_chunk_grid.specs.Grids.{box_at}
use Rattle.zarrs_chunk_grid.proofs.Chunks.{box_long}
use Rattle.zarrs_storage.specs.Store.{StoreState}
use Rattle.zarrs_data_type.specs.States.{data_of_target, parent_box, target_box}
use Rattle.zarrs_data_type_region.proofs.Kept.{keeps_itself}
use Rattle.zarrs_data_type_region.proofs.TargetBoxes.{lies_at_origin, origin_long}
use Rattle.zarrs_codec_chain.specs.Parts.{DecodesPartAt}
use Rattle.zarrs_codec_leaf.specs.Stored.{key_of_source, state_of_source, value_or_empty}
use Rattle.zarrs_engine_calls.specs.Content.{value_at}
use Rattle.zarrs_engine_calls.specs.Errors.{error_of_storage}
use Rattle.zarrs_engine_calls.specs.Refusals.{refusal_of}
use Rattle.zarrs_engine_calls.specs.StateRefusals.{RefusesSomeChunk}
use Rattle.zarrs_engine_calls.proofs.Contents.{index_list}
use Rattle.zarrs_engine_layout.specs.Shared.{IsSharedIn}
use Rattle.zarrs_engine_layout.specs.Steps.{RefusesPartBytes}
use Rattle.zarrs_engine.specs.Engine.{layout_of}
use Rattle.zarrs_engine.proofs.IntoReads.{same_takes}
use Rattle.zarrs_engine.proofs.LentParts.{IsTakenBack, back_kept, back_reads, made_lies}
use Rattle.zarrs_engine.proofs.PartBytes.{box_why, key_why, part_why, source_value}
use Rattle.zarrs_engine.proofs.TargetReads.{into_apart, part_positions}
use Rattle.zarrs_engine.proofs.engine.Engine.read_part_into.Goals as goal

pub returns-in_err-key : goal.returns-in_err-key
returns-in_err-key g c =
    let kept = keeps_itself c.args.target.now in
    search (rules, kept)

pub open-requires : goal.open-requires
open-requires g c =
    let layout = layout_of c.args.self.now in
    let state = g.S.ReadableStorageTraits.state c.args.self.now.storage in
    let region = box_of c.args.region.now in
    let index = c.args.chunk_indices.now in
    let chunk = box_at layout.grid index in
    let words = index_list layout c.args.self.now.layout.lawful index c.requires.boxed in
    subst (λ (key : List ℕ). state.may_ask key ≡ true) (sym c.in_ok-key.ensures.key) (c.requires.ask.key words)

pub returns-in_err-source : goal.returns-in_err-source
returns-in_err-source g c =
    let layout = layout_of c.args.self.now in
    let state = g.S.ReadableStorageTraits.state c.args.self.now.storage in
    let region = box_of c.args.region.now in
    let index = c.args.chunk_indices.now in
    let chunk = box_at layout.grid index in
    let e = c.in_err-source.field-0.0 in
    let why : RefusesSomeChunk layout region (index ∷ []) state (refusal_of (error_of_storage e)) = key_why layout region index state c.requires.boxed _ e c.in_ok-key.ensures.key c.in_err-source.ensures.refused in
    let kept = keeps_itself c.args.target.now in
    search (rules, why, kept)

pub read_absent_into-requires-clause-absent : goal.read_absent_into-requires-clause-absent
read_absent_into-requires-clause-absent g c =
    let layout = layout_of c.args.self.now in
    let state = g.S.ReadableStorageTraits.state c.args.self.now.storage in
    let region = box_of c.args.region.now in
    let index = c.args.chunk_indices.now in
    let chunk = box_at layout.grid index in
    ap (value_at state) (sym c.in_ok-key.ensures.key) ∙ (rw c.in_default.is at c.in_ok-source.ensures.absent)

pub returns-in_err-extents : goal.returns-in_err-extents
returns-in_err-extents g c =
    let layout = layout_of c.args.self.now in
    let state = g.S.ReadableStorageTraits.state c.args.self.now.storage in
    let region = box_of c.args.region.now in
    let index = c.args.chunk_indices.now in
    let chunk = box_at layout.grid index in
    let why = box_why layout region index state c.requires.boxed (refusal_of c.in_err-extents.field-0.0) c.in_err-extents.ensures.refused in
    let kept = keeps_itself c.args.target.now in
    search (rules, why, kept)

pub returns-in_err-find : goal.returns-in_err-find
returns-in_err-find g c =
    let kept = keeps_itself c.args.target.now in
    search (rules, kept)

pub returns-then-not-branch : goal.returns-then-not-branch
returns-then-not-branch g c =
    let layout = layout_of c.args.self.now in
    let state = g.S.ReadableStorageTraits.state c.args.self.now.storage in
    let t = c.args.target.now in
    let apart = OnFalse_at c.if-not-branch.true c.in_ok-find.ensures.none in
    let read =
    into_apart layout c.args.self.now.layout.lawful (box_of c.args.region.now) state (parent_box t) (target_box t) c.args.filled c.args.chunk_indices.now c.requires.boxed (data_of_target t) apart in
    record { kept = keeps_itself t; read = read; refused = tt }

pub subdivide-lent-requires : goal.subdivide-lent-requires
subdivide-lent-requires g c =
    let layout = layout_of c.args.self.now in
    let t = c.args.target.now in
    let index = c.args.chunk_indices.now in
    let is : IsSharedIn (target_box t) (box_of c.args.region.now) (box_at layout.grid index) (box_of c.find.new.self.own) = OnTrue_at c.if-not-branch.false c.in_ok-find.ensures.own in
    record {
      inside =
          made_lies (target_box t) (box_of c.args.region.now) (box_at layout.grid index) (box_of c.find.new.self.own) t.region.now.same_length c.args.region.now.same_length (box_long layout.grid index)
          c.requires.target.same_shape is;
    }

pub decode_part_into-done-requires-clause-takes : goal.decode_part_into-done-requires-clause-takes
decode_part_into-done-requires-clause-takes g c =
    let p = c.subdivide-lent.result.target in
    let same = c.subdivide-lent.ensures.bytes in
    same_takes c.args.target.now p (layout_of c.args.self.now).kind same.cell_size same.depth c.requires.target.takes

pub decode_part_into-done-requires-clause-part : goal.decode_part_into-done-requires-clause-part
decode_part_into-done-requires-clause-part g c =
    let layout = layout_of c.args.self.now in
    let state = g.S.ReadableStorageTraits.state c.args.self.now.storage in
    let region = box_of c.args.region.now in
    let index = c.args.chunk_indices.now in
    let chunk = box_at layout.grid index in
    let shared = OnTrue_at c.if-not-branch.false c.in_ok-find.ensures.part in
    subst (λ (s : List ℕ). LiesInShape (box_of c.find.new.self.part) s) (sym (c.as_slice-shape.ensures ∙ c.in_ok-extents.ensures.answer)) shared.lies

pub decode_part_into-done-requires-clause-may_read : goal.decode_part_into-done-requires-clause-may_read
decode_part_into-done-requires-clause-may_read g c = λ place needed.
    let layout = layout_of c.args.self.now in
    let state = g.S.ReadableStorageTraits.state c.args.self.now.storage in
    let region = box_of c.args.region.now in
    let index = c.args.chunk_indices.now in
    let chunk = box_at layout.grid index in
    let source = c.in-Some.source in
    let state_is : state_of_source source ≡ state = rw c.in-Some.is at c.in_ok-source.ensures.state in
    let key_is : key_of_source source ≡ layout.key index = (rw c.in-Some.is at c.in_ok-source.ensures.key) ∙ c.in_ok-key.ensures.key in
    let found = source_value (state_of_source source) state (key_of_source source) (layout.key index) source.size state_is key_is source.sized in
    let part = box_of c.find.new.self.part in
    let shared = OnTrue_at c.if-not-branch.false c.in_ok-find.ensures.part in
    let shape : c.as_slice-shape.result.now ≡ chunk.shape = c.as_slice-shape.ensures ∙ c.in_ok-extents.ensures.answer in
    let words = index_list layout c.args.self.now.layout.lawful index c.requires.boxed in
    let there = subst (λ (b : Box). layout.chain.places layout.kind chunk.shape b found.0 place ≡ true) shared.part_is
    (subst (λ (s : List ℕ). layout.chain.places layout.kind s part found.0 place ≡ true) shape
    (subst (λ (v : List ℕ). layout.chain.places layout.kind c.as_slice-shape.result.now part v place ≡ true) found.2 needed)) in
    let may = c.requires.ask.places words found.0 place found.1 there in
    subst (λ (s : StoreState). s.may_read (key_of_source source) place ≡ true) (sym state_is)
    (subst (λ (key : List ℕ). state.may_read key place ≡ true) (sym key_is) may)

pub decode_part_into-done-requires-clause-same_shape : goal.decode_part_into-done-requires-clause-same_shape
decode_part_into-done-requires-clause-same_shape g c =
    let layout = layout_of c.args.self.now in
    let state = g.S.ReadableStorageTraits.state c.args.self.now.storage in
    let region = box_of c.args.region.now in
    let index = c.args.chunk_indices.now in
    let chunk = box_at layout.grid index in
    let t = c.args.target.now in
    let shared = OnTrue_at c.if-not-branch.false c.in_ok-find.ensures.part in
    let is = OnTrue_at c.if-not-branch.false c.in_ok-find.ensures.own in
    ap (λ (b : Box). b.shape) (c.subdivide-lent.ensures.bytes.region ∙ is.made_is) ∙ sym (ap (λ (b : Box). b.shape) shared.part_is)

pub returns : goal.returns
returns g c =
    let layout = layout_of c.args.self.now in
    let lawful = c.args.self.now.layout.lawful in
    let state = g.S.ReadableStorageTraits.state c.args.self.now.storage in
    let index = c.args.chunk_indices.now in
    let region = box_of c.args.region.now in
    let chunk = box_at layout.grid index in
    let over = overlap_of region chunk in
    let t = c.args.target.now in
    let l = c.subdivide-lent.new.self in
    let p = c.subdivide-lent.result.target in
    let q = c.decode_part_into-done.new.target in
    let u = c.rejoin.new.self in
    let lent = c.subdivide-lent.ensures in
    let written = c.decode_part_into-done.ensures in
    let made = box_of c.find.new.self.own in
    let lends : IsTakenBack made t l p q u = record { bytes = lent.bytes; masks = lent.masks; lent = lent.lent; kept = written.kept; back = c.rejoin.ensures } in
    let is : IsSharedIn (target_box t) region chunk made = OnTrue_at c.if-not-branch.false c.in_ok-find.ensures.own in
    let made_is : target_box p ≡ made = lent.bytes.region in
    let region_long = c.args.region.now.same_length in
    let chunk_long = box_long layout.grid index in
    let source = c.in-Some.source in
    let state_is : state_of_source source ≡ state = rw c.in-Some.is at c.in_ok-source.ensures.state in
    let key_is : key_of_source source ≡ layout.key index = (rw c.in-Some.is at c.in_ok-source.ensures.key) ∙ c.in_ok-key.ensures.key in
    let found = source_value (state_of_source source) state (key_of_source source) (layout.key index) source.size state_is key_is source.sized in
    let part = box_of c.find.new.self.part in
    let shared = OnTrue_at c.if-not-branch.false c.in_ok-find.ensures.part in
    let shape : c.as_slice-shape.result.now ≡ chunk.shape = c.as_slice-shape.ensures ∙ c.in_ok-extents.ensures.answer in
    let bytes = value_or_empty (state_of_source source) (key_of_source source) in
    let same : (state_of_source source).refuses (key_of_source source) ≡ state.refuses (layout.key index) =
    ap (λ (s : StoreState). s.refuses (key_of_source source)) state_is ∙ ap state.refuses key_is in
    record {
      kept = back_kept made t l p q u lends region chunk region_long chunk_long c.requires.target.same_shape is;
      read =
          on_ok_weaker c.decode_part_into-done.result
          (λ decodes.
          let cells = subst (λ (s : List ℕ). DecodesPartAt layout.kind s part (layout.chain.decoded layout.kind layout.fill s bytes) (parent_box p) (target_box p) (data_of_target q)) shape decodes in
          let read = part_positions layout lawful state (parent_box p) (target_box p) (origin_long p.parent_shape.now) p.region.now.same_length
          (lies_at_origin (target_box p) p.parent_shape.now p.whole.inside) index c.requires.boxed region over part bytes (data_of_target q) region_long shared
          (ap (λ (b : Box). b.shape) (made_is ∙ is.made_is)) (found.1 ∙ ap Some (sym found.2)) cells in
          back_reads made t l p q u lends region chunk region_long chunk_long c.requires.target.same_shape is
          layout lawful state c.args.filled index c.requires.boxed refl c.requires.target.takes read (λ covers broken. c.requires.part covers))
          written.cells;
      refused =
          IfErr-weaker c.decode_part_into-done.result _ _
          (λ e why.
          part_why layout region index state c.requires.boxed c.requires.part part shared.part_is bytes ((state_of_source source).refuses (key_of_source source)) chunk refl same (found.1 ∙ ap Some (sym found.2)) (refusal_of e)
          (subst (λ (s : List ℕ). RefusesPartBytes layout (record { start = chunk.start; shape = s }) part bytes ((state_of_source source).refuses (key_of_source source)) (refusal_of e)) shape why))
          written.refused;
    }
