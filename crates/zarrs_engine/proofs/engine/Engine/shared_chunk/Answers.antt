use Rattle.std.proofs.Common.{◌∙◌, Some, length, rules, sym, ap, subst}
use Rattle.std.proofs.lemmas.Bool.{OnFalse_at, OnTrue_at}
use Rattle.zarrs_subset.specs.Boxes.{position_count}
use Rattle.zarrs_subset.specs.Regions.{Box, box_of}
use Rattle.zarrs_chunk_grid.specs.Grids.{box_at}
use Rattle.zarrs_chunk_grid.proofs.Chunks.{box_long}
use Rattle.zarrs_data_type.specs.ArrayData.{data_of}
use Rattle.zarrs_data_type.specs.Cells.{cells, HasCells}
use Rattle.zarrs_data_type_bytes.proofs.Cells.{HasCells-some}
use Rattle.zarrs_data_type.specs.Parts.{TakesCells}
use Rattle.zarrs_codec_chain.proofs.MovedBoxes.{overlap_inside}
use Rattle.zarrs_engine_calls.specs.Refusals.{refusal_of}
use Rattle.zarrs_engine_layout.proofs.Chunks.{retrieved}
use Rattle.zarrs_engine_layout.proofs.RegionRefusals.{some_key}
use Rattle.zarrs_engine.specs.Engine.{layout_of}
use Rattle.zarrs_engine.proofs.PartBytes.{bytes_why}
use Rattle.zarrs_engine.proofs.PartWrites.{lies_covers}
use Rattle.zarrs_engine.proofs.RegionReads.{own_shared, read_absent, read_apart, read_present}
use Rattle.zarrs_engine.proofs.engine.Engine.shared_chunk.Goals as goal

pub returns-in_err-encoded : goal.returns-in_err-encoded
returns-in_err-encoded g c =
    let layout = layout_of c.args.self.now in
    let state = g.S.ReadableStorageTraits.state c.args.self.now.storage in
    let region = box_of c.args.region.now in
    let index = c.args.chunk_indices.now in
    let why = some_key layout region index state c.requires.boxed (refusal_of c.in_err-encoded.field-0.0) c.in_err-encoded.ensures.refused in
    search (rules, why)

pub returns-in_default : goal.returns-in_default
returns-in_default g c =
    let layout = layout_of c.args.self.now in
    let state = g.S.ReadableStorageTraits.state c.args.self.now.storage in
    let region = box_of c.args.region.now in
    let index = c.args.chunk_indices.now in
    let absent = sym c.in_ok-encoded.ensures.value ∙ c.in_default.is in
    record { none = λ held. read_absent layout c.args.self.now.layout.lawful region index state c.requires.boxed held absent; some = tt; refused = tt }

pub returns-in_err-part : goal.returns-in_err-part
returns-in_err-part g c =
    let layout = layout_of c.args.self.now in
    let state = g.S.ReadableStorageTraits.state c.args.self.now.storage in
    let region = box_of c.args.region.now in
    let index = c.args.chunk_indices.now in
    let covers = lies_covers (box_at layout.grid index) region (box_long layout.grid index) c.args.region.now.same_length c.requires.covers in
    let stands = sym (ap Some c.deref.ensures ∙ sym c.in-Some.is ∙ c.in_ok-encoded.ensures.value) in
    let why = bytes_why layout region index state c.requires.boxed covers c.deref.result.now stands (refusal_of c.in_err-part.field-0.0) c.in_err-part.ensures.refused in
    search (rules, why)

-- a chunk that the region covers shares some position with it
pub returns-then-not-branch : goal.returns-then-not-branch
returns-then-not-branch g c =
    let layout = layout_of c.args.self.now in
    let state = g.S.ReadableStorageTraits.state c.args.self.now.storage in
    let region = box_of c.args.region.now in
    let index = c.args.chunk_indices.now in
    let apart = OnFalse_at c.if-not-branch.true c.in_ok-find.ensures.none in
    record { none = λ held. read_apart layout c.args.self.now.layout.lawful region index state c.requires.boxed held apart; some = tt; refused = tt }

pub returns : goal.returns
returns g c =
    let layout = layout_of c.args.self.now in
    let state = g.S.ReadableStorageTraits.state c.args.self.now.storage in
    let region = box_of c.args.region.now in
    let index = c.args.chunk_indices.now in
    let chunk = box_at layout.grid index in
    let is = OnTrue_at c.if-not-branch.false c.in_ok-find.ensures.own in
    let whole = overlap_inside region chunk c.args.region.now.same_length (box_long layout.grid index) c.requires.covers in
    let shared = own_shared region chunk (box_of c.find.new.self.own) is in
    let own = shared ∙ whole in
    let part = data_of c.in_ok-part.part in
    let same = c.in_ok-into_owned.ensures in
    let at = ap Some c.deref.ensures ∙ sym c.in-Some.is ∙ c.in_ok-encoded.ensures.value in
    let r = retrieved layout c.args.self.now.layout.lawful index part state c.deref.result.now at c.in_ok-part.ensures.accepted c.in_ok-part.ensures.cells in
    let has = subst (HasCells layout.kind part) r.reads.count (HasCells-some layout.kind part r.chunk r.is_chunk) in
    let made = data_of c.in_ok-into_owned.field-0 in
    let decodes = ap (cells layout.kind) same ∙ c.in_ok-part.ensures.cells in
    record {
      none = tt;
      some = record {
        dimensions = sym (ap (λ (b : Box). length b.start) shared ∙ is.shared.in_region.same_length);
        has = subst (λ (b : Box). HasCells layout.kind made (position_count b.shape)) (sym own) (subst (λ d. HasCells layout.kind d (position_count chunk.shape)) (sym same) has);
        reads = λ old new takes.
            read_present layout c.args.self.now.layout.lawful region index state c.requires.boxed old made new c.deref.result.now (sym at) decodes
            (subst (λ (b : Box). TakesCells layout.kind region b made old new) own takes);
      };
      refused = tt;
    }
