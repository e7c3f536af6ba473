use Rattle.std.proofs.Common.{◌≡◌, ◌∙◌, ℕ, true, List, [], ◌∷◌, Some, refl, sym, ap, subst}
use Rattle.zarrs_subset.specs.Regions.{Box, box_at_origin, box_of}
use Rattle.zarrs_storage.specs.Store.{StoreState}
use Rattle.zarrs_data_type.specs.ArrayData.{data_of}
use Rattle.zarrs_codec_chain.proofs.Kept.{err_kept}
use Rattle.zarrs_codec_chain.specs.Parts.{DecodesPart}
use Rattle.zarrs_codec_leaf.specs.Stored.{key_of_source, state_of_source, value_or_empty}
use Rattle.zarrs_engine_calls.specs.ChunkBoxes.{chunk_part}
use Rattle.zarrs_engine_calls.specs.Content.{decoded_cells}
use Rattle.zarrs_engine_calls.specs.Errors.{error_of_storage}
use Rattle.zarrs_engine_calls.specs.Refusals.{refusal_of}
use Rattle.zarrs_engine_calls.specs.StateRefusals.{IsPart, RefusesSomeChunk}
use Rattle.zarrs_chunk_grid.specs.Grids.{box_at}
use Rattle.zarrs_engine_layout.specs.Steps.{RefusesPartBytes}
use Rattle.zarrs_engine_calls.proofs.Contents.{index_list}
use Rattle.zarrs_engine.specs.Engine.{layout_of}
use Rattle.zarrs_engine.proofs.PartBytes.{key_why, part_why, size_fits, source_value}
use Rattle.zarrs_engine.proofs.engine.Engine.part_of_chunk.Goals as goal

pub open-requires : goal.open-requires
open-requires g c =
    let layout = layout_of c.args.self.now in
    let state = g.S.ReadableStorageTraits.state c.args.self.now.storage in
    let words = index_list layout c.args.self.now.layout.lawful c.args.chunk_indices.now c.requires.boxed in
    subst (λ (key : List ℕ). state.may_ask key ≡ true) (sym c.in_ok-key.ensures.key) (c.requires.ask.key words)

pub returns-in_err-source-clause-refused : goal.returns-in_err-source-clause-refused
returns-in_err-source-clause-refused g c =
    let layout = layout_of c.args.self.now in
    let index = c.args.chunk_indices.now in
    let state = g.S.ReadableStorageTraits.state c.args.self.now.storage in
    let part = box_of c.args.part.now in
    let e = c.in_err-source.field-0.0 in
    let why : (region : Box) → IsPart layout region index → part ≡ chunk_part region (box_at layout.grid index) → RefusesSomeChunk layout region (index ∷ []) state (refusal_of (error_of_storage e)) = λ region proper seen.
    key_why layout region index state c.requires.boxed _ e c.in_ok-key.ensures.key c.in_err-source.ensures.refused in
    err_kept c.from_residual-in_err-source.result (error_of_storage e) (λ e. (region : Box) → IsPart layout region index → part ≡ chunk_part region (box_at layout.grid index) → RefusesSomeChunk layout region (index ∷ []) state (refusal_of e)) c.from_residual-in_err-source.ensures.1 why

pub decode_part-requires-clause-size : goal.decode_part-requires-clause-size
decode_part-requires-clause-size g c = size_fits (layout_of c.args.self.now) (box_of c.args.part.now).shape c.requires.size

pub decode_part-requires-clause-may_read : goal.decode_part-requires-clause-may_read
decode_part-requires-clause-may_read g c = λ place needed.
    let layout = layout_of c.args.self.now in
    let index = c.args.chunk_indices.now in
    let part = box_of c.args.part.now in
    let state = g.S.ReadableStorageTraits.state c.args.self.now.storage in
    let source = c.in-Some.source in
    let state_is : state_of_source source ≡ state = rw c.in-Some.is at c.in_ok-source.ensures.state in
    let key_is : key_of_source source ≡ layout.key index = (rw c.in-Some.is at c.in_ok-source.ensures.key) ∙ c.in_ok-key.ensures.key in
    let found = source_value (state_of_source source) state (key_of_source source) (layout.key index) source.size state_is key_is source.sized in
    let words = index_list layout c.args.self.now.layout.lawful index c.requires.boxed in
    let there = subst (λ s. layout.chain.places layout.kind s part found.0 place ≡ true) c.requires.shape
    (subst (λ (v : List ℕ). layout.chain.places layout.kind c.args.shape.now part v place ≡ true) found.2 needed) in
    let may = c.requires.ask.places words found.0 place found.1 there in
    subst (λ (s : StoreState). s.may_read (key_of_source source) place ≡ true) (sym state_is)
    (subst (λ (key : List ℕ). state.may_read key place ≡ true) (sym key_is) may)

pub returns-in_err-made-clause-refused : goal.returns-in_err-made-clause-refused
returns-in_err-made-clause-refused g c =
    let layout = layout_of c.args.self.now in
    let index = c.args.chunk_indices.now in
    let state = g.S.ReadableStorageTraits.state c.args.self.now.storage in
    let source = c.in-Some.source in
    let state_is : state_of_source source ≡ state = rw c.in-Some.is at c.in_ok-source.ensures.state in
    let key_is : key_of_source source ≡ layout.key index = (rw c.in-Some.is at c.in_ok-source.ensures.key) ∙ c.in_ok-key.ensures.key in
    let found = source_value (state_of_source source) state (key_of_source source) (layout.key index) source.size state_is key_is source.sized in
    let bytes = value_or_empty (state_of_source source) (key_of_source source) in
    let same : (state_of_source source).refuses (key_of_source source) ≡ state.refuses (layout.key index) =
    ap (λ (s : StoreState). s.refuses (key_of_source source)) state_is ∙ ap state.refuses key_is in
    let part = box_of c.args.part.now in
    let r = refusal_of c.in_err-made.field-0.0 in
    let why : (region : Box) → IsPart layout region index → part ≡ chunk_part region (box_at layout.grid index) → RefusesSomeChunk layout region (index ∷ []) state r = λ region proper seen.
    part_why layout region index state c.requires.boxed proper part seen bytes ((state_of_source source).refuses (key_of_source source)) (box_at layout.grid index) refl same (found.1 ∙ ap Some (sym found.2)) r
    (subst (λ s. RefusesPartBytes layout (box_at_origin s) part bytes ((state_of_source source).refuses (key_of_source source)) r) c.requires.shape c.in_err-made.ensures.refused) in
    err_kept c.from_residual-in_err-made.result c.in_err-made.field-0.0 (λ e. (region : Box) → IsPart layout region index → part ≡ chunk_part region (box_at layout.grid index) → RefusesSomeChunk layout region (index ∷ []) state (refusal_of e)) c.from_residual-in_err-made.ensures.1 why

pub returns-clause-part : goal.returns-clause-part
returns-clause-part g c =
    let layout = layout_of c.args.self.now in
    let index = c.args.chunk_indices.now in
    let part = box_of c.args.part.now in
    let state = g.S.ReadableStorageTraits.state c.args.self.now.storage in
    let source = c.in-Some.source in
    let state_is : state_of_source source ≡ state = rw c.in-Some.is at c.in_ok-source.ensures.state in
    let key_is : key_of_source source ≡ layout.key index = (rw c.in-Some.is at c.in_ok-source.ensures.key) ∙ c.in_ok-key.ensures.key in
    let found = source_value (state_of_source source) state (key_of_source source) (layout.key index) source.size state_is key_is source.sized in
    let bytes = value_or_empty (state_of_source source) (key_of_source source) in
    record {
      encoded = bytes;
      stands = found.1 ∙ ap Some (sym found.2);
      decodes = subst (λ s. DecodesPart layout.kind s part (decoded_cells layout (box_at_origin s) bytes) (data_of c.in_ok-made.made)) c.requires.shape c.in_ok-made.ensures.cells;
    }
