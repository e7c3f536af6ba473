use Rattle.zarrs_data_type.specs.CellTypes.{chunk_fill, chunk_kind}
use Rattle.std.proofs.Common.{◌≡◌, ◌∙◌, Option, List, ℕ, ap, length, subst}
use Rattle.std.proofs.lemmas.Bool.{lt-ltb}
use Rattle.zarrs_data_type.specs.ArrayData.{data_of}
use Rattle.zarrs_data_type.specs.Cell.{Cell}
use Rattle.zarrs_data_type.specs.Cells.{cells}
use Rattle.zarrs_codec_chain.specs.Stored.{bytes_of, refuses_of}
use Rattle.zarrs_subset.specs.Regions.{box_of}
use Rattle.zarrs_codec_chain.specs.Parts.{DecodesPart}
use Rattle.zarrs_codec_chain.specs.PartRefusals.{RefusesPartDecoding}
use Rattle.zarrs_codec_chain.specs.declared.error.PartError.TheVariants as part_error
use Rattle.zarrs_codec_chain.proofs.Kept.{err_kept}
use Rattle.zarrs_codec_chain.specs.Chain.{ChainMeaning}
use Rattle.zarrs_codec_chain.specs.Refusals.{IsTooLargeToDecode}
use Rattle.zarrs_codec.specs.ChainLaws.{chain-lawful}
use Rattle.zarrs_codec.specs.Chains.{chain_meaning}
use Rattle.zarrs_codec.proofs.Behind.{decoded-has_cells}
use Rattle.zarrs_codec.proofs.PartReads.{cells_large, chunk_refused}
use Rattle.zarrs_codec.proofs.chain.CodecChain.part_of_decoded.Goals as goal

pub read-requires : goal.read-requires
read-requires g c =
    λ place below. c.requires.may_read place (lt-ltb place (length (bytes_of c.args.stored.now)) below)

pub returns-in_err-whole-clause-refused : goal.returns-in_err-whole-clause-refused
returns-in_err-whole-clause-refused g c =
    let k = chunk_kind c.args.chunk.now in
    let f = chunk_fill c.args.chunk.now in
    let s = c.args.chunk.now.shape.now in
    let m : ChainMeaning = chain_meaning c.args.self.now in
    let b = bytes_of c.args.stored.now in
    let part = box_of c.args.part.now in
    let refuses = refuses_of c.args.stored.now in
    let e = c.in_err-whole.field-0.0 in
    let read : c.as_slice.result.now ≡ b = c.as_slice.ensures ∙ c.in_ok-encoded.ensures.bytes in
    err_kept c.from_residual-in_err-whole.result (part_error.Codec e) (RefusesPartDecoding (m.decoded k f s b) (IsTooLargeToDecode m k f s part b) refuses) c.from_residual-in_err-whole.ensures.1
    (subst (λ (x : List ℕ). RefusesPartDecoding (m.decoded k f s x) (IsTooLargeToDecode m k f s part x) refuses (part_error.Codec e)) read
    (chunk_refused m k f s part c.as_slice.result.now refuses e c.requires.whole c.in_err-whole.ensures.refused))

pub returns-then-not-is_counted-clause-refused : goal.returns-then-not-is_counted-clause-refused
returns-then-not-is_counted-clause-refused g c =
    let k = chunk_kind c.args.chunk.now in
    let f = chunk_fill c.args.chunk.now in
    let s = c.args.chunk.now.shape.now in
    let m : ChainMeaning = chain_meaning c.args.self.now in
    let b = bytes_of c.args.stored.now in
    c.requires.whole k f s (box_of c.args.part.now) b ∙ cells_large (m.leaves_out s b) k f s c.if-not-is_counted.ensures.large

pub part_of_whole-requires-clause-held : goal.part_of_whole-requires-clause-held
part_of_whole-requires-clause-held g c =
    let k = chunk_kind c.args.chunk.now in
    let f = chunk_fill c.args.chunk.now in
    decoded-has_cells (chain_meaning c.args.self.now) (chain-lawful c.args.self.now) k f c.args.chunk.now.shape.now c.as_slice.result.now (data_of c.in_ok-whole.whole) c.in_ok-whole.ensures.cells c.in_ok-whole.ensures.some

pub returns-clause-cells : goal.returns-clause-cells
returns-clause-cells g c =
    let k = chunk_kind c.args.chunk.now in
    let f = chunk_fill c.args.chunk.now in
    let s = c.args.chunk.now.shape.now in
    let m : ChainMeaning = chain_meaning c.args.self.now in
    let b = bytes_of c.args.stored.now in
    let read : c.as_slice.result.now ≡ b = c.as_slice.ensures ∙ c.in_ok-encoded.ensures.bytes in
    let is : cells k (data_of c.in_ok-whole.whole) ≡ m.decoded k f s b = c.in_ok-whole.ensures.cells ∙ ap (m.decoded k f s) read in
    subst (λ (o : Option (List Cell)). DecodesPart k s (box_of c.args.part.now) o (data_of c.in_ok-made.made)) is c.in_ok-made.ensures
