use Rattle.std.proofs.Common.{◌≡◌, ◌∙◌, Bool, List, ℕ, ap, subst, sym}
use Rattle.std.specs.Prelude.{IfErr, IfOk, IsSome}
use Rattle.zarrs_data_type.specs.ArrayData.{data_of}
use Rattle.zarrs_data_type.specs.CellTypes.{chunk_kind, shape_of}
use Rattle.zarrs_subset.specs.Regions.{box_of}
use Rattle.zarrs_codec_leaf.specs.Sources.{MayRead, window_bytes}
use Rattle.zarrs_codec_chain.specs.Chain.{ChainMeaning}
use Rattle.zarrs_codec_chain.specs.Chunks.{HoldsPart, RefusesToDecodePart, decoded_of}
use Rattle.zarrs_codec_chain.specs.Stored.{bytes_of, refuses_of}
use Rattle.zarrs_codec.specs.Chains.{chain_meaning}
use Rattle.zarrs_codec.proofs.chain.CodecChainChainTraits.partial_decode.Goals as goal

pub partial_decode_chunk-requires-clause-may_read : goal.partial_decode_chunk-requires-clause-may_read
partial_decode_chunk-requires-clause-may_read g c =
    let m : ChainMeaning = chain_meaning c.args.self.now in
    let chunk = c.args.chunk.now in
    let part = box_of c.args.part.now in
    let source = c.args.source.now in
    let new = c.new.result in
    let k = chunk_kind chunk in
    let s = shape_of chunk in
    subst (λ w. MayRead (g.B.ByteSource.may_read new.source.now) w (m.places k s part (window_bytes w (g.B.ByteSource.bytes new.source.now)))) (sym c.new.ensures.window)
    (subst (λ x. MayRead (g.B.ByteSource.may_read x.now) c.args.window (m.places k s part (window_bytes c.args.window (g.B.ByteSource.bytes x.now)))) (sym c.new.ensures.source) c.requires.may_read)

pub returns-clause-cells : goal.returns-clause-cells
returns-clause-cells g c =
    let m : ChainMeaning = chain_meaning c.args.self.now in
    let chunk = c.args.chunk.now in
    let part = box_of c.args.part.now in
    let source = c.args.source.now in
    let new = c.new.result in
    let bytes_are : bytes_of new ≡ window_bytes c.args.window (g.B.ByteSource.bytes source) =
    ap (λ s. window_bytes new.window (g.B.ByteSource.bytes s.now)) c.new.ensures.source ∙ ap (λ w. window_bytes w (g.B.ByteSource.bytes source)) c.new.ensures.window in
    subst (λ (b : List ℕ). IfOk c.partial_decode_chunk.result (λ made. HoldsPart m chunk part b (data_of made))) bytes_are c.partial_decode_chunk.ensures.cells

pub returns-clause-whole : goal.returns-clause-whole
returns-clause-whole g c = λ all.
    let m : ChainMeaning = chain_meaning c.args.self.now in
    let chunk = c.args.chunk.now in
    let source = c.args.source.now in
    let new = c.new.result in
    let bytes_are : bytes_of new ≡ window_bytes c.args.window (g.B.ByteSource.bytes source) =
    ap (λ s. window_bytes new.window (g.B.ByteSource.bytes s.now)) c.new.ensures.source ∙ ap (λ w. window_bytes w (g.B.ByteSource.bytes source)) c.new.ensures.window in
    subst (λ (b : List ℕ). IfOk c.partial_decode_chunk.result (λ _. IsSome (decoded_of m chunk b))) bytes_are (c.partial_decode_chunk.ensures.whole all)

pub returns-clause-refused : goal.returns-clause-refused
returns-clause-refused g c =
    let m : ChainMeaning = chain_meaning c.args.self.now in
    let chunk = c.args.chunk.now in
    let part = box_of c.args.part.now in
    let source = c.args.source.now in
    let new = c.new.result in
    let bytes_are : bytes_of new ≡ window_bytes c.args.window (g.B.ByteSource.bytes source) =
    ap (λ s. window_bytes new.window (g.B.ByteSource.bytes s.now)) c.new.ensures.source ∙ ap (λ w. window_bytes w (g.B.ByteSource.bytes source)) c.new.ensures.window in
    let refuses_is : refuses_of new ≡ g.B.ByteSource.refuses source = ap (λ s. g.B.ByteSource.refuses s.now) c.new.ensures.source in
    subst (λ (x : Bool). IfErr c.partial_decode_chunk.result (RefusesToDecodePart m chunk part (window_bytes c.args.window (g.B.ByteSource.bytes source)) x)) refuses_is
    (subst (λ (b : List ℕ). IfErr c.partial_decode_chunk.result (RefusesToDecodePart m chunk part b (refuses_of new))) bytes_are c.partial_decode_chunk.ensures.refused)
