use Rattle.zarrs_data_type.specs.CellTypes.{chunk_fill, chunk_kind}
use Rattle.std.proofs.Common.{rules, ◌≡◌, true, Some, sym, subst, ◌∙◌}
use Rattle.std.specs.Prelude.{IfSome}
use Rattle.zarrs_data_type.specs.ArrayData.{data_of}
use Rattle.zarrs_data_type.specs.Cells.{cells}
use Rattle.zarrs_subset.specs.Boxes.{position_count}
use Rattle.zarrs_codec_array.specs.ArrayCodecs.{arrays_meaning, arrays-lawful}
use Rattle.zarrs_codec_array.specs.Gathered.{encoded_shape}
use Rattle.zarrs_codec_leaf.specs.Refusals.{RefusesDecoding}
use Rattle.zarrs_codec_shard.proofs.Missing.{given_if-true}
use Rattle.zarrs_codec_chain.specs.Refusals.{RefusesChunkDecoding}
use Rattle.zarrs_codec.specs.ChainLaws.{leaf-lawful, whole_chunk-lawful}
use Rattle.zarrs_codec.specs.Chains.{leaf_meaning}
use Rattle.zarrs_codec.specs.Configurations.{whole_chunk}
use Rattle.zarrs_codec.specs.Through.{through}
use Rattle.zarrs_codec_optional.proofs.Kept.{err_kept}
use Rattle.zarrs_codec.proofs.Behind.{cells_behind, count_behind, held_behind, refused_behind}
use Rattle.zarrs_codec.proofs.Counts.{count_fits, some_count}
use Rattle.zarrs_codec.proofs.WholeChunks.{whole_chunk-refusal}
use Rattle.zarrs_codec.proofs.chain.CodecChain.decode_cells.Goals as goal

pub unwrap-count-requires : goal.unwrap-count-requires
unwrap-count-requires c =
    some_count c.element_count.result (position_count c.args.chunk.now.shape.now) c.element_count.ensures
    (count_fits c.args.chunk.now.cell_type.now.data_type (position_count c.args.chunk.now.shape.now) c.requires.size)

pub returns-in_err-array-clause-refused : goal.returns-in_err-array-clause-refused
returns-in_err-array-clause-refused c =
    let k = chunk_kind c.args.chunk.now in
    let f = chunk_fill c.args.chunk.now in
    let s = c.args.chunk.now.shape.now in
    let b = c.args.encoded.now in
    let arrays = c.args.self.now.array_to_array.items in
    let a = arrays_meaning arrays in
    let law = arrays-lawful arrays in
    let last = c.args.self.now.array_to_bytes in
    let leaf = leaf_meaning last in
    let fit : a.fits s ≡ true = sym c.in_ok-takes_shape.ensures ∙ c.if-not-branch.false in
    let shape : encoded_shape a s ≡ Some (a.shape s) = given_if-true (a.fits s) (Some (a.shape s)) fit in
    let given : c.unwrap-count.result ≡ position_count s = search rules in
    let count = given ∙ sym (count_behind a (whole_chunk leaf) law k f s (a.shape s) b shape) in
    let e = c.in_err-array.field-0.0 in
    err_kept c.from_residual-in_err-array.result e (RefusesChunkDecoding (through a (whole_chunk leaf)) k f s b) c.from_residual-in_err-array.ensures.1
    (refused_behind a (whole_chunk leaf) law k f s (a.shape s) b shape e
    (whole_chunk-refusal leaf k f (a.shape s) b e (subst (λ n. RefusesDecoding leaf k n b e) count c.in_err-array.ensures.refused)))

pub decode_array-requires-clause-cells : goal.decode_array-requires-clause-cells
decode_array-requires-clause-cells c =
    let k = chunk_kind c.args.chunk.now in
    let f = chunk_fill c.args.chunk.now in
    let s = c.args.chunk.now.shape.now in
    let b = c.args.encoded.now in
    let arrays = c.args.self.now.array_to_array.items in
    let a = arrays_meaning arrays in
    let law = arrays-lawful arrays in
    let last = c.args.self.now.array_to_bytes in
    let leaf = leaf_meaning last in
    let fit : a.fits s ≡ true = sym c.in_ok-takes_shape.ensures ∙ c.if-not-branch.false in
    let shape : encoded_shape a s ≡ Some (a.shape s) = given_if-true (a.fits s) (Some (a.shape s)) fit in
    let given : c.unwrap-count.result ≡ position_count s = search rules in
    let count = given ∙ sym (count_behind a (whole_chunk leaf) law k f s (a.shape s) b shape) in
    let d = data_of c.in_ok-array.array in
    held_behind a (whole_chunk leaf) law k f s (a.shape s) b shape (whole_chunk-lawful leaf (leaf-lawful last)) d
    (subst (λ n. cells k d ≡ leaf.decoded k n b) count c.in_ok-array.ensures.cells) c.in_ok-array.ensures.some

pub returns-clause-cells : goal.returns-clause-cells
returns-clause-cells c =
    let k = chunk_kind c.args.chunk.now in
    let f = chunk_fill c.args.chunk.now in
    let s = c.args.chunk.now.shape.now in
    let b = c.args.encoded.now in
    let arrays = c.args.self.now.array_to_array.items in
    let a = arrays_meaning arrays in
    let law = arrays-lawful arrays in
    let last = c.args.self.now.array_to_bytes in
    let leaf = leaf_meaning last in
    let fit : a.fits s ≡ true = sym c.in_ok-takes_shape.ensures ∙ c.if-not-branch.false in
    let shape : encoded_shape a s ≡ Some (a.shape s) = given_if-true (a.fits s) (Some (a.shape s)) fit in
    let given : c.unwrap-count.result ≡ position_count s = search rules in
    let count = given ∙ sym (count_behind a (whole_chunk leaf) law k f s (a.shape s) b shape) in
    let d = data_of c.in_ok-array.array in
    let made = data_of c.in_ok-decode_array.field-0 in
    cells_behind a (whole_chunk leaf) law k f s (a.shape s) b shape d made
    (subst (λ n. cells k d ≡ leaf.decoded k n b) count c.in_ok-array.ensures.cells) c.in_ok-array.ensures.some
    (subst (λ x. IfSome (cells k d) (λ cs. cells k made ≡ Some ((arrays_meaning x).back s cs))) c.deref.ensures.value c.in_ok-decode_array.ensures)
