use Rattle.zarrs_data_type.specs.CellTypes.{chunk_fill, chunk_kind}
use Rattle.std.proofs.Common.{◌≡◌, ◌∙◌, true, ap, sym, subst}
use Rattle.zarrs_data_type.specs.ArrayData.{data_of}
use Rattle.zarrs_data_type.specs.Cells.{fits}
use Rattle.zarrs_data_type_bytes.proofs.Cells.{cells-parts}
use Rattle.zarrs_codec_chain.specs.Stored.{bytes_of}
use Rattle.zarrs_subset.specs.Boxes.{position_count}
use Rattle.zarrs_subset.specs.Regions.{box_of}
use Rattle.zarrs_data_type.specs.States.{data_of_target, target_box}
use Rattle.zarrs_data_type_region.proofs.TypeSizes.{levels_of}
use Rattle.zarrs_codec_chain.proofs.PartsInto.{written_part}
use Rattle.zarrs_codec.specs.Chains.{chain_meaning}
use Rattle.zarrs_codec.proofs.chain.CodecChain.write_part.Goals as goal

pub write_cells-requires : goal.write_cells-requires
write_cells-requires g c =
    let t = c.args.target.now in
    let k = chunk_kind c.args.chunk.now in
    let own = target_box t in
    let made = data_of c.in_ok-cells.cells in
    let d = c.in_ok-cells.ensures.cells in
    let same : position_count (box_of c.args.part.now).shape ≡ position_count own.shape = ap position_count (sym c.requires.same_shape) in
    levels_of k t.cell_size t.depth (position_count own.shape) made c.requires.takes
    (subst (λ n. fits k made n ≡ true) (d.count ∙ same) (cells-parts k made d.given d.are_cells).0)

pub returns-clause-cells : goal.returns-clause-cells
returns-clause-cells g c =
    let t = c.args.target.now in
    let k = chunk_kind c.args.chunk.now in
    let f = chunk_fill c.args.chunk.now in
    let s = c.args.chunk.now.shape.now in
    let own = target_box t in
    let part = box_of c.args.part.now in
    let b = bytes_of c.args.stored.now in
    let made = data_of c.in_ok-cells.cells in
    let d = c.in_ok-cells.ensures.cells in
    let same : position_count part.shape ≡ position_count own.shape = ap position_count (sym c.requires.same_shape) in
    let fit = subst (λ n. fits k made n ≡ true) (d.count ∙ same) (cells-parts k made d.given d.are_cells).0 in
    written_part k t.parent_shape.now s part own ((chain_meaning c.args.self.now).decoded k f s b) made (data_of_target t) (data_of_target c.write_cells.new.self) c.args.part.now.same_length t.region.now.same_length c.requires.same_shape
    c.args.target.now.whole.inside d (c.in_ok-write_cells.ensures.cells k c.requires.takes fit)
