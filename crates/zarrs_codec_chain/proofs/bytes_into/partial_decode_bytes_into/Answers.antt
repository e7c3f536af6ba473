use Rattle.std.proofs.Common.{refl, ◌≡◌, ◌∙◌, ap, true, sym, subst}
use Rattle.zarrs_codec_leaf.specs.Bytes.{endian_of, bytes_meaning_of}
use Rattle.zarrs_codec_leaf.specs.Sources.{window_bytes}
use Rattle.zarrs_subset.specs.Boxes.{position_count}
use Rattle.zarrs_subset.specs.Regions.{box_of}
use Rattle.zarrs_data_type.specs.States.{target_box, data_of_target}
use Rattle.zarrs_data_type.specs.Kind.{kind}
use Rattle.zarrs_codec_chain.proofs.BytesInto.{cells_len, put_into, put_outside}
use Rattle.zarrs_data_type.specs.ArrayData.{data_of}
use Rattle.zarrs_data_type.specs.Cells.{fits}
use Rattle.zarrs_data_type_bytes.proofs.Cells.{cells-parts}
use Rattle.zarrs_data_type_region.proofs.Kept.{keeps_itself}
use Rattle.zarrs_data_type_region.proofs.TypeSizes.{levels_of}
use Rattle.zarrs_codec_chain.proofs.PartsInto.{written_part}
use Rattle.std.specs.Prelude.{IsSome}
use Rattle.zarrs_codec_chain.specs.BytesInto.{AreCells}
use Rattle.zarrs_codec_chain.proofs.BytesParts.{window_len}
use Rattle.zarrs_codec_chain.proofs.AllOfIt.{cells_decode}
use Rattle.zarrs_codec_chain.proofs.bytes_into.partial_decode_bytes_into.Goals as goal

pub put_part-requires-clause-array_len : goal.put_part-requires-clause-array_len
put_part-requires-clause-array_len g c =
    let t = c.args.target.now in
    let part = c.args.part.now in
    let source = g.B.ByteSource.bytes c.args.stored.now.source.now in
    let got : c.in-Some.array.now ≡ window_bytes c.args.stored.now.window source = c.in-Some.ensures in
    cells_len (endian_of c.args.codec.now) (kind c.args.data_type.now) c.args.shape.now (box_of part) (target_box t) t.parent_shape.now c.args.stored.now.window source c.in-Some.array.now t.cell_size t.depth t.bytes.now t.bytes.now
    (c.are_cells.ensures c.if-are_cells.true) c.requires.takes part.same_length t.region.now.same_length c.requires.same_shape c.requires.part c.args.target.now.whole.inside c.args.stored.now.within got

pub returns-then-are_cells-clause-cells : goal.returns-then-are_cells-clause-cells
returns-then-are_cells-clause-cells g c =
    let t = c.args.target.now in
    let u = c.put_part.new.target in
    let part = c.args.part.now in
    let source = g.B.ByteSource.bytes c.args.stored.now.source.now in
    let got : c.in-Some.array.now ≡ window_bytes c.args.stored.now.window source = c.in-Some.ensures in
    put_into (endian_of c.args.codec.now) (kind c.args.data_type.now) c.args.shape.now (box_of part) (target_box t) t.parent_shape.now c.args.stored.now.window source c.in-Some.array.now t.cell_size t.depth t.bytes.now u.bytes.now
    (c.are_cells.ensures c.if-are_cells.true) c.requires.takes part.same_length t.region.now.same_length c.requires.same_shape c.requires.part c.args.target.now.whole.inside c.args.stored.now.within got
    c.put_part.ensures.put u.depth c.put_part.ensures.same.depth (position_count t.parent_shape.now) (position_count u.parent_shape.now) t.masks.now u.masks.now

pub returns-then-are_cells-clause-kept : goal.returns-then-are_cells-clause-kept
returns-then-are_cells-clause-kept g c =
    let t = c.args.target.now in
    let u = c.put_part.new.target in
    let part = c.args.part.now in
    let source = g.B.ByteSource.bytes c.args.stored.now.source.now in
    let got : c.in-Some.array.now ≡ window_bytes c.args.stored.now.window source = c.in-Some.ensures in
    record {
      same = c.put_part.ensures.same;
      outside = put_outside (endian_of c.args.codec.now) (kind c.args.data_type.now) c.args.shape.now (box_of part) (target_box t) t.parent_shape.now c.args.stored.now.window source c.in-Some.array.now t.cell_size t.depth t.bytes.now u.bytes.now
          (c.are_cells.ensures c.if-are_cells.true) c.requires.takes part.same_length t.region.now.same_length c.requires.same_shape c.requires.part c.args.target.now.whole.inside c.args.stored.now.within got
          c.put_part.ensures.put u.depth c.put_part.ensures.same.depth (position_count t.parent_shape.now) (position_count u.parent_shape.now) t.masks.now u.masks.now;
    }

pub returns-in_err-cells-clause-kept : goal.returns-in_err-cells-clause-kept
returns-in_err-cells-clause-kept g c = keeps_itself c.args.target.now

pub write_cells-requires : goal.write_cells-requires
write_cells-requires g c =
    let t = c.args.target.now in
    let k = kind c.args.data_type.now in
    let own = target_box t in
    let made = data_of c.in_ok-cells.cells in
    let d = c.in_ok-cells.ensures.part in
    let same : position_count (box_of c.args.part.now).shape ≡ position_count own.shape = ap position_count (sym c.requires.same_shape) in
    levels_of k t.cell_size t.depth (position_count own.shape) made c.requires.takes
    (subst (λ n. fits k made n ≡ true) (d.count ∙ same) (cells-parts k made d.given d.are_cells).0)

pub returns-clause-cells : goal.returns-clause-cells
returns-clause-cells g c =
    let t = c.args.target.now in
    let k = kind c.args.data_type.now in
    let s = c.args.shape.now in
    let own = target_box t in
    let part = box_of c.args.part.now in
    let b = window_bytes c.args.stored.now.window (g.B.ByteSource.bytes c.args.stored.now.source.now) in
    let made = data_of c.in_ok-cells.cells in
    let d = c.in_ok-cells.ensures.part in
    let same : position_count part.shape ≡ position_count own.shape = ap position_count (sym c.requires.same_shape) in
    let fit = subst (λ n. fits k made n ≡ true) (d.count ∙ same) (cells-parts k made d.given d.are_cells).0 in
    written_part k t.parent_shape.now s part own ((bytes_meaning_of (endian_of c.args.codec.now)).decoded k (position_count s) b) made (data_of_target t) (data_of_target c.write_cells.new.self) c.args.part.now.same_length t.region.now.same_length c.requires.same_shape
    c.args.target.now.whole.inside d (c.in_ok-write_cells.ensures.cells k c.requires.takes fit)

pub returns-then-are_cells-clause-whole : goal.returns-then-are_cells-clause-whole
returns-then-are_cells-clause-whole g c = λ all.
    let k = kind c.args.data_type.now in
    let e = endian_of c.args.codec.now in
    let n = position_count c.args.shape.now in
    let source = g.B.ByteSource.bytes c.args.stored.now.source.now in
    cells_decode e k n (window_bytes c.args.stored.now.window source)
    (subst (λ l. AreCells e k n l) (sym (window_len c.args.stored.now.window source c.args.stored.now.within)) (c.are_cells.ensures c.if-are_cells.true))

pub returns-clause-whole : goal.returns-clause-whole
returns-clause-whole g c = λ all.
    let whole = c.in_ok-cells.ensures.whole all in
    subst IsSome (sym c.in_ok-cells.ensures.part.are_cells ∙ whole) refl
