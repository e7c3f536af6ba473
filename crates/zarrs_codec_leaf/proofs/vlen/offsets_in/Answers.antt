use Rattle.std.proofs.Common.{length, map, take, ap, ◌∙◌, arith}
use Rattle.std.specs.Int.{w64, from_le_bytes}
use Rattle.std.proofs.lemmas.List.{length-map, length-take-le, take_all}
use Rattle.zarrs_codec_leaf.proofs.vlen.offsets_in.Goals as goal

pub push_reserved-requires : goal.push_reserved-requires
push_reserved-requires c =
    let l = c.loop-cell in
    let cells = c.as_chunks.result.0.now in
    let len = ap length l.invariant.items ∙ length-map (take l.cell-index cells) (from_le_bytes w64) ∙ length-take-le l.cell-index cells (omega arith) in
    omega (arith, len, l.offsets.ok.0, l.invariant.room, c.loop-cell-test.true)

pub returns : goal.returns
returns c =
    c.loop-cell.invariant.items
    ∙ ap (map (from_le_bytes w64)) (take_all c.loop-cell.cell-index c.as_chunks.result.0.now c.loop-cell-test.false ∙ c.as_chunks.ensures.front)
