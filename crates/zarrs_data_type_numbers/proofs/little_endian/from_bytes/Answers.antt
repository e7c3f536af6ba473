use Rattle.std.proofs.Common.{arith, sym, ap, ◌∙◌}
use Rattle.std.specs.List.{flat_map}
use Rattle.std.proofs.lemmas.List.{take_all}
use Rattle.zarrs_data_type_numbers.proofs.Chunks.{flat_map-ids, flat-chunks_all}
use Rattle.zarrs_data_type_numbers.proofs.little_endian.from_bytes.Goals as goal

pub as_chunks-requires : goal.as_chunks-requires
as_chunks-requires g c = (omega (arith, c.requires.small), c.requires.some)

pub returns : goal.returns
returns g c =
    sym (flat_map-ids g.T.LittleEndian.le_bytes c.loop-cell.numbers.items)
    ∙ ap (flat_map (λ y. y)) (c.loop-cell.invariant.items ∙ take_all c.loop-cell.cell-index c.as_chunks.result.0.now c.loop-cell-test.false ∙ c.as_chunks.ensures.front)
    ∙ flat-chunks_all _ c.args.bytes.now c.requires.some c.requires.whole
