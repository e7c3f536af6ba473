use Rattle.std.proofs.Common.{nat_lt, ◌&&◌, slice_index_or, ap, sym, ◌∙◌}
use Rattle.std.specs.List.{list_all}
use Rattle.std.proofs.lemmas.List.{take_all}
use Rattle.zarrs_data_type_bytes.proofs.Pieces.{all-take_more}
use Rattle.zarrs_data_type_bytes.proofs.mask.are_flags.Goals as goal

pub loop-byte-preserved : goal.loop-byte-preserved
loop-byte-preserved c =
    ap (λ fine. fine && nat_lt (slice_index_or c.args.bytes.now c.loop-byte.byte-index 0) 2) c.loop-byte.invariant
    ∙ sym (all-take_more (λ byte. nat_lt byte 2) c.args.bytes.now c.loop-byte.byte-index c.loop-byte-test.true)

pub returns : goal.returns
returns c = c.loop-byte.invariant ∙ ap (list_all (λ byte. nat_lt byte 2)) (take_all c.loop-byte.byte-index c.args.bytes.now c.loop-byte-test.false)
