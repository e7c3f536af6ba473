use Rattle.std.proofs.Common.{◌&&◌, slice_index_or, ap, sym, ◌∙◌}
use Rattle.std.specs.Prelude.{nat_lt}
use Rattle.std.specs.List.{list_all}
use Rattle.std.proofs.lemmas.List.{take_all}
use Rattle.std.proofs.lemmas.List.Folds.{list_all_more}
use Rattle.zarrs_data_type_bytes.proofs.texts.are_ascii.Goals as goal

pub loop-byte-preserved : goal.loop-byte-preserved
loop-byte-preserved c =
    ap (λ ascii. ascii && nat_lt (slice_index_or c.args.bytes.now c.loop-byte.byte-index 0) 128) c.loop-byte.invariant
    ∙ sym (list_all_more (λ byte. nat_lt byte 128) c.args.bytes.now c.loop-byte.byte-index 0 c.loop-byte-test.true)

pub returns : goal.returns
returns c = c.loop-byte.invariant ∙ ap (list_all (λ byte. nat_lt byte 128)) (take_all c.loop-byte.byte-index c.args.bytes.now c.loop-byte-test.false)
