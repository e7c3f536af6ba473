use Rattle.std.proofs.Common.{◌==◌, ◌&&◌, slice_index_or, ap, sym, ◌∙◌}
use Rattle.std.specs.List.{list_all}
use Rattle.std.proofs.lemmas.List.{take_all}
use Rattle.std.proofs.lemmas.List.Folds.{list_all_more}
use Rattle.zarrs_data_type_bytes.proofs.array_bytes.fill.are_all.Goals as goal

pub loop-each-preserved : goal.loop-each-preserved
loop-each-preserved c =
    ap (λ same. same && (slice_index_or c.args.bytes.now c.loop-each.each-index 0 == c.args.byte)) c.loop-each.invariant
    ∙ sym (list_all_more (λ b. b == c.args.byte) c.args.bytes.now c.loop-each.each-index 0 c.loop-each-test.true)

pub returns : goal.returns
returns c = c.loop-each.invariant ∙ ap (list_all (λ b. b == c.args.byte)) (take_all c.loop-each.each-index c.args.bytes.now c.loop-each-test.false)
