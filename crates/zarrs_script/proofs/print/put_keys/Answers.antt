use Rattle.std.proofs.Common.{◌≡◌, ◌++◌, ◌+◌, List, ℕ, [], take, refl, sym, ap, ◌∙◌}
use Rattle.std.specs.List.{flat_map}
use Rattle.std.proofs.lemmas.List.{append-nil}
use Rattle.zarrs_script.specs.Transcript.{key_text}
use Rattle.zarrs_script.proofs.Printing.{puts_pending, puts_more, puts_spilled, one_key}
use Rattle.zarrs_script.proofs.print.put_keys.Goals as goal

pub loop-key-init : goal.loop-key-init
loop-key-init g c = puts_pending (g.W.Write.contents c.args.writer.now) c.args.out.now.items c.args.out.now.items [] (sym (append-nil c.args.out.now.items)) refl

pub loop-key-preserved : goal.loop-key-preserved
loop-key-preserved g c =
    let old = g.W.Write.contents c.args.writer.now in
    let l = c.loop-key in
    let mid = g.W.Write.contents l.writer in
    let out = c.args.out.now.items in
    let keys = c.deref-key-items.result.now in
    let text = key_text c.args.store.now.values in
    let key = c.key-item.result in
    puts_spilled {P = λ printed. printed ≡ flat_map text (take (l.key-index + 1) keys)} old mid (g.W.Write.contents c.write_pending.new.writer) out c.put_key.new.out.items c.write_pending.new.out.items
    (puts_more old mid mid out l.out.items c.put_key.new.out.items l.invariant
    (puts_pending {P = λ printed. printed ≡ text key} mid l.out.items c.put_key.new.out.items (text key) c.in_ok-put_key.ensures refl)
    (λ first second p q. ap (λ (xs : List ℕ). xs ++ second) p ∙ ap (λ (ys : List ℕ). flat_map text (take l.key-index keys) ++ ys) q ∙ one_key text keys l.key-index key c.loop-key-test.true c.key-item.is))
    c.in_ok-write_pending.ensures
