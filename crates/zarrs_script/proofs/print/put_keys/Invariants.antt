use Rattle.std.proofs.Common.{◌≡◌, take}
use Rattle.std.specs.List.{flat_map}
use Rattle.zarrs_script.specs.Transcript.{key_text}
use Rattle.zarrs_script.specs.Sessions.{Puts}
use Rattle.zarrs_script.proofs.print.put_keys.Given as goal

abbrev pub invariant-loop-key : goal.invariant-loop-key
invariant-loop-key g l = Puts (g.W.Write.contents l.fn.writer) (g.W.Write.contents l.writer) l.fn.out.items l.out.items (λ text. text ≡ flat_map (key_text l.store.values) (take l.key-index l.key-items))
