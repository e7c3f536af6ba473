use Rattle.std.proofs.Common.{◌==◌, sym}
use Rattle.zarrs_script.proofs.Split.{cut_at, uncut}
use Rattle.zarrs_script.proofs.parse.next_word.Goals as goal

pub returns-in-Some-space_in : goal.returns-in-Some-space_in
returns-in-Some-space_in c =
    let text = c.in-Some.text.now in
    rw c.in-Some.is (cut_at (λ b. b == 32) text c.in-Some-space_in.place (sym c.in-Some-space_in.ensures))

pub returns-in-None : goal.returns-in-None
returns-in-None c =
    rw c.in-Some.is (uncut (λ b. b == 32) c.in-Some.text.now (sym c.in-None.ensures))
