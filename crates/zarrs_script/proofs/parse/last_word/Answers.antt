use Rattle.std.proofs.Common.{◌==◌, refl}
use Rattle.zarrs_script.specs.Parsed.{words_in}
use Rattle.zarrs_script.proofs.Split.{no_rest}
use Rattle.zarrs_script.proofs.parse.last_word.Goals as goal

pub returns-in_default-Some : goal.returns-in_default-Some
returns-in_default-Some c =
    (refl, no_rest (λ b. b == 32) (words_in c.args.words) c.in_ok-word.field-0.0.now c.in_default-Some.field-0-1.now (rw c.in_default-Some.is-1 at c.in_ok-word.ensures))
