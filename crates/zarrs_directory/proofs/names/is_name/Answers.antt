use Rattle.std.proofs.Common.{◌≡◌, [], ◌∷◌, length, sym, ◌∙◌, arith}
use Rattle.std.proofs.lemmas.Bool.{false≢true}
use Rattle.std.proofs.lemmas.Bool.Decides.{nat_tests}
use Rattle.std.proofs.lemmas.List.{nil_from_length}
use Rattle.std.proofs.lemmas.Slice.Eq.{bytes_eq-Decides}
use Rattle.zarrs_directory.proofs.names.is_name.Goals.{then-is_empty-via-then-is_empty, then-is_empty-via-else-is_empty+then-eq, then-is_empty-via-else-is_empty+else-eq+then-eq-2}
use Rattle.zarrs_directory.proofs.names.is_name.Goals as goal

pub returns-then-is_empty : goal.returns-then-is_empty
returns-then-is_empty c =
    let said = c.args.name.now in (
      λ wrong. absurd (false≢true wrong),
      λ name. absurd (elim c.then-is_empty.branch [
        | then-is_empty-via-then-is_empty w ↦ let none : length said ≡ 0 = grind (arith, nat_tests, w.if-is_empty.true, c.is_empty.ensures) in name.0 (nil_from_length said none)
        | then-is_empty-via-else-is_empty+then-eq w ↦ name.1 ((bytes_eq-Decides said (46 ∷ [])).0 (sym w.eq.ensures ∙ w.if-eq.true))
        | then-is_empty-via-else-is_empty+else-eq+then-eq-2 w ↦ name.2 ((bytes_eq-Decides said (46 ∷ 46 ∷ [])).0 (sym w.eq-else-eq.ensures ∙ w.if-eq-2.true))
      ]),
    )
