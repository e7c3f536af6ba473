use Rattle.std.proofs.Common.{ℕ, List, map, sym, ap, ◌∙◌}
use Rattle.std.specs.Borrow.{Bor}
use Rattle.zarr_cells.proofs.ListLemmas.{numbers_refused}
use Rattle.zarr_cells.proofs.words.numbers.Goals as goal

pub returns-clause-refused : goal.returns-clause-refused
returns-clause-refused c =
    numbers_refused c.args.word.now c.deref.result.now c.part_numbers.result (sym c.eq.ensures ∙ c.if-eq.false)
    (ap (map (λ (part : Bor (List ℕ)). part.now)) c.deref.ensures.value ∙ c.in_ok-parts.ensures) c.part_numbers.ensures.refused
