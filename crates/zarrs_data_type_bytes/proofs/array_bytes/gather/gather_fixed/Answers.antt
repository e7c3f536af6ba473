use Rattle.std.proofs.Common.{subst}
use Rattle.std.proofs.lemmas.Result.{IfOk-weaker}
use Rattle.zarrs_data_type_bytes.specs.Present.{TakesPieces}
use Rattle.zarrs_data_type_bytes.proofs.array_bytes.gather.gather_fixed.Goals as goal

pub returns-in_ok-places-in_default : goal.returns-in_ok-places-in_default
returns-in_ok-places-in_default c =
    let places = c.in_ok-places-in_default.places.items in
    IfOk-weaker c.select_fixed.result _ _
    (λ made taken. (places, c.in_ok-places-in_default.ensures.places, subst (λ l. TakesPieces c.args.size l c.args.cells.now made.items) c.as_slice.ensures.value taken))
    c.select_fixed.ensures
