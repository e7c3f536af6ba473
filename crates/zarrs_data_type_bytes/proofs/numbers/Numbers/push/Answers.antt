use Rattle.std.proofs.Common.{◌≡◌, ℕ, List, ◌++◌, ◌∷◌, [], Result, Ok, Err, sym, ap, subst, ◌∙◌}
use Rattle.std.specs.Prelude.{OnOk, is_ok, if◌then◌else◌}
use Rattle.zarrs_data_type_bytes.specs.Places.{numbers_in}
use Rattle.zarrs_data_type_bytes.proofs.NumberCells.{numbers-push}
use Rattle.zarrs_data_type_bytes.proofs.numbers.Numbers.push.Goals as goal

-- what holds of the longer list holds of the list after a call that succeeds
longer : {T E : Type 0} (r : Result T E) (new more old : List ℕ) (P : List ℕ → Type 0) → new ≡ (if is_ok r then more else old) → P more → OnOk r (P new)
longer (Ok v) new more old P is holds = subst P (sym is) holds
longer (Err e) new more old P is holds = tt

pub returns : goal.returns
returns c =
    let own = c.self.inside.bytes.items in
    let number = c.args.number in
    longer c.extend_from_slice.result c.extend_from_slice.new.self.items (own ++ c.to_le_bytes.result) own (λ l. numbers_in l ≡ c.args.self.now ++ number ∷ [])
    c.extend_from_slice.ensures.items
    (ap (λ l. numbers_in (own ++ l)) c.to_le_bytes.ensures ∙ numbers-push own number c.self.invariant c.ranges.number.fits ∙ ap (λ l. l ++ number ∷ []) c.self.view_is)
