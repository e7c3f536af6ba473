-- What is said of a result that holds a loan in its struct is said of the one that holds the array by itself.
use Prim.Native.Nat.{ℕ, zero, suc}
use mathlib.Core.List.{List, [], ◌∷◌}
use Rattle.std.proofs.Common.{◌≡◌, refl, sym, ap, subst, IfOk, IfErr, Ok, Err, MutBor}
use seplogic.Ra.Ura.{Ura}
use base.Logic.{ent, emp, via}
use base.Fml.{GName}
use types.Logic.{Logic, sem}
use contract.Lifetimes.{Lfts}
use denote.RattleType.{RattleType}
use denote.Exit.{Kept, Last, left}
use denote.Param.Mute.{Mute}
use denote.Signature.{Slot, plain}
use denote.Builtin.{unit}
use denote.Triple.Walked.{Goes, stay_dropped}
use Rattle.std.specs.Prelude.{Result}
use Rattle.std.specs.Borrow.{RestsIfErr}
use Rattle.zarrs.specs.declared.array.Array.{Array}
use Rattle.zarrs.specs.declared.array.setters.ArrayLoan.{ArrayLoan}
use Rattle.zarrs.specs.Loans.{name_of_array, name_of_loan, IsArrayOf}

module _ {S E : Type 0} where
  pub ok_moves : (P : GName → Array S → Type 0) (r : Result (ArrayLoan S) E) (r' : Result (MutBor (Array S)) E) → IsArrayOf r r'
      → IfOk r (λ loan. P loan.array.ghost_name loan.array.now) → IfOk r' (λ array. P array.ghost_name array.now)
  ok_moves P (Ok loan) (Ok array) is p = subst (λ γ. P γ array.now) (sym is.0) (subst (P loan.array.ghost_name) (sym is.1) p)
  ok_moves P (Ok loan) (Err e) is p = absurd is
  ok_moves P (Err e) (Ok array) is p = absurd is
  ok_moves P (Err e) (Err e') is p = tt

  pub err_moves : (P : E → Type 0) (r : Result (ArrayLoan S) E) (r' : Result (MutBor (Array S)) E) → IsArrayOf r r' → IfErr r P → IfErr r' P
  err_moves P (Ok loan) (Ok array) is p = tt
  err_moves P (Ok loan) (Err e) is p = absurd is
  err_moves P (Err e) (Ok array) is p = absurd is
  err_moves P (Err e) (Err e') is p = subst P (sym is) p

  pub rest_moves : (R : RattleType) (array : MutBor R.Denot) (P : R.Denot → Type 0) (r : Result (ArrayLoan S) E) (r' : Result (MutBor (Array S)) E) → IsArrayOf r r'
      → RestsIfErr R array (name_of_loan {S = S}) r P ≡ RestsIfErr R array (name_of_array {S = S}) r' P
  rest_moves R array P (Ok loan) (Ok r) is = ap (λ (γ : GName). RestsIfErr R array {A = GName} (λ name. name) {E = E} (Ok γ) P) (sym is.0)
  rest_moves R array P (Ok loan) (Err e) is = absurd is
  rest_moves R array P (Err e) (Ok r) is = absurd is
  rest_moves R array P (Err e) (Err e') is = refl

-- the slot at a position
abbrev pub slot_at : {n : ℕ} → ℕ → List (Slot n) → Slot n
slot_at i [] = plain (λ _. unit)
slot_at zero (s ∷ ss) = s
slot_at (suc i) (s ∷ ss) = slot_at i ss

-- a parameter by value at whose exit nothing is learnt
pub goes_mute : {M : Type 1} {𝓤 : Ura M} (𝓛 : Logic 𝓤) (n : ℕ) (s : Slot n) (k : Kept) → ((κs : Lfts n) → Mute ((s.row κs).exit k)) → Goes 𝓛 n s k (stay_dropped s k)
goes_mute {𝓤 = 𝓤} 𝓛 n s k mute κs x f vs fits = subst (λ (w : Last ((s.row κs).exit k) x). ent 𝓤 (emp 𝓤) (𝓛.H.⇛ (sem 𝓛 (left ((s.row κs).exit k) x w)))) (sym ((mute κs).once x f))
    (via 𝓤 _ ((mute κs).quiet _ 𝓤 𝓛 x) (𝓛.laws.⇛_intro _))
