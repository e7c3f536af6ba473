-- Data types that are the same.
use Rattle.std.specs.Prelude.{◌≡◌, Bool, true, false, ◌==◌, refl}
use Rattle.std.specs.Bool.{Decides}
use Rattle.std.specs.Cmp.{IsEquivalence, IsPartialEquivalence, partial_equiv_from_equiv, decided, on_equiv}
use Rattle.std.specs.Ordering.{on}
use Rattle.std.proofs.Common.{sym, ap, ◌∙◌}
use Rattle.std.proofs.lemmas.Bool.{eqb-true, eq-eqb}
use Rattle.std.specs.Str.{bytes_eq}
use Rattle.std.proofs.lemmas.Slice.Eq.{bytes_eq-Decides}
use Rattle.zarrs_data_type_kinds.specs.declared.data_type.DataType.{DataType}
use Rattle.zarrs_data_type_kinds.specs.Kind.{Kind, bool, int8, int16, int32, int64, uint8, uint16, uint32, uint64, raw, string, bytes, optional, kind}

-- whether two data types are the same
abbrev pub kind_eq : Kind → Kind → Bool
kind_eq bool bool = true
kind_eq int8 int8 = true
kind_eq int16 int16 = true
kind_eq int32 int32 = true
kind_eq int64 int64 = true
kind_eq uint8 uint8 = true
kind_eq uint16 uint16 = true
kind_eq uint32 uint32 = true
kind_eq uint64 uint64 = true
kind_eq (raw a) (raw b) = a == b
kind_eq string string = true
kind_eq bytes bytes = true
kind_eq (optional a) (optional b) = kind_eq a b
kind_eq _ _ = false

kind_eq-true : (a b : Kind) → kind_eq a b ≡ true → a ≡ b
kind_eq-true bool bool is = refl
kind_eq-true int8 int8 is = refl
kind_eq-true int16 int16 is = refl
kind_eq-true int32 int32 is = refl
kind_eq-true int64 int64 is = refl
kind_eq-true uint8 uint8 is = refl
kind_eq-true uint16 uint16 is = refl
kind_eq-true uint32 uint32 is = refl
kind_eq-true uint64 uint64 is = refl
kind_eq-true (raw a) (raw b) is = ap raw (eqb-true a b is)
kind_eq-true string string is = refl
kind_eq-true bytes bytes is = refl
kind_eq-true (optional a) (optional b) is = ap optional (kind_eq-true a b is)
kind_eq-true a b is = cc

kind_eq-same : (a : Kind) → kind_eq a a ≡ true
kind_eq-same bool = refl
kind_eq-same int8 = refl
kind_eq-same int16 = refl
kind_eq-same int32 = refl
kind_eq-same int64 = refl
kind_eq-same uint8 = refl
kind_eq-same uint16 = refl
kind_eq-same uint32 = refl
kind_eq-same uint64 = refl
kind_eq-same (raw a) = eq-eqb a a refl
kind_eq-same string = refl
kind_eq-same bytes = refl
kind_eq-same (optional a) = kind_eq-same a

pub kind_eq-Decides : (a b : Kind) → Decides (kind_eq a b) (a ≡ b)
kind_eq-Decides a b = (kind_eq-true a b, λ same. ap (λ k. kind_eq a k) (sym same) ∙ kind_eq-same a)

-- whether two values of the code stand for the same data type
abbrev pub type_eq : DataType → DataType → Bool
type_eq = on kind kind_eq

pub type_eq-equivalence : IsEquivalence type_eq
type_eq-equivalence = on_equiv kind (decided kind_eq kind_eq-Decides)

pub type_eq-laws : IsPartialEquivalence type_eq
type_eq-laws = partial_equiv_from_equiv type_eq-equivalence

-- two lists of bytes are the same
pub bytes_eq-equivalence : IsEquivalence bytes_eq
bytes_eq-equivalence = decided bytes_eq bytes_eq-Decides

pub bytes_eq-laws : IsPartialEquivalence bytes_eq
bytes_eq-laws = partial_equiv_from_equiv bytes_eq-equivalence
