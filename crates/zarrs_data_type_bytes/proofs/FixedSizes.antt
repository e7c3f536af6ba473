-- The sizes of cells of fixed types.
use Rattle.std.proofs.Common.{◌≡◌, ℕ, true, false, List, length, Option, None, Some, refl, sym, ap, ◌∙◌, arith}
use Rattle.std.specs.Prelude.{unwrap_or}
use Rattle.std.proofs.lemmas.Bool.{false≢true}
use Rattle.zarrs_data_type_kinds.specs.Kind.{Kind, element_size, fixed_size, cell_size, inner_of}
use Rattle.zarrs_data_type_kinds.specs.Kind as type
use Rattle.zarrs_data_type_kinds.specs.Cell.{Cell, bytes, none, some, is_element, is_value, held_size}
use Rattle.zarrs_data_type_kinds.proofs.Sizes.{cell_size-fixed, element_len, held_size-inner}

-- equal values, wherever there are any
pub some_is : {A : Type 0} {x y : A} → Some x ≡ Some y → x ≡ y
some_is e = cc

-- an optional type
pub optional_is : (k u : Kind) → inner_of k ≡ Some u → k ≡ type.optional u
optional_is (type.optional inner) u is = ap type.optional (some_is is)
optional_is type.bool u is = cc
optional_is type.int8 u is = cc
optional_is type.int16 u is = cc
optional_is type.int32 u is = cc
optional_is type.int64 u is = cc
optional_is type.uint8 u is = cc
optional_is type.uint16 u is = cc
optional_is type.uint32 u is = cc
optional_is type.uint64 u is = cc
optional_is (type.raw n) u is = cc
optional_is type.string u is = cc
optional_is type.bytes u is = cc

element_fixed : (k : Kind) (size : ℕ) (b : List ℕ) → fixed_size k ≡ Some size → is_element k b ≡ true → element_size k ≡ Some size
element_fixed (type.optional inner) size b is v = absurd (false≢true v)
element_fixed type.bool size b is v = is
element_fixed type.int8 size b is v = is
element_fixed type.int16 size b is v = is
element_fixed type.int32 size b is v = is
element_fixed type.int64 size b is v = is
element_fixed type.uint8 size b is v = is
element_fixed type.uint16 size b is v = is
element_fixed type.uint32 size b is v = is
element_fixed type.uint64 size b is v = is
element_fixed (type.raw n) size b is v = is
element_fixed type.string size b is v = cc
element_fixed type.bytes size b is v = cc

pub size_is : (k : Kind) (size : ℕ) → fixed_size k ≡ Some size → cell_size k ≡ size
size_is k size is = sym (cell_size-fixed k) ∙ ap (λ o. unwrap_or o 1) is

inner_value : (o : Option Kind) (c : Cell) → elim o [ None ↦ false | Some u ↦ is_value u c ] ≡ true → (u : Kind) × (o ≡ Some u) × (is_value u c ≡ true)
inner_value None c v = absurd (false≢true v)
inner_value (Some u) c v = (u, refl, v)

-- a value of a fixed type takes the size of a cell
pub held_fixed : (k : Kind) (size : ℕ) (c : Cell) → fixed_size k ≡ Some size → is_value k c ≡ true → held_size k c ≡ size
held_fixed k size (bytes b) is v =
    let len : length b ≡ size = element_len k size b (element_fixed k size b is v) v in
    let same : cell_size k ≡ size = size_is k size is in
    omega arith
held_fixed k size none is v = size_is k size is
held_fixed k size (some c) is v =
    let u = inner_value (inner_of k) c v in
    let e = optional_is k u.0 u.1 in
    ap (λ w. held_size w c) e ∙ held_size-inner u.0 c ∙ held_fixed u.0 size c (ap fixed_size (sym e) ∙ is) u.2
