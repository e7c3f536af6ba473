-- The sizes of cells.
use Rattle.std.proofs.Common.{◌≡◌, ℕ, ◌<◌, eqb, List, length, None, Some, true, refl, ◌∙◌, arith}
use Rattle.std.specs.Prelude.{unwrap_or}
use Rattle.std.proofs.lemmas.Bool.{eqb-true, and_parts}
use Rattle.zarrs_data_type_kinds.specs.declared.data_type.DataType.{DataType}
use Rattle.zarrs_data_type_kinds.specs.declared.data_type.DataType as ty
use Rattle.zarrs_data_type_kinds.specs.Kind.{Kind, kind, element_size, fixed_size, cell_size, inner_of}
use Rattle.zarrs_data_type_kinds.specs.Kind as type
use Rattle.zarrs_data_type_kinds.specs.Cell.{Cell, bytes, none, some, is_element, held_size}

some_is : {A : Type 0} {x y : A} → Some x ≡ Some y → x ≡ y
some_is e = cc

-- a cell of a data type has a byte at least
pub element_size-positive : (t : DataType) (size : ℕ) → element_size (kind t) ≡ Some size → 0 < size
element_size-positive ty.Bool size is = omega (arith, some_is is)
element_size-positive ty.Int8 size is = omega (arith, some_is is)
element_size-positive ty.Int16 size is = omega (arith, some_is is)
element_size-positive ty.Int32 size is = omega (arith, some_is is)
element_size-positive ty.Int64 size is = omega (arith, some_is is)
element_size-positive ty.UInt8 size is = omega (arith, some_is is)
element_size-positive ty.UInt16 size is = omega (arith, some_is is)
element_size-positive ty.UInt32 size is = omega (arith, some_is is)
element_size-positive ty.UInt64 size is = omega (arith, some_is is)
element_size-positive (ty.Raw s) size is = let e = some_is is in let ok = s.ok in omega arith
element_size-positive ty.String size is = cc
element_size-positive ty.Bytes size is = cc
element_size-positive (ty.Optional' p inner) size is = cc

pub cell_size-positive : (t : DataType) → 0 < cell_size (kind t)
cell_size-positive ty.Bool = omega arith
cell_size-positive ty.Int8 = omega arith
cell_size-positive ty.Int16 = omega arith
cell_size-positive ty.Int32 = omega arith
cell_size-positive ty.Int64 = omega arith
cell_size-positive ty.UInt8 = omega arith
cell_size-positive ty.UInt16 = omega arith
cell_size-positive ty.UInt32 = omega arith
cell_size-positive ty.UInt64 = omega arith
cell_size-positive (ty.Raw s) = let ok = s.ok in omega arith
cell_size-positive ty.String = omega arith
cell_size-positive ty.Bytes = omega arith
cell_size-positive (ty.Optional' p inner) = cell_size-positive inner

-- the least size of a cell is the size of an element, where there is one
pub cell_size-element : (k : Kind) (size : ℕ) → element_size k ≡ Some size → cell_size k ≡ size
cell_size-element (type.optional inner) size is = cc
cell_size-element type.bool size is = some_is is
cell_size-element type.int8 size is = some_is is
cell_size-element type.int16 size is = some_is is
cell_size-element type.int32 size is = some_is is
cell_size-element type.int64 size is = some_is is
cell_size-element type.uint8 size is = some_is is
cell_size-element type.uint16 size is = some_is is
cell_size-element type.uint32 size is = some_is is
cell_size-element type.uint64 size is = some_is is
cell_size-element (type.raw n) size is = some_is is
cell_size-element type.string size is = cc
cell_size-element type.bytes size is = cc

-- a type with such a size is not optional
pub no_inner : (k : Kind) (size : ℕ) → element_size k ≡ Some size → inner_of k ≡ None
no_inner (type.optional inner) size is = cc
no_inner type.bool size is = refl
no_inner type.int8 size is = refl
no_inner type.int16 size is = refl
no_inner type.int32 size is = refl
no_inner type.int64 size is = refl
no_inner type.uint8 size is = refl
no_inner type.uint16 size is = refl
no_inner type.uint32 size is = refl
no_inner type.uint64 size is = refl
no_inner (type.raw n) size is = refl
no_inner type.string size is = refl
no_inner type.bytes size is = refl

-- an element has the type's size
pub element_len : (k : Kind) (size : ℕ) (b : List ℕ) → element_size k ≡ Some size → is_element k b ≡ true → length b ≡ size
element_len (type.optional inner) size b is v = cc
element_len type.bool size b is v = eqb-true (length b) 1 (and_parts (eqb (length b) 1) _ v).0 ∙ some_is is
element_len type.int8 size b is v = eqb-true (length b) 1 v ∙ some_is is
element_len type.int16 size b is v = eqb-true (length b) 2 v ∙ some_is is
element_len type.int32 size b is v = eqb-true (length b) 4 v ∙ some_is is
element_len type.int64 size b is v = eqb-true (length b) 8 v ∙ some_is is
element_len type.uint8 size b is v = eqb-true (length b) 1 v ∙ some_is is
element_len type.uint16 size b is v = eqb-true (length b) 2 v ∙ some_is is
element_len type.uint32 size b is v = eqb-true (length b) 4 v ∙ some_is is
element_len type.uint64 size b is v = eqb-true (length b) 8 v ∙ some_is is
element_len (type.raw n) size b is v = eqb-true (length b) n v ∙ some_is is
element_len type.string size b is v = cc
element_len type.bytes size b is v = cc

-- a cell takes as many bytes in an optional type as in its inner type
pub held_size-inner : (u : Kind) (c : Cell) → held_size (type.optional u) c ≡ held_size u c
held_size-inner u (bytes b) = refl
held_size-inner u none = refl
held_size-inner u (some c) = held_size-inner u c

-- it is the size of a cell of a fixed type, and 1 of another
pub cell_size-fixed : (k : Kind) → unwrap_or (fixed_size k) 1 ≡ cell_size k
cell_size-fixed (type.optional inner) = cell_size-fixed inner
cell_size-fixed type.string = refl
cell_size-fixed type.bytes = refl
cell_size-fixed (type.raw size) = refl
cell_size-fixed type.bool = refl
cell_size-fixed type.int8 = refl
cell_size-fixed type.int16 = refl
cell_size-fixed type.int32 = refl
cell_size-fixed type.int64 = refl
cell_size-fixed type.uint8 = refl
cell_size-fixed type.uint16 = refl
cell_size-fixed type.uint32 = refl
cell_size-fixed type.uint64 = refl
