-- A blank cell of a type.
use Rattle.std.proofs.Common.{◌≡◌, ℕ, ◌*◌, ◌^◌, ◌≤◌, cond, [], length, replicate, None, Some, IsSome, refl, sym, ap, ◌∙◌, arith}
use Rattle.std.specs.Prelude.{unwrap_or, is_some, max}
use Rattle.std.proofs.lemmas.Bool.{eq-eqb}
use Rattle.std.proofs.lemmas.List.{length-replicate}
use Rattle.std.proofs.lemmas.Str.{is_utf8-from_IsUtf8}
use Rattle.std.proofs.Math.Nat.{le-mul_of_pos_right, le-max_left}
use Rattle.zarrs_data_type_kinds.proofs.Sizes.{cell_size-positive}
use Rattle.zarrs_data_type_kinds.specs.declared.data_type.DataType.{DataType}
use Rattle.zarrs_data_type.specs.Kind.{Kind, kind, element_size, cell_size, inner_of}
use Rattle.zarrs_data_type.specs.Kind as type
use Rattle.zarrs_data_type.specs.Cell.{Cell, bytes, none, some, fill_cell, fill_of, held_size}
use Rattle.zarrs_codec_shard.specs.Blank.{blank_bytes}

-- its bytes, as the code makes them
pub blank_optional : (k u : Kind) → inner_of k ≡ Some u → length (blank_bytes k) ≡ 1
blank_optional (type.optional inner) u is = refl
blank_optional type.bool u is = cc
blank_optional type.int8 u is = cc
blank_optional type.int16 u is = cc
blank_optional type.int32 u is = cc
blank_optional type.int64 u is = cc
blank_optional type.uint8 u is = cc
blank_optional type.uint16 u is = cc
blank_optional type.uint32 u is = cc
blank_optional type.uint64 u is = cc
blank_optional (type.raw n) u is = cc
blank_optional type.string u is = cc
blank_optional type.bytes u is = cc

pub blank_plain : (k : Kind) → inner_of k ≡ None → length (blank_bytes k) ≡ unwrap_or (element_size k) 0
blank_plain (type.optional inner) is = cc
blank_plain type.bool is = refl
blank_plain type.int8 is = refl
blank_plain type.int16 is = refl
blank_plain type.int32 is = refl
blank_plain type.int64 is = refl
blank_plain type.uint8 is = refl
blank_plain type.uint16 is = refl
blank_plain type.uint32 is = refl
blank_plain type.uint64 is = refl
blank_plain (type.raw n) is = length-replicate {A = ℕ} n 0
blank_plain type.string is = refl
blank_plain type.bytes is = refl

pub blank_zeros : (k : Kind) → blank_bytes k ≡ replicate (length (blank_bytes k)) 0
blank_zeros (type.optional inner) = refl
blank_zeros type.bool = refl
blank_zeros type.int8 = refl
blank_zeros type.int16 = refl
blank_zeros type.int32 = refl
blank_zeros type.int64 = refl
blank_zeros type.uint8 = refl
blank_zeros type.uint16 = refl
blank_zeros type.uint32 = refl
blank_zeros type.uint64 = refl
blank_zeros (type.raw n) = ap (λ m. replicate m 0) (sym (length-replicate {A = ℕ} n 0))
blank_zeros type.string = refl
blank_zeros type.bytes = refl

max_self : (n : ℕ) → max n n ≡ n
max_self n = omega arith

-- a cell of the type, of the least size
pub record IsBlank (k : Kind) : Type 0 where
  pub value : IsSome (fill_cell k (blank_bytes k))
  pub least : held_size k (fill_of k (blank_bytes k)) ≡ cell_size k

pub blank_is : (k : Kind) → IsBlank k
blank_is (type.optional inner) = record { value = refl; least = refl }
blank_is type.bool = record { value = refl; least = refl }
blank_is type.int8 = record { value = refl; least = refl }
blank_is type.int16 = record { value = refl; least = refl }
blank_is type.int32 = record { value = refl; least = refl }
blank_is type.int64 = record { value = refl; least = refl }
blank_is type.uint8 = record { value = refl; least = refl }
blank_is type.uint16 = record { value = refl; least = refl }
blank_is type.uint32 = record { value = refl; least = refl }
blank_is type.uint64 = record { value = refl; least = refl }
blank_is type.string =
    let cell : fill_cell type.string [] ≡ Some (bytes []) = ap (λ b. cond b (Some (bytes [])) None) (is_utf8-from_IsUtf8 [] ([], (refl, refl))) in
    record { value = ap is_some cell; least = ap (λ o. held_size type.string (unwrap_or o none)) cell }
blank_is type.bytes = record { value = refl; least = refl }
blank_is (type.raw n) =
    let len = length-replicate {A = ℕ} n 0 in
    let cell : fill_cell (type.raw n) (blank_bytes (type.raw n)) ≡ Some (bytes (replicate n 0)) =
    ap (λ b. cond b (Some (bytes (replicate n 0))) None) (eq-eqb (length (replicate n 0)) n len) in
    record {
      value = ap is_some cell;
      least = ap (λ o. held_size (type.raw n) (unwrap_or o none)) cell ∙ ap (max n) len ∙ max_self n;
    }

-- cells that are too many are too large
pub held_large : (t : DataType) (n : ℕ) (c : Cell) → 2 ^ 64 ≤ n → 2 ^ 64 ≤ n * held_size (kind t) c
held_large t n c large =
    let le = le-mul_of_pos_right {m = held_size (kind t) c} n (omega (arith, cell_size-positive t, held_least (kind t) c)) in
    omega arith
  where
    held_least : (k : Kind) (c : Cell) → cell_size k ≤ held_size k c
    held_least k (bytes b) = le-max_left (cell_size k) (length b)
    held_least k none = omega arith
    held_least k (some c) = held_least k c
