-- The size of a cell of a type, and the number of its masks.
use Rattle.std.proofs.Common.{◌≡◌, ℕ, ◌*◌, true, false, ◌&&◌, Option, None, Some, inl, inr, refl, sym, ap, ◌∙◌, subst}
use Rattle.std.specs.Prelude.{◌==◌}
use Rattle.std.proofs.lemmas.Bool.{cases_Bool, eqb-true, and_parts, false≢true}
use Rattle.zarrs_data_type_kinds.specs.Kind.{Kind, element_size, fixed_size, cell_size, is_variable}
use Rattle.zarrs_data_type_kinds.specs.Kind as type
use Rattle.zarrs_data_type_bytes.specs.ArrayData.{ArrayData, fixed, variable, optional}
use Rattle.zarrs_data_type_bytes.specs.Cells.{fits}
use Rattle.zarrs_data_type_bytes.proofs.Filled.{fits-fixed, fits-variable, fits-optional}
use Rattle.zarrs_data_type_region.specs.Targets.{HasLevels, depth_of, takes_type}
use Rattle.zarrs_data_type_bytes.proofs.FixedSizes.{optional_is, some_is}

-- a type with elements of one size
pub element_is : (k : Kind) (size : ℕ) → element_size k ≡ Some size → (fixed_size k ≡ Some size) × (depth_of k ≡ 0)
element_is (type.optional inner) size is = cc
element_is type.bool size is = (is, refl)
element_is type.int8 size is = (is, refl)
element_is type.int16 size is = (is, refl)
element_is type.int32 size is = (is, refl)
element_is type.int64 size is = (is, refl)
element_is type.uint8 size is = (is, refl)
element_is type.uint16 size is = (is, refl)
element_is type.uint32 size is = (is, refl)
element_is type.uint64 size is = (is, refl)
element_is (type.raw n) size is = (is, refl)
element_is type.string size is = cc
element_is type.bytes size is = cc

pub variable_none : (k : Kind) → is_variable k ≡ true → fixed_size k ≡ None
variable_none (type.optional inner) is = absurd (false≢true is)
variable_none type.bool is = absurd (false≢true is)
variable_none type.int8 is = absurd (false≢true is)
variable_none type.int16 is = absurd (false≢true is)
variable_none type.int32 is = absurd (false≢true is)
variable_none type.int64 is = absurd (false≢true is)
variable_none type.uint8 is = absurd (false≢true is)
variable_none type.uint16 is = absurd (false≢true is)
variable_none type.uint32 is = absurd (false≢true is)
variable_none type.uint64 is = absurd (false≢true is)
variable_none (type.raw n) is = absurd (false≢true is)
variable_none type.string is = refl
variable_none type.bytes is = refl

-- what a target takes
taken : (o : Option ℕ) (cell_size depth deep : ℕ) → elim o [ None ↦ false | Some size ↦ (size == cell_size) && (deep == depth) ] ≡ true
    → (o ≡ Some cell_size) × (deep ≡ depth)
taken None cell_size depth deep is = absurd (false≢true is)
taken (Some size) cell_size depth deep is =
    let both = and_parts (size == cell_size) (deep == depth) is in
    (ap Some (eqb-true size cell_size both.0), eqb-true deep depth both.1)

pub type_taken : (cell_size depth : ℕ) (k : Kind) → takes_type cell_size depth k ≡ true → (fixed_size k ≡ Some cell_size) × (depth_of k ≡ depth)
type_taken cell_size depth k is = taken (fixed_size k) cell_size depth (depth_of k) is

-- which is no variable type
pub taken_fixed : (cell_size depth : ℕ) (k : Kind) → takes_type cell_size depth k ≡ true → is_variable k ≡ false
taken_fixed cell_size depth k is = elim (cases_Bool (is_variable k)) [
  | inl variable_type ↦ absurd (let clash : None ≡ Some cell_size = sym (variable_none k variable_type) ∙ (type_taken cell_size depth k is).0 in cc)
  | inr fixed_type ↦ fixed_type
]

-- data that fits the type has its levels
pub fits_levels : (k : Kind) (size n : ℕ) (d : ArrayData) → fixed_size k ≡ Some size → fits k d n ≡ true → HasLevels (depth_of k) size n d
fits_levels k size n (fixed b) is fit =
    let f = fits-fixed k b n fit in
    let e = element_is k f.0 f.1 in
    let same : f.0 ≡ size = some_is (sym e.0 ∙ is) in
    subst (λ depth. HasLevels depth size n (fixed b)) (sym e.1) (f.2 ∙ ap (λ s. n * s) same)
fits_levels k size n (variable strings) is fit =
    let f = fits-variable k strings n fit in
    let e : None ≡ Some size = sym (variable_none k f.0) ∙ is in cc
fits_levels k size n (optional mask inner) is fit =
    let f = fits-optional k mask inner n fit in
    let e = optional_is k f.0 f.1 in
    subst (λ v. HasLevels (depth_of v) size n (optional mask inner)) (sym e)
    (f.2, fits_levels f.0 size n inner (ap fixed_size (sym e) ∙ is) f.3)

pub levels_of : (k : Kind) (cell_size depth n : ℕ) (d : ArrayData) → takes_type cell_size depth k ≡ true → fits k d n ≡ true → HasLevels depth cell_size n d
levels_of k cell_size depth n d is fit =
    let e = type_taken cell_size depth k is in
    subst (λ v. HasLevels v cell_size n d) e.1 (fits_levels k cell_size n d e.0 fit)
