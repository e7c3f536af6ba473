use Rattle.std.proofs.Common.{◌≡◌, ℕ, Some, None, ap, ◌∙◌, sym, subst, IsTrue}
use Rattle.std.specs.Prelude.{option_map}
use Rattle.std.specs.Cow.{cow_slice_items}
use Rattle.zarrs_data_type_bytes.specs.ArrayData.{data_of}
use Rattle.zarrs_data_type_bytes.specs.Cells.{fits}
use Rattle.zarrs_data_type_kinds.specs.Kind.{kind, inner_of}
use Rattle.zarrs_data_type_kinds.specs.Cell.{inner_fill}
use Rattle.zarrs_data_type_kinds.proofs.Sizes.{element_size-positive}
use Rattle.zarrs_data_type_bytes.proofs.Filled.{fill_positive-fits, filled-fixed, filled-variable, filled-none, filled-some, filled-not_some}
use Rattle.zarrs_data_type_bytes.proofs.array_bytes.ArrayBytes.+is_filled.Goals as goal

pub is_repeated-requires : goal.is_repeated-requires
is_repeated-requires t c =
    fill_positive-fits c.args.data_type.now (cow_slice_items c.in-Fixed.bytes) c.args.fill.now
    (subst (λ s. (n : ℕ) × IsTrue (fits (kind c.args.data_type.now) (data_of s) n)) c.in-Fixed.is c.requires.fits) c.requires.filled

pub returns-in-Fixed : goal.returns-in-Fixed
returns-in-Fixed t c =
    rw c.in-Fixed.is (filled-fixed (kind c.args.data_type.now) c.args.fill.now c.requires.filled (cow_slice_items c.in-Fixed.bytes) c.is_repeated.result
    (element_size-positive c.args.data_type.now) (rw (sym c.as_slice.ensures.value) c.is_repeated.ensures))

pub returns-in-Variable : goal.returns-in-Variable
returns-in-Variable t c =
    rw c.in-Variable.is (filled-variable (kind c.args.data_type.now) c.args.fill.now c.requires.filled c.in-Variable.strings c.are_all_strings.result c.are_all_strings.ensures)

pub returns-in-None : goal.returns-in-None
returns-in-None t c =
    let k = kind c.args.data_type.now in
    let u = kind c.unwrap-inner.result.now in
    let is_inner : inner_of k ≡ Some u = sym c.optional_inner.ensures ∙ ap (option_map (λ inner. kind inner.now)) c.unwrap-inner.ensures in
    let front : inner_fill c.args.fill.now ≡ None = sym c.inner_fill.ensures ∙ ap (option_map (λ front. front.now)) c.in-None.is in
    let held = c.as_slice-in-None.ensures in
    rw c.in-Optional.is (filled-none k c.args.fill.now c.requires.filled u is_inner c.in-Optional.optional.mask (data_of c.in-Optional.optional.data.value) held.flags
    c.are_all.result front (rw (sym held.bytes) c.are_all.ensures))

pub returns-then-are_all : goal.returns-then-are_all
returns-then-are_all t c =
    let k = kind c.args.data_type.now in
    let u = kind c.unwrap-inner.result.now in
    let is_inner : inner_of k ≡ Some u = sym c.optional_inner.ensures ∙ ap (option_map (λ inner. kind inner.now)) c.unwrap-inner.ensures in
    let front : inner_fill c.args.fill.now ≡ Some c.in-Some.front.now = sym c.inner_fill.ensures ∙ ap (option_map (λ front. front.now)) c.in-Some.is in
    let held = c.as_slice-in-Some.ensures in
    let ones = sym c.are_all-in-Some.ensures ∙ c.if-are_all.true in
    rw c.in-Optional.is (filled-some k c.args.fill.now c.requires.filled u is_inner c.in-Optional.optional.mask (data_of c.in-Optional.optional.data.value) held.flags
    c.is_filled.result c.in-Some.front.now front (rw (sym held.bytes) ones) (rw (sym c.deref.ensures) c.is_filled.ensures))

pub returns-else-are_all : goal.returns-else-are_all
returns-else-are_all t c =
    let k = kind c.args.data_type.now in
    let u = kind c.unwrap-inner.result.now in
    let is_inner : inner_of k ≡ Some u = sym c.optional_inner.ensures ∙ ap (option_map (λ inner. kind inner.now)) c.unwrap-inner.ensures in
    let front : inner_fill c.args.fill.now ≡ Some c.in-Some.front.now = sym c.inner_fill.ensures ∙ ap (option_map (λ front. front.now)) c.in-Some.is in
    let held = c.as_slice-in-Some.ensures in
    rw c.in-Optional.is (filled-not_some k c.args.fill.now c.requires.filled u is_inner c.in-Optional.optional.mask (data_of c.in-Optional.optional.data.value) held.flags
    c.are_all-in-Some.result c.in-Some.front.now front (rw (sym held.bytes) c.are_all-in-Some.ensures) c.if-are_all.false)
