use Rattle.std.proofs.Common.{◌≡◌, Some, ◌∙◌, ap, sym, subst}
use Rattle.std.proofs.lemmas.Result.{IfOk-weaker}
use Rattle.zarrs_data_type_kinds.specs.Kind.{kind, element_size}
use Rattle.zarrs_data_type_bytes.specs.ArrayData.{ArrayData, data_of, fixed}
use Rattle.zarrs_data_type_bytes.specs.Cells.{IsSelection}
use Rattle.zarrs_data_type_bytes.specs.Present.{ArePlacesSet}
use Rattle.zarrs_data_type_bytes.proofs.Places.{places_are}
use Rattle.zarrs_data_type_bytes.proofs.Presence.{cells-present}
use Rattle.zarrs_data_type_bytes.proofs.Spread.{IsSelection-fixed}
use Rattle.zarrs_data_type_bytes.proofs.array_bytes.ArrayBytesOptional.present.Goals as goal

pub returns-in-Fixed : goal.returns-in-Fixed
returns-in-Fixed c =
    let k = kind c.args.inner.now in
    let mask = c.args.self.now.mask in
    let d = data_of c.args.self.now.data.value in
    let bytes = c.as_slice.result.now in
    let size = c.unwrap-size.result in
    let items = c.in_ok-made.made.items in
    let places = c.in_ok-made.ensures.0 in
    let sized : element_size k ≡ Some size = sym c.element_size.ensures ∙ c.unwrap-size.ensures in
    let held : d ≡ fixed bytes = ap data_of (sym c.deref.ensures ∙ c.in-Fixed.is) ∙ ap fixed (sym c.as_slice.ensures.value) in
    let are = subst (λ m. ArePlacesSet m places) c.as_slice-in-Fixed.ensures.bytes c.in_ok-made.ensures.1 in
    cells-present c.args.inner.now mask d (fixed items) places (places_are mask places are)
    (subst (λ (x : ArrayData). IsSelection k (fixed items) x places) (sym held) (IsSelection-fixed k size bytes items places sized c.in_ok-made.ensures.2))

pub returns : goal.returns
returns c =
    let mask = c.args.self.now.mask in
    IfOk-weaker c.select.result _ _
    (λ made is. cells-present c.args.inner.now mask (data_of c.args.self.now.data.value) (data_of made) c.in_ok-places.places.items
    (places_are mask c.in_ok-places.places.items (subst (λ m. ArePlacesSet m c.in_ok-places.places.items) c.as_slice-2.ensures.bytes c.in_ok-places.ensures.places))
    (rw (sym c.deref-2.ensures, sym c.as_slice-3.ensures.value) is))
    c.select.ensures
