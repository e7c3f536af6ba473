use Rattle.std.proofs.Common.{◌≡◌, ◌*◌, ◌<◌, ◌^◌, true, Some, sym, ap, subst, ◌∙◌, length}
use Rattle.std.specs.Prelude.{count_by}
use Rattle.std.proofs.lemmas.Result.{IfOk-weaker}
use Rattle.zarrs_data_type_kinds.specs.Kind.{kind, element_size}
use Rattle.zarrs_data_type_kinds.proofs.Sizes.{cell_size-element}
use Rattle.zarrs_data_type_bytes.specs.ArrayData.{data_of, fixed}
use Rattle.zarrs_data_type_bytes.specs.Cells.{fits, HasCells, IsSelection}
use Rattle.zarrs_data_type_bytes.specs.Present.{flag_set, ranks_set}
use Rattle.zarrs_data_type_bytes.proofs.Cells.{fitting-fixed}
use Rattle.zarrs_data_type_bytes.proofs.Fixed.{length-fixed}
use Rattle.zarrs_data_type_bytes.proofs.Presence.{not_both, length-ranks}
use Rattle.zarrs_data_type_bytes.proofs.Spread.{IsSelection-fixed, CanSelect-ranks}
use Rattle.zarrs_data_type_bytes.proofs.array_bytes.ArrayBytes.spread.Goals as goal

pub returns-then-fits : goal.returns-then-fits
returns-then-fits c =
    let k = kind c.args.data_type.now in
    let mask = c.args.mask.now in
    record {
      kind = IfOk-weaker c.into_owned.result _ _ (λ made same. subst (λ d. fits k d (length mask) ≡ true) (sym same) c.in_ok-none.ensures) c.into_owned.ensures;
      cells = IfOk-weaker c.into_owned.result _ _
          (λ made same n fit some_there. absurd (not_both c.args.data_type.now (data_of c.args.self.now) n (sym c.fits.ensures ∙ c.if-fits.true) fit some_there))
          c.into_owned.ensures;
    }

pub spread_fixed-requires-clause-cells : goal.spread_fixed-requires-clause-cells
spread_fixed-requires-clause-cells c =
    let k = kind c.args.data_type.now in
    let ones = count_by flag_set c.args.mask.now in
    let size : element_size k ≡ Some c.unwrap-size.result = sym c.element_size.ensures ∙ c.unwrap-size.ensures in
    let same : data_of c.args.self.now ≡ fixed c.as_slice.result.now = ap data_of c.in-Fixed.is ∙ ap fixed (sym c.as_slice.ensures.value) in
    length-fixed k c.unwrap-size.result size c.as_slice.result.now ones (subst (λ d. HasCells k d ones) same c.requires.present)

pub spread_fixed-requires-clause-size : goal.spread_fixed-requires-clause-size
spread_fixed-requires-clause-size c =
    let k = kind c.args.data_type.now in
    let size : element_size k ≡ Some c.unwrap-size.result = sym c.element_size.ensures ∙ c.unwrap-size.ensures in
    subst (λ n. length c.args.mask.now * n < 2 ^ 64) (cell_size-element k c.unwrap-size.result size) c.requires.size

pub returns-in-Fixed-clause-kind : goal.returns-in-Fixed-clause-kind
returns-in-Fixed-clause-kind c =
    let k = kind c.args.data_type.now in
    let mask = c.args.mask.now in
    let size : element_size k ≡ Some c.unwrap-size.result = sym c.element_size.ensures ∙ c.unwrap-size.ensures in
    fitting-fixed k c.unwrap-size.result c.in_ok-spread.spread.items (length mask) size (c.in_ok-spread.ensures.len ∙ ap (λ m. m * c.unwrap-size.result) (length-ranks mask))

pub returns-in-Fixed-clause-cells : goal.returns-in-Fixed-clause-cells
returns-in-Fixed-clause-cells c = λ n fit some_there.
    let k = kind c.args.data_type.now in
    let mask = c.args.mask.now in
    let ranks = ranks_set mask (length mask) in
    let items = c.in_ok-spread.spread.items in
    let size : element_size k ≡ Some c.unwrap-size.result = sym c.element_size.ensures ∙ c.unwrap-size.ensures in
    let same : data_of c.args.self.now ≡ fixed c.as_slice.result.now = ap data_of c.in-Fixed.is ∙ ap fixed (sym c.as_slice.ensures.value) in
    subst (λ d. IsSelection k (fixed items) d ranks) (sym same) (IsSelection-fixed k c.unwrap-size.result c.as_slice.result.now items ranks size c.in_ok-spread.ensures)

pub select-requires : goal.select-requires
select-requires c =
    let mask = c.args.mask.now in
    let ranks : c.as_slice-2.result.now ≡ ranks_set mask (length mask) = c.as_slice-2.ensures.value ∙ c.in_ok-ranks.ensures in
    CanSelect-ranks (kind c.args.data_type.now) (data_of c.args.self.now) mask c.as_slice-2.result.now (sym c.fits.ensures ∙ c.if-fits.false) c.requires.present ranks

pub returns : goal.returns
returns c =
    let k = kind c.args.data_type.now in
    let d = data_of c.args.self.now in
    let mask = c.args.mask.now in
    let ranks : c.as_slice-2.result.now ≡ ranks_set mask (length mask) = c.as_slice-2.ensures.value ∙ c.in_ok-ranks.ensures in
    let selected = c.in_ok-selected.ensures in
    record {
      kind = IfOk-weaker c.into_owned-2.result _ _
          (λ made same. subst (λ e. fits k e (length mask) ≡ true) (sym same) (subst (λ n. fits k (data_of c.in_ok-selected.selected) n ≡ true) (ap length ranks ∙ length-ranks mask) selected.has_kind))
          c.into_owned-2.ensures;
      cells = IfOk-weaker c.into_owned-2.result _ _
          (λ made same n fit some_there. subst (λ e. IsSelection k e d (ranks_set mask (length mask))) (sym same) (subst (λ l. IsSelection k (data_of c.in_ok-selected.selected) d l) ranks selected))
          c.into_owned-2.ensures;
    }
