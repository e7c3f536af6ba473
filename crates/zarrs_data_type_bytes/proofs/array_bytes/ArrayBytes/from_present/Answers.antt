use Rattle.std.proofs.Common.{◌≡◌, ℕ, ◌<◌, true, ◌∙◌, refl, sym, ap, subst, length}
use Rattle.std.proofs.lemmas.Result.{IfOk-weaker}
use Rattle.zarrs_data_type_kinds.specs.Kind.{kind}
use Rattle.zarrs_data_type_bytes.specs.ArrayData.{data_of}
use Rattle.zarrs_data_type_bytes.specs.Cells.{fits, IsSelection}
use Rattle.zarrs_data_type_bytes.specs.Present.{ranks_set}
use Rattle.zarrs_data_type_bytes.proofs.Presence.{length-ranks, cells-spread}
use Rattle.zarrs_data_type_bytes.proofs.array_bytes.ArrayBytes.from_present.Goals as goal

pub returns : goal.returns
returns c =
    let k = kind c.args.inner.now in
    let dense = data_of c.args.present.now in
    let made = data_of c.in_ok-data.data in
    let mask = c.args.mask.items in
    let same : c.as_slice.result.now ≡ mask = c.as_slice.ensures.value in
    let fit : fits k made (length (ranks_set mask (length mask))) ≡ true =
    subst (λ n. fits k made n ≡ true) (ap length same ∙ sym (length-ranks mask)) c.in_ok-data.ensures.kind in
    let selected : (n : ℕ) → fits k dense n ≡ true → 0 < n → IsSelection k made dense (ranks_set mask (length mask)) =
    subst (λ m. (n : ℕ) → fits k dense n ≡ true → 0 < n → IsSelection k made dense (ranks_set m (length m))) same c.in_ok-data.ensures.cells in
    IfOk-weaker c.with_optional_mask.result _ _
    (λ all is. rw is (cells-spread c.args.inner.now dense made mask (ranks_set mask (length mask)) c.requires.flags c.requires.present refl fit selected))
    c.with_optional_mask.ensures
