use Rattle.std.proofs.Common.{◌≡◌, ◌∙◌, ◌-◌, ◌<◌, ap, sym, take, drop, arith}
use Rattle.std.proofs.lemmas.Result.{IfOk-weaker}
use Rattle.zarrs_data_type.specs.ArrayData.{data_of, optional}
use Rattle.zarrs_data_type_bytes.specs.declared.array_bytes.ArrayBytes.{ArrayBytes}
use Rattle.zarrs_data_type.specs.Targets.{masked}
use Rattle.zarrs_engine.proofs.RegionLists.{masked_more}
use Rattle.zarrs_engine.proofs.engine.region_lists.+under_masks.Goals as goal

pub returns : goal.returns
returns t c =
    let depth = c.args.depth in
    let count = c.args.count in
    let masks = c.args.masks.items in
    let bytes = c.args.bytes.items in
    let inner = data_of c.in_ok-inner.inner in
    let deep : 0 < depth = omega arith in
    let under : inner ≡ masked (depth - 1) count (drop count masks) bytes =
    c.in_ok-inner.ensures ∙ ap (λ m. masked (depth - 1) count m bytes) c.in_ok-rest.ensures.tail in
    let is : optional c.split_off.new.self.items inner ≡ masked depth count masks bytes =
    ap (λ m. optional m inner) c.in_ok-rest.ensures.items ∙ ap (optional (take count masks)) under ∙ sym (masked_more depth count masks bytes deep) in
    IfOk-weaker c.with_optional_mask.result (λ (made : ArrayBytes). data_of made ≡ optional c.split_off.new.self.items inner) (λ (made : ArrayBytes). data_of made ≡ masked depth count masks bytes) (λ made e. e ∙ is) c.with_optional_mask.ensures
