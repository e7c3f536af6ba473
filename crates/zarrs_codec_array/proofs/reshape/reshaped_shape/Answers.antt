use Rattle.std.proofs.Common.{arith, ◌≡◌, ◌/◌, Some, sym, ap, ◌∙◌, option_map}
use Rattle.std.proofs.lemmas.Bool.{false≢true}
use Rattle.zarrs_subset.specs.Boxes.{position_count}
use Rattle.zarrs_codec_array.specs.Arrays.{extent_left}
use Rattle.zarrs_codec_array.specs.Extents.{extents_view, fitting_shape}
use Rattle.zarrs_codec_array.proofs.Reshaping.{unnamed, unmade, same_count, other_count, left-is}
use Rattle.zarrs_codec_array.proofs.reshape.reshaped_shape.Goals as goal

pub returns-in_default : goal.returns-in_default
returns-in_default c =
    unnamed (extents_view c.args.entries.now) c.args.shape.now (omega (arith, c.ranges.count))
    (ap (option_map (λ v. v.items)) (sym c.in_default.is) ∙ c.in_ok-named.ensures)

pub returns-in_default-2 : goal.returns-in_default-2
returns-in_default-2 c =
    let es = extents_view c.args.entries.now in
    let s = c.args.shape.now in
    let named : Some c.in-Some.named.items ≡ fitting_shape s 1 es = ap (option_map (λ v. v.items)) (sym c.in-Some.is) ∙ c.in_ok-named.ensures in
    let left : c.extent_left-left.result ≡ extent_left s es = left-is es s c.in-Some.named.items c.args.count c.extent_left-left.result c.requires named (c.extent_left-left.ensures ∙ ap (λ x. c.args.count / position_count x) c.deref.ensures.value) in
    unmade es s (omega (arith, c.ranges.count)) c.extent_left-left.result left (ap (option_map (λ v. v.items)) (sym c.in_default-2.is) ∙ c.in_ok-made.ensures)

pub returns-then-has_count : goal.returns-then-has_count
returns-then-has_count c =
    let es = extents_view c.args.entries.now in
    let s = c.args.shape.now in
    let named : Some c.in-Some.named.items ≡ fitting_shape s 1 es = ap (option_map (λ v. v.items)) (sym c.in-Some.is) ∙ c.in_ok-named.ensures in
    let left : c.extent_left-left.result ≡ extent_left s es = left-is es s c.in-Some.named.items c.args.count c.extent_left-left.result c.requires named (c.extent_left-left.ensures ∙ ap (λ x. c.args.count / position_count x) c.deref.ensures.value) in
    same_count es s (omega (arith, c.ranges.count)) c.extent_left-left.result left c.in-Some-2.made.items (ap (option_map (λ v. v.items)) (sym c.in-Some-2.is) ∙ c.in_ok-made.ensures)
    (ap position_count (sym c.deref-2.ensures.value) ∙ c.has_count.ensures.0 c.if-has_count.true ∙ c.requires)

pub returns : goal.returns
returns c =
    let es = extents_view c.args.entries.now in
    let s = c.args.shape.now in
    let named : Some c.in-Some.named.items ≡ fitting_shape s 1 es = ap (option_map (λ v. v.items)) (sym c.in-Some.is) ∙ c.in_ok-named.ensures in
    let left : c.extent_left-left.result ≡ extent_left s es = left-is es s c.in-Some.named.items c.args.count c.extent_left-left.result c.requires named (c.extent_left-left.ensures ∙ ap (λ x. c.args.count / position_count x) c.deref.ensures.value) in
    other_count es s (omega (arith, c.ranges.count)) c.extent_left-left.result left c.in-Some-2.made.items (ap (option_map (λ v. v.items)) (sym c.in-Some-2.is) ∙ c.in_ok-made.ensures)
    (λ same. false≢true (sym c.if-has_count.false ∙ c.has_count.ensures.1 (ap position_count c.deref-2.ensures.value ∙ same ∙ sym c.requires)))
