use Rattle.std.proofs.Common.{rules, arith, ◌≡◌, length, ap, sym, subst, ◌∙◌}
use Rattle.std.specs.Prelude.{map, slice_index_or, []}
use Rattle.zarrs_subset.specs.Boxes.{position_count, without_ones}
use Rattle.zarrs_codec_array.specs.Gathered.{walked, AreWithin}
use Rattle.zarrs_codec_array.specs.Orders.{permuted, strides}
use Rattle.zarrs_codec_array.specs.OrderLaws.{length-permuted}
use Rattle.zarrs_codec_array.proofs.Ones.{within-without_ones, walked-without_ones}
use Rattle.zarrs_subset.proofs.Ones.{length-without_ones, count-without_ones}
use Rattle.zarrs_codec_array.proofs.Transposing.{scaled-one}
use Rattle.zarrs_codec_array.proofs.transpose.rearranged_strings.Goals as goal

pub push_strings-requires-clause-same_length : goal.push_strings-requires-clause-same_length
push_strings-requires-clause-same_length c =
    let target = c.args.target.now in
    let p = permuted c.args.way.now (strides c.args.source.now) in
    let len : length target ≡ length p = c.requires.ways.same_length ∙ sym (length-permuted c.args.way.now (strides c.args.source.now)) in
    ap length (c.deref.ensures.value ∙ c.in_ok-walk.ensures.extents)
    ∙ length-without_ones target target p len
    ∙ sym (ap length (c.deref-2.ensures.value ∙ c.in_ok-walk.ensures.steps ∙ ap (without_ones target) (scaled-one p)))

pub push_strings-requires-clause-some : goal.push_strings-requires-clause-some
push_strings-requires-clause-some c =
    let count : position_count c.deref.result.now ≡ position_count c.args.source.now =
    ap position_count (c.deref.ensures.value ∙ c.in_ok-walk.ensures.extents) ∙ count-without_ones c.args.target.now ∙ c.requires.ways.same_count in
    omega (arith, count, c.requires.ways.some)

pub push_strings-requires-clause-within : goal.push_strings-requires-clause-within
push_strings-requires-clause-within c =
    let target = c.args.target.now in
    let p = permuted c.args.way.now (strides c.args.source.now) in
    let len : length target ≡ length p = c.requires.ways.same_length ∙ sym (length-permuted c.args.way.now (strides c.args.source.now)) in
    let whole : AreWithin 1 (without_ones target target) (without_ones target p) 0 (length c.args.strings.now) =
    subst (λ n. AreWithin 1 (without_ones target target) (without_ones target p) 0 n) (sym c.requires.len)
    (within-without_ones 1 target p 0 (position_count c.args.source.now) len c.requires.ways.within) in
    subst (λ e. AreWithin 1 e c.deref-2.result.now 0 (length c.args.strings.now)) (sym (c.deref.ensures.value ∙ c.in_ok-walk.ensures.extents))
    (subst (λ s. AreWithin 1 (without_ones target target) s 0 (length c.args.strings.now)) (sym (c.deref-2.ensures.value ∙ c.in_ok-walk.ensures.steps ∙ ap (without_ones target) (scaled-one p))) whole)

pub returns : goal.returns
returns c =
    let target = c.args.target.now in
    let p = permuted c.args.way.now (strides c.args.source.now) in
    let len : length target ≡ length p = c.requires.ways.same_length ∙ sym (length-permuted c.args.way.now (strides c.args.source.now)) in
    (search rules)
    ∙ ap (λ e. map (λ i. slice_index_or c.args.strings.now i []) (walked e c.deref-2.result.now 0)) (c.deref.ensures.value ∙ c.in_ok-walk.ensures.extents)
    ∙ ap (λ s. map (λ i. slice_index_or c.args.strings.now i []) (walked (without_ones target target) s 0)) (c.deref-2.ensures.value ∙ c.in_ok-walk.ensures.steps ∙ ap (without_ones target) (scaled-one p))
    ∙ ap (map (λ i. slice_index_or c.args.strings.now i [])) (walked-without_ones target p 0 len)
