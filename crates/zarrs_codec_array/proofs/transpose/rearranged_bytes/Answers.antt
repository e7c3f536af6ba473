use Rattle.std.proofs.Common.{arith, rules, ◌≡◌, ◌*◌, length, ap, sym, subst, ◌∙◌}
use Rattle.zarrs_subset.specs.Boxes.{position_count, without_ones}
use Rattle.zarrs_codec_array.specs.Gathered.{IsGathered, AreWithin}
use Rattle.zarrs_codec_array.specs.Orders.{scaled, permuted, strides}
use Rattle.zarrs_codec_array.specs.OrderLaws.{length-permuted}
use Rattle.zarrs_codec_array.proofs.Ones.{within-without_ones, gathered-without_ones}
use Rattle.zarrs_subset.proofs.Ones.{length-without_ones, count-without_ones}
use Rattle.zarrs_codec_array.proofs.Transposing.{within-scaled, lent_back, length-scaled}
use Rattle.zarrs_codec_array.proofs.transpose.rearranged_bytes.Goals as goal

pub gather-requires-clause-same_length : goal.gather-requires-clause-same_length
gather-requires-clause-same_length c =
    let target = c.args.target.now in
    let p = permuted c.args.way.now (strides c.args.source.now) in
    let len : length target ≡ length (scaled c.args.size p) = c.requires.ways.same_length ∙ sym (length-scaled c.args.size p ∙ length-permuted c.args.way.now (strides c.args.source.now)) in
    ap length (c.deref.ensures.value ∙ c.in_ok-walk.ensures.extents)
    ∙ length-without_ones target target (scaled c.args.size p) len
    ∙ sym (ap length (c.deref-2.ensures.value ∙ c.in_ok-walk.ensures.steps))

pub gather-requires-clause-len : goal.gather-requires-clause-len
gather-requires-clause-len c =
    let count : position_count c.deref.result.now ≡ position_count c.args.source.now =
    ap position_count (c.deref.ensures.value ∙ c.in_ok-walk.ensures.extents) ∙ count-without_ones c.args.target.now ∙ c.requires.ways.same_count in
    (search rules) ∙ c.requires.len ∙ ap (λ n. n * c.args.size) (sym count)

pub gather-requires-clause-within : goal.gather-requires-clause-within
gather-requires-clause-within c =
    let size = c.args.size in
    let target = c.args.target.now in
    let p = permuted c.args.way.now (strides c.args.source.now) in
    let len : length target ≡ length (scaled size p) = c.requires.ways.same_length ∙ sym (length-scaled size p ∙ length-permuted c.args.way.now (strides c.args.source.now)) in
    let whole : AreWithin size (without_ones target target) (without_ones target (scaled size p)) 0 (length c.args.bytes.now) =
    subst (λ n. AreWithin size (without_ones target target) (without_ones target (scaled size p)) 0 n) (sym c.requires.len)
    (within-without_ones size target (scaled size p) 0 (position_count c.args.source.now * size) len (within-scaled size (position_count c.args.source.now) target p c.requires.ways.within)) in
    subst (λ e. AreWithin size e c.deref-2.result.now 0 (length c.args.bytes.now)) (sym (c.deref.ensures.value ∙ c.in_ok-walk.ensures.extents))
    (subst (λ s. AreWithin size (without_ones target target) s 0 (length c.args.bytes.now)) (sym (c.deref-2.ensures.value ∙ c.in_ok-walk.ensures.steps)) whole)

pub returns-clause-cells : goal.returns-clause-cells
returns-clause-cells c =
    let size = c.args.size in
    let target = c.args.target.now in
    let bytes = c.args.bytes.now in
    let p = permuted c.args.way.now (strides c.args.source.now) in
    let len : length target ≡ length (scaled size p) = c.requires.ways.same_length ∙ sym (length-scaled size p ∙ length-permuted c.args.way.now (strides c.args.source.now)) in
    let walked : IsGathered size (without_ones target target) (without_ones target (scaled size p)) 0 bytes c.gather.new.to =
    subst (λ e. IsGathered size e (without_ones target (scaled size p)) 0 bytes c.gather.new.to) (c.deref.ensures.value ∙ c.in_ok-walk.ensures.extents)
    (subst (λ s. IsGathered size c.deref.result.now s 0 bytes c.gather.new.to) (c.deref-2.ensures.value ∙ c.in_ok-walk.ensures.steps) c.gather.ensures) in
    subst (λ b. IsGathered size target (scaled size p) 0 bytes b) (sym (lent_back c.gather.new.to c.in_ok-made.made.items c.in_ok-made.made.len (omega (arith, c.gather.auto.to, ap length c.deref_mut.ensures.value)) c.in_ok-made.made.ok.0))
    (gathered-without_ones size target (scaled size p) 0 bytes c.gather.new.to len walked)
