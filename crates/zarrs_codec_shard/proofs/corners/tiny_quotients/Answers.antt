use Rattle.std.proofs.Common.{◌≡◌, ◌∙◌, ◌+◌, ◌/◌, ◌<◌, ◌++◌, ◌∷◌, [], List, ℕ, take, length, refl, sym, ap, arith}
use Rattle.std.specs.Prelude.{slice_index}
use Rattle.std.proofs.lemmas.List.{take_all, take_more}
use Rattle.zarrs_subset.proofs.Overlaps.{length-zip_with}
use Rattle.zarrs_subset.proofs.Parts.{zip_with-at}
use Rattle.zarrs_codec_shard.specs.Subchunks.{quotients}
use Rattle.zarrs_codec_shard.proofs.corners.tiny_quotients.Goals as goal

-- one more dimension
quotients_more : (numbers sub made : List ℕ) (j v : ℕ) → length numbers ≡ length sub → j < length sub → made ≡ take j (quotients numbers sub) → v ≡ slice_index numbers j / slice_index sub j
    → made ++ v ∷ [] ≡ take (j + 1) (quotients numbers sub)
quotients_more numbers sub made j v same lt made_is v_is =
    let q = quotients numbers sub in
    let long = length-zip_with (λ n c. n / c) numbers sub same in
    ap (λ l. l ++ v ∷ []) made_is
    ∙ ap (λ x. take j q ++ x ∷ []) (v_is ∙ sym (zip_with-at (λ n c. n / c) numbers sub j (omega arith) lt))
    ∙ sym (take_more q j 0 (omega arith))

pub loop-axis-preserved : goal.loop-axis-preserved
loop-axis-preserved c =
    record {
      made_is = c.push_reserved.ensures.items ∙ quotients_more c.args.numbers.now c.args.sub.now _ c.loop-axis.axis _ c.requires.dimensions c.loop-axis-test.true c.loop-axis.invariant.made_is refl;
      room = omega (arith, c.push_reserved.ensures.capacity, c.loop-axis.invariant.room);
    }

pub returns : goal.returns
returns c =
    let n = length-zip_with (λ n c. n / c) c.args.numbers.now c.args.sub.now c.requires.dimensions in
    c.loop-axis.invariant.made_is ∙ take_all c.loop-axis.axis (quotients c.args.numbers.now c.args.sub.now) (omega (arith, c.loop-axis-test.false, c.requires.dimensions))
