use Rattle.std.proofs.Common.{◌++◌, ◌∷◌, [], cond, take, get_or, sym, ap, ◌∙◌}
use Rattle.std.proofs.lemmas.Bool.{eq-eqb}
use Rattle.zarrs_codec_array.specs.Arrays.{squeeze_shape}
use Rattle.zarrs_codec_array.proofs.Squeezed.{squeeze_more}
use Rattle.zarrs_subset.proofs.Ones.{not_one}
use Rattle.zarrs_codec_array.proofs.squeeze.SqueezeCodec.encoded_shape.Goals.{then-extent-ne1+in_ok-push, else-extent-ne1}
use Rattle.zarrs_codec_array.proofs.squeeze.SqueezeCodec.encoded_shape.Goals as goal

pub loop-extent-preserved : goal.loop-extent-preserved
loop-extent-preserved c =
    let s = c.args.shape.now in
    let i = c.loop-extent.extent-index in
    let front = squeeze_shape (take i s) in
    let x = get_or s i 0 in
    let more = squeeze_more s i c.loop-extent-test.true in
    elim c.if-extent-ne1.branch [
      | then-extent-ne1+in_ok-push w ↦
          ap (λ v. v.items) w.made-is ∙ w.in_ok-push.ensures.items ∙ ap (λ l. l ++ x ∷ []) c.loop-extent.invariant
          ∙ sym (more ∙ ap (λ b. cond b front (front ++ x ∷ [])) (not_one x w.if-extent-ne1.true))
      | else-extent-ne1 w ↦
          ap (λ v. v.items) w.made-is ∙ c.loop-extent.invariant
          ∙ sym (more ∙ ap (λ b. cond b front (front ++ x ∷ [])) (eq-eqb x 1 w.if-extent-ne1.false))
    ]
