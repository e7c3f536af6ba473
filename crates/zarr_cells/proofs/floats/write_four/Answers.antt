use Rattle.std.proofs.Common.{◌≡◌, ◌<◌, ◌*◌, true, Some, sym, ◌∙◌, ap, subst, arith}
use Rattle.std.specs.Float.{binary32, float_is_finite, NotNan, NotNanIf}
use Rattle.std.specs.Float.Ieee.{of_bits, top}
use Rattle.std.specs.Io.KnownBytes.{Appends}
use Rattle.std.proofs.lemmas.Result.{on_ok_weaker}
use Rattle.fast_float.specs.Parse.{parse_float}
use Rattle.zarr_cells.specs.declared.form.Width.TheVariants.{Four}
use Rattle.zarr_cells.proofs.WordLemmas.{finite_says}
use Rattle.zarr_cells.proofs.floats.write_four.Goals as goal

pub returns-then-is_finite : goal.returns-then-is_finite
returns-then-is_finite g c =
    let is = c.f32_from_bits_with_nan-number.ensures in
    let small : c.args.bits < 2 * top binary32 = omega arith in
    let finite : float_is_finite (of_bits binary32 c.args.bits) ≡ true = subst (λ x. float_is_finite x ≡ true) is (sym c.is_finite.ensures.value ∙ c.if-is_finite.true) in
    let number : NotNan (of_bits binary32 c.args.bits) = subst NotNan is (let known : NotNanIf true c.f32_from_bits_with_nan-number.result = subst (λ b. NotNanIf b c.f32_from_bits_with_nan-number.result) c.if-is_finite.true c.is_finite.ensures.not_nan in known) in
    let parses : parse_float binary32 c.format_finite.result.now ≡ Some (of_bits binary32 c.args.bits) = c.format_finite.ensures.parses ∙ ap Some is in
    on_ok_weaker c.write_all.result
    (λ written.
    finite_says Four c.args.bits c.format_finite.result.now (g.W.Write.contents c.args.out.now) (g.W.Write.contents c.write_all.new.self) small number finite parses c.format_finite.ensures.plain
    (subst (Appends (g.W.Write.contents c.args.out.now) (g.W.Write.contents c.write_all.new.self)) c.as_bytes.ensures.value written))
    c.write_all.ensures.bytes
