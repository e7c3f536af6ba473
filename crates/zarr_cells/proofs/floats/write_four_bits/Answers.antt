use Rattle.std.proofs.Common.{◌≡◌, ◌*◌, length, ◌∙◌, ap, arith}
use Rattle.std.specs.Int.{w32, to_be_bytes}
use Rattle.std.proofs.lemmas.Result.{on_ok_weaker}
use Rattle.hex.specs.Hex.{encode_lower}
use Rattle.zarr_cells.proofs.WordLemmas.{at_ok, four_says}
use Rattle.zarr_cells.proofs.floats.write_four_bits.Goals as goal

pub returns : goal.returns
returns g c =
    let bytes = c.as_slice.result.now in
    let are : bytes ≡ to_be_bytes w32 c.args.bits = c.as_slice.ensures ∙ c.to_be_bytes.ensures in
    let size : length bytes ≡ 4 = ap length are in
    let fits : 8 ≡ 2 * length bytes = omega (arith, size) in
    let encoded : c.encode_to_slice.new.output ≡ encode_lower bytes = at_ok c.encode_to_slice.result (c.encode_to_slice.ensures.fits.1 fits) c.encode_to_slice.ensures.written in
    on_ok_weaker c.write_digits.result
    (λ written. four_says c.args.bits c.as_slice-2.result.now bytes (g.W.Write.contents c.args.out.now) (g.W.Write.contents c.write_digits.new.out) c.ranges.bits.fits are (c.as_slice-2.ensures ∙ encoded) written)
    c.write_digits.ensures
