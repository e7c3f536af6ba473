use Rattle.std.proofs.Common.{◌-◌, ◌+◌, ◌∙◌, refl, subst}
use Rattle.std.specs.Io.KnownBytes.{Appends}
use Rattle.std.proofs.lemmas.Result.{on_ok_weaker}
use Rattle.zarr_cells.proofs.WordLemmas.{negative_says}
use Rattle.zarr_cells.proofs.bits.write_negative.Goals as goal

pub returns : goal.returns
returns g c =
    on_ok_weaker c.write_all-2.result
    (λ written.
    negative_says c.args.bits (18446744073709551615 - c.args.bits + 1) c.as_bytes.result.now (g.W.Write.contents c.args.out.now) (g.W.Write.contents c.write_all.new.self) (g.W.Write.contents c.write_all-2.new.self) c.requires c.ranges.bits.fits refl
    (c.as_bytes.ensures.value ∙ c.format.ensures.text) (subst (Appends (g.W.Write.contents c.args.out.now) (g.W.Write.contents c.write_all.new.self)) c.as_slice.ensures c.in_ok-write_all.ensures.bytes) written)
    c.write_all-2.ensures.bytes
