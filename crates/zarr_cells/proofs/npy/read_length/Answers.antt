use Rattle.std.proofs.Common.{sym, subst, ◌∙◌}
use Rattle.std.specs.Io.KnownBytes.{Consumes}
use Rattle.zarr_cells.proofs.npy.read_length.Goals as goal

pub returns : goal.returns
returns g c =
    subst (Consumes (g.R.Read.remaining c.args.input.now) (g.R.Read.remaining c.read_exact.new.self)) (sym (c.length_in.ensures ∙ c.as_slice.ensures)) c.in_ok-read_exact.ensures.bytes
