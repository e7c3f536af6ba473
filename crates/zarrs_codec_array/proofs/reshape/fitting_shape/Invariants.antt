use Rattle.std.proofs.Common.{◌≡◌, ◌++◌, drop, option_map}
use Rattle.zarrs_codec_array.specs.Extents.{extents_view, fitting_shape}
use Rattle.zarrs_codec_array.proofs.reshape.fitting_shape.Given as goal

-- what is left gives the rest
abbrev pub invariant-loop-entry : goal.invariant-loop-entry
invariant-loop-entry l =
    fitting_shape l.shape l.left (extents_view l.entries) ≡ option_map (λ more. l.made.items ++ more) (fitting_shape l.shape l.left (extents_view (drop l.entry-index l.entries)))
