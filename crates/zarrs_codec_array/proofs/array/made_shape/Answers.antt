use Rattle.std.proofs.Common.{◌≡◌, Some, None, ap, sym, option_map, ◌∙◌}
use Rattle.zarrs_codec_array.specs.ArrayCodecs.{array_meaning}
use Rattle.zarrs_codec_array.specs.Gathered.{encoded_shape}
use Rattle.zarrs_codec_array.proofs.Chained.{shape-fits}
use Rattle.zarrs_codec_array.proofs.array.made_shape.Goals as goal

pub unreachable-requires : goal.unreachable-requires
unreachable-requires c =
    let m = array_meaning c.args.codec.now in
    let some : encoded_shape m c.args.shape.now ≡ Some (m.shape c.args.shape.now) = shape-fits m c.args.shape.now c.requires.fits in
    let none : None ≡ encoded_shape m c.args.shape.now = ap (option_map (λ made. made.items)) (sym c.in-None.is) ∙ c.in_ok-made.ensures in
    let no : None ≡ Some (m.shape c.args.shape.now) = none ∙ some in
    cc
