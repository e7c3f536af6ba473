use Rattle.std.proofs.Common.{rules, ◌≡◌, length}
use Rattle.zarrs_subset.specs.Regions.{IsBox}
use Rattle.zarrs_subset.proofs.Overlaps.{EndsFit-below}
use Rattle.zarrs_subset.proofs.traits.ArraySubsetTraits.to_array_subset.Goals as goal

pub new-requires : goal.new-requires
new-requires g c =
    let region = g.Self.ArraySubsetTraits.region c.args.self.now in
    let long : length region.start ≡ length region.shape = g.met.Self.ArraySubsetTraits.is_long c.args.self.now in
    let start : c.in_ok-start.field-0.items ≡ region.start = search rules in
    let shape : c.in_ok-shape.field-0.items ≡ region.shape = search rules in
    let box : IsBox region = search rules in
    rw (start, shape) (record { same_length = long; ends_fit = EndsFit-below region.start region.shape long box.ends_fit })
