use Rattle.std.proofs.Common.{◌*◌, ◌<◌, ◌^◌, sym, subst}
use Rattle.zarrs_data_type.specs.Kind.{kind, cell_size}
use Rattle.zarrs_subset.specs.Boxes.{position_count}
use Rattle.zarrs_codec.proofs.Counts.{count_fits, some_count}
use Rattle.zarrs_codec.proofs.decode.copy_part.Goals as goal

pub unwrap-count-requires : goal.unwrap-count-requires
unwrap-count-requires c =
    let t = c.args.data_type.now in
    let n = position_count c.shape.result.now in
    some_count c.element_count.result n c.element_count.ensures
    (count_fits t n (subst (λ x. position_count x * cell_size (kind t) < 2 ^ 64) (sym c.shape.ensures) c.requires.size))
