use Rattle.std.proofs.Common.{◌≡◌, Some, rules}
use Rattle.zarrs_data_type.specs.Kind.{kind, element_size}
use Rattle.zarrs_data_type_kinds.proofs.Sizes.{element_size-positive}
use Rattle.zarrs_codec_chain.proofs.bytes_into.are_cells.Goals as goal

pub is_length_of-requires : goal.is_length_of-requires
is_length_of-requires c =
    let is : element_size (kind c.args.data_type.now) ≡ Some c.in-Some.size = search rules in
    element_size-positive c.args.data_type.now c.in-Some.size is
