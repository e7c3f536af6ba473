use Rattle.std.proofs.Common.{◌≡◌, ◌∙◌, sym, rules}
use Rattle.zarrs_subset.specs.Regions.{box_of}
use Rattle.zarrs_data_type.specs.States.{target_box}
use Rattle.zarrs_codec_chain.proofs.PartBoxes.{part_fits}
use Rattle.zarrs_codec_chain.proofs.bytes_into.copy_part.Goals as goal

pub copy_box-requires-clause-source_fits : goal.copy_box-requires-clause-source_fits
copy_box-requires-clause-source_fits c =
    let part = c.args.part.now in
    let start : c.start.result.now ≡ part.start.items = search rules in
    let extents : c.shape.result.now ≡ part.shape.items = search rules in
    rw (extents, start) (part_fits (box_of part) c.args.shape.now part.same_length c.requires.part)

pub copy_box-requires-clause-target_fits : goal.copy_box-requires-clause-target_fits
copy_box-requires-clause-target_fits c =
    let t = c.args.target.now in
    let part = c.args.part.now in
    let start : c.start-2.result.now ≡ t.region.now.start.items = search rules in
    let extents : c.shape.result.now ≡ part.shape.items = search rules in
    let own : c.shape.result.now ≡ t.region.now.shape.items = extents ∙ sym c.requires.same_shape in
    rw (own, start) (part_fits (target_box t) t.parent_shape.now t.region.now.same_length c.args.target.now.whole.inside)
