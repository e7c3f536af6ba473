use Rattle.std.proofs.Common.{rules, ◌≡◌, ◌*◌, ◌++◌, ◌∙◌, ap, sym, length, take, drop, replicate}
use Rattle.zarrs_subset.specs.Boxes.{position_count}
use Rattle.zarrs_subset.specs.Regions.{box_of}
use Rattle.zarrs_codec_leaf.proofs.Gathered.{gathered_box, origin_fits, put_whole}
use Rattle.zarrs_codec_leaf.proofs.rows.gathered_to.Goals as goal

pub copy_box-requires-clause-target_fits : goal.copy_box-requires-clause-target_fits
copy_box-requires-clause-target_fits c =
    let extents = c.shape-extents.result.now in
    let origin : c.args.origin.now ≡ replicate (length extents) 0 = c.requires.origin ∙ ap (λ l. replicate (length l) 0) (sym c.shape-extents.ensures) in
    rw origin (origin_fits extents)

pub returns : goal.returns
returns c =
    let extents = c.shape-extents.result.now in
    let new = c.copy_box.new.target in
    let old = c.in_ok-made.made.items in
    let box = box_of c.args.part.now in
    let origin : c.args.origin.now ≡ replicate (length extents) 0 = c.requires.origin ∙ ap (λ l. replicate (length l) 0) (sym c.shape-extents.ensures) in
    let made_len : length c.deref_mut.result.now ≡ position_count c.args.part.now.shape.items * c.args.size = search rules in
    let whole : take c.in_ok-made.made.len (new ++ drop (length new) old) ≡ new =
    put_whole c.in_ok-made.made.len old new c.in_ok-made.made.ok.0 (c.copy_box.auto.target ∙ ap length c.deref_mut.ensures.value) in
    rw whole (gathered_box c.args.size c.args.shape.now c.start.result.now extents c.args.origin.now c.args.array.now c.deref_mut.result.now new box
    c.args.part.now.same_length c.start.ensures c.shape-extents.ensures origin c.copy_box.auto.target made_len c.copy_box.ensures)
