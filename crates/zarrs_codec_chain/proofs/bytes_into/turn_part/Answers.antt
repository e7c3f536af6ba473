use Rattle.std.proofs.Common.{◌≡◌, ◌∙◌, ◌*◌, List, ℕ, length, reverse, ap, sym, subst, rules}
use Rattle.std.specs.List.{flat_map}
use Rattle.zarrs_subset.specs.Boxes.{BoxFits, position_count}
use Rattle.zarrs_subset.specs.Cells.{BoxCopied}
use Rattle.zarrs_subset.specs.Pieces.{pieces}
use Rattle.zarrs_subset.specs.Regions.{box_of}
use Rattle.zarrs_subset.proofs.Kernel.{CellsCopied-from}
use Rattle.zarrs_data_type.specs.States.{target_box}
use Rattle.zarrs_codec_chain.proofs.PartBoxes.{part_fits}
use Rattle.zarrs_codec_chain.proofs.Turns.{turned_cells, turned_of}
use Rattle.zarrs_codec_chain.proofs.bytes_into.turn_part.Goals as goal

pub turn_rows-requires-clause-source_fits : goal.turn_rows-requires-clause-source_fits
turn_rows-requires-clause-source_fits g c =
    let part = c.args.part.now in
    let start : c.start.result.now ≡ part.start.items = search rules in
    let extents : c.shape.result.now ≡ part.shape.items = search rules in
    rw (extents, start) (part_fits (box_of part) c.args.shape.now part.same_length c.requires.part)

pub turn_rows-requires-clause-target_fits : goal.turn_rows-requires-clause-target_fits
turn_rows-requires-clause-target_fits g c =
    let t = c.args.target.now in
    let part = c.args.part.now in
    let start : c.start-2.result.now ≡ t.region.now.start.items = search rules in
    let extents : c.shape.result.now ≡ part.shape.items = search rules in
    let own : c.shape.result.now ≡ t.region.now.shape.items = extents ∙ sym c.requires.same_shape in
    rw (own, start) (part_fits (target_box t) t.parent_shape.now t.region.now.same_length c.args.target.now.whole.inside)

pub returns-clause-put : goal.returns-clause-put
returns-clause-put g c =
    let N = g.row.N in
    let t = c.args.target.now in
    let s = c.args.shape.now in
    let part = box_of c.args.part.now in
    let own = target_box t in
    let parent = t.parent_shape.now in
    let array = c.args.array.now in
    let old = t.bytes.now in
    let new = c.turn_rows.new.target in
    let start : c.start.result.now ≡ part.start = search rules in
    let own_start : c.start-2.result.now ≡ own.start = search rules in
    let part_extents : c.shape.result.now ≡ part.shape = search rules in
    let extents : c.shape.result.now ≡ own.shape = part_extents ∙ sym c.requires.same_shape in
    let len : length array ≡ position_count s * N = c.requires.array_len ∙ ap (λ x. position_count s * x) c.requires.size in
    let old_len : length old ≡ position_count parent * N = c.args.target.now.whole.has_bytes ∙ ap (λ x. position_count parent * x) c.requires.size in
    let turned = flat_map reverse (pieces N (position_count s) array) in
    let is = turned_of N (position_count s) array len c.requires.some in
    let fits : BoxFits part.start own.shape s = subst (λ (x : List ℕ). BoxFits part.start x s) (sym c.requires.same_shape) (part_fits part s c.args.part.now.same_length c.requires.part) in
    let own_fits = part_fits own parent t.region.now.same_length c.args.target.now.whole.inside in
    let copied : BoxCopied N s part.start parent own.start own.shape turned old new =
    subst (λ (x : List ℕ). BoxCopied N s part.start parent own.start x turned old new) extents
    (subst (λ (x : List ℕ). BoxCopied N s part.start parent x c.shape.result.now turned old new) own_start
    (subst (λ (x : List ℕ). BoxCopied N s x parent c.start-2.result.now c.shape.result.now turned old new) start (c.turn_rows.ensures turned is))) in
    rw c.requires.size
    (turned_cells N s part.start parent own.start own.shape array turned old new fits own_fits len is
    (CellsCopied-from N s part.start parent own.start own.shape turned old new fits own_fits (is.same_length ∙ len) old_len c.turn_rows.auto.target copied))
