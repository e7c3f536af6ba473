use Rattle.std.proofs.Common.{ℕ, List, length, sym, ap, subst, ◌∙◌}
use Rattle.std.proofs.lemmas.Result.{IfOk-weaker}
use Rattle.zarrs_subset.specs.Regions.{LiesInBox, Box, box_from, box_of}
use Rattle.zarrs_subset.specs.Boxes.{unravel}
use Rattle.zarrs_subset.proofs.Positions.{unravel_in}
use Rattle.zarrs_data_type.specs.Cell.{fill_of}
use Rattle.zarrs_data_type.specs.Kind.{kind}
use Rattle.zarrs_codec_shard.specs.CellParts.{PushesExtract}
use Rattle.zarrs_codec_shard.specs.SubchunkData.{chunk_shape, subchunk_shape}
use Rattle.zarrs_codec_shard.specs.Subchunks.{quotients, corner, subchunk_box}
use Rattle.zarrs_codec_shard.proofs.PushedCells.{pushes_subchunk}
use Rattle.zarrs_codec_shard.proofs.SubchunkBoxes.{lies_in_chunk, long_corner}
use Rattle.zarrs_codec_shard.proofs.subchunks.Subchunks.push_cells.Goals as goal

pub push_cells-requires-clause-long : goal.push_cells-requires-clause-long
push_cells-requires-clause-long c =
    let self = c.args.self.now in
    let s = chunk_shape self in
    let sub = subchunk_shape self in
    let i = unravel (quotients s sub) c.args.number in
    ap length (c.as_slice.ensures ∙ c.in_ok-corner.ensures) ∙ long_corner s sub i self.cut (unravel_in (quotients s sub) c.args.number c.requires.number) ∙ ap length (sym c.deref.ensures.value)

pub push_cells-requires-clause-inside : goal.push_cells-requires-clause-inside
push_cells-requires-clause-inside c =
    let self = c.args.self.now in
    let s = chunk_shape self in
    let sub = subchunk_shape self in
    let i = unravel (quotients s sub) c.args.number in
    subst (λ x. LiesInBox (box_from x c.deref.result.now) (box_of self.chunk_box)) (sym (c.as_slice.ensures ∙ c.in_ok-corner.ensures))
    (subst (λ x. LiesInBox (box_from (corner sub i) x) (box_of self.chunk_box)) (sym c.deref.ensures.value)
    (subst (LiesInBox (subchunk_box s sub c.args.number)) (sym self.at_origin) (lies_in_chunk s sub i self.cut (unravel_in (quotients s sub) c.args.number c.requires.number))))

pub returns-clause-pushed : goal.returns-clause-pushed
returns-clause-pushed c =
    let self = c.args.self.now in
    let s = chunk_shape self in
    let sub = subchunk_shape self in
    let n = c.args.number in
    let k = kind c.args.data_type.now in
    let f = fill_of k c.args.fill_value.now in
    let empty = c.args.store_empty in
    let bytes = c.args.bytes.now in
    let old = c.args.writer.now in
    let new = c.push_cells.new.self in
    let i = unravel (quotients s sub) n in
    IfOk-weaker c.push_cells.result _ _
    (λ done x. pushes_subchunk k empty f s sub n bytes old new self.cut c.requires.number
    (subst (λ (box : Box). PushesExtract k empty f box bytes (subchunk_box s sub n) old new) self.at_origin
    (subst (λ (l : List ℕ). PushesExtract k empty f (box_of self.chunk_box) bytes (box_from (corner sub i) l) old new) c.deref.ensures.value
    (subst (λ (l : List ℕ). PushesExtract k empty f (box_of self.chunk_box) bytes (box_from l c.deref.result.now) old new) (c.as_slice.ensures ∙ c.in_ok-corner.ensures) x))))
    c.push_cells.ensures.pushed
