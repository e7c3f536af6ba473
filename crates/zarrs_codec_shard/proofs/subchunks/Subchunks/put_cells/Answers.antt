use Rattle.std.proofs.Common.{◌≡◌, ◌*◌, ℕ, List, length, replicate, Some, sym, ap, subst, ◌∙◌}
use Rattle.zarrs_data_type_bytes.proofs.Fixed.{length-fixed}
use Rattle.zarrs_subset.specs.Boxes.{position_count, BoxFits, unravel}
use Rattle.zarrs_subset.specs.Cells.{CellsCopied}
use Rattle.zarrs_subset.proofs.Positions.{unravel_in}
use Rattle.zarrs_data_type.specs.Kind.{kind, element_size}
use Rattle.zarrs_codec_shard.specs.SubchunkData.{chunk_shape, subchunk_shape}
use Rattle.zarrs_codec_shard.specs.Subchunks.{quotients, corner}
use Rattle.zarrs_codec_shard.proofs.CopiedCells.{own_fits, puts_copied, whole_fits}
use Rattle.zarrs_codec_shard.proofs.Grids.{cut_len}
use Rattle.zarrs_codec_shard.proofs.subchunks.Subchunks.put_cells.Goals as goal

pub copy_box-requires-clause-source_fits : goal.copy_box-requires-clause-source_fits
copy_box-requires-clause-source_fits c =
    let self = c.args.self.now in
    let s = chunk_shape self in
    let sub = subchunk_shape self in
    let origin : c.start-origin.result.now ≡ replicate (length s) 0 = c.start-origin.ensures ∙ ap (λ box. box.start) self.at_origin in
    subst (λ x. BoxFits c.start-origin.result.now x x) (sym c.as_slice-sub.ensures.value)
    (subst (λ x. BoxFits x sub sub) (sym origin) (whole_fits sub (length s) (sym (cut_len s sub self.cut).0)))

pub copy_box-requires-clause-target_fits : goal.copy_box-requires-clause-target_fits
copy_box-requires-clause-target_fits c =
    let self = c.args.self.now in
    let s = chunk_shape self in
    let sub = subchunk_shape self in
    let i = unravel (quotients s sub) c.args.number in
    subst (λ x. BoxFits x c.as_slice-sub.result.now c.shape.result.now) (sym (c.as_slice.ensures ∙ c.in_ok-start.ensures))
    (subst (λ x. BoxFits (corner sub i) x c.shape.result.now) (sym c.as_slice-sub.ensures.value)
    (subst (BoxFits (corner sub i) sub) (sym c.shape.ensures) (own_fits s sub i self.cut (unravel_in (quotients s sub) c.args.number c.requires.number))))

pub copy_box-requires-clause-source_len : goal.copy_box-requires-clause-source_len
copy_box-requires-clause-source_len c =
    let size = c.unwrap-size.result in
    let sub = subchunk_shape c.args.self.now in
    let sized : element_size (kind c.args.data_type.now) ≡ Some size = sym c.element_size.ensures ∙ c.unwrap-size.ensures in
    length-fixed (kind c.args.data_type.now) size sized c.args.part.now (position_count sub) c.requires.part
    ∙ ap (λ x. position_count x * size) (sym c.as_slice-sub.ensures.value)

pub copy_box-requires-clause-target_len : goal.copy_box-requires-clause-target_len
copy_box-requires-clause-target_len c =
    let size = c.unwrap-size.result in
    let s = chunk_shape c.args.self.now in
    let sized : element_size (kind c.args.data_type.now) ≡ Some size = sym c.element_size.ensures ∙ c.unwrap-size.ensures in
    length-fixed (kind c.args.data_type.now) size sized c.args.chunk.now (position_count s) c.requires.held
    ∙ ap (λ x. position_count x * size) (sym c.shape.ensures)

pub returns-clause-put : goal.returns-clause-put
returns-clause-put c =
    let self = c.args.self.now in
    let s = chunk_shape self in
    let sub = subchunk_shape self in
    let n = c.args.number in
    let start = corner sub (unravel (quotients s sub) n) in
    let size = c.unwrap-size.result in
    let part = c.args.part.now in
    let old = c.args.chunk.now in
    let new = c.copy_box.new.target in
    let sized : element_size (kind c.args.data_type.now) ≡ Some size = sym c.element_size.ensures ∙ c.unwrap-size.ensures in
    let origin : c.start-origin.result.now ≡ replicate (length s) 0 = c.start-origin.ensures ∙ ap (λ box. box.start) self.at_origin in
    let copied : CellsCopied size sub (replicate (length s) 0) s start sub part old new =
    subst (λ (x : List ℕ). CellsCopied size sub x s start sub part old new) origin
    (subst (λ (x : List ℕ). CellsCopied size x c.start-origin.result.now s start x part old new) c.as_slice-sub.ensures.value
    (subst (λ (x : List ℕ). CellsCopied size c.as_slice-sub.result.now c.start-origin.result.now x start c.as_slice-sub.result.now part old new) c.shape.ensures
    (subst (λ (x : List ℕ). CellsCopied size c.as_slice-sub.result.now c.start-origin.result.now c.shape.result.now x c.as_slice-sub.result.now part old new) (c.as_slice.ensures ∙ c.in_ok-start.ensures)
    c.copy_box.ensures))) in
    puts_copied c.args.data_type.now size s sub n part old new sized self.cut c.requires.number c.requires.held c.requires.part c.copy_box.auto.target copied
