use Rattle.std.proofs.Common.{◌≡◌, Some, ◌∙◌, ap, sym, subst}
use Rattle.std.proofs.lemmas.Result.{IfOk-weaker}
use Rattle.zarrs_data_type.specs.ArrayData.{ArrayData, data_of, fixed}
use Rattle.zarrs_data_type.specs.Cells.{HasCells}
use Rattle.zarrs_data_type.specs.Parts.{ExtractsCells, ExtractsEach}
use Rattle.zarrs_data_type_bytes.proofs.Fixed.{length-fixed}
use Rattle.zarrs_data_type_bytes.proofs.Parts.{extracts_cells}
use Rattle.zarrs_subset.specs.Boxes.{position_count, unravel}
use Rattle.zarrs_subset.specs.Regions.{box_of, LiesInBox}
use Rattle.zarrs_subset.proofs.Positions.{unravel_in}
use Rattle.zarrs_data_type_kinds.proofs.Sizes.{element_size-positive}
use Rattle.zarrs_data_type.specs.Kind.{kind, element_size}
use Rattle.zarrs_codec_shard.specs.SubchunkData.{chunk_shape, subchunk_shape}
use Rattle.zarrs_codec_shard.specs.Subchunks.{quotients, subchunk_box}
use Rattle.zarrs_codec_shard.proofs.FixedCells.{extracts_fixed}
use Rattle.zarrs_codec_shard.proofs.SubchunkBoxes.{lies_in_chunk}
use Rattle.zarrs_codec_shard.proofs.SubchunkCells.{extracts_subchunk}
use Rattle.zarrs_codec_shard.proofs.subchunks.Subchunks.extract.Goals as goal

pub extract_array_subset-requires-clause-inside : goal.extract_array_subset-requires-clause-inside
extract_array_subset-requires-clause-inside c =
    let self = c.args.self.now in
    let s = chunk_shape self in
    let sub = subchunk_shape self in
    let g = quotients s sub in
    subst (λ box. LiesInBox box (box_of self.chunk_box)) (sym c.in_ok-subset.ensures)
    (subst (LiesInBox (subchunk_box s sub c.args.number)) (sym self.at_origin) (lies_in_chunk s sub (unravel g c.args.number) self.cut (unravel_in g c.args.number c.requires.number)))

pub returns : goal.returns
returns c =
    let self = c.args.self.now in
    let s = chunk_shape self in
    let sub = subchunk_shape self in
    let k = kind c.args.data_type.now in
    let old = data_of c.args.chunk.now in
    IfOk-weaker c.extract_array_subset.result _ _
    (λ made x. extracts_subchunk k s sub c.args.number self.cut c.requires.number old (data_of made)
    (subst (λ box. ExtractsCells k box old (subchunk_box s sub c.args.number) (data_of made)) self.at_origin
    (subst (λ box. ExtractsCells k (box_of self.chunk_box) old box (data_of made)) c.in_ok-subset.ensures x)))
    c.extract_array_subset.ensures

-- ---- cells of one size

pub extract_bytes-requires-clause-positive : goal.extract_bytes-requires-clause-positive
extract_bytes-requires-clause-positive c =
    element_size-positive c.args.data_type.now c.in-Fixed-Some.size (sym c.element_size.ensures ∙ c.in-Fixed-Some.is-1)

pub extract_bytes-requires-clause-held_len : goal.extract_bytes-requires-clause-held_len
extract_bytes-requires-clause-held_len c =
    let k = kind c.args.data_type.now in
    let n = position_count (chunk_shape c.args.self.now) in
    let b = c.as_slice.result.now in
    let same : data_of c.args.chunk.now ≡ fixed b = ap data_of c.in-Fixed-Some.is-0 ∙ ap fixed (sym c.as_slice.ensures.value) in
    length-fixed k c.in-Fixed-Some.size (sym c.element_size.ensures ∙ c.in-Fixed-Some.is-1) b n (subst (λ (d : ArrayData). HasCells k d n) same c.requires.held)

pub extract_bytes-requires-clause-inside : goal.extract_bytes-requires-clause-inside
extract_bytes-requires-clause-inside c =
    let self = c.args.self.now in
    let s = chunk_shape self in
    let sub = subchunk_shape self in
    let g = quotients s sub in
    subst (λ box. LiesInBox box (box_of self.chunk_box)) (sym c.in_ok-subset.ensures)
    (subst (LiesInBox (subchunk_box s sub c.args.number)) (sym self.at_origin) (lies_in_chunk s sub (unravel g c.args.number) self.cut (unravel_in g c.args.number c.requires.number)))

pub returns-in-Fixed-Some : goal.returns-in-Fixed-Some
returns-in-Fixed-Some c =
    let self = c.args.self.now in
    let s = chunk_shape self in
    let sub = subchunk_shape self in
    let n = c.args.number in
    let g = quotients s sub in
    let t = c.args.data_type.now in
    let k = kind t in
    let size = c.in-Fixed-Some.size in
    let b = c.as_slice.result.now in
    let held = box_of self.chunk_box in
    let part = box_of c.in_ok-subset.subset in
    let made = c.in_ok-made-in-Fixed-Some in
    let sized : element_size k ≡ Some size = sym c.element_size.ensures ∙ c.in-Fixed-Some.is-1 in
    let old : data_of c.args.chunk.now ≡ fixed b = ap data_of c.in-Fixed-Some.is-0 ∙ ap fixed (sym c.as_slice.ensures.value) in
    let inside : LiesInBox part held = subst (λ box. LiesInBox box held) (sym c.in_ok-subset.ensures)
    (subst (LiesInBox (subchunk_box s sub n)) (sym self.at_origin) (lies_in_chunk s sub (unravel g n) self.cut (unravel_in g n c.requires.number))) in
    let each : ExtractsEach k held (fixed b) part (fixed made.made.items) = extracts_fixed k size sized held part b made.made.items made.ensures.len made.ensures.cells in
    let has : HasCells k (fixed b) (position_count held.shape) = subst (λ (d : ArrayData). HasCells k d (position_count s)) old c.requires.held in
    let x : ExtractsCells k held (fixed b) part (fixed made.made.items) =
    extracts_cells t held part (fixed b) (fixed made.made.items) self.chunk_box.same_length c.in_ok-subset.subset.same_length inside has each in
    extracts_subchunk k s sub n self.cut c.requires.number (data_of c.args.chunk.now) (data_of c.new_flen.result)
    (subst (λ box. ExtractsCells k box (data_of c.args.chunk.now) (subchunk_box s sub n) (data_of c.new_flen.result)) self.at_origin
    (subst (λ box. ExtractsCells k held (data_of c.args.chunk.now) box (data_of c.new_flen.result)) c.in_ok-subset.ensures
    (subst (λ (d : ArrayData). ExtractsCells k held d part (data_of c.new_flen.result)) (sym old)
    (subst (λ (d : ArrayData). ExtractsCells k held (fixed b) part d) (sym c.new_flen.ensures) x))))
