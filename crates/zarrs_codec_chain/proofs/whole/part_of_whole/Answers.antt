use Rattle.std.proofs.Common.{◌≡◌, ◌∙◌, ap, rules, sym, subst}
use Rattle.std.proofs.lemmas.Result.{IfOk-weaker}
use Rattle.zarrs_data_type.specs.ArrayData.{data_of}
use Rattle.zarrs_data_type.specs.Cells.{HasCells}
use Rattle.zarrs_subset.specs.Boxes.{position_count}
use Rattle.zarrs_subset.specs.Regions.{Box, box_at_origin, box_of, LiesInBox}
use Rattle.zarrs_data_type_region.proofs.TargetBoxes.{lies_at_origin}
use Rattle.zarrs_data_type.specs.Kind.{kind}
use Rattle.zarrs_codec_chain.proofs.AllOfIt.{origin_box, whole_is_part}
use Rattle.zarrs_codec_chain.proofs.whole.part_of_whole.Goals as goal

pub extract_array_subset-requires-clause-held : goal.extract_array_subset-requires-clause-held
extract_array_subset-requires-clause-held c =
    let chunk : box_of c.in_ok-chunk.chunk ≡ box_at_origin c.args.shape.now = c.in_ok-chunk.ensures ∙ ap box_at_origin c.in_ok-from_slice.ensures.items in
    subst (λ (b : Box). HasCells (kind c.args.data_type.now) (data_of c.args.whole) (position_count b.shape)) (sym chunk) c.requires.held

pub extract_array_subset-requires-clause-inside : goal.extract_array_subset-requires-clause-inside
extract_array_subset-requires-clause-inside c =
    let chunk : box_of c.in_ok-chunk.chunk ≡ box_at_origin c.args.shape.now = c.in_ok-chunk.ensures ∙ ap box_at_origin c.in_ok-from_slice.ensures.items in
    subst (λ (b : Box). LiesInBox (box_of c.args.part.now) b) (sym chunk) (lies_at_origin (box_of c.args.part.now) c.args.shape.now c.requires.part)

pub returns-then-eq : goal.returns-then-eq
returns-then-eq c =
    let k = kind c.args.data_type.now in
    let s = c.args.shape.now in
    let part = box_of c.args.part.now in
    let shape : part.shape ≡ s = search rules in
    IfOk-weaker c.into_owned.result _ _
    (λ made same. whole_is_part k s part (data_of c.args.whole) (data_of made) (origin_box part s shape c.requires.part) same c.requires.held)
    c.into_owned.ensures
