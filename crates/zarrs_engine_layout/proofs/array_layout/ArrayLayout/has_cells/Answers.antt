use Rattle.std.proofs.Common.{◌≡◌, ◌∙◌, sym, arith}
use Rattle.std.proofs.lemmas.Bool.{eq-eqb, eqb-true, false≢true}
use Rattle.zarrs_subset.specs.Boxes.{position_count}
use Rattle.zarrs_subset.specs.Regions.{box_of}
use Rattle.zarrs_data_type.specs.ArrayData.{data_of}
use Rattle.zarrs_engine_layout.proofs.OneChunk.{cells_counted}
use Rattle.zarrs_engine_layout.proofs.array_layout.ArrayLayout.has_cells.Goals as goal

pub returns-else-wanted-count : goal.returns-else-wanted-count
returns-else-wanted-count g c =
    let type = c.args.self.now.cell_type.data_type in
    let held = data_of c.args.region_data.now in
    let n = position_count (box_of c.args.region.now).shape in (
      λ same. absurd (c.if-wanted-count.false (eqb-true _ _ same)),
      λ has.
          let counted = cells_counted type held n has in
          let same : c.in-Ok.wanted ≡ c.count_of-count.result = c.in-Ok.ensures.ok ∙ sym counted ∙ sym c.count_of-count.ensures in
          eq-eqb c.in-Ok.wanted c.count_of-count.result same,
    )

pub returns-in-Err : goal.returns-in-Err
returns-in-Err g c =
    let type = c.args.self.now.cell_type.data_type in
    let held = data_of c.args.region_data.now in
    let n = position_count (box_of c.args.region.now).shape in (
      λ none. absurd (false≢true none),
      λ has.
          let counted = cells_counted type held n has in
          let many = c.in-Err.ensures.refused in
          let is = c.count_of-count.ensures in
          absurd (omega (arith, counted, many, is)),
    )
