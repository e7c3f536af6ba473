use Rattle.std.proofs.Common.{sym}
use Rattle.zarrs_subset.specs.Regions.{box_of}
use Rattle.zarr_cells.proofs.RowLemmas.{split_makes}
use Rattle.zarr_cells.proofs.rows.split_rows.Goals as goal

pub returns-clause-places : goal.returns-clause-places
returns-clause-places c =
    split_makes (box_of c.args.region.now) (box_of c.in_ok-band.band) (box_of c.in_ok-rest.rest) c.start.result.now c.shape.result.now c.args.axis c.args.rows
    c.start.ensures c.shape.ensures (sym c.args.region.now.same_length) c.requires.inside c.requires.ones c.requires.fewer c.in_ok-band.ensures.start
    c.in_ok-band.ensures.shape c.in_ok-rest.ensures.start c.in_ok-rest.ensures.shape
