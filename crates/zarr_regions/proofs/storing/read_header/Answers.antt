use Rattle.std.proofs.Common.{sym, ◌∙◌}
use Rattle.zarrs_data_type.specs.Kind.{kind}
use Rattle.zarrs_subset.specs.Regions.{box_of}
use Rattle.zarrs.specs.Arrays.{layout_of_array}
use Rattle.zarr_regions.proofs.BandLemmas.{header_read}
use Rattle.zarr_regions.proofs.storing.read_header.Goals as goal

pub returns : goal.returns
returns g c =
    header_read (layout_of_array c.args.opened.now.array) c.args.opened.now.lens.floats (box_of c.args.region.now) (kind c.data_type-data_type.result.now) c.in-Some.size
    c.form_of-form.result c.shape.result.now (g.R.Read.remaining c.args.input.now) (g.R.Read.remaining c.read_header.new.input) c.data_type-data_type.ensures
    (sym c.element_size.ensures ∙ c.in-Some.is) c.form_of-form.ensures c.shape.ensures c.in_ok-read_header.ensures
