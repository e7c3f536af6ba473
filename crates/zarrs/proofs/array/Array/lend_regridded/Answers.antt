use Rattle.std.proofs.Common.{inr, rules}
use Rattle.zarrs_codec_optional.proofs.Kept.{err_kept}
use Rattle.zarrs_options.specs.Refusals.{create_refusal_of}
use Rattle.zarrs.specs.Arrays.{metadata_of_array}
use Rattle.zarrs.specs.Setters.{RefusesRegrid}
use Rattle.zarrs.proofs.array.Array.lend_regridded.Goals as goal

pub returns-in_err-regrid : goal.returns-in_err-regrid
returns-in_err-regrid g c =
    let error = c.in_err-regrid.field-0.0 in
    let given = c.in_ok-chunk_grid_metadata in
    let gives = g.G.IntoField.gives c.args.chunk_grid_metadata in
    let m = metadata_of_array c.args.self.now in
    let why : RefusesRegrid gives c.args.shape.items m (create_refusal_of error) = inr (given.chunk_grid_metadata, given.ensures, c.in_err-regrid.ensures.refused) in
    let refused = err_kept c.from_residual-in_err-regrid.result error (λ e. RefusesRegrid gives c.args.shape.items m (create_refusal_of e)) c.from_residual-in_err-regrid.ensures.1 why in (
      (search rules, search rules, search rules),
      record {
        untouched = tt;
        same_loan = search rules;
        regridded = search rules;
        refused = refused;
        kept = search rules;
        content = search rules;
        decodes = search rules;
      },
    )
