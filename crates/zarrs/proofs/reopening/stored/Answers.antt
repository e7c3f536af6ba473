use Rattle.zarrs_codec_optional.proofs.Kept.{err_kept}
use Rattle.zarrs_options.specs.Errors.{create_error_of_storage}
use Rattle.zarrs_options.specs.Refusals.{create_refusal_of}
use Rattle.zarrs.specs.Arrays.{metadata_of_array, metadata_options_of_array, path_of_array, storage_of_array, store_of_array}
use Rattle.zarrs.specs.Reopening.{RefusesToStore}
use Rattle.zarrs.proofs.Reopened.{not_stored}
use Rattle.zarrs.proofs.reopening.stored.Goals as goal

pub returns-in_err-store_metadata-clause-refused : goal.returns-in_err-store_metadata-clause-refused
returns-in_err-store_metadata-clause-refused g c =
    let state = g.S.ReadableStorageTraits.state in
    let array = c.args.array in
    let old = store_of_array state array in
    let e = c.in_err-store_metadata.field-0.0 in
    let why = not_stored state (metadata_options_of_array array) (path_of_array array) (metadata_of_array array) old (storage_of_array c.store_metadata.new.self) e c.in_err-store_metadata.ensures.stores.named c.in_err-store_metadata.ensures.stores.refused in
    err_kept c.from_residual.result (create_error_of_storage e) (λ x. RefusesToStore state (metadata_options_of_array array) (path_of_array array) (metadata_of_array array) (create_refusal_of x) old) c.from_residual.ensures.1 why
