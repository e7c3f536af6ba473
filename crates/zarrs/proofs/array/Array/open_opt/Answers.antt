use Rattle.std.proofs.Common.{rules}
use Rattle.std.proofs.lemmas.Result.{err_from_is_err_and}
use Rattle.zarrs_keys.specs.Paths.{is_node_path}
use Rattle.zarrs_metadata.specs.Versions.{metadata_view}
use Rattle.zarrs_options.specs.Refusals.{create_refusal_of}
use Rattle.zarrs_creation.specs.Opening.{IsMetadataKey}
use Rattle.zarrs_creation.proofs.Named.{creation_names, path_names}
use Rattle.zarrs_creation.proofs.Openings.{not_false, opened_none, opened_unmade, is_opened, path_refused}
use Rattle.zarrs.proofs.Layouts.{parts_are}
use Rattle.zarrs.proofs.array.Array.open_opt.Goals as goal

pub returns-in_err-node_path : goal.returns-in_err-node_path
returns-in_err-node_path g c =
    let why = path_refused c.args.version.now (g.TStorage.ReadableStorageTraits.state c.args.storage) c.args.path.now c.in_err-node_path.field-0.0 c.in_err-node_path.ensures.accepted in
    let named = path_names (IsMetadataKey c.args.version.now c.args.path.now) c.in_err-node_path.field-0.0 in
    let p = err_from_is_err_and c.from_residual.result c.from_residual.ensures.1 in
    rw (p.1, p.2) (record { metadata = tt; path = tt; storage = tt; options = tt; refused = why; named = named })

pub returns-in_err-metadata : goal.returns-in_err-metadata
returns-in_err-metadata g c =
    let state = g.TStorage.ReadableStorageTraits.state c.args.storage in
    let path = c.args.path.now in
    let valid = not_false (is_node_path path) (λ wrong. let bad = c.in_ok-node_path.ensures.tested wrong in cc) in
    let why = opened_none c.args.version.now state path (create_refusal_of c.in_err-metadata.field-0.0) valid (rw c.in_ok-node_path.ensures.ok at c.in_err-metadata.ensures.refused) in
    let named = rw c.in_ok-node_path.ensures.ok at c.in_err-metadata.ensures.named in
    let p = err_from_is_err_and c.from_residual-in_err-metadata.result c.from_residual-in_err-metadata.ensures.1 in
    rw (p.1, p.2) (record { metadata = tt; path = tt; storage = tt; options = tt; refused = why; named = named })

pub returns-in_err-array : goal.returns-in_err-array
returns-in_err-array g c =
    let state = g.TStorage.ReadableStorageTraits.state c.args.storage in
    let path = c.args.path.now in
    let m = metadata_view c.in_ok-metadata.metadata in
    let valid = not_false (is_node_path path) (λ wrong. let bad = c.in_ok-node_path.ensures.tested wrong in cc) in
    let why = opened_unmade c.args.version.now state path m (create_refusal_of c.in_err-array.field-0.0) valid (rw c.in_ok-node_path.ensures.ok at c.in_ok-metadata.ensures.read) c.in_err-array.ensures.refused in
    let named = creation_names (IsMetadataKey c.args.version.now c.args.path.now) m (create_refusal_of c.in_err-array.field-0.0) c.in_err-array.ensures.refused in
    let p = err_from_is_err_and c.from_residual-in_err-array.result c.from_residual-in_err-array.ensures.1 in
    rw (p.1, p.2) (record { metadata = tt; path = tt; storage = tt; options = tt; refused = why; named = named })

pub returns : goal.returns
returns g c =
    let state = g.TStorage.ReadableStorageTraits.state c.args.storage in
    let path = c.args.path.now in
    let m = metadata_view c.in_ok-metadata.metadata in
    let valid = not_false (is_node_path path) (λ wrong. let bad = c.in_ok-node_path.ensures.tested wrong in cc) in
    let made = rw c.in_ok-array.ensures.metadata at (parts_are c.in_ok-array.array) in
    record {
      metadata = rw c.in_ok-array.ensures.metadata (is_opened c.args.version.now state path m _ valid (rw c.in_ok-node_path.ensures.ok at c.in_ok-metadata.ensures.read) made);
      path = search rules;
      storage = c.in_ok-array.ensures.storage;
      options = c.in_ok-array.ensures.options;
      refused = tt;
      named = tt;
    }
