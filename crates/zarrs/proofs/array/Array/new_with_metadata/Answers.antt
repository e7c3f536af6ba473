use Rattle.std.proofs.lemmas.Result.{err_from_is_err_and}
use Rattle.zarrs_keys.specs.Paths.{is_node_path}
use Rattle.zarrs_metadata.specs.Versions.{metadata_view}
use Rattle.zarrs_options.specs.Refusals.{create_refusal_of}
use Rattle.zarrs_creation.proofs.Openings.{not_false, created_path, created_unmade}
use Rattle.zarrs.proofs.array.Array.new_with_metadata.Goals as goal

pub returns-in_err-path : goal.returns-in_err-path
returns-in_err-path g c =
    let why = created_path c.args.path.now (metadata_view c.args.metadata) c.in_err-path.field-0.0 c.in_err-path.ensures.accepted in
    let p = err_from_is_err_and c.from_residual.result c.from_residual.ensures.1 in
    rw (p.1, p.2) (record { metadata = tt; path = tt; storage = tt; options = tt; refused = why })

pub returns-in_err-array : goal.returns-in_err-array
returns-in_err-array g c =
    let valid = not_false (is_node_path c.args.path.now) (λ wrong. let bad = c.in_ok-path.ensures.tested wrong in cc) in
    let why = created_unmade c.args.path.now (metadata_view c.args.metadata) (create_refusal_of c.in_err-array.field-0.0) valid c.in_err-array.ensures.refused in
    let p = err_from_is_err_and c.from_residual-in_err-array.result c.from_residual-in_err-array.ensures.1 in
    rw (p.1, p.2) (record { metadata = tt; path = tt; storage = tt; options = tt; refused = why })
