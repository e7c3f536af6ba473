use Rattle.std.proofs.Common.{◌≡◌, rules}
use Rattle.zarrs_creation.proofs.Named.{store_names}
use Rattle.zarrs_creation.proofs.Openings.{read_refused}
use Rattle.zarrs_creation.proofs.opening.value_asked.Goals as goal

pub returns-in-Err : goal.returns-in-Err
returns-in-Err g c =
    let state = g.S.ReadableStorageTraits.state c.args.storage.now in
    let key = c.args.key.now in
    let why = read_refused state key c.in-Err.error c.in-Err.ensures.refused in
    let named = store_names (λ at. at ≡ key) c.in-Err.error in
    record { read = search rules; refused = search (rules, why); named = search (rules, named) }
