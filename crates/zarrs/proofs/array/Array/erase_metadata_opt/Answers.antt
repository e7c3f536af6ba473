use Rattle.std.proofs.Common.{inl, refl, rules}
use Rattle.zarrs_engine_calls.specs.Refusals.{out_of_memory}
use Rattle.zarrs_creation.specs.Writing.{erasures}
use Rattle.zarrs.specs.Arrays.{path_of_array, metadata_of_array, store_of_array}
use Rattle.std.proofs.lemmas.Result.{on_ok_weaker}
use Rattle.zarrs.proofs.Counts.{erasing}
use Rattle.zarrs.specs.Puts.{RefusesPuts}
use Rattle.zarrs.proofs.array.Array.erase_metadata_opt.Goals as goal

pub returns-in_err-puts-clause-erases : goal.returns-in_err-puts-clause-erases
returns-in_err-puts-clause-erases g c =
    let why : RefusesPuts (erasures c.args.version (path_of_array c.args.self.now) (metadata_of_array c.args.self.now)) out_of_memory (store_of_array g.TStorage.ReadableStorageTraits.state c.args.self.now) (store_of_array g.TStorage.ReadableStorageTraits.state c.args.self.now) = inl (refl, refl) in
    search (rules, why)

pub returns-clause-erases : goal.returns-clause-erases
returns-clause-erases g c = search (rules)

pub returns-clause-count : goal.returns-clause-count
returns-clause-count g c =
    let state = g.TStorage.ReadableStorageTraits.state in
    let array = c.args.self.now in
    on_ok_weaker c.put_all.result (erasing c.args.version (path_of_array array) (metadata_of_array array) (store_of_array state array) (store_of_array state c.put_all.new.self)) (returns-clause-erases g c).done
