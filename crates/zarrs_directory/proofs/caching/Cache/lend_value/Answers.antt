use Rattle.std.proofs.Common.{rules, ◌≡◌, Some, refl, sym, ◌∙◌}
use Rattle.std.specs.Option.{option_copied}
use Rattle.std.specs.FinMap as map
use Rattle.zarrs_storage.specs.Memory.{values_of}
use Rattle.zarrs_storage.proofs.MemoryLemmas.{get_stored}
use Rattle.zarrs_directory.proofs.caching.Cache.lend_value.Goals as goal

pub returns-in-Some : goal.returns-in-Some
returns-in-Some c =
    let found : option_copied c.get.result ≡ map.get (values_of c.args.self.now.values) c.args.key.now =
    c.get.ensures.value ∙ sym (get_stored c.args.self.now.values c.args.key.now) in
    let present : map.get (values_of c.args.self.now.values) c.args.key.now ≡ Some c.as_slice.result.now = search (rules, found) in
    record { lends = record { present = present; allowed = λ value place at below. refl; served = refl }; value = sym present }

pub returns-in-None-clause-value : goal.returns-in-None-clause-value
returns-in-None-clause-value c =
    let found : option_copied c.get.result ≡ map.get (values_of c.args.self.now.values) c.args.key.now =
    c.get.ensures.value ∙ sym (get_stored c.args.self.now.values c.args.key.now) in
    search (rules, found)
