use Rattle.std.proofs.Common.{rules, ◌≡◌, sym, ◌∙◌}
use Rattle.std.specs.Option.{option_copied}
use Rattle.std.specs.FinMap as map
use Rattle.zarrs_storage.specs.Memory.{values_of}
use Rattle.zarrs_storage.proofs.MemoryLemmas.{get_stored}
use Rattle.zarrs_directory.proofs.caching.Cache.get_partial.Goals as goal

pub returns-in_err-part_of-in-Some-clause-refused : goal.returns-in_err-part_of-in-Some-clause-refused
returns-in_err-part_of-in-Some-clause-refused c =
    let found : option_copied c.get.result ≡ map.get (values_of c.args.self.now.values) c.args.key.now =
    c.get.ensures.value ∙ sym (get_stored c.args.self.now.values c.args.key.now) in
    search (rules, found)

pub returns-in_ok-part_of-in-Some-clause-value : goal.returns-in_ok-part_of-in-Some-clause-value
returns-in_ok-part_of-in-Some-clause-value c =
    let found : option_copied c.get.result ≡ map.get (values_of c.args.self.now.values) c.args.key.now =
    c.get.ensures.value ∙ sym (get_stored c.args.self.now.values c.args.key.now) in
    search (rules, found)

pub returns-in_ok-part_of-in-Some-clause-passing : goal.returns-in_ok-part_of-in-Some-clause-passing
returns-in_ok-part_of-in-Some-clause-passing c =
    let found : option_copied c.get.result ≡ map.get (values_of c.args.self.now.values) c.args.key.now =
    c.get.ensures.value ∙ sym (get_stored c.args.self.now.values c.args.key.now) in
    search (rules, found)

pub returns-in-None-clause-value : goal.returns-in-None-clause-value
returns-in-None-clause-value c =
    let found : option_copied c.get.result ≡ map.get (values_of c.args.self.now.values) c.args.key.now =
    c.get.ensures.value ∙ sym (get_stored c.args.self.now.values c.args.key.now) in
    search (rules, found)

pub returns-in-None-clause-passing : goal.returns-in-None-clause-passing
returns-in-None-clause-passing c =
    let found : option_copied c.get.result ≡ map.get (values_of c.args.self.now.values) c.args.key.now =
    c.get.ensures.value ∙ sym (get_stored c.args.self.now.values c.args.key.now) in
    search (rules, found)
