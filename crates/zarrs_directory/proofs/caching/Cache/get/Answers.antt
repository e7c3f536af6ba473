use Rattle.std.proofs.Common.{rules, ◌≡◌, sym, ◌∙◌}
use Rattle.std.specs.Option.{option_copied}
use Rattle.std.specs.FinMap as map
use Rattle.zarrs_storage.specs.Memory.{values_of}
use Rattle.zarrs_storage.proofs.MemoryLemmas.{get_stored}
use Rattle.zarrs_directory.proofs.caching.Cache.get.Goals as goal

pub returns-in_ok-clone-in-Some : goal.returns-in_ok-clone-in-Some
returns-in_ok-clone-in-Some c =
    let found : option_copied c.get.result ≡ map.get (values_of c.args.self.now.values) c.args.key.now =
    c.get.ensures.value ∙ sym (get_stored c.args.self.now.values c.args.key.now) in
    search (rules, found)

pub returns-in-None : goal.returns-in-None
returns-in-None c =
    let found : option_copied c.get.result ≡ map.get (values_of c.args.self.now.values) c.args.key.now =
    c.get.ensures.value ∙ sym (get_stored c.args.self.now.values c.args.key.now) in
    search (rules, found)
