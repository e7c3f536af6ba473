use Rattle.std.proofs.Common.{rules, ◌≡◌, sym, ap, ◌∙◌}
use Rattle.std.specs.Option.{option_copied}
use Rattle.std.specs.FinMap as map
use Rattle.zarrs_storage.proofs.MemoryLemmas.{get_stored}
use Rattle.zarrs_storage.proofs.memory.MemoryStoreReadableStorageTraits.get.Goals as goal

pub returns-in_ok-share-in-Some-clause-value : goal.returns-in_ok-share-in-Some-clause-value
returns-in_ok-share-in-Some-clause-value c =
    let found : option_copied c.get.result ≡ map.get c.args.self.now.values c.args.key.now =
    c.get.ensures.value ∙ sym (get_stored c.self.inside.values c.args.key.now) ∙ ap (λ m. map.get m.values c.args.key.now) c.self.view_is in
    search (rules, found)

pub returns-in-None-clause-value : goal.returns-in-None-clause-value
returns-in-None-clause-value c =
    let found : option_copied c.get.result ≡ map.get c.args.self.now.values c.args.key.now =
    c.get.ensures.value ∙ sym (get_stored c.self.inside.values c.args.key.now) ∙ ap (λ m. map.get m.values c.args.key.now) c.self.view_is in
    search (rules, found)
