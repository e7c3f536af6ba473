use Rattle.std.proofs.Common.{rules, ◌≡◌, sym, ap, ◌∙◌}
use Rattle.std.specs.Option.{option_copied}
use Rattle.std.specs.FinMap as map
use Rattle.zarrs_storage.proofs.MemoryLemmas.{get_stored}
use Rattle.zarrs_storage.proofs.memory.MemoryStoreReadableStorageTraits.size_key.Goals as goal

pub returns : goal.returns
returns c =
    let found : option_copied c.get.result ≡ map.get c.args.self.now.values c.args.key.now =
    c.get.ensures.value ∙ sym (get_stored c.self.inside.values c.args.key.now) ∙ ap (λ m. map.get m.values c.args.key.now) c.self.view_is in
    search (rules, found)
