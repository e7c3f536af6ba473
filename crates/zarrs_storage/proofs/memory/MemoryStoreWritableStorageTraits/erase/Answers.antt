use Rattle.std.proofs.Common.{rules, ◌≡◌, ap, ◌∙◌}
use Rattle.std.specs.FinMap as map
use Rattle.zarrs_storage.specs.Memory.{values_of}
use Rattle.zarrs_storage.proofs.MemoryLemmas.{removed}
use Rattle.zarrs_storage.proofs.memory.MemoryStoreWritableStorageTraits.erase.Goals as goal

pub returns-clause-ok : goal.returns-clause-ok
returns-clause-ok c =
    let left : values_of c.remove.new.self ≡ map.remove c.args.self.now.values c.args.key.now =
    removed c.self.inside.values c.remove.new.self c.args.key.now c.remove.ensures.updates ∙ ap (λ m. map.remove m.values c.args.key.now) c.self.view_is in
    search (rules, left)
