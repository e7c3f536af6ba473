use Rattle.std.proofs.Common.{rules, ◌≡◌, [], sym, ap, ◌∙◌}
use Rattle.std.specs.Prelude.{Some, None, unwrap_or}
use Rattle.std.specs.FinMap as map
use Rattle.zarrs_storage.specs.Store.{overwritten}
use Rattle.zarrs_storage.specs.Memory.{values_of}
use Rattle.zarrs_storage.proofs.MemoryLemmas.{inserted, put_back, get_stored}
use Rattle.zarrs_storage.proofs.memory.put_part.Goals as goal

pub returns-in_ok-overwrite-in-Some-clause-ok : goal.returns-in_ok-overwrite-in-Some-clause-ok
returns-in_ok-overwrite-in-Some-clause-ok c =
    let m = c.args.values.now in
    let k = c.args.key.now in
    let v = c.overwrite.new.self in
    let found : Some c.in-Some.present.now ≡ map.get (values_of m) k = c.in-Some.ensures.value ∙ sym (get_stored m k) in
    inserted m (c.get_mut.follows.lender v) k v ((c.get_mut.follows.holds v).3 (search rules))
    ∙ ap (map.insert (values_of m) k) (c.in_ok-overwrite-in-Some.ensures.ok ∙ ap (λ o. overwritten (unwrap_or o []) c.args.offset c.args.bytes.now) found)

pub returns-in_err-overwrite-in-Some-clause-kept : goal.returns-in_err-overwrite-in-Some-clause-kept
returns-in_err-overwrite-in-Some-clause-kept c =
    let m = c.args.values.now in
    let k = c.args.key.now in
    let v = c.overwrite.new.self in
    let found = sym c.in-Some.ensures.value ∙ ap Some (sym c.in_err-overwrite-in-Some.ensures.kept) in
    let same : values_of (c.get_mut.follows.lender v) ≡ values_of m =
    put_back m (c.get_mut.follows.lender v) k v found ((c.get_mut.follows.holds v).3 (search rules)) in
    search (rules, same)

pub returns-in_ok-insert-in-None-clause-ok : goal.returns-in_ok-insert-in-None-clause-ok
returns-in_ok-insert-in-None-clause-ok c =
    let m = c.args.values.now in
    let k = c.args.key.now in
    let v = c.overwrite-in-None.new.self in
    let found : None ≡ map.get (values_of m) k = c.in-None.ensures.value ∙ sym (get_stored m k) in
    let empty : c.new-value.result ≡ [] = c.new-value.ensures ∙ c.new.ensures in
    inserted m c.insert.new.self c.in_ok-clone-in-None.field-0 v (search (rules, c.in_ok-insert-in-None.ensures.updates))
    ∙ ap (λ q. map.insert (values_of m) q v) c.in_ok-clone-in-None.ensures.cases
    ∙ ap (map.insert (values_of m) k) (c.in_ok-overwrite-in-None.ensures.ok
    ∙ ap (λ old. overwritten old c.args.offset c.args.bytes.now) (empty ∙ ap (λ o. unwrap_or o []) found))
