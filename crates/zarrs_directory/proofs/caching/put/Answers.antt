use Rattle.std.proofs.Common.{rules, ◌≡◌, ℕ, List, sym, ap, ◌∙◌}
use Rattle.std.specs.BTreeMap.{BTreeMap}
use Rattle.std.specs.Prelude.{Some}
use Rattle.std.specs.FinMap as map
use Rattle.zarrs_storage.specs.Memory.{values_of}
use Rattle.zarrs_storage.proofs.MemoryLemmas.{inserted, put_back, get_stored}
use Rattle.zarrs_directory.proofs.caching.put.Goals as goal

pub returns-in_ok-put_present-in-Some-clause-ok : goal.returns-in_ok-put_present-in-Some-clause-ok
returns-in_ok-put_present-in-Some-clause-ok g c =
    let v = c.put_present.new.present in
    inserted c.args.values.now (c.get_mut.follows.lender v) c.args.key.now v ((c.get_mut.follows.holds v).3 (search rules))
    ∙ ap (map.insert (values_of c.args.values.now) c.args.key.now) c.in_ok-put_present-in-Some.ensures.ok

pub returns-in_err-put_present-in-Some-clause-kept : goal.returns-in_err-put_present-in-Some-clause-kept
returns-in_err-put_present-in-Some-clause-kept g c =
    let v = c.put_present.new.present in
    let found = sym c.in-Some.ensures.value ∙ ap Some (sym c.in_err-put_present-in-Some.ensures.kept) in
    let same : values_of (c.get_mut.follows.lender v) ≡ values_of c.args.values.now =
    put_back c.args.values.now (c.get_mut.follows.lender v) c.args.key.now v found ((c.get_mut.follows.holds v).3 (search rules)) in
    search (rules, same)

pub put_absent-requires : goal.put_absent-requires
put_absent-requires g c =
    ap (λ (m : BTreeMap (List ℕ) (List ℕ)). map.get (values_of m) c.args.key.now) c.get_mut.follows.holds-at-none
    ∙ get_stored c.args.values.now c.args.key.now
    ∙ sym c.in-None.ensures.value
