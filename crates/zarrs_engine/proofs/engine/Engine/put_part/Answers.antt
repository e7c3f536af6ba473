use Rattle.std.proofs.Common.{ℕ, List, None, refl, subst}
use Rattle.std.proofs.lemmas.Result.{on_ok_weaker}
use Rattle.std.specs.FinMap as map
use Rattle.std.specs.Prelude.{[], unwrap_or}
use Rattle.zarrs_storage.specs.Store.{AcceptsPartial, Refuses, RefusesPartial, overwritten, with_part}
use Rattle.zarrs_storage.specs.declared.error.StorageError.{StorageError}
use Rattle.zarrs_engine_calls.specs.Refusals.{refusal_of_storage}
use Rattle.zarrs_engine.specs.Patches.{RefusesPutPart}
use Rattle.zarrs_engine.proofs.Puts.{any_error, partial_refused, put_erase, put_partial, put_refused, puts_part, refuses_put_part}
use Rattle.zarrs_engine.proofs.engine.Engine.put_part.Goals as goal

pub returns-in-Put : goal.returns-in-Put
returns-in-Put g c =
    let old = g.S.ReadableStorageTraits.state c.args.self.now.storage in
    let new = g.S.ReadableStorageTraits.state c.set_partial.new.self in
    let key = c.args.key.now in
    let offset = c.in-Put.offset in
    let bytes = c.in-Put.bytes.items in
    record {
      done = rw c.in-Put.is (on_ok_weaker c.set_partial.result (λ a. put_partial key (overwritten (unwrap_or (map.get old.values key) []) offset bytes) old new
          (subst (λ (v : List ℕ). AcceptsPartial old new (with_part old.values key offset v)) c.deref.ensures.value a)) c.set_partial.ensures.ok);
      refused = any_error c.set_partial.result (RefusesPartial old new) (λ (e : StorageError). RefusesPutPart key (refusal_of_storage e) old new) (λ e r. partial_refused key e old new r) c.set_partial.ensures.refused;
      layout_kept = refl;
    }

pub returns-in-Erase : goal.returns-in-Erase
returns-in-Erase g c =
    let old = g.S.ReadableStorageTraits.state c.args.self.now.storage in
    let new = g.S.ReadableStorageTraits.state c.erase.new.self in
    let key = c.args.key.now in
    record {
      done = rw c.in-Erase.is (on_ok_weaker c.erase.result (λ a. puts_part key None old new (put_erase key old new a)) c.erase.ensures.ok);
      refused = any_error c.erase.result (Refuses old new) (λ (e : StorageError). RefusesPutPart key (refusal_of_storage e) old new)
          (λ e r. refuses_put_part key (refusal_of_storage e) old new (put_refused e old new r)) c.erase.ensures.refused;
      layout_kept = refl;
    }
