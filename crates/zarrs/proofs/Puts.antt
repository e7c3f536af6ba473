-- Writing calls one after another.
use Rattle.std.proofs.Common.{◌≡◌, inl, inr, ℕ, List, [], ◌∷◌, ◌++◌, refl, sym, subst, ◌∙◌}
use Rattle.std.proofs.lemmas.List.{append-nil, append_assoc}
use Rattle.zarrs_storage.specs.Store.{StoreState, KeepsReach, Refuses}
use Rattle.zarrs_storage.specs.declared.error.StorageError.{StorageError}
use Rattle.zarrs_storage.proofs.ValuesLemmas.{reach_on}
use Rattle.zarrs_keys.specs.Keys.{v3_name, v2_array_name, v2_attributes_name, IsMetadataName}
use Rattle.zarrs_keys.specs.Paths.{path_key}
use Rattle.zarrs_options.specs.declared.versions.MetadataRetrieveVersion.{MetadataRetrieveVersion}
use Rattle.zarrs_options.specs.declared.versions.MetadataRetrieveVersion.TheVariants as retrieve
use Rattle.zarrs_creation.specs.Opening.{MayAskKey, MayAskV2, MayAskMetadata, MayAskEachMetadata}
use Rattle.zarrs_engine_calls.specs.Changes.{IsPut}
use Rattle.zarrs_engine_calls.specs.Refusals.{Refusal, refusal_of_storage}
use Rattle.zarrs.proofs.WritingCalls as call
use Rattle.zarrs_creation.specs.Writing.{Put}
use Rattle.zarrs.specs.Puts.{ArePut, PutsFront, RefusesCall}

-- the store refused a writing call
pub call_refused : (e : StorageError) (old new : StoreState) → Refuses old new → RefusesCall (refusal_of_storage e) old new
call_refused e old new r = record { put = call.put_refused e old new r; called = r.failures }

-- of these puts all are done but those that are left
pub record Putting (puts left : List Put) (old now : StoreState) : Type 0 where
  pub done : List Put
  pub all : puts ≡ done ++ left
  pub front : ArePut done old now

pub put_none : (puts : List Put) (state : StoreState) → Putting puts puts state state
put_none puts state = record { done = []; all = refl; front = refl }

-- one more
snoc : (done : List Put) (p : Put) (old middle new : StoreState) → ArePut done old middle → IsPut p.key p.value middle new → ArePut (done ++ (p ∷ [])) old new
snoc [] p old middle new same put = record { middle = new; first = subst (λ (s : StoreState). IsPut p.key p.value s new) same put; others = refl }
snoc (q ∷ done) p old middle new front put = record { middle = front.middle; first = front.first; others = snoc done p front.middle middle new front.others put }

pub put_next : (puts left : List Put) (p : Put) (old middle new : StoreState) → Putting puts (p ∷ left) old middle → IsPut p.key p.value middle new → Putting puts left old new
put_next puts left p old middle new so put = record {
  done = so.done ++ (p ∷ []);
  all = so.all ∙ sym (append_assoc so.done (p ∷ []) left);
  front = snoc so.done p old middle new so.front put;
}

pub put_refused : (puts left : List Put) (p : Put) (r : Refusal) (old middle new : StoreState) → Putting puts (p ∷ left) old middle → RefusesCall r middle new → PutsFront puts r old new
put_refused puts left p r old middle new so refused = record {
  done = so.done;
  left = p ∷ left;
  all = so.all;
  some_left = λ none. cc;
  middle = middle;
  front = so.front;
  refused = refused;
}

pub put_last : (puts : List Put) (old new : StoreState) → Putting puts [] old new → ArePut puts old new
put_last puts old new so = subst (λ (ps : List Put). ArePut ps old new) (sym (so.all ∙ append-nil so.done)) so.front

-- what may be asked stays
pub reach_after : (puts : List Put) (old new : StoreState) → ArePut puts old new → KeepsReach old new
reach_after [] old new same = subst (λ (s : StoreState). KeepsReach old s) (sym same) (record { refuses = λ key. refl; may_ask = λ key. refl; may_read = λ key place. refl; sets_parts = refl; lenders = refl; parts = refl })
reach_after (p ∷ puts) old new first = reach_on old first.middle new first.first.makes.reach (reach_after puts first.middle new first.others)

pub may_ask_after : (version : MetadataRetrieveVersion) (path : List ℕ) (old new : StoreState) → MayAskEachMetadata old path → KeepsReach old new → MayAskMetadata version new path
may_ask_after version path old new each reach = by_version version
  where
    at : (name : List ℕ) → IsMetadataName name → MayAskKey new (path_key path name)
    at name is = record { asked = reach.may_ask (path_key path name) ∙ each.asked name is; places = λ value place held below. reach.may_read (path_key path name) place ∙ each.places name is place }

    both : MayAskV2 new path
    both = record { array = at v2_array_name (inr (inl refl)); attributes = at v2_attributes_name (inr (inr refl)) }

    by_version : (v : MetadataRetrieveVersion) → MayAskMetadata v new path
    by_version retrieve.Default = (at v3_name (inl refl), both)
    by_version retrieve.V3 = at v3_name (inl refl)
    by_version retrieve.V2 = both
