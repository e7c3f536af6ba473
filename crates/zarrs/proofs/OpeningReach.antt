-- What opens at a path depends on the keys of its metadata alone.
use Rattle.std.proofs.Common.{◌≡◌, ◌∙◌, ℕ, List, Option, Some, None, Result, Ok, Err, cond, refl, ap}
use Rattle.zarrs_storage.specs.Store.{StoreState}
use Rattle.zarrs_engine_calls.specs.Content.{value_at}
use Rattle.zarrs_metadata_v2.specs.Document.{DocumentV2Data}
use Rattle.zarrs_metadata.specs.Versions.{MetadataData, v2}
use Rattle.zarrs_options.specs.Refusals.{CreateRefusal, missing_metadata, said_or, storage}
use Rattle.zarrs_options.specs.declared.versions.MetadataRetrieveVersion.{MetadataRetrieveVersion}
use Rattle.zarrs_options.specs.declared.versions.MetadataRetrieveVersion.TheVariants as retrieve
use Rattle.zarrs_creation.specs.Meanings.{path_said, ◌>>=◌}
use Rattle.zarrs_creation.specs.Opening.{attributed, attributes_key, document_v2_read, opened, or_stored_v2, stored_by, stored_default, stored_metadata, stored_v2, stored_v3, v2_array_key, v2_metadata_at, v3_key, v3_of, value_asked, with_stored_attributes}
use Rattle.zarrs.specs.OpeningReach.{AgreeAtKey, OpeningsDependOnTheReach}

-- steps that are the same, one after another
module _ {A B : Type 0} (f g : A → Result B CreateRefusal) (each : (x : A) → f x ≡ g x) where
  then_same : (q : Result A CreateRefusal) → (q >>= f) ≡ (q >>= g)
  then_same (Ok x) = each x
  then_same (Err e) = refl

bind_same : {A B : Type 0} (o p : Result A CreateRefusal) (f g : A → Result B CreateRefusal) → o ≡ p → ((x : A) → f x ≡ g x) → (o >>= f) ≡ (p >>= g)
bind_same o p f g same each = ap (λ q. q >>= f) same ∙ then_same f g each p

module _ (path : List ℕ) (a b : StoreState) where
  asked_same : (key : List ℕ) → AgreeAtKey a b key → value_asked b key ≡ value_asked a key
  asked_same key agree =
      ap (λ r. cond r (Err storage) (Ok (value_at b key))) agree.refuses
      ∙ ap (λ v. cond (a.refuses key) (Err storage) (Ok v)) agree.values

  v3_same : AgreeAtKey a b (v3_key path) → stored_v3 b path ≡ stored_v3 a path
  unfolding stored_v3
  v3_same agree = bind_same _ _ (v3_of (v3_key path)) (v3_of (v3_key path)) (asked_same (v3_key path) agree) (λ value. refl)

  module _ (array : AgreeAtKey a b (v2_array_key path)) (attributes : AgreeAtKey a b (attributes_key path)) where
    attributed_same : (m : DocumentV2Data) → attributed b path m ≡ attributed a path m
    unfolding attributed
    attributed_same m =
        bind_same _ _ (with_stored_attributes (attributes_key path) m) (with_stored_attributes (attributes_key path) m)
        (asked_same (attributes_key path) attributes) (λ value. refl)

    at_same : (value : Option (List ℕ)) → v2_metadata_at b path value ≡ v2_metadata_at a path value
    at_same None = refl
    at_same (Some bytes) =
        bind_same (document_v2_read (v2_array_key path) bytes) _ _ _ refl (λ m. bind_same _ _ (λ all. Ok (Some (v2 all))) (λ all. Ok (Some (v2 all))) (attributed_same m) (λ all. refl))

    v2_same : stored_v2 b path ≡ stored_v2 a path
    unfolding stored_v2
    v2_same = bind_same _ _ (v2_metadata_at b path) (v2_metadata_at a path) (asked_same (v2_array_key path) array) at_same

    or_same : (found : Option MetadataData) → or_stored_v2 b path found ≡ or_stored_v2 a path found
    or_same None = v2_same
    or_same (Some m) = refl

    default_same : AgreeAtKey a b (v3_key path) → stored_default b path ≡ stored_default a path
    unfolding stored_default
    default_same agree = bind_same _ _ (or_stored_v2 b path) (or_stored_v2 a path) (v3_same agree) or_same

  opened_same : (version : MetadataRetrieveVersion) → stored_by version b path ≡ stored_by version a path → opened version b path ≡ opened version a path
  unfolding opened stored_metadata
  opened_same version same =
      bind_same (path_said path) _ _ _ refl
      (λ valid. bind_same _ _ _ _ (bind_same _ _ (said_or missing_metadata) (said_or missing_metadata) same (λ found. refl)) (λ m. refl))

pub openings_depend : OpeningsDependOnTheReach
openings_depend retrieve.Default path a b agree = opened_same path a b retrieve.Default (default_same path a b agree.1 agree.2 agree.0)
openings_depend retrieve.V3 path a b agree = opened_same path a b retrieve.V3 (v3_same path a b agree)
openings_depend retrieve.V2 path a b agree = opened_same path a b retrieve.V2 (v2_same path a b agree.0 agree.1)
