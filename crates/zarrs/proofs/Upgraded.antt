-- What turns V2 metadata into V3 metadata, and what stands if that is refused.
use Rattle.std.proofs.Common.{◌≡◌, inl, inr, ℕ, List, [], ◌∷◌, ◌++◌, map, None, Result, Ok, Err, IfErr, OnOk, refl, sym, ap, subst, ◌∙◌}
use Rattle.std.proofs.lemmas.List.{append_assoc, map-append}
use Rattle.zarrs_storage.specs.Store.{StoreState}
use Rattle.zarrs_storage.specs.declared.error.StorageError.{StorageError}
use Rattle.zarrs_engine_calls.specs.Refusals.{Refusal, out_of_memory, refusal_of_storage}
use Rattle.zarrs_metadata_v3.specs.Document.{DocumentData}
use Rattle.zarrs_metadata.specs.Conversion.{ConversionRefusal, to_v3}
use Rattle.zarrs_metadata_v2.specs.Document.{DocumentV2Data}
use Rattle.zarrs_metadata.specs.Versions.{MetadataData, v3, v2}
use Rattle.zarrs_options.specs.Options.{MetadataOptionsData}
use Rattle.zarrs_options.specs.declared.versions.MetadataConvertVersion.TheVariants as convert
use Rattle.zarrs_creation.specs.Meanings.{as_v3, v3_metadata}
use Rattle.zarrs_creation.specs.Opening.{v2_array_key, attributes_key}
use Rattle.zarrs_creation.specs.Shown.{shown, shown_as_v3}
use Rattle.zarrs_creation.specs.Writing.{Put, put_at, put_view, IsWrittenBy}
use Rattle.zarrs_creation.specs.declared.writing.MetadataPut.{MetadataPut}
use Rattle.zarrs.specs.Puts.{ArePut, PutsFront}
use Rattle.zarrs.specs.Upgrade.{AreUpgrade, UpgradesMetadata, UpgradesOrRefuses, RefusesUpgrade}

-- what is shown in V3 is no V2 document
no_v2 : (o : MetadataOptionsData) (r : Result DocumentData ConversionRefusal) (d : DocumentV2Data) → shown_as_v3 o r ≡ Ok (v2 d) → ⊥
no_v2 o (Ok n) d is = cc
no_v2 o (Err r) d is = cc

-- two more puts
pub two_more : (puts once twice : List MetadataPut) (p q : MetadataPut) (x y : Put) → once ≡ puts ++ (p ∷ []) → twice ≡ once ++ (q ∷ []) → put_view p ≡ x → put_view q ≡ y
    → map put_view twice ≡ map put_view puts ++ (x ∷ y ∷ [])
two_more puts once twice p q x y first second px qy =
    ap (map put_view) (second ∙ ap (λ (l : List MetadataPut). l ++ (q ∷ [])) first ∙ append_assoc puts (p ∷ []) (q ∷ []))
    ∙ map-append put_view puts (p ∷ q ∷ [])
    ∙ ap (λ (a : Put). map put_view puts ++ (a ∷ put_view q ∷ [])) px
    ∙ ap (λ (b : Put). map put_view puts ++ (x ∷ b ∷ [])) qy

module _ (o : MetadataOptionsData) (path : List ℕ) (m : MetadataData) (d : DocumentV2Data) (is : m ≡ v2 d) where
  -- the text of what is shown, and two erasures
  pub upgrade_made : (n : MetadataData) (first : List Put) → shown (record o { convert_version = convert.V3 }) m ≡ Ok n → IsWrittenBy path n first
      → AreUpgrade o path d (first ++ (put_at (v2_array_key path) None ∷ put_at (attributes_key path) None ∷ []))
  upgrade_made (v3 n) first shows written = record {
    document = n;
    is_upgrade = ap (shown (record o { convert_version = convert.V3 })) (sym is) ∙ shows;
    upgraded = record { text = written.text; says = written.says; is = ap (λ (puts : List Put). puts ++ (put_at (v2_array_key path) None ∷ put_at (attributes_key path) None ∷ [])) written.is };
  }
  upgrade_made (v2 n) first shows written = absurd (no_v2 (record o { convert_version = convert.V3 }) (to_v3 d) n (ap (shown (record o { convert_version = convert.V3 })) (sym is) ∙ shows))

  pub upgrade_done : (puts : List Put) (old new : StoreState) → AreUpgrade o path d puts → ArePut puts old new → UpgradesMetadata o path m old new
  upgrade_done puts old new upgrade put = subst (λ (x : MetadataData). UpgradesMetadata o path x old new) (sym is) (record { puts = puts; upgrade = upgrade; put = put })

  -- out of memory before the first call
  pub upgrade_short : (state : StoreState) → RefusesUpgrade o path m out_of_memory state state
  upgrade_short state = subst (λ (x : MetadataData). RefusesUpgrade o path x out_of_memory state state) (sym is) (inl (refl, refl))

  pub upgrade_refused : (puts : List Put) (r : Refusal) (old new : StoreState) → AreUpgrade o path d puts → PutsFront puts r old new → RefusesUpgrade o path m r old new
  upgrade_refused puts r old new upgrade refused = subst (λ (x : MetadataData). RefusesUpgrade o path x r old new) (sym is) (inr (record { puts = puts; upgrade = upgrade; refused = refused }))

-- the V3 metadata that it becomes
pub upgrade_converts : (m : MetadataData) (d : DocumentV2Data) (n : DocumentData) → m ≡ v2 d → to_v3 d ≡ Ok n → as_v3 m ≡ Ok (v3 n)
upgrade_converts m d n is made = ap as_v3 is ∙ ap v3_metadata made

-- it is upgraded or not, with some refusal
pub upgraded_or_not : (r : Result (Unit {0}) StorageError) (o : MetadataOptionsData) (path : List ℕ) (m : MetadataData) (old new : StoreState)
    → OnOk r (UpgradesMetadata o path m old new) → IfErr r (λ e. RefusesUpgrade o path m (refusal_of_storage e) old new) → (x : Refusal) × UpgradesOrRefuses o path m x old new
upgraded_or_not (Ok done) o path m old new upgraded refused = (out_of_memory, inl upgraded)
upgraded_or_not (Err e) o path m old new upgraded refused = (refusal_of_storage e, inr refused)
