-- V2 metadata that is stored in a store without V3 metadata, and then upgraded.
use Rattle.std.proofs.Common.{◌≡◌, ◌≢◌, ◌==◌, ◌∙◌, ℕ, List, None, Ok, true, false, drop, refl, sym, ap, subst}
use Rattle.std.specs.Prelude.{slice_index}
use Rattle.std.proofs.lemmas.List.{append_cancel_left}
use Rattle.zarrs_storage.specs.Store.{StoreState}
use Rattle.zarrs_keys.specs.Keys.{v2_array_name, v2_attributes_name, v3_name}
use Rattle.zarrs_keys.specs.Paths.{is_node_path, path_key, with_slash}
use Rattle.zarrs_engine_calls.specs.Content.{value_at}
use Rattle.zarrs_metadata_v2.specs.Document.{DocumentV2Data}
use Rattle.zarrs_metadata_v3.specs.Document.{DocumentData}
use Rattle.zarrs_metadata.specs.Versions.{MetadataData, v2}
use Rattle.zarrs_options.specs.Options.{default_options}
use Rattle.zarrs_options.specs.declared.versions.MetadataRetrieveVersion.TheVariants as retrieve
use Rattle.zarrs_creation.specs.Meanings.{Meaning, creation}
use Rattle.zarrs_creation.specs.Opening.{attributes_key, opened, v2_array_key, v3_key}
use Rattle.zarrs_creation.specs.Shown.{shown_v2}
use Rattle.zarrs_creation.specs.Writing.{IsWrittenBy, IsWrittenV2, Put}
use Rattle.zarrs.specs.Laws.{IsReadAgainV2, IsReadAgainV3, ShownMetadataSaysTheSame, WrittenMetadataOpens}
use Rattle.zarrs.specs.Puts.{ArePut, StoresMetadata}
use Rattle.zarrs.specs.Upgrade.{IsUpgradeOf, OpensAs, StaysOpen, UpgradesMetadata}

-- the V3 document has another key than the V2 documents
keys_differ : (path name : List ℕ) → (slice_index name 0 == 122) ≡ false → path_key path v3_name ≢ path_key path name
keys_differ path name other same =
    let names : v3_name ≡ name = append_cancel_left (with_slash (drop 1 path)) v3_name name same in
    let apart : true ≡ false = ap (λ (l : List ℕ). slice_index l 0 == 122) names ∙ other in
    cc

module _ (path : List ℕ) (d : DocumentV2Data) (parts : Meaning) (valid : is_node_path path ≡ true) (made : creation (v2 d) ≡ Ok parts)
    (again : IsReadAgainV2 (shown_v2 default_options d)) (again_v3 : (n : DocumentData) → IsUpgradeOf default_options (v2 d) n → IsReadAgainV3 n)
    (opens : WrittenMetadataOpens) (shows_same : ShownMetadataSaysTheSame)
    (old mid new : StoreState) (empty : value_at old (v3_key path) ≡ None) (mid_open : (key : List ℕ) → mid.refuses key ≡ false) (new_open : (key : List ℕ) → new.refuses key ≡ false)
    (stored : StoresMetadata default_options path (v2 d) old mid) (upgraded : UpgradesMetadata default_options path (v2 d) mid new)
    (stays : StaysOpen default_options path (v2 d) parts mid new) where
  abbrev shows : DocumentV2Data
  shows = shown_v2 default_options d

  written : IsWrittenV2 path shows stored.puts
  written =
      let both : Ok stored.shows ≡ Ok (v2 shows) = sym stored.is_shown in
      let same : stored.shows ≡ v2 shows = cc in
      subst (λ (m : MetadataData). IsWrittenBy path m stored.puts) same stored.written

  said : creation (v2 shows) ≡ Ok parts
  said = shows_same default_options (v2 d) (v2 shows) parts refl made

  found : opened retrieve.V2 mid path ≡ Ok (v2 shows)
  found = opens path (v2 shows) parts stored.puts old mid valid said again written stored.put (mid_open (v2_array_key path), mid_open (attributes_key path))

  absent : value_at mid (v3_key path) ≡ None
  absent =
      let first = subst (λ (ps : List Put). ArePut ps old mid) written.is stored.put in
      let second = first.others in
      ap (λ (s : StoreState). value_at s (v3_key path)) second.others
      ∙ second.first.others (v3_key path) (keys_differ path v2_array_name refl)
      ∙ first.first.others (v3_key path) (keys_differ path v2_attributes_name refl)
      ∙ empty

  pub upgraded_opens : OpensAs new path parts
  upgraded_opens =
      let upgrade = upgraded.upgrade in
      stays upgrade.document (v2 shows) upgrade.is_upgrade (again_v3 upgrade.document upgrade.is_upgrade) absent found said
      (record { document = new_open (v3_key path); v2_document = new_open (v2_array_key path); v2_attributes = new_open (attributes_key path) })
