use Rattle.std.proofs.Common.{◌≡◌, ◌∙◌, ℕ, List, Ok, true, ap, refl, subst, sym}
use Rattle.std.specs.FinMap as map
use Rattle.zarrs_storage.specs.Memory.{MemoryState, open_state}
use Rattle.zarrs_keys.specs.Paths.{is_node_path}
use Rattle.zarrs_metadata_v2.specs.View.{document_v2_view}
use Rattle.zarrs_metadata.specs.Versions.{MetadataData, metadata_view, v2}
use Rattle.zarrs_options.specs.Options.{MetadataOptionsData, options_view}
use Rattle.zarrs_creation.specs.Meanings.{Meaning, creation, meaning_with}
use Rattle.zarrs_creation.specs.Opening.{v3_key}
use Rattle.zarrs.specs.Arrays.{meaning_of_array, metadata_of_array, metadata_options_of_array, path_of_array, store_of_array}
use Rattle.zarrs.specs.Puts.{StoresMetadata}
use Rattle.zarrs.specs.Upgrade.{OpensAs, StaysOpen, UpgradesMetadata}
use Rattle.tests_arrays.proofs.UpgradedStores.{upgraded_opens}
use Rattle.tests_arrays.proofs.upgraded.stored_and_upgraded.Goals as goal

pub returns : goal.returns
returns c = λ again again_v3.
    let made = c.in_ok-array in
    let array = made.array in
    let mid = c.store_metadata.new.self in
    let last = c.upgrade_metadata.new.self in
    let old = store_of_array open_state array in
    let stored = store_of_array open_state mid in
    let new = store_of_array open_state last in
    let path = path_of_array array in
    let parts = meaning_of_array array in
    let d = document_v2_view c.args.document in
    let kept = c.store_metadata.ensures.stores.kept in
    let later = c.upgrade_metadata.ensures.upgrades.kept in
    let m-is = ap metadata_view kept.metadata ∙ made.ensures.metadata in
    let o-is = ap options_view kept.metadata_options ∙ made.ensures.options.metadata in
    let p-is = ap (λ l. l.path) kept.layout_kept in
    let parts-is = ap (λ l. meaning_with l.grid l.keys l.chain l.cell_type.data_type l.cell_type.fill_value) kept.layout_kept in
    let valid = subst (λ (p : List ℕ). is_node_path p ≡ true) c.path.ensures c.as_str-text.ensures.valid in
    let says = subst (λ (m : MetadataData). creation m ≡ Ok parts) made.ensures.metadata c.an_array_is_its_metadata.ensures.parts in
    let empty = ap (λ (s : MemoryState). map.get s.values (v3_key path)) (made.ensures.storage ∙ c.new.ensures) ∙ map.get-empty _ (v3_key path) in
    let puts = subst (λ (o : MetadataOptionsData). StoresMetadata o path (v2 d) old stored) made.ensures.options.metadata (subst (λ (m : MetadataData). StoresMetadata (metadata_options_of_array array) path m old stored) made.ensures.metadata c.in_ok-store_metadata.ensures.stores.done) in
    let upgraded = subst (λ (o : MetadataOptionsData). UpgradesMetadata o path (v2 d) stored new) o-is
    (subst (λ (p : List ℕ). UpgradesMetadata (metadata_options_of_array mid) p (v2 d) stored new) p-is (subst (λ (m : MetadataData). UpgradesMetadata (metadata_options_of_array mid) (path_of_array mid) m stored new) m-is c.in_ok-upgrade_metadata.ensures.upgrades.done)) in
    let stays = subst (λ (o : MetadataOptionsData). StaysOpen o path (v2 d) parts stored new) o-is
    (subst (λ (p : List ℕ). StaysOpen (metadata_options_of_array mid) p (v2 d) parts stored new) p-is
    (subst (λ (m : MetadataData). StaysOpen (metadata_options_of_array mid) (path_of_array mid) m parts stored new) m-is
    (subst (λ (q : Meaning). StaysOpen (metadata_options_of_array mid) (path_of_array mid) (metadata_of_array mid) q stored new) parts-is c.upgrade_metadata.ensures.opens))) in
    let opens = upgraded_opens path d parts valid says again again_v3 c.written_metadata_opens.ensures c.shown_metadata_says_the_same.ensures old stored new empty (λ key. refl) (λ key. refl) puts upgraded stays in
    let layout = later.layout_kept ∙ kept.layout_kept in
    subst (λ (p : List ℕ). OpensAs new p (meaning_of_array last)) (sym (ap (λ l. l.path) layout))
    (subst (λ (q : Meaning). OpensAs new path q) (sym (ap (λ l. meaning_with l.grid l.keys l.chain l.cell_type.data_type l.cell_type.fill_value) layout)) opens)
