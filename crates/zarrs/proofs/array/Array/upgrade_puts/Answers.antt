use Rattle.std.proofs.Common.{◌≡◌, ◌∙◌, ℕ, List, map, None, Ok, ap, sym, subst}
use Rattle.zarrs_options.specs.Options.{MetadataOptionsData}
use Rattle.zarrs_options.specs.declared.versions.MetadataConvertVersion.TheVariants as convert
use Rattle.zarrs_keys.specs.Keys.{v2_array_name, v2_attributes_name}
use Rattle.zarrs_keys.specs.Paths.{path_key}
use Rattle.zarrs_creation.specs.Opening.{v2_array_key, attributes_key}
use Rattle.zarrs_creation.specs.Shown.{shown}
use Rattle.zarrs_creation.specs.Writing.{Put, put_at, put_view}
use Rattle.zarrs.specs.Arrays.{metadata_of_array, metadata_options_of_array, path_of_array}
use Rattle.zarrs.specs.Upgrade.{AreUpgrade}
use Rattle.zarrs.proofs.Upgraded.{two_more, upgrade_made}
use Rattle.zarrs.proofs.array.Array.upgrade_puts.Goals as goal

pub returns-clause-upgrade : goal.returns-clause-upgrade
returns-clause-upgrade g c = λ m is.
    let array = c.args.self.now in
    let o = metadata_options_of_array array in
    let path = path_of_array array in
    let puts = c.in_ok-puts.puts.items in
    let a = c.in_ok-puts.ensures.shown in
    let n = a.shows in
    let shows : shown (record o { convert_version = convert.V3 }) (metadata_of_array array) ≡ Ok n =
    subst (λ (x : MetadataOptionsData). shown x (metadata_of_array array) ≡ Ok n) c.with_metadata_convert_version-options.ensures a.is_shown in
    let written = a.written in
    let made = upgrade_made o path (metadata_of_array array) m is n (map put_view puts) shows written in
    let here = c.path-path.ensures in
    let array_key = c.in_ok-meta_key_v2_array.ensures.key ∙ ap (λ (p : List ℕ). path_key p v2_array_name) here in
    let other_key = c.in_ok-meta_key_v2_attributes.ensures.key ∙ ap (λ (p : List ℕ). path_key p v2_attributes_name) here in
    let all = two_more puts _ _ _ _ (put_at (v2_array_key path) None) (put_at (attributes_key path) None) c.in_ok-push.ensures.items c.in_ok-push-2.ensures.items (ap (λ (k : List ℕ). put_at k None) array_key) (ap (λ (k : List ℕ). put_at k None) other_key) in
    subst (λ (ps : List Put). AreUpgrade o path m ps) (sym all) made
