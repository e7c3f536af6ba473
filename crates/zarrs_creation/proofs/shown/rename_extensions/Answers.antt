use Rattle.std.proofs.Common.{◌≡◌, ◌∙◌, ℕ, List, Option, option_map, unwrap_or, sym, ap, refl}
use Rattle.std.proofs.lemmas.Simd.{map-map}
use Rattle.zarrs_metadata_parts.specs.Extension.{ExtensionData, extension_view}
use Rattle.zarrs_creation.specs.Shown.{renamed, main_type_name, main_grid_name, main_encoding_name, main_codec_name}
use Rattle.zarrs_creation.proofs.shown.rename_extensions.Goals as goal

-- the main name that was found for a name is that of the extension
renamed_by : (main : List ℕ → List ℕ) (e : ExtensionData) (name : List ℕ) (found : Option (List ℕ)) → name ≡ e.name → unwrap_or found name ≡ main name
    → record e { name = unwrap_or found e.name } ≡ renamed main e
renamed_by main e name found same is = ap (λ n. record e { name = n }) (ap (unwrap_or found) (sym same) ∙ is ∙ ap main same)

pub returns : goal.returns
returns c =
    let data_type = c.in_ok-rename.ensures ∙ renamed_by main_type_name _ _ (option_map (λ main. main.now) c.main_type_name-type_name.result) c.name.ensures c.main_type_name-type_name.ensures in
    let grid = c.in_ok-rename-2.ensures ∙ renamed_by main_grid_name _ _ (option_map (λ main. main.now) c.main_grid_name-grid_name.result) c.name-2.ensures c.main_grid_name-grid_name.ensures in
    let encoding = c.in_ok-rename-3.ensures ∙ renamed_by main_encoding_name _ _ (option_map (λ main. main.now) c.main_encoding_name-encoding_name.result) c.name-3.ensures c.main_encoding_name-encoding_name.ensures in
    rw (data_type, grid, encoding, c.in_ok-metadata.ensures, map-map (renamed main_codec_name) extension_view c.args.metadata.now.codecs.items) refl
