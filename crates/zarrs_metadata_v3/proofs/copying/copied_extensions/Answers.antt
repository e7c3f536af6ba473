use Rattle.std.proofs.Common.{◌≡◌, List, [], ◌∷◌, map, refl}
use Rattle.std.specs.List.{AllZip}
use Rattle.std.proofs.lemmas.Result.{MatchResult-weaker}
use Rattle.zarrs_metadata_parts.specs.Extension.{extension_view}
use Rattle.zarrs_metadata_parts.specs.declared.extension.MetadataV3.{MetadataV3}
use Rattle.zarrs_metadata_v3.proofs.copying.copied_extensions.Goals as goal

extensions-clone : (es fs : List MetadataV3) → AllZip (λ e f. extension_view f ≡ extension_view e) es fs → map extension_view fs ≡ map extension_view es
extensions-clone [] [] h = refl
extensions-clone [] (f ∷ fs) h = absurd h
extensions-clone (e ∷ es) [] h = absurd h
extensions-clone (e ∷ es) (f ∷ fs) h = rw (h.0, extensions-clone es fs h.1) refl

pub returns : goal.returns
returns c = MatchResult-weaker c.clone.result c.clone.ensures.cases (λ copies h. extensions-clone c.args.extensions.now.items copies.items h.0) (λ e h. tt)
