use Rattle.std.proofs.Common.{◌≡◌, ◌∙◌, sym, ap, subst, ℕ, List, Ok, inl, inr, rules}
use Rattle.std.proofs.lemmas.Result.{err_from_is_err_and}
use Rattle.zarrs_storage.specs.Store.{StoreState}
use Rattle.zarrs_options.specs.declared.versions.MetadataRetrieveVersion.{MetadataRetrieveVersion}
use Rattle.zarrs_options.specs.Refusals.{create_refusal_of, RefusesCreation}
use Rattle.zarrs_metadata.specs.Versions.{MetadataData}
use Rattle.zarrs_creation.specs.Meanings.{creation}
use Rattle.zarrs_creation.specs.Shown.{shown}
use Rattle.zarrs_creation.specs.Opening.{opened, IsMetadataKey, NamesOneOf}
use Rattle.zarrs_creation.proofs.Names.{shown_says_the_same}
use Rattle.zarrs.specs.Arrays.{metadata_of_array, metadata_options_of_array, meaning_of_array, path_of_array, store_of_array}
use Rattle.zarrs.specs.Laws.{IsReadAgain, normal_metadata, version_of}
use Rattle.zarrs.specs.Reopening.{RefusesReopening}
use Rattle.zarrs.proofs.Layouts.{parts_are, one_layout}
use Rattle.zarrs.proofs.Puts.{reach_after, may_ask_after}
use Rattle.zarrs.proofs.Trips.{normal_metadata_says, stored_opens}
use Rattle.zarrs.proofs.reopening.written_and_opened.Goals as goal

pub open_opt-requires : goal.open_opt-requires
open_opt-requires g c =
    let state = g.S.ReadableStorageTraits.state in
    let array = c.args.array in
    let old = store_of_array state array in
    let new = state c.in_ok-storage.storage in
    let done = c.in_ok-storage.ensures.stored in
    let path : c.as_str.result.now ≡ path_of_array array = c.as_str.ensures.text ∙ c.in_ok-path.ensures.path in
    let may = may_ask_after c.in_ok-path.version (path_of_array array) old new c.requires (reach_after done.puts old new done.put) in
    rw path may

pub returns : goal.returns
returns g c =
    let state = g.S.ReadableStorageTraits.state in
    let array = c.args.array in
    let made = c.in_ok-opened.opened in
    let o = metadata_options_of_array array in
    let new = state c.in_ok-storage.storage in
    let path : c.as_str.result.now ≡ path_of_array array = c.as_str.ensures.text ∙ c.in_ok-path.ensures.path in
    let there = subst (λ (p : List ℕ). opened c.in_ok-path.version new p ≡ Ok (metadata_of_array made)) path c.in_ok-opened.ensures.metadata in
    let found : (m : MetadataData) → shown o (metadata_of_array array) ≡ Ok m → opened (version_of m) new (path_of_array array) ≡ Ok (metadata_of_array made) = λ m is. (
    let version : c.in_ok-path.version ≡ version_of m = c.in_ok-path.ensures.version m is in
    subst (λ (v : MetadataRetrieveVersion). opened v new (path_of_array array) ≡ Ok (metadata_of_array made)) version there) in
    let held : store_of_array state made ≡ new = ap state c.in_ok-opened.ensures.storage in
    let reads : (m : MetadataData) → shown o (metadata_of_array array) ≡ Ok m → IsReadAgain m → metadata_of_array made ≡ normal_metadata m = λ m is again.
    stored_opens o (path_of_array array) (metadata_of_array array) m (metadata_of_array made) (meaning_of_array array) (store_of_array state array) new (parts_are array) is again c.in_ok-storage.ensures.stored (found m is) in
    record {
      opens = λ m is. subst (λ (s : StoreState). opened (version_of m) s (path_of_array array) ≡ Ok (metadata_of_array made)) (sym held) (found m is);
      metadata = reads;
      path = c.in_ok-opened.ensures.path ∙ path;
      layout = λ m is again. (
          let says = shown_says_the_same o (metadata_of_array array) m (meaning_of_array array) is (parts_are array) in
          one_layout array made (ap creation (reads m is again) ∙ normal_metadata_says m ∙ says) (c.in_ok-opened.ensures.path ∙ path));
      stored = search rules;
      options = c.in_ok-opened.ensures.options;
      refused = tt;
    }

pub returns-in_err-opened : goal.returns-in_err-opened
returns-in_err-opened g c =
    let state = g.S.ReadableStorageTraits.state in
    let array = c.args.array in
    let new = state c.in_ok-storage.storage in
    let done = c.in_ok-storage.ensures.stored in
    let e = create_refusal_of c.in_err-opened.field-0.0 in
    let path : c.as_str.result.now ≡ path_of_array array = c.as_str.ensures.text ∙ c.in_ok-path.ensures.path in
    let version : c.in_ok-path.version ≡ version_of done.shows = c.in_ok-path.ensures.version done.shows done.is_shown in
    let there = subst (λ (p : List ℕ). RefusesCreation (opened c.in_ok-path.version new p) e) path c.in_err-opened.ensures.refused in
    let by_version = subst (λ (v : MetadataRetrieveVersion). RefusesCreation (opened v new (path_of_array array)) e) version there in
    let asked = subst (λ (p : List ℕ). NamesOneOf (IsMetadataKey c.in_ok-path.version p) e) path c.in_err-opened.ensures.named in
    let named = subst (λ (v : MetadataRetrieveVersion). NamesOneOf (IsMetadataKey v (path_of_array array)) e) version asked in
    let why : RefusesReopening state (metadata_options_of_array array) (path_of_array array) (metadata_of_array array) e (store_of_array state array) = inr (record { left = c.in_ok-storage.storage; stored = done; refused = by_version; named = named }) in
    let p = err_from_is_err_and c.from_residual-in_err-opened.result c.from_residual-in_err-opened.ensures.1 in
    rw (p.1, p.2) (record { opens = λ m is. tt; metadata = λ m is again. tt; path = tt; layout = λ m is again. tt; stored = tt; options = tt; refused = why })

pub returns-in_err-path : goal.returns-in_err-path
returns-in_err-path g c =
    let p = err_from_is_err_and c.from_residual.result c.from_residual.ensures.1 in
    rw (p.1, p.2) (record { opens = λ m is. tt; metadata = λ m is again. tt; path = tt; layout = λ m is again. tt; stored = tt; options = tt; refused = inl (inl c.in_err-path.ensures.refused) })

pub returns-in_err-storage : goal.returns-in_err-storage
returns-in_err-storage g c =
    let p = err_from_is_err_and c.from_residual-in_err-storage.result c.from_residual-in_err-storage.ensures.1 in
    rw (p.1, p.2) (record { opens = λ m is. tt; metadata = λ m is again. tt; path = tt; layout = λ m is again. tt; stored = tt; options = tt; refused = inl c.in_err-storage.ensures.refused })
