-- How many writing calls the calls on the metadata of an array make.
use Rattle.std.proofs.Common.{◌≡◌, ◌∙◌, ℕ, List, [], ◌∷◌, length, Ok, ap, sym, subst, arith}
use Rattle.zarrs_storage.specs.Store.{StoreState}
use Rattle.zarrs_engine_calls.specs.Changes.{Makes}
use Rattle.zarrs_engine_calls.proofs.RefusalLemmas.{makes_none}
use Rattle.zarrs_metadata.specs.Versions.{MetadataData, v3, v2}
use Rattle.zarrs_options.specs.declared.versions.MetadataEraseVersion.TheVariants as erase
use Rattle.zarrs_creation.specs.Writing.{Put, IsWrittenBy, erasures}
use Rattle.zarrs_options.specs.Options.{MetadataOptionsData}
use Rattle.zarrs_creation.specs.Shown.{shown}
use Rattle.zarrs.specs.Counts.{documents_of, Writes, StoringCounts, ErasingCounts, UpgradingCounts}
use Rattle.zarrs.specs.Puts.{ArePut, StoresMetadata}
use Rattle.zarrs.proofs.Puts.{reach_after}

-- one call for each of the puts
counted : (puts : List Put) (old new : StoreState) → ArePut puts old new → Makes (length puts) 0 old new
counted [] old new same = subst (λ (s : StoreState). Makes 0 0 old s) (sym same) (makes_none old)
counted (p ∷ puts) old new put =
    let first = put.first.makes in
    let others = counted puts put.middle new put.others in
    record {
      calls = let x = first.calls in let y = others.calls in omega arith;
      failures = let x = first.failures in let y = others.failures in omega arith;
      reach = reach_after (p ∷ puts) old new put;
    }

module _ (old new : StoreState) where
  of_length : (puts : List Put) (n : ℕ) → length puts ≡ n → ArePut puts old new → Makes n 0 old new
  of_length puts n long put = subst (λ (k : ℕ). Makes k 0 old new) long (counted puts old new put)

  written : (path : List ℕ) (m : MetadataData) (puts : List Put) → IsWrittenBy path m puts → ArePut puts old new → Makes (documents_of m) 0 old new
  written path (v3 m) puts by put = of_length puts 1 (ap length by.is) put
  written path (v2 m) puts by put = of_length puts 2 (ap length by.is) put

pub storing : StoringCounts
storing o path m old new stored = written old new path stored.shows stored.puts stored.written stored.put

-- what options show is one
pub stored_count : (o : MetadataOptionsData) (path : List ℕ) (kept m : MetadataData) (old new : StoreState) → shown o kept ≡ Ok m → StoresMetadata o path kept old new → Writes (documents_of m) old new
stored_count o path kept m old new is stored =
    let both : Ok stored.shows ≡ Ok m = sym stored.is_shown ∙ is in
    let same : stored.shows ≡ m = cc in
    subst (λ (x : MetadataData). Writes (documents_of x) old new) same (storing o path kept old new stored)

pub erasing : ErasingCounts
erasing erase.Default path (v3 m) old new put = counted (erasures erase.Default path (v3 m)) old new put
erasing erase.Default path (v2 m) old new put = counted (erasures erase.Default path (v2 m)) old new put
erasing erase.All path m old new put = counted (erasures erase.All path m) old new put
erasing erase.V3 path m old new put = counted (erasures erase.V3 path m) old new put
erasing erase.V2 path m old new put = counted (erasures erase.V2 path m) old new put

pub upgrading : UpgradingCounts
upgrading o path (v3 m) old new same = subst (λ (s : StoreState). Makes 0 0 old s) (sym same) (makes_none old)
upgrading o path (v2 m) old new done = of_length old new done.puts 3 (ap length done.upgrade.upgraded.is) done.put
