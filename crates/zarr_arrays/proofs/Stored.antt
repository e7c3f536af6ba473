-- What calls leave of a directory that was lent.
use Rattle.std.proofs.Common.{◌≡◌, ℕ, List, [], ◌∷◌, Bool, true, false, ◌&&◌, Some, refl, subst, ap}
use Rattle.std.specs.Prelude.{Option, Result, Ok, OnOk, slice_index}
use Rattle.std.specs.Borrow.{MutBor}
use Rattle.zarrs_subset.specs.Regions.{Box, IsLong}
use Rattle.zarrs_storage.specs.Store.{StoreState}
use Rattle.zarrs_storage.specs.Wrappers.{lent_state}
use Rattle.zarrs_data_type.specs.ArrayData.{ArrayData}
use Rattle.zarrs_data_type.specs.Cells.{cells}
use Rattle.zarrs_engine_calls.specs.Layout.{Layout}
use Rattle.zarrs_engine_calls.specs.Changes.{IsPut, Makes}
use Rattle.zarrs_engine_calls.specs.ChunkBoxes.{chunks_met}
use Rattle.zarrs_engine_calls.specs.Compactions.{CompactsChunk}
use Rattle.zarrs_engine_calls.specs.Fronts.{StoresAll}
use Rattle.zarrs_engine_calls.specs.Laws.{HaveEqualContent}
use Rattle.zarrs_engine_calls.specs.Patches.{writes_parts}
use Rattle.zarrs_metadata.specs.Versions.{MetadataData, v3, v2}
use Rattle.zarrs_options.specs.Options.{MetadataOptionsData}
use Rattle.zarrs_creation.specs.Writing.{Put}
use Rattle.zarrs.specs.Arrays.{layout_of_array, metadata_of_array, metadata_options_of_array, path_of_array, HasAllButStore}
use Rattle.zarrs.specs.Puts.{ArePut}
use Rattle.zarrs.specs.Upgrade.{UpgradesMetadata}
use Rattle.zarrs.specs.declared.array.Array.{Array}
use Rattle.zarrs_directory.specs.Directory.{cache_state}
use Rattle.zarrs_directory.specs.declared.caching.Cache.{Cache}
use Rattle.zarr_arrays.specs.Storing.{CompactsOver, StoresOver, UpgradesOver}

-- what is said of a good result
pub ok_fact : {T E : Type 0} (P : Type 0) (result : Result T E) (value : T) → result ≡ Ok value → OnOk result P → P
ok_fact {T = T} {E = E} P result value is holds = subst (λ (r : Result T E). OnOk r P) is holds

never : (asked can : Bool) → (asked && (can && false)) ≡ false
never false can = refl
never true false = refl
never true true = refl

-- the state without its lenders
abbrev unlent : StoreState → StoreState
unlent s = record s { lenders = [] }

put_unlent : (key : List ℕ) (value : Option (List ℕ)) (old new : StoreState) → IsPut key value old new → IsPut key value (unlent old) (unlent new)
put_unlent key value old new put = record {
  held = put.held;
  others = put.others;
  makes = record {
    calls = put.makes.calls;
    failures = put.makes.failures;
    reach = record {
      refuses = put.makes.reach.refuses;
      may_ask = put.makes.reach.may_ask;
      may_read = put.makes.reach.may_read;
      sets_parts = put.makes.reach.sets_parts;
      lenders = refl;
      parts = put.makes.reach.parts;
    };
  };
}

all_unlent : (puts : List Put) (old new : StoreState) → ArePut puts old new → ArePut puts (unlent old) (unlent new)
all_unlent [] old new same = ap unlent same
all_unlent (p ∷ puts) old new are = record {
  middle = unlent are.middle;
  first = put_unlent p.key p.value old are.middle are.first;
  others = all_unlent puts are.middle new are.others;
}

upgrade_unlent : (o : MetadataOptionsData) (path : List ℕ) (m : MetadataData) (old new : StoreState) → UpgradesMetadata o path m old new
    → UpgradesMetadata o path m (unlent old) (unlent new)
upgrade_unlent o path (v3 m) old new same = ap unlent same
upgrade_unlent o path (v2 m) old new upgrades = record {
  puts = upgrades.puts;
  upgrade = upgrades.upgrade;
  put = all_unlent upgrades.puts old new upgrades.put;
}

module _ (layout : Layout) where
  -- a directory writes no part of a value by itself
  pub no_parts : (asked : Bool) (cache : MutBor Cache) → writes_parts asked layout (lent_state cache_state cache) ≡ false
  no_parts asked cache = never asked layout.chain.encodes_partly

  module _ (keep : Bool) (region : Box) (held : ArrayData) (old new : MutBor Cache) where
    -- what is stored through the loan is held
    pub stores_over : (given : ArrayData) → held ≡ given → IsLong region
        → StoresAll layout keep region held (chunks_met layout.grid region) (lent_state cache_state old) (lent_state cache_state new)
        → StoresOver layout region given (cache_state old.now) (cache_state new.now)
    stores_over given same long all = record {
      given = all.takes.given;
      are_cells = subst (λ (d : ArrayData). cells layout.kind d ≡ Some all.takes.given) same all.takes.are_cells;
      count = all.takes.count;
      long = long;
      updates = all.updates;
      keys = all.takes.stores.updates.keys;
      makes = record {
        calls = all.front.makes.calls;
        failures = all.front.makes.failures;
        reach = record {
          refuses = all.front.makes.reach.refuses;
          may_ask = all.front.makes.reach.may_ask;
          may_read = all.front.makes.reach.may_read;
          sets_parts = all.front.makes.reach.sets_parts;
          lenders = refl;
          parts = all.front.makes.reach.parts;
        };
      };
    }

    -- the loan stays
    pub same_loan : StoresAll layout keep region held (chunks_met layout.grid region) (lent_state cache_state old) (lent_state cache_state new)
        → new.ghost_name ≡ old.ghost_name
    same_loan all = ap (λ (l : List ℕ). slice_index l 0) all.front.makes.reach.lenders

  module _ (index : List ℕ) (old new : MutBor Cache) where
    -- what is compacted through the loan is held
    pub compacts_over : (answer : Bool) → CompactsChunk layout index answer (lent_state cache_state old) (lent_state cache_state new)
        → CompactsOver layout index answer (cache_state old.now) (cache_state new.now)
    compacts_over true compacts = record {
      encoded = compacts.encoded;
      less = compacts.less;
      stands = compacts.stands;
      compacts = compacts.compacts;
      held = compacts.put.held;
      others = compacts.put.others;
      makes = (put_unlent (layout.key index) (Some compacts.less) (lent_state cache_state old) (lent_state cache_state new) compacts.put).makes;
    }
    compacts_over false leaves = record {
      same = ap unlent leaves.same;
      compact = λ encoded stands. (leaves.compact encoded stands).1;
    }

    pub compacted_loan : (answer : Bool) → CompactsChunk layout index answer (lent_state cache_state old) (lent_state cache_state new)
        → new.ghost_name ≡ old.ghost_name
    compacted_loan true compacts = ap (λ (l : List ℕ). slice_index l 0) compacts.put.makes.reach.lenders
    compacted_loan false leaves = ap (λ (s : StoreState). slice_index s.lenders 0) leaves.same

-- what was done through an array of this layout, from what was lent to what is held at the end
pub stored_there : (layout other : Layout) (region : Box) (held : ArrayData) (from to old new : StoreState) → other ≡ layout → from ≡ old → to ≡ new
    → StoresOver other region held from to → StoresOver layout region held old new
stored_there layout other region held from to old new same before after stores =
    subst (λ (s : StoreState). StoresOver layout region held old s) after
    (subst (λ (s : StoreState). StoresOver layout region held s to) before (subst (λ (l : Layout). StoresOver l region held from to) same stores))

pub compacted_there : (layout other : Layout) (index : List ℕ) (answer : Bool) (from to old new : StoreState) → other ≡ layout → from ≡ old → to ≡ new
    → CompactsOver other index answer from to → CompactsOver layout index answer old new
compacted_there layout other index answer from to old new same before after compacts =
    subst (λ (s : StoreState). CompactsOver layout index answer old s) after
    (subst (λ (s : StoreState). CompactsOver layout index answer s to) before (subst (λ (l : Layout). CompactsOver l index answer from to) same compacts))

-- ---- documents

module _ {S : Type 0} (array : Array S) (old new : MutBor Cache) where
  -- what is upgraded through the loan is held
  pub upgrades_over : UpgradesMetadata (metadata_options_of_array array) (path_of_array array) (metadata_of_array array) (lent_state cache_state old) (lent_state cache_state new)
      → HaveEqualContent (layout_of_array array) (lent_state cache_state old) (lent_state cache_state new)
      → UpgradesOver array (cache_state old.now) (cache_state new.now)
  upgrades_over upgrades same = record {
    documents =
        upgrade_unlent (metadata_options_of_array array) (path_of_array array) (metadata_of_array array) (lent_state cache_state old) (lent_state cache_state new)
        upgrades;
    content = same;
  }

-- the loan stays
pub made_loan : (count : ℕ) (old new : MutBor Cache) → Makes count 0 (lent_state cache_state old) (lent_state cache_state new) → new.ghost_name ≡ old.ghost_name
made_loan count old new makes = ap (λ (l : List ℕ). slice_index l 0) makes.reach.lenders

module _ {S T : Type 0} (array : Array S) (other : Array T) (all : HasAllButStore array other) where
  same_documents : (from to : StoreState) → UpgradesMetadata (metadata_options_of_array other) (path_of_array other) (metadata_of_array other) from to
      → UpgradesMetadata (metadata_options_of_array array) (path_of_array array) (metadata_of_array array) from to
  same_documents from to upgrades =
      subst (λ (m : MetadataData). UpgradesMetadata (metadata_options_of_array array) (path_of_array array) m from to) all.metadata
      (subst (λ (p : List ℕ). UpgradesMetadata (metadata_options_of_array array) p (metadata_of_array other) from to) all.path
      (subst (λ (o : MetadataOptionsData). UpgradesMetadata o (path_of_array other) (metadata_of_array other) from to) all.metadata_options upgrades))

  pub upgraded_there : (from to old new : StoreState) → from ≡ old → to ≡ new → UpgradesOver other from to → UpgradesOver array old new
  upgraded_there from to old new before after upgrades =
      subst (λ (s : StoreState). UpgradesOver array old s) after
      (subst (λ (s : StoreState). UpgradesOver array s to) before
      (record {
        documents = same_documents from to upgrades.documents;
        content = subst (λ (l : Layout). HaveEqualContent l from to) all.layout upgrades.content;
      }))
