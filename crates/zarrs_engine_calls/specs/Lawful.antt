-- What is lawful is so in one way.
use Rattle.std.specs.Prelude.{◌≡◌, ℕ, zero, suc, List, Option, Some, None, length, refl}
use Rattle.std.specs.Coded.{Coded, code_by, coded×, coded_ℕ, coded_list, coded_option}
use Rattle.std.proofs.Common.{ap, subst, sym, ◌∙◌}
use Rattle.std.proofs.Props.{props}
use Rattle.zarrs_chunk_grid.specs.Grids.{Grid, IsGrid}
use Rattle.zarrs_codec_chain.specs.Chain.{ChainMeaning, IsLawfulChain}
use Rattle.zarrs_codec_shard.specs.PartialShards.{IsUpdated}
use Rattle.zarrs_subset.specs.Boxes.{position_count}
use Rattle.zarrs_subset.specs.Regions.{Box, box_at_origin, TakesPart}
use Rattle.zarrs_data_type.specs.Cell.{Cell, bytes, none, some}
use Rattle.zarrs_engine_calls.specs.Layout.{Layout, IsLawful, IsInjective, AreNoMetadataKeys}

-- how often a cell is some of a cell, and the bytes inside
abbrev depth_of : Cell → ℕ
depth_of (bytes b) = 0
depth_of none = 0
depth_of (some c) = suc (depth_of c)

abbrev core_of : Cell → Option (List ℕ)
core_of (bytes b) = Some b
core_of none = None
core_of (some c) = core_of c

abbrev cell_of : ℕ → Option (List ℕ) → Cell
cell_of zero (Some b) = bytes b
cell_of zero None = none
cell_of (suc n) o = some (cell_of n o)

pub cell_back : (c : Cell) → cell_of (depth_of c) (core_of c) ≡ c
cell_back (bytes b) = refl
cell_back none = refl
cell_back (some c) = ap some (cell_back c)

abbrev pub coded_cell : Coded Cell
coded_cell =
    code_by (ℕ × Option (List ℕ)) (coded× coded_ℕ (coded_option (coded_list coded_ℕ)))
    (λ c. (depth_of c, core_of c)) (λ p. cell_of p.0 p.1) cell_back

-- a chunk is updated in one way: it has one list of cells
module _ (s : List ℕ) (part : Box) (given held : List Cell) (now : Option (List Cell)) where
  there_prop : (made : List Cell) → IsProp (now ≡ Some made)
  there_prop made = hlevel (props, coded_cell)

  count_prop : (made : List Cell) → IsProp (length made ≡ position_count s)
  count_prop made = hlevel props

  takes_prop : (made : List Cell) → IsProp (TakesPart (box_at_origin s) part given held made)
  takes_prop made = hlevel (props, coded_cell)

  some_is : {x y : List Cell} → Some x ≡ Some y → x ≡ y
  some_is e = cc

  IsUpdated-prop : IsProp (IsUpdated s part given held now)
  IsUpdated-prop u v =
      subst
      (λ made. (is : now ≡ Some made) (count : length made ≡ position_count s) (takes : TakesPart (box_at_origin s) part given held made)
      → u ≡ record { made = made; made_is = is; count = count; takes = takes })
      (some_is (sym u.made_is ∙ v.made_is))
      (λ is count takes i. record {
        made = u.made;
        made_is = there_prop u.made u.made_is is i;
        count = count_prop u.made u.count count i;
        takes = takes_prop u.made u.takes takes i;
      })
      v.made_is v.count v.takes

chain_prop : (chain : ChainMeaning) → IsProp (IsLawfulChain chain)
chain_prop chain = hlevel (props, coded_cell, IsUpdated-prop)

grid_prop : (grid : Grid) → IsProp (IsGrid grid)
grid_prop grid = hlevel props

key_prop : (key : List ℕ → List ℕ) → IsProp (IsInjective key)
key_prop key = hlevel props

apart_prop : (dimensions : ℕ) (key : List ℕ → List ℕ) (names : List (List ℕ)) → IsProp (AreNoMetadataKeys dimensions key names)
apart_prop dimensions key names = hlevel props

pub IsLawful-prop : (layout : Layout) → IsProp (IsLawful layout)
IsLawful-prop layout = hlevel (props, chain_prop, grid_prop, key_prop, apart_prop)
