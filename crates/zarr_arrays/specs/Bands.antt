-- What is left of a region that is cut into bands.
use Rattle.std.specs.Prelude.{ℕ, List, [], ◌∷◌, ◌++◌, length}
use Rattle.zarrs_subset.specs.Regions.{box_of, positions}
use Rattle.zarrs_subset.specs.declared.subset.ArraySubset.{ArraySubset}
use Rattle.zarr_arrays.specs.declared.bands.Bands.{Bands}

-- the positions of the regions, from the last one to the first
abbrev pub places_of : List ArraySubset → List (List ℕ)
places_of [] = []
places_of (region ∷ regions) = places_of regions ++ positions (box_of region)

-- the positions that are left, in row-major order, and how many they are
abbrev pub places_left : Bands → List (List ℕ)
places_left bands = places_of bands.left.items

abbrev pub count_left : Bands → ℕ
count_left bands = length (places_left bands)
