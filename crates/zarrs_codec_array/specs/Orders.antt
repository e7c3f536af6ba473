-- Orders of dimensions.
use Rattle.std.specs.Prelude.{ℕ, ◌+◌, ◌*◌, suc, Bool, List, [], ◌∷◌, length, map, slice_index, ◌==◌, if◌then◌else◌}
use Rattle.std.specs.List.{range_with_len, list_all, list_any}
use Rattle.zarrs_subset.specs.Boxes.{position_count}

-- whether the list has each number below its length, so each once
abbrev pub is_order : List ℕ → Bool
is_order order = list_all (λ j. list_any (λ k. k == j) order) (range_with_len 0 (length order))

-- the coordinates, or extents, in another order: the first is that of dimension `order[0]`
abbrev pub permuted : List ℕ → List ℕ → List ℕ
permuted order p = map (λ j. slice_index p j) order

-- where a number first is in a list
abbrev pub index_of : ℕ → List ℕ → ℕ
index_of j [] = 0
index_of j (k ∷ ks) = if k == j then 0 else suc (index_of j ks)

-- the order that undoes an order
abbrev pub inverse : List ℕ → List ℕ
inverse order = map (λ j. index_of j order) (range_with_len 0 (length order))

-- how many cells apart two positions of an array are that differ by one in a dimension
abbrev pub strides : List ℕ → List ℕ
strides [] = []
strides (n ∷ shape) = position_count shape ∷ strides shape

-- each of the numbers, `size` times
abbrev pub scaled : ℕ → List ℕ → List ℕ
scaled size steps = map (λ n. n * size) steps

-- the sum of the products
abbrev pub dot_product : List ℕ → List ℕ → ℕ
dot_product [] p = 0
dot_product (a ∷ steps) [] = 0
dot_product (a ∷ steps) (i ∷ p) = i * a + dot_product steps p
