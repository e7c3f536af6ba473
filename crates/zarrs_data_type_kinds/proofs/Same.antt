-- Cells that are the same.
use Rattle.std.proofs.Common.{◌≡◌, true, refl, sym, ap, ◌∙◌}
use Rattle.std.proofs.lemmas.Slice.Eq.{bytes_eq-Decides}
use Rattle.zarrs_data_type_kinds.specs.Cell.{Cell, bytes, none, some, cell_eq}

-- the test of two cells holds where they are equal alone
pub cell_eq-true : (a b : Cell) → cell_eq a b ≡ true → a ≡ b
cell_eq-true (bytes a) (bytes b) is = ap bytes ((bytes_eq-Decides a b).0 is)
cell_eq-true (bytes a) none is = cc
cell_eq-true (bytes a) (some d) is = cc
cell_eq-true none (bytes b) is = cc
cell_eq-true none none is = refl
cell_eq-true none (some d) is = cc
cell_eq-true (some c) (bytes b) is = cc
cell_eq-true (some c) none is = cc
cell_eq-true (some c) (some d) is = ap some (cell_eq-true c d is)

pub cell_eq-same : (a : Cell) → cell_eq a a ≡ true
cell_eq-same (bytes a) = (bytes_eq-Decides a a).1 refl
cell_eq-same none = refl
cell_eq-same (some c) = cell_eq-same c

pub eq-cell_eq : (a b : Cell) → a ≡ b → cell_eq a b ≡ true
eq-cell_eq a b e = ap (cell_eq a) (sym e) ∙ cell_eq-same a
