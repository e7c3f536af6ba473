-- Cells that stay where the bytes and the masks of a target do.
use Rattle.std.proofs.Common.{◌≡◌, ℕ, cond, eqb, false, List, Option, None, Some, refl, sym, ap, ◌∙◌}
use Rattle.std.specs.Prelude.{slice_index, slice_range, ◌+◌, ◌*◌}
use Rattle.zarrs_data_type.specs.ArrayData.{ArrayData, fixed, variable, optional}
use Rattle.zarrs_data_type.specs.Cells.{cell_at}
use Rattle.zarrs_subset.specs.Pieces.{piece_at}
use Rattle.zarrs_subset.specs.Regions.{Box, Holds, in_box, place_in}
use Rattle.zarrs_data_type.specs.Targets.{KeepsOutside}
use Rattle.zarrs_data_type_region.proofs.TypeSizes.{element_is}
use Rattle.zarrs_data_type.specs.Cell.{Cell, bytes, none, some}
use Rattle.zarrs_data_type.specs.Kind.{Kind, element_size, fixed_size, inner_of}
use Rattle.zarrs_data_type_bytes.proofs.FixedSizes.{optional_is, some_is}

-- a cell of so many bytes, and one under a mask
abbrev sized_cell : Option ℕ → List ℕ → ℕ → Cell
sized_cell o b i = elim o [ None ↦ none | Some size ↦ bytes (slice_range b (i * size) (i * size + size)) ]

abbrev masked_cell : Option Kind → ℕ → ArrayData → ℕ → Cell
masked_cell o m inner i = cond (eqb m 0) none (elim o [ None ↦ none | Some u ↦ some (cell_at u inner i) ])

sized_same : (o : Option ℕ) (size i : ℕ) (old new : List ℕ) → ((e : ℕ) → o ≡ Some e → e ≡ size) → piece_at size new i ≡ piece_at size old i → sized_cell o new i ≡ sized_cell o old i
sized_same None size i old new is same = refl
sized_same (Some e) size i old new is same =
    let width = is e refl in
    ap (λ z. bytes (piece_at z new i)) width ∙ ap bytes same ∙ ap (λ z. bytes (piece_at z old i)) (sym width)

masked_same : (o : Option Kind) (m i : ℕ) (old new : ArrayData) → ((u : Kind) → o ≡ Some u → cell_at u new i ≡ cell_at u old i) → masked_cell o m new i ≡ masked_cell o m old i
masked_same None m i old new same = refl
masked_same (Some u) m i old new same = ap (λ c. cond (eqb m 0) none (some c)) (same u refl)

pub cell_stays : (k : Kind) (size : ℕ) (box other : Box) (old new : ArrayData) → fixed_size k ≡ Some size → KeepsOutside size box other old new
    → (position : List ℕ) → Holds box position → in_box other position ≡ false → cell_at k new (place_in box position) ≡ cell_at k old (place_in box position)
cell_stays k size box other (fixed old) (fixed new) is keeps p holds out =
    sized_same (element_size k) size (place_in box p) old new (λ e found. some_is (sym (element_is k e found).0 ∙ is)) (keeps p holds out)
cell_stays k size box other (fixed old) (variable new) is keeps p holds out = absurd keeps
cell_stays k size box other (fixed old) (optional new_mask new) is keeps p holds out = absurd keeps
cell_stays k size box other (variable old) new is keeps p holds out = absurd keeps
cell_stays k size box other (optional old_mask old) (fixed new) is keeps p holds out = absurd keeps
cell_stays k size box other (optional old_mask old) (variable new) is keeps p holds out = absurd keeps
cell_stays k size box other (optional old_mask old) (optional new_mask new) is keeps p holds out =
    let i = place_in box p in
    ap (λ m. masked_cell (inner_of k) m new i) (keeps.0 p holds out)
    ∙ masked_same (inner_of k) (slice_index old_mask i) i old new
    (λ u found. cell_stays u size box other old new (ap fixed_size (sym (optional_is k u found)) ∙ is) keeps.1 p holds out)

-- what stays outside one box and then outside a box in it, stays outside the first
pub keeps_more : (size : ℕ) (box other own : Box) (old mid new : ArrayData) → ((position : List ℕ) → in_box other position ≡ false → in_box own position ≡ false)
    → KeepsOutside size box other old mid → KeepsOutside size box own mid new → KeepsOutside size box other old new
keeps_more size box other own (fixed old) (fixed mid) (fixed new) less before after = λ p holds out. after p holds (less p out) ∙ before p holds out
keeps_more size box other own (fixed old) (fixed mid) (variable new) less before after = absurd after
keeps_more size box other own (fixed old) (fixed mid) (optional new_mask new) less before after = absurd after
keeps_more size box other own (fixed old) (variable mid) new less before after = absurd before
keeps_more size box other own (fixed old) (optional mid_mask mid) new less before after = absurd before
keeps_more size box other own (variable old) mid new less before after = absurd before
keeps_more size box other own (optional old_mask old) (fixed mid) new less before after = absurd before
keeps_more size box other own (optional old_mask old) (variable mid) new less before after = absurd before
keeps_more size box other own (optional old_mask old) (optional mid_mask mid) (fixed new) less before after = absurd after
keeps_more size box other own (optional old_mask old) (optional mid_mask mid) (variable new) less before after = absurd after
keeps_more size box other own (optional old_mask old) (optional mid_mask mid) (optional new_mask new) less before after =
    ((λ p holds out. after.0 p holds (less p out) ∙ before.0 p holds out), keeps_more size box other own old mid new less before.1 after.1)
