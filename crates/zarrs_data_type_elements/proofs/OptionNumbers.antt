-- Options of numbers and the cells that they stand for.
use Rattle.std.proofs.Common.{◌≡◌, ◌==◌, ℕ, ◌+◌, ◌*◌, ◌<◌, true, false, List, [], length, map, get_or}
use Rattle.std.proofs.Common.{Option, None, Some, ◌&&◌, refl, sym, ap, ◌∙◌, subst, arith}
use Rattle.std.specs.Prelude.{IfSome, slice_index, slice_range}
use Rattle.std.specs.List.{flat_map}
use Rattle.std.specs.Option.{option_map_or}
use Rattle.std.proofs.lemmas.Bool.{and_from, eq-eqb}
use Rattle.std.proofs.lemmas.List.{length-map, get_or-map, length-replicate}
use Rattle.std.proofs.lemmas.List.FromFn.{get_or-map-range_with_len}
use Rattle.zarrs_data_type_kinds.specs.declared.data_type.DataType.{DataType}
use Rattle.zarrs_data_type_kinds.specs.Kind.{Kind, kind, element_size, inner_of}
use Rattle.zarrs_data_type_kinds.specs.Cell.{bytes, none, some, is_value, takes_any_bytes}
use Rattle.zarrs_data_type_kinds.specs.Same.{kind_eq, kind_eq-Decides}
use Rattle.zarrs_data_type_kinds.proofs.Sizes.{element_size-positive}
use Rattle.zarrs_subset.specs.Pieces.{piece_at}
use Rattle.zarrs_data_type_bytes.specs.ArrayData.{ArrayData, fixed, optional}
use Rattle.zarrs_data_type_bytes.specs.Cells.{fits, cell_at, cells, HasCells}
use Rattle.zarrs_data_type_bytes.proofs.Cells.{cells-as, fitting-fixed, HasCells-parts}
use Rattle.zarrs_data_type_bytes.proofs.Filled.{cell_at-fixed, cell_at-none, cell_at-some, fits-fixed, fits-optional}
use Rattle.zarrs_data_type_bytes.proofs.Pieces.{length-flat_map_same, pieces-flat_map}
use Rattle.zarrs_data_type_bytes.proofs.Validity.{any_values}
use Rattle.zarrs_data_type_numbers.specs.Options.{option_bytes, option_flag}
use Rattle.zarrs_data_type_elements.specs.Elements.{option_cell, HoldsOptions}
use Rattle.zarrs_data_type_elements.proofs.OptionCells.{inner_is}

-- the inner type is this one
pub options-served : (k l : Kind) (size : ℕ) → option_map_or (λ u. kind_eq u l) (inner_of k) false ≡ true → element_size l ≡ Some size → takes_any_bytes l ≡ true → HoldsOptions k size
options-served k l size served sized any = go (inner_of k) refl served
  where
    go : (o : Option Kind) → inner_of k ≡ o → option_map_or (λ u. kind_eq u l) o false ≡ true → HoldsOptions k size
    go None inner is = cc
    go (Some u) inner is =
        let same = (kind_eq-Decides u l).0 is in
        (u, inner, ap element_size same ∙ sized, ap takes_any_bytes same ∙ any)

-- data under a mask of its length fits
fitting-optional : (k u : Kind) (mask : List ℕ) (d : ArrayData) (n : ℕ) → inner_of k ≡ Some u → length mask ≡ n → fits u d n ≡ true → fits k (optional mask d) n ≡ true
fitting-optional k u mask d n inner count below =
    ap (λ o. elim o [ None ↦ false | Some v ↦ (length mask == n) && fits v d n ]) inner
    ∙ and_from (length mask == n) (fits u d n) (eq-eqb (length mask) n count) below

-- a cell under its flag
option_at : {X : Type 0} (f : X → List ℕ) (k u : Kind) (size i : ℕ) (mask b : List ℕ) (o : Option X) → inner_of k ≡ Some u → element_size u ≡ Some size → slice_index mask i ≡ option_flag o
    → IfSome o (λ x. f x ≡ slice_range b (i * size) (i * size + size)) → cell_at k (optional mask (fixed b)) i ≡ option_cell (λ x. bytes (f x)) o
option_at f k u size i mask b None inner is flag here = cell_at-none k mask (fixed b) i flag
option_at f k u size i mask b (Some x) inner is flag here =
    cell_at-some k u mask (fixed b) i inner flag ∙ ap some (cell_at-fixed u size b i is ∙ ap bytes (sym here))

-- the cells of a mask over bytes
pub cells-options : {X : Type 0} (f : X → List ℕ) (t : DataType) (size : ℕ) (mask b : List ℕ) (os : List (Option X)) → HoldsOptions (kind t) size → map option_flag os ≡ mask → length b ≡ length os * size
    → ((i : ℕ) → i < length os → IfSome (get_or os i None) (λ x. f x ≡ slice_range b (i * size) (i * size + size)))
    → cells (kind t) (optional mask (fixed b)) ≡ Some (map (option_cell (λ x. bytes (f x))) os)
cells-options f t size mask b os holds flags len each =
    let k = kind t in
    let u = holds.0 in
    let d = optional mask (fixed b) in
    let cell = option_cell (λ x. bytes (f x)) in
    let cs = map cell os in
    let count : length cs ≡ length os = length-map os cell in
    let fit : fits k d (length os) ≡ true =
    fitting-optional k u mask (fixed b) (length os) holds.1 (ap length (sym flags) ∙ length-map os option_flag) (fitting-fixed u size b (length os) holds.2 len) in
    let at : (i : ℕ) → i < length os → cell_at k d i ≡ get_or cs i none =
    λ i lt. option_at f k u size i mask b (get_or os i None) holds.1 holds.2 (ap (λ m. slice_index m i) (sym flags) ∙ get_or-map option_flag os i None 0 lt) (each i lt)
    ∙ sym (get_or-map cell os i None none lt) in
    let values = any_values k d (length os) (ap takes_any_bytes (inner_is k u holds.1) ∙ holds.3) fit in
    cells-as k d cs (element_size-positive t) (subst (λ n. fits k d n ≡ true) (sym count) fit) (λ i lt. at i (omega arith))
    (λ i lt. let here : i < length os = omega arith in subst (λ c. is_value k c ≡ true) (at i here) (values i here))

-- the same of the bytes of options
pub cells-options_written : {X : Type 0} (f : X → List ℕ) (t : DataType) (size : ℕ) (os : List (Option X)) → HoldsOptions (kind t) size → ((x : X) → length (f x) ≡ size)
    → cells (kind t) (optional (map option_flag os) (fixed (flat_map (option_bytes size f) os))) ≡ Some (map (option_cell (λ x. bytes (f x))) os)
cells-options_written {X = X} f t size os holds sized =
    let b = flat_map g os in
    cells-options f t size (map option_flag os) b os holds refl (length-flat_map_same g size os (λ i d lt. one (get_or os i d)))
    (λ i lt. part (get_or os i None) (piece_at size b i)
    (sym (get_or-map-range_with_len (piece_at size b) 0 (length os) i i [] lt (omega arith))
    ∙ ap (λ l. get_or l i []) (pieces-flat_map g size os (λ j d below. one (get_or os j d)))
    ∙ get_or-map g os i None [] lt))
  where
    g : Option X → List ℕ
    g = option_bytes size f

    one : (o : Option X) → length (option_bytes size f o) ≡ size
    one None = length-replicate size 0
    one (Some x) = sized x

    part : (o : Option X) (piece : List ℕ) → piece ≡ option_bytes size f o → IfSome o (λ x. f x ≡ piece)
    part None piece is = tt
    part (Some x) piece is = sym is

-- ---- data that is read

same_inner : (k u v : Kind) → inner_of k ≡ Some u → inner_of k ≡ Some v → u ≡ v
same_inner k u v one other = let e : Some u ≡ Some v = sym one ∙ other in cc

same_size : (u v : Kind) (size other : ℕ) → u ≡ v → element_size u ≡ Some size → element_size v ≡ Some other → other ≡ size
same_size u v size other same one two = let e : Some size ≡ Some other = sym one ∙ ap element_size same ∙ two in cc

-- the bytes under a mask are as many numbers as it has flags
pub options-held : (k : Kind) (size n : ℕ) (mask b : List ℕ) → HoldsOptions k size → HasCells k (optional mask (fixed b)) n → length b ≡ length mask * size
options-held k size n mask b holds has =
    let at = fits-optional k mask (fixed b) n (HasCells-parts k (optional mask (fixed b)) n has).0 in
    let held = fits-fixed at.0 b n at.3 in
    let same = same_size holds.0 at.0 size held.0 (same_inner k holds.0 at.0 holds.1 at.1) holds.2 held.1 in
    held.2 ∙ ap (λ s. n * s) same ∙ ap (λ m. m * size) (sym at.2)
