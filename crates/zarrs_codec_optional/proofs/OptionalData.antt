-- What the codec `zarrs.optional` does with data.
use Rattle.std.proofs.Common.{◌≡◌, ℕ, zero, suc, ◌*◌, ◌<◌, ◌≤◌, ◌^◌, true, false, cond, eqb, List, [], ◌∷◌, length}
use Rattle.std.proofs.Common.{map, Option, None, Some, refl, sym, ap, ◌∙◌, subst, arith}
use Rattle.std.specs.Prelude.{All, IsSome, IfSome, is_some, option_and_then, count_by, slice_index}
use Rattle.std.specs.List.{range_with_len}
use Rattle.std.proofs.lemmas.Bool.{lt-ltb}
use Rattle.std.proofs.lemmas.List.{length-map}
use Rattle.std.proofs.lemmas.List.FromFn.{fill_by_all}
use Rattle.std.proofs.lemmas.List.Sums.{list_all-from_AllPass, count_by-le-length}
use Rattle.std.proofs.Math.Nat.{mul-le-mul_right}
use Rattle.std.proofs.lemmas.Simd.{map-map}
use Rattle.zarrs_metadata_parts.specs.Extension.{◌>>=◌}
use Rattle.zarrs_data_type.specs.Kind.{Kind, inner_of, cell_size}
use Rattle.zarrs_data_type.specs.Kind as type
use Rattle.zarrs_data_type.specs.Cell.{Cell, bytes, none, some, may_hold}
use Rattle.zarrs_data_type.specs.ArrayData.{ArrayData, fixed, optional}
use Rattle.zarrs_data_type.specs.Cells.{cells, cell_at, HasCells}
use Rattle.zarrs_data_type_bytes.proofs.Cells.{cells-parts, HasCells-some}
use Rattle.zarrs_data_type_bytes.proofs.Fixed.{cells-held}
use Rattle.zarrs_data_type_bytes.proofs.Pieces.{pieces-one}
use Rattle.zarrs_data_type.specs.Present.{flag_set, present_cells, spread_cells}
use Rattle.zarrs_data_type_bytes.proofs.Filled.{fits-optional}
use Rattle.zarrs_codec_leaf.specs.Chosen.{map_same, some_is}
use Rattle.zarrs_codec_leaf.specs.Leaf.{LeafMeaning, IsLawfulLeaf, encoding_of}
use Rattle.zarrs_codec_leaf.specs.PackBits.{flag_of, flag_cell}
use Rattle.zarrs_codec_leaf.proofs.PackedData.{bools_small}
use Rattle.zarrs_codec_leaf.specs.Refusals.{RefusesEncoding, RefusesDecoding}
use Rattle.zarrs_codec_leaf.specs.declared.error.CodecError.{CodecError}
use Rattle.zarrs_codec_leaf.specs.declared.error.CodecError.TheVariants as error
use Rattle.zarrs_codec_optional.specs.Optional.{some_flag, mask_cells, behind_lengths, mask_and_data, encoded_if_any, decoded_if_any}
use Rattle.zarrs_codec_optional.specs.Optional.{if_any, takes_optional, optional_meaning}
use Rattle.zarrs_codec_optional.specs.OptionalLaws.{if_any-lawful, bind_none}

-- ---- flags, as cells of bool

pub cells-flags : (flags : List ℕ) → All (λ x. x < 2) flags → cells type.bool (fixed flags) ≡ Some (map flag_cell flags)
cells-flags flags small =
    let held : may_hold type.bool flags ≡ true = list_all-from_AllPass _ flags (λ i d lt. lt-ltb _ 2 (small i d lt)) in
    cells-held type.bool 1 refl flags (length flags) (omega arith) (omega arith) held
    ∙ ap (λ ps. Some (map bytes ps)) (pieces-one flags)
    ∙ ap Some (map-map bytes (λ x. x ∷ []) flags)

flags_again : (flags : List ℕ) → map flag_of (map flag_cell flags) ≡ flags
flags_again flags = map-map flag_of flag_cell flags ∙ map_same (λ x. x) flags (λ i d lt. refl)

-- data that has bools
pub flags-cells : (d : ArrayData) (b : List ℕ) → d ≡ fixed b → IsSome (cells type.bool d) → (cells type.bool d ≡ Some (map flag_cell b)) × All (λ x. x < 2) b
flags-cells d b is there =
    let small = bools_small b (subst (λ x. IsSome (cells type.bool x)) is there) in
    (ap (cells type.bool) is ∙ cells-flags b small, small)

-- as many flags as bools were read, and no more that are set
pub length-read : (m : LeafMeaning) → IsLawfulLeaf m → (n : ℕ) (b flags : List ℕ) → m.decoded type.bool n b ≡ Some (map flag_cell flags) → length flags ≡ n
length-read m law n b flags read = sym (length-map flags flag_cell) ∙ law.decoded_len type.bool n b (map flag_cell flags) read

pub set-size : (n size set : ℕ) (flags : List ℕ) → length flags ≡ n → set ≡ count_by flag_set flags → n * size < 2 ^ 64 → set * size < 2 ^ 64
set-size n size set flags len is fits =
    let few = count_by-le-length flag_set flags in
    let most : set * size ≤ n * size = mul-le-mul_right size (let most : set ≤ n = omega arith in most) in
    omega arith

-- the flag of the cell under a flag
flag-cell : (flag : ℕ) (c : Cell) → flag < 2 → some_flag (cond (eqb flag 0) none (some c)) ≡ flag
flag-cell zero c lt = refl
flag-cell (suc zero) c lt = refl
flag-cell (suc (suc n)) c lt = absurd (omega arith)

-- the mask of data is that of its cells
mask-cells : (u : Kind) (mask : List ℕ) (d : ArrayData) (cs : List Cell) → All (λ x. x < 2) mask → cells (type.optional u) (optional mask d) ≡ Some cs → map flag_cell mask ≡ mask_cells cs
mask-cells u mask d cs small is =
    let k = type.optional u in
    let parts = cells-parts k (optional mask d) cs is in
    let n = length cs in
    let len = (fits-optional k mask d n parts.0).2 in
    let f : ℕ → ℕ = λ i. some_flag (cond (eqb (slice_index mask i) 0) none (some (cell_at u d i))) in
    let same : map some_flag cs ≡ mask =
    ap (map some_flag) parts.2 ∙ map-map some_flag (λ i. cell_at k (optional mask d) i) (range_with_len 0 n)
    ∙ sym (fill_by_all f mask n 0 len (λ i lt. sym (flag-cell (slice_index mask i) (cell_at u d i) (small i 0 (omega arith))))) in
    ap (map flag_cell) (sym same) ∙ map-map flag_cell some_flag cs

pub kind-optional : (k u : Kind) → inner_of k ≡ Some u → k ≡ type.optional u
kind-optional (type.optional v) u is = ap type.optional (some_is is)
kind-optional _ u is = cc

pub size-optional : (k u : Kind) (n : ℕ) → inner_of k ≡ Some u → n * cell_size k < 2 ^ 64 → n * cell_size u < 2 ^ 64
size-optional k u n is fits = subst (λ v. n * cell_size v < 2 ^ 64) (kind-optional k u is) fits

-- the cells that there are
held-cells : (o : Option (List Cell)) → IsSome o → (cs : List Cell) × (o ≡ Some cs)
held-cells None there = let nothing : IsSome {T = List Cell} None = there in cc
held-cells (Some cs) there = (cs, refl)

-- ---- what is encoded

module _ (m d : LeafMeaning) (k u : Kind) (is : inner_of k ≡ Some u) where
  untaken-optional : d.takes u ≡ false → takes_optional d k ≡ false
  untaken-optional not = ap (λ o. elim o [ None ↦ false | Some v ↦ d.takes v ]) is ∙ not

  taken-optional : d.takes u ≡ true → takes_optional d k ≡ true
  taken-optional taken = ap (λ o. elim o [ None ↦ false | Some v ↦ d.takes v ]) is ∙ taken

  module _ (mask : List ℕ) (held present : ArrayData) (there : IsSome (cells k (optional mask held)))
      (taken : IfSome (cells (type.optional u) (optional mask held)) (λ cs. cells u present ≡ Some (present_cells cs))) where
    some-cells : (cs : List Cell) × (cells k (optional mask held) ≡ Some cs)
    some-cells = held-cells (cells k (optional mask held)) there

    same-cells : cells (type.optional u) (optional mask held) ≡ Some some-cells.0
    same-cells = ap (λ v. cells v (optional mask held)) (sym (kind-optional k u is)) ∙ some-cells.1

    taken-cells : cells u present ≡ Some (present_cells some-cells.0)
    taken-cells = subst (λ o. IfSome o (λ cs. cells u present ≡ Some (present_cells cs))) same-cells taken

    pub present-some : IsSome (cells u present)
    present-some = ap is_some taken-cells

    encoding-at : encoding_of (optional_meaning m d) k (optional mask held)
        ≡ (m.encoded type.bool (mask_cells some-cells.0) >>= λ x. encoded_if_any d u (present_cells some-cells.0) >>= λ y. behind_lengths x y)
    encoding-at =
        ap (option_and_then (λ cs. (optional_meaning m d).encoded k cs)) some-cells.1
        ∙ ap (λ o. o >>= λ v. m.encoded type.bool (mask_cells some-cells.0) >>= λ x. encoded_if_any d v (present_cells some-cells.0) >>= λ y. behind_lengths x y) is

    body-at : encoding_of (if_any d) u present ≡ encoded_if_any d u (present_cells some-cells.0)
    body-at = ap (option_and_then (λ cs. encoded_if_any d u cs)) taken-cells

    pub encoding-optional : (flags body made : List ℕ) → All (λ x. x < 2) mask → m.encoded type.bool (map flag_cell mask) ≡ Some flags
        → encoding_of (if_any d) u present ≡ Some body → behind_lengths flags body ≡ Some made
        → encoding_of (optional_meaning m d) k (optional mask held) ≡ Some made
    encoding-optional flags body made small flags_is body_is made_is =
        encoding-at
        ∙ ap (λ o. o >>= λ x. encoded_if_any d u (present_cells some-cells.0) >>= λ y. behind_lengths x y)
        (ap (m.encoded type.bool) (sym (mask-cells u mask held some-cells.0 small same-cells)) ∙ flags_is)
        ∙ ap (λ o. o >>= λ y. behind_lengths flags y) (sym body-at ∙ body_is)
        ∙ made_is

    pub refused-optional : (e : CodecError) → RefusesEncoding (if_any d) u present e → RefusesEncoding (optional_meaning m d) k (optional mask held) e
    refused-optional (error.DoesNotFit _) refused = untaken-optional refused
    refused-optional error.SizeOverflow refused = (
      taken-optional refused.0,
      encoding-at
          ∙ bind_none (m.encoded type.bool (mask_cells some-cells.0)) (λ x. encoded_if_any d u (present_cells some-cells.0) >>= λ y. behind_lengths x y)
          (λ x. ap (λ o. o >>= λ y. behind_lengths x y) (sym body-at ∙ refused.1)),
    )
    refused-optional error.OutOfMemory refused = tt

-- ---- what is decoded

module _ (m d : LeafMeaning) (k u : Kind) (is : inner_of k ≡ Some u) (n : ℕ) (b : List ℕ) where
  abbrev from_mask : List ℕ → List ℕ → Option (List Cell)
  from_mask mask body =
      m.decoded type.bool n mask >>= λ bools. decoded_if_any d u (count_by flag_set (map flag_of bools)) body >>= λ ds. Some (spread_cells (map flag_of bools) ds)

  abbrev from_flags : List ℕ → List ℕ → Option (List Cell)
  from_flags flags body = decoded_if_any d u (count_by flag_set flags) body >>= λ ds. Some (spread_cells flags ds)

  decoded-at : (optional_meaning m d).decoded k n b ≡ (mask_and_data b >>= λ p. from_mask p.0 p.1)
  decoded-at =
      ap (λ o. o >>= λ v. mask_and_data b >>= λ p. m.decoded type.bool n p.0 >>= λ bools. decoded_if_any d v (count_by flag_set (map flag_of bools)) p.1 >>= λ ds. Some (spread_cells (map flag_of bools) ds)) is

  pub unparted : mask_and_data b ≡ None → (optional_meaning m d).decoded k n b ≡ None
  unparted not = decoded-at ∙ ap (λ o. o >>= λ p. from_mask p.0 p.1) not

  module _ (mask body : List ℕ) (parts : mask_and_data b ≡ Some (mask, body)) where
    parted-at : (optional_meaning m d).decoded k n b ≡ from_mask mask body
    parted-at = decoded-at ∙ ap (λ o. o >>= λ p. from_mask p.0 p.1) parts

    pub mask-refused : (e : CodecError) → RefusesDecoding m type.bool n mask e → RefusesDecoding (optional_meaning m d) k n b e
    mask-refused (error.DoesNotFit _) refused =
        parted-at ∙ ap (λ o. o >>= λ bools. from_flags (map flag_of bools) body) refused
    mask-refused error.SizeOverflow refused = refused
    mask-refused error.OutOfMemory refused = tt

    module _ (flags : List ℕ) (set : ℕ) (read : m.decoded type.bool n mask ≡ Some (map flag_cell flags)) (counted : set ≡ count_by flag_set flags) where
      flags-at : (optional_meaning m d).decoded k n b ≡ (decoded_if_any d u set body >>= λ ds. Some (spread_cells flags ds))
      flags-at =
          parted-at
          ∙ ap (λ o. o >>= λ bools. from_flags (map flag_of bools) body) read
          ∙ ap (λ l. from_flags l body) (flags_again flags)
          ∙ ap (λ c. decoded_if_any d u c body >>= λ ds. Some (spread_cells flags ds)) (sym counted)

      pub body-refused : (e : CodecError) → RefusesDecoding (if_any d) u set body e → RefusesDecoding (optional_meaning m d) k n b e
      body-refused (error.DoesNotFit _) refused = flags-at ∙ ap (λ o. o >>= λ ds. Some (spread_cells flags ds)) refused
      body-refused error.SizeOverflow refused = refused
      body-refused error.OutOfMemory refused = tt

      module _ (present : ArrayData) (decoded : cells u present ≡ decoded_if_any d u set body) (there : IsSome (cells u present)) where
        some-present : (ds : List Cell) × (cells u present ≡ Some ds)
        some-present = held-cells (cells u present) there

        pub present-has : IsLawfulLeaf d → HasCells u present (count_by flag_set flags)
        present-has law =
            let len = (if_any-lawful d law).decoded_len u set body some-present.0 (sym decoded ∙ some-present.1) in
            subst (λ c. HasCells u present c) (len ∙ counted) (HasCells-some u present some-present.0 some-present.1)

        made-at : (made : ArrayData) → IfSome (cells u present) (λ ds. cells (type.optional u) made ≡ Some (spread_cells flags ds)) → cells k made ≡ Some (spread_cells flags some-present.0)
        made-at made spread =
            ap (λ v. cells v made) (kind-optional k u is)
            ∙ subst (λ o. IfSome o (λ ds. cells (type.optional u) made ≡ Some (spread_cells flags ds))) some-present.1 spread

        pub decoded-optional : (made : ArrayData) → IfSome (cells u present) (λ ds. cells (type.optional u) made ≡ Some (spread_cells flags ds))
            → (cells k made ≡ (optional_meaning m d).decoded k n b) × IsSome (cells k made)
        decoded-optional made spread =
            let at = made-at made spread in (
              at ∙ sym (flags-at ∙ ap (λ o. o >>= λ ds. Some (spread_cells flags ds)) (sym decoded ∙ some-present.1)),
              ap is_some at,
            )
