-- The ways of `transpose`, and what it makes of data.
use Rattle.std.proofs.Common.{◌≡◌, ℕ, zero, suc, ◌<◌, true, List, [], length, get_or, Some, refl, sym, ap, ◌∙◌, subst, arith}
use Rattle.std.specs.Prelude.{slice_index, IfSome}
use Rattle.std.proofs.lemmas.List.{ext_get_or, nil_from_length}
use Rattle.std.proofs.lemmas.List.FromFn.{get_or-map-range_with_len}
use Rattle.zarrs_data_type.specs.ArrayData.{ArrayData}
use Rattle.zarrs_data_type.specs.Cell.{Cell, none}
use Rattle.zarrs_data_type.specs.Cells.{cells, HasCells}
use Rattle.zarrs_data_type.specs.Kind.{Kind}
use Rattle.zarrs_data_type_bytes.proofs.Cells.{IsSized, HasCells-cells}
use Rattle.zarrs_subset.specs.Boxes.{position_count, InShape, place}
use Rattle.zarrs_subset.proofs.Counts.{length-InShape}
use Rattle.zarrs_subset.proofs.Kernel.{place_below}
use Rattle.zarrs_subset.proofs.RearrangedCells.{length-made_of}
use Rattle.zarrs_codec_array.specs.Arrays.{transposed}
use Rattle.zarrs_codec_array.specs.Orders.{is_order, permuted, index_of, inverse, strides, dot_product}
use Rattle.zarrs_codec_array.specs.OrderLaws.{entry_below, index_at, at_index, length-permuted, length-inverse}
use Rattle.zarrs_codec_array.specs.OrderLaws.{permuted_at, inverse_at, permuted_in, inverse_in, there_and_back}
use Rattle.zarrs_codec_array.specs.OrderLaws.{count-permuted, dot-permuted, length-strides, place-dot}
use Rattle.zarrs_codec_array.specs.Gathered.{IsWay, IsTaken}
use Rattle.zarrs_codec_array.proofs.Taken.{taken-cells}

pub no_cell : (n : ℕ) → (0 < n → ⊥) → n ≡ 0
no_cell zero empty = refl
no_cell (suc n) empty = absurd (empty (omega arith))

module _ (order s : List ℕ) (is : is_order order ≡ true) (long : length order ≡ length s) where
  -- the number of the source's cell of a position of the encoded array
  pub forward_place : (q : List ℕ) → InShape (permuted order s) q → dot_product (permuted order (strides s)) q ≡ place s (permuted (inverse order) q)
  forward_place q inside =
      let len = length-InShape (permuted order s) q inside in
      dot-permuted order is s long (strides s) q (length-strides s ∙ sym long) (len ∙ length-permuted order s)
      ∙ sym (place-dot s (permuted (inverse order) q) (inverse_in order is s long q inside))

  undone : (steps : List ℕ) → length steps ≡ length order → permuted order (permuted (inverse order) steps) ≡ steps
  undone steps len =
      let n = length-permuted order (permuted (inverse order) steps) in
      ext_get_or 0 (permuted order (permuted (inverse order) steps)) steps (n ∙ sym len)
      (λ i lt.
      let here : i < length order = omega arith in
      permuted_at order is (permuted (inverse order) steps) i here
      ∙ inverse_at order is steps (slice_index order i) (entry_below order is i here)
      ∙ ap (slice_index steps) (index_at order is i here))

  -- the number of the encoded array's cell of a position of the decoded one
  pub back_place : (p : List ℕ) → InShape s p → dot_product (permuted (inverse order) (strides (permuted order s))) p ≡ place (permuted order s) (permuted order p)
  back_place p inside =
      let steps = strides (permuted order s) in
      let len : length steps ≡ length order = length-strides (permuted order s) ∙ length-permuted order s in
      let back = permuted (inverse order) steps in
      let n : length back ≡ length order = length-permuted (inverse order) steps ∙ length-inverse order is in
      sym
      (place-dot (permuted order s) (permuted order p) (permuted_in order is s long p inside)
      ∙ ap (λ x. dot_product x (permuted order p)) (sym (undone steps len))
      ∙ dot-permuted order is s long back (permuted order p) n (length-permuted order p)
      ∙ ap (dot_product back) (there_and_back order is s long p inside))

  pub way-forward : 0 < position_count s → IsWay (permuted order s) s order
  way-forward some = record {
    some = some;
    same_count = count-permuted order is s long;
    same_length = length-permuted order s;
    below = λ k lt. (let b = entry_below order is k lt in omega arith);
    within = record {
      each = λ q inside. omega (arith, forward_place q inside, place_below s (permuted (inverse order) q) (inverse_in order is s long q inside));
    };
  }

  inverse_below : (k : ℕ) → k < length (inverse order) → slice_index (inverse order) k < length (permuted order s)
  inverse_below k lt =
      let n = length-inverse order is in
      let here : k < length order = omega arith in
      omega (arith, get_or-map-range_with_len (λ j. index_of j order) 0 (length order) k k 0 here (omega arith), (at_index order is k here).0, length-permuted order s)

  pub way-back : 0 < position_count s → IsWay s (permuted order s) (inverse order)
  way-back some = record {
    some = omega (arith, count-permuted order is s long);
    same_count = sym (count-permuted order is s long);
    same_length = sym (length-inverse order is ∙ long);
    below = inverse_below;
    within = record {
      each = λ p inside. omega (arith, back_place p inside, place_below (permuted order s) (permuted order p) (permuted_in order is s long p inside));
    };
  }

  module _ (k : Kind) (sized : IsSized k) (d made : ArrayData) (has : HasCells k d (position_count s)) where
    pub encoded-taken : IsTaken k (permuted order s) (permuted order (strides s)) d made → IfSome (cells k d) (λ cs. cells k made ≡ Some ((transposed order).forward s cs))
    encoded-taken taken =
        let held = HasCells-cells k d (position_count s) has in
        subst (λ o. IfSome o (λ cs. cells k made ≡ Some ((transposed order).forward s cs))) (sym held.1)
        (taken-cells k d made held.0 (permuted order s) s (inverse order) (permuted order (strides s)) sized held.1 held.2 (count-permuted order is s long) taken forward_place (inverse_in order is s long))

    pub decoded-taken : IsTaken k s (permuted (inverse order) (strides (permuted order s))) d made → IfSome (cells k d) (λ cs. cells k made ≡ Some ((transposed order).back s cs))
    decoded-taken taken =
        let held = HasCells-cells k d (position_count s) has in
        let count = count-permuted order is s long in
        subst (λ o. IfSome o (λ cs. cells k made ≡ Some ((transposed order).back s cs))) (sym held.1)
        (taken-cells k d made held.0 s (permuted order s) order (permuted (inverse order) (strides (permuted order s))) sized held.1 (held.2 ∙ sym count) (sym count) taken back_place (permuted_in order is s long))

  module _ (k : Kind) (d : ArrayData) (has : HasCells k d (position_count s)) (none_there : position_count s ≡ 0) where
    pub encoded-empty : IfSome (cells k d) (λ cs. cells k d ≡ Some ((transposed order).forward s cs))
    encoded-empty =
        let held = HasCells-cells k d (position_count s) has in
        let F : List ℕ → Cell = λ q. get_or held.0 (place s (permuted (inverse order) q)) none in
        let no : held.0 ≡ [] = nil_from_length held.0 (held.2 ∙ none_there) in
        let no' : (transposed order).forward s held.0 ≡ [] = nil_from_length ((transposed order).forward s held.0) (length-made_of F (permuted order s) ∙ count-permuted order is s long ∙ none_there) in
        subst (λ o. IfSome o (λ cs. o ≡ Some ((transposed order).forward s cs))) (sym held.1) (ap Some (no ∙ sym no'))

    pub decoded-empty : IfSome (cells k d) (λ cs. cells k d ≡ Some ((transposed order).back s cs))
    decoded-empty =
        let held = HasCells-cells k d (position_count s) has in
        let F : List ℕ → Cell = λ q. get_or held.0 (place (permuted order s) (permuted order q)) none in
        let no : held.0 ≡ [] = nil_from_length held.0 (held.2 ∙ none_there) in
        let no' : (transposed order).back s held.0 ≡ [] = nil_from_length ((transposed order).back s held.0) (length-made_of F s ∙ none_there) in
        subst (λ o. IfSome o (λ cs. o ≡ Some ((transposed order).back s cs))) (sym held.1) (ap Some (no ∙ sym no'))
