-- The part of a box that another box shares, and what is put in there.
use Rattle.std.proofs.Common.{◌≡◌, ◌≢◌, ℕ, ◌+◌, ◌-◌, max, min, ◌<◌, ◌&&◌, Bool, true, false, cond, List, [], length, map}
use Rattle.std.proofs.Common.{refl, sym, ap, ◌∙◌, arith}
use Rattle.std.specs.Prelude.{slice_index, slice_index_or, SomeIndex}
use Rattle.std.proofs.lemmas.List.{get_or-map, length-map}
use Rattle.std.proofs.lemmas.Option.{get_or_from_slice_get, slice_get_within}
use Rattle.zarrs_subset.specs.Boxes.{position_count}
use Rattle.zarrs_subset.specs.Regions.{Box, IsLong, Holds, in_box, overlap_of, place_in, positions, LiesInBox}
use Rattle.zarrs_subset.proofs.Overlaps.{in_box-empty, in_box-overlap, length-zip_with}
use Rattle.zarrs_subset.proofs.Parts.{overlap_extents-at, zip_with-at}
use Rattle.zarrs_subset.proofs.Positions.{length-positions, positions_all}
use Rattle.zarrs_data_type_bytes.specs.Parts.{TakesAt}
use Rattle.zarrs_data_type_bytes.specs.StringParts.{string_at}
use Rattle.zarrs_data_type_bytes.specs.Places.{string_of}

module _ (box other shared : Box) (long : IsLong box) (other_long : IsLong other) (shared_long : IsLong shared) (dimensions : length box.start ≡ length other.start)
    (is : shared ≡ overlap_of box other) where
  pub shared_dimensions : length box.start ≡ length shared.start
  shared_dimensions = sym (ap (λ (b : Box). length b.start) is ∙ length-zip_with _ box.start other.start dimensions)

  -- a position of the box lies in both if it lies in the other
  pub shared_holds : (position : List ℕ) → Holds box position → in_box shared position ≡ in_box other position
  shared_holds position holds =
      ap (λ (b : Box). in_box b position) is
      ∙ in_box-overlap box.start box.shape other.start other.shape position long other_long dimensions
      ∙ ap (λ b. b && in_box other position) holds

  -- what they share lies in the other
  pub shared_inside : ((k : ℕ) → k < length shared.shape → slice_index shared.shape k ≢ 0) → LiesInBox shared other
  shared_inside some = record {
    same_length = sym shared_dimensions ∙ dimensions;
    starts = λ k lt. omega (arith, start k lt);
    ends = λ k lt.
        let positive = some k (omega (arith, shared_long, shared_dimensions)) in
        omega (arith, start k lt, extent k lt);
  }
    where
      start : (k : ℕ) → k < length other.start → slice_index shared.start k ≡ max (slice_index box.start k) (slice_index other.start k)
      start k lt = ap (λ (b : Box). slice_index b.start k) is ∙ zip_with-at (λ s t. max s t) box.start other.start k (omega arith) lt

      extent : (k : ℕ) → k < length other.start
          → slice_index shared.shape k ≡ min (slice_index box.start k + slice_index box.shape k) (slice_index other.start k + slice_index other.shape k) - max (slice_index box.start k) (slice_index other.start k)
      extent k lt =
          ap (λ (b : Box). slice_index b.shape k) is ∙ overlap_extents-at box.start box.shape other.start other.shape k long other_long dimensions (omega arith)

  -- nothing is taken of a box that shares no position
  pub nothing_taken : {X : Type 0} (f g : ℕ → X) → SomeIndex shared.shape (λ k. slice_index shared.shape k ≡ 0) → TakesAt box other f g g
  nothing_taken f g none position holds =
      let out : in_box other position ≡ false =
      sym (shared_holds position holds) ∙ in_box-empty shared.start shared.shape position none.0 shared_long none.1 none.2 in
      sym (ap (λ b. cond b (f (place_in other position)) (g (place_in box position))) out)

  module _ (part inside : List (List ℕ)) (cut : inside ≡ map (string_at other part) (positions shared)) where
    pub cut_len : length inside ≡ position_count shared.shape
    cut_len = ap length cut ∙ length-map (positions shared) (string_at other part) ∙ length-positions shared.start shared.shape shared_long

    cut_at : (position : List ℕ) → Holds shared position → string_of inside (place_in shared position) ≡ string_of part (place_in other position)
    cut_at position holds =
        let at = positions_all shared.start shared.shape position shared_long holds in
        ap (λ l. slice_index_or l (place_in shared position) []) cut
        ∙ get_or-map (string_at other part) (positions shared) (place_in shared position) [] [] (slice_get_within (positions shared) (place_in shared position) position at)
        ∙ ap (string_at other part) (get_or_from_slice_get (positions shared) (place_in shared position) position [] at)

    -- what is taken of the shared part is what is taken of all
    pub taken_through : (g h : ℕ → List ℕ) → TakesAt box shared (string_of inside) g h → TakesAt box other (string_of part) g h
    taken_through g h takes position holds = go (in_box other position) refl (takes position holds)
      where
        go : (b : Bool) → in_box other position ≡ b
            → h (place_in box position) ≡ cond (in_box shared position) (string_of inside (place_in shared position)) (g (place_in box position))
            → h (place_in box position) ≡ cond b (string_of part (place_in other position)) (g (place_in box position))
        go true there same =
            let hit : in_box shared position ≡ true = shared_holds position holds ∙ there in
            same ∙ ap (λ b. cond b (string_of inside (place_in shared position)) (g (place_in box position))) hit ∙ cut_at position hit
        go false there same =
            let miss : in_box shared position ≡ false = shared_holds position holds ∙ there in
            same ∙ ap (λ b. cond b (string_of inside (place_in shared position)) (g (place_in box position))) miss
