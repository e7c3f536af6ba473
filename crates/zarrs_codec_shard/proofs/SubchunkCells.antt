-- The cells of subchunks, out of their chunk and into it.
use Rattle.std.proofs.Common.{◌≡◌, ◌≢◌, ℕ, ◌<◌, Bool, true, false, cond, List, length, get_or, Some, refl, sym, ap, ◌∙◌}
use Rattle.std.specs.Prelude.{unwrap_or, slice_get}
use Rattle.std.proofs.lemmas.Option.{unwrap_or-slice_get}
use Rattle.zarrs_data_type.specs.Kind.{Kind}
use Rattle.zarrs_data_type.specs.Cell.{Cell, none}
use Rattle.zarrs_data_type.specs.ArrayData.{ArrayData}
use Rattle.zarrs_data_type.specs.Cells.{HasCells}
use Rattle.zarrs_data_type.specs.Parts.{TakesCells, ExtractsCells}
use Rattle.zarrs_data_type_bytes.proofs.Cells.{HasCells-cells}
use Rattle.zarrs_subset.specs.Boxes.{position_count, InShape, place, unravel, offset_by}
use Rattle.zarrs_subset.specs.Regions.{Box, in_box, box_at_origin, place_in, cell_in}
use Rattle.zarrs_subset.proofs.Positions.{unravel_in, place-unravel}
use Rattle.zarrs_subset.proofs.RearrangedCells.{made_from, made_of-same}
use Rattle.zarrs_codec_shard.specs.SubchunkData.{ExtractsSubchunk, PutsSubchunk, UpdatesSubchunk}
use Rattle.zarrs_codec_shard.specs.Subchunks.{is_cut_by, quotients, corner, subchunk_count, subchunk_box, subchunk_at}
use Rattle.zarrs_codec_shard.proofs.Cuts.{position_inside, parts_of_position}
use Rattle.zarrs_codec_shard.proofs.SubchunkBoxes.{holds_chunk, place_in_chunk, holds_own, place_in_own, only_own}
use Rattle.zarrs_data_type_bytes.proofs.FixedSizes.{some_is}

-- cells at two places
same_cell : (xs ys : List Cell) (i j : ℕ) → slice_get xs i ≡ slice_get ys j → get_or xs i none ≡ get_or ys j none
same_cell xs ys i j same = sym (unwrap_or-slice_get xs i none) ∙ ap (λ o. unwrap_or o none) same ∙ unwrap_or-slice_get ys j none

module _ (k : Kind) (s sub : List ℕ) (n : ℕ) (cut : is_cut_by s sub ≡ true) (lt : n < subchunk_count s sub) where
  pub extracts_subchunk : (old new : ArrayData) → ExtractsCells k (box_at_origin s) old (subchunk_box s sub n) new → ExtractsSubchunk k s sub n old new
  extracts_subchunk old new x =
      let i = unravel (quotients s sub) n in
      let in_grid = unravel_in (quotients s sub) n lt in
      let F : List ℕ → Cell = λ q. get_or x.held (place s (offset_by (corner sub i) q)) none in
      record {
        held = x.held;
        old_is = x.old_is;
        new_is = x.new_is ∙ ap (λ l. Some l) (made_from F sub x.made none x.count
            (λ j below.
            let q = unravel sub j in
            let in_part = unravel_in sub j below in
            let p = offset_by (corner sub i) q in
            let at : place_in (subchunk_box s sub n) p ≡ j = place_in_own s sub i q cut in_grid in_part ∙ place-unravel sub j below in
            ap (λ a. get_or x.made a none) (sym at)
            ∙ same_cell x.made x.held (place_in (subchunk_box s sub n) p) (place_in (box_at_origin s) p) (x.same p (holds_own s sub i q cut in_grid in_part))
            ∙ ap (λ a. get_or x.held a none) (place_in_chunk s p (position_inside s sub i q cut in_grid in_part))));
      }

  -- the cells of a subchunk, with those of a part
  pub updates_subchunk : (part : Box) (given old new : ArrayData) → HasCells k old (position_count sub) → TakesCells k (subchunk_box s sub n) part given old new → UpdatesSubchunk k s sub part n given old new
  updates_subchunk part given old new has x =
      let i = unravel (quotients s sub) n in
      let in_grid = unravel_in (quotients s sub) n lt in
      let box = subchunk_box s sub n in
      let h = HasCells-cells k old (position_count sub) has in
      let len : length x.held ≡ position_count sub = ap length (some_is (sym x.old_is ∙ h.1)) ∙ h.2 in
      let F : List ℕ → Cell = λ q. let p = offset_by (corner sub i) q in cond (in_box part p) (get_or x.given (place_in part p) none) (get_or x.held (place sub q) none) in
      record {
        part_cells = x.given;
        held = x.held;
        given_is = x.part_is;
        old_is = x.old_is;
        new_is = x.new_is ∙ ap (λ l. Some l) (made_from F sub x.made none (x.count ∙ len)
            (λ j below.
            let q = unravel sub j in
            let in_sub = unravel_in sub j below in
            let p = offset_by (corner sub i) q in
            let at : place_in box p ≡ place sub q = place_in_own s sub i q cut in_grid in_sub in
            ap (λ a. get_or x.made a none) (sym (at ∙ place-unravel sub j below))
            ∙ go p (place sub q) (in_box part p) at (x.takes p (holds_own s sub i q cut in_grid in_sub))));
      }
    where
      go : (p : List ℕ) (m : ℕ) (b : Bool) → place_in (subchunk_box s sub n) p ≡ m → slice_get x.made (place_in (subchunk_box s sub n) p) ≡ cond b (cell_in part x.given p) (cell_in (subchunk_box s sub n) x.held p)
          → get_or x.made (place_in (subchunk_box s sub n) p) none ≡ cond b (get_or x.given (place_in part p) none) (get_or x.held m none)
      go p m true at is = same_cell x.made x.given (place_in (subchunk_box s sub n) p) (place_in part p) is
      go p m false at is = same_cell x.made x.held (place_in (subchunk_box s sub n) p) (place_in (subchunk_box s sub n) p) is ∙ ap (λ a. get_or x.held a none) at

  module _ (part old new : ArrayData) (x : TakesCells k (box_at_origin s) (subchunk_box s sub n) part old new) where
    -- a cell of the chunk, in the subchunk or out of it
    taken : (p : List ℕ) → InShape s p → get_or x.made (place s p) none ≡ cond (in_box (subchunk_box s sub n) p) (get_or x.given (place_in (subchunk_box s sub n) p) none) (get_or x.held (place s p) none)
    taken p inside =
        go (in_box (subchunk_box s sub n) p)
        (ap (λ a. slice_get x.made a) (sym (place_in_chunk s p inside)) ∙ x.takes p (holds_chunk s p inside))
      where
        go : (b : Bool) → slice_get x.made (place s p) ≡ cond b (cell_in (subchunk_box s sub n) x.given p) (cell_in (box_at_origin s) x.held p)
            → get_or x.made (place s p) none ≡ cond b (get_or x.given (place_in (subchunk_box s sub n) p) none) (get_or x.held (place s p) none)
        go true is = same_cell x.made x.given (place s p) (place_in (subchunk_box s sub n) p) is
        go false is = same_cell x.made x.held (place s p) (place_in (box_at_origin s) p) is ∙ ap (λ a. get_or x.held a none) (place_in_chunk s p inside)

    others_kept : (j : ℕ) → j < subchunk_count s sub → j ≢ n → subchunk_at s sub x.made j ≡ subchunk_at s sub x.held j
    others_kept j below differs =
        let g = quotients s sub in
        let i = unravel g j in
        let in_grid = unravel_in g j below in
        made_of-same (λ q. get_or x.made (place s (offset_by (corner sub i) q)) none) (λ q. get_or x.held (place s (offset_by (corner sub i) q)) none) sub
        (λ q in_part.
        let p = offset_by (corner sub i) q in
        let inside = position_inside s sub i q cut in_grid in_part in
        taken p inside ∙ out p inside (in_box (subchunk_box s sub n) p) refl (parts_of_position s sub i q cut in_grid in_part).0)
      where
        out : (p : List ℕ) → InShape s p → (b : Bool) → in_box (subchunk_box s sub n) p ≡ b → quotients p sub ≡ unravel (quotients s sub) j
            → cond (in_box (subchunk_box s sub n) p) (get_or x.given (place_in (subchunk_box s sub n) p) none) (get_or x.held (place s p) none) ≡ get_or x.held (place s p) none
        out p inside false is of_j = ap (λ b. cond b (get_or x.given (place_in (subchunk_box s sub n) p) none) (get_or x.held (place s p) none)) is
        out p inside true is of_j =
            let g = quotients s sub in
            let of_n = only_own s sub (unravel g n) p cut (unravel_in g n lt) inside is in
            absurd (differs (sym (place-unravel g j below) ∙ ap (place g) (sym of_j ∙ of_n) ∙ place-unravel g n lt))

    pub puts_subchunk : HasCells k old (position_count s) → HasCells k part (position_count sub) → PutsSubchunk k s sub n part old new
    puts_subchunk has_old has_part =
        let g = quotients s sub in
        let i = unravel g n in
        let in_grid = unravel_in g n lt in
        let o = HasCells-cells k old (position_count s) has_old in
        let h = HasCells-cells k part (position_count sub) has_part in
        let old_len : length x.held ≡ position_count s = ap length (some_is (sym x.old_is ∙ o.1)) ∙ o.2 in
        let part_len : length x.given ≡ position_count sub = ap length (some_is (sym x.part_is ∙ h.1)) ∙ h.2 in
        let F : List ℕ → Cell = λ q. get_or x.made (place s (offset_by (corner sub i) q)) none in
        record {
          held = x.held;
          made = x.made;
          old_is = x.old_is;
          new_is = x.new_is;
          count = x.count ∙ old_len;
          put = x.part_is ∙ ap (λ l. Some l) (made_from F sub x.given none part_len
              (λ j below.
              let q = unravel sub j in
              let in_part = unravel_in sub j below in
              let p = offset_by (corner sub i) q in
              let at : place_in (subchunk_box s sub n) p ≡ j = place_in_own s sub i q cut in_grid in_part ∙ place-unravel sub j below in
              sym (taken p (position_inside s sub i q cut in_grid in_part)
              ∙ ap (λ b. cond b (get_or x.given (place_in (subchunk_box s sub n) p) none) (get_or x.held (place s p) none)) (holds_own s sub i q cut in_grid in_part)
              ∙ ap (λ a. get_or x.given a none) at)));
          others = others_kept;
        }
