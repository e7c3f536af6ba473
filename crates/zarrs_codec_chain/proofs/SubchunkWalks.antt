-- The subchunks that a part meets, one after another.
use Rattle.std.proofs.Common.{◌≡◌, ℕ, ◌+◌, Bool, true, false, ◌||◌, List, [], ◌∷◌, ◌++◌, length, take, slice_get, Option, Some, refl, sym, ◌∙◌, ap, subst, arith}
use Rattle.std.specs.Prelude.{nat_eq}
use Rattle.std.specs.Cmp.Lexicographic.{pointwise, same_text}
use Rattle.std.proofs.lemmas.Bool.{false≢true}
use Rattle.std.proofs.lemmas.List.{take_more, take_all}
use Rattle.std.proofs.lemmas.Option.{slice_get_within, get_or_from_slice_get}
use Rattle.zarrs_data_type.specs.ArrayData.{ArrayData}
use Rattle.zarrs_data_type.specs.Cells.{HasCells}
use Rattle.zarrs_data_type_bytes.proofs.Cells.{HasCells-some}
use Rattle.zarrs_subset.specs.Boxes.{position_count}
use Rattle.zarrs_subset.specs.Regions.{Box, IsLong, positions}
use Rattle.zarrs_data_type.specs.Cell.{Cell}
use Rattle.zarrs_data_type.specs.Kind.{Kind}
use Rattle.zarrs_codec_chain.specs.ShardParts.{HasAllParts, HasSubchunkParts, MeetsPart, ReadsSubchunk, is_among}
use Rattle.zarrs_codec_chain.proofs.SubchunkSteps.{all_read, among_more, met_among}

module _ (k : Kind) (decoded : List ℕ → Option (List Cell)) (fill : Cell) (s sub : List ℕ) (part : Box) (parts : List (Option (List ℕ))) (met : List (List ℕ)) where
  abbrev Has : List (List ℕ) → ArrayData → Type 0
  Has done held = HasSubchunkParts k decoded fill s sub part parts done held

  -- one more of them
  pub walked_more : (n : ℕ) (i : List ℕ) (old new : ArrayData) → slice_get met n ≡ Some i → Has (take n met) old → ReadsSubchunk k decoded fill s sub part parts i old new → Has (take (n + 1) met) new
  walked_more n i old new at h one =
      let next : take (n + 1) met ≡ take n met ++ i ∷ [] =
      take_more met n i (slice_get_within met n i at) ∙ ap (λ x. take n met ++ x ∷ []) (get_or_from_slice_get met n i i at) in
      subst (λ (done : List (List ℕ)). Has done new) (sym next) (one (take n met) h)

  pub walked_next : (n m : ℕ) (i : List ℕ) (old new : ArrayData) → m ≡ n + 1 → slice_get met n ≡ Some i → Has (take n met) old → ReadsSubchunk k decoded fill s sub part parts i old new → Has (take m met) new
  walked_next n m i old new is at h one = subst (λ n. Has (take n met) new) (sym is) (walked_more n i old new at h one)

  -- all of them
  pub walked_last : (n : ℕ) (held : ArrayData) → n ≡ length met → Has (take n met) held → Has met held
  walked_last n held all h =
      let whole : take n met ≡ met = ap (λ n. take n met) all ∙ take_all (length met) met (omega arith) in
      subst (λ (done : List (List ℕ)). Has done held) whole h

-- what holds of the indices before holds with the next one too
pub among_next : (P : List ℕ → Type 0) (met : List (List ℕ)) (n m : ℕ) (i : List ℕ) → m ≡ n + 1 → slice_get met n ≡ Some i
    → ((j : List ℕ) → is_among (take n met) j ≡ true → P j) → P i → (j : List ℕ) → is_among (take m met) j ≡ true → P j
among_next P met n m i is at before here j among =
    let next : take m met ≡ take n met ++ i ∷ [] =
    ap (λ x. take x met) is ∙ take_more met n i (slice_get_within met n i at) ∙ ap (λ x. take n met ++ x ∷ []) (get_or_from_slice_get met n i i at) in
    go (is_among (take n met) j) (pointwise nat_eq i j) refl refl (sym (among_more (take n met) i j) ∙ ap (λ l. is_among l j) (sym next) ∙ among)
  where
    go : (a b : Bool) → is_among (take n met) j ≡ a → pointwise nat_eq i j ≡ b → (a || b) ≡ true → P j
    go true b old same any = before j old
    go false true old same any = subst P (same_text i j (sym same)) here
    go false false old same any = absurd (false≢true any)

-- and at last of all
pub among_last : (P : List ℕ → Type 0) (met : List (List ℕ)) (n : ℕ) → n ≡ length met → ((j : List ℕ) → is_among (take n met) j ≡ true → P j)
    → (j : List ℕ) → is_among met j ≡ true → P j
among_last P met n all each j among =
    let whole : take n met ≡ met = ap (λ n. take n met) all ∙ take_all (length met) met (omega arith) in
    each j (ap (λ l. is_among l j) whole ∙ among)

-- all subchunks of a box that has those that the part meets
pub all_walked : (k : Kind) (decoded : List ℕ → Option (List Cell)) (fill : Cell) (s sub : List ℕ) (part met : Box) (parts : List (Option (List ℕ))) (held : ArrayData) → IsLong met → MeetsPart sub part met
    → HasSubchunkParts k decoded fill s sub part parts (positions met) held → HasAllParts k decoded fill s sub part parts held
all_walked k decoded fill s sub part met parts held long meets h =
    all_read k decoded fill s sub part parts (positions met) held (λ p holds. met_among met _ long (meets p holds)) h

-- the data has a cell for each position on the way
pub walked_cells : (k : Kind) (decoded : List ℕ → Option (List Cell)) (fill : Cell) (s sub : List ℕ) (part : Box) (parts : List (Option (List ℕ))) (done : List (List ℕ)) (held : ArrayData)
    → HasSubchunkParts k decoded fill s sub part parts done held → HasCells k held (position_count part.shape)
walked_cells k decoded fill s sub part parts done held h = subst (HasCells k held) h.count (HasCells-some k held h.given h.are_cells)
