-- The cells of one size at the places of flags that are set.
use Rattle.std.proofs.Common.{◌≡◌, ℕ, zero, suc, ◌+◌, ◌*◌, ◌/◌, ◌<◌, ◌==◌, true, false, List, [], ◌∷◌, ◌++◌, length, map, take, get_or}
use Rattle.std.proofs.Common.{Some, sym, ap, ◌∙◌, subst, arith}
use Rattle.std.specs.Prelude.{All, count_by, slice_index, slice_range}
use Rattle.std.specs.List.{flat_map}
use Rattle.std.specs.Simd.{first_chunks}
use Rattle.std.proofs.lemmas.Bool.{eqb-true, false≢true, false_from_ne_true}
use Rattle.std.proofs.lemmas.List.Sums.{count_by_more_yes, count_by_more_no}
use Rattle.std.proofs.Math.Nat.{mul-div_cancel}
use Rattle.std.proofs.lemmas.Grind.{flat_map-append}
use Rattle.std.proofs.lemmas.List.{append-nil, length-map, get_or-map, map-append}
use Rattle.std.proofs.lemmas.List.FromFn.{get_or-map-range_with_len}
use Rattle.zarrs_data_type_numbers.proofs.Chunks.{first_chunks-at}
use Rattle.zarrs_data_type_kinds.specs.Kind.{Kind, element_size}
use Rattle.zarrs_data_type_kinds.specs.Cell.{bytes}
use Rattle.zarrs_data_type_bytes.specs.ArrayData.{ArrayData, fixed}
use Rattle.zarrs_data_type_bytes.specs.Cells.{fits, HasCells, CanSelect, IsSelection}
use Rattle.zarrs_data_type_bytes.specs.Present.{TakesPieces, flag_set, ranks_set}
use Rattle.zarrs_data_type_bytes.proofs.Cells.{fitting-fixed, HasCells-parts}
use Rattle.zarrs_data_type_bytes.proofs.Filled.{cell_at-fixed}
use Rattle.zarrs_data_type_bytes.proofs.Pieces.{length-flat_map_same, pieces-flat_map, length-fixed_cell}
use Rattle.zarrs_data_type_bytes.proofs.Presence.{ranks-set, ranks-unset, set-flag, unset-flag, rank_below, ranks_within}

-- one flag more: the rank of its cell, and how many flags are set with it
pub record IsStep (mask : List ℕ) (n : ℕ) (at : ℕ × ℕ) : Type 0 where
  pub below : at.0 < count_by flag_set mask
  pub rank : ranks_set mask (n + 1) ≡ ranks_set mask n ++ at.0 ∷ []
  pub count : at.1 ≡ count_by flag_set (take (n + 1) mask)

pub IsStep-unset : (mask : List ℕ) (n count : ℕ) (at : ℕ × ℕ) → n < length mask → 0 < count_by flag_set mask → count ≡ count_by flag_set (take n mask) → slice_index mask n ≡ 0 → at ≡ (0, count) → IsStep mask n at
IsStep-unset mask n count at lt some is unset pair =
    let first : at.0 ≡ 0 = ap (λ p. p.0) pair in
    let second : at.1 ≡ count = ap (λ p. p.1) pair in
    record {
      below = omega (arith, first, some);
      rank = ranks-unset mask n unset ∙ ap (λ r. ranks_set mask n ++ r ∷ []) (sym first);
      count = second ∙ is ∙ sym (count_by_more_no flag_set mask n 0 lt (unset-flag mask n unset));
    }

pub IsStep-set : (mask : List ℕ) (n count : ℕ) (at : ℕ × ℕ) → n < length mask → count ≡ count_by flag_set (take n mask) → (slice_index mask n ≡ 0 → ⊥) → at ≡ (count, count + 1) → IsStep mask n at
IsStep-set mask n count at lt is there pair =
    let first : at.0 ≡ count = ap (λ p. p.0) pair in
    let second : at.1 ≡ count + 1 = ap (λ p. p.1) pair in
    let unlike : (slice_index mask n == 0) ≡ false = false_from_ne_true (slice_index mask n == 0) (λ same. there (eqb-true (slice_index mask n) 0 same)) in
    record {
      below = omega (arith, first, is, rank_below mask n lt unlike);
      rank = ranks-set mask n there ∙ ap (λ r. ranks_set mask n ++ r ∷ []) (sym is ∙ sym first);
      count = second ∙ ap (λ m. m + 1) is ∙ sym (count_by_more_yes flag_set mask n 0 lt (set-flag mask n there));
    }

-- one cell more
pub spread_more : (cs : List (List ℕ)) (mask : List ℕ) (n rank : ℕ) (old new item : List ℕ) → old ≡ flat_map (λ x. x) (map (λ r. get_or cs r []) (ranks_set mask n))
    → ranks_set mask (n + 1) ≡ ranks_set mask n ++ rank ∷ [] → item ≡ get_or cs rank [] → new ≡ old ++ item → new ≡ flat_map (λ x. x) (map (λ r. get_or cs r []) (ranks_set mask (n + 1)))
spread_more cs mask n rank old new item so_far next is put =
    let f : ℕ → List ℕ = λ r. get_or cs r [] in
    let flat : List (List ℕ) → List ℕ = flat_map (λ x. x) in
    let front = map f (ranks_set mask n) in
    put
    ∙ ap (λ l. l ++ item) so_far
    ∙ ap (λ c. flat front ++ c) (is ∙ sym (append-nil (f rank)))
    ∙ sym (flat_map-append (λ x. x) front (map f (rank ∷ [])))
    ∙ ap flat (sym (map-append f (ranks_set mask n) (rank ∷ [])))
    ∙ ap (λ l. flat (map f l)) (sym next)

module _ (b : List ℕ) (size n : ℕ) (ranks : List ℕ) (len : length b ≡ n * size) (within : All (λ p. p < n) ranks) where
  abbrev pub chosen : List (List ℕ)
  chosen = map (λ r. get_or (first_chunks size n b) r []) ranks

  chosen-at : (k : ℕ) (d : List ℕ) → k < length ranks → get_or chosen k d ≡ slice_range b (slice_index ranks k * size) (slice_index ranks k * size + size)
  chosen-at k d lt =
      get_or-map (λ r. get_or (first_chunks size n b) r []) ranks k 0 d lt
      ∙ first_chunks-at size n (slice_index ranks k) b (within k 0 lt)

  chosen-sized : (k : ℕ) (d : List ℕ) → k < length chosen → length (get_or chosen k d) ≡ size
  chosen-sized k d lt =
      let here : k < length ranks = omega (arith, length-map ranks (λ r. get_or (first_chunks size n b) r [])) in
      ap length (chosen-at k d here) ∙ length-fixed_cell b size n (slice_index ranks k) len (within k 0 here)

  -- as many bytes as the cells that were chosen have
  pub length-chosen : length (flat_map (λ x. x) chosen) ≡ length ranks * size
  length-chosen =
      length-flat_map_same (λ x. x) size chosen chosen-sized
      ∙ ap (λ m. m * size) (length-map ranks (λ r. get_or (first_chunks size n b) r []))

  -- each of them stands at its place
  pub slice_range-chosen : (k : ℕ) → k < length ranks
      → slice_range (flat_map (λ x. x) chosen) (k * size) (k * size + size) ≡ slice_range b (slice_index ranks k * size) (slice_index ranks k * size + size)
  slice_range-chosen k lt =
      let out = flat_map (λ x. x) chosen in
      let here : k < length chosen = omega (arith, length-map ranks (λ r. get_or (first_chunks size n b) r [])) in
      sym (get_or-map-range_with_len (λ j. slice_range out (j * size) (j * size + size)) 0 (length chosen) k k [] here (omega arith))
      ∙ ap (λ l. get_or l k []) (pieces-flat_map (λ x. x) size chosen chosen-sized)
      ∙ get_or-map (λ x. x) chosen k [] [] here
      ∙ chosen-at k [] lt

-- the cells put together
pub spread_is : (b mask out : List ℕ) (size : ℕ) (cs : List (List ℕ)) → 0 < size → 0 < count_by flag_set mask → length b ≡ count_by flag_set mask * size → cs ≡ first_chunks size (length b / size) b
    → out ≡ flat_map (λ x. x) (map (λ r. get_or cs r []) (ranks_set mask (length mask)))
    → TakesPieces size (ranks_set mask (length mask)) b out
spread_is b mask out size cs wide some len cut are =
    let ones = count_by flag_set mask in
    let ranks = ranks_set mask (length mask) in
    let within = ranks_within mask some in
    let count : length b / size ≡ ones = ap (λ m. m / size) len ∙ mul-div_cancel ones wide in
    let pieces : cs ≡ first_chunks size ones b = cut ∙ ap (λ m. first_chunks size m b) count in
    let whole : out ≡ flat_map (λ x. x) (chosen b size ones ranks len within) = are ∙ ap (λ l. flat_map (λ x. x) (map (λ r. get_or l r []) ranks)) pieces in
    record {
      len = ap length whole ∙ length-chosen b size ones ranks len within;
      each = λ k lt. ap (λ l. slice_range l (k * size) (k * size + size)) whole ∙ slice_range-chosen b size ones ranks len within k lt;
    }

-- bytes that were taken cell by cell
pub IsSelection-fixed : (k : Kind) (size : ℕ) (old new ranks : List ℕ) → element_size k ≡ Some size → TakesPieces size ranks old new → IsSelection k (fixed new) (fixed old) ranks
IsSelection-fixed k size old new ranks is taken = record {
  has_kind = fitting-fixed k size new (length ranks) is taken.len;
  each_cell = λ i lt. cell_at-fixed k size new i is ∙ ap bytes (taken.each i lt) ∙ sym (cell_at-fixed k size old (slice_index ranks i) is);
}

-- data that is not of no cells has some
pub some_cell : (k : Kind) (d : ArrayData) (n : ℕ) → fits k d 0 ≡ false → fits k d n ≡ true → 0 < n
some_cell k d zero none there = absurd (false≢true (sym none ∙ there))
some_cell k d (suc n) none there = omega arith

-- the ranks are numbers of cells that are there
pub CanSelect-ranks : (k : Kind) (d : ArrayData) (mask ranks : List ℕ) → fits k d 0 ≡ false → HasCells k d (count_by flag_set mask) → ranks ≡ ranks_set mask (length mask) → CanSelect k d ranks
CanSelect-ranks k d mask ranks none has are =
    let ones = count_by flag_set mask in
    let fit = (HasCells-parts k d ones has).0 in
    (ones, fit, subst (λ l. All (λ p. p < ones) l) (sym are) (ranks_within mask (some_cell k d ones none fit)))
