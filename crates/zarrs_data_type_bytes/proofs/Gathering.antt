-- The cells of the flags that are set, put together.
use Rattle.std.proofs.Common.{◌≡◌, ℕ, zero, suc, ◌+◌, ◌*◌, ◌/◌, ◌<◌, ◌≤◌, inl, inr, List, [], ◌∷◌, ◌++◌, length, map, get_or, sym, ap, subst, ◌∙◌, arith}
use Rattle.std.specs.Prelude.{All, slice_index, slice_range}
use Rattle.std.specs.List.{flat_map}
use Rattle.std.specs.Simd.{first_chunks}
use Rattle.std.proofs.Math.Nat.{mul-div_cancel}
use Rattle.std.proofs.lemmas.Bool.{cases_lt}
use Rattle.std.proofs.lemmas.Grind.{flat_map-append}
use Rattle.std.proofs.lemmas.List.{append-nil, map-append}
use Rattle.zarrs_data_type_bytes.specs.Present.{TakesPieces}
use Rattle.zarrs_data_type_bytes.proofs.Places.{places_set}
use Rattle.zarrs_data_type_bytes.proofs.Presence.{All-pushed, places-set, places-unset}
use Rattle.zarrs_data_type_bytes.proofs.Spread.{chosen, length-chosen, slice_range-chosen}

-- one cell more
pub gathered_more : (cs : List (List ℕ)) (mask : List ℕ) (n : ℕ) (old new item : List ℕ) → old ≡ flat_map (λ x. x) (map (λ p. get_or cs p []) (places_set mask n))
    → (slice_index mask n ≡ 0 → ⊥) → item ≡ get_or cs n [] → new ≡ old ++ item → new ≡ flat_map (λ x. x) (map (λ p. get_or cs p []) (places_set mask (n + 1)))
gathered_more cs mask n old new item so_far there is put =
    let f : ℕ → List ℕ = λ p. get_or cs p [] in
    let flat : List (List ℕ) → List ℕ = flat_map (λ x. x) in
    let front = map f (places_set mask n) in
    put
    ∙ ap (λ l. l ++ item) so_far
    ∙ ap (λ c. flat front ++ c) (is ∙ sym (append-nil (f n)))
    ∙ sym (flat_map-append (λ x. x) front (map f (n ∷ [])))
    ∙ ap flat (sym (map-append f (places_set mask n) (n ∷ [])))
    ∙ ap (λ l. flat (map f l)) (sym (places-set mask n there))

-- the places are numbers of flags
places_within : (mask : List ℕ) (n m : ℕ) → n ≤ m → All (λ p. p < m) (places_set mask n)
places_within mask zero m le = λ k d lt. absurd (omega arith)
places_within mask (suc n) m le =
    let next : n + 1 ≡ suc n = omega arith in
    let rest = places_within mask n m (omega arith) in
    elim (cases_lt 0 (slice_index mask n)) [
      | inl some ↦ subst (λ l. All (λ p. p < m) l) (sym (places-set mask n (λ none. omega arith)) ∙ ap (places_set mask) next) (All-pushed m (places_set mask n) n rest (omega arith))
      | inr none ↦ subst (λ l. All (λ p. p < m) l) (sym (places-unset mask n (omega arith)) ∙ ap (places_set mask) next) rest
    ]

-- the cells put together
pub gathered_is : (b mask out : List ℕ) (size : ℕ) (cs : List (List ℕ)) → 0 < size → length b ≡ length mask * size → cs ≡ first_chunks size (length b / size) b
    → out ≡ flat_map (λ x. x) (map (λ p. get_or cs p []) (places_set mask (length mask)))
    → TakesPieces size (places_set mask (length mask)) b out
gathered_is b mask out size cs wide len cut are =
    let n = length mask in
    let places = places_set mask n in
    let within : All (λ p. p < n) places = places_within mask n n (omega arith) in
    let count : length b / size ≡ n = ap (λ m. m / size) len ∙ mul-div_cancel n wide in
    let pieces : cs ≡ first_chunks size n b = cut ∙ ap (λ m. first_chunks size m b) count in
    let whole : out ≡ flat_map (λ x. x) (chosen b size n places len within) = are ∙ ap (λ l. flat_map (λ x. x) (map (λ p. get_or l p []) places)) pieces in
    record {
      len = ap length whole ∙ length-chosen b size n places len within;
      each = λ k lt. ap (λ l. slice_range l (k * size) (k * size + size)) whole ∙ slice_range-chosen b size n places len within k lt;
    }
