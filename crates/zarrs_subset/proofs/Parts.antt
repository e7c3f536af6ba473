-- Lemmas of a part's cells that go to their places in the cells of a box.
use Rattle.std.proofs.Common.{◌≡◌, ℕ, zero, suc, ◌+◌, ◌-◌, ◌*◌, ◌<◌, ◌≤◌, true, false, nat_lt, nat_le, min, max}
use Rattle.std.proofs.Common.{List, [], ◌∷◌, length, map, slice_index, slice_get, if◌then◌else◌, Some, refl, sym, ap}
use Rattle.std.proofs.Common.{◌∙◌, arith, inl, inr}
use Rattle.std.specs.Option.{option_map}
use Rattle.std.proofs.lemmas.Bool.{cases_Bool, and_parts, ltb-true, leb-true, false≢true}
use Rattle.std.proofs.lemmas.Bool.Decides.{nat_tests}
use Rattle.std.proofs.lemmas.Option.{slice_get-get_or, slice_get-map}
use Rattle.std.proofs.lemmas.List.FromFn.{length-map-range_with_len, get_or-map-range_with_len}
use Rattle.zarrs_subset.specs.Boxes.{position_count, place, BoxFits, in_range, is_within, moved, offset_from, zip_with, overlap_extents, MeetAlong}
use Rattle.zarrs_subset.specs.Cells.{BoxCopied}
use Rattle.zarrs_subset.specs.Pieces.{piece_at, pieces}
use Rattle.zarrs_subset.specs.Regions.{Box, IsLong, place_in, cells_over, TakesPart}
use Rattle.zarrs_subset.proofs.Kernel.{place_below, cell_ends, piece_at-same}
use Rattle.zarrs_subset.proofs.Overlaps.{AllSome, length-overlap_extents}
use Rattle.zarrs_subset.proofs.Positions.{offset_from-in}
use Rattle.zarrs_subset.proofs.Bytes.{place_in_below, byte_of}

-- ---- what two boxes share, as a box of the array over each

-- where it begins in the array over the first box, and in that over the second
abbrev pub shared_start : List ℕ → List ℕ → List ℕ
shared_start start other = zip_with (λ s t. max s t - s) start other

abbrev pub shared_other_start : List ℕ → List ℕ → List ℕ
shared_other_start start other = zip_with (λ s t. max s t - t) start other

pub zip_with-at : (f : ℕ → ℕ → ℕ) (xs ys : List ℕ) (k : ℕ) → k < length xs → k < length ys → slice_index (zip_with f xs ys) k ≡ f (slice_index xs k) (slice_index ys k)
zip_with-at f [] ys k h l = absurd (omega arith)
zip_with-at f (x ∷ xs) [] k h l = absurd (omega arith)
zip_with-at f (x ∷ xs) (y ∷ ys) zero h l = refl
zip_with-at f (x ∷ xs) (y ∷ ys) (suc k) h l = zip_with-at f xs ys k (omega arith) (omega arith)

pub overlap_extents-at : (S X T Y : List ℕ) (k : ℕ) → length S ≡ length X → length T ≡ length Y → length S ≡ length T → k < length S
    → slice_index (overlap_extents S X T Y) k ≡ min (slice_index S k + slice_index X k) (slice_index T k + slice_index Y k) - max (slice_index S k) (slice_index T k)
overlap_extents-at [] X T Y k h i j below = absurd (omega arith)
overlap_extents-at (s ∷ S) [] T Y k h i j below = absurd (omega arith)
overlap_extents-at (s ∷ S) (x ∷ X) [] Y k h i j below = absurd (omega arith)
overlap_extents-at (s ∷ S) (x ∷ X) (t ∷ T) [] k h i j below = absurd (omega arith)
overlap_extents-at (s ∷ S) (x ∷ X) (t ∷ T) (y ∷ Y) zero h i j below = refl
overlap_extents-at (s ∷ S) (x ∷ X) (t ∷ T) (y ∷ Y) (suc k) h i j below = overlap_extents-at S X T Y k (omega arith) (omega arith) (omega arith) (omega arith)

MeetAlong-rest : (s x t y : ℕ) (S X T Y : List ℕ) → MeetAlong (s ∷ S) (x ∷ X) (t ∷ T) (y ∷ Y) → MeetAlong S X T Y
MeetAlong-rest s x t y S X T Y meet k below = meet (suc k) (omega arith)

-- it fits both arrays
pub shared_fits : (S X T Y : List ℕ) → length S ≡ length X → length T ≡ length Y → length S ≡ length T → MeetAlong S X T Y
    → BoxFits (shared_start S T) (overlap_extents S X T Y) X × BoxFits (shared_other_start S T) (overlap_extents S X T Y) Y
shared_fits [] [] [] [] h i j meet = (tt, tt)
shared_fits [] [] [] (y ∷ Y) h i j meet = absurd (omega arith)
shared_fits [] [] (t ∷ T) Y h i j meet = absurd (omega arith)
shared_fits [] (x ∷ X) T Y h i j meet = absurd (omega arith)
shared_fits (s ∷ S) [] T Y h i j meet = absurd (omega arith)
shared_fits (s ∷ S) (x ∷ X) [] Y h i j meet = absurd (omega arith)
shared_fits (s ∷ S) (x ∷ X) (t ∷ T) [] h i j meet = absurd (omega arith)
shared_fits (s ∷ S) (x ∷ X) (t ∷ T) (y ∷ Y) h i j meet =
    let here : max s t < min (s + x) (t + y) = meet zero (omega arith) in
    let rest = shared_fits S X T Y (omega arith) (omega arith) (omega arith) (MeetAlong-rest s x t y S X T Y meet) in
    let first : (max s t - s) + (min (s + x) (t + y) - max s t) ≤ x = omega arith in
    let second : (max s t - t) + (min (s + x) (t + y) - max s t) ≤ y = omega arith in
    ((first, rest.0), (second, rest.1))

-- it has positions
pub shared_some : (S X T Y : List ℕ) → length S ≡ length X → length T ≡ length Y → length S ≡ length T → MeetAlong S X T Y → AllSome (overlap_extents S X T Y)
shared_some S X T Y h i j meet k below z =
    let inside : k < length S = omega (arith, length-overlap_extents S X T Y h i j) in
    omega (arith, meet k inside, overlap_extents-at S X T Y k h i j inside, z)

in_range-shared : (s x t y i : ℕ) → in_range s x i ≡ true → in_range (max s t - s) (min (s + x) (t + y) - max s t) (i - s) ≡ in_range t y i
in_range-shared s x t y i inside =
    let tests = and_parts (nat_le s i) (nat_lt i (s + x)) inside in
    let low : s ≤ i = leb-true s i tests.0 in
    let high : i < s + x = ltb-true i (s + x) tests.1 in
    grind (arith, nat_tests)

-- its positions are those of the second box
pub shared_within : (S X T Y p : List ℕ) → length S ≡ length X → length T ≡ length Y → length S ≡ length T → is_within S X p ≡ true
    → is_within (shared_start S T) (overlap_extents S X T Y) (offset_from S p) ≡ is_within T Y p
shared_within [] [] [] [] [] h i j inside = refl
shared_within [] [] [] [] (n ∷ p) h i j inside = absurd (false≢true inside)
shared_within [] [] [] (y ∷ Y) p h i j inside = absurd (omega arith)
shared_within [] [] (t ∷ T) Y p h i j inside = absurd (omega arith)
shared_within [] (x ∷ X) T Y p h i j inside = absurd (omega arith)
shared_within (s ∷ S) [] T Y p h i j inside = absurd (omega arith)
shared_within (s ∷ S) (x ∷ X) [] Y p h i j inside = absurd (omega arith)
shared_within (s ∷ S) (x ∷ X) (t ∷ T) [] p h i j inside = absurd (omega arith)
shared_within (s ∷ S) (x ∷ X) (t ∷ T) (y ∷ Y) [] h i j inside = absurd (false≢true inside)
shared_within (s ∷ S) (x ∷ X) (t ∷ T) (y ∷ Y) (n ∷ p) h i j inside =
    let parts = and_parts (in_range s x n) (is_within S X p) inside in
    rw (in_range-shared s x t y n parts.0, shared_within S X T Y p (omega arith) (omega arith) (omega arith) parts.1) refl

shared_moved : (S X T Y p : List ℕ) → length S ≡ length X → length T ≡ length Y → length S ≡ length T → is_within S X p ≡ true → is_within T Y p ≡ true
    → moved (shared_start S T) (shared_other_start S T) (offset_from S p) ≡ offset_from T p
shared_moved [] [] [] [] p h i j inside hit = refl
shared_moved [] [] [] (y ∷ Y) p h i j inside hit = absurd (omega arith)
shared_moved [] [] (t ∷ T) Y p h i j inside hit = absurd (omega arith)
shared_moved [] (x ∷ X) T Y p h i j inside hit = absurd (omega arith)
shared_moved (s ∷ S) [] T Y p h i j inside hit = absurd (omega arith)
shared_moved (s ∷ S) (x ∷ X) [] Y p h i j inside hit = absurd (omega arith)
shared_moved (s ∷ S) (x ∷ X) (t ∷ T) [] p h i j inside hit = absurd (omega arith)
shared_moved (s ∷ S) (x ∷ X) (t ∷ T) (y ∷ Y) [] h i j inside hit = refl
shared_moved (s ∷ S) (x ∷ X) (t ∷ T) (y ∷ Y) (n ∷ p) h i j inside hit =
    let parts = and_parts (in_range s x n) (is_within S X p) inside in
    let parts' = and_parts (in_range t y n) (is_within T Y p) hit in
    let low : s ≤ n = leb-true s n (and_parts (nat_le s n) (nat_lt n (s + x)) parts.0).0 in
    let low' : t ≤ n = leb-true t n (and_parts (nat_le t n) (nat_lt n (t + y)) parts'.0).0 in
    let first : (max s t - t) + ((n - s) - (max s t - s)) ≡ n - t = omega arith in
    rw (first, shared_moved S X T Y p (omega arith) (omega arith) (omega arith) parts.1 parts'.1) refl

-- ---- bytes over boxes

-- `new` is `old`, over the box of `start` and `shape`, except the positions of another box, which have the bytes of `part`:
-- byte by byte
abbrev pub BytesPlaced : ℕ → List ℕ → List ℕ → List ℕ → List ℕ → List ℕ → List ℕ → List ℕ → Type 0
BytesPlaced size start shape other_start other_shape part old new =
    (p : List ℕ) (k : ℕ) → is_within start shape p ≡ true → k < size
    → slice_index new (place shape (offset_from start p) * size + k)
    ≡ (if is_within other_start other_shape p
    then slice_index part (place other_shape (offset_from other_start p) * size + k)
    else slice_index old (place shape (offset_from start p) * size + k))

-- the copy of what the boxes share
pub shared_copied : (size : ℕ) (S X T Y part old new : List ℕ) → length S ≡ length X → length T ≡ length Y → length S ≡ length T
    → BoxCopied size Y (shared_other_start S T) X (shared_start S T) (overlap_extents S X T Y) part old new → BytesPlaced size S X T Y part old new
shared_copied size S X T Y part old new h i j copied p k inside below =
    let at = copied (offset_from S p) k (offset_from-in S X p h inside) below in
    let same = shared_within S X T Y p h i j inside in
    elim (cases_Bool (is_within T Y p)) [
      | inl hit ↦ rw hit ((rw (same ∙ hit) at at) ∙ ap (λ q. slice_index part (place Y q * size + k)) (shared_moved S X T Y p h i j inside hit))
      | inr miss ↦ rw miss (rw (same ∙ miss) at at)
    ]

-- a part that shares no position with the box
pub BytesPlaced-apart : (size : ℕ) (S X T Y part old : List ℕ) → ((p : List ℕ) → is_within S X p ≡ true → is_within T Y p ≡ false)
    → BytesPlaced size S X T Y part old old
BytesPlaced-apart size S X T Y part old out p k inside below = rw (out p inside) refl

-- ---- from bytes to cells

pub slice_get-pieces : (size count k : ℕ) (bytes : List ℕ) → k < count → slice_get (pieces size count bytes) k ≡ Some (piece_at size bytes k)
slice_get-pieces size count k bytes below =
    slice_get-get_or (pieces size count bytes) k [] (omega (arith, length-map-range_with_len (piece_at size bytes) 0 count))
    ∙ ap (λ c. Some c) (get_or-map-range_with_len (piece_at size bytes) 0 count k k [] below (omega arith))

pub TakesPart-from : (size : ℕ) (box other : Box) (part old new : List ℕ) → IsLong box → IsLong other
    → length part ≡ position_count other.shape * size → length old ≡ position_count box.shape * size → length new ≡ length old
    → BytesPlaced size box.start box.shape other.start other.shape part old new
    → TakesPart box other (cells_over size other part) (cells_over size box old) (cells_over size box new)
TakesPart-from size box other part old new long other_long part_len old_len same placed = λ position holds.
    let at = place_in box position in
    let below : at < position_count box.shape = place_below box.shape (offset_from box.start position) (offset_from-in box.start box.shape position long holds) in
    let room = cell_ends size at (position_count box.shape) (length old) below old_len in
    let room_new : at * size + size ≤ length new = omega arith in
    elim (cases_Bool (is_within other.start other.shape position)) [
      | inl hit ↦
          let from = place_in other position in
          let from_below : from < position_count other.shape = place_below other.shape (offset_from other.start position) (offset_from-in other.start other.shape position other_long hit) in
          let room_part = cell_ends size from (position_count other.shape) (length part) from_below part_len in
          rw hit (slice_get-pieces size (position_count box.shape) at new below
          ∙ ap (λ c. Some c) (piece_at-same size at from new part room_new room_part (λ k below. rw hit at (placed position k holds below)))
          ∙ sym (slice_get-pieces size (position_count other.shape) from part from_below))
      | inr miss ↦
          rw miss (slice_get-pieces size (position_count box.shape) at new below
          ∙ ap (λ c. Some c) (piece_at-same size at at new old room_new room (λ k below. rw miss at (placed position k holds below)))
          ∙ sym (slice_get-pieces size (position_count box.shape) at old below))
    ]

-- what f reads of each cell takes part in the same way
pub TakesPart-map : {A B : Type 0} (f : A → B) (box other : Box) (part old new : List A) → TakesPart box other part old new
    → TakesPart box other (map f part) (map f old) (map f new)
TakesPart-map f box other part old new takes = λ position holds.
    let at = takes position holds in
    slice_get-map f new (place_in box position)
    ∙ elim (cases_Bool (is_within other.start other.shape position)) [
      | inl hit ↦ rw hit (ap (option_map f) (rw hit at at) ∙ sym (slice_get-map f part (place_in other position)))
      | inr miss ↦ rw miss (ap (option_map f) (rw miss at at) ∙ sym (slice_get-map f old (place_in box position)))
    ]

-- of cells of one byte, the same is said of the bytes
pub TakesPart-bytes : (box other : Box) (part old new : List ℕ) → IsLong box → IsLong other
    → length part ≡ position_count other.shape → length old ≡ position_count box.shape → length new ≡ length old
    → TakesPart box other (cells_over 1 other part) (cells_over 1 box old) (cells_over 1 box new)
    → TakesPart box other part old new
TakesPart-bytes box other part old new long other_long part_len old_len same takes = λ position holds.
    let at = takes position holds in
    let below = place_in_below box position long holds in
    let here = slice_get-pieces 1 (position_count box.shape) (place_in box position) new below in
    elim (cases_Bool (is_within other.start other.shape position)) [
      | inl hit ↦
          let within = place_in_below other position other_long hit in
          let there = slice_get-pieces 1 (position_count other.shape) (place_in other position) part within in
          rw hit (byte_of new part (place_in box position) (place_in other position) (omega arith) (omega arith) (same_some _ _ (sym here ∙ (rw hit at at) ∙ there)))
      | inr miss ↦
          let there = slice_get-pieces 1 (position_count box.shape) (place_in box position) old below in
          rw miss (byte_of new old (place_in box position) (place_in box position) (omega arith) (omega arith) (same_some _ _ (sym here ∙ (rw miss at at) ∙ there)))
    ]
  where
    same_some : (a b : List ℕ) → Some a ≡ Some b → a ≡ b
    same_some a b e = cc
