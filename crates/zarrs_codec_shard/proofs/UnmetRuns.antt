-- Runs of subchunks that a box does not meet.
use Rattle.std.proofs.Common.{◌≡◌, ℕ, zero, suc, ◌+◌, ◌-◌, ◌*◌, ◌/◌, ◌%◌, ◌<◌, ◌≤◌, min, max, false, List, [], ◌∷◌, length, drop, slice_index, inl, inr, sym, ap, subst, ◌∙◌, arith}
use Rattle.std.proofs.Math.Nat.{add-mul, div-lt_iff_lt-mul, div-one, le-div_iff_mul-le, mul-le-mul_right, mul_assoc, mul_comm}
use Rattle.std.proofs.lemmas.Bool.{cases_lt}
use Rattle.std.proofs.lemmas.List.{drop_all}
use Rattle.std.proofs.lemmas.Nat.{div-add-mod', mod-mul-add, mod_below}
use Rattle.zarrs_subset.specs.Boxes.{overlap_extents, position_count, unravel}
use Rattle.zarrs_subset.specs.Regions.{Box}
use Rattle.zarrs_subset.proofs.Counts.{AllSome-drop, count_drop, count_some, count_zero, quotient_more}
use Rattle.zarrs_subset.proofs.Overlaps.{AllSome}
use Rattle.zarrs_codec_shard.specs.Subchunks.{corner}
use Rattle.zarrs_codec_shard.specs.Unmet.{SharesNone, SharesSome, shares}
use Rattle.zarrs_codec_shard.proofs.Meetings.{apart, shared_at, some_along}

-- a grid with a number has no extent 0
all_some : (grid : List ℕ) (n : ℕ) → n < position_count grid → AllSome grid
all_some grid n lt = λ k below none. absurd (omega (arith, count_zero grid k below none))

pub some_block : (grid : List ℕ) (n a : ℕ) → n < position_count grid → 0 < position_count (drop a grid)
some_block grid n a lt = count_some (drop a grid) (AllSome-drop grid a (all_some grid n lt))

-- the positions of an array, as rows of those from a dimension on
rows_of : (grid : List ℕ) (a : ℕ) → a ≤ length grid → (rows : ℕ) × (position_count grid ≡ rows * position_count (drop a grid))
rows_of grid zero le = (1, omega arith)
rows_of [] (suc a) le = absurd (omega arith)
rows_of (g ∷ grid) (suc a) le =
    let r = rows_of grid a (omega arith) in
    (g * r.0, ap (λ n. g * n) r.1 ∙ sym (mul_assoc g r.0 (position_count (drop a grid))))

-- the row of a position ends in the array
pub row_within : (grid : List ℕ) (n a : ℕ) → n < position_count grid → a ≤ length grid → (n / position_count (drop a grid) + 1) * position_count (drop a grid) ≤ position_count grid
row_within grid n a lt le =
    let c = position_count (drop a grid) in
    let r = rows_of grid a le in
    let some = some_block grid n a lt in
    let row : n / c < r.0 = (div-lt_iff_lt-mul {k = c} {x = n} {y = r.0} some).1 (subst (λ m. n < m) r.1 lt) in
    omega (arith, mul-le-mul_right {m = n / c + 1} {n = r.0} c (omega arith), r.1)

pub block_within : (grid : List ℕ) (n a : ℕ) → n < position_count grid → a ≤ length grid → position_count (drop a grid) ≤ position_count grid
block_within grid n a lt le =
    let c = position_count (drop a grid) in
    omega (arith, row_within grid n a lt le, add-mul (n / c) 1 c)

pub part_within : (grid : List ℕ) (n a m : ℕ) → n < position_count grid → a < length grid → m ≤ slice_index grid a → m * position_count (drop (suc a) grid) ≤ position_count grid
part_within grid n a m lt below le =
    let plus : suc a ≡ a + 1 = omega arith in
    let whole : slice_index grid a * position_count (drop (suc a) grid) ≡ position_count (drop a grid) = ap (λ i. slice_index grid a * position_count (drop i grid)) plus ∙ sym (count_drop grid a below) in
    omega (arith, mul-le-mul_right {m = m} {n = slice_index grid a} (position_count (drop (suc a) grid)) le, whole, block_within grid n a lt (omega arith))

-- ---- the run up to the index `next`, where a dimension has g indices and each has B positions
module _ (n B g next : ℕ) (some : 0 < B) (index : n / B % g < next) (within : next ≤ g) where
  abbrev pub run_to : ℕ
  run_to = (next - n / B % g) * B - n % B

  wide : n % B < (next - n / B % g) * B
  wide = omega (arith, mod_below n B some, mul-le-mul_right {m = 1} {n = next - n / B % g} B (omega arith))

  pub some_run : 0 < run_to
  some_run = let w = wide in omega arith

  ends_at : n + run_to ≡ (n / B + (next - n / B % g)) * B
  ends_at = let w = wide in omega (arith, div-add-mod' n B, add-mul (n / B) (next - n / B % g) B)

  pub run_within : n + run_to ≤ (n / B / g + 1) * (B * g)
  run_within =
      let q = n / B in
      let whole : q + (next - q % g) ≤ (q / g + 1) * g = omega (arith, div-add-mod' q g, add-mul (q / g) 1 g) in
      let block : (q / g + 1) * g * B ≡ (q / g + 1) * (B * g) = mul_assoc (q / g + 1) g B ∙ ap (λ m. (q / g + 1) * m) (mul_comm g B) in
      omega (arith, ends_at, mul-le-mul_right {m = q + (next - q % g)} {n = (q / g + 1) * g} B whole, block)

  -- the index of a position of the run
  pub run_index : (j : ℕ) → n ≤ j → j < n + run_to → (n / B % g ≤ j / B % g) × (j / B % g < next)
  run_index j from lt =
      let q = n / B in
      let i = q % g in
      let low : q ≤ j / B = (le-div_iff_mul-le {k = B} {x = q} {y = j} some).1 (omega (arith, div-add-mod' n B)) in
      let high : j / B < q + (next - i) = (div-lt_iff_lt-mul {k = B} {x = j} {y = q + (next - i)} some).1 (omega (arith, ends_at)) in
      let t = i + (j / B - q) in
      let below : t < next = omega arith in
      let again : q / g * g + t ≡ j / B = omega (arith, div-add-mod' q g) in
      let same : j / B % g ≡ t = ap (λ m. m % g) (sym again) ∙ mod-mul-add (q / g) g t (omega arith) in
      (omega arith, omega arith)

-- the position is within the row of more positions
pub row_more : (n B g m : ℕ) → 0 < g → m ≤ (n / B + 1) * B → m ≤ (n / B / g + 1) * (B * g)
row_more n B g m some le =
    let q = n / B in
    let whole : q + 1 ≤ (q / g + 1) * g = omega (arith, div-add-mod' q g, mod_below q g some, add-mul (q / g) 1 g) in
    let block : (q / g + 1) * g * B ≡ (q / g + 1) * (B * g) = mul_assoc (q / g + 1) g B ∙ ap (λ x. (q / g + 1) * x) (mul_comm g B) in
    omega (arith, mul-le-mul_right {m = q + 1} {n = (q / g + 1) * g} B whole, block)

-- ---- along one dimension

pub unshared_after : (start extent len index i : ℕ) → start + extent ≤ max (index * len) start → index ≤ i → SharesNone start extent len i
unshared_after start extent len index i past le = omega (arith, mul-le-mul_right {m = index} {n = i} len le)

pub unshared_before : (start extent len i count : ℕ) → 0 < len → i < min (start / len) count → SharesNone start extent len i
unshared_before start extent len i count some lt =
    let ends : (i + 1) * len ≤ start = (le-div_iff_mul-le {k = len} {x = i + 1} {y = start} some).0 (omega arith) in
    omega (arith, add-mul i 1 len)

module _ (sub grid : List ℕ) (part : Box) (same : length sub ≡ length grid) (dimensions : length part.start ≡ length grid) (long : length part.start ≡ length part.shape) (n k : ℕ)
    (lt : n < position_count grid) (below : k < length grid) where
  pub unshared : SharesNone (slice_index part.start k) (slice_index part.shape k) (slice_index sub k) (n / position_count (drop (suc k) grid) % slice_index grid k) → shares sub grid part n ≡ false
  unshared none =
      let here = shared_at sub grid n part.start part.shape same dimensions long lt k below in
      sym (apart sub grid n part.start part.shape same dimensions long lt k below (omega arith))

  pub some_shared : SharesSome (slice_index part.start k) (slice_index part.shape k) (slice_index sub k) (n / position_count (drop (suc k) grid) % slice_index grid k)
      → 0 < slice_index (overlap_extents (corner sub (unravel grid n)) sub part.start part.shape) k
  some_shared some =
      let here = shared_at sub grid n part.start part.shape same dimensions long lt k below in
      omega arith

-- ---- the run from a number on, as far as the dimensions from one on are tested
module _ (sub grid : List ℕ) (part : Box) (n : ℕ) where
  pub record IsRun (axis run : ℕ) : Type 0 where
    -- it stays in the row of the dimensions before
    pub row : n + run ≤ (n / position_count (drop axis grid) + 1) * position_count (drop axis grid)
    pub unmet : (j : ℕ) → n ≤ j → j < n + run → shares sub grid part j ≡ false
    -- if there is none, the box has an index of the subchunk along each dimension
    pub met : run ≡ 0 → (k : ℕ) → axis ≤ k → k < length grid → 0 < slice_index (overlap_extents (corner sub (unravel grid n)) sub part.start part.shape) k

  pub run_started : IsRun (length grid) 0
  run_started = record {
    row = (let whole : position_count (drop (length grid) grid) ≡ 1 = ap position_count (drop_all (length grid) grid (omega arith)) in
        subst (λ c. n + 0 ≤ (n / c + 1) * c) (sym whole) (let same = div-one n in omega arith));
    unmet = λ j le lt. absurd (omega arith);
    met = λ none k le below. absurd (omega arith);
  }

  module _ (same : length sub ≡ length grid) (dimensions : length part.start ≡ length grid) (long : length part.start ≡ length part.shape) (lt : n < position_count grid) (a : ℕ) (below : a < length grid) where
    abbrev pub block_at : ℕ
    block_at = position_count (drop (suc a) grid)

    abbrev pub index_now : ℕ
    index_now = n / block_at % slice_index grid a

    pub block_more : block_at * slice_index grid a ≡ position_count (drop a grid)
    block_more =
        let plus : suc a ≡ a + 1 = omega arith in
        mul_comm block_at (slice_index grid a) ∙ ap (λ i. slice_index grid a * position_count (drop i grid)) plus ∙ sym (count_drop grid a below)

    pub rest_more : n / block_at / slice_index grid a ≡ n / position_count (drop a grid)
    rest_more =
        let plus : suc a ≡ a + 1 = omega arith in
        ap (λ i. n / position_count (drop i grid) / slice_index grid a) plus ∙ quotient_more grid a n below

    row_is : (m : ℕ) → m ≤ (n / block_at / slice_index grid a + 1) * (block_at * slice_index grid a) → m ≤ (n / position_count (drop a grid) + 1) * position_count (drop a grid)
    row_is m le =
        subst (λ c. m ≤ (n / position_count (drop a grid) + 1) * c) block_more (subst (λ r. m ≤ (r + 1) * (block_at * slice_index grid a)) rest_more le)

    pub run_longer : (next : ℕ) (index : index_now < next) (within : next ≤ slice_index grid a)
        → ((i : ℕ) → index_now ≤ i → i < next → SharesNone (slice_index part.start a) (slice_index part.shape a) (slice_index sub a) i)
        → IsRun a (run_to n block_at (slice_index grid a) next (some_block grid n (suc a) lt) index within)
    run_longer next index within none =
        let some = some_block grid n (suc a) lt in
        let run = run_to n block_at (slice_index grid a) next some index within in
        let row = row_is (n + run) (run_within n block_at (slice_index grid a) next some index within) in
        record {
          row = row;
          unmet = λ j from upto.
              let there : j < position_count grid = omega (arith, row, row_within grid n a lt (omega arith)) in
              let i = run_index n block_at (slice_index grid a) next some index within j from upto in
              unshared sub grid part same dimensions long j a there below (none (j / block_at % slice_index grid a) i.0 i.1);
          met = λ gone. absurd (let more = some_run n block_at (slice_index grid a) next some index within in omega arith);
        }

    pub run_kept : (run : ℕ) → IsRun (suc a) run → SharesSome (slice_index part.start a) (slice_index part.shape a) (slice_index sub a) index_now → IsRun a run
    run_kept run is some = record {
      row = row_is (n + run) (row_more n block_at (slice_index grid a) (n + run) (omega (arith, mod_lower)) is.row);
      unmet = is.unmet;
      met = λ none k le upto.
          elim (cases_lt a k) [
            | inl past ↦ is.met none k (omega arith) upto
            | inr here ↦ subst (λ j. 0 < slice_index (overlap_extents (corner sub (unravel grid n)) sub part.start part.shape) j) (let at : a ≡ k = omega arith in at)
                (some_shared sub grid part same dimensions long n a lt below some)
          ];
    }
      where
        mod_lower : 0 < slice_index grid a
        mod_lower = some_along grid n a lt below

    -- one dimension more, by the values of a loop over them
    module _ (rest start extent : ℕ) (rest_is : rest ≡ n / block_at) (start_is : start ≡ slice_index part.start a) (extent_is : extent ≡ slice_index part.shape a) where
      index_is : rest % slice_index grid a ≡ index_now
      index_is = ap (λ r. r % slice_index grid a) rest_is

      none_here : (i : ℕ) → SharesNone start extent (slice_index sub a) i → SharesNone (slice_index part.start a) (slice_index part.shape a) (slice_index sub a) i
      none_here i none = subst (λ s. SharesNone s (slice_index part.shape a) (slice_index sub a) i) start_is (subst (λ x. SharesNone start x (slice_index sub a) i) extent_is none)

      some_here : (i : ℕ) → SharesSome start extent (slice_index sub a) i → SharesSome (slice_index part.start a) (slice_index part.shape a) (slice_index sub a) i
      some_here i some = subst (λ s. SharesSome s (slice_index part.shape a) (slice_index sub a) i) start_is (subst (λ x. SharesSome start x (slice_index sub a) i) extent_is some)

      pub step_longer : (block next run : ℕ) → block ≡ block_at → rest % slice_index grid a < next → next ≤ slice_index grid a
          → ((i : ℕ) → rest % slice_index grid a ≤ i → i < next → SharesNone start extent (slice_index sub a) i)
          → run ≡ (next - rest % slice_index grid a) * block - n % block → IsRun a run
      step_longer block next run block_is index within none run_is =
          let before : index_now < next = subst (λ i. i < next) index_is index in
          subst (λ m. IsRun a m)
          (sym (run_is ∙ ap (λ i. (next - i) * block - n % block) index_is ∙ ap (λ b. (next - index_now) * b - n % b) block_is))
          (run_longer next before within (λ i from upto. none_here i (none i (subst (λ j. j ≤ i) (sym index_is) from) upto)))

      pub step_kept : (run : ℕ) → IsRun (suc a) run → SharesSome start extent (slice_index sub a) (rest % slice_index grid a) → IsRun a run
      step_kept run is some = run_kept run is (subst (λ i. SharesSome (slice_index part.start a) (slice_index part.shape a) (slice_index sub a) i) index_is (some_here (rest % slice_index grid a) some))
