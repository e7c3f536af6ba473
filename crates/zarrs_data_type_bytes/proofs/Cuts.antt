-- Where byte strings that stand one after another are cut.
use Rattle.std.proofs.Common.{◌≡◌, ℕ, ◌+◌, ◌<◌, ◌≤◌, List, [], length, take, ap, ◌∙◌, arith}
use Rattle.std.specs.Prelude.{slice_index, slice_index_or, sum_by}
use Rattle.std.proofs.lemmas.List.FromFn.{length-map-range_with_len, get_or-map-range_with_len}
use Rattle.std.proofs.lemmas.List.Sums.{sum_by_more, sum_by_more_le}
use Rattle.zarrs_data_type_bytes.specs.Offsets.{offsets_of}

pub length-cuts : (strings : List (List ℕ)) → length (offsets_of strings) ≡ length strings + 1
length-cuts strings = length-map-range_with_len (λ k. sum_by length (take k strings)) 0 (length strings + 1)

-- a byte string is cut where those before it end
pub cut_at : (cuts : List ℕ) (strings : List (List ℕ)) (k : ℕ) → cuts ≡ offsets_of strings → k ≤ length strings → slice_index cuts k ≡ sum_by length (take k strings)
cut_at cuts strings k is within =
    ap (λ (xs : List ℕ). slice_index xs k) is
    ∙ get_or-map-range_with_len (λ j. sum_by length (take j strings)) 0 (length strings + 1) k k 0 (omega arith) (omega arith)

-- which is no further than the end of all
pub cut_within : (cuts : List ℕ) (strings : List (List ℕ)) (k : ℕ) → cuts ≡ offsets_of strings → k < length strings → slice_index cuts k ≤ sum_by length strings
cut_within cuts strings k is lt =
    let at = cut_at cuts strings k is (omega arith) in
    let end = sum_by_more_le length strings k [] lt in
    omega arith

-- and the next one is its length further
pub next_cut : (cuts : List ℕ) (strings : List (List ℕ)) (k : ℕ) → cuts ≡ offsets_of strings → k < length strings
    → slice_index cuts (k + 1) ≡ slice_index cuts k + length (slice_index_or strings k [])
next_cut cuts strings k is lt =
    let here = cut_at cuts strings k is (omega arith) in
    let next = cut_at cuts strings (k + 1) is (omega arith) in
    let more = sum_by_more length strings k [] lt in
    omega arith
