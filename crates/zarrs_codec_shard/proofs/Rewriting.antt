-- The length of a shard of the subchunks that stand at ranges.
use Rattle.std.proofs.Common.{◌≡◌, ℕ, ◌+◌, ◌-◌, ◌*◌, ◌<◌, ◌≤◌, ◌^◌, Bool, true, false, cond, List, [], ◌∷◌, length, map, Option, None, Some, refl, sym, ap, ◌∙◌, arith}
use Rattle.std.specs.Prelude.{All, MatchOption, is_some, slice_range}
use Rattle.std.specs.List.{sum_by}
use Rattle.std.specs.Str.{bytes_eq}
use Rattle.std.proofs.lemmas.Bool.{false≢true}
use Rattle.std.proofs.lemmas.List.{length-append, length-map}
use Rattle.std.proofs.lemmas.List.Elements.{All-tail}
use Rattle.std.proofs.lemmas.List.Sums.{sum_by-cons}
use Rattle.std.proofs.lemmas.Slice.Eq.{bytes_eq-Decides}
use Rattle.zarrs_subset.proofs.Kernel.{length_part}
use Rattle.zarrs_codec_shard.specs.declared.shard_index.SubchunkRange.{SubchunkRange}
use Rattle.zarrs_codec_shard.specs.ShardIndex.{range_part, range_len, ranges_len, IsRangeWithin}
use Rattle.zarrs_codec_shard.specs.Shards.{compaction, data_bytes, index_bytes, shard_bytes, shard_parts}
use Rattle.zarrs_codec_shard.proofs.ShardBytes.{length-joined_entries}
use Rattle.zarrs_codec_shard.proofs.ShardLaws.{compaction_from}

pub length-range : (b : List ℕ) (r : SubchunkRange) → IsRangeWithin (length b) (Some r) → length (slice_range b r.start r.end) ≡ r.end - r.start
length-range b r within =
    let ordered : r.start ≤ r.end = within.0 in
    let fits : r.end ≤ length b = within.1 in
    let end_is : r.start + (r.end - r.start) ≡ r.end = omega arith in
    ap (λ e. length (slice_range b r.start e)) (sym end_is) ∙ length_part r.start (r.end - r.start) b (omega arith)

length-ranges : (b : List ℕ) (ranges : List (Option SubchunkRange)) → All (IsRangeWithin (length b)) ranges → length (data_bytes (map (range_part b) ranges)) ≡ sum_by range_len ranges
length-ranges b [] within = refl
length-ranges b (None ∷ ranges) within =
    omega (arith, length-ranges b ranges (All-tail (IsRangeWithin (length b)) None ranges within), sum_by-cons range_len None ranges)
length-ranges b (Some r ∷ ranges) within =
    length-append (slice_range b r.start r.end) (data_bytes (map (range_part b) ranges))
    ∙ ap (λ n. n + length (data_bytes (map (range_part b) ranges))) (length-range b r (within 0 None (omega arith)))
    ∙ ap (λ n. r.end - r.start + n) (length-ranges b ranges (All-tail (IsRangeWithin (length b)) (Some r) ranges within))
    ∙ sym (sum_by-cons range_len (Some r) ranges)

length-parts : (at_start : Bool) (parts : List (Option (List ℕ))) → length (shard_bytes at_start parts) ≡ length parts * 16 + length (data_bytes parts)
length-parts true parts = omega (arith, length-append (index_bytes true parts) (data_bytes parts), length-joined_entries (length parts * 16) parts)
length-parts false parts = omega (arith, length-append (data_bytes parts) (index_bytes false parts), length-joined_entries 0 parts)

pub length-rewritten : (at_start : Bool) (b : List ℕ) (ranges : List (Option SubchunkRange)) → All (IsRangeWithin (length b)) ranges → length (shard_bytes at_start (map (range_part b) ranges)) ≡ ranges_len ranges
length-rewritten at_start b ranges within =
    length-parts at_start (map (range_part b) ranges)
    ∙ ap (λ n. n * 16 + length (data_bytes (map (range_part b) ranges))) (length-map ranges (range_part b))
    ∙ ap (λ n. length ranges * 16 + n) (length-ranges b ranges within)

-- a compaction that a u64 does not count
pub too_long : (at_start : Bool) (n : ℕ) (b : List ℕ) (ranges : List (Option SubchunkRange)) → shard_parts at_start n b ≡ Some (map (range_part b) ranges) → All (IsRangeWithin (length b)) ranges → length b < 2 ^ 64 → 2 ^ 64 ≤ ranges_len ranges
    → (less : List ℕ) × (compaction at_start n b ≡ Some (Some less)) × (2 ^ 64 ≤ length less)
too_long at_start n b ranges read within small large =
    let parts = map (range_part b) ranges in
    let made = shard_bytes at_start parts in
    let len : length made ≡ ranges_len ranges = length-rewritten at_start b ranges within in
    (made, compaction_from at_start n b made parts read refl ∙ ap (λ x. Some (cond x None (Some made))) (differs made (bytes_eq made b) refl len), (let le : 2 ^ 64 ≤ length made = omega arith in le))
  where
    differs : (made : List ℕ) (x : Bool) → bytes_eq made b ≡ x → length made ≡ ranges_len ranges → bytes_eq made b ≡ false
    differs made false is len = is
    differs made true is len = absurd (let same = ap length ((bytes_eq-Decides made b).0 is) in omega arith)

-- a length that was not counted
pub no_len : (o : Option ℕ) (n : ℕ) → is_some o ≡ false → MatchOption o (2 ^ 64 ≤ n) (λ len. len ≡ n) → 2 ^ 64 ≤ n
no_len None n none is = is
no_len (Some len) n none is = absurd (false≢true (sym none))
