-- A shard whose ranges stand one after another without gaps is the shard that is made of them.
use Rattle.std.proofs.Common.{◌≡◌, ℕ, ◌+◌, ◌-◌, ◌*◌, ◌≤◌, Bool, true, false, cond, eqb, ◌&&◌, List, [], ◌∷◌, ◌++◌, length, map, take, drop, get_or, Option, None, Some, refl, sym, ap, ◌∙◌, arith}
use Rattle.std.specs.Prelude.{All, nat_le, slice_range}
use Rattle.std.specs.List.{flat_map, sum_by}
use Rattle.std.proofs.Math.Seq.{take-add, take-length}
use Rattle.std.proofs.lemmas.Bool.{and_from, and_parts, eq-eqb, eqb-true, le-leb}
use Rattle.std.proofs.lemmas.List.{drop-drop, length-drop, length-map, length-take-le, take-append-drop, take_all}
use Rattle.std.proofs.lemmas.List.Elements.{All-tail}
use Rattle.std.proofs.lemmas.List.Sums.{sum_by-cons}
use Rattle.std.proofs.lemmas.Slice.Eq.{bytes_eq-Decides}
use Rattle.zarrs_codec_shard.specs.declared.shard_index.SubchunkRange.{SubchunkRange}
use Rattle.zarrs_subset.specs.Pieces.{pieces}
use Rattle.zarrs_codec_shard.specs.ShardIndex.{are_packed, range_entry, range_len, range_part, ranges_len, IsRangeWithin, NamesPacked}
use Rattle.zarrs_codec_shard.specs.Shards.{absent, compaction, data_bytes, data_end, data_start, entries, entry_bytes, index_in, named_part, shard_bytes, shard_parts}
use Rattle.zarrs_codec_shard.specs.Steps.{all_present}
use Rattle.zarrs_codec_shard.proofs.Missing.{given_if-true}
use Rattle.zarrs_codec_shard.proofs.Rewriting.{length-range}
use Rattle.zarrs_codec_shard.proofs.ShardReading.{IsRead, read_more, read_none}
use Rattle.zarrs_codec_shard.proofs.ShardLaws.{compaction_from, length-shard_parts}

-- one range more behind the last one
packed_push : (o e : ℕ) (ranges : List (Option SubchunkRange)) (r : SubchunkRange) → All (IsRangeWithin e) ranges → are_packed o ranges ≡ true → r.start ≡ o + sum_by range_len ranges
    → are_packed o (ranges ++ Some r ∷ []) ≡ true
packed_push o e [] r within packed starts = and_from (eqb r.start o) true (eq-eqb r.start o (omega arith)) refl
packed_push o e (None ∷ ranges) r within packed starts =
    packed_push o e ranges r (All-tail (IsRangeWithin e) None ranges within) packed (omega (arith, sum_by-cons range_len None ranges))
packed_push o e (Some q ∷ ranges) r within packed starts =
    let p = and_parts (eqb q.start o) (are_packed q.end ranges) packed in
    let at : q.start ≡ o = eqb-true q.start o p.0 in
    let own = within 0 None (omega arith) in
    let ordered : q.start ≤ q.end = own.0 in
    and_from (eqb q.start o) (are_packed q.end (ranges ++ Some r ∷ [])) p.0
    (packed_push q.end e ranges r (All-tail (IsRangeWithin e) (Some q) ranges within) p.1 (omega (arith, sum_by-cons range_len (Some q) ranges)))

packed_none : (o : ℕ) (ranges : List (Option SubchunkRange)) → are_packed o (ranges ++ None ∷ []) ≡ are_packed o ranges
packed_none o [] = refl
packed_none o (None ∷ ranges) = packed_none o ranges
packed_none o (Some q ∷ ranges) = ap (λ b. eqb q.start o && b) (packed_none q.end ranges)

length_more : (ranges : List (Option SubchunkRange)) (o : Option SubchunkRange) → sum_by range_len (ranges ++ o ∷ []) ≡ sum_by range_len ranges + range_len o
length_more [] o = omega (arith, sum_by-cons range_len o [])
length_more (x ∷ ranges) o = omega (arith, length_more ranges o, sum_by-cons range_len x (ranges ++ o ∷ []), sum_by-cons range_len x ranges)

-- ---- an index, read entry by entry

read_of : (n start end : ℕ) (index : List ℕ) (last : ℕ) (is : NamesPacked n start end index last) → IsRead n start end index is.ranges
read_of n start end index last is = record { each = is.parts; within = is.within; entries_are = is.entries_are }

pub named_none : (start end : ℕ) (index : List ℕ) → NamesPacked 0 start end index start
named_none start end index =
    let r = read_none start end index in
    record { ranges = []; parts = r.each; entries_are = r.entries_are; within = r.within; packed = refl; last_is = (let same : start ≡ start + 0 = omega arith in same) }

module _ (n start end : ℕ) (index entry : List ℕ) (last : ℕ) (is : NamesPacked n start end index last) (same : entry ≡ slice_range index (n * 16) (n * 16 + 16)) where
  pub named_absent : ((shard : List ℕ) → named_part shard start end entry ≡ Some (range_part shard None)) → entry ≡ range_entry None → NamesPacked (n + 1) start end index last
  named_absent here again =
      let r = read_more n start end index entry is.ranges None (read_of n start end index last is) same here tt again in
      record {
        ranges = is.ranges ++ None ∷ [];
        parts = r.each;
        entries_are = r.entries_are;
        within = r.within;
        packed = packed_none start is.ranges ∙ is.packed;
        last_is = omega (arith, is.last_is, length_more is.ranges None);
      }

  pub named_next : (range : SubchunkRange) → ((shard : List ℕ) → named_part shard start end entry ≡ Some (range_part shard (Some range))) → IsRangeWithin end (Some range) → entry ≡ range_entry (Some range)
      → range.start ≡ last → NamesPacked (n + 1) start end index range.end
  named_next range here inside again at =
      let r = read_more n start end index entry is.ranges (Some range) (read_of n start end index last is) same here inside again in
      let ordered : range.start ≤ range.end = inside.0 in
      record {
        ranges = is.ranges ++ Some range ∷ [];
        parts = r.each;
        entries_are = r.entries_are;
        within = r.within;
        packed = packed_push start end is.ranges range is.within is.packed (at ∙ is.last_is);
        last_is = omega (arith, at, is.last_is, length_more is.ranges (Some range));
      }

-- two slices side by side
slices_join : (l : List ℕ) (a b c : ℕ) → a ≤ b → b ≤ c → slice_range l a b ++ slice_range l b c ≡ slice_range l a c
slices_join l a b c first second =
    let start : a + (b - a) ≡ b = omega arith in
    let width : b - a + (c - b) ≡ c - a = omega arith in
    ap (λ x. take (b - a) (drop a l) ++ take (c - b) x) (ap (λ x. drop x l) (sym start) ∙ sym (drop-drop (b - a) a l))
    ∙ sym (take-add (b - a) (c - b) (drop a l))
    ∙ ap (λ w. take w (drop a l)) width

record IsTight (b : List ℕ) (o : ℕ) (ranges : List (Option SubchunkRange)) : Type 0 where
  pub data_is : data_bytes (map (range_part b) ranges) ≡ slice_range b o (o + sum_by range_len ranges)
  pub index_is : flat_map (λ e. e) (entries o (map (range_part b) ranges)) ≡ flat_map range_entry ranges

tight : (b : List ℕ) (o : ℕ) (ranges : List (Option SubchunkRange)) → All (IsRangeWithin (length b)) ranges → are_packed o ranges ≡ true → IsTight b o ranges
tight b o [] within packed =
    let none : o + 0 - o ≡ 0 = omega arith in
    record { data_is = ap (λ w. take w (drop o b)) (sym none); index_is = refl }
tight b o (None ∷ ranges) within packed =
    let rest = tight b o ranges (All-tail (IsRangeWithin (length b)) None ranges within) packed in
    let sum : sum_by range_len (None ∷ ranges) ≡ sum_by range_len ranges = omega (arith, sum_by-cons range_len None ranges) in
    record {
      data_is = rest.data_is ∙ ap (λ n. slice_range b o (o + n)) (sym sum);
      index_is = ap (λ l. entry_bytes absent absent ++ l) rest.index_is;
    }
tight b o (Some r ∷ ranges) within packed =
    let p = and_parts (eqb r.start o) (are_packed r.end ranges) packed in
    let starts : r.start ≡ o = eqb-true r.start o p.0 in
    let own = within 0 None (omega arith) in
    let ordered : r.start ≤ r.end = own.0 in
    let rest = tight b r.end ranges (All-tail (IsRangeWithin (length b)) (Some r) ranges within) p.1 in
    let len : length (slice_range b r.start r.end) ≡ r.end - r.start = length-range b r own in
    let next : o + length (slice_range b r.start r.end) ≡ r.end = omega arith in
    let sum : r.end + sum_by range_len ranges ≡ o + sum_by range_len (Some r ∷ ranges) = omega (arith, sum_by-cons range_len (Some r) ranges) in
    record {
      data_is =
          ap (λ l. slice_range b r.start r.end ++ l) rest.data_is
          ∙ slices_join b r.start r.end (r.end + sum_by range_len ranges) ordered (omega arith)
          ∙ ap (λ n. slice_range b r.start n) sum
          ∙ ap (λ n. slice_range b n (o + sum_by range_len (Some r ∷ ranges))) starts;
      index_is =
          ap (λ n. entry_bytes o (length (slice_range b r.start r.end)) ++ flat_map (λ e. e) (entries n (map (range_part b) ranges))) next
          ∙ ap (λ l. entry_bytes o (length (slice_range b r.start r.end)) ++ l) rest.index_is
          ∙ ap (λ n. entry_bytes o n ++ flat_map range_entry ranges) len
          ∙ ap (λ n. entry_bytes n (r.end - r.start) ++ flat_map range_entry ranges) (sym starts);
    }

module _ (n : ℕ) (b : List ℕ) (ranges : List (Option SubchunkRange)) (within : All (IsRangeWithin (length b)) ranges) (count : length ranges ≡ n) (total : ranges_len ranges ≡ length b) where
  packed_bytes : (at_start : Bool) → index_in at_start n b ≡ flat_map range_entry ranges → are_packed (data_start at_start n) ranges ≡ true → shard_bytes at_start (map (range_part b) ranges) ≡ b
  packed_bytes false index packed =
      let parts = map (range_part b) ranges in
      let t = tight b 0 ranges within packed in
      let end_is : 0 + sum_by range_len ranges - 0 ≡ length b - n * 16 = omega arith in
      ap (λ l. l ++ flat_map (λ e. e) (entries 0 parts)) t.data_is
      ∙ ap (λ l. slice_range b 0 (0 + sum_by range_len ranges) ++ l) (t.index_is ∙ sym index)
      ∙ ap (λ w. take w b ++ drop (length b - n * 16) b) end_is
      ∙ take-append-drop (length b - n * 16) b
  packed_bytes true index packed =
      let parts = map (range_part b) ranges in
      let t = tight b (n * 16) ranges within packed in
      let counted : length parts ≡ n = length-map ranges (range_part b) ∙ count in
      let width : n * 16 + sum_by range_len ranges - n * 16 ≡ length (drop (n * 16) b) = omega (arith, length-drop (n * 16) b) in
      ap (λ k. flat_map (λ e. e) (entries (k * 16) parts) ++ data_bytes parts) counted
      ∙ ap (λ l. l ++ data_bytes parts) (t.index_is ∙ sym index)
      ∙ ap (λ l. take (n * 16) b ++ l) (t.data_is ∙ ap (λ w. take w (drop (n * 16) b)) width ∙ take-length (drop (n * 16) b))
      ∙ take-append-drop (n * 16) b

-- such a shard has no compaction
pub packed_compact : (at_start : Bool) (n : ℕ) (b : List ℕ) (ranges : List (Option SubchunkRange)) → shard_parts at_start n b ≡ Some (map (range_part b) ranges) → All (IsRangeWithin (length b)) ranges
    → index_in at_start n b ≡ flat_map range_entry ranges → ranges_len ranges ≡ length b → are_packed (data_start at_start (length ranges)) ranges ≡ true → compaction at_start n b ≡ Some None
packed_compact at_start n b ranges read within index total packed =
    let parts = map (range_part b) ranges in
    let count : length ranges ≡ n = sym (length-map ranges (range_part b)) ∙ length-shard_parts at_start n b parts read in
    let same = packed_bytes n b ranges within count total at_start index (ap (λ k. are_packed (data_start at_start k) ranges) (sym count) ∙ packed) in
    compaction_from at_start n b b parts read same ∙ ap (λ x. Some (cond x None (Some b))) ((bytes_eq-Decides b b).1 refl)

all_below : (low high : ℕ) (ranges : List (Option SubchunkRange)) → low ≤ high → All (IsRangeWithin low) ranges → All (IsRangeWithin high) ranges
all_below low high ranges le within = λ k d lt. go (get_or ranges k d) (within k d lt)
  where
    go : (o : Option SubchunkRange) → IsRangeWithin low o → IsRangeWithin high o
    go None inside = tt
    go (Some r) inside = (inside.0, (let first : r.end ≤ low = inside.1 in let last : r.end ≤ high = omega arith in last))

-- a shard whose index names ranges without gaps has no compaction
pub named_compact : (at_start : Bool) (n : ℕ) (b : List ℕ) → n * 16 ≤ length b
    → NamesPacked n (data_start at_start n) (data_end at_start n (length b)) (index_in at_start n b) (data_end at_start n (length b)) → compaction at_start n b ≡ Some None
named_compact at_start n b fits is =
    let ranges = is.ranges in
    let end = data_end at_start n (length b) in
    let part = named_part b (data_start at_start n) end in
    let read : shard_parts at_start n b ≡ Some (map (range_part b) ranges) =
    given_if-true (nat_le (n * 16) (length b)) (all_present (map part (pieces 16 n (index_in at_start n b)))) (le-leb (n * 16) (length b) fits) ∙ is.parts b in
    let count : length ranges ≡ n = sym (length-map ranges (range_part b)) ∙ length-shard_parts at_start n b (map (range_part b) ranges) read in
    packed_compact at_start n b ranges read (all_below end (length b) ranges (end_below at_start) is.within)
    (sym (whole at_start) ∙ is.entries_are) (total at_start count is.last_is) (ap (λ k. are_packed (data_start at_start k) ranges) count ∙ is.packed)
  where
    end_below : (front : Bool) → data_end front n (length b) ≤ length b
    end_below true = omega arith
    end_below false = omega arith

    whole : (front : Bool) → take (n * 16) (index_in front n b) ≡ index_in front n b
    whole true = take_all (n * 16) (take (n * 16) b) (omega (arith, length-take-le (n * 16) b fits))
    whole false = take_all (n * 16) (drop (length b - n * 16) b) (omega (arith, length-drop (length b - n * 16) b))

    total : (front : Bool) → length is.ranges ≡ n → data_end front n (length b) ≡ data_start front n + sum_by range_len is.ranges → ranges_len is.ranges ≡ length b
    total true count last = omega arith
    total false count last = omega arith
