-- The index of a shard, read entry by entry.
use Rattle.std.proofs.Common.{◌≡◌, ℕ, zero, suc, ◌+◌, ◌-◌, ◌*◌, ◌<◌, inl, inr, List, [], ◌∷◌, ◌++◌, length, map, take, drop, get_or, Option, None, Some, true, refl, sym, ap, ◌∙◌, arith}
use Rattle.std.specs.Prelude.{slice_range, All, is_some}
use Rattle.std.proofs.lemmas.List.Elements.{All-append}
use Rattle.std.specs.List.{flat_map}
use Rattle.std.specs.Int.{w64, to_le_bytes, from_le_bytes}
use Rattle.std.proofs.Math.Seq.{take-add}
use Rattle.std.proofs.lemmas.Bool.{cases_lt}
use Rattle.std.proofs.lemmas.Grind.{flat_map-append}
use Rattle.std.proofs.lemmas.Nat.{le_bytes_8}
use Rattle.std.proofs.lemmas.List.{append-nil, map-append, get_or-map, get_or-take, get_or-drop, get_or_past, length-drop, length-map, length-take, length-take-le, take-append-drop}
use Rattle.std.proofs.lemmas.List.FromFn.{get_or-map-range_with_len}
use Rattle.zarrs_subset.specs.Pieces.{pieces}
use Rattle.zarrs_data_type_bytes.proofs.Pieces.{pieces_more, length-pieces}
use Rattle.zarrs_codec_shard.specs.Steps.{all_present}
use Rattle.zarrs_codec_shard.proofs.Missing.{all_present-more, all_present-none}
use Rattle.zarrs_codec_shard.specs.declared.shard_index.SubchunkRange.{SubchunkRange}
use Rattle.zarrs_codec_shard.specs.Shards.{entry_bytes, named_part}
use Rattle.zarrs_codec_shard.specs.ShardIndex.{range_entry, range_part, IsRangeWithin}

-- the ranges of the first n entries
pub record IsRead (n start end : ℕ) (index : List ℕ) (ranges : List (Option SubchunkRange)) : Type 0 where
  pub each : (shard : List ℕ) → all_present (map (named_part shard start end) (pieces 16 n index)) ≡ Some (map (range_part shard) ranges)
  pub within : All (IsRangeWithin end) ranges
  pub entries_are : take (n * 16) index ≡ flat_map range_entry ranges

-- an entry is that of what was read of it
byte_front : (n : ℕ) (l : List ℕ) → ((i : ℕ) → get_or l i 0 < 256) → (i : ℕ) → get_or (take n l) i 0 < 256
byte_front n l small i =
    elim (cases_lt i n) [
      | inl lt ↦ omega (arith, get_or-take n l i 0 lt, small i)
      | inr le ↦ omega (arith, get_or_past (take n l) i 0 (omega (arith, length-take n l)))
    ]

pub entry_again : (entry : List ℕ) (o l : ℕ) → length entry ≡ 16 → ((i : ℕ) → get_or entry i 0 < 256) → o ≡ from_le_bytes w64 (take 8 entry) → l ≡ from_le_bytes w64 (drop 8 entry) → entry ≡ entry_bytes o l
entry_again entry o l len small o_is l_is =
    let first : to_le_bytes w64 o ≡ take 8 entry = le_bytes_8 (take 8 entry) o (length-take-le 8 entry (omega arith)) (byte_front 8 entry small) o_is in
    let second : to_le_bytes w64 l ≡ drop 8 entry =
    le_bytes_8 (drop 8 entry) l (omega (arith, length-drop 8 entry)) (λ i. omega (arith, get_or-drop 8 entry i 0, small (8 + i))) l_is in
    sym (take-append-drop 8 entry) ∙ ap (λ x. x ++ drop 8 entry) (sym first) ∙ ap (λ x. to_le_bytes w64 o ++ x) (sym second)

pub read_none : (start end : ℕ) (index : List ℕ) → IsRead 0 start end index []
read_none start end index = record { each = λ shard. refl; within = λ k d lt. absurd (omega arith); entries_are = refl }

all_one : (end : ℕ) (range : Option SubchunkRange) → IsRangeWithin end range → (k : ℕ) (d : Option SubchunkRange) → k < 1 → IsRangeWithin end (get_or (range ∷ []) k d)
all_one end range inside zero d lt = inside
all_one end range inside (suc k) d lt = absurd (omega arith)

pub read_more : (n start end : ℕ) (index entry : List ℕ) (ranges : List (Option SubchunkRange)) (range : Option SubchunkRange) → IsRead n start end index ranges
    → entry ≡ slice_range index (n * 16) (n * 16 + 16) → ((shard : List ℕ) → named_part shard start end entry ≡ Some (range_part shard range)) → IsRangeWithin end range → entry ≡ range_entry range
    → IsRead (n + 1) start end index (ranges ++ range ∷ [])
read_more n start end index entry ranges range is same here inside again = record {
  each = λ shard.
      let read = named_part shard start end in
      let e = slice_range index (n * 16) (n * 16 + 16) in
      ap (λ l. all_present (map read l)) (pieces_more 16 n index)
      ∙ ap all_present (map-append read (pieces 16 n index) (e ∷ []))
      ∙ all_present-more (map read (pieces 16 n index)) (map (range_part shard) ranges) (read e) (range_part shard range) (is.each shard) (ap read (sym same) ∙ here shard)
      ∙ ap Some (sym (map-append (range_part shard) ranges (range ∷ [])));
  within = All-append (IsRangeWithin end) ranges (range ∷ []) is.within (λ k d lt. all_one end range inside k d lt);
  entries_are =
      let next : (n + 1) * 16 ≡ n * 16 + 16 = omega arith in
      let width : n * 16 + 16 - n * 16 ≡ 16 = omega arith in
      let piece : take 16 (drop (n * 16) index) ≡ range_entry range = ap (λ w. take w (drop (n * 16) index)) (sym width) ∙ sym same ∙ again in
      ap (λ w. take w index) next
      ∙ take-add (n * 16) 16 index
      ∙ ap (λ l. l ++ take 16 (drop (n * 16) index)) is.entries_are
      ∙ ap (λ l. flat_map range_entry ranges ++ l) (piece ∙ sym (append-nil (range_entry range)))
      ∙ sym (flat_map-append range_entry ranges (range ∷ []));
}

-- an entry that names no range
pub read_none_at : (n k start end : ℕ) (shard index entry : List ℕ) → k < n → entry ≡ slice_range index (k * 16) (k * 16 + 16) → named_part shard start end entry ≡ None
    → all_present (map (named_part shard start end) (pieces 16 n index)) ≡ None
read_none_at n k start end shard index entry lt same missing =
    let read = named_part shard start end in
    let len = length-pieces 16 n index in
    all_present-none (map read (pieces 16 n index)) k None (omega (arith, length-map (pieces 16 n index) read))
    (get_or-map read (pieces 16 n index) k [] None (omega arith)
    ∙ ap read (get_or-map-range_with_len (λ j. slice_range index (j * 16) (j * 16 + 16)) 0 n k k [] lt (omega arith) ∙ sym same)
    ∙ missing)

-- one more entry that names a range, or is that of an absent subchunk
pub named_more : (n start end : ℕ) (shard index : List ℕ) (o : Option (Option (List ℕ))) → named_part shard start end (slice_range index (n * 16) (n * 16 + 16)) ≡ o → is_some o ≡ true
    → is_some (all_present (map (named_part shard start end) (pieces 16 n index))) ≡ true → is_some (all_present (map (named_part shard start end) (pieces 16 (n + 1) index))) ≡ true
named_more n start end shard index None here some before = cc
named_more n start end shard index (Some part) here some before = go (all_present (map read (pieces 16 n index))) refl before
  where
    read : List ℕ → Option (Option (List ℕ))
    read entry = named_part shard start end entry

    go : (all : Option (List (Option (List ℕ)))) → all_present (map read (pieces 16 n index)) ≡ all → is_some all ≡ true → is_some (all_present (map read (pieces 16 (n + 1) index))) ≡ true
    go None is some = cc
    go (Some parts) is some =
        let e = slice_range index (n * 16) (n * 16 + 16) in
        ap (λ l. is_some (all_present (map read l))) (pieces_more 16 n index)
        ∙ ap (λ l. is_some (all_present l)) (map-append read (pieces 16 n index) (e ∷ []))
        ∙ ap is_some (all_present-more (map read (pieces 16 n index)) parts (read e) part is here)
