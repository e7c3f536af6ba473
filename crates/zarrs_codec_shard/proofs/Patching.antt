-- A shard some of whose subchunks get other bytes, subchunk by subchunk.
use Rattle.std.proofs.Common.{◌≡◌, ℕ, zero, suc, ◌+◌, ◌-◌, ◌*◌, ◌<◌, ◌≤◌, ◌^◌, Bool, true, false, not, cond, ◌&&◌, ◌||◌, List, [], ◌∷◌, ◌++◌, length, map, take, drop, replicate, get_or, Option, None, Some, IsSome, refl, sym, ap, subst, ◌∙◌, arith}
use Rattle.std.specs.Prelude.{slice_range, nat_le, is_some, unwrap_or, nat_lt}
use Rattle.std.specs.List.{flat_map, repeat}
use Rattle.std.proofs.lemmas.Bool.{leb-true, lt-ltb, false≢true}
use Rattle.std.proofs.lemmas.List.{length-append, append_assoc, append-nil, drop-drop, length-drop, length-replicate, length-take-le, map-id}
use Rattle.std.proofs.lemmas.List.FromFn.{get_or-map-range_with_len}
use Rattle.std.proofs.Math.Seq.{drop-cons, take-add, take-length}
use Rattle.zarrs_subset.specs.Pieces.{pieces}
use Rattle.zarrs_data_type_bytes.proofs.Pieces.{joined_all, length-flat_map_same, pieces-flat_map, repeat_same}
use Rattle.zarrs_codec_shard.specs.PartialShards.{put, erase, all_absent, changed_bytes, changed_entries, changed_parts, changed_text, stored_end, stored_entries, stored_parts, write_of}
use Rattle.zarrs_codec_shard.specs.ShardIndex.{range_part}
use Rattle.zarrs_codec_shard.specs.ShardPatches.{IsPatching, KeepsParts, PushesChange}
use Rattle.zarrs_codec_shard.specs.declared.shard_index.SubchunkRange.{SubchunkRange}
use Rattle.zarrs_codec_shard.specs.Shards.{absent, entry_bytes}
use Rattle.zarrs_codec_shard.specs.Steps.{given_if}
use Rattle.zarrs_codec_shard.specs.declared.patch.ShardPatch.{ShardPatch}
use Rattle.zarrs_codec_shard.proofs.Missing.{given_if-parts, given_if-true}
use Rattle.zarrs_codec_shard.proofs.ShardLaws.{length-shard_parts}
use Rattle.zarrs_codec_shard.proofs.PartialBytes.{AreEntries, is_stored, length-changed_index}
use Rattle.zarrs_data_type_bytes.proofs.FixedSizes.{some_is}

-- ---- one more subchunk

-- the entry of the next subchunk
abbrev pub next_entry : (o : ℕ) (entries : List (List ℕ)) (changes : List (Option (Option (List ℕ)))) → Option (Option (List ℕ)) → List ℕ
next_entry o entries changes None = get_or entries (length changes) []
next_entry o entries changes (Some None) = entry_bytes absent absent
next_entry o entries changes (Some (Some b)) = entry_bytes (o + length (changed_bytes changes)) (length b)

-- the new index of the first subchunks
abbrev pub first_index : (o : ℕ) (entries : List (List ℕ)) (changes : List (Option (Option (List ℕ)))) → List ℕ
first_index o entries changes = flat_map (λ e. e) (changed_entries o (take (length changes) entries) changes)

first_next : (o : ℕ) (e : List ℕ) (entries : List (List ℕ)) (c : Option (Option (List ℕ))) → first_index o (e ∷ entries) (c ∷ []) ≡ next_entry o (e ∷ entries) [] c
first_next o e entries None = append-nil e
first_next o e entries (Some None) = append-nil (entry_bytes absent absent)
first_next o e entries (Some (Some b)) =
    append-nil (entry_bytes o (length b)) ∙ ap (λ n. entry_bytes n (length b)) (let same : o ≡ o + 0 = omega arith in same)

pub index_more : (o : ℕ) (entries : List (List ℕ)) (changes : List (Option (Option (List ℕ)))) (c : Option (Option (List ℕ))) → length changes < length entries
    → first_index o entries (changes ++ c ∷ []) ≡ first_index o entries changes ++ next_entry o entries changes c
index_more o [] changes c lt = absurd (omega arith)
index_more o (e ∷ entries) [] c lt = first_next o e entries c
index_more o (e ∷ entries) (None ∷ changes) c lt =
    ap (λ l. e ++ l) (index_more o entries changes c (omega arith) ∙ ap (λ l. first_index o entries changes ++ l) (go c))
    ∙ sym (append_assoc e (first_index o entries changes) (next_entry o (e ∷ entries) (None ∷ changes) c))
  where
    go : (d : Option (Option (List ℕ))) → next_entry o entries changes d ≡ next_entry o (e ∷ entries) (None ∷ changes) d
    go None = refl
    go (Some None) = refl
    go (Some (Some b)) = refl
index_more o (e ∷ entries) (Some None ∷ changes) c lt =
    ap (λ l. entry_bytes absent absent ++ l) (index_more o entries changes c (omega arith) ∙ ap (λ l. first_index o entries changes ++ l) (go c))
    ∙ sym (append_assoc (entry_bytes absent absent) (first_index o entries changes) (next_entry o (e ∷ entries) (Some None ∷ changes) c))
  where
    go : (d : Option (Option (List ℕ))) → next_entry o entries changes d ≡ next_entry o (e ∷ entries) (Some None ∷ changes) d
    go None = refl
    go (Some None) = refl
    go (Some (Some b)) = refl
index_more o (e ∷ entries) (Some (Some x) ∷ changes) c lt =
    let p = o + length x in
    ap (λ l. entry_bytes o (length x) ++ l) (index_more p entries changes c (omega arith) ∙ ap (λ l. first_index p entries changes ++ l) (go c))
    ∙ sym (append_assoc (entry_bytes o (length x)) (first_index p entries changes) (next_entry o (e ∷ entries) (Some (Some x) ∷ changes) c))
  where
    go : (d : Option (Option (List ℕ))) → next_entry (o + length x) entries changes d ≡ next_entry o (e ∷ entries) (Some (Some x) ∷ changes) d
    go None = refl
    go (Some None) = refl
    go (Some (Some b)) = ap (λ n. entry_bytes n (length b)) (omega (arith, length-append x (changed_bytes changes)))

pub bytes_more : (changes : List (Option (Option (List ℕ)))) (c : Option (Option (List ℕ))) → changed_bytes (changes ++ c ∷ []) ≡ changed_bytes changes ++ unwrap_or (unwrap_or c None) []
bytes_more [] c = append-nil (unwrap_or (unwrap_or c None) [])
bytes_more (d ∷ changes) c =
    ap (λ l. unwrap_or (unwrap_or d None) [] ++ l) (bytes_more changes c)
    ∙ sym (append_assoc (unwrap_or (unwrap_or d None) []) (changed_bytes changes) (unwrap_or (unwrap_or c None) []))

-- whether some part of the first subchunks is present
abbrev pub any_present : (parts : List (Option (List ℕ))) (changes : List (Option (Option (List ℕ)))) → Bool
any_present parts changes = not (all_absent (changed_parts (take (length changes) parts) changes))

pub or_false : (b : Bool) → b ≡ (b || false)
or_false true = refl
or_false false = refl

pub or_true : (b : Bool) → true ≡ (b || true)
or_true true = refl
or_true false = refl

or_assoc : (a b c : Bool) → not (not a && not (b || c)) ≡ (not (not a && not b)) || c
or_assoc true b c = refl
or_assoc false true c = refl
or_assoc false false true = refl
or_assoc false false false = refl

pub any_more : (parts : List (Option (List ℕ))) (changes : List (Option (Option (List ℕ)))) (c : Option (Option (List ℕ))) → length changes < length parts
    → any_present parts (changes ++ c ∷ []) ≡ (any_present parts changes || is_some (unwrap_or c (get_or parts (length changes) None)))
any_more [] changes c lt = absurd (omega arith)
any_more (p ∷ parts) [] c lt = go c
  where
    one : (o : Option (List ℕ)) → not (all_absent (o ∷ [])) ≡ (false || is_some o)
    one None = refl
    one (Some b) = refl

    go : (d : Option (Option (List ℕ))) → any_present (p ∷ parts) (d ∷ []) ≡ (false || is_some (unwrap_or d p))
    go None = one p
    go (Some q) = one q
any_more (p ∷ parts) (d ∷ changes) c lt = go d (any_more parts changes c (omega arith))
  where
    step : (o : Option (List ℕ)) (xs ys : List (Option (List ℕ))) (b : Bool) → not (all_absent xs) ≡ (not (all_absent ys) || b) → not (all_absent (o ∷ xs)) ≡ (not (all_absent (o ∷ ys)) || b)
    step None xs ys b same = same
    step (Some x) xs ys b same = refl

    go : (e : Option (Option (List ℕ))) → any_present parts (changes ++ c ∷ []) ≡ (any_present parts changes || is_some (unwrap_or c (get_or parts (length changes) None)))
        → any_present (p ∷ parts) (e ∷ (changes ++ c ∷ [])) ≡ (any_present (p ∷ parts) (e ∷ changes) || is_some (unwrap_or c (get_or parts (length changes) None)))
    go None same = step p (changed_parts (take (length (changes ++ c ∷ [])) parts) (changes ++ c ∷ [])) (changed_parts (take (length changes) parts) changes) _ same
    go (Some q) same = step q (changed_parts (take (length (changes ++ c ∷ [])) parts) (changes ++ c ∷ [])) (changed_parts (take (length changes) parts) changes) _ same

-- ---- the patch

taken_entries : (n : ℕ) (entries : List (List ℕ)) → AreEntries entries → AreEntries (take n entries)
taken_entries zero entries are = record { each = λ k d lt. absurd (omega arith) }
taken_entries (suc n) [] are = are
taken_entries (suc n) (e ∷ entries) are =
    let rest = taken_entries n entries (record { each = λ k d lt. are.each (suc k) d (omega arith) }) in
    record { each = go rest }
  where
    go : AreEntries (take n entries) → (k : ℕ) (d : List ℕ) → k < length (e ∷ take n entries) → length (get_or (e ∷ take n entries) k d) ≡ 16
    go rest zero d lt = are.each 0 d (omega arith)
    go rest (suc k) d lt = rest.each k d (omega arith)

-- an entry of an index
pub entry_of : (entries : List (List ℕ)) (k : ℕ) → AreEntries entries → k < length entries → get_or entries k [] ≡ slice_range (flat_map (λ e. e) entries) (k * 16) (k * 16 + 16)
entry_of entries k are lt =
    let whole = flat_map (λ e. e) entries in
    let again : pieces 16 (length entries) whole ≡ entries = pieces-flat_map (λ e. e) 16 entries are.each ∙ map-id entries in
    ap (λ l. get_or l k []) (sym again)
    ∙ get_or-map-range_with_len (λ j. slice_range whole (j * 16) (j * 16 + 16)) 0 (length entries) k k [] lt (omega arith)

-- how long the index is so far
pub index_length : (count : ℕ) (stored : Option (List ℕ)) (parts : List (Option (List ℕ))) (patch : ShardPatch) (changes : List (Option (Option (List ℕ)))) → stored_parts count stored ≡ Some parts → length changes ≤ count
    → IsPatching count stored parts patch changes → (length patch.entries.items ≡ length changes * 16) × (length patch.index.items ≡ count * 16)
index_length count stored parts patch changes made le is =
    let s = is_stored count stored parts made in
    let entries = stored_entries count stored in
    let n = length changes in
    let long : length (take n entries) ≡ n = length-take-le n entries (let e = s.entry_count in omega arith) in (
      ap length is.entries_are ∙ length-changed_index (stored_end count stored) (take n entries) changes (taken_entries n entries s.are) ∙ ap (λ m. m * 16) long,
      ap length is.index_is ∙ length-flat_map_same (λ e. e) 16 entries s.are.each ∙ ap (λ m. m * 16) s.entry_count,
    )

parts_long : (count : ℕ) (stored : Option (List ℕ)) (parts : List (Option (List ℕ))) → stored_parts count stored ≡ Some parts → length parts ≡ count
parts_long count None parts made = ap length (sym (some_is made)) ∙ length-replicate {A = Option (List ℕ)} count None
parts_long count (Some shard) parts made = length-shard_parts false count shard parts made

-- one more subchunk is pushed, whose entry and bytes are these
pub pushed : (old new : ShardPatch) (part : Option (List ℕ)) → new.base ≡ old.base → new.index ≡ old.index → new.encoded.items ≡ old.encoded.items ++ unwrap_or part []
    → ((count : ℕ) (stored : Option (List ℕ)) (parts : List (Option (List ℕ))) (changes : List (Option (Option (List ℕ)))) → stored_parts count stored ≡ Some parts → length changes < count → IsPatching count stored parts old changes
    → new.entries.items ≡ old.entries.items ++ next_entry (stored_end count stored) (stored_entries count stored) changes (Some part))
    → new.any ≡ (old.any || is_some part) → PushesChange old new part
pushed old new part base_same index_same encoded entry any = λ count stored parts changes made lt is.
    let s = is_stored count stored parts made in
    let entries = stored_entries count stored in
    let o = stored_end count stored in
    let below : length changes < length entries = (let e = s.entry_count in omega arith) in
    record {
      base_is = base_same ∙ is.base_is;
      index_is = ap (λ v. v.items) index_same ∙ is.index_is;
      encoded_is = encoded ∙ ap (λ l. l ++ unwrap_or part []) is.encoded_is ∙ sym (bytes_more changes (Some part));
      entries_are = entry count stored parts changes made lt is ∙ ap (λ l. l ++ next_entry o entries changes (Some part)) is.entries_are ∙ sym (index_more o entries changes (Some part) below);
      any_is = any ∙ ap (λ b. b || is_some part) is.any_is ∙ sym (any_more parts changes (Some part) (omega (arith, parts_long count stored parts made)));
    }

-- ---- subchunks that are kept

slice_join : (w : List ℕ) (a m n : ℕ) → slice_range w a (a + m) ++ slice_range w (a + m) (a + m + n) ≡ slice_range w a (a + (m + n))
slice_join w a m n =
    let d = drop a w in
    let front : a + m - a ≡ m = omega arith in
    let back : a + m + n - (a + m) ≡ n = omega arith in
    let both : m + n ≡ a + (m + n) - a = omega arith in
    ap (λ i. take i d ++ slice_range w (a + m) (a + m + n)) front
    ∙ ap (λ i. take m d ++ take i (drop (a + m) w)) back
    ∙ ap (λ l. take m d ++ take n l) (sym (drop-drop m a w))
    ∙ sym (take-add m n d)
    ∙ ap (λ i. take i d) both

index_kept : (o : ℕ) (entries : List (List ℕ)) (changes : List (Option (Option (List ℕ)))) (n : ℕ) → AreEntries entries → length changes + n ≤ length entries
    → first_index o entries (changes ++ replicate n None) ≡ first_index o entries changes ++ slice_range (flat_map (λ e. e) entries) (length changes * 16) (length changes * 16 + n * 16)
index_kept o entries changes zero are le =
    let k = length changes * 16 in
    let none : k + 0 * 16 - k ≡ 0 = omega arith in
    ap (first_index o entries) (append-nil changes)
    ∙ sym (ap (λ i. first_index o entries changes ++ take i (drop k (flat_map (λ e. e) entries))) none ∙ append-nil (first_index o entries changes))
index_kept o entries changes (suc n) are le =
    let w = flat_map (λ e. e) entries in
    let more = changes ++ None ∷ [] in
    let k = length changes in
    let long : length more ≡ k + 1 = length-append changes (None ∷ []) in
    let next : length more * 16 ≡ k * 16 + 16 = omega (arith, long) in
    let whole : 16 + n * 16 ≡ suc n * 16 = omega arith in
    ap (first_index o entries) (sym (append_assoc changes (None ∷ []) (replicate n None)))
    ∙ index_kept o entries more n are (omega (arith, long))
    ∙ ap (λ i. first_index o entries more ++ slice_range w i (i + n * 16)) next
    ∙ ap (λ l. l ++ slice_range w (k * 16 + 16) (k * 16 + 16 + n * 16)) (index_more o entries changes None (omega arith) ∙ ap (λ l. first_index o entries changes ++ l) (entry_of entries k are (omega arith)))
    ∙ append_assoc (first_index o entries changes) (slice_range w (k * 16) (k * 16 + 16)) (slice_range w (k * 16 + 16) (k * 16 + 16 + n * 16))
    ∙ ap (λ l. first_index o entries changes ++ l) (slice_join w (k * 16) 16 (n * 16) ∙ ap (λ i. slice_range w (k * 16) (k * 16 + i)) whole)

bytes_kept : (changes : List (Option (Option (List ℕ)))) (n : ℕ) → changed_bytes (changes ++ replicate n None) ≡ changed_bytes changes
bytes_kept changes zero = ap changed_bytes (append-nil changes)
bytes_kept changes (suc n) =
    ap changed_bytes (sym (append_assoc changes (None ∷ []) (replicate n None))) ∙ bytes_kept (changes ++ None ∷ []) n ∙ bytes_more changes None ∙ append-nil (changed_bytes changes)

or_kept : (a s y : Bool) → ((a || s) || not y) ≡ (a || not (not s && y))
or_kept true s y = refl
or_kept false true y = refl
or_kept false false y = refl

any_kept : (parts : List (Option (List ℕ))) (changes : List (Option (Option (List ℕ)))) (n : ℕ) → length changes + n ≤ length parts
    → any_present parts (changes ++ replicate n None) ≡ (any_present parts changes || not (all_absent (take n (drop (length changes) parts))))
any_kept parts changes zero le = ap (any_present parts) (append-nil changes) ∙ or_false (any_present parts changes)
any_kept parts changes (suc n) le =
    let more = changes ++ None ∷ [] in
    let k = length changes in
    let long : length more ≡ suc k = length-append changes (None ∷ []) ∙ (let e : k + 1 ≡ suc k = omega arith in e) in
    let p = get_or parts k None in
    let rest = take n (drop (suc k) parts) in
    ap (any_present parts) (sym (append_assoc changes (None ∷ []) (replicate n None)))
    ∙ any_kept parts more n (omega (arith, long))
    ∙ ap (λ i. any_present parts more || not (all_absent (take n (drop i parts)))) long
    ∙ ap (λ b. b || not (all_absent rest)) (any_more parts changes None (omega arith))
    ∙ or_kept (any_present parts changes) (is_some p) (all_absent rest)
    ∙ ap (λ l. any_present parts changes || not (all_absent (take (suc n) l))) (sym (drop-cons parts k None (omega arith)))

-- so many more are kept
pub kept : (old new : ShardPatch) (n start end : ℕ) (any : Bool) → new.base ≡ old.base → new.index ≡ old.index → new.encoded ≡ old.encoded → start ≡ length old.entries.items → end ≡ start + n * 16
    → new.entries.items ≡ old.entries.items ++ slice_range old.index.items start end → new.any ≡ (old.any || any) → KeepsParts old new n any
kept old new n start end any base_same index_same encoded_same start_is end_is entries_same any_same = λ count stored parts changes made le any_is is.
    let s = is_stored count stored parts made in
    let entries = stored_entries count stored in
    let o = stored_end count stored in
    let w = flat_map (λ e. e) entries in
    let k = length changes * 16 in
    let at : start ≡ k = start_is ∙ (index_length count stored parts old changes made (omega arith) is).0 in
    record {
      base_is = base_same ∙ is.base_is;
      index_is = ap (λ v. v.items) index_same ∙ is.index_is;
      encoded_is = ap (λ v. v.items) encoded_same ∙ is.encoded_is ∙ sym (bytes_kept changes n);
      entries_are = entries_same
          ∙ ap (λ l. l ++ slice_range old.index.items start end) is.entries_are
          ∙ ap (λ l. first_index o entries changes ++ slice_range l start end) is.index_is
          ∙ ap (λ i. first_index o entries changes ++ slice_range w start i) end_is
          ∙ ap (λ i. first_index o entries changes ++ slice_range w i (i + n * 16)) at
          ∙ sym (index_kept o entries changes n s.are (let e = s.entry_count in omega arith));
      any_is = any_same ∙ ap (λ b. b || any) is.any_is ∙ ap (λ b. any_present parts changes || b) any_is ∙ sym (any_kept parts changes n (omega (arith, parts_long count stored parts made)));
    }

-- ---- the start

joined_repeat : (p : List ℕ) (n : ℕ) → repeat n p ≡ flat_map (λ e. e) (replicate n p)
joined_repeat p zero = refl
joined_repeat p (suc n) = ap (λ l. p ++ l) (joined_repeat p n)

repeated : (n : ℕ) → replicate (n * 16) 255 ≡ flat_map (λ e. e) (replicate n (entry_bytes absent absent))
repeated n = repeat_same 255 (entry_bytes absent absent) n refl ∙ joined_repeat (entry_bytes absent absent) n

pub none_started : (count : ℕ) (parts : List (Option (List ℕ))) (patch : ShardPatch) → patch.base ≡ 0 → patch.index.items ≡ replicate (count * 16) 255 → patch.encoded.items ≡ [] → patch.entries.items ≡ [] → patch.any ≡ false
    → IsPatching count None parts patch []
none_started count parts patch base old encoded entries any = record {
  base_is = base;
  index_is = old ∙ repeated count;
  encoded_is = encoded;
  entries_are = entries;
  any_is = any;
}

pub some_long : (count : ℕ) (shard : List ℕ) → IsSome (stored_parts count (Some shard)) → count * 16 ≤ length shard
some_long count shard is = go (stored_parts count (Some shard)) refl is
  where
    go : (o : Option (List (Option (List ℕ)))) → stored_parts count (Some shard) ≡ o → IsSome o → count * 16 ≤ length shard
    go None made some = let nothing : IsSome {T = List (Option (List ℕ))} None = some in cc
    go (Some parts) made some = leb-true (count * 16) (length shard) (given_if-parts (nat_le (count * 16) (length shard)) _ parts made).0

pub some_started : (count : ℕ) (shard : List ℕ) (parts : List (Option (List ℕ))) (patch : ShardPatch) → count * 16 ≤ length shard → patch.base ≡ length shard - count * 16 → patch.index.items ≡ drop (length shard - count * 16) shard → patch.encoded.items ≡ [] → patch.entries.items ≡ [] → patch.any ≡ false
    → IsPatching count (Some shard) parts patch []
some_started count shard parts patch long base old encoded entries any =
    let end = length shard - count * 16 in
    let index = drop end shard in
    let len : length index ≡ count * 16 = length-drop end shard ∙ (let e : length shard - end ≡ count * 16 = omega arith in e) in
    record {
      base_is = base;
      index_is = old ∙ joined_all 16 count index len;
      encoded_is = encoded;
      entries_are = entries;
      any_is = any;
    }

-- ---- the end

module _ (count : ℕ) (stored : Option (List ℕ)) (parts : List (Option (List ℕ))) (changes : List (Option (Option (List ℕ)))) (patch : ShardPatch)
    (all : length changes ≡ count) (made : stored_parts count stored ≡ Some parts) (is : IsPatching count stored parts patch changes) where
  whole_any : patch.any ≡ not (all_absent (changed_parts parts changes))
  whole_any =
      is.any_is ∙ ap (λ l. not (all_absent (changed_parts l changes))) (ap (λ n. take n parts) (all ∙ sym (parts_long count stored parts made)) ∙ take-length parts)

  whole_text : patch.encoded.items ++ patch.entries.items ≡ changed_text count stored changes
  whole_text =
      let entries = stored_entries count stored in
      let s = is_stored count stored parts made in
      ap (λ l. l ++ patch.entries.items) is.encoded_is
      ∙ ap (λ l. changed_bytes changes ++ l)
      (is.entries_are ∙ ap (λ l. flat_map (λ e. e) (changed_entries (stored_end count stored) l changes)) (ap (λ n. take n entries) (all ∙ sym s.entry_count) ∙ take-length entries))

  not_any : (b : Bool) → not b ≡ false → b ≡ true
  not_any true e = refl
  not_any false e = absurd (false≢true (sym e))

  any_not : (b : Bool) → not b ≡ true → b ≡ false
  any_not true e = absurd (false≢true e)
  any_not false e = refl

  pub finished_none : patch.any ≡ false → write_of count stored parts changes ≡ Some erase
  finished_none none =
      ap (λ b. cond b (Some erase) (given_if (nat_lt (stored_end count stored + length (changed_text count stored changes)) (2 ^ 64)) (Some (put (stored_end count stored) (changed_text count stored changes)))))
      (not_any (all_absent (changed_parts parts changes)) (sym whole_any ∙ none))

  pub finished_some : (text : List ℕ) → patch.any ≡ true → text ≡ patch.encoded.items ++ patch.entries.items → patch.base + length text < 2 ^ 64 → write_of count stored parts changes ≡ Some (put patch.base text)
  finished_some text some same small =
      let whole : text ≡ changed_text count stored changes = same ∙ whole_text in
      let fits : stored_end count stored + length (changed_text count stored changes) < 2 ^ 64 =
      subst (λ t. stored_end count stored + length t < 2 ^ 64) whole (subst (λ b. b + length text < 2 ^ 64) is.base_is small) in
      ap (λ b. cond b (Some erase) (given_if (nat_lt (stored_end count stored + length (changed_text count stored changes)) (2 ^ 64)) (Some (put (stored_end count stored) (changed_text count stored changes)))))
      (any_not (all_absent (changed_parts parts changes)) (sym whole_any ∙ some))
      ∙ given_if-true (nat_lt (stored_end count stored + length (changed_text count stored changes)) (2 ^ 64)) _ (lt-ltb (stored_end count stored + length (changed_text count stored changes)) (2 ^ 64) fits)
      ∙ ap (λ b. Some (put b (changed_text count stored changes))) (sym is.base_is)
      ∙ ap (λ t. Some (put patch.base t)) (sym whole)

-- ---- no shard

pub none_ranges : (shard : List ℕ) (n : ℕ) (ranges : List (Option SubchunkRange)) → ranges ≡ replicate n None → Some (replicate n None) ≡ Some (map (range_part shard) ranges)
none_ranges shard n ranges is = ap Some (go n ∙ ap (map (range_part shard)) (sym is))
  where
    go : (k : ℕ) → replicate k None ≡ map (range_part shard) (replicate k None)
    go zero = refl
    go (suc k) = ap (λ l. None ∷ l) (go k)
