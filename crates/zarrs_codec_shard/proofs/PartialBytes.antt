-- The bytes of a shard some of whose subchunks have others, read again.
use Rattle.std.proofs.Common.{◌≡◌, ℕ, zero, suc, ◌+◌, ◌-◌, ◌*◌, ◌<◌, ◌≤◌, ◌^◌, Bool, true, false, cond, eqb, ◌&&◌, List, [], ◌∷◌, ◌++◌, length, map, take, drop, replicate, get_or, Option, None, Some, refl, sym, ap, ◌∙◌, arith}
use Rattle.std.specs.Prelude.{slice_range, nat_le, unwrap_or}
use Rattle.std.specs.List.{flat_map}
use Rattle.std.specs.Int.{w64, from_le_bytes}
use Rattle.std.proofs.lemmas.Bool.{le-leb, leb-true, and_parts, and_from}
use Rattle.std.proofs.lemmas.List.{length-append, append_assoc, append-nil, take_at, drop_all, length-drop, length-take-le, length-replicate, take-append-drop, map-id}
use Rattle.std.proofs.Math.Seq.{drop-append_seam}
use Rattle.zarrs_subset.specs.Pieces.{pieces}
use Rattle.zarrs_data_type_bytes.proofs.Pieces.{length-flat_map_same, length-piece, length-pieces, pieces-flat_map}
use Rattle.zarrs_data_type_bytes.proofs.ByteStrings.{slice_range-front}
use Rattle.zarrs_codec_shard.specs.PartialShards.{written_over, stored_parts, stored_entries, stored_end, changed_parts, changed_entries, changed_bytes, changed_text}
use Rattle.zarrs_codec_shard.specs.Shards.{absent, entry_bytes, named_part, shard_parts}
use Rattle.zarrs_codec_shard.specs.Steps.{given_if, all_present}
use Rattle.zarrs_codec_shard.proofs.Missing.{given_if-parts, given_if-true, all_present-cons, all_present-parts}
use Rattle.zarrs_codec_shard.proofs.ShardBytes.{length-entry_bytes, entry_absent, entry_present}
use Rattle.zarrs_data_type_bytes.proofs.FixedSizes.{some_is}

-- ---- an entry that stays

-- two shards have the same bytes before an offset
pub record HasSameFront (base : ℕ) (old new : List ℕ) : Type 0 where
  pub same : (o l : ℕ) → o + l ≤ base → slice_range new o (o + l) ≡ slice_range old o (o + l)

read_wider : {A : Type 0} (x y z : Bool) (s t : A) (p : Option A) → cond x (Some None) (given_if y (Some (Some s))) ≡ Some p → (y ≡ true → (z ≡ true) × (t ≡ s))
    → cond x (Some None) (given_if z (Some (Some t))) ≡ Some p
read_wider true y z s t p is more = is
read_wider false true z s t p is more =
    let m = more refl in given_if-true z (Some (Some t)) m.0 ∙ ap (λ u. Some (Some u)) m.1 ∙ is
read_wider false false z s t p is more = cc

kept_entry : (old new e : List ℕ) (base end : ℕ) (p : Option (List ℕ)) → base ≤ end → HasSameFront base old new → named_part old 0 base e ≡ Some p → named_part new 0 end e ≡ Some p
kept_entry old new e base end p wider front is =
    let o = from_le_bytes w64 (take 8 e) in
    let l = from_le_bytes w64 (drop 8 e) in
    read_wider (eqb o absent && eqb l absent) (nat_le 0 o && nat_le (o + l) base) (nat_le 0 o && nat_le (o + l) end) (slice_range old o (o + l)) (slice_range new o (o + l)) p is
    (λ t.
    let q = and_parts (nat_le 0 o) (nat_le (o + l) base) t in
    let le : o + l ≤ base = leb-true (o + l) base q.1 in
    (and_from (nat_le 0 o) (nat_le (o + l) end) q.0 (le-leb (o + l) end (omega arith)), front.same o l le))

-- ---- entry by entry

slice_at : (front b rest : List ℕ) → slice_range (front ++ (b ++ rest)) (length front) (length front + length b) ≡ b
slice_at front b rest =
    let width : length front + length b - length front ≡ length b = omega arith in
    ap (λ k. take k (drop (length front) (front ++ (b ++ rest)))) width
    ∙ ap (take (length b)) (drop-append_seam front (b ++ rest))
    ∙ take_at b rest (length b) refl

entries_read : (old shard : List ℕ) (base end : ℕ) (entries : List (List ℕ)) (parts : List (Option (List ℕ))) (changes : List (Option (Option (List ℕ)))) (front rest : List ℕ)
    → HasSameFront base old shard → base ≤ end → end < 2 ^ 64 → shard ≡ front ++ (changed_bytes changes ++ rest) → length front + length (changed_bytes changes) ≤ end
    → length changes ≡ length entries → all_present (map (named_part old 0 base) entries) ≡ Some parts
    → all_present (map (named_part shard 0 end) (changed_entries (length front) entries changes)) ≡ Some (changed_parts parts changes)
entries_read old shard base end [] parts changes front rest same wider small is within len made = ap (λ ps. Some (changed_parts ps changes)) (some_is made)
entries_read old shard base end (e ∷ entries) parts [] front rest same wider small is within len made = absurd (omega arith)
entries_read old shard base end (e ∷ entries) parts (None ∷ changes) front rest same wider small is within len made =
    let p = all_present-parts (named_part old 0 base e) (map (named_part old 0 base) entries) parts made in
    let read = named_part shard 0 end in
    all_present-cons (read e) (map read (changed_entries (length front) entries changes)) p.head (changed_parts p.tail changes)
    (kept_entry old shard e base end p.head wider same p.head_is)
    (entries_read old shard base end entries p.tail changes front rest same wider small is within (omega arith) p.tail_is)
    ∙ ap (λ ps. Some (changed_parts ps (None ∷ changes))) (sym p.whole)
entries_read old shard base end (e ∷ entries) parts (Some None ∷ changes) front rest same wider small is within len made =
    let p = all_present-parts (named_part old 0 base e) (map (named_part old 0 base) entries) parts made in
    let read = named_part shard 0 end in
    all_present-cons (read (entry_bytes absent absent)) (map read (changed_entries (length front) entries changes)) None (changed_parts p.tail changes)
    (entry_absent shard 0 end)
    (entries_read old shard base end entries p.tail changes front rest same wider small is within (omega arith) p.tail_is)
    ∙ ap (λ ps. Some (changed_parts ps (Some None ∷ changes))) (sym p.whole)
entries_read old shard base end (e ∷ entries) parts (Some (Some b) ∷ changes) front rest same wider small is within len made =
    let p = all_present-parts (named_part old 0 base e) (map (named_part old 0 base) entries) parts made in
    let read = named_part shard 0 end in
    let o = length front in
    let more = changed_bytes changes in
    let n = length-append b more in
    let m = length-append front b in
    let joined : shard ≡ front ++ (b ++ (more ++ rest)) = is ∙ ap (λ x. front ++ x) (append_assoc b more rest) in
    let here : slice_range shard o (o + length b) ≡ b = ap (λ s. slice_range s o (o + length b)) joined ∙ slice_at front b (more ++ rest) in
    let others : all_present (map read (changed_entries (o + length b) entries changes)) ≡ Some (changed_parts p.tail changes) =
    ap (λ k. all_present (map read (changed_entries k entries changes))) (sym m)
    ∙ entries_read old shard base end entries p.tail changes (front ++ b) rest same wider small (joined ∙ sym (append_assoc front b (more ++ rest))) (omega arith) (omega arith) p.tail_is in
    all_present-cons (read (entry_bytes o (length b))) (map read (changed_entries (o + length b) entries changes)) (Some b) (changed_parts p.tail changes)
    (entry_present shard 0 end o (length b) (omega arith) (omega arith) small ∙ ap (λ x. Some (Some x)) here) others
    ∙ ap (λ ps. Some (changed_parts ps (Some (Some b) ∷ changes))) (sym p.whole)

-- ---- the index

changed_length : (o : ℕ) (entries : List (List ℕ)) (changes : List (Option (Option (List ℕ)))) → length (changed_entries o entries changes) ≡ length entries
changed_length o [] changes = refl
changed_length o (e ∷ entries) [] = refl
changed_length o (e ∷ entries) (None ∷ changes) = ap suc (changed_length o entries changes)
changed_length o (e ∷ entries) (Some None ∷ changes) = ap suc (changed_length o entries changes)
changed_length o (e ∷ entries) (Some (Some b) ∷ changes) = ap suc (changed_length (o + length b) entries changes)

-- each entry has the length of one
pub record AreEntries (entries : List (List ℕ)) : Type 0 where
  pub each : (k : ℕ) (d : List ℕ) → k < length entries → length (get_or entries k d) ≡ 16

rest_entries : (e : List ℕ) (entries : List (List ℕ)) → AreEntries (e ∷ entries) → AreEntries entries
rest_entries e entries are = record { each = λ k d lt. are.each (suc k) d (omega arith) }

changed_each : (o : ℕ) (entries : List (List ℕ)) (changes : List (Option (Option (List ℕ)))) → AreEntries entries
    → (k : ℕ) (d : List ℕ) → k < length (changed_entries o entries changes) → length (get_or (changed_entries o entries changes) k d) ≡ 16
changed_each o [] changes are k d lt = absurd (omega arith)
changed_each o (e ∷ entries) [] are k d lt = are.each k d lt
changed_each o (e ∷ entries) (None ∷ changes) are zero d lt = are.each 0 d (omega arith)
changed_each o (e ∷ entries) (None ∷ changes) are (suc k) d lt = changed_each o entries changes (rest_entries e entries are) k d (omega arith)
changed_each o (e ∷ entries) (Some None ∷ changes) are zero d lt = length-entry_bytes absent absent
changed_each o (e ∷ entries) (Some None ∷ changes) are (suc k) d lt = changed_each o entries changes (rest_entries e entries are) k d (omega arith)
changed_each o (e ∷ entries) (Some (Some b) ∷ changes) are zero d lt = length-entry_bytes o (length b)
changed_each o (e ∷ entries) (Some (Some b) ∷ changes) are (suc k) d lt = changed_each (o + length b) entries changes (rest_entries e entries are) k d (omega arith)

pub length-changed_index : (o : ℕ) (entries : List (List ℕ)) (changes : List (Option (Option (List ℕ)))) → AreEntries entries → length (flat_map (λ e. e) (changed_entries o entries changes)) ≡ length entries * 16
length-changed_index o entries changes are =
    length-flat_map_same (λ e. e) 16 (changed_entries o entries changes) (changed_each o entries changes are) ∙ ap (λ n. n * 16) (changed_length o entries changes)

index_again : (o n : ℕ) (entries : List (List ℕ)) (changes : List (Option (Option (List ℕ)))) → AreEntries entries → length entries ≡ n → pieces 16 n (flat_map (λ e. e) (changed_entries o entries changes)) ≡ changed_entries o entries changes
index_again o n entries changes are len =
    ap (λ m. pieces 16 m (flat_map (λ e. e) (changed_entries o entries changes))) (sym (changed_length o entries changes ∙ len))
    ∙ pieces-flat_map (λ e. e) 16 (changed_entries o entries changes) (changed_each o entries changes are)
    ∙ map-id (changed_entries o entries changes)

-- ---- the whole

-- the bytes `old`, of which those before `base` are data, with these entries for these parts
pub record IsStored (count base : ℕ) (old : List ℕ) (entries : List (List ℕ)) (parts : List (Option (List ℕ))) : Type 0 where
  pub within : base ≤ length old
  pub behind : length old ≤ base + count * 16
  pub entry_count : length entries ≡ count
  pub are : AreEntries entries
  pub read : all_present (map (named_part old 0 base) entries) ≡ Some parts

pub over_is : (value : List ℕ) (offset : ℕ) (bytes : List ℕ) → offset ≤ length value → length value ≤ offset + length bytes → written_over value offset bytes ≡ take offset value ++ bytes
over_is value offset bytes within behind =
    let gap : offset - length value ≡ 0 = omega arith in
    ap (λ n. ((take offset value ++ replicate n 0) ++ bytes) ++ drop (offset + length bytes) value) gap
    ∙ ap (λ l. ((take offset value ++ []) ++ bytes) ++ l) (drop_all (offset + length bytes) value behind)
    ∙ append-nil ((take offset value ++ []) ++ bytes)
    ∙ ap (λ l. l ++ bytes) (append-nil (take offset value))

pub read_changed : (count base : ℕ) (old : List ℕ) (entries : List (List ℕ)) (parts : List (Option (List ℕ))) (changes : List (Option (Option (List ℕ)))) → IsStored count base old entries parts → length changes ≡ count
    → base + length (changed_bytes changes ++ flat_map (λ e. e) (changed_entries base entries changes)) < 2 ^ 64
    → shard_parts false count (written_over old base (changed_bytes changes ++ flat_map (λ e. e) (changed_entries base entries changes))) ≡ Some (changed_parts parts changes)
read_changed count base old entries parts changes is len small =
    let body = changed_bytes changes in
    let index = flat_map (λ e. e) (changed_entries base entries changes) in
    let front = take base old in
    let shard = written_over old base (body ++ index) in
    let index_len : length index ≡ count * 16 = length-changed_index base entries changes is.are ∙ ap (λ n. n * 16) is.entry_count in
    let text_len = length-append body index in
    let front_len : length front ≡ base = length-take-le base old is.within in
    let joined : shard ≡ front ++ (body ++ index) = over_is old base (body ++ index) is.within (let b = is.behind in omega arith) in
    let total : length shard ≡ base + (length body + count * 16) = ap length joined ∙ length-append front (body ++ index) ∙ (let e : length front + length (body ++ index) ≡ base + (length body + count * 16) = omega arith in e) in
    let end_is : length shard - count * 16 ≡ base + length body = omega arith in
    let apart : shard ≡ (front ++ body) ++ index = joined ∙ sym (append_assoc front body index) in
    let at : length (front ++ body) ≡ base + length body = length-append front body ∙ ap (λ n. n + length body) front_len in
    let cut : pieces 16 count (drop (base + length body) shard) ≡ changed_entries base entries changes =
    ap (λ s. pieces 16 count (drop (base + length body) s)) apart
    ∙ ap (λ n. pieces 16 count (drop n ((front ++ body) ++ index))) (sym at)
    ∙ ap (pieces 16 count) (drop-append_seam (front ++ body) index)
    ∙ index_again base count entries changes is.are is.entry_count in
    let same : HasSameFront base old shard = record {
      same = λ o l le.
          let here : o + l ≤ length front = omega arith in
          ap (λ s. slice_range s o (o + l)) joined ∙ slice_range-front front (body ++ index) o (o + l) (omega arith) here
          ∙ sym (slice_range-front front (drop base old) o (o + l) (omega arith) here)
          ∙ ap (λ s. slice_range s o (o + l)) (take-append-drop base old);
    } in
    given_if-true (nat_le (count * 16) (length shard)) _ (le-leb (count * 16) (length shard) (omega arith))
    ∙ ap (λ end. all_present (map (named_part shard 0 end) (pieces 16 count (drop end shard)))) end_is
    ∙ ap (λ l. all_present (map (named_part shard 0 (base + length body)) l)) cut
    ∙ ap (λ n. all_present (map (named_part shard 0 (base + length body)) (changed_entries n entries changes))) (sym front_len)
    ∙ entries_read old shard base (base + length body) entries parts changes front index same (omega arith) (omega arith) joined (omega arith) (len ∙ sym is.entry_count) is.read

-- ---- what is stored

none_read : (count base : ℕ) (shard : List ℕ) → all_present (map (named_part shard 0 base) (replicate count (entry_bytes absent absent))) ≡ Some (replicate count None)
none_read zero base shard = refl
none_read (suc count) base shard =
    all_present-cons (named_part shard 0 base (entry_bytes absent absent)) (map (named_part shard 0 base) (replicate count (entry_bytes absent absent))) None (replicate count None)
    (entry_absent shard 0 base) (none_read count base shard)

none_each : (count k : ℕ) (d : List ℕ) → k < length (replicate count (entry_bytes absent absent)) → length (get_or (replicate count (entry_bytes absent absent)) k d) ≡ 16
none_each zero k d lt = absurd (omega arith)
none_each (suc count) zero d lt = length-entry_bytes absent absent
none_each (suc count) (suc k) d lt = none_each count k d (omega arith)

pub is_stored : (count : ℕ) (stored : Option (List ℕ)) (parts : List (Option (List ℕ))) → stored_parts count stored ≡ Some parts
    → IsStored count (stored_end count stored) (unwrap_or stored []) (stored_entries count stored) parts
is_stored count None parts made = record {
  within = omega arith;
  behind = omega arith;
  entry_count = length-replicate count (entry_bytes absent absent);
  are = record { each = none_each count };
  read = none_read count 0 [] ∙ made;
}
is_stored count (Some shard) parts made =
    let p = given_if-parts (nat_le (count * 16) (length shard)) _ parts made in
    let le : count * 16 ≤ length shard = leb-true (count * 16) (length shard) p.0 in
    let end = length shard - count * 16 in
    let index = drop end shard in
    let index_len : length index ≡ count * 16 = length-drop end shard ∙ (let e : length shard - end ≡ count * 16 = omega arith in e) in
    let n = length-pieces 16 count index in
    record {
      within = omega arith;
      behind = omega arith;
      entry_count = n;
      are = record { each = λ k d lt. length-piece 16 count index index_len k d (omega arith) };
      read = p.1;
    }

-- the parts of what is written
pub written_parts : (count : ℕ) (stored : Option (List ℕ)) (parts : List (Option (List ℕ))) (changes : List (Option (Option (List ℕ)))) → stored_parts count stored ≡ Some parts → length changes ≡ count
    → stored_end count stored + length (changed_text count stored changes) < 2 ^ 64
    → shard_parts false count (written_over (unwrap_or stored []) (stored_end count stored) (changed_text count stored changes)) ≡ Some (changed_parts parts changes)
written_parts count stored parts changes made len small =
    read_changed count (stored_end count stored) (unwrap_or stored []) (stored_entries count stored) parts changes (is_stored count stored parts made) len small
