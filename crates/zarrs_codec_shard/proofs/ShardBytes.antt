-- The bytes of a shard, read again.
use Rattle.std.proofs.Common.{◌≡◌, ℕ, zero, suc, ◌+◌, ◌-◌, ◌*◌, ◌<◌, ◌≤◌, ◌^◌, inl, inr, Bool, true, false, cond, eqb, ◌&&◌, List, [], ◌∷◌, ◌++◌, length, map, take, drop, get_or, Option, None, Some, refl, sym, ap, ◌∙◌, arith}
use Rattle.std.specs.Prelude.{slice_range, nat_le, nat_lt}
use Rattle.std.specs.List.{flat_map}
use Rattle.std.specs.Int.{w64, to_le_bytes, from_le_bytes}
use Rattle.std.proofs.lemmas.Bool.{le-leb, and_left, and_right, and_from, cases_eq, ne_eqb, ltb-true}
use Rattle.std.proofs.lemmas.Nat.{from_le_bytes-to_le_bytes_8}
use Rattle.std.proofs.lemmas.List.{length-append, append_assoc, append-nil, take_at, drop_at, map-id}
use Rattle.std.proofs.Math.Seq.{drop-append_seam}
use Rattle.zarrs_subset.specs.Pieces.{pieces}
use Rattle.zarrs_data_type_bytes.proofs.Pieces.{length-flat_map_same, pieces-flat_map}
use Rattle.zarrs_codec_shard.specs.Steps.{given_if, all_present}
use Rattle.zarrs_codec_shard.proofs.Missing.{given_if-true, given_if-parts, all_present-cons}
use Rattle.zarrs_codec_shard.specs.Shards.{absent, entry_bytes, entries, data_bytes, index_bytes, shard_bytes, written_shard, named_part, shard_parts}
use Rattle.zarrs_data_type_bytes.proofs.FixedSizes.{some_is}

length-le8 : (n : ℕ) → length (to_le_bytes w64 n) ≡ 8
length-le8 n = refl

pub length-entry_bytes : (o l : ℕ) → length (entry_bytes o l) ≡ 16
length-entry_bytes o l = refl

-- the numbers of an entry
pub entry_offset : (o l : ℕ) → o < 2 ^ 64 → from_le_bytes w64 (take 8 (entry_bytes o l)) ≡ o
entry_offset o l small = ap (from_le_bytes w64) (take_at (to_le_bytes w64 o) (to_le_bytes w64 l) 8 (length-le8 o)) ∙ from_le_bytes-to_le_bytes_8 o small

pub entry_len : (o l : ℕ) → l < 2 ^ 64 → from_le_bytes w64 (drop 8 (entry_bytes o l)) ≡ l
entry_len o l small = ap (from_le_bytes w64) (drop_at (to_le_bytes w64 o) (to_le_bytes w64 l) 8 (length-le8 o)) ∙ from_le_bytes-to_le_bytes_8 l small

-- both, read
pub entry_read : (shard : List ℕ) (start end o l : ℕ) → o < 2 ^ 64 → l < 2 ^ 64 → named_part shard start end (entry_bytes o l) ≡ cond (eqb o absent && eqb l absent) (Some None) (given_if (nat_le start o && nat_le (o + l) end) (Some (Some (slice_range shard o (o + l)))))
entry_read shard start end o l o_lt l_lt =
    let e = entry_bytes o l in
    ap (λ x. cond (eqb x absent && eqb (from_le_bytes w64 (drop 8 e)) absent) (Some None) (given_if (nat_le start x && nat_le (x + from_le_bytes w64 (drop 8 e)) end) (Some (Some (slice_range shard x (x + from_le_bytes w64 (drop 8 e))))))) (entry_offset o l o_lt)
    ∙ ap (λ x. cond (eqb o absent && eqb x absent) (Some None) (given_if (nat_le start o && nat_le (o + x) end) (Some (Some (slice_range shard o (o + x)))))) (entry_len o l l_lt)

pub entry_absent : (shard : List ℕ) (start end : ℕ) → named_part shard start end (entry_bytes absent absent) ≡ Some None
entry_absent shard start end = entry_read shard start end absent absent (omega arith) (omega arith)

-- an entry whose range ends below 2^64 is that of a present subchunk
pub not_absent : (o l : ℕ) → o + l < 2 ^ 64 → (eqb o absent && eqb l absent) ≡ false
not_absent o l lt =
    elim (cases_eq o absent) [
      | inl is ↦ and_right (eqb o absent) (eqb l absent) (ne_eqb l absent (λ e. omega arith))
      | inr differs ↦ and_left (eqb o absent) (eqb l absent) (ne_eqb o absent differs)
    ]

pub entry_present : (shard : List ℕ) (start end o l : ℕ) → start ≤ o → o + l ≤ end → end < 2 ^ 64 → named_part shard start end (entry_bytes o l) ≡ Some (Some (slice_range shard o (o + l)))
entry_present shard start end o l behind within small =
    entry_read shard start end o l (omega arith) (omega arith)
    ∙ ap (λ b. cond b (Some None) (given_if (nat_le start o && nat_le (o + l) end) (Some (Some (slice_range shard o (o + l)))))) (not_absent o l (omega arith))
    ∙ given_if-true (nat_le start o && nat_le (o + l) end) _ (and_from (nat_le start o) (nat_le (o + l) end) (le-leb start o behind) (le-leb (o + l) end within))

-- the subchunks that an index names
parts_behind : (front : List ℕ) (parts : List (Option (List ℕ))) (rest : List ℕ) (start end : ℕ) → start ≤ length front → length front + length (data_bytes parts) ≤ end → end < 2 ^ 64 → all_present (map (named_part (front ++ (data_bytes parts ++ rest)) start end) (entries (length front) parts)) ≡ Some parts
parts_behind front [] rest start end behind within small = refl
parts_behind front (None ∷ parts) rest start end behind within small =
    let shard = front ++ (data_bytes parts ++ rest) in
    all_present-cons (named_part shard start end (entry_bytes absent absent)) (map (named_part shard start end) (entries (length front) parts)) None parts
    (entry_absent shard start end) (parts_behind front parts rest start end behind within small)
parts_behind front (Some b ∷ parts) rest start end behind within small =
    let p = data_bytes parts in
    let shard = front ++ ((b ++ p) ++ rest) in
    let o = length front in
    let l = length b in
    let n = length-append b p in
    let m = length-append front b in
    let width : o + l - o ≡ l = omega arith in
    let here : slice_range shard o (o + l) ≡ b =
    ap (λ k. take k (drop o shard)) width ∙ ap (take l) (drop-append_seam front ((b ++ p) ++ rest) ∙ append_assoc b p rest) ∙ take_at b (p ++ rest) l refl in
    let same : (front ++ b) ++ (p ++ rest) ≡ shard = append_assoc front b (p ++ rest) ∙ ap (λ x. front ++ x) (sym (append_assoc b p rest)) in
    let others : all_present (map (named_part shard start end) (entries (o + l) parts)) ≡ Some parts =
    ap (λ k. all_present (map (named_part shard start end) (entries k parts))) (sym m)
    ∙ ap (λ s. all_present (map (named_part s start end) (entries (length (front ++ b)) parts))) (sym same)
    ∙ parts_behind (front ++ b) parts rest start end (omega arith) (omega arith) small in
    all_present-cons (named_part shard start end (entry_bytes o l)) (map (named_part shard start end) (entries (o + l) parts)) (Some b) parts
    (entry_present shard start end o l behind (omega arith) small ∙ ap (λ x. Some (Some x)) here) others

length-entries : (o : ℕ) (parts : List (Option (List ℕ))) → length (entries o parts) ≡ length parts
length-entries o [] = refl
length-entries o (None ∷ parts) = ap suc (length-entries o parts)
length-entries o (Some b ∷ parts) = ap suc (length-entries (o + length b) parts)

each_entry : (o : ℕ) (parts : List (Option (List ℕ))) (k : ℕ) (d : List ℕ) → k < length (entries o parts) → length (get_or (entries o parts) k d) ≡ 16
each_entry o [] k d lt = absurd (omega arith)
each_entry o (None ∷ parts) zero d lt = length-entry_bytes absent absent
each_entry o (None ∷ parts) (suc k) d lt = each_entry o parts k d (omega arith)
each_entry o (Some b ∷ parts) zero d lt = length-entry_bytes o (length b)
each_entry o (Some b ∷ parts) (suc k) d lt = each_entry (o + length b) parts k d (omega arith)

pub length-joined_entries : (o : ℕ) (parts : List (Option (List ℕ))) → length (flat_map (λ e. e) (entries o parts)) ≡ length parts * 16
length-joined_entries o parts = length-flat_map_same (λ e. e) 16 (entries o parts) (each_entry o parts) ∙ ap (λ m. m * 16) (length-entries o parts)

cut_again : (o : ℕ) (parts : List (Option (List ℕ))) → pieces 16 (length parts) (flat_map (λ e. e) (entries o parts)) ≡ entries o parts
cut_again o parts =
    ap (λ m. pieces 16 m (flat_map (λ e. e) (entries o parts))) (sym (length-entries o parts))
    ∙ pieces-flat_map (λ e. e) 16 (entries o parts) (each_entry o parts) ∙ map-id (entries o parts)

-- a shard's subchunks are those that were written
pub shard_parts-shard_bytes : (at_start : Bool) (parts : List (Option (List ℕ))) → length (shard_bytes at_start parts) < 2 ^ 64 → shard_parts at_start (length parts) (shard_bytes at_start parts) ≡ Some parts
shard_parts-shard_bytes false parts small =
    let body = data_bytes parts in
    let index = index_bytes false parts in
    let shard = body ++ index in
    let n = length parts in
    let index_len : length index ≡ n * 16 = length-joined_entries 0 parts in
    let total = length-append body index in
    let end_is : length shard - n * 16 ≡ length body = omega arith in
    let cut : pieces 16 n (drop (length body) shard) ≡ entries 0 parts =
    ap (pieces 16 n) (drop-append_seam body index) ∙ cut_again 0 parts in
    given_if-true (nat_le (n * 16) (length shard)) _ (le-leb (n * 16) (length shard) (omega arith))
    ∙ ap (λ end. all_present (map (named_part shard 0 end) (pieces 16 n (drop end shard)))) end_is
    ∙ ap (λ l. all_present (map (named_part shard 0 (length body)) l)) cut
    ∙ parts_behind [] parts index 0 (length body) (omega arith) (omega arith) (omega arith)
shard_parts-shard_bytes true parts small =
    let body = data_bytes parts in
    let n = length parts in
    let index = index_bytes true parts in
    let shard = index ++ body in
    let index_len : length index ≡ n * 16 = length-joined_entries (n * 16) parts in
    let total = length-append index body in
    let cut : pieces 16 n (take (n * 16) shard) ≡ entries (n * 16) parts =
    ap (pieces 16 n) (take_at index body (n * 16) index_len) ∙ cut_again (n * 16) parts in
    let whole : shard ≡ index ++ (body ++ []) = ap (λ x. index ++ x) (sym (append-nil body)) in
    given_if-true (nat_le (n * 16) (length shard)) _ (le-leb (n * 16) (length shard) (omega arith))
    ∙ ap (λ l. all_present (map (named_part shard (n * 16) (length shard)) l)) cut
    ∙ ap (λ l. all_present (map (named_part shard (n * 16) (length shard)) (entries l parts))) (sym index_len)
    ∙ ap (λ x. all_present (map (named_part x (n * 16) (length shard)) (entries (length index) parts))) whole
    ∙ parts_behind index parts [] (n * 16) (length shard) (omega arith) (omega arith) (omega arith)

pub written_again : (at_start : Bool) (parts : List (Option (List ℕ))) (n : ℕ) (b : List ℕ) → length parts ≡ n → written_shard at_start parts ≡ Some b → (shard_bytes at_start parts ≡ b) × (shard_parts at_start n b ≡ Some parts)
written_again at_start parts n b count made =
    let w = given_if-parts (nat_lt (length (shard_bytes at_start parts)) (2 ^ 64)) (Some (shard_bytes at_start parts)) b made in
    let e = some_is w.1 in
    (e, ap (λ x. shard_parts at_start n x) (sym e) ∙ ap (λ k. shard_parts at_start k (shard_bytes at_start parts)) (sym count) ∙ shard_parts-shard_bytes at_start parts (ltb-true (length (shard_bytes at_start parts)) (2 ^ 64) w.0))
