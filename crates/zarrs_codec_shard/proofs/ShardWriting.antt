-- A shard that is being written, subchunk by subchunk.
use Rattle.std.proofs.Common.{◌≡◌, ℕ, ◌+◌, ◌*◌, true, false, List, [], ◌∷◌, ◌++◌, length, drop, replicate, ◌≤◌, Option, None, Some, refl, sym, ap, ◌∙◌, arith}
use Rattle.std.specs.List.{flat_map}
use Rattle.std.proofs.lemmas.List.{append_assoc, append-nil, drop_at, length-append, length-replicate}
use Rattle.zarrs_codec_shard.specs.declared.shard_index.ShardWriter.{ShardWriter}
use Rattle.zarrs_codec_shard.specs.Shards.{absent, entry_bytes, entries, data_bytes, data_start, shard_bytes}
use Rattle.zarrs_codec_shard.specs.ShardIndex.{IsWriting, PushesPart}
use Rattle.zarrs_codec_shard.proofs.ShardBytes.{length-joined_entries}

-- the entries of one more subchunk
pub entries_absent : (o : ℕ) (parts : List (Option (List ℕ))) → flat_map (λ e. e) (entries o (parts ++ None ∷ [])) ≡ flat_map (λ e. e) (entries o parts) ++ entry_bytes absent absent
entries_absent o [] = append-nil (entry_bytes absent absent)
entries_absent o (None ∷ parts) = ap (λ l. entry_bytes absent absent ++ l) (entries_absent o parts) ∙ sym (append_assoc (entry_bytes absent absent) (flat_map (λ e. e) (entries o parts)) (entry_bytes absent absent))
entries_absent o (Some b ∷ parts) =
    ap (λ l. entry_bytes o (length b) ++ l) (entries_absent (o + length b) parts)
    ∙ sym (append_assoc (entry_bytes o (length b)) (flat_map (λ e. e) (entries (o + length b) parts)) (entry_bytes absent absent))

pub entries_present : (o : ℕ) (parts : List (Option (List ℕ))) (b : List ℕ) (at : ℕ) → at ≡ o + length (data_bytes parts) → flat_map (λ e. e) (entries o (parts ++ Some b ∷ [])) ≡ flat_map (λ e. e) (entries o parts) ++ entry_bytes at (length b)
entries_present o [] b at is = append-nil (entry_bytes o (length b)) ∙ ap (λ x. entry_bytes x (length b)) (let e : o ≡ at = omega arith in e)
entries_present o (None ∷ parts) b at is =
    ap (λ l. entry_bytes absent absent ++ l) (entries_present o parts b at is)
    ∙ sym (append_assoc (entry_bytes absent absent) (flat_map (λ e. e) (entries o parts)) (entry_bytes at (length b)))
entries_present o (Some a ∷ parts) b at is =
    ap (λ l. entry_bytes o (length a) ++ l) (entries_present (o + length a) parts b at (omega (arith, length-append a (data_bytes parts))))
    ∙ sym (append_assoc (entry_bytes o (length a)) (flat_map (λ e. e) (entries (o + length a) parts)) (entry_bytes at (length b)))

pub data_absent : (parts : List (Option (List ℕ))) → data_bytes (parts ++ None ∷ []) ≡ data_bytes parts
data_absent [] = refl
data_absent (None ∷ parts) = data_absent parts
data_absent (Some b ∷ parts) = ap (λ l. b ++ l) (data_absent parts)

pub data_present : (parts : List (Option (List ℕ))) (b : List ℕ) → data_bytes (parts ++ Some b ∷ []) ≡ data_bytes parts ++ b
data_present [] b = append-nil b
data_present (None ∷ parts) b = data_present parts b
data_present (Some a ∷ parts) b = ap (λ l. a ++ l) (data_present parts b) ∙ sym (append_assoc a (data_bytes parts) b)

pub writing_absent : (old new : ShardWriter) → new.at_start ≡ old.at_start → new.entries.items ≡ old.entries.items ++ entry_bytes absent absent → new.encoded.items ≡ old.encoded.items → PushesPart old new None
writing_absent old new place_is entries_are encoded_is = λ at_start count parts is.
    record {
      place_is = place_is ∙ is.place_is;
      encoded_is = encoded_is ∙ is.encoded_is ∙ ap (λ l. replicate (data_start at_start count) 0 ++ l) (sym (data_absent parts));
      entries_are = entries_are ∙ ap (λ l. l ++ entry_bytes absent absent) is.entries_are ∙ sym (entries_absent (data_start at_start count) parts);
    }

pub writing_present : (old new : ShardWriter) (b : List ℕ) → new.at_start ≡ old.at_start → new.entries.items ≡ old.entries.items ++ entry_bytes (length old.encoded.items) (length b) → new.encoded.items ≡ old.encoded.items ++ b → PushesPart old new (Some b)
writing_present old new b place_is entries_are encoded_is = λ at_start count parts is.
    let o = data_start at_start count in
    let at : length old.encoded.items ≡ o + length (data_bytes parts) =
    ap length is.encoded_is ∙ length-append (replicate o 0) (data_bytes parts) ∙ ap (λ x. x + length (data_bytes parts)) (length-replicate o 0) in
    record {
      place_is = place_is ∙ is.place_is;
      encoded_is = encoded_is ∙ ap (λ l. l ++ b) is.encoded_is ∙ append_assoc (replicate o 0) (data_bytes parts) b ∙ ap (λ l. replicate o 0 ++ l) (sym (data_present parts b));
      entries_are = entries_are ∙ ap (λ l. l ++ entry_bytes (length old.encoded.items) (length b)) is.entries_are
          ∙ sym (entries_present o parts b (length old.encoded.items) at);
    }

-- an index at the start takes the room that was left for it
pub room : (w : ShardWriter) (parts : List (Option (List ℕ))) → IsWriting true (length parts) w parts → (length w.entries.items ≡ length parts * 16) × (length w.entries.items ≤ length w.encoded.items)
room w parts is =
    let n = length parts * 16 in
    let e : length w.entries.items ≡ n = ap length is.entries_are ∙ length-joined_entries n parts in
    let l = ap length is.encoded_is ∙ length-append (replicate n 0) (data_bytes parts) in
    (e, omega (arith, length-replicate {A = ℕ} n 0))

-- what is behind that room
behind_room : (o : ℕ) (body : List ℕ) → drop o (replicate o 0 ++ body) ≡ body
behind_room o body = drop_at (replicate o 0) body o (length-replicate o 0)

-- the whole shard
pub written_at_start : (w : ShardWriter) (parts : List (Option (List ℕ))) → IsWriting true (length parts) w parts → w.entries.items ++ drop (length w.entries.items) w.encoded.items ≡ shard_bytes true parts
written_at_start w parts is =
    let n = length parts * 16 in
    let index = flat_map (λ e. e) (entries n parts) in
    ap (λ l. l ++ drop (length l) w.encoded.items) is.entries_are
    ∙ ap (λ k. index ++ drop k w.encoded.items) (length-joined_entries n parts)
    ∙ ap (λ l. index ++ l) (ap (drop n) is.encoded_is ∙ behind_room n (data_bytes parts))

pub written_at_end : (w : ShardWriter) (parts : List (Option (List ℕ))) → IsWriting false (length parts) w parts → w.encoded.items ++ w.entries.items ≡ shard_bytes false parts
written_at_end w parts is = ap (λ l. l ++ w.entries.items) is.encoded_is ∙ ap (λ l. data_bytes parts ++ l) is.entries_are
