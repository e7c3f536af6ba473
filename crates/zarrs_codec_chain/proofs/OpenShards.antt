-- A shard whose index was tested.
use Rattle.std.proofs.Common.{Bool, true, false, Option, None, Some, ◌+◌, ◌-◌, ◌<◌, ◌≤◌, ◌^◌, ◌≡◌, ◌∙◌, List, ℕ, ap, sym, drop, take, length, arith}
use Rattle.std.specs.Prelude.{slice_index_or, slice_range}
use Rattle.std.proofs.lemmas.List.{drop-drop, drop-take, take-take}
use Rattle.zarrs_codec_leaf.specs.declared.source.ByteSource.{Ghosts as SourceMeaning}
use Rattle.zarrs_codec_leaf.specs.Sources.{bytes_in}
use Rattle.zarrs_codec_shard.specs.declared.shard_index.SubchunkRange.{SubchunkRange}
use Rattle.zarrs_codec_shard.specs.ShardIndex.{IsRangeWithin}
use Rattle.zarrs_codec_shard.specs.Shards.{data_end, index_in, named_part}
use Rattle.zarrs_subset.specs.Boxes.{unravel}
use Rattle.zarrs_subset.specs.Pieces.{piece_at}
use Rattle.zarrs_subset.proofs.Positions.{place-unravel, unravel_in}
use Rattle.zarrs_codec_shard.specs.Subchunks.{quotients}
use Rattle.zarrs_codec_chain.specs.OpenShards.{read_of}
use Rattle.zarrs_codec_chain.specs.ShardReads.{IsAt, IsOpen, ShardRead, count_of, parts_of}
use Rattle.zarrs_codec_chain.specs.Stored.{bytes_of}
use Rattle.zarrs_codec_chain.specs.declared.shard_part.ShardPart.{ShardPart}
use Rattle.zarrs_codec_chain.specs.declared.stored.Stored.{Stored}
use Rattle.zarrs_codec_chain.proofs.BytesParts.{window_len}
use Rattle.zarrs_codec_chain.proofs.ReadSteps.{count_fits, part_named, some_is_there}

-- the window of a range of a window
pub sub_window : (offset len start end : ℕ) (source : List ℕ) → start ≤ end → end ≤ len → take (end - start) (drop (offset + start) source) ≡ slice_range (take len (drop offset source)) start end
sub_window offset len start end source order inside =
    let xs = drop offset source in
    let split : len ≡ start + (len - start) = omega arith in
    ap (take (end - start)) (sym (drop-drop start offset source))
    ∙ sym
    (ap (λ n. take (end - start) (drop start (take n xs))) split
    ∙ ap (take (end - start)) (drop-take start (len - start) xs)
    ∙ take-take (end - start) (len - start) (drop start xs) (omega arith))

pub data_within : (at_start : Bool) (count len : ℕ) → data_end at_start count len ≤ len
data_within true count len = omega arith
data_within false count len = omega arith

pub range_wider : (end len : ℕ) (r : Option SubchunkRange) → end ≤ len → IsRangeWithin end r → IsRangeWithin len r
range_wider end len None le within = within
range_wider end len (Some r) le within = (within.0, (let last : r.end ≤ end = within.1 in let wide : r.end ≤ len = omega arith in wide))

-- the indices of a number
pub at_number : (r : ShardRead) (n : ℕ) → n < count_of r → IsAt r (unravel (quotients r.shape r.sub) n) n
at_number r n lt = record { in_grid = unravel_in (quotients r.shape r.sub) n lt; at_n = place-unravel (quotients r.shape r.sub) n lt; below = lt }

module _ {B : Type 0} {b : SourceMeaning B} where
  pub opened : (read : ShardPart B b) → IsOpen (read_of read)
  opened read = record { cut = read.subchunks.cut; long = read.part.now.same_length; lies = read.lies; parts = some_is_there _ read.tested }

  pub length-bytes_of : (stored : Stored B b) → length (bytes_of stored) ≡ stored.window.len
  length-bytes_of stored = window_len stored.window (b.bytes stored.source.now) stored.within

  pub few_bytes : (stored : Stored B b) → length (bytes_of stored) < 2 ^ 64
  few_bytes stored = omega (arith, length-bytes_of stored, stored.within, stored.counted)

  -- how many subchunks a shard in memory has
  pub few_subchunks : (read : ShardPart B b) → count_of (read_of read) < 2 ^ 64
  few_subchunks read = omega (arith, count_fits (read_of read) (opened read), few_bytes read.stored)

  -- what the entry of a subchunk names is its part
  pub named_here : (read : ShardPart B b) (n : ℕ) (slice : List ℕ) (o : Option (Option (List ℕ))) → slice ≡ bytes_in read.index → n < count_of (read_of read)
      → named_part (bytes_of read.stored) read.start read.end (piece_at 16 slice n) ≡ o → o ≡ Some (slice_index_or (parts_of (read_of read)) n None)
  named_here read n slice o slice_is lt named =
      let enc = bytes_of read.stored in
      part_named (read_of read) n o (opened read) lt
      (ap (λ e. named_part enc e (data_end read.at_start (count_of (read_of read)) (length enc)) (piece_at 16 (index_in read.at_start (count_of (read_of read)) enc) n)) (sym read.start_is)
      ∙ ap (λ e. named_part enc read.start e (piece_at 16 (index_in read.at_start (count_of (read_of read)) enc) n)) (sym read.end_is)
      ∙ ap (λ l. named_part enc read.start read.end (piece_at 16 l n)) (sym (slice_is ∙ read.index_is))
      ∙ named)
