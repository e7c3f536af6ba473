-- The parts of a chunk's cells, one after another.
use Rattle.std.proofs.Common.{◌≡◌, ℕ, ◌+◌, ◌*◌, ◌<◌, ◌≤◌, ◌^◌, Bool, true, false, List, [], ◌∷◌, ◌++◌, length, map, Option, None, Some, refl, ap, ◌∙◌, arith}
use Rattle.std.specs.Prelude.{nat_lt}
use Rattle.std.specs.List.{range_with_len}
use Rattle.std.proofs.lemmas.Bool.{le-ltb}
use Rattle.std.proofs.lemmas.List.{length-append}
use Rattle.std.proofs.lemmas.List.FromFn.{length-map-range_with_len, get_or-map-range_with_len, map-range_with_len_more}
use Rattle.zarrs_data_type.specs.Cell.{Cell}
use Rattle.zarrs_codec_shard.specs.Sharded.{SubchunkMeaning, part_of, first_parts, parts_of, sharded_fits, sharded_encoded}
use Rattle.zarrs_codec_shard.specs.Shards.{data_bytes, index_bytes, shard_bytes, written_shard}
use Rattle.zarrs_metadata_parts.specs.Extension.{◌>>=◌}
use Rattle.zarrs_codec_shard.specs.Steps.{given_if, all_present}
use Rattle.zarrs_codec_shard.specs.Subchunks.{subchunk_count, subchunk_at}
use Rattle.zarrs_codec_shard.proofs.Missing.{given_if-false, all_present-more, all_present-none, length-all_present}
use Rattle.zarrs_codec_shard.proofs.ShardBytes.{length-joined_entries}

-- a shard is at least as long as its index
length-shard_bytes : (at_start : Bool) (parts : List (Option (List ℕ))) → length parts * 16 ≤ length (shard_bytes at_start parts)
length-shard_bytes true parts = omega (arith, length-append (index_bytes true parts) (data_bytes parts), length-joined_entries (length parts * 16) parts)
length-shard_bytes false parts = omega (arith, length-append (data_bytes parts) (index_bytes false parts), length-joined_entries 0 parts)

module _ (m : SubchunkMeaning) (empty : Bool) (f : Cell) (s sub : List ℕ) (cs : List Cell) where
  pub next_part : (n : ℕ) (parts : List (Option (List ℕ))) (part : Option (List ℕ)) → first_parts m empty f s sub cs n ≡ Some parts → part_of m empty f (subchunk_at s sub cs n) ≡ Some part
      → first_parts m empty f s sub cs (n + 1) ≡ Some (parts ++ part ∷ [])
  next_part n parts part is here =
      let T = λ (j : ℕ). part_of m empty f (subchunk_at s sub cs j) in
      ap all_present (map-range_with_len_more T 0 n n (omega arith)) ∙ all_present-more (map T (range_with_len 0 n)) parts (T n) part is here

  pub no_part : (n j : ℕ) → j < n → part_of m empty f (subchunk_at s sub cs j) ≡ None → first_parts m empty f s sub cs n ≡ None
  no_part n j lt is =
      let T = λ (j : ℕ). part_of m empty f (subchunk_at s sub cs j) in
      all_present-none (map T (range_with_len 0 n)) j None (omega (arith, length-map-range_with_len T 0 n))
      (get_or-map-range_with_len T 0 n j j None lt (omega arith) ∙ is)

  -- a chunk of so many subchunks that its index is too long
  pub too_many : (at_start : Bool) → 2 ^ 64 ≤ subchunk_count s sub * 16 → sharded_encoded m at_start empty f s sub cs ≡ None
  too_many at_start large = ap (given_if (sharded_fits m s sub)) (go (parts_of m empty f s sub cs) refl) ∙ still (sharded_fits m s sub)
    where
      go : (o : Option (List (Option (List ℕ)))) → parts_of m empty f s sub cs ≡ o → (o >>= written_shard at_start) ≡ None
      go None is = refl
      go (Some parts) is =
          let T = λ (j : ℕ). part_of m empty f (subchunk_at s sub cs j) in
          let n = subchunk_count s sub in
          let count : length parts ≡ n = length-all_present (map T (range_with_len 0 n)) parts is ∙ length-map-range_with_len T 0 n in
          let long = length-shard_bytes at_start parts in
          given_if-false (nat_lt (length (shard_bytes at_start parts)) (2 ^ 64)) _ (le-ltb (length (shard_bytes at_start parts)) (2 ^ 64) (omega arith))

      still : (b : Bool) → given_if {A = List ℕ} b None ≡ None
      still true = refl
      still false = refl
