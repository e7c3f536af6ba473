-- The index of a shard, and whether the bytes are one.
use Rattle.std.proofs.Common.{◌≡◌, ℕ, ◌+◌, ◌-◌, ◌*◌, ◌<◌, ◌≤◌, Bool, true, false, cond, ◌||◌, ◌&&◌, List, length, take, drop, Option, None, Some, map, refl, sym, ap, subst, ◌∙◌, arith}
use Rattle.std.specs.Prelude.{is_some, nat_le, nat_lt, slice_range}
use Rattle.std.specs.List.{list_any, range_with_len}
use Rattle.std.proofs.lemmas.Bool.{and_from, le-leb, lt-leb, lt-ltb}
use Rattle.std.proofs.lemmas.List.{length-drop, length-take-le, take_all}
use Rattle.zarrs_codec_shard.specs.Shards.{data_end, data_start, index_in, named_part, shard_parts}
use Rattle.zarrs_codec_shard.specs.Sharded.{cells_of_parts, sharded_fits}
use Rattle.zarrs_codec_shard.specs.Steps.{all_present, given_if}
use Rattle.zarrs_codec_shard.specs.Subchunks.{is_cut_by, subchunk_count}
use Rattle.zarrs_codec_shard.proofs.Missing.{given_if-false, given_if-true}
use Rattle.zarrs_metadata_parts.specs.Extension.{◌>>=◌}
use Rattle.zarrs_subset.specs.Pieces.{piece_at, pieces}
use Rattle.zarrs_codec_chain.specs.Places.{boxes_meet, is_index_place, is_range_place}
use Rattle.zarrs_codec_chain.specs.ShardParts.{IsNoShard}
use Rattle.zarrs_codec_chain.specs.ShardReads.{ShardRead, box_at, count_of, part_places}

-- ---- where the index stands

pub record IsIndexAt (at_start : Bool) (count first last start end : ℕ) (encoded : List ℕ) : Type 0 where
  pub order : first ≤ last
  pub within : last ≤ length encoded
  pub index_is : slice_range encoded first last ≡ index_in at_start count encoded
  pub index_len : length (index_in at_start count encoded) ≡ count * 16
  pub width : first + length (slice_range encoded first last) ≡ last
  pub start_is : start ≡ data_start at_start count
  pub end_is : end ≡ data_end at_start count (length encoded)
  pub places : (x : ℕ) → first ≤ x → x < last → is_index_place at_start count (length encoded) x ≡ true

pub index_at : (at_start : Bool) (count len first last start end : ℕ) (encoded : List ℕ) → length encoded ≡ len → count * 16 ≤ len → first ≡ cond at_start 0 (len - count * 16)
    → last ≡ cond at_start (count * 16) len → start ≡ cond at_start (count * 16) 0 → end ≡ cond at_start len (len - count * 16)
    → IsIndexAt at_start count first last start end encoded
index_at true count len first last start end encoded len_is long first_is last_is start_is end_is =
    let width : last - first ≡ count * 16 = omega arith in
    record {
      order = omega arith;
      within = omega arith;
      index_is = ap (λ n. take n (drop first encoded)) width ∙ ap (λ n. take (count * 16) (drop n encoded)) first_is;
      index_len = length-take-le (count * 16) encoded (omega arith);
      width = omega (arith, length-take-le (last - first) (drop first encoded) (omega (arith, length-drop first encoded)));
      start_is = start_is;
      end_is = end_is ∙ sym len_is;
      places = λ x from to. lt-ltb x (count * 16) (omega arith);
    }
index_at false count len first last start end encoded len_is long first_is last_is start_is end_is =
    let front = length encoded - count * 16 in
    let width_is : length (drop front encoded) ≡ count * 16 = omega (arith, length-drop front encoded) in
    let at : first ≡ front = omega arith in
    let width : last - first ≡ length (drop front encoded) = omega arith in
    record {
      order = omega arith;
      within = omega arith;
      index_is = ap (λ n. take n (drop first encoded)) width ∙ ap (λ n. take (length (drop front encoded)) (drop n encoded)) at ∙ take_all (length (drop front encoded)) (drop front encoded) (omega arith);
      index_len = width_is;
      width = omega (arith, length-take-le (last - first) (drop first encoded) (omega (arith, length-drop first encoded)));
      start_is = start_is;
      end_is = (let same : end ≡ front = omega arith in same);
      places = λ x from to. le-leb front x (omega arith);
    }

-- the same of a number that is theirs
pub placed : (at_start : Bool) (count n len first last start end : ℕ) (encoded : List ℕ) → n ≡ count → length encoded ≡ len → n * 16 ≤ len → first ≡ cond at_start 0 (len - n * 16)
    → last ≡ cond at_start (n * 16) len → start ≡ cond at_start (n * 16) 0 → end ≡ cond at_start len (len - n * 16)
    → IsIndexAt at_start count first last start end encoded
placed at_start count n len first last start end encoded n_is len_is long first_is last_is start_is end_is =
    subst (λ x. IsIndexAt at_start x first last start end encoded) n_is (index_at at_start n len first last start end encoded len_is long first_is last_is start_is end_is)

pub length-index_in : (at_start : Bool) (count : ℕ) (encoded : List ℕ) → count * 16 ≤ length encoded → length (index_in at_start count encoded) ≡ count * 16
length-index_in true count encoded long = length-take-le (count * 16) encoded long
length-index_in false count encoded long = omega (arith, length-drop (length encoded - count * 16) encoded)

-- the part needs its places
pub index_needed : (r : ShardRead) (x : ℕ) → x < length r.encoded → is_index_place r.at_start (count_of r) (length r.encoded) x ≡ true → part_places r x ≡ true
index_needed r x below here =
    let any = list_any (λ j. boxes_meet r.part (box_at r j) && is_range_place (piece_at 16 (index_in r.at_start (count_of r) r.encoded) j) x) (range_with_len 0 (count_of r)) in
    and_from (nat_lt x (length r.encoded)) (is_index_place r.at_start (count_of r) (length r.encoded) x || any) (lt-ltb x (length r.encoded) below) (ap (λ b. b || any) here)

-- ---- bytes that are no shard

none_given : {A : Type 0} (b : Bool) → given_if b (let none : Option A = None in none) ≡ None
none_given true = refl
none_given false = refl

-- its index names no parts
pub no_parts : (at_start : Bool) (s sub encoded : List ℕ) → shard_parts at_start (subchunk_count s sub) encoded ≡ None → IsNoShard at_start s sub encoded
no_parts at_start s sub encoded none m k fill =
    ap (λ o. given_if (sharded_fits m s sub) (o >>= cells_of_parts m k fill s sub)) none ∙ none_given (sharded_fits m s sub)

-- it is too long
pub no_room : (at_start : Bool) (s sub encoded : List ℕ) → length encoded < subchunk_count s sub * 16 → IsNoShard at_start s sub encoded
no_room at_start s sub encoded short =
    let count = subchunk_count s sub in
    no_parts at_start s sub encoded (given_if-false (nat_le (count * 16) (length encoded)) _ (lt-leb (count * 16) (length encoded) short))

-- the chunk is not cut
pub no_cut : (at_start : Bool) (s sub encoded : List ℕ) → is_cut_by s sub ≡ false → IsNoShard at_start s sub encoded
no_cut at_start s sub encoded not m k fill =
    given_if-false (sharded_fits m s sub) (shard_parts at_start (subchunk_count s sub) encoded >>= cells_of_parts m k fill s sub) (ap (λ b. b && m.fits) not)

-- ---- whether each entry was tested

is_none : {A : Type 0} (o : Option A) → is_some o ≡ false → o ≡ None
is_none None none = refl
is_none (Some x) none = cc

pub tested_parts : (at_start : Bool) (count : ℕ) (encoded index : List ℕ) (start end : ℕ) (found : Bool) → count * 16 ≤ length encoded → index ≡ index_in at_start count encoded
    → start ≡ data_start at_start count → end ≡ data_end at_start count (length encoded)
    → found ≡ is_some (all_present (map (named_part encoded start end) (pieces 16 count index))) → is_some (shard_parts at_start count encoded) ≡ found
tested_parts at_start count encoded index start end found long index_is start_is end_is test =
    ap is_some
    (given_if-true (nat_le (count * 16) (length encoded))
    (all_present (map (named_part encoded (data_start at_start count) (data_end at_start count (length encoded))) (pieces 16 count (index_in at_start count encoded))))
    (le-leb (count * 16) (length encoded) long))
    ∙ ap (λ l. is_some (all_present (map (named_part encoded (data_start at_start count) (data_end at_start count (length encoded))) (pieces 16 count l)))) (sym index_is)
    ∙ ap (λ x. is_some (all_present (map (named_part encoded x (data_end at_start count (length encoded))) (pieces 16 count index)))) (sym start_is)
    ∙ ap (λ x. is_some (all_present (map (named_part encoded start x) (pieces 16 count index)))) (sym end_is)
    ∙ sym test

-- of an index that was read
pub tested_index : (at_start : Bool) (count n first last start end : ℕ) (encoded index : List ℕ) (found : Bool) → IsIndexAt at_start count first last start end encoded → n ≡ count → index ≡ slice_range encoded first last
    → found ≡ is_some (all_present (map (named_part encoded start end) (pieces 16 n index))) → is_some (shard_parts at_start count encoded) ≡ found
tested_index at_start count n first last start end encoded index found at n_is index_is test =
    let long : count * 16 ≤ length encoded = omega (arith, at.within, at.width, ap length at.index_is, at.index_len) in
    tested_parts at_start count encoded index start end found long (index_is ∙ at.index_is) at.start_is at.end_is
    (test ∙ ap (λ x. is_some (all_present (map (named_part encoded start end) (pieces 16 x index)))) n_is)

pub no_entries : (at_start : Bool) (s sub encoded : List ℕ) → is_some (shard_parts at_start (subchunk_count s sub) encoded) ≡ false → IsNoShard at_start s sub encoded
no_entries at_start s sub encoded none = no_parts at_start s sub encoded (is_none (shard_parts at_start (subchunk_count s sub) encoded) none)
