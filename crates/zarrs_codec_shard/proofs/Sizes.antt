-- Sizes of subchunks and of their chunk.
use Rattle.std.proofs.Common.{◌≡◌, ℕ, ◌*◌, ◌/◌, ◌%◌, ◌<◌, ◌≤◌, ◌^◌, Bool, true, eqb, ◌&&◌, List, [], ◌∷◌, Option, None, Some, refl, ap, ◌∙◌, arith}
use Rattle.std.specs.Prelude.{nat_lt, unwrap_or}
use Rattle.std.specs.List.{list_any}
use Rattle.std.proofs.lemmas.Bool.{eqb-true, and_parts, false≢true}
use Rattle.std.proofs.Math.Nat.{div-add-mod', mul-le-mul_right}
use Rattle.zarrs_subset.specs.Boxes.{position_count}
use Rattle.zarrs_codec_shard.specs.Sharded.{part_leaves_out, sharded_leaves_out}
use Rattle.zarrs_codec_shard.specs.Shards.{shard_parts}
use Rattle.zarrs_codec_shard.specs.Subchunks.{is_cut_by, subchunk_count}
use Rattle.zarrs_codec_shard.proofs.ShardLaws.{length-shard_parts}

-- a chunk has the positions of its subchunks
pub count_cut : (s sub : List ℕ) → is_cut_by s sub ≡ true → position_count s ≡ subchunk_count s sub * position_count sub
count_cut [] [] cut = refl
count_cut [] (c ∷ sub) cut = absurd (false≢true cut)
count_cut (n ∷ s) [] cut = absurd (false≢true cut)
count_cut (n ∷ s) (c ∷ sub) cut =
    let outer = and_parts (nat_lt 0 c && eqb (n % c) 0) (is_cut_by s sub) cut in
    let whole : n % c ≡ 0 = eqb-true (n % c) 0 (and_parts (nat_lt 0 c) (eqb (n % c) 0) outer.0).1 in
    let n_is : n ≡ n / c * c = omega (arith, div-add-mod' n c) in
    ap (λ x. x * position_count s) n_is
    ∙ ap (λ x. n / c * c * x) (count_cut s sub outer.1)
    ∙ swap (n / c) c (subchunk_count s sub) (position_count sub)
  where
    swap : (a b c d : ℕ) → a * b * (c * d) ≡ a * c * (b * d)
    swap a b c d = omega arith

-- so of a chunk that has a subchunk, this has not more positions
pub part_fewer : (s sub : List ℕ) (number : ℕ) → is_cut_by s sub ≡ true → number < subchunk_count s sub → position_count sub ≤ position_count s
part_fewer s sub number cut lt =
    let e = count_cut s sub cut in
    let le = mul-le-mul_right {m = 1} {n = subchunk_count s sub} (position_count sub) (omega arith) in
    omega arith

-- and takes no more memory
pub part_size : (s sub : List ℕ) (number size : ℕ) → is_cut_by s sub ≡ true → number < subchunk_count s sub → position_count s * size < 2 ^ 64 → position_count sub * size < 2 ^ 64
part_size s sub number size cut lt small =
    omega (arith, small, mul-le-mul_right {m = position_count sub} {n = position_count s} size (part_fewer s sub number cut lt))

pub part_large : (s sub : List ℕ) (number size : ℕ) → is_cut_by s sub ≡ true → number < subchunk_count s sub → 2 ^ 64 ≤ position_count sub * size → 2 ^ 64 ≤ position_count s * size
part_large s sub number size cut lt large =
    omega (arith, large, mul-le-mul_right {m = position_count sub} {n = position_count s} size (part_fewer s sub number cut lt))

-- a shard that leaves out cells is of a chunk that has a subchunk
pub leaves_out-fewer : (inner : List ℕ → Bool) (at_start : Bool) (s sub b : List ℕ) → sharded_leaves_out inner at_start s sub b ≡ true → position_count sub ≤ position_count s
leaves_out-fewer inner at_start s sub b is =
    let n = subchunk_count s sub in
    let p = and_parts (is_cut_by s sub) (list_any (part_leaves_out inner) (unwrap_or (shard_parts at_start n b) [])) is in
    part_fewer s sub 0 p.0 (some_part (shard_parts at_start n b) refl p.1)
  where
    some_part : (o : Option (List (Option (List ℕ)))) → shard_parts at_start (subchunk_count s sub) b ≡ o → list_any (part_leaves_out inner) (unwrap_or o []) ≡ true → 0 < subchunk_count s sub
    some_part None made any = absurd (false≢true any)
    some_part (Some []) made any = absurd (false≢true any)
    some_part (Some (p ∷ parts)) made any =
        let count = length-shard_parts at_start (subchunk_count s sub) b (p ∷ parts) made in
        omega arith

pub leaves_out-large : (inner : List ℕ → Bool) (at_start : Bool) (s sub b : List ℕ) (size : ℕ) → sharded_leaves_out inner at_start s sub b ≡ true → 2 ^ 64 ≤ position_count sub * size → 2 ^ 64 ≤ position_count s * size
leaves_out-large inner at_start s sub b size is large =
    omega (arith, large, mul-le-mul_right {m = position_count sub} {n = position_count s} size (leaves_out-fewer inner at_start s sub b is))
