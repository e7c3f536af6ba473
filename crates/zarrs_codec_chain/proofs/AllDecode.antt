-- A shard decodes if each of its subchunks does.
use Rattle.std.proofs.Common.{◌≡◌, ℕ, zero, suc, ◌<◌, Bool, true, cond, List, [], ◌∷◌, length, map, replicate, get_or, Option, None, Some, refl, sym, ap, ◌∙◌, subst, arith}
use Rattle.std.specs.Prelude.{IfSome, IsSome}
use Rattle.std.proofs.lemmas.Bool.{and_from, false≢true}
use Rattle.std.proofs.lemmas.List.{length-replicate}
use Rattle.std.proofs.lemmas.List.Sums.{AllPass-from_list_all, list_all-from_AllPass}
use Rattle.zarrs_metadata_parts.specs.Extension.{◌>>=◌}
use Rattle.zarrs_codec_shard.specs.Sharded.{SubchunkMeaning, cells_of_part, cells_of_parts, sharded_decoded, sharded_fits}
use Rattle.zarrs_codec_shard.specs.Shards.{shard_parts}
use Rattle.zarrs_codec_shard.specs.Steps.{all_present}
use Rattle.zarrs_codec_shard.specs.Subchunks.{assembled, is_cut_by, quotients, remainders, subchunk_count}
use Rattle.zarrs_codec_shard.proofs.Cuts.{position_divided}
use Rattle.zarrs_codec_shard.proofs.Missing.{all_present-cons, given_if-true}
use Rattle.zarrs_codec_shard.proofs.ShardLaws.{length-shard_parts}
use Rattle.zarrs_subset.specs.Boxes.{position_count, place, unravel}
use Rattle.zarrs_subset.proofs.Kernel.{place_below}
use Rattle.zarrs_subset.proofs.Positions.{unravel_in}
use Rattle.zarrs_subset.proofs.RearrangedCells.{get_or-made_of, length-made_of}
use Rattle.zarrs_data_type.specs.Cell.{Cell, are_values, is_value, none, values_only}
use Rattle.zarrs_data_type.specs.Kind.{Kind}
use Rattle.zarrs_data_type_bytes.proofs.FixedSizes.{some_is}
use Rattle.zarrs_codec_chain.specs.ShardParts.{DecodesAs}
use Rattle.zarrs_codec_chain.proofs.SubchunkSteps.{part_at}

-- the cells of all parts, from those of each
module _ (fill : Cell) (sub : List ℕ) (m : SubchunkMeaning) where
  pub all_there : (list : List (Option (List ℕ))) → ((j : ℕ) → j < length list → (cs : List Cell) × (cells_of_part m fill sub (get_or list j None) ≡ Some cs))
      → (all : List (List Cell)) × (all_present (map (cells_of_part m fill sub) list) ≡ Some all)
  all_there [] each = ([], refl)
  all_there (o ∷ list) each =
      let first = each 0 (omega arith) in
      let rest = all_there list (λ j lt. each (suc j) (omega arith)) in
      (first.0 ∷ rest.0, all_present-cons (cells_of_part m fill sub o) (map (cells_of_part m fill sub) list) first.0 rest.0 first.1 rest.1)

module _ (k : Kind) (decoded : List ℕ → Option (List Cell)) (fill : Cell) (s sub : List ℕ) (cut : is_cut_by s sub ≡ true) (parts : List (Option (List ℕ)))
    (m : SubchunkMeaning) (at_start : Bool) (encoded : List ℕ) (fits : m.fits ≡ true) (decodes_as : DecodesAs m decoded)
    (parts_are : shard_parts at_start (subchunk_count s sub) encoded ≡ Some parts)
    (counted : (b : List ℕ) (cs : List Cell) → decoded b ≡ Some cs → length cs ≡ position_count sub)
    (valued : (b : List ℕ) (cs : List Cell) → decoded b ≡ Some cs → are_values k cs ≡ true) (fill_value : is_value k fill ≡ true) where
  abbrev grid : List ℕ
  grid = quotients s sub

  filled : (n : ℕ) → are_values k (replicate n fill) ≡ true
  filled zero = refl
  filled (suc n) = and_from (is_value k fill) (are_values k (replicate n fill)) fill_value (filled n)

  part_values : (o : Option (List ℕ)) (cs : List Cell) → cells_of_part m fill sub o ≡ Some cs → (are_values k cs ≡ true) × (length cs ≡ position_count sub)
  part_values None cs is = (ap (are_values k) (sym (some_is is)) ∙ filled (position_count sub), ap length (sym (some_is is)) ∙ length-replicate (position_count sub) fill)
  part_values (Some b) cs is = let decodes = sym (decodes_as b) ∙ is in (valued b cs decodes, counted b cs decodes)

  -- the chunk decodes
  pub whole_of : (all : List (List Cell)) → all_present (map (cells_of_part m fill sub) parts) ≡ Some all → sharded_decoded m at_start k fill s sub encoded ≡ Some (assembled s sub all)
  whole_of all are =
      let F : List ℕ → Cell = λ x. get_or (get_or all (place grid (quotients x sub)) []) (place sub (remainders x sub)) none in
      let values : are_values k (assembled s sub all) ≡ true =
      list_all-from_AllPass (λ c. is_value k c) (assembled s sub all)
      (λ i d lt.
      let below : i < position_count s = omega (arith, length-made_of F s) in
      let x = unravel s i in
      let inside = unravel_in s i below in
      let q = position_divided s sub x cut inside in
      let j = place grid (quotients x sub) in
      let j_lt : j < length parts = omega (arith, place_below grid (quotients x sub) q.in_grid, length-shard_parts at_start (subchunk_count s sub) encoded parts parts_are) in
      let v = part_values (get_or parts j None) (get_or all j []) (part_at m fill sub parts all j are j_lt) in
      ap (is_value k) (get_or-made_of F s i d below)
      ∙ AllPass-from_list_all (λ c. is_value k c) (get_or all j []) v.0 (place sub (remainders x sub)) none (omega (arith, v.1, place_below sub (remainders x sub) q.in_part))) in
      given_if-true (sharded_fits m s sub) (shard_parts at_start (subchunk_count s sub) encoded >>= cells_of_parts m k fill s sub) (and_from (is_cut_by s sub) m.fits cut fits)
      ∙ ap (λ o. o >>= cells_of_parts m k fill s sub) parts_are
      ∙ ap (λ o. o >>= λ subchunks. values_only k (assembled s sub subchunks)) are
      ∙ ap (λ b. cond b (Some (assembled s sub all)) None) values

  decoded_some : (b : List ℕ) (o : Option (List Cell)) → m.decoded b ≡ o → IsSome o → (cs : List Cell) × (m.decoded b ≡ Some cs)
  decoded_some b None is some = absurd (false≢true some)
  decoded_some b (Some cs) is some = (cs, is)

  from_part : (o : Option (List ℕ)) → IfSome o (λ b. IsSome (decoded b)) → (cs : List Cell) × (cells_of_part m fill sub o ≡ Some cs)
  from_part None some = (replicate (position_count sub) fill, refl)
  from_part (Some b) some = decoded_some b (decoded b) (decodes_as b) some

  -- if each part that is present does
  pub shard_decodes : ((j : ℕ) → j < length parts → IfSome (get_or parts j None) (λ b. IsSome (decoded b))) → IsSome (sharded_decoded m at_start k fill s sub encoded)
  shard_decodes each =
      let all = all_there fill sub m parts (λ j lt. from_part (get_or parts j None) (each j lt)) in
      subst IsSome (sym (whole_of all.0 all.1)) refl
