-- A shard whose parts hold the encoded bytes of their cells compacts to the encoded bytes of its cells.
use Rattle.std.proofs.Common.{◌≡◌, ℕ, zero, suc, ◌<◌, inl, inr, Bool, true, false, cond, List, [], length, map, replicate, get_or, Option, None, Some, refl, sym, ap, ◌∙◌, arith}
use Rattle.std.specs.Prelude.{option_map}
use Rattle.std.specs.Str.{bytes_eq}
use Rattle.std.proofs.lemmas.Bool.{and_parts, and_from}
use Rattle.std.proofs.lemmas.List.{length-map, get_or-map, get_or_default, length-replicate}
use Rattle.std.proofs.lemmas.Slice.Eq.{bytes_eq-Decides}
use Rattle.zarrs_data_type.specs.Kind.{Kind}
use Rattle.zarrs_data_type.specs.Cell.{Cell, cell_eq, values_only}
use Rattle.zarrs_data_type_kinds.proofs.Same.{cell_eq-same}
use Rattle.zarrs_subset.specs.Boxes.{position_count, place, unravel}
use Rattle.zarrs_subset.specs.Rearranged.{made_of}
use Rattle.zarrs_subset.proofs.Positions.{unravel_in, place-unravel}
use Rattle.zarrs_subset.proofs.RearrangedCells.{length-made_of, get_or-made_of}
use Rattle.zarrs_codec_shard.specs.Sharded.{SubchunkMeaning, IsLawfulSubchunk, IsEncodedPart, HoldsEncodedParts, CompactsTo, is_all_fill, part_of, cells_of_part, parts_of, cells_of_parts, sharded_fits, sharded_encoded, sharded_decoded, sharded_compacted}
use Rattle.zarrs_codec_shard.specs.Shards.{written_shard}
use Rattle.zarrs_metadata_parts.specs.Extension.{◌>>=◌}
use Rattle.zarrs_codec_shard.specs.Steps.{all_present}
use Rattle.zarrs_codec_shard.specs.Subchunks.{is_cut_by, quotients, subchunk_count, subchunk_of, assembled}
use Rattle.zarrs_codec_shard.proofs.Cuts.{subchunk_of-assembled}
use Rattle.zarrs_codec_shard.proofs.Missing.{bind_parts, given_if-parts, given_if-true, values_only_parts, length-all_present, all_present-at, all_present-from}
use Rattle.zarrs_codec_shard.proofs.ShardLaws.{compaction_is, length-shard_parts}
use Rattle.zarrs_data_type_bytes.proofs.FixedSizes.{some_is}

all_fill_replicate : (f : Cell) (n : ℕ) → is_all_fill f (replicate n f) ≡ true
all_fill_replicate f zero = refl
all_fill_replicate f (suc n) = and_from (cell_eq f f) (is_all_fill f (replicate n f)) (cell_eq-same f) (all_fill_replicate f n)

module _ (m : SubchunkMeaning) (at_start : Bool) (k : Kind) (f : Cell) (s sub : List ℕ) (law : IsLawfulSubchunk k (position_count sub) m) where
  -- one part is encoded as it was held
  encoded_part : (o : Option (List ℕ)) (cells : List Cell) → cells_of_part m f sub o ≡ Some cells → ((part : List ℕ) → o ≡ Some part → IsEncodedPart m f part) → part_of m false f cells ≡ Some o
  encoded_part None cells held each =
      let fill : is_all_fill f cells ≡ true = ap (is_all_fill f) (sym (some_is held)) ∙ all_fill_replicate f (position_count sub) in
      ap (λ x. cond x (Some None) (option_map (λ t. Some t) (m.encoded cells))) fill
  encoded_part (Some t) cells held each =
      let e = each t refl in
      let same : e.cells ≡ cells = some_is (sym e.decoded_is ∙ held) in
      ap (λ x. cond x (Some None) (option_map (λ t. Some t) (m.encoded cells))) (ap (is_all_fill f) (sym same) ∙ e.not_fill)
      ∙ ap (option_map (λ t. Some t)) (ap m.encoded (sym same) ∙ e.encoded_is)

  cell_count : (o : Option (List ℕ)) (cells : List Cell) → cells_of_part m f sub o ≡ Some cells → length cells ≡ position_count sub
  cell_count None cells held = ap length (sym (some_is held)) ∙ length-replicate (position_count sub) f
  cell_count (Some t) cells held = law.decoded_len t cells held

  parts_encoded : (b : List ℕ) (subchunks : List (List Cell)) (held : HoldsEncodedParts m at_start f s sub b) → is_cut_by s sub ≡ true
      → all_present (map (cells_of_part m f sub) held.parts) ≡ Some subchunks → parts_of m false f s sub (assembled s sub subchunks) ≡ Some held.parts
  parts_encoded b subchunks held cut is =
      let g = quotients s sub in
      let cs = assembled s sub subchunks in
      let T = λ (i : List ℕ). part_of m false f (subchunk_of s sub cs i) in
      let count = length-shard_parts at_start (position_count g) b held.parts held.parts_are in
      let mapped = length-map held.parts (cells_of_part m f sub) in
      let subchunk_counted = length-all_present (map (cells_of_part m f sub) held.parts) subchunks is in
      all_present-from (made_of T g) held.parts (count ∙ sym (length-made_of T g))
      (λ j d e lt.
      let below : j < position_count g = omega (arith, length-made_of T g) in
      let i = unravel g j in
      let at : place g i ≡ j = place-unravel g j below in
      let here : cells_of_part m f sub (get_or held.parts j None) ≡ Some (get_or subchunks j []) =
      sym (get_or-map (cells_of_part m f sub) held.parts j None None (omega arith))
      ∙ all_present-at (map (cells_of_part m f sub) held.parts) subchunks j None [] is (omega arith) in
      let long : length (get_or subchunks (place g i) []) ≡ position_count sub =
      ap (λ x. length (get_or subchunks x [])) at ∙ cell_count (get_or held.parts j None) (get_or subchunks j []) here in
      let part : subchunk_of s sub cs i ≡ get_or subchunks j [] =
      subchunk_of-assembled s sub subchunks i cut (unravel_in g j below) long ∙ ap (λ x. get_or subchunks x []) at in
      get_or-made_of T g j d below
      ∙ ap (part_of m false f) part
      ∙ encoded_part (get_or held.parts j None) (get_or subchunks j []) here (λ text is_text. held.each j text (omega arith) is_text)
      ∙ ap Some (get_or_default held.parts j None e (omega arith)))

  compacts : (b made : List ℕ) (x : Bool) → bytes_eq made b ≡ x → sharded_compacted at_start s sub b ≡ Some (cond x None (Some made)) → CompactsTo at_start s sub b made
  compacts b made true same is = inl (sym ((bytes_eq-Decides made b).0 same), is)
  compacts b made false same is = inr is

  pub encoded_parts_compact : (b made : List ℕ) (cs : List Cell) → HoldsEncodedParts m at_start f s sub b
      → sharded_decoded m at_start k f s sub b ≡ Some cs → sharded_encoded m at_start false f s sub cs ≡ Some made → CompactsTo at_start s sub b made
  encoded_parts_compact b made cs held decoded encoded =
      let p = given_if-parts (sharded_fits m s sub) _ cs decoded in
      let cut = (and_parts (is_cut_by s sub) m.fits p.0).0 in
      let q : cells_of_parts m k f s sub held.parts ≡ Some cs = sym (ap (λ o. o >>= cells_of_parts m k f s sub) held.parts_are) ∙ p.1 in
      let r = bind_parts (all_present (map (cells_of_part m f sub) held.parts)) (λ subchunks. values_only k (assembled s sub subchunks)) cs q in
      let same = (values_only_parts k (assembled s sub r.0) cs r.2).1 in
      let e = given_if-parts (sharded_fits m s sub) _ made encoded in
      let written : written_shard at_start held.parts ≡ Some made =
      sym (ap (λ o. o >>= written_shard at_start) (ap (parts_of m false f s sub) (sym same) ∙ parts_encoded b r.0 held cut r.1)) ∙ e.1 in
      compacts b made (bytes_eq made b) refl
      (given_if-true (is_cut_by s sub) _ cut ∙ compaction_is at_start (subchunk_count s sub) b made held.parts held.parts_are written)
