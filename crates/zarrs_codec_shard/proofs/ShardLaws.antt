-- The laws of shards, from the law of the chain of their subchunks.
use Rattle.std.proofs.Common.{◌≡◌, ℕ, ◌*◌, ◌^◌, ◌<◌, Bool, true, false, not, cond, ◌&&◌, List, [], ◌∷◌, length, map, replicate, get_or, Option, None, Some, refl, sym, ap, subst, ◌∙◌, arith}
use Rattle.std.specs.Prelude.{nat_le, option_map}
use Rattle.std.specs.Str.{bytes_eq}
use Rattle.std.proofs.lemmas.Bool.{and_parts, false≢true}
use Rattle.std.proofs.lemmas.List.{length-map, get_or-map}
use Rattle.std.proofs.lemmas.Slice.Eq.{bytes_eq-Decides}
use Rattle.zarrs_data_type.specs.Kind.{Kind}
use Rattle.zarrs_data_type.specs.Cell.{Cell, cell_eq, are_values, is_value, values_only}
use Rattle.zarrs_data_type_kinds.proofs.Same.{cell_eq-true}
use Rattle.zarrs_data_type_bytes.proofs.Pieces.{length-pieces}
use Rattle.zarrs_subset.specs.Boxes.{position_count, unravel}
use Rattle.zarrs_subset.specs.Pieces.{pieces}
use Rattle.zarrs_subset.specs.Rearranged.{made_of}
use Rattle.zarrs_subset.proofs.Positions.{unravel_in}
use Rattle.zarrs_subset.proofs.RearrangedCells.{length-made_of, get_or-made_of}
use Rattle.zarrs_codec_shard.specs.Sharded.{SubchunkMeaning, IsLawfulSubchunk, IsLawfulShard, is_all_fill, part_of, cells_of_part, parts_of, cells_of_parts, sharded_fits, sharded_encoded, sharded_decoded}
use Rattle.zarrs_codec_shard.specs.Shards.{index_in, data_start, data_end, shard_bytes, written_shard, named_part, shard_parts, compaction}
use Rattle.zarrs_metadata_parts.specs.Extension.{◌>>=◌}
use Rattle.zarrs_codec_shard.specs.Steps.{given_if, all_present}
use Rattle.zarrs_codec_shard.specs.Subchunks.{is_cut_by, quotients, subchunk_count, subchunk_of, assembled}
use Rattle.zarrs_codec_shard.proofs.Cuts.{assembled_again, length-assembled, subchunk_len, subchunk_all}
use Rattle.zarrs_codec_shard.proofs.Missing.{bind_parts, given_if-parts, given_if-true, given_if-false, values_only_parts, length-all_present, all_present-at, all_present-from}
use Rattle.zarrs_codec_shard.proofs.ShardBytes.{shard_parts-shard_bytes, written_again}
use Rattle.zarrs_data_type_bytes.proofs.FixedSizes.{some_is}

fill_is : (f : Cell) (cs : List Cell) → is_all_fill f cs ≡ true → cs ≡ replicate (length cs) f
fill_is f [] is = refl
fill_is f (c ∷ cs) is =
    let p = and_parts (cell_eq c f) (is_all_fill f cs) is in
    ap (λ x. x ∷ cs) (cell_eq-true c f p.0) ∙ ap (λ l. f ∷ l) (fill_is f cs p.1)

pub length-shard_parts : (at_start : Bool) (n : ℕ) (b : List ℕ) (parts : List (Option (List ℕ))) → shard_parts at_start n b ≡ Some parts → length parts ≡ n
length-shard_parts at_start n b parts made =
    let p = given_if-parts (nat_le (n * 16) (length b)) _ parts made in
    let read = named_part b (data_start at_start n) (data_end at_start n (length b)) in
    length-all_present (map read (pieces 16 n (index_in at_start n b))) parts p.1
    ∙ length-map (pieces 16 n (index_in at_start n b)) read ∙ length-pieces 16 n (index_in at_start n b)

-- a compaction that is not the same bytes
pub record IsCompacted (at_start : Bool) (n : ℕ) (b made : List ℕ) : Type 0 where
  pub parts : List (Option (List ℕ))
  pub old_is : shard_parts at_start n b ≡ Some parts
  pub made_is : shard_bytes at_start parts ≡ made
  pub differs : bytes_eq made b ≡ false

other_made : (x : Bool) (a made : List ℕ) → Some (cond x None (Some a)) ≡ Some (Some made) → (x ≡ false) × (a ≡ made)
other_made true a made is = cc
other_made false a made is = (refl, cc)

is_compacted : (at_start : Bool) (n : ℕ) (b made : List ℕ) → compaction at_start n b ≡ Some (Some made) → IsCompacted at_start n b made
is_compacted at_start n b made is =
    let q = bind_parts (shard_parts at_start n b) _ (Some made) is in
    let a = shard_bytes at_start q.0 in
    let e = other_made (bytes_eq a b) a made q.2 in
    record { parts = q.0; old_is = q.1; made_is = e.1; differs = ap (λ x. bytes_eq x b) (sym e.1) ∙ e.0 }

-- it has the same parts, if a u64 counts its bytes
compacted_parts : (at_start : Bool) (n : ℕ) (b made : List ℕ) (w : IsCompacted at_start n b made) → length made < 2 ^ 64 → shard_parts at_start n made ≡ Some w.parts
compacted_parts at_start n b made w small =
    ap (λ x. shard_parts at_start n x) (sym w.made_is)
    ∙ ap (λ k. shard_parts at_start k (shard_bytes at_start w.parts)) (sym (length-shard_parts at_start n b w.parts w.old_is))
    ∙ shard_parts-shard_bytes at_start w.parts (subst (λ x. length x < 2 ^ 64) (sym w.made_is) small)

-- the compaction of a shard of these parts
pub compaction_from : (at_start : Bool) (n : ℕ) (b made : List ℕ) (parts : List (Option (List ℕ))) → shard_parts at_start n b ≡ Some parts → shard_bytes at_start parts ≡ made
    → compaction at_start n b ≡ Some (cond (bytes_eq made b) None (Some made))
compaction_from at_start n b made parts read made_is =
    ap (λ o. o >>= λ parts. Some (cond (bytes_eq (shard_bytes at_start parts) b) None (Some (shard_bytes at_start parts)))) read
    ∙ ap (λ x. Some (cond (bytes_eq x b) None (Some x))) made_is

pub compaction_is : (at_start : Bool) (n : ℕ) (b made : List ℕ) (parts : List (Option (List ℕ))) → shard_parts at_start n b ≡ Some parts → written_shard at_start parts ≡ Some made
    → compaction at_start n b ≡ Some (cond (bytes_eq made b) None (Some made))
compaction_is at_start n b made parts read written =
    compaction_from at_start n b made parts read (written_again at_start parts (length parts) made refl written).0

module _ (m : SubchunkMeaning) (at_start empty : Bool) (k : Kind) (f : Cell) (s sub : List ℕ) where
  part_count : (cs : List Cell) (parts : List (Option (List ℕ))) → parts_of m empty f s sub cs ≡ Some parts → length parts ≡ subchunk_count s sub
  part_count cs parts made =
      let T = λ (i : List ℕ). part_of m empty f (subchunk_of s sub cs i) in
      length-all_present (made_of T (quotients s sub)) parts made ∙ length-made_of T (quotients s sub)

  pub record IsWritten (cs : List Cell) (b : List ℕ) : Type 0 where
    pub fits : sharded_fits m s sub ≡ true
    pub parts : List (Option (List ℕ))
    pub parts_are : parts_of m empty f s sub cs ≡ Some parts
    pub written_is : written_shard at_start parts ≡ Some b
    pub read_is : shard_parts at_start (subchunk_count s sub) b ≡ Some parts

  is_written : (cs : List Cell) (b : List ℕ) → sharded_encoded m at_start empty f s sub cs ≡ Some b → IsWritten cs b
  is_written cs b made =
      let p = given_if-parts (sharded_fits m s sub) _ b made in
      let q = bind_parts (parts_of m empty f s sub cs) (written_shard at_start) b p.1 in
      let w = written_again at_start q.0 (subchunk_count s sub) b (part_count cs q.0 q.1) q.2 in
      record { fits = p.0; parts = q.0; parts_are = q.1; written_is = q.2; read_is = w.1 }

  shard_values : (b : List ℕ) (cs : List Cell) → sharded_decoded m at_start k f s sub b ≡ Some cs → (length cs ≡ position_count s) × (are_values k cs ≡ true)
  shard_values b cs made =
      let p = given_if-parts (sharded_fits m s sub) _ cs made in
      let q = bind_parts (shard_parts at_start (subchunk_count s sub) b) (cells_of_parts m k f s sub) cs p.1 in
      let r = bind_parts (all_present (map (cells_of_part m f sub) q.0)) (λ subchunks. values_only k (assembled s sub subchunks)) cs q.2 in
      let v = values_only_parts k (assembled s sub r.0) cs r.2 in
      (ap length (sym v.1) ∙ length-assembled s sub r.0, v.0)

  module _ (law : IsLawfulSubchunk k (position_count sub) m) where
    -- one subchunk
    pub part_again : (cells : List Cell) (o : Option (List ℕ)) → are_values k cells ≡ true → length cells ≡ position_count sub → part_of m empty f cells ≡ Some o → cells_of_part m f sub o ≡ Some cells
    part_again cells o values len made = go (not empty && is_all_fill f cells) refl made
      where
        written : (r : Option (List ℕ)) → m.encoded cells ≡ r → option_map (λ b. Some b) r ≡ Some o → cells_of_part m f sub o ≡ Some cells
        written None is e = cc
        written (Some b) is e = ap (cells_of_part m f sub) (sym (some_is e)) ∙ law.round_trip cells b values len is

        go : (b : Bool) → (not empty && is_all_fill f cells) ≡ b → cond b (Some None) (option_map (λ x. Some x) (m.encoded cells)) ≡ Some o → cells_of_part m f sub o ≡ Some cells
        go true is e =
            let fill = (and_parts (not empty) (is_all_fill f cells) is).1 in
            ap (cells_of_part m f sub) (sym (some_is e))
            ∙ ap (λ n. Some (replicate n f)) (sym len) ∙ ap Some (sym (fill_is f cells fill))
        go false is e = written (m.encoded cells) refl e

    cells_again : (cs : List Cell) (parts : List (Option (List ℕ))) → is_cut_by s sub ≡ true → are_values k cs ≡ true → length cs ≡ position_count s
        → parts_of m empty f s sub cs ≡ Some parts → all_present (map (cells_of_part m f sub) parts) ≡ Some (made_of (subchunk_of s sub cs) (quotients s sub))
    cells_again cs parts cut values len made =
        let g = quotients s sub in
        let T = λ (i : List ℕ). part_of m empty f (subchunk_of s sub cs i) in
        let count = part_count cs parts made in
        let mapped = length-map parts (cells_of_part m f sub) in
        all_present-from (map (cells_of_part m f sub) parts) (made_of (subchunk_of s sub cs) g) (length-made_of (subchunk_of s sub cs) g ∙ sym count ∙ sym mapped)
        (λ j d e lt.
        let below : j < position_count g = omega arith in
        let i = unravel g j in
        let in_grid = unravel_in g j below in
        let here = all_present-at (made_of T g) parts j None None made (omega (arith, length-made_of T g)) in
        get_or-map (cells_of_part m f sub) parts j None d (omega arith)
        ∙ part_again (subchunk_of s sub cs i) (get_or parts j None) (subchunk_all s sub cut cs len (λ c. is_value k c) values i in_grid) (subchunk_len s sub cut cs len i)
        (sym (get_or-made_of T g j None below) ∙ here)
        ∙ ap Some (sym (get_or-made_of (subchunk_of s sub cs) g j e below)))

    shard_again : (cs : List Cell) (b : List ℕ) → are_values k cs ≡ true → length cs ≡ position_count s → sharded_encoded m at_start empty f s sub cs ≡ Some b → sharded_decoded m at_start k f s sub b ≡ Some cs
    shard_again cs b values len made =
        let w = is_written cs b made in
        let cut = (and_parts (is_cut_by s sub) m.fits w.fits).0 in
        given_if-true (sharded_fits m s sub) _ w.fits
        ∙ ap (λ o. o >>= cells_of_parts m k f s sub) w.read_is
        ∙ ap (λ o. o >>= λ subchunks. values_only k (assembled s sub subchunks)) (cells_again cs w.parts cut values len w.parts_are)
        ∙ ap (values_only k) (assembled_again s sub cut cs len)
        ∙ given_if-true (are_values k cs) _ values

    pub shard-lawful : IsLawfulShard m at_start empty k f s sub
    shard-lawful = record {
      round_trip = shard_again;
      decoded_len = λ b cs made. (shard_values b cs made).0;
      decoded_values = λ b cs made. (shard_values b cs made).1;
      compacted_same = λ b less made small.
          let p = given_if-parts (is_cut_by s sub) _ (Some less) made in
          let w = is_compacted at_start (subchunk_count s sub) b less p.1 in
          ap (λ o. given_if (sharded_fits m s sub) (o >>= cells_of_parts m k f s sub)) (compacted_parts at_start (subchunk_count s sub) b less w small ∙ sym w.old_is);
      compacted_differs = λ b less made. λ same.
          let p = given_if-parts (is_cut_by s sub) _ (Some less) made in
          let w = is_compacted at_start (subchunk_count s sub) b less p.1 in
          false≢true (sym w.differs ∙ (bytes_eq-Decides less b).1 same);
      encoded_compact = λ cs b made.
          let w = is_written cs b made in
          let cut = (and_parts (is_cut_by s sub) m.fits w.fits).0 in
          given_if-true (is_cut_by s sub) _ cut
          ∙ compaction_is at_start (subchunk_count s sub) b b w.parts w.read_is w.written_is
          ∙ ap (λ x. Some (cond x None (Some b))) ((bytes_eq-Decides b b).1 refl);
      unfit = λ cs not. given_if-false (sharded_fits m s sub) _ not;
      unfit_decoded = λ b not. given_if-false (sharded_fits m s sub) _ not;
    }
