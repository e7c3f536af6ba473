-- Reads of parts of shards, one subchunk after another.
use Rattle.std.proofs.Common.{◌≡◌, ℕ, zero, suc, ◌+◌, ◌-◌, ◌<◌, ◌≤◌, Bool, true, false, cond, ◌&&◌, ◌||◌, List, [], ◌∷◌, ◌++◌, length, map, replicate, get_or, slice_get, Option, None, Some, refl, sym, ap, ◌∙◌, subst, arith}
use Rattle.std.specs.Prelude.{slice_index, slice_index_or, nat_eq}
use Rattle.std.specs.Cmp.Lexicographic.{pointwise, same_text}
use Rattle.std.proofs.lemmas.Bool.{and_from, eq-eqb, false≢true}
use Rattle.std.proofs.lemmas.List.{get_or-map, get_or-replicate, length-map, length-replicate}
use Rattle.std.proofs.lemmas.Option.{slice_get-get_or}
use Rattle.zarrs_data_type.specs.ArrayData.{ArrayData}
use Rattle.zarrs_data_type.specs.Cells.{cells}
use Rattle.zarrs_data_type.specs.Parts.{TakesCells}
use Rattle.zarrs_subset.proofs.Bytes.{place_in_below, holds_along, along_holds}
use Rattle.zarrs_subset.proofs.Overlaps.{length-zip_with}
use Rattle.zarrs_metadata_parts.specs.Extension.{◌>>=◌}
use Rattle.zarrs_codec_shard.specs.Sharded.{SubchunkMeaning, cells_of_part, cells_of_parts, sharded_decoded, sharded_fits}
use Rattle.zarrs_codec_shard.proofs.ShardLaws.{length-shard_parts}
use Rattle.zarrs_codec_shard.specs.Shards.{shard_parts}
use Rattle.zarrs_codec_shard.specs.Steps.{all_present}
use Rattle.zarrs_codec_shard.specs.Subchunks.{assembled, corner, is_cut_by, quotients, remainders, subchunk_box, subchunk_count}
use Rattle.zarrs_codec_shard.proofs.Cuts.{position_divided, length-assembled}
use Rattle.zarrs_codec_shard.proofs.Missing.{all_present-at, bind_parts, given_if-parts, values_only_parts}
use Rattle.zarrs_codec_shard.proofs.SubchunkBoxes.{holds_own, long_corner, only_own, place_in_chunk}
use Rattle.zarrs_subset.specs.Boxes.{position_count, InShape, place, unravel, offset_by, offset_from, zip_with}
use Rattle.zarrs_subset.specs.Regions.{Box, Holds, IsLong, LiesInShape, box_at_origin, box_from, cell_in, in_box, place_in, positions, seen_from}
use Rattle.zarrs_subset.proofs.Kernel.{place_below}
use Rattle.zarrs_subset.proofs.Parts.{zip_with-at}
use Rattle.zarrs_subset.proofs.Positions.{offset_from-by, positions_all, unravel-place}
use Rattle.zarrs_subset.proofs.RearrangedCells.{made_at}
use Rattle.zarrs_data_type.specs.Cell.{Cell, none, values_only}
use Rattle.zarrs_data_type.specs.Kind.{Kind}
use Rattle.zarrs_codec_chain.specs.Parts.{DecodesPart}
use Rattle.zarrs_codec_leaf.specs.Leaf.{LeafMeaning}
use Rattle.zarrs_codec_leaf.specs.Refusals.{RefusesDecoding}
use Rattle.zarrs_codec_leaf.specs.declared.error.CodecError.{CodecError}
use Rattle.zarrs_codec_leaf.specs.declared.error.CodecError.TheVariants as codec
use Rattle.zarrs_codec_chain.specs.PartRefusals.{RefusesPartDecoding}
use Rattle.zarrs_codec_chain.specs.declared.error.PartError.{PartError}
use Rattle.zarrs_codec_chain.specs.declared.error.PartError.TheVariants.{Codec, Source}
use Rattle.zarrs_codec_chain.specs.ShardParts.{RefusesStep, DecodesAs, HasAllParts, HasSubchunkParts, HasTooLarge, IsBrokenShard, IsCellOf, IsPartCell, IsReadOrFill, is_among}
use Rattle.zarrs_codec_chain.proofs.PartBoxes.{part_fits, within_shape}
use Rattle.zarrs_data_type_bytes.proofs.FixedSizes.{some_is}

-- ---- index lists

pub same_index : (i : List ℕ) → pointwise nat_eq i i ≡ true
same_index [] = refl
same_index (x ∷ i) = and_from (nat_eq x x) (pointwise nat_eq i i) (eq-eqb x x refl) (same_index i)

pub among_more : (done : List (List ℕ)) (i q : List ℕ) → is_among (done ++ i ∷ []) q ≡ (is_among done q || pointwise nat_eq i q)
among_more [] i q = or_false (pointwise nat_eq i q)
  where
    or_false : (b : Bool) → (b || false) ≡ b
    or_false true = refl
    or_false false = refl
among_more (d ∷ done) i q = ap (λ b. pointwise nat_eq d q || b) (among_more done i q) ∙ or_assoc (pointwise nat_eq d q) (is_among done q) (pointwise nat_eq i q)
  where
    or_assoc : (a b c : Bool) → (a || (b || c)) ≡ ((a || b) || c)
    or_assoc true b c = refl
    or_assoc false b c = refl

among_at : (list : List (List ℕ)) (j : ℕ) (q : List ℕ) → slice_get list j ≡ Some q → is_among list q ≡ true
among_at [] j q found = cc
among_at (i ∷ list) zero q found = ap (λ x. pointwise nat_eq x q || is_among list q) (some_is found) ∙ ap (λ b. b || is_among list q) (same_index q)
among_at (i ∷ list) (suc j) q found = ap (λ b. pointwise nat_eq i q || b) (among_at list j q found) ∙ or_true (pointwise nat_eq i q)
  where
    or_true : (b : Bool) → (b || true) ≡ true
    or_true true = refl
    or_true false = refl

-- ---- positions of a subchunk

-- a position has its own subchunk
pub own_holds : (s sub i p : List ℕ) → is_cut_by s sub ≡ true → InShape s p → quotients p sub ≡ i → Holds (box_from (corner sub i) sub) p
own_holds s sub i p cut inside is =
    let d = position_divided s sub p cut inside in
    let here : Holds (box_from (corner sub (quotients p sub)) sub) (offset_by (corner sub (quotients p sub)) (remainders p sub)) = holds_own s sub (quotients p sub) (remainders p sub) cut d.in_grid d.in_part in
    subst (λ j. Holds (box_from (corner sub j) sub) p) is (subst (λ x. Holds (box_from (corner sub (quotients p sub)) sub) x) d.again here)

pub own_place : (s sub i p : List ℕ) → is_cut_by s sub ≡ true → InShape s p → quotients p sub ≡ i → offset_from (corner sub i) p ≡ remainders p sub
own_place s sub i p cut inside is =
    let d = position_divided s sub p cut inside in
    let q = quotients p sub in
    ap (λ j. offset_from (corner sub j) p) (sym is)
    ∙ ap (offset_from (corner sub q)) (sym d.again)
    ∙ offset_from-by (corner sub q) sub (remainders p sub) (long_corner s sub q cut d.in_grid) d.in_part

-- ---- a box that is seen from a corner

pub length-offset_from : (C p : List ℕ) → length C ≡ length p → length (offset_from C p) ≡ length p
length-offset_from [] [] same = refl
length-offset_from [] (i ∷ p) same = absurd (omega arith)
length-offset_from (c ∷ C) [] same = absurd (omega arith)
length-offset_from (c ∷ C) (i ∷ p) same = ap suc (length-offset_from C p (omega arith))

offset_from-at : (C p : List ℕ) (k : ℕ) → length C ≡ length p → k < length p → slice_index (offset_from C p) k ≡ slice_index p k - slice_index C k
offset_from-at [] [] k same lt = absurd (omega arith)
offset_from-at [] (i ∷ p) k same lt = absurd (omega arith)
offset_from-at (c ∷ C) [] k same lt = absurd (omega arith)
offset_from-at (c ∷ C) (i ∷ p) zero same lt = refl
offset_from-at (c ∷ C) (i ∷ p) (suc k) same lt = offset_from-at C p k (omega arith) (omega arith)

pub seen_again : (S C p : List ℕ) → length C ≡ length S → length p ≡ length S → ((k : ℕ) → k < length S → slice_index C k ≤ slice_index S k)
    → offset_from (zip_with (λ s t. s - t) S C) (offset_from C p) ≡ offset_from S p
seen_again [] [] [] same long above = refl
seen_again [] (c ∷ C) p same long above = absurd (omega arith)
seen_again [] [] (i ∷ p) same long above = absurd (omega arith)
seen_again (s ∷ S) [] p same long above = absurd (omega arith)
seen_again (s ∷ S) (c ∷ C) [] same long above = absurd (omega arith)
seen_again (s ∷ S) (c ∷ C) (i ∷ p) same long above =
    let low : c ≤ s = above zero (omega arith) in
    let first : i - c - (s - c) ≡ i - s = omega arith in
    ap (λ x. x ∷ offset_from (zip_with (λ a b. a - b) S C) (offset_from C p)) first
    ∙ ap (λ l. (i - s) ∷ l) (seen_again S C p (omega arith) (omega arith) (λ k lt. above (suc k) (omega arith)))

long_seen : (box : Box) (C : List ℕ) → IsLong box → length C ≡ length box.start → IsLong (seen_from box C)
long_seen box C long same = length-zip_with (λ s t. s - t) box.start C (sym same) ∙ long

pub holds_seen : (box : Box) (C p : List ℕ) → IsLong box → length C ≡ length box.start → ((k : ℕ) → k < length box.start → slice_index C k ≤ slice_index box.start k)
    → Holds box p → Holds (seen_from box C) (offset_from C p)
holds_seen box C p long same above holds =
    let at = holds_along box p long holds in
    let wide = length-zip_with (λ s t. s - t) box.start C (sym same) in
    let long_p : length C ≡ length p = same ∙ sym at.same_length in
    along_holds (seen_from box C) (offset_from C p) (long_seen box C long same)
    (record {
      same_length = length-offset_from C p long_p ∙ at.same_length ∙ sym wide;
      from = λ k lt.
          let below : k < length box.start = omega arith in
          omega (arith, offset_from-at C p k long_p (omega (arith, at.same_length)), zip_with-at (λ s t. s - t) box.start C k below (omega arith), at.from k below, above k below);
      below = λ k lt.
          let below : k < length box.start = omega arith in
          omega (arith, offset_from-at C p k long_p (omega (arith, at.same_length)), zip_with-at (λ s t. s - t) box.start C k below (omega arith), at.below k below, at.from k below, above k below);
    })

-- ---- one more subchunk

module _ (k : Kind) (decoded : List ℕ → Option (List Cell)) (fill : Cell) (s sub : List ℕ) (part : Box) (parts : List (Option (List ℕ))) where
  abbrev number : List ℕ → ℕ
  number p = place (quotients s sub) (quotients p sub)

  -- the cells of the read subchunk changed, and no other
  pub read_more : (done : List (List ℕ)) (i : List ℕ) (old new : ArrayData) (made : List Cell) → (h : HasSubchunkParts k decoded fill s sub part parts done old)
      → cells k new ≡ Some made → length made ≡ position_count part.shape
      → ((p : List ℕ) → Holds part p → quotients p sub ≡ i → IsPartCell decoded fill s sub parts p (cell_in part made p))
      → ((p : List ℕ) → Holds part p → (quotients p sub ≡ i → ⊥) → cell_in part made p ≡ cell_in part h.given p)
      → HasSubchunkParts k decoded fill s sub part parts (done ++ i ∷ []) new
  read_more done i old new made h is count changed kept = record {
    given = made;
    are_cells = is;
    count = count;
    each = λ p holds.
        subst (λ b. IsReadOrFill b decoded fill s sub parts p (cell_in part made p)) (sym (among_more done i (quotients p sub)))
        (go p holds (pointwise nat_eq i (quotients p sub)) refl (is_among done (quotients p sub)) (h.each p holds));
  }
    where
      go : (p : List ℕ) → Holds part p → (b : Bool) → pointwise nat_eq i (quotients p sub) ≡ b → (a : Bool) → IsReadOrFill a decoded fill s sub parts p (cell_in part h.given p)
          → IsReadOrFill (a || b) decoded fill s sub parts p (cell_in part made p)
      go p holds true same true before = changed p holds (sym (same_text i (quotients p sub) (sym same)))
      go p holds true same false before = changed p holds (sym (same_text i (quotients p sub) (sym same)))
      go p holds false other true before =
          subst (λ c. IsPartCell decoded fill s sub parts p c) (sym (kept p holds (λ e. false≢true (sym other ∙ ap (pointwise nat_eq i) e ∙ same_index i)))) before
      go p holds false other false before = kept p holds (λ e. false≢true (sym other ∙ ap (pointwise nat_eq i) e ∙ same_index i)) ∙ before

  -- a subchunk without a position of the part, or that is absent, changes nothing
  pub skip_more : (done : List (List ℕ)) (i : List ℕ) (held : ArrayData) → ((p : List ℕ) → Holds part p → quotients p sub ≡ i → slice_index_or parts (number p) None ≡ None)
      → HasSubchunkParts k decoded fill s sub part parts done held → HasSubchunkParts k decoded fill s sub part parts (done ++ i ∷ []) held
  skip_more done i held absent h = record {
    given = h.given;
    are_cells = h.are_cells;
    count = h.count;
    each = λ p holds.
        subst (λ b. IsReadOrFill b decoded fill s sub parts p (cell_in part h.given p)) (sym (among_more done i (quotients p sub)))
        (go p holds (pointwise nat_eq i (quotients p sub)) refl (is_among done (quotients p sub)) (h.each p holds));
  }
    where
      go : (p : List ℕ) → Holds part p → (b : Bool) → pointwise nat_eq i (quotients p sub) ≡ b → (a : Bool) → IsReadOrFill a decoded fill s sub parts p (cell_in part h.given p)
          → IsReadOrFill (a || b) decoded fill s sub parts p (cell_in part h.given p)
      go p holds b same true before = before
      go p holds false other false before = before
      go p holds true same false before =
          subst (λ o. IsCellOf decoded fill (place sub (remainders p sub)) o (cell_in part h.given p)) (sym (absent p holds (sym (same_text i (quotients p sub) (sym same))))) before

  -- the cells of a present subchunk are put in
  pub put_more : (i : List ℕ) (n : ℕ) (encoded : List ℕ) (shared : Box) (made_part old new : ArrayData) → is_cut_by s sub ≡ true → IsLong part → LiesInShape part s → IsLong shared
      → InShape (quotients s sub) i → place (quotients s sub) i ≡ n → slice_index_or parts n None ≡ Some encoded
      → ((p : List ℕ) → in_box shared p ≡ (in_box part p && in_box (subchunk_box s sub n) p))
      → length (corner sub i) ≡ length shared.start → ((j : ℕ) → j < length shared.start → slice_index (corner sub i) j ≤ slice_index shared.start j)
      → DecodesPart k sub (seen_from shared (corner sub i)) (decoded encoded) made_part → TakesCells k part shared made_part old new
      → (done : List (List ℕ)) → HasSubchunkParts k decoded fill s sub part parts done old → HasSubchunkParts k decoded fill s sub part parts (done ++ i ∷ []) new
  put_more i n encoded shared made_part old new cut long lies shared_long in_grid at_n present common corner_len above read taken done h =
      read_more done i old new taken.made h taken.new_is (taken.count ∙ ap length old_same ∙ h.count)
      (λ p holds is.
      let inside = within_shape part.start part.shape s p (part_fits part s long lies) holds in
      let own = own_holds s sub i p cut inside is in
      let there : in_box shared p ≡ true = common p ∙ and_from (in_box part p) (in_box (subchunk_box s sub n) p) holds (subst (λ b. in_box b p ≡ true) (sym box_is) own) in
      let long_p : length p ≡ length shared.start = (holds_along shared p shared_long there).same_length in
      let where_is : slice_index_or parts (number p) None ≡ Some encoded = ap (λ j. slice_index_or parts (place (quotients s sub) j) None) is ∙ ap (λ j. slice_index_or parts j None) at_n ∙ present in
      subst (λ o. IsCellOf decoded fill (place sub (remainders p sub)) o (cell_in part taken.made p)) (sym where_is)
      (λ cs decodes.
      let seen = holds_seen shared (corner sub i) p shared_long corner_len above there in
      let r = own_place s sub i p cut inside is in
      let d = position_divided s sub p cut inside in
      taken.takes p holds
      ∙ ap (λ b. cond b (cell_in shared taken.given p) (cell_in part taken.held p)) there
      ∙ ap (λ l. cell_in shared l p) (some_is (sym taken.part_is ∙ read.are_cells))
      ∙ ap (λ q. slice_get read.given (place shared.shape q)) (sym (seen_again shared.start (corner sub i) p corner_len long_p above))
      ∙ read.same cs decodes (offset_from (corner sub i) p) seen
      ∙ ap (λ q. cell_in (box_at_origin sub) cs q) r
      ∙ ap (slice_get cs) (place_in_chunk sub (remainders p sub) d.in_part)))
      (λ p holds other.
      let inside = within_shape part.start part.shape s p (part_fits part s long lies) holds in
      let out : in_box shared p ≡ false = common p ∙ not_there p (in_box (subchunk_box s sub n) p) refl inside other in
      taken.takes p holds
      ∙ ap (λ b. cond b (cell_in shared taken.given p) (cell_in part taken.held p)) out
      ∙ ap (λ l. cell_in part l p) old_same)
    where
      box_is : subchunk_box s sub n ≡ box_from (corner sub i) sub
      box_is = ap (λ j. box_from (corner sub j) sub) (ap (unravel (quotients s sub)) (sym at_n) ∙ unravel-place (quotients s sub) i in_grid)

      old_same : taken.held ≡ h.given
      old_same = some_is (sym taken.old_is ∙ h.are_cells)

      and_false : (a : Bool) → (a && false) ≡ false
      and_false true = refl
      and_false false = refl

      not_there : (p : List ℕ) → (b : Bool) → in_box (subchunk_box s sub n) p ≡ b → InShape s p → (quotients p sub ≡ i → ⊥) → (in_box part p && in_box (subchunk_box s sub n) p) ≡ false
      not_there p true is inside other = absurd (other (only_own s sub i p cut in_grid inside (subst (λ b. in_box b p ≡ true) box_is is)))
      not_there p false is inside other = ap (λ b. in_box part p && b) is ∙ and_false (in_box part p)

-- ---- all of them

-- the cells of a shard, of those of its parts
pub record IsAssembled (m : SubchunkMeaning) (fill : Cell) (s sub : List ℕ) (parts : List (Option (List ℕ))) (whole : List Cell) : Type 0 where
  pub subchunks : List (List Cell)
  pub read : all_present (map (cells_of_part m fill sub) parts) ≡ Some subchunks
  pub whole_is : whole ≡ assembled s sub subchunks

shard_assembled : (m : SubchunkMeaning) (at_start : Bool) (k : Kind) (fill : Cell) (s sub encoded : List ℕ) (parts : List (Option (List ℕ))) (whole : List Cell)
    → shard_parts at_start (subchunk_count s sub) encoded ≡ Some parts → sharded_decoded m at_start k fill s sub encoded ≡ Some whole → IsAssembled m fill s sub parts whole
shard_assembled m at_start k fill s sub encoded parts whole parts_are decoded =
    let p = given_if-parts (sharded_fits m s sub) (shard_parts at_start (subchunk_count s sub) encoded >>= cells_of_parts m k fill s sub) whole decoded in
    let q = bind_parts (shard_parts at_start (subchunk_count s sub) encoded) (cells_of_parts m k fill s sub) whole p.1 in
    let same : q.0 ≡ parts = some_is (sym q.1 ∙ parts_are) in
    let r = bind_parts (all_present (map (cells_of_part m fill sub) q.0)) (λ subchunks. values_only k (assembled s sub subchunks)) whole q.2 in
    record {
      subchunks = r.0;
      read = ap (λ l. all_present (map (cells_of_part m fill sub) l)) (sym same) ∙ r.1;
      whole_is = sym (values_only_parts k (assembled s sub r.0) whole r.2).1;
    }

-- the cells of one part
pub part_at : (m : SubchunkMeaning) (fill : Cell) (sub : List ℕ) (parts : List (Option (List ℕ))) (subchunks : List (List Cell)) (j : ℕ) → all_present (map (cells_of_part m fill sub) parts) ≡ Some subchunks
    → j < length parts → cells_of_part m fill sub (get_or parts j None) ≡ Some (get_or subchunks j [])
part_at m fill sub parts subchunks j read lt =
    sym (get_or-map (cells_of_part m fill sub) parts j None None lt)
    ∙ all_present-at (map (cells_of_part m fill sub) parts) subchunks j None [] read (omega (arith, length-map parts (cells_of_part m fill sub)))

module _ (k : Kind) (decoded : List ℕ → Option (List Cell)) (fill : Cell) (s sub : List ℕ) where
  module _ (m : SubchunkMeaning) (at_start : Bool) (encoded : List ℕ) (parts : List (Option (List ℕ))) (decodes_as : DecodesAs m decoded)
      (parts_are : shard_parts at_start (subchunk_count s sub) encoded ≡ Some parts) where
    -- the cell of the parts at a position is the chunk's
    pub cell_of_whole : (whole : List Cell) → sharded_decoded m at_start k fill s sub encoded ≡ Some whole → (p : List ℕ) → InShape s p → is_cut_by s sub ≡ true
        → ((b : List ℕ) (cs : List Cell) → decoded b ≡ Some cs → length cs ≡ position_count sub)
        → (cell : Option Cell) → IsPartCell decoded fill s sub parts p cell → cell ≡ slice_get whole (place s p)
    cell_of_whole whole is p inside cut counted cell at =
        let a = shard_assembled m at_start k fill s sub encoded parts whole parts_are is in
        let d = position_divided s sub p cut inside in
        let j = place (quotients s sub) (quotients p sub) in
        let r = place sub (remainders p sub) in
        let below : j < length parts = omega (arith, place_below (quotients s sub) (quotients p sub) d.in_grid, length-shard_parts at_start (subchunk_count s sub) encoded parts parts_are) in
        let within = place_below sub (remainders p sub) d.in_part in
        let F : List ℕ → Cell = λ x. get_or (get_or a.subchunks (place (quotients s sub) (quotients x sub)) []) (place sub (remainders x sub)) none in
        cell_is (get_or parts j None) (get_or a.subchunks j []) r cell within (part_at m fill sub parts a.subchunks j a.read below) at
        ∙ ap Some (sym (made_at F s p none inside))
        ∙ sym (slice_get-get_or (assembled s sub a.subchunks) (place s p) none (omega (arith, place_below s p inside, length-assembled s sub a.subchunks)))
        ∙ ap (λ l. slice_get l (place s p)) (sym a.whole_is)
      where
        cell_is : (o : Option (List ℕ)) (cs : List Cell) (r : ℕ) (cell : Option Cell) → r < position_count sub → cells_of_part m fill sub o ≡ Some cs → IsCellOf decoded fill r o cell → cell ≡ Some (get_or cs r none)
        cell_is None cs r cell lt is read = read ∙ ap Some (sym (ap (λ l. get_or l r none) (some_is (sym is)) ∙ get_or-replicate (position_count sub) r fill none lt))
        cell_is (Some b) cs r cell lt is read =
            let decodes = sym (decodes_as b) ∙ is in
            read cs decodes ∙ slice_get-get_or cs r none (omega (arith, counted b cs decodes))

    -- data with all parts has the cells of the chunk
    pub all_parts_decode : (part : Box) (held : ArrayData) → is_cut_by s sub ≡ true → IsLong part → LiesInShape part s
        → ((b : List ℕ) (cs : List Cell) → decoded b ≡ Some cs → length cs ≡ position_count sub)
        → HasAllParts k decoded fill s sub part parts held → DecodesPart k s part (sharded_decoded m at_start k fill s sub encoded) held
    all_parts_decode part held cut long lies counted h = record {
      given = h.given;
      are_cells = h.are_cells;
      count = h.count;
      same = λ whole is p holds.
          let inside = within_shape part.start part.shape s p (part_fits part s long lies) holds in
          cell_of_whole whole is p inside cut counted (cell_in part h.given p) (h.each p holds) ∙ ap (slice_get whole) (sym (place_in_chunk s p inside));
    }

    -- if one of them does not decode, the chunk does not
    pub broken_shard : IsBrokenShard decoded parts → sharded_decoded m at_start k fill s sub encoded ≡ None
    broken_shard broken = go (sharded_decoded m at_start k fill s sub encoded) refl
      where
        go : (o : Option (List Cell)) → sharded_decoded m at_start k fill s sub encoded ≡ o → sharded_decoded m at_start k fill s sub encoded ≡ None
        go None is = is
        go (Some whole) is =
            let a = shard_assembled m at_start k fill s sub encoded parts whole parts_are is in
            let j = broken.0 in
            let b = broken.1 in
            let some : m.decoded b ≡ Some (get_or a.subchunks j []) = ap (cells_of_part m fill sub) (sym broken.3) ∙ part_at m fill sub parts a.subchunks j a.read broken.2 in
            let no : None ≡ Some (get_or a.subchunks j []) = sym (decodes_as b ∙ broken.4) ∙ some in
            cc

  -- all subchunks that a part meets were read
  pub all_read : (part : Box) (parts : List (Option (List ℕ))) (met : List (List ℕ)) (held : ArrayData) → ((p : List ℕ) → Holds part p → is_among met (quotients p sub) ≡ true)
      → HasSubchunkParts k decoded fill s sub part parts met held → HasAllParts k decoded fill s sub part parts held
  all_read part parts met held each h = record {
    given = h.given;
    are_cells = h.are_cells;
    count = h.count;
    each = λ p holds. subst (λ b. IsReadOrFill b decoded fill s sub parts p (cell_in part h.given p)) (each p holds) (h.each p holds);
  }

  -- none was read
  pub none_read : (part : Box) (parts : List (Option (List ℕ))) (held : ArrayData) → IsLong part → cells k held ≡ Some (replicate (position_count part.shape) fill) → HasSubchunkParts k decoded fill s sub part parts [] held
  none_read part parts held long is = record {
    given = replicate (position_count part.shape) fill;
    are_cells = is;
    count = length-replicate (position_count part.shape) fill;
    each = λ p holds.
        let lt = place_in_below part p long holds in
        slice_get-get_or (replicate (position_count part.shape) fill) (place_in part p) none (omega (arith, length-replicate {A = Cell} (position_count part.shape) fill))
        ∙ ap Some (get_or-replicate (position_count part.shape) (place_in part p) fill none lt);
  }

-- the subchunks of a box have its positions
pub met_among : (met : Box) (index : List ℕ) → IsLong met → Holds met index → is_among (positions met) index ≡ true
met_among met index long holds = among_at (positions met) (place_in met index) index (positions_all met.start met.shape index long holds)

-- ---- refusals

pub step_refused : (dec : Option (List Cell)) (Whole : Type 0) (decoded : List ℕ → Option (List Cell)) (TooLarge : ℕ → List ℕ → Type 0) (parts : List (Option (List ℕ))) (refuses : Bool) (e : PartError)
    → (IsBrokenShard decoded parts → dec ≡ None) → (HasTooLarge TooLarge parts → Whole) → RefusesStep decoded TooLarge parts refuses e → RefusesPartDecoding dec Whole refuses e
step_refused dec Whole decoded TooLarge parts refuses (Codec (codec.DoesNotFit _)) broken large why = broken why
step_refused dec Whole decoded TooLarge parts refuses (Codec codec.SizeOverflow) broken large why = large why
step_refused dec Whole decoded TooLarge parts refuses (Codec codec.OutOfMemory) broken large why = why
step_refused dec Whole decoded TooLarge parts refuses (Source e) broken large why = why

-- what the inner decoder refuses
pub inner_refused : (decoded : List ℕ → Option (List Cell)) (TooLarge : ℕ → List ℕ → Type 0) (Large : Type 0) (parts : List (Option (List ℕ))) (n : ℕ) (encoded : List ℕ) (refuses : Bool) (e : PartError)
    → n < length parts → slice_index_or parts n None ≡ Some encoded → (Large → TooLarge n encoded) → RefusesPartDecoding (decoded encoded) Large refuses e → RefusesStep decoded TooLarge parts refuses e
inner_refused decoded TooLarge Large parts n encoded refuses (Codec (codec.DoesNotFit _)) lt is large why = (n, encoded, lt, is, why)
inner_refused decoded TooLarge Large parts n encoded refuses (Codec codec.SizeOverflow) lt is large why = record { number = n; encoded = encoded; below = lt; present = is; large = large why }
inner_refused decoded TooLarge Large parts n encoded refuses (Codec codec.OutOfMemory) lt is large why = why
inner_refused decoded TooLarge Large parts n encoded refuses (Source e) lt is large why = why

-- what the bytes of a part that was read refuse
pub refused_decoding : (dec : Option (List Cell)) (refuses : Bool) (leaf : LeafMeaning) (k : Kind) (n : ℕ) (b : List ℕ) (e : CodecError) → RefusesDecoding leaf k n b e → (leaf.decoded k n b ≡ None → dec ≡ None)
    → RefusesPartDecoding dec ⊥ refuses (Codec e)
refused_decoding dec refuses leaf k n b (codec.DoesNotFit _) why next = next why
refused_decoding dec refuses leaf k n b codec.SizeOverflow why next = absurd why
refused_decoding dec refuses leaf k n b codec.OutOfMemory why next = why
