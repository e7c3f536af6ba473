-- The cells of one subchunk in a read of a part of a shard.
use Rattle.std.proofs.Common.{◌≡◌, ℕ, ◌<◌, ◌≤◌, Bool, true, false, cond, ◌&&◌, List, length, slice_get, Option, None, Some, refl, sym, ap, ◌∙◌, subst}
use Rattle.std.specs.Prelude.{slice_index, slice_index_or}
use Rattle.std.proofs.lemmas.Bool.{and_from, and_parts}
use Rattle.zarrs_data_type.specs.ArrayData.{ArrayData}
use Rattle.zarrs_data_type.specs.Cells.{HasCells}
use Rattle.zarrs_data_type.specs.Parts.{TakesCells}
use Rattle.zarrs_data_type_bytes.proofs.Cells.{HasCells-some}
use Rattle.zarrs_codec_shard.specs.Subchunks.{corner, is_cut_by, quotients, remainders, subchunk_box}
use Rattle.zarrs_codec_shard.proofs.Cuts.{position_divided}
use Rattle.zarrs_codec_shard.proofs.SubchunkBoxes.{only_own, place_in_chunk}
use Rattle.zarrs_subset.specs.Boxes.{position_count, InShape, place, offset_from}
use Rattle.zarrs_subset.specs.Regions.{Box, Holds, IsLong, LiesInShape, box_at_origin, box_from, cell_in, in_box, seen_from}
use Rattle.zarrs_subset.proofs.Bytes.{holds_along}
use Rattle.zarrs_data_type.specs.Cell.{Cell}
use Rattle.zarrs_data_type.specs.Kind.{Kind}
use Rattle.zarrs_codec_chain.specs.Parts.{DecodesPart}
use Rattle.zarrs_codec_chain.specs.ShardParts.{HasAllParts, IsCellOf, IsPartCell, ReadsSubchunk}
use Rattle.zarrs_codec_chain.proofs.PartBoxes.{part_fits, within_shape}
use Rattle.zarrs_codec_chain.proofs.SubchunkPieces.{subset_is}
use Rattle.zarrs_codec_chain.proofs.SubchunkSteps.{holds_seen, own_holds, own_place, read_more, seen_again}
use Rattle.zarrs_codec.specs.ShardPieces.{HasPiece}
use Rattle.zarrs_data_type_bytes.proofs.FixedSizes.{some_is}

module _ (k : Kind) (decoded : List ℕ → Option (List Cell)) (fill : Cell) (s sub : List ℕ) (part : Box) (parts : List (Option (List ℕ))) where
  -- the cells that the chain of the subchunks decodes
  pub piece_read : (i : List ℕ) (n : ℕ) (encoded : List ℕ) (shared : Box) (made : ArrayData) → is_cut_by s sub ≡ true → IsLong part → LiesInShape part s → IsLong shared
      → InShape (quotients s sub) i → place (quotients s sub) i ≡ n → slice_index_or parts n None ≡ Some encoded
      → ((p : List ℕ) → in_box shared p ≡ (in_box part p && in_box (subchunk_box s sub n) p))
      → length (corner sub i) ≡ length shared.start → ((j : ℕ) → j < length shared.start → slice_index (corner sub i) j ≤ slice_index shared.start j)
      → length part.start ≡ length shared.start → DecodesPart k sub (seen_from shared (corner sub i)) (decoded encoded) made
      → HasPiece k decoded fill s sub part parts i shared made
  piece_read i n encoded shared made cut long lies shared_long in_grid at_n present common corner_len above dimensions read = record {
    dimensions = dimensions;
    own = λ p holds is. common p ∙ and_from (in_box part p) (in_box (subchunk_box s sub n) p) holds (subst (λ b. in_box b p ≡ true) (sym box_is) (own_holds s sub i p cut (inside p holds) is));
    others = λ p holds other. common p ∙ not_there p (in_box (subchunk_box s sub n) p) refl (inside p holds) other;
    given = read.given;
    are_cells = read.are_cells;
    count = read.count;
    each = λ p holds there.
        let both = and_parts (in_box part p) (in_box (subchunk_box s sub n) p) (sym (common p) ∙ there) in
        let is : quotients p sub ≡ i = only_own s sub i p cut in_grid (inside p holds) (subst (λ b. in_box b p ≡ true) box_is both.1) in
        let where_is : slice_index_or parts (place (quotients s sub) (quotients p sub)) None ≡ Some encoded =
        ap (λ j. slice_index_or parts (place (quotients s sub) j) None) is ∙ ap (λ j. slice_index_or parts j None) at_n ∙ present in
        subst (λ o. IsCellOf decoded fill (place sub (remainders p sub)) o (cell_in shared read.given p)) (sym where_is)
        (λ cs decodes.
        let long_p : length p ≡ length shared.start = (holds_along shared p shared_long there).same_length in
        let seen = holds_seen shared (corner sub i) p shared_long corner_len above there in
        let r = own_place s sub i p cut (inside p holds) is in
        let d = position_divided s sub p cut (inside p holds) in
        ap (λ q. slice_get read.given (place shared.shape q)) (sym (seen_again shared.start (corner sub i) p corner_len long_p above))
        ∙ read.same cs decodes (offset_from (corner sub i) p) seen
        ∙ ap (λ q. cell_in (box_at_origin sub) cs q) r
        ∙ ap (slice_get cs) (place_in_chunk sub (remainders p sub) d.in_part));
  }
    where
      box_is : subchunk_box s sub n ≡ box_from (corner sub i) sub
      box_is = subset_is s sub part i n cut long lies in_grid at_n

      inside : (p : List ℕ) → Holds part p → InShape s p
      inside p holds = within_shape part.start part.shape s p (part_fits part s long lies) holds

      and_false : (a : Bool) → (a && false) ≡ false
      and_false true = refl
      and_false false = refl

      not_there : (p : List ℕ) → (b : Bool) → in_box (subchunk_box s sub n) p ≡ b → InShape s p → (quotients p sub ≡ i → ⊥) → (in_box part p && in_box (subchunk_box s sub n) p) ≡ false
      not_there p true is within other = absurd (other (only_own s sub i p cut in_grid within (subst (λ b. in_box b p ≡ true) box_is is)))
      not_there p false is within other = ap (λ b. in_box part p && b) is ∙ and_false (in_box part p)

  module _ (i : List ℕ) (shared : Box) (piece : ArrayData) (has : HasPiece k decoded fill s sub part parts i shared piece) where
    pub piece_cells : HasCells k piece (position_count shared.shape)
    piece_cells = subst (HasCells k piece) has.count (HasCells-some k piece has.given has.are_cells)

    -- they are put into data of the part
    pub piece_put : (old new : ArrayData) → TakesCells k part shared piece old new → ReadsSubchunk k decoded fill s sub part parts i old new
    piece_put old new taken done h =
        let old_same : taken.held ≡ h.given = some_is (sym taken.old_is ∙ h.are_cells) in
        let same : taken.given ≡ has.given = some_is (sym taken.part_is ∙ has.are_cells) in
        read_more k decoded fill s sub part parts done i old new taken.made h taken.new_is (taken.count ∙ ap length old_same ∙ h.count)
        (λ p holds is.
        let there = has.own p holds is in
        let at : cell_in part taken.made p ≡ cell_in shared has.given p =
        taken.takes p holds
        ∙ ap (λ b. cond b (cell_in shared taken.given p) (cell_in part taken.held p)) there
        ∙ ap (λ l. cell_in shared l p) same in
        subst (λ x. IsPartCell decoded fill s sub parts p x) (sym at) (has.each p holds there))
        (λ p holds other.
        taken.takes p holds
        ∙ ap (λ b. cond b (cell_in shared taken.given p) (cell_in part taken.held p)) (has.others p holds other)
        ∙ ap (λ l. cell_in part l p) old_same)

    -- they are all of a part that lies in the subchunk
    pub piece_alone : shared ≡ part → HasAllParts k decoded fill s sub part parts piece
    piece_alone same = record {
      given = has.given;
      are_cells = has.are_cells;
      count = has.count ∙ ap (λ b. position_count b.shape) same;
      each = λ p holds.
          subst (λ b. IsPartCell decoded fill s sub parts p (cell_in b has.given p)) same
          (has.each p holds (ap (λ b. in_box b p) same ∙ holds));
    }
