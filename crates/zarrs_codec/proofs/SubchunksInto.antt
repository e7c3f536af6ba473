-- Reads of parts of shards into targets, one subchunk after another.
use Rattle.std.proofs.Common.{◌≡◌, ℕ, ◌+◌, ◌-◌, ◌<◌, ◌≤◌, Bool, true, false, ◌&&◌, ◌||◌, List, [], ◌∷◌, ◌++◌, length, take, slice_get, Option, None, Some, inl, inr, refl, sym, ap, ◌∙◌, subst, arith}
use Rattle.std.specs.Prelude.{slice_index, slice_index_or, nat_eq}
use Rattle.std.specs.Cmp.Lexicographic.{pointwise, same_text}
use Rattle.std.proofs.lemmas.Bool.{and_from, cases_Bool, eq-eqb, false≢true}
use Rattle.std.proofs.lemmas.List.{take_more, take_all}
use Rattle.std.proofs.lemmas.Option.{slice_get_within, get_or_from_slice_get}
use Rattle.zarrs_data_type.specs.ArrayData.{ArrayData}
use Rattle.zarrs_data_type.specs.Cells.{cell_at}
use Rattle.zarrs_codec_shard.specs.Sharded.{SubchunkMeaning, sharded_decoded}
use Rattle.zarrs_codec_shard.specs.Shards.{shard_parts}
use Rattle.zarrs_codec_shard.specs.Subchunks.{corner, is_cut_by, quotients, remainders, subchunk_box, subchunk_count}
use Rattle.zarrs_codec_shard.proofs.Cuts.{position_divided}
use Rattle.zarrs_codec_shard.proofs.SubchunkBoxes.{only_own, place_in_chunk}
use Rattle.zarrs_subset.specs.Boxes.{InShape, offset_by, offset_from, place, position_count}
use Rattle.zarrs_subset.specs.Regions.{Box, Holds, IsLong, LiesInShape, box_at_origin, box_from, cell_in, in_box, place_in, positions, seen_from}
use Rattle.zarrs_subset.proofs.Bytes.{holds_along}
use Rattle.zarrs_data_type.specs.Targets.{KeepsOutside}
use Rattle.zarrs_data_type.specs.Cell.{Cell, is_value}
use Rattle.zarrs_data_type.specs.Kind.{Kind, fixed_size}
use Rattle.zarrs_subset.specs.Regions.{LiesInBox}
use Rattle.zarrs_subset.proofs.Inside.{holds_inside}
use Rattle.zarrs_codec_chain.specs.Parts.{DecodesPartAt, place_at}
use Rattle.zarrs_codec_chain.specs.ShardParts.{DecodesAs, IsCellOf, MeetsPart, is_among}
use Rattle.zarrs_codec_chain.proofs.MovedBoxes.{moved_box, moved_holds, moved_in, moved_same, moved_to}
use Rattle.zarrs_codec_chain.proofs.PartBoxes.{part_fits, within_shape}
use Rattle.zarrs_codec_chain.proofs.Stays.{cell_stays}
use Rattle.zarrs_codec_chain.proofs.SubchunkPieces.{subset_is}
use Rattle.zarrs_codec_chain.proofs.SubchunkSteps.{cell_of_whole, holds_seen, met_among, own_holds, own_place, seen_again}
use Rattle.zarrs_codec_array.specs.declared.array.ArrayToArrayCodec.{ArrayToArrayCodec}
use Rattle.zarrs_codec_chain.specs.Chain.{ChainMeaning}
use Rattle.zarrs_codec.specs.ChainLaws.{same_cells}
use Rattle.zarrs_codec.specs.Chains.{behind, no_codec}
use Rattle.zarrs_codec.specs.ShardPartsInto.{DecodesPieceAt, HasAllPartsAt, HasSubchunksAt, IsPartValue, ReadsSubchunkAt}

-- ---- index lists

same_index : (i : List ℕ) → pointwise nat_eq i i ≡ true
same_index [] = refl
same_index (x ∷ i) = and_from (nat_eq x x) (pointwise nat_eq i i) (eq-eqb x x refl) (same_index i)

among_more : (done : List (List ℕ)) (i q : List ℕ) → is_among done q ≡ false → pointwise nat_eq i q ≡ false → is_among (done ++ i ∷ []) q ≡ false
among_more [] i q none other = ap (λ b. b || false) other
among_more (d ∷ done) i q none other =
    let parts = neither (pointwise nat_eq d q) (is_among done q) none in
    ap (λ b. b || is_among (done ++ i ∷ []) q) parts.0 ∙ among_more done i q parts.1 other
  where
    neither : (a b : Bool) → (a || b) ≡ false → (a ≡ false) × (b ≡ false)
    neither true b is = absurd (false≢true (sym is))
    neither false b is = (refl, is)

module _ (s sub : List ℕ) (part : Box) (cut : is_cut_by s sub ≡ true) (long : IsLong part) (lies : LiesInShape part s) where
  in_shape : (p : List ℕ) → Holds part p → InShape s p
  in_shape p holds = within_shape part.start part.shape s p (part_fits part s long lies) holds

-- ---- one more subchunk

module _ (k : Kind) (decoded : List ℕ → Option (List Cell)) (fill : Cell) (s sub : List ℕ) (part : Box) (parts : List (Option (List ℕ))) (box own : Box) where
  abbrev cell : ArrayData → List ℕ → Cell
  cell held p = cell_at k held (place_at box own part p)

  abbrev Has : List (List ℕ) → ArrayData → Type 0
  Has done held = HasSubchunksAt k decoded fill s sub part parts done box own held

  abbrev Reads : List ℕ → ArrayData → ArrayData → Type 0
  Reads i old new = ReadsSubchunkAt k decoded fill s sub part parts i box own old new

  -- the cells of the read subchunk changed, and no other
  pub more_at : (i : List ℕ) (old new : ArrayData)
      → ((p : List ℕ) → Holds part p → quotients p sub ≡ i → IsPartValue k decoded fill s sub parts p (cell new p))
      → ((p : List ℕ) → Holds part p → (quotients p sub ≡ i → ⊥) → cell new p ≡ cell old p) → Reads i old new
  more_at i old new changed kept done h = λ p holds among. go p holds among (pointwise nat_eq i (quotients p sub)) refl (is_among done (quotients p sub)) refl
    where
      go : (p : List ℕ) → Holds part p → is_among (done ++ i ∷ []) (quotients p sub) ≡ true → (b : Bool) → pointwise nat_eq i (quotients p sub) ≡ b → (a : Bool) → is_among done (quotients p sub) ≡ a
          → IsPartValue k decoded fill s sub parts p (cell new p)
      go p holds among true same a before = changed p holds (sym (same_text i (quotients p sub) (sym same)))
      go p holds among false other true before =
          subst (IsPartValue k decoded fill s sub parts p) (sym (kept p holds (λ e. false≢true (sym other ∙ ap (pointwise nat_eq i) e ∙ same_index i)))) (h p holds before)
      go p holds among false other false before =
          absurd (false≢true (sym (among_more done i (quotients p sub) before other) ∙ among))

  -- indices without a position of the part change nothing
  pub skip_at : (i : List ℕ) (held : ArrayData) → ((p : List ℕ) → Holds part p → quotients p sub ≡ i → ⊥) → Reads i held held
  skip_at i held none = more_at i held held (λ p holds is. absurd (none p holds is)) (λ p holds other. refl)

  -- the piece of a subchunk that the part meets
  module _ (size : ℕ) (fixed_is : fixed_size k ≡ Some size) (fill_value : is_value k fill ≡ true) (cut : is_cut_by s sub ≡ true) (long : IsLong part) (lies : LiesInShape part s)
      (box_long : IsLong box) (own_long : IsLong own) (same_shape : own.shape ≡ part.shape) (own_lies : LiesInBox own box)
      (i : List ℕ) (n : ℕ) (shared : Box) (shared_long : IsLong shared) (shared_lies : LiesInBox shared part) (in_grid : InShape (quotients s sub) i) (at_n : place (quotients s sub) i ≡ n)
      (common : (p : List ℕ) → in_box shared p ≡ (in_box part p && in_box (subchunk_box s sub n) p))
      (corner_len : length (corner sub i) ≡ length shared.start) (above : (j : ℕ) → j < length shared.start → slice_index (corner sub i) j ≤ slice_index shared.start j) where
    box_is : subchunk_box s sub n ≡ box_from (corner sub i) sub
    box_is = subset_is s sub part i n cut long lies in_grid at_n

    there : (p : List ℕ) → Holds part p → quotients p sub ≡ i → in_box shared p ≡ true
    there p holds is =
        common p
        ∙ and_from (in_box part p) (in_box (subchunk_box s sub n) p) holds
        (subst (λ b. in_box b p ≡ true) (sym box_is) (own_holds s sub i p cut (in_shape s sub part cut long lies p holds) is))

    not_there : (p : List ℕ) → Holds part p → (quotients p sub ≡ i → ⊥) → in_box shared p ≡ false
    not_there p holds other = elim (cases_Bool (in_box (subchunk_box s sub n) p)) [
      | inl is ↦ absurd (other (only_own s sub i p cut in_grid (in_shape s sub part cut long lies p holds) (subst (λ b. in_box b p ≡ true) box_is is)))
      | inr is ↦ common p ∙ ap (λ b. in_box part p && b) is ∙ and_false (in_box part p)
    ]
      where
        and_false : (a : Bool) → (a && false) ≡ false
        and_false true = refl
        and_false false = refl

    piece_value : (o : Option (List ℕ)) (new : ArrayData) → DecodesPieceAt k decoded fill sub (seen_from shared (corner sub i)) o box (moved_box own part shared) new
        → (p : List ℕ) → Holds part p → quotients p sub ≡ i → (is_value k (cell new p) ≡ true) × IsCellOf decoded fill (place sub (remainders p sub)) o (Some (cell new p))
    piece_value None new read p holds is =
        let here = moved_in own part shared own_long long shared_long same_shape shared_lies p holds ∙ there p holds is in
        let filled : cell new p ≡ fill = read (moved_to own part p) here in
        (ap (is_value k) filled ∙ fill_value, ap Some filled)
    piece_value (Some encoded) new read p holds is =
        let here = there p holds is in
        let long_p : length p ≡ length shared.start = (holds_along shared p shared_long here).same_length in
        let q = offset_from (corner sub i) p in
        let seen = holds_seen shared (corner sub i) p shared_long corner_len above here in
        let d = position_divided s sub p cut (in_shape s sub part cut long lies p holds) in
        let at : place_at box (moved_box own part shared) (seen_from shared (corner sub i)) q ≡ place_at box own part p =
        ap (λ x. place_in box (offset_by (moved_box own part shared).start x)) (seen_again shared.start (corner sub i) p corner_len long_p above)
        ∙ ap (place_in box) (moved_same own part shared own_long long shared_long same_shape shared_lies p here) in
        let got = read q seen in
        let cell_is : cell_at k new (place_at box (moved_box own part shared) (seen_from shared (corner sub i)) q) ≡ cell new p = ap (cell_at k new) at in (
          ap (is_value k) (sym cell_is) ∙ got.value,
          λ cs decodes.
              ap Some (sym cell_is) ∙ got.same cs decodes
              ∙ ap (λ x. cell_in (box_at_origin sub) cs x) (own_place s sub i p cut (in_shape s sub part cut long lies p holds) is)
              ∙ ap (slice_get cs) (place_in_chunk sub (remainders p sub) d.in_part),
        )

    pub piece_at : (o : Option (List ℕ)) (old new : ArrayData) → slice_index_or parts n None ≡ o → KeepsOutside size box (moved_box own part shared) old new
        → DecodesPieceAt k decoded fill sub (seen_from shared (corner sub i)) o box (moved_box own part shared) new → Reads i old new
    piece_at o old new part_is keeps read =
        more_at i old new
        (λ p holds is.
        let v = piece_value o new read p holds is in
        let number : slice_index_or parts (place (quotients s sub) (quotients p sub)) None ≡ o =
        ap (λ j. slice_index_or parts (place (quotients s sub) j) None) is ∙ ap (λ j. slice_index_or parts j None) at_n ∙ part_is in
        record {
          value = v.0;
          same = subst (λ x. IsCellOf decoded fill (place sub (remainders p sub)) x (Some (cell new p))) (sym number) v.1;
        })
        (λ p holds other.
        let q = moved_to own part p in
        let inside = holds_inside own box q own_long box_long own_lies (moved_holds own part own_long long same_shape p holds) in
        cell_stays k size box (moved_box own part shared) old new fixed_is keeps q inside
        (moved_in own part shared own_long long shared_long same_shape shared_lies p holds ∙ not_there p holds other))

  -- ---- all of them

  module _ (met : List (List ℕ)) where
    -- one more of them
    pub more_walked : (n m : ℕ) (i : List ℕ) (old new : ArrayData) → m ≡ n + 1 → slice_get met n ≡ Some i → Has (take n met) old → Reads i old new → Has (take m met) new
    more_walked n m i old new is at h one =
        let next : take m met ≡ take n met ++ i ∷ [] =
        ap (λ x. take x met) is ∙ take_more met n i (slice_get_within met n i at) ∙ ap (λ x. take n met ++ x ∷ []) (get_or_from_slice_get met n i i at) in
        subst (λ (done : List (List ℕ)). Has done new) (sym next) (one (take n met) h)

    pub last_walked : (n : ℕ) (held : ArrayData) → n ≡ length met → Has (take n met) held → Has met held
    last_walked n held all h =
        let whole : take n met ≡ met = ap (λ n. take n met) all ∙ take_all (length met) met (omega arith) in
        subst (λ (done : List (List ℕ)). Has done held) whole h

  -- none of them
  pub none_at : (held : ArrayData) → Has [] held
  none_at held = λ p holds among. absurd (false≢true among)

  -- the part has no position that another subchunk has
  pub all_at : (met : Box) (held : ArrayData) → IsLong met → MeetsPart sub part met → Has (positions met) held → HasAllPartsAt k decoded fill s sub part parts box own held
  all_at met held met_long meets h = λ p holds. h p holds (met_among met (quotients p sub) met_long (meets p holds))

  -- what all of them have is what the shard decodes to
  pub parts_decode_at : (m : SubchunkMeaning) (at_start : Bool) (encoded : List ℕ) (held : ArrayData) → DecodesAs m decoded → shard_parts at_start (subchunk_count s sub) encoded ≡ Some parts
      → is_cut_by s sub ≡ true → IsLong part → LiesInShape part s → ((b : List ℕ) (cs : List Cell) → decoded b ≡ Some cs → length cs ≡ position_count sub)
      → HasAllPartsAt k decoded fill s sub part parts box own held → DecodesPartAt k s part (sharded_decoded m at_start k fill s sub encoded) box own held
  parts_decode_at m at_start encoded held decodes_as parts_are cut long lies counted h = λ p holds.
      let v = h p holds in
      let inside = within_shape part.start part.shape s p (part_fits part s long lies) holds in
      record {
        value = v.value;
        same = λ whole is.
            cell_of_whole k decoded fill s sub m at_start encoded parts decodes_as parts_are whole is p inside cut counted (Some (cell held p)) v.same ∙ ap (slice_get whole) (sym (place_in_chunk s p inside));
      }

-- ---- behind no codec

pub alone_at : (codecs : List ArrayToArrayCodec) (m : ChainMeaning) (k : Kind) (f : Cell) (s : List ℕ) (part : Box) (b : List ℕ) (box own : Box) (held : ArrayData) → no_codec codecs ≡ true
    → DecodesPartAt k s part (m.decoded k f s b) box own held → DecodesPartAt k s part ((behind codecs m).decoded k f s b) box own held
alone_at [] m k f s part b box own held alone h = subst (λ o. DecodesPartAt k s part o box own held) (sym (same_cells m k f s (Some b))) h
alone_at (c ∷ codecs) m k f s part b box own held alone h = absurd (false≢true alone)
