-- Shards that are read whole into targets.
use Rattle.std.proofs.Common.{◌≡◌, ℕ, ◌-◌, ◌<◌, true, List, [], ◌∷◌, length, replicate, get_or, slice_get, Option, None, Some, refl, sym, ap, ◌∙◌, subst, arith}
use Rattle.std.specs.Prelude.{IfSome, IsSome, option_map, slice_index}
use Rattle.std.proofs.lemmas.Bool.{false≢true}
use Rattle.std.proofs.lemmas.List.{get_or-replicate, length-replicate}
use Rattle.std.proofs.lemmas.List.Sums.{AllPass-from_list_all}
use Rattle.std.proofs.lemmas.Option.{slice_get-get_or, slice_get_within}
use Rattle.zarrs_data_type.specs.ArrayData.{ArrayData}
use Rattle.zarrs_data_type.specs.Cell.{Cell, are_values, is_value, none}
use Rattle.zarrs_data_type.specs.Cells.{cell_at}
use Rattle.zarrs_data_type.specs.Kind.{Kind}
use Rattle.zarrs_data_type_bytes.proofs.FixedSizes.{some_is}
use Rattle.zarrs_data_type_region.proofs.TargetBoxes.{origin_long}
use Rattle.zarrs_subset.specs.Boxes.{InShape, unravel, zip_with}
use Rattle.zarrs_subset.specs.Regions.{Box, IsLong, LiesInShape, box_at_origin, overlap_of, place_in, seen_from}
use Rattle.zarrs_subset.proofs.Overlaps.{AllSome}
use Rattle.zarrs_subset.proofs.Positions.{place-unravel, unravel_in}
use Rattle.zarrs_codec_array.specs.declared.array.ArrayToArrayCodec.{ArrayToArrayCodec}
use Rattle.zarrs_codec_shard.specs.Subchunks.{quotients}
use Rattle.zarrs_codec_shard.proofs.Grids.{cut_at, cut_len}
use Rattle.zarrs_codec_shard.proofs.SubchunkBoxes.{lies_in_chunk, long_corner}
use Rattle.zarrs_codec_chain.specs.Chain.{ChainMeaning}
use Rattle.zarrs_codec_chain.specs.Parts.{DecodesInto, DecodesPartAt}
use Rattle.zarrs_codec_chain.specs.ShardInto.{DecodesPartInto}
use Rattle.zarrs_codec_leaf.specs.declared.source.ByteSource.{Ghosts as SourceMeaning}
use Rattle.zarrs_codec_chain.specs.Places.{boxes_meet}
use Rattle.zarrs_codec_chain.specs.ShardReads.{IsOpen, ShardRead, box_at, count_of}
use Rattle.zarrs_codec_chain.specs.Stored.{bytes_of}
use Rattle.zarrs_codec_chain.specs.declared.stored.Stored.{Stored}
use Rattle.zarrs_codec_chain.proofs.SubchunkPieces.{meets, subset_is}
use Rattle.zarrs_codec_chain.proofs.AllOfIt.{whole_part}
use Rattle.zarrs_codec_chain.proofs.MovedBoxes.{moved_holds, moved_place, moved_to, overlap_inside}
use Rattle.zarrs_codec.specs.ChainLaws.{same_cells}
use Rattle.zarrs_codec.specs.Chains.{behind, no_codec}
use Rattle.zarrs_codec.specs.ShardPartsInto.{DecodesPieceAt}

-- ---- boxes

abbrev box_from_parts : List ℕ → List ℕ → Box
box_from_parts start shape = record { start = start; shape = shape }

pub origin_lies : (s : List ℕ) → LiesInShape (box_at_origin s) s
origin_lies s =
    let none : ℕ = 0 in
    record {
      same_length = length-replicate (length s) 0;
      ends = λ k lt. let zero_at : slice_index (replicate (length s) 0) k ≡ 0 = get_or-replicate (length s) k none none lt in omega arith;
    }

minus_self : (xs : List ℕ) → zip_with (λ s t. s - t) xs xs ≡ replicate (length xs) 0
minus_self [] = refl
minus_self (x ∷ xs) =
    let first : x - x ≡ 0 = omega arith in
    ap (λ y. y ∷ zip_with (λ s t. s - t) xs xs) first ∙ ap (λ l. 0 ∷ l) (minus_self xs)

-- a box that is seen from its own corner
pub seen_self : (b : Box) → IsLong b → seen_from b b.start ≡ box_at_origin b.shape
seen_self b long = ap (λ (x : List ℕ). box_from_parts x b.shape) (minus_self b.start ∙ ap (λ n. replicate n 0) long)

-- ---- chunks

-- a target that has the whole chunk has the part that is all of it
pub into_part : (k : Kind) (parent s : List ℕ) (part own : Box) (decoded : Option (List Cell)) (held : ArrayData) → IsLong part → IsLong own → own.shape ≡ part.shape → part ≡ box_at_origin s
    → ((cs : List Cell) → decoded ≡ Some cs → are_values k cs ≡ true)
    → DecodesInto k (box_at_origin parent) own decoded held → DecodesPartAt k s part decoded (box_at_origin parent) own held
into_part k parent s part own decoded held long own_long same part_is values d = λ position holds.
    let q = moved_to own part position in
    let there = moved_holds own part own_long long same position holds in
    let i = place_in part position in
    let cell = cell_at k held (place_in (box_at_origin parent) q) in
    let at : Some cell ≡ slice_get d.whole i = d.has q there ∙ ap (slice_get d.whole) (moved_place own part own_long long same position holds) in
    let below : i < length d.whole = slice_get_within d.whole i cell (sym at) in
    let got : cell ≡ get_or d.whole i none = some_is (at ∙ slice_get-get_or d.whole i none below) in
    record {
      value = ap (is_value k) got ∙ AllPass-from_list_all (λ c. is_value k c) d.whole (values d.whole d.decoded_is) i none below;
      same = λ w is. at ∙ ap (λ (l : List Cell). slice_get l i) (some_is (sym d.decoded_is ∙ is)) ∙ ap (λ (b : Box). slice_get w (place_in b position)) part_is;
    }

-- what decodes behind no codec
pub alone_some : (codecs : List ArrayToArrayCodec) (m : ChainMeaning) (k : Kind) (f : Cell) (s b : List ℕ) → no_codec codecs ≡ true
    → IsSome (m.decoded k f s b) → IsSome ((behind codecs m).decoded k f s b)
alone_some [] m k f s b alone some = subst IsSome (sym (same_cells m k f s (Some b))) some
alone_some (c ∷ codecs) m k f s b alone some = absurd (false≢true alone)

-- ---- subchunks

pub some_bytes : {B : Type 0} {b : SourceMeaning B} (decoded : List ℕ → Option (List Cell)) (stored : Option (Stored B b)) → IfSome stored (λ own. IsSome (decoded (bytes_of own)))
    → IfSome (option_map bytes_of stored) (λ x. IsSome (decoded x))
some_bytes decoded None some = some
some_bytes decoded (Some own) some = some

-- a subchunk that was read whole
pub piece_whole : (k : Kind) (decoded : List ℕ → Option (List Cell)) (fill : Cell) (parent sub : List ℕ) (piece own : Box) (o : Option (List ℕ)) (held : ArrayData)
    → IsLong own → own.shape ≡ sub → piece ≡ box_at_origin sub → IfSome o (λ b. IsSome (decoded b))
    → DecodesPieceAt k decoded fill sub piece o (box_at_origin parent) own held → DecodesPartInto k decoded fill (box_at_origin parent) own o held
piece_whole k decoded fill parent sub piece own None held long same piece_is some d = d
piece_whole k decoded fill parent sub piece own (Some b) held long same piece_is some d = whole_part k parent sub piece own (decoded b) held long same piece_is some d

module _ (r : ShardRead) (is : IsOpen r) (n : ℕ) (part_is : r.part ≡ box_at_origin r.shape) (lt : n < count_of r) where
  own_grid : InShape (quotients r.shape r.sub) (unravel (quotients r.shape r.sub) n)
  own_grid = unravel_in (quotients r.shape r.sub) n lt

  pub own_long : IsLong (box_at r n)
  own_long = long_corner r.shape r.sub (unravel (quotients r.shape r.sub) n) is.cut own_grid

  -- the whole chunk has all of the subchunk
  pub shared_is : overlap_of r.part (box_at r n) ≡ box_at r n
  shared_is =
      ap (λ (b : Box). overlap_of b (box_at r n)) part_is
      ∙ overlap_inside (box_at_origin r.shape) (box_at r n) (origin_long r.shape) own_long (lies_in_chunk r.shape r.sub (unravel (quotients r.shape r.sub) n) is.cut own_grid)

  pub all_met : boxes_meet r.part (box_at r n) ≡ true
  all_met =
      let all : AllSome (box_at r n).shape = λ j below nothing.
      let some : 0 < slice_index r.sub j = (cut_at r.shape r.sub j is.cut (omega (arith, (cut_len r.shape r.sub is.cut).0))).1 in
      omega arith in
      meets r.shape r.sub r.part (unravel (quotients r.shape r.sub) n) n is.cut is.long is.lies own_grid (place-unravel (quotients r.shape r.sub) n lt)
      (subst (λ (b : Box). AllSome (overlap_of r.part b).shape) (ap (λ (b : Box). b) (subset_is r.shape r.sub r.part (unravel (quotients r.shape r.sub) n) n is.cut is.long is.lies own_grid (place-unravel (quotients r.shape r.sub) n lt)))
      (subst (λ (b : Box). AllSome b.shape) (sym shared_is) all))
