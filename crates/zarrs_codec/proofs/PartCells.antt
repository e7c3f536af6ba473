-- The cells of a chunk, subchunk by subchunk.
use Rattle.std.proofs.Common.{◌≡◌, ℕ, zero, suc, ◌+◌, ◌*◌, ◌<◌, ◌≤◌, ◌^◌, Bool, true, false, List, [], ◌∷◌, ◌++◌, length, map, take, get_or, replicate, Option, None, Some, IsSome, refl, sym, ap, subst, ◌∙◌, arith}
use Rattle.std.specs.Prelude.{is_some, unwrap_or}
use Rattle.std.specs.List.{list_all, list_any}
use Rattle.std.proofs.lemmas.Bool.{and_from, or_left, or_right}
use Rattle.std.proofs.lemmas.List.{length-map, length-take-le, map-append, take_more, get_or-map}
use Rattle.std.proofs.Math.Seq.{take-length}
use Rattle.zarrs_data_type.specs.ArrayData.{ArrayData}
use Rattle.zarrs_data_type.specs.Cell.{Cell, are_values, held_size, values_only}
use Rattle.zarrs_data_type.specs.Cells.{cells, HasCells}
use Rattle.zarrs_data_type.specs.Kind.{Kind}
use Rattle.zarrs_data_type_bytes.proofs.Cells.{cells-values, HasCells-some}
use Rattle.zarrs_subset.specs.Boxes.{position_count}
use Rattle.zarrs_codec_leaf.specs.declared.error.CodecError.{CodecError}
use Rattle.zarrs_codec_leaf.specs.declared.error.CodecError.TheVariants as error
use Rattle.zarrs_metadata_parts.specs.Extension.{◌>>=◌}
use Rattle.zarrs_codec_shard.specs.Sharded.{cells_of_parts, part_leaves_out, sharded_fits}
use Rattle.zarrs_codec_shard.specs.Shards.{shard_parts}
use Rattle.zarrs_codec_shard.specs.ShardIndex.{range_part}
use Rattle.zarrs_codec_shard.specs.declared.shard_index.SubchunkRange.{SubchunkRange}
use Rattle.zarrs_codec_shard.specs.Steps.{all_present}
use Rattle.zarrs_codec_shard.specs.SubchunkData.{HasSubchunks, PutsSubchunk}
use Rattle.zarrs_codec_shard.specs.Subchunks.{is_cut_by, subchunk_count, assembled}
use Rattle.zarrs_codec_shard.proofs.Filling.{filled_start, filled_whole, leave_next, put_next}
use Rattle.zarrs_codec_shard.proofs.ShardLaws.{length-shard_parts}
use Rattle.zarrs_codec_shard.proofs.Sizes.{part_large}
use Rattle.zarrs_codec_shard.proofs.Missing.{given_if-true, all_present-more, all_present-none, length-all_present}
use Rattle.zarrs_codec_chain.specs.Chain.{ChainMeaning}
use Rattle.zarrs_codec_chain.specs.Refusals.{RefusesChunkDecoding}
use Rattle.zarrs_codec.specs.Shardings.{decoded_part, decoded_parts, sharded, subchunk_meaning, HasFirstCells, HasNextSubchunk, PutsPart, RefusesCells}

-- ---- absent parts

-- one is absent
not_whole : (parts : List (Option (List ℕ))) (n : ℕ) → n < length parts → get_or parts n None ≡ None → list_all is_some parts ≡ false
not_whole [] n lt at = absurd (omega arith)
not_whole (None ∷ parts) n lt at = refl
not_whole (Some b ∷ parts) zero lt at = cc
not_whole (Some b ∷ parts) (suc n) lt at = not_whole parts n (omega arith) at

module _ (inner : List ℕ → Bool) where
  -- one leaves out cells
  pub left_out : (parts : List (Option (List ℕ))) (n : ℕ) → n < length parts → part_leaves_out inner (get_or parts n None) ≡ true → list_any (part_leaves_out inner) parts ≡ true
  left_out [] n lt at = absurd (omega arith)
  left_out (p ∷ parts) zero lt at = or_left (part_leaves_out inner p) (list_any (part_leaves_out inner) parts) at
  left_out (p ∷ parts) (suc n) lt at = or_right (part_leaves_out inner p) (list_any (part_leaves_out inner) parts) (left_out parts n (omega arith) at)

  -- where not each is present
  some_left_out : (parts : List (Option (List ℕ))) → list_all is_some parts ≡ false → list_any (part_leaves_out inner) parts ≡ true
  some_left_out [] all = cc
  some_left_out (None ∷ parts) all = refl
  some_left_out (Some b ∷ parts) all = or_right (inner b) (list_any (part_leaves_out inner) parts) (some_left_out parts all)

-- the parts at these ranges
pub present_parts : (b : List ℕ) (ranges : List (Option SubchunkRange)) → list_all is_some (map (range_part b) ranges) ≡ list_all is_some ranges
present_parts b [] = refl
present_parts b (None ∷ ranges) = refl
present_parts b (Some r ∷ ranges) = present_parts b ranges

pub part_at : (b : List ℕ) (ranges : List (Option SubchunkRange)) (n : ℕ) (range : Option SubchunkRange) → n < length ranges → get_or ranges n None ≡ range
    → get_or (map (range_part b) ranges) n None ≡ range_part b range
part_at b ranges n range lt at = get_or-map (range_part b) ranges n None None lt ∙ ap (range_part b) at

-- ---- part by part

module _ (m : ChainMeaning) (k : Kind) (f : Cell) (s sub : List ℕ) where
  -- the cells of one more subchunk are put into the chunk
  pub puts_part : (number : ℕ) (b : List ℕ) (part old new : ArrayData) → number < subchunk_count s sub → cells k part ≡ m.decoded k f sub b → IsSome (cells k part)
      → PutsSubchunk k s sub number part old new → PutsPart m k f s sub number b old new
  puts_part number b part old new lt is there puts filler held count has = go (cells k part) refl there
    where
      go : (o : Option (List Cell)) → cells k part ≡ o → IsSome o → HasNextSubchunk m k f filler s sub held b new
      go None o_is some = let nothing : IsSome {T = List Cell} None = some in cc
      go (Some cs) o_is some = record {
        next = cs;
        next_is = sym is ∙ o_is;
        has = put_next k filler s sub held cs part old new (omega arith) has (subst (λ n. PutsSubchunk k s sub n part old new) (sym count) puts) o_is;
      }

  module _ (parts : List (Option (List ℕ))) where
    pub cells_started : (filler : Cell) (chunk : ArrayData) → is_cut_by s sub ≡ true → (list_all is_some parts ≡ false → filler ≡ f)
        → cells k chunk ≡ Some (replicate (position_count s) filler) → HasFirstCells m k f s sub parts 0 chunk
    cells_started filler chunk cut filler_is is = record {
      filler = filler;
      filler_is = filler_is;
      held = [];
      held_is = refl;
      has = filled_start k filler s sub chunk cut is;
    }

    pub held_cells : (n : ℕ) (chunk : ArrayData) → HasFirstCells m k f s sub parts n chunk → HasCells k chunk (position_count s)
    held_cells n chunk is = subst (λ x. HasCells k chunk x) is.has.count (HasCells-some k chunk is.has.held is.has.held_is)

    held_count : (n : ℕ) (chunk : ArrayData) → n < length parts → (is : HasFirstCells m k f s sub parts n chunk) → length is.held ≡ n
    held_count n chunk lt is =
        let P = decoded_part m k f sub in
        length-all_present (map P (take n parts)) is.held is.held_is ∙ length-map (take n parts) P ∙ length-take-le n parts (omega arith)

    next_held : (n : ℕ) (held : List (List Cell)) (part : Option (List ℕ)) (next : List Cell) → n < length parts → get_or parts n None ≡ part → all_present (map (decoded_part m k f sub) (take n parts)) ≡ Some held
        → decoded_part m k f sub part ≡ Some next → all_present (map (decoded_part m k f sub) (take (n + 1) parts)) ≡ Some (held ++ next ∷ [])
    next_held n held part next lt at held_is next_is =
        let P = decoded_part m k f sub in
        ap (λ l. all_present (map P l)) (take_more parts n None lt)
        ∙ ap all_present (map-append P (take n parts) (get_or parts n None ∷ []))
        ∙ all_present-more (map P (take n parts)) held (P (get_or parts n None)) next held_is (ap P at ∙ next_is)

    -- one more that is present
    pub cells_more : (n : ℕ) (b : List ℕ) (old new : ArrayData) → n < length parts → get_or parts n None ≡ Some b → HasFirstCells m k f s sub parts n old → PutsPart m k f s sub n b old new
        → HasFirstCells m k f s sub parts (n + 1) new
    cells_more n b old new lt at is puts =
        let p = puts is.filler is.held (held_count n old lt is) is.has in
        record {
          filler = is.filler;
          filler_is = is.filler_is;
          held = is.held ++ p.next ∷ [];
          held_is = next_held n is.held (Some b) p.next lt at is.held_is p.next_is;
          has = p.has;
        }

    -- one more that is absent
    pub cells_left : (n : ℕ) (chunk : ArrayData) → n < length parts → length parts ≡ subchunk_count s sub → get_or parts n None ≡ None → HasFirstCells m k f s sub parts n chunk
        → HasFirstCells m k f s sub parts (n + 1) chunk
    cells_left n chunk lt count at is =
        let same : is.filler ≡ f = is.filler_is (not_whole parts n lt at) in
        let room : length is.held < subchunk_count s sub = omega (arith, held_count n chunk lt is) in
        let left = leave_next k is.filler s sub is.held chunk room is.has in
        record {
          filler = is.filler;
          filler_is = is.filler_is;
          held = is.held ++ replicate (position_count sub) f ∷ [];
          held_is = next_held n is.held None (replicate (position_count sub) f) lt at is.held_is refl;
          has = subst (λ x. HasSubchunks k is.filler s sub (is.held ++ replicate (position_count sub) x ∷ []) chunk) same left;
        }

    pub cells_all : (chunk : ArrayData) → is_cut_by s sub ≡ true → length parts ≡ subchunk_count s sub → HasFirstCells m k f s sub parts (length parts) chunk
        → cells k chunk ≡ decoded_parts m k f s sub parts
    cells_all chunk cut count is =
        let P = decoded_part m k f sub in
        let whole : all_present (map P parts) ≡ Some is.held = ap (λ l. all_present (map P l)) (sym (take-length parts)) ∙ is.held_is in
        let n : length is.held ≡ subchunk_count s sub = length-all_present (map P parts) is.held whole ∙ length-map parts P ∙ count in
        let made = filled_whole k is.filler s sub is.held chunk cut n is.has in
        made
        ∙ sym (ap (λ o. o >>= λ xs. values_only k (assembled s sub xs)) whole
        ∙ given_if-true (are_values k (assembled s sub is.held)) (Some (assembled s sub is.held)) (cells-values k chunk (assembled s sub is.held) made))

    -- ---- refusals

    pub cells_refused : (n : ℕ) (b : List ℕ) (e : CodecError) → is_cut_by s sub ≡ true → length parts ≡ subchunk_count s sub → n < length parts → get_or parts n None ≡ Some b
        → RefusesChunkDecoding m k f sub b e → RefusesCells m k f s sub parts e
    cells_refused n b (error.DoesNotFit _) cut count lt at why =
        let P = decoded_part m k f sub in
        ap (λ o. o >>= λ xs. values_only k (assembled s sub xs))
        (all_present-none (map P parts) n None (omega (arith, length-map parts P)) (get_or-map P parts n None None lt ∙ ap P at ∙ why))
    cells_refused n b error.SizeOverflow cut count lt at why = (
      left_out (m.leaves_out sub) parts n lt (ap (part_leaves_out (m.leaves_out sub)) at ∙ why.0),
      part_large s sub n (held_size k f) cut (omega arith) why.1,
    )
    cells_refused n b error.OutOfMemory cut count lt at why = why

    -- a chunk of fill is too large
    pub fill_refused : list_all is_some parts ≡ false → 2 ^ 64 ≤ position_count s * held_size k f → RefusesCells m k f s sub parts error.SizeOverflow
    fill_refused absent large = (some_left_out (m.leaves_out sub) parts absent, large)

-- ---- the shard of these parts

module _ (m : ChainMeaning) (at_start : Bool) (k : Kind) (f : Cell) (s sub b : List ℕ) (parts : List (Option (List ℕ))) (cut : is_cut_by s sub ≡ true) (fit : m.fits k sub ≡ true)
    (read : shard_parts at_start (subchunk_count s sub) b ≡ Some parts) where
  pub shard_cells : (sharded at_start sub m).decoded k f s b ≡ decoded_parts m k f s sub parts
  shard_cells =
      let one = subchunk_meaning m false k f sub in
      given_if-true (sharded_fits one s sub) (shard_parts at_start (subchunk_count s sub) b >>= cells_of_parts one k f s sub) (and_from (is_cut_by s sub) (m.fits k sub) cut fit)
      ∙ ap (λ o. o >>= cells_of_parts one k f s sub) read

  pub shard_refused : (e : CodecError) → RefusesCells m k f s sub parts e → RefusesChunkDecoding (sharded at_start sub m) k f s b e
  shard_refused (error.DoesNotFit _) why = shard_cells ∙ why
  shard_refused error.SizeOverflow why =
      let left = part_leaves_out (m.leaves_out sub) in
      (and_from (is_cut_by s sub) _ cut (ap (λ o. list_any left (unwrap_or o [])) read ∙ why.0), why.1)
  shard_refused error.OutOfMemory why = why

-- what is said of a shard and of its parts, where the chunk's shape is `shape` and the subchunks' `subshape`
pub record IsRead (m : ChainMeaning) (at_start : Bool) (k : Kind) (f : Cell) (s sub b shape subshape : List ℕ) (parts : List (Option (List ℕ))) : Type 0 where
  pub long : length parts ≡ subchunk_count shape subshape
  pub cells_are : (sharded at_start sub m).decoded k f s b ≡ decoded_parts m k f shape subshape parts
  pub refusal : (e : CodecError) → RefusesCells m k f shape subshape parts e → RefusesChunkDecoding (sharded at_start sub m) k f s b e

pub is_read : (m : ChainMeaning) (at_start : Bool) (k : Kind) (f : Cell) (s sub b shape subshape : List ℕ) (parts : List (Option (List ℕ))) (count : ℕ) → shape ≡ s → subshape ≡ sub → is_cut_by shape subshape ≡ true
    → m.fits k sub ≡ true → count ≡ subchunk_count shape subshape → shard_parts at_start count b ≡ Some parts → IsRead m at_start k f s sub b shape subshape parts
is_read m at_start k f s sub b shape subshape parts count shape_is sub_is cut fit count_is read =
    let cut_here : is_cut_by s sub ≡ true = subst (λ x. is_cut_by s x ≡ true) sub_is (subst (λ x. is_cut_by x subshape ≡ true) shape_is cut) in
    let count_here : count ≡ subchunk_count s sub = count_is ∙ ap (λ x. subchunk_count x subshape) shape_is ∙ ap (subchunk_count s) sub_is in
    let read_here : shard_parts at_start (subchunk_count s sub) b ≡ Some parts = subst (λ n. shard_parts at_start n b ≡ Some parts) count_here read in
    let here : IsRead m at_start k f s sub b s sub parts = record {
      long = length-shard_parts at_start (subchunk_count s sub) b parts read_here;
      cells_are = shard_cells m at_start k f s sub b parts cut_here fit read_here;
      refusal = shard_refused m at_start k f s sub b parts cut_here fit read_here;
    } in
    subst (λ x. IsRead m at_start k f s sub b x subshape parts) (sym shape_is) (subst (λ x. IsRead m at_start k f s sub b s x parts) (sym sub_is) here)
