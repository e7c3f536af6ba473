-- A part of a chunk's cells written into its shard, subchunk by subchunk.
use Rattle.std.proofs.Common.{◌≡◌, ℕ, zero, suc, ◌+◌, ◌<◌, ◌≤◌, ◌*◌, ◌^◌, not, ◌&&◌, ◌||◌, Bool, true, false, cond, inl, inr, List, [], ◌∷◌, ◌++◌, length, map, take, drop, get_or, replicate, Option, None, Some, IsSome, refl, sym, ap, subst, ◌∙◌, arith}
use Rattle.std.specs.Prelude.{is_some, nat_le, nat_lt, option_and_then, option_map, unwrap_or, ◌==◌, if◌then◌else◌}
use Rattle.std.specs.List.{list_any, range_with_len}
use Rattle.std.proofs.lemmas.Bool.{and_from, cases_Bool, false≢true, le-leb, ltb-false, ltb-true, or_left, or_right}
use Rattle.std.proofs.lemmas.List.{append-nil, append_assoc, length-replicate}
use Rattle.std.proofs.lemmas.List.Folds.{list_any_at}
use Rattle.std.proofs.lemmas.List.Sums.{list_all-from_AllPass}
use Rattle.std.proofs.lemmas.List.FromFn.{length-range_with_len, get_or-range_with_len, length-map-range_with_len, get_or-map-range_with_len, map-range_with_len_more}
use Rattle.zarrs_data_type.specs.ArrayData.{ArrayData}
use Rattle.zarrs_data_type.specs.Cell.{Cell, bytes, held_size, none, values_only}
use Rattle.zarrs_data_type.specs.Cells.{cells, HasCells}
use Rattle.zarrs_data_type.specs.Kind.{Kind, cell_size, element_size}
use Rattle.zarrs_data_type_bytes.proofs.Cells.{HasCells-some}
use Rattle.zarrs_subset.specs.Boxes.{offset_by, place, position_count, unravel}
use Rattle.zarrs_subset.specs.Pieces.{pieces}
use Rattle.zarrs_subset.specs.Regions.{Box, in_box, place_in}
use Rattle.zarrs_subset.proofs.RearrangedCells.{length-made_of}
use Rattle.zarrs_codec_array.specs.declared.array.ArrayToArrayCodec.{ArrayToArrayCodec}
use Rattle.zarrs_codec_leaf.specs.Bytes.{bytes_meaning_of, endian_of, in_order, reverses, takes_bytes}
use Rattle.zarrs_codec_leaf.specs.declared.bytes_codec.BytesCodec.{BytesCodec}
use Rattle.zarrs_codec_leaf.specs.declared.bytes_codec.Endianness.{Endianness}
use Rattle.zarrs_codec_leaf.specs.declared.error.Misfit.{Misfit}
use Rattle.zarrs_codec_leaf.specs.declared.error.CodecError.{CodecError}
use Rattle.zarrs_codec_leaf.specs.declared.error.CodecError.TheVariants as error
use Rattle.zarrs_metadata_parts.specs.Extension.{◌>>=◌}
use Rattle.zarrs_codec_shard.specs.PartialShards.{PartialChange, all_absent, is_met, stored_parts, updated_subchunk, write_of}
use Rattle.zarrs_codec_shard.specs.ShardIndex.{range_part}
use Rattle.zarrs_codec_shard.specs.ShardPatches.{HasRoom, IsPatching, KeepsParts, PushesChange}
use Rattle.zarrs_codec_shard.specs.Sharded.{cells_of_part, part_of}
use Rattle.zarrs_codec_shard.specs.Steps.{all_present}
use Rattle.zarrs_codec_shard.specs.SubchunkData.{UpdatesSubchunk}
use Rattle.zarrs_codec_shard.specs.Subchunks.{corner, quotients, subchunk_count}
use Rattle.zarrs_codec_shard.specs.declared.patch.ShardPatch.{ShardPatch}
use Rattle.zarrs_codec_shard.specs.declared.shard_index.SubchunkRange.{SubchunkRange}
use Rattle.zarrs_codec_shard.proofs.Missing.{all_present-more, all_present-none, length-all_present}
use Rattle.zarrs_codec_shard.proofs.Patching.{index_length}
use Rattle.zarrs_codec_chain.proofs.BytesParts.{sized_cell, wrong_length}
use Rattle.zarrs_codec_chain.specs.Chain.{ChainMeaning, IsLawfulChain}
use Rattle.zarrs_codec_chain.specs.Refusals.{RefusesChunkDecoding}
use Rattle.zarrs_codec.specs.ChainLaws.{same_cells}
use Rattle.zarrs_codec.specs.Chains.{behind, codec_meaning, no_codec}
use Rattle.zarrs_codec.specs.declared.codec.ArrayToBytesCodec as codec
use Rattle.zarrs_codec.specs.PartialShardings.{changed_part, changes_of, write_to, ArePassed, HasFirstChanges, RefusesChange, RefusesChanges, RefusesHeld, RefusesLarge, RefusesMet, RefusesPatch, RefusesTested}
use Rattle.zarrs_codec.specs.Shardings.{all_met_decode, any_met_too_large, cells_of, decoded_part, part_decodes, part_too_large, subchunk_meaning, RefusesPart}
use Rattle.zarrs_codec.proofs.Behind.{decoded-has_cells}

-- ---- one subchunk

-- its data has its cells
pub held_data : (m : ChainMeaning) → IsLawfulChain m → (k : Kind) (f : Cell) (sub : List ℕ) (old : Option (List ℕ)) (d : ArrayData) → cells k d ≡ decoded_part m k f sub old → IsSome (cells k d) → HasCells k d (position_count sub)
held_data m law k f sub None d is there =
    subst (λ n. HasCells k d n) (length-replicate (position_count sub) f) (HasCells-some k d (replicate (position_count sub) f) is)
held_data m law k f sub (Some b) d is there = decoded-has_cells m law k f sub b d is there

-- whether one of some subchunks is present
pub any_present : (b : List ℕ) (ranges : List (Option SubchunkRange)) → list_any is_some ranges ≡ not (all_absent (map (range_part b) ranges))
any_present b [] = refl
any_present b (None ∷ ranges) = any_present b ranges
any_present b (Some r ∷ ranges) = refl

-- what is too large of it
module _ (m : ChainMeaning) (k : Kind) (f : Cell) (sub : List ℕ) where
  pub fill_too_large : 2 ^ 64 ≤ position_count sub * held_size k f → part_too_large m k f sub None ≡ true
  fill_too_large large = le-leb (2 ^ 64) (position_count sub * held_size k f) large

  pub large_refused : (b : List ℕ) (e : CodecError) → length b < 2 ^ 64 → 2 ^ 64 ≤ position_count sub * cell_size k → RefusesLarge m e → RefusesHeld m k f sub (Some b) e
  large_refused b (error.DoesNotFit _) short large why = why k f sub b short large
  large_refused b error.SizeOverflow short large why = or_left (nat_le (2 ^ 64) (position_count sub * cell_size k)) _ (le-leb (2 ^ 64) (position_count sub * cell_size k) large)
  large_refused b error.OutOfMemory short large why = absurd why

  pub decoding_refused : (b : List ℕ) (e : CodecError) → RefusesChunkDecoding m k f sub b e → RefusesHeld m k f sub (Some b) e
  decoding_refused b (error.DoesNotFit _) why = why
  decoding_refused b error.SizeOverflow why =
      or_right (nat_le (2 ^ 64) (position_count sub * cell_size k)) _ (and_from (m.leaves_out sub b) (nat_le (2 ^ 64) (position_count sub * held_size k f)) why.0 (le-leb (2 ^ 64) (position_count sub * held_size k f) why.1))
  decoding_refused b error.OutOfMemory why = why

  -- and whether it passes the test
  pub held_passes : (old : Option (List ℕ)) (d : ArrayData) → cells k d ≡ decoded_part m k f sub old → IsSome (cells k d) → part_decodes m k f sub old ≡ true
  held_passes old d is there = or_left (is_some (decoded_part m k f sub old)) (part_too_large m k f sub old) (ap is_some (sym is) ∙ there)

  pub large_passes : (old : Option (List ℕ)) → part_too_large m k f sub old ≡ true → part_decodes m k f sub old ≡ true
  large_passes old large = or_right (is_some (decoded_part m k f sub old)) (part_too_large m k f sub old) large

  pub test_refused : (old : Option (List ℕ)) (e : CodecError) → (e ≡ error.SizeOverflow → ⊥) → RefusesHeld m k f sub old e → RefusesTested m k f sub old e
  test_refused old (error.DoesNotFit _) other why = why
  test_refused old error.SizeOverflow other why = absurd (other refl)
  test_refused old error.OutOfMemory other why = why

-- under `bytes` alone no bytes are cells that are too large
pub no_large_bytes : (x : BytesCodec) (k : Kind) (f : Cell) (sub b : List ℕ) → length b < 2 ^ 64 → 2 ^ 64 ≤ position_count sub * cell_size k → (codec_meaning (codec.Bytes x)).decoded k f sub b ≡ None
no_large_bytes x k f sub b short large = go (element_size k) refl
  where
    e : Option Endianness
    e = endian_of x

    n : ℕ
    n = position_count sub

    go : (o : Option ℕ) → element_size k ≡ o → (bytes_meaning_of e).decoded k n b ≡ None
    go None is =
        ap (option_and_then (λ size. if takes_bytes e k && (length b == n * size) then values_only k (map (λ p. bytes (in_order (reverses e k) p)) (pieces size n b)) else None)) is
    go (Some size) is =
        wrong_length e k size n b is (λ same. (let sized : n * cell_size k ≡ n * size = ap (λ x. n * x) (sized_cell k size is) in omega arith))

pub alone_large : (codecs : List ArrayToArrayCodec) (x : BytesCodec) → no_codec codecs ≡ true → (reason : Misfit) → RefusesLarge (behind codecs (codec_meaning (codec.Bytes x))) (error.DoesNotFit reason)
alone_large [] x alone reason k f sub b short large = same_cells (codec_meaning (codec.Bytes x)) k f sub (Some b) ∙ no_large_bytes x k f sub b short large
alone_large (c ∷ codecs) x alone reason k f sub b short large = absurd (false≢true alone)

-- ---- the subchunks that a part meets, one after another

module _ (m : ChainMeaning) (k : Kind) (f : Cell) (s sub : List ℕ) (part : Box) (parts : List (Option (List ℕ))) where
  pub passed_more : (n : ℕ) → ArePassed m k f s sub part parts n → (is_met s sub part n ≡ true → part_decodes m k f sub (get_or parts n None) ≡ true) → ArePassed m k f s sub part parts (n + 1)
  passed_more n before here j lt meets = elim (cases_Bool (nat_lt j n)) [
    | inl less ↦ before j (ltb-true j n less) meets
    | inr more ↦
        let same : j ≡ n = omega (arith, ltb-false j n more) in
        subst (λ i. part_decodes m k f sub (get_or parts i None) ≡ true) (sym same) (here (subst (λ i. is_met s sub part i ≡ true) same meets))
  ]

  pub all_passed : (n : ℕ) → n ≡ subchunk_count s sub → ArePassed m k f s sub part parts n → all_met_decode m k f s sub part parts ≡ true
  all_passed n n_is all =
      let T = λ (j : ℕ). not (is_met s sub part j) || part_decodes m k f sub (get_or parts j None) in
      list_all-from_AllPass T (range_with_len 0 (subchunk_count s sub)) (λ i d lt.
      let below : i < n = omega (arith, length-range_with_len 0 (subchunk_count s sub)) in
      let at : get_or (range_with_len 0 (subchunk_count s sub)) i d ≡ i = get_or-range_with_len 0 (subchunk_count s sub) i d (omega arith) ∙ omega arith in
      ap T at ∙ passes (is_met s sub part i) (part_decodes m k f sub (get_or parts i None)) (all i below))
    where
      passes : (met decodes : Bool) → (met ≡ true → decodes ≡ true) → (not met || decodes) ≡ true
      passes true decodes is = is refl
      passes false decodes is = refl

  pub part_refused : (n : ℕ) (e : CodecError) → n < length parts → RefusesTested m k f sub (get_or parts n None) e → RefusesMet m k f sub parts e
  part_refused n (error.DoesNotFit _) lt why = (n, lt, why)
  part_refused n error.SizeOverflow lt why = absurd why
  part_refused n error.OutOfMemory lt why = why

  pub met_refused : (empty : Bool) (d : ArrayData) (e : CodecError) → RefusesMet m k f sub parts e → RefusesPatch m empty k f s sub part d parts e
  met_refused empty d (error.DoesNotFit _) why = why
  met_refused empty d error.SizeOverflow why = absurd why
  met_refused empty d error.OutOfMemory why = why

  pub other_refused : (empty : Bool) (d : ArrayData) (e : CodecError) → (e ≡ error.SizeOverflow → ⊥) → RefusesChanges m empty k f s sub part d parts e → RefusesPatch m empty k f s sub part d parts e
  other_refused empty d (error.DoesNotFit _) other why = why
  other_refused empty d error.SizeOverflow other why = absurd (other refl)
  other_refused empty d error.OutOfMemory other why = why

  pub too_large_met : (j : ℕ) → j < subchunk_count s sub → is_met s sub part j ≡ true → part_too_large m k f sub (get_or parts j None) ≡ true → any_met_too_large m k f s sub part parts ≡ true
  too_large_met j lt meets large =
      let n = subchunk_count s sub in
      let T = λ (i : ℕ). is_met s sub part i && part_too_large m k f sub (get_or parts i None) in
      list_any_at T (range_with_len 0 n) j 0 (omega (arith, length-range_with_len 0 n))
      (ap T (get_or-range_with_len 0 n j 0 lt ∙ omega arith) ∙ and_from (is_met s sub part j) (part_too_large m k f sub (get_or parts j None)) meets large)

module _ (m : ChainMeaning) (empty : Bool) (k : Kind) (f : Cell) (s sub : List ℕ) (part : Box) (d : ArrayData) where
  same_held : (old : Option (List ℕ)) → cells_of_part (subchunk_meaning m empty k f sub) f sub old ≡ decoded_part m k f sub old
  same_held None = refl
  same_held (Some b) = refl

  -- one that the part does not meet
  pub not_met : (number : ℕ) (old : Option (List ℕ)) → is_met s sub part number ≡ false → changed_part m empty k f s sub part d number old ≡ Some None
  not_met number old apart =
      let one = subchunk_meaning m empty k f sub in
      ap (λ b. cond b (cells_of_part one f sub old >>= λ held. option_map Some (part_of one empty f (updated_subchunk s sub part (cells_of k d) number held))) (Some None)) apart

  -- the data of a subchunk that was updated
  pub updated_data : (number : ℕ) (old new : ArrayData) → UpdatesSubchunk k s sub part number d old new → HasCells k new (position_count sub)
  updated_data number old new u =
      let F : List ℕ → Cell = λ q. let p = offset_by (corner sub (unravel (quotients s sub) number)) q in if in_box part p then get_or u.part_cells (place_in part p) none else get_or u.held (place sub q) none in
      subst (λ n. HasCells k new n) (length-made_of F sub) (HasCells-some k new (updated_subchunk s sub part u.part_cells number u.held) u.new_is)

  -- and what becomes of it
  pub changed_is : (number : ℕ) (old : Option (List ℕ)) (held new : ArrayData) → is_met s sub part number ≡ true → cells k held ≡ decoded_part m k f sub old
      → UpdatesSubchunk k s sub part number d held new → changed_part m empty k f s sub part d number old ≡ option_map Some (part_of (subchunk_meaning m empty k f sub) empty f (cells_of k new))
  changed_is number old held new meets is u =
      let one = subchunk_meaning m empty k f sub in
      let R = λ (xs : List Cell). option_map Some (part_of one empty f (updated_subchunk s sub part (cells_of k d) number xs)) in
      ap (λ b. cond b (cells_of_part one f sub old >>= R) (Some None)) meets
      ∙ ap (λ o. o >>= R) (same_held old ∙ sym is ∙ u.old_is)
      ∙ ap (λ g. option_map Some (part_of one empty f (updated_subchunk s sub part g number u.held))) (ap (λ o. unwrap_or o []) u.given_is)
      ∙ ap (λ cs. option_map Some (part_of one empty f cs)) (sym (ap (λ o. unwrap_or o []) u.new_is))

  pub encode_refused : (number : ℕ) (old : Option (List ℕ)) (held new : ArrayData) (e : CodecError) → m.fits k sub ≡ true → is_met s sub part number ≡ true → cells k held ≡ decoded_part m k f sub old
      → UpdatesSubchunk k s sub part number d held new → RefusesPart (subchunk_meaning m empty k f sub) empty f (cells_of k new) e → RefusesChange m empty k f s sub part d number old e
  encode_refused number old held new (error.DoesNotFit _) fit meets is u why = absurd (false≢true (sym why ∙ fit))
  encode_refused number old held new error.SizeOverflow fit meets is u why =
      inl (changed_is number old held new meets is u ∙ ap (option_map Some) why.1)
  encode_refused number old held new error.OutOfMemory fit meets is u why = why

  pub held_refused : (number : ℕ) (old : Option (List ℕ)) (e : CodecError) → is_met s sub part number ≡ true → RefusesHeld m k f sub old e → RefusesChange m empty k f s sub part d number old e
  held_refused number old (error.DoesNotFit _) meets why = why
  held_refused number old error.SizeOverflow meets why = inr (meets, why)
  held_refused number old error.OutOfMemory meets why = why

  -- ---- one after another

  module _ (stored : Option (List ℕ)) (parts : List (Option (List ℕ))) where
    first_count : (n : ℕ) (cs : List (Option (Option (List ℕ)))) → changes_of m empty k f s sub part d parts n ≡ Some cs → length cs ≡ n
    first_count n cs is =
        let T = λ (j : ℕ). changed_part m empty k f s sub part d j (get_or parts j None) in
        length-all_present (map T (range_with_len 0 n)) cs is ∙ length-map-range_with_len T 0 n

    pub changes_started : (count : ℕ) (patch : ShardPatch) → IsPatching count stored parts patch [] → HasFirstChanges m empty k f s sub stored part d parts count 0 patch
    changes_started count patch is = record { changes = []; changes_are = refl; patching = is }

    pub has_room : (count n run : ℕ) (patch : ShardPatch) → stored_parts count stored ≡ Some parts → n + run ≤ count → HasFirstChanges m empty k f s sub stored part d parts count n patch → HasRoom patch run
    has_room count n run patch read le is =
        let len = first_count n is.changes is.changes_are in
        let l = index_length count stored parts patch is.changes read (omega (arith, len)) is.patching in
        let room : length patch.entries.items + run * 16 ≤ length patch.index.items = omega (arith, l.0, l.1, len) in
        room

    first_more : (n : ℕ) (cs : List (Option (Option (List ℕ)))) (c : Option (Option (List ℕ))) → changes_of m empty k f s sub part d parts n ≡ Some cs → changed_part m empty k f s sub part d n (get_or parts n None) ≡ Some c
        → changes_of m empty k f s sub part d parts (n + 1) ≡ Some (cs ++ c ∷ [])
    first_more n cs c is here =
        let T = λ (j : ℕ). changed_part m empty k f s sub part d j (get_or parts j None) in
        ap all_present (map-range_with_len_more T 0 n n (omega arith)) ∙ all_present-more (map T (range_with_len 0 n)) cs (T n) c is here

    pub changes_more : (count n : ℕ) (old new : ShardPatch) (c : Option (List ℕ)) → stored_parts count stored ≡ Some parts → n < count
        → changed_part m empty k f s sub part d n (get_or parts n None) ≡ Some (Some c) → HasFirstChanges m empty k f s sub stored part d parts count n old → PushesChange old new c
        → HasFirstChanges m empty k f s sub stored part d parts count (n + 1) new
    changes_more count n old new c read lt here is pushes =
        let len = first_count n is.changes is.changes_are in
        record {
          changes = is.changes ++ Some c ∷ [];
          changes_are = first_more n is.changes (Some c) is.changes_are here;
          patching = pushes count stored parts is.changes read (omega (arith, len)) is.patching;
        }

    first_kept : (n run : ℕ) (cs : List (Option (Option (List ℕ)))) → changes_of m empty k f s sub part d parts n ≡ Some cs → ((j : ℕ) → n ≤ j → j < n + run → is_met s sub part j ≡ false)
        → changes_of m empty k f s sub part d parts (n + run) ≡ Some (cs ++ replicate run None)
    first_kept n zero cs is apart = ap (changes_of m empty k f s sub part d parts) (let same : n + 0 ≡ n = omega arith in same) ∙ is ∙ ap Some (sym (append-nil cs))
    first_kept n (suc run) cs is apart =
        ap (changes_of m empty k f s sub part d parts) (let same : n + suc run ≡ n + 1 + run = omega arith in same)
        ∙ first_kept (n + 1) run (cs ++ None ∷ []) (first_more n cs None is (not_met n (get_or parts n None) (apart n (omega arith) (omega arith)))) (λ j from upto. apart j (omega arith) (omega arith))
        ∙ ap Some (append_assoc cs (None ∷ []) (replicate run None))

    -- a run that the part does not meet
    pub changes_kept : (count n run : ℕ) (old new : ShardPatch) (any : Bool) → stored_parts count stored ≡ Some parts → n + run ≤ count → ((j : ℕ) → n ≤ j → j < n + run → is_met s sub part j ≡ false)
        → any ≡ not (all_absent (take run (drop n parts))) → HasFirstChanges m empty k f s sub stored part d parts count n old → KeepsParts old new run any
        → HasFirstChanges m empty k f s sub stored part d parts count (n + run) new
    changes_kept count n run old new any read le apart any_is is keeps =
        let len = first_count n is.changes is.changes_are in
        record {
          changes = is.changes ++ replicate run None;
          changes_are = first_kept n run is.changes is.changes_are apart;
          patching = keeps count stored parts is.changes read (omega (arith, len)) (any_is ∙ ap (λ i. not (all_absent (take run (drop i parts)))) (sym len)) is.patching;
        }

    pub change_refused : (n : ℕ) (e : CodecError) → n < length parts → RefusesChange m empty k f s sub part d n (get_or parts n None) e → RefusesChanges m empty k f s sub part d parts e
    change_refused n (error.DoesNotFit _) lt why = (n, lt, why)
    change_refused n error.SizeOverflow lt why = (n, lt, why)
    change_refused n error.OutOfMemory lt why = why

    pub write_is : (count : ℕ) (patch : ShardPatch) (write : PartialChange) → count ≡ subchunk_count s sub → stored_parts count stored ≡ Some parts → HasFirstChanges m empty k f s sub stored part d parts count count patch
        → ((n : ℕ) (o : Option (List ℕ)) (ps : List (Option (List ℕ))) (cs : List (Option (Option (List ℕ)))) → length cs ≡ n → stored_parts n o ≡ Some ps → IsPatching n o ps patch cs → write_of n o ps cs ≡ Some write)
        → write_to m empty k f s sub stored part d parts ≡ Some write
    write_is count patch write count_is read is finished =
        ap (λ o. o >>= λ cs. write_of (subchunk_count s sub) stored parts cs) (ap (λ n. changes_of m empty k f s sub part d parts n) (sym count_is) ∙ is.changes_are)
        ∙ ap (λ n. write_of n stored parts is.changes) (sym count_is)
        ∙ finished count stored parts is.changes (first_count count is.changes is.changes_are) read is.patching

    no_change : (n j : ℕ) → j < n → changed_part m empty k f s sub part d j (get_or parts j None) ≡ None → changes_of m empty k f s sub part d parts n ≡ None
    no_change n j lt is =
        let T = λ (i : ℕ). changed_part m empty k f s sub part d i (get_or parts i None) in
        all_present-none (map T (range_with_len 0 n)) j None (omega (arith, length-map-range_with_len T 0 n))
        (get_or-map-range_with_len T 0 n j j None lt (omega arith) ∙ is)

    pub no_write : (j : ℕ) → j < subchunk_count s sub → changed_part m empty k f s sub part d j (get_or parts j None) ≡ None → write_to m empty k f s sub stored part d parts ≡ None
    no_write j lt is =
        ap (λ o. o >>= λ cs. write_of (subchunk_count s sub) stored parts cs) (no_change (subchunk_count s sub) j lt is)
