-- A part of a chunk's cells written into the bytes of its key.
use Rattle.std.proofs.Common.{◌≡◌, ℕ, zero, suc, ◌*◌, ◌<◌, ◌≤◌, ◌^◌, Bool, true, false, not, ◌&&◌, ◌⊎◌, inl, inr, List, [], ◌∷◌, length, map, get_or, replicate, Option, None, Some, refl, sym, ap, subst, ◌∙◌, arith}
use Rattle.std.specs.Prelude.{IsSome, nat_le, nat_lt, option_and_then, unwrap_or}
use Rattle.std.proofs.lemmas.Bool.{and_from, false≢true, le-ltb, lt-leb, lt-ltb}
use Rattle.std.proofs.lemmas.List.{get_or-map, length-map, length-replicate}
use Rattle.zarrs_data_type.specs.ArrayData.{ArrayData}
use Rattle.zarrs_data_type.specs.Cell.{Cell, values_only}
use Rattle.zarrs_data_type.specs.Cells.{cells, HasCells}
use Rattle.zarrs_data_type.specs.Kind.{Kind}
use Rattle.zarrs_data_type_bytes.proofs.Cells.{HasCells-cells}
use Rattle.zarrs_subset.specs.Boxes.{position_count}
use Rattle.zarrs_subset.specs.Regions.{Box}
use Rattle.zarrs_codec_array.specs.declared.array.ArrayToArrayCodec.{ArrayToArrayCodec}
use Rattle.zarrs_codec_leaf.specs.declared.error.CodecError.{CodecError}
use Rattle.zarrs_codec_leaf.specs.declared.error.CodecError.TheVariants as error
use Rattle.zarrs_metadata_parts.specs.Extension.{◌>>=◌}
use Rattle.zarrs_codec_shard.specs.PartialShards.{is_met, sharded_partly, stored_parts, write_of}
use Rattle.zarrs_codec_shard.specs.Sharded.{SubchunkMeaning, cells_of_parts, sharded_fits}
use Rattle.zarrs_codec_shard.specs.Steps.{given_if}
use Rattle.zarrs_codec_shard.specs.Subchunks.{assembled, is_cut_by, subchunk_count}
use Rattle.zarrs_codec_shard.proofs.Missing.{given_if-false, given_if-true, all_present-none}
use Rattle.zarrs_codec_shard.proofs.ShardLaws.{length-shard_parts}
use Rattle.zarrs_codec_chain.specs.Chain.{ChainMeaning, chunk_cells, partial_encoding}
use Rattle.zarrs_codec_chain.specs.Refusals.{RefusesPartialEncoding}
use Rattle.zarrs_codec.specs.Chains.{behind, no_codec}
use Rattle.zarrs_codec.specs.ChainLaws.{same_cells}
use Rattle.zarrs_codec.specs.PartialShardings.{changed_part, changes_of, stored_bytes, write_to, RefusesChanges, RefusesIndex, RefusesPatch}
use Rattle.zarrs_codec.specs.Shardings.{all_met_decode, any_met_too_large, decoded_part, part_too_large, sharded, sharded_partly_decodes, sharded_partly_too_large, subchunk_meaning}
use Rattle.zarrs_codec.proofs.PartCells.{shard_cells}
use Rattle.zarrs_codec.proofs.Patches.{no_write, too_large_met}
use Rattle.zarrs_data_type_bytes.proofs.FixedSizes.{some_is}

still : {A : Type 0} (b : Bool) → given_if {A = A} b None ≡ None
still true = refl
still false = refl

never : (b : Bool) → (b && false) ≡ false
never true = refl
never false = refl

absent_at : (n j : ℕ) → get_or (replicate {A = Option (List ℕ)} n None) j None ≡ None
absent_at zero j = refl
absent_at (suc n) zero = refl
absent_at (suc n) (suc j) = absent_at n j

pub at_end : (b : Bool) → not b ≡ true → b ≡ false
at_end true is = absurd (false≢true is)
at_end false is = refl

-- there is a part for each subchunk
parts_count : (n : ℕ) (stored : Option (List ℕ)) (parts : List (Option (List ℕ))) → stored_parts n stored ≡ Some parts → length parts ≡ n
parts_count n None parts read = ap length (sym (some_is read)) ∙ length-replicate {A = Option (List ℕ)} n None
parts_count n (Some b) parts read = length-shard_parts false n b parts read

-- ---- where there is no write

module _ (m : ChainMeaning) (at_start : Bool) (empty : Bool) (k : Kind) (f : Cell) (s sub : List ℕ) (stored : Option (List ℕ)) (part : Box) (d : ArrayData) where
  -- the index is too long
  too_long : 2 ^ 64 ≤ subchunk_count s sub * 16 → partial_encoding (sharded at_start sub m) empty k f s stored part d ≡ None
  too_long large = go (cells k d)
    where
      one : SubchunkMeaning
      one = subchunk_meaning m empty k f sub

      apart : (sharded_fits one s sub && nat_lt (subchunk_count s sub * 16) (2 ^ 64)) ≡ false
      apart = ap (λ b. sharded_fits one s sub && b) (le-ltb (subchunk_count s sub * 16) (2 ^ 64) large) ∙ never (sharded_fits one s sub)

      go : (o : Option (List Cell)) → option_and_then (λ cs. given_if (not at_start) (sharded_partly one empty f s sub stored part cs)) o ≡ None
      go None = refl
      go (Some cs) = ap (given_if (not at_start)) (given_if-false _ _ apart) ∙ still (not at_start)

-- what is stored is no shard
unread : (m : ChainMeaning) (k : Kind) (f : Cell) (s sub : List ℕ) (stored : Option (List ℕ)) → stored_parts (subchunk_count s sub) stored ≡ None → chunk_cells (sharded false sub m) k f s stored ≡ None
unread m k f s sub None read = cc
unread m k f s sub (Some b) read =
    let one = subchunk_meaning m false k f sub in
    ap (λ o. given_if (sharded_fits one s sub) (o >>= cells_of_parts one k f s sub)) read ∙ still (sharded_fits one s sub)

-- ---- the shard of these parts

module _ (m : ChainMeaning) (empty : Bool) (k : Kind) (f : Cell) (s sub : List ℕ) (part : Box) (d : ArrayData) (stored : Option (List ℕ)) (parts : List (Option (List ℕ)))
    (cut : is_cut_by s sub ≡ true) (fit : m.fits k sub ≡ true) (few : subchunk_count s sub * 16 < 2 ^ 64) (read : stored_parts (subchunk_count s sub) stored ≡ Some parts)
    (cs : List Cell) (cells_are : cells k d ≡ Some cs) where
  writing_at : partial_encoding (sharded false sub m) empty k f s stored part d ≡ write_to m empty k f s sub stored part d parts
  writing_at =
      let one = subchunk_meaning m empty k f sub in
      let n = subchunk_count s sub in
      let E = λ (g : List Cell). sharded_partly one empty f s sub stored part g in
      ap (option_and_then E) cells_are
      ∙ ap E (sym (ap (λ o. unwrap_or o []) cells_are))
      ∙ given_if-true (sharded_fits one s sub && nat_lt (n * 16) (2 ^ 64)) _ (and_from (sharded_fits one s sub) _ (and_from (is_cut_by s sub) _ cut fit) (lt-ltb (n * 16) (2 ^ 64) few))
      ∙ ap (λ o. o >>= λ ps. changes_of m empty k f s sub part d ps n >>= λ xs. write_of n stored ps xs) read

  undecoded : (o : Option (List ℕ)) → stored_parts (subchunk_count s sub) o ≡ Some parts → (j : ℕ) → j < length parts → decoded_part m k f sub (get_or parts j None) ≡ None → chunk_cells (sharded false sub m) k f s o ≡ None
  undecoded None made j lt none =
      let at : get_or parts j None ≡ None = ap (λ l. get_or l j None) (sym (some_is made)) ∙ absent_at (subchunk_count s sub) j in
      let never_none : Some (replicate (position_count sub) f) ≡ None = sym (ap (decoded_part m k f sub) at) ∙ none in
      cc
  undecoded (Some b) made j lt none =
      let P = decoded_part m k f sub in
      shard_cells m false k f s sub b parts cut fit made
      ∙ ap (λ o. o >>= λ xs. values_only k (assembled s sub xs)) (all_present-none (map P parts) j None (omega (arith, length-map parts P)) (get_or-map P parts j None None lt ∙ none))

  -- they decode where the part reads them
  partly : (o : Option (List ℕ)) → stored_parts (subchunk_count s sub) o ≡ Some parts → all_met_decode m k f s sub part parts ≡ true → sharded_partly_decodes m k f s sub o part ≡ true
  partly None made all = refl
  partly (Some b) made all = ap (λ o. elim o [ None ↦ false | Some ps ↦ all_met_decode m k f s sub part ps ]) made ∙ all

  too_large_at : (j : ℕ) → j < subchunk_count s sub → is_met s sub part j ≡ true → part_too_large m k f sub (get_or parts j None) ≡ true → sharded_partly_too_large m k f s sub stored part ≡ true
  too_large_at j lt meets large =
      ap (λ o. elim o [ None ↦ false | Some ps ↦ any_met_too_large m k f s sub part ps ]) read ∙ too_large_met m k f s sub part parts j lt meets large

  refusal_at : (e : CodecError) → RefusesPatch m empty k f s sub part d parts e → RefusesPartialEncoding (sharded false sub m) empty k f s stored part d e
  refusal_at (error.DoesNotFit _) why = inr (undecoded stored read why.0 why.1 why.2)
  refusal_at error.SizeOverflow why = (and_from (is_cut_by s sub) _ cut fit, partly stored read why.0, sized why.1)
    where
      go : (j : ℕ) → j < length parts → (changed_part m empty k f s sub part d j (get_or parts j None) ≡ None) ⊎ ((is_met s sub part j ≡ true) × (part_too_large m k f sub (get_or parts j None) ≡ true))
          → (partial_encoding (sharded false sub m) empty k f s stored part d ≡ None) ⊎ (sharded_partly_too_large m k f s sub stored part ≡ true)
      go j lt (inl none) =
          inl (writing_at ∙ no_write m empty k f s sub part d stored parts j (omega (arith, lt, parts_count (subchunk_count s sub) stored parts read)) none)
      go j lt (inr large) = inr (too_large_at j (omega (arith, lt, parts_count (subchunk_count s sub) stored parts read)) large.0 large.1)

      sized : RefusesChanges m empty k f s sub part d parts error.SizeOverflow
          → (partial_encoding (sharded false sub m) empty k f s stored part d ≡ None) ⊎ (sharded_partly_too_large m k f s sub stored part ≡ true)
      sized large = go large.0 large.1 large.2
  refusal_at error.OutOfMemory why = why

-- what is said of what is stored and of its parts, where the chunk's shape is `shape` and the subchunks' `subshape`
pub record IsOpened (m : ChainMeaning) (at_start : Bool) (empty : Bool) (k : Kind) (f : Cell) (s sub : List ℕ) (part : Box) (d : ArrayData) (stored : Option (List ℕ)) (shape subshape : List ℕ)
    (parts : List (Option (List ℕ))) : Type 0 where
  pub long : length parts ≡ subchunk_count shape subshape
  pub writing : partial_encoding (sharded at_start sub m) empty k f s stored part d ≡ write_to m empty k f shape subshape stored part d parts
  pub refusal : (e : CodecError) → RefusesPatch m empty k f shape subshape part d parts e → RefusesPartialEncoding (sharded at_start sub m) empty k f s stored part d e

pub is_opened : (m : ChainMeaning) (at_start : Bool) (empty : Bool) (k : Kind) (f : Cell) (s sub : List ℕ) (part : Box) (d : ArrayData) (stored : Option (List ℕ)) (shape subshape : List ℕ) (parts : List (Option (List ℕ))) (count n : ℕ)
    → shape ≡ s → subshape ≡ sub → at_start ≡ false → is_cut_by shape subshape ≡ true → m.fits k sub ≡ true → count ≡ subchunk_count shape subshape → count * 16 < 2 ^ 64
    → stored_parts count stored ≡ Some parts → HasCells k d n → IsOpened m at_start empty k f s sub part d stored shape subshape parts
is_opened m at_start empty k f s sub part d stored shape subshape parts count n shape_is sub_is end cut fit count_is few read has =
    let cut_here : is_cut_by s sub ≡ true = subst (λ x. is_cut_by s x ≡ true) sub_is (subst (λ x. is_cut_by x subshape ≡ true) shape_is cut) in
    let count_here : count ≡ subchunk_count s sub = count_is ∙ ap (λ x. subchunk_count x subshape) shape_is ∙ ap (subchunk_count s) sub_is in
    let few_here : subchunk_count s sub * 16 < 2 ^ 64 = subst (λ j. j * 16 < 2 ^ 64) count_here few in
    let read_here : stored_parts (subchunk_count s sub) stored ≡ Some parts = subst (λ j. stored_parts j stored ≡ Some parts) count_here read in
    let held = HasCells-cells k d n has in
    let here : IsOpened m false empty k f s sub part d stored s sub parts = record {
      long = parts_count (subchunk_count s sub) stored parts read_here;
      writing = writing_at m empty k f s sub part d stored parts cut_here fit few_here read_here held.0 held.1;
      refusal = refusal_at m empty k f s sub part d stored parts cut_here fit few_here read_here held.0 held.1;
    } in
    subst (λ b. IsOpened m b empty k f s sub part d stored shape subshape parts) (sym end)
    (subst (λ x. IsOpened m false empty k f s sub part d stored x subshape parts) (sym shape_is) (subst (λ x. IsOpened m false empty k f s sub part d stored s x parts) (sym sub_is) here))

-- and where it is not opened: the index is too long
short_index : (m : ChainMeaning) (k : Kind) (f : Cell) (s sub : List ℕ) (stored : Option (List ℕ)) → 2 ^ 64 ≤ subchunk_count s sub * 16 → IsSome stored → length (stored_bytes stored) < 2 ^ 64 → chunk_cells (sharded false sub m) k f s stored ≡ None
short_index m k f s sub None large some short = let nothing : IsSome {T = List ℕ} None = some in cc
short_index m k f s sub (Some b) large some short =
    unread m k f s sub (Some b) (given_if-false (nat_le (subchunk_count s sub * 16) (length b)) _ (lt-leb (subchunk_count s sub * 16) (length b) (omega arith)))

pub not_counted : (m : ChainMeaning) (at_start : Bool) (empty : Bool) (k : Kind) (f : Cell) (s sub : List ℕ) (part : Box) (d : ArrayData) (stored : Option (List ℕ)) (shape subshape : List ℕ)
    → shape ≡ s → subshape ≡ sub → at_start ≡ false → is_cut_by shape subshape ≡ true → m.fits k sub ≡ true → 2 ^ 64 ≤ subchunk_count shape subshape * 16
    → (e : CodecError) → RefusesIndex stored e → RefusesPartialEncoding (sharded at_start sub m) empty k f s stored part d e
not_counted m at_start empty k f s sub part d stored shape subshape shape_is sub_is end cut fit large e why =
    let cut_here : is_cut_by s sub ≡ true = subst (λ x. is_cut_by s x ≡ true) sub_is (subst (λ x. is_cut_by x subshape ≡ true) shape_is cut) in
    let large_here : 2 ^ 64 ≤ subchunk_count s sub * 16 = subst (λ x. 2 ^ 64 ≤ subchunk_count s x * 16) sub_is (subst (λ x. 2 ^ 64 ≤ subchunk_count x subshape * 16) shape_is large) in
    subst (λ b. RefusesPartialEncoding (sharded b sub m) empty k f s stored part d e) (sym end) (go cut_here large_here e why)
  where
    go : is_cut_by s sub ≡ true → 2 ^ 64 ≤ subchunk_count s sub * 16 → (e : CodecError) → RefusesIndex stored e → RefusesPartialEncoding (sharded false sub m) empty k f s stored part d e
    go cut_here large_here (error.DoesNotFit _) why = inr (short_index m k f s sub stored large_here why.0 why.1)
    go cut_here large_here error.SizeOverflow why = (
      and_from (is_cut_by s sub) _ cut_here fit,
      subst (λ (o : Option (List ℕ)). sharded_partly_decodes m k f s sub o part ≡ true) (sym why) refl,
      inl (too_long m false empty k f s sub stored part d large_here),
    )
    go cut_here large_here error.OutOfMemory why = absurd why

-- what is stored is no shard
pub not_read : (m : ChainMeaning) (at_start : Bool) (empty : Bool) (k : Kind) (f : Cell) (s sub : List ℕ) (part : Box) (d : ArrayData) (stored : Option (List ℕ)) (shape subshape : List ℕ) (count : ℕ)
    → shape ≡ s → subshape ≡ sub → at_start ≡ false → count ≡ subchunk_count shape subshape → stored_parts count stored ≡ None
    → ((sharded at_start sub m).fits k s ≡ false) ⊎ (chunk_cells (sharded at_start sub m) k f s stored ≡ None)
not_read m at_start empty k f s sub part d stored shape subshape count shape_is sub_is end count_is read =
    let count_here : count ≡ subchunk_count s sub = count_is ∙ ap (λ x. subchunk_count x subshape) shape_is ∙ ap (subchunk_count s) sub_is in
    inr (subst (λ b. chunk_cells (sharded b sub m) k f s stored ≡ None) (sym end) (unread m k f s sub stored (subst (λ j. stored_parts j stored ≡ None) count_here read)))

-- ---- behind no codec

pub alone_writing : (codecs : List ArrayToArrayCodec) (m : ChainMeaning) (empty : Bool) (k : Kind) (f : Cell) (s : List ℕ) (stored : Option (List ℕ)) (part : Box) (d : ArrayData) → no_codec codecs ≡ true
    → partial_encoding (behind codecs m) empty k f s stored part d ≡ partial_encoding m empty k f s stored part d
alone_writing [] m empty k f s stored part d alone = refl
alone_writing (c ∷ codecs) m empty k f s stored part d alone = absurd (false≢true alone)

pub alone_refusal : (codecs : List ArrayToArrayCodec) (m : ChainMeaning) (empty : Bool) (k : Kind) (f : Cell) (s : List ℕ) (stored : Option (List ℕ)) (part : Box) (d : ArrayData) (e : CodecError) → no_codec codecs ≡ true
    → RefusesPartialEncoding m empty k f s stored part d e → RefusesPartialEncoding (behind codecs m) empty k f s stored part d e
alone_refusal (c ∷ codecs) m empty k f s stored part d e alone why = absurd (false≢true alone)
alone_refusal [] m empty k f s stored part d (error.DoesNotFit _) alone (inl apart) = inl apart
alone_refusal [] m empty k f s stored part d (error.DoesNotFit _) alone (inr none) = inr (same_cells m k f s stored ∙ none)
alone_refusal [] m empty k f s stored part d error.SizeOverflow alone why = (why.0, why.1, go why.2)
  where
    go : (partial_encoding m empty k f s stored part d ≡ None) ⊎ (m.partly_too_large k f s stored part ≡ true)
        → (partial_encoding (behind [] m) empty k f s stored part d ≡ None) ⊎ ((behind [] m).partly_too_large k f s stored part ≡ true)
    go (inl none) = inl none
    go (inr large) = inr large
alone_refusal [] m empty k f s stored part d error.OutOfMemory alone why = why
