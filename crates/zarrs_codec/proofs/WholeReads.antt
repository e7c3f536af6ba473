-- Shards that are read whole: each of their subchunks decodes.
use Rattle.std.proofs.Common.{◌≡◌, ◌∙◌, ℕ, ◌<◌, Bool, true, false, List, Option, None, Some, refl, sym, ap, subst, arith}
use Rattle.std.specs.Prelude.{IfOk, IfSome, IsSome, Result, Ok, Err, nat_eq, slice_index_or}
use Rattle.std.specs.Cmp.Lexicographic.{pointwise, same_text}
use Rattle.std.proofs.lemmas.Bool.{false≢true}
use Rattle.zarrs_data_type.specs.ArrayData.{ArrayData}
use Rattle.zarrs_data_type.specs.CellTypes.{filling, kind_of}
use Rattle.zarrs_data_type_kinds.proofs.Values.{fill-value}
use Rattle.zarrs_data_type_kinds.specs.declared.cell_type.CellType.{CellType}
use Rattle.zarrs_codec_shard.specs.Subchunks.{corner, quotients}
use Rattle.zarrs_codec_shard.proofs.Cuts.{parts_of_position, position_inside}
use Rattle.zarrs_codec_shard.proofs.Grids.{cut_at, cut_len}
use Rattle.zarrs_codec_shard.proofs.SubchunkBoxes.{holds_chunk}
use Rattle.zarrs_subset.specs.Boxes.{InShape, offset_by, position_count, unravel}
use Rattle.zarrs_subset.specs.Regions.{Box, Holds, IsLong, box_at_origin, in_box, positions}
use Rattle.zarrs_subset.proofs.Counts.{count_some}
use Rattle.zarrs_subset.proofs.Positions.{unravel_in}
use Rattle.zarrs_codec_chain.specs.Chain.{ChainMeaning}
use Rattle.zarrs_codec_chain.specs.ShardParts.{MeetsPart, is_among}
use Rattle.zarrs_codec_chain.specs.ShardReads.{HasNoSubchunk, HasNone, IsAt, IsOpen, IsShare, ShardRead, parts_of}
use Rattle.zarrs_codec_chain.proofs.AllDecode.{shard_decodes}
use Rattle.zarrs_codec_chain.proofs.AllOfIt.{origin_box}
use Rattle.zarrs_codec_chain.proofs.OpenShards.{at_number}
use Rattle.zarrs_codec_chain.proofs.ReadSteps.{parts_len}
use Rattle.zarrs_codec_chain.proofs.SubchunkSteps.{met_among, same_index}
use Rattle.zarrs_codec.specs.ChainLaws.{chain-lawful}
use Rattle.zarrs_codec.specs.Chains.{chain_meaning, inner_chain_of}
use Rattle.zarrs_codec.specs.ShardChunks.{DecodesEach, DecodesOne, HasPieceOf, inner_decoded, shard_decoded}
use Rattle.zarrs_codec.specs.Shardings.{subchunk_meaning}
use Rattle.zarrs_codec.specs.declared.sharding.ShardingCodec.{ShardingCodec}
use Rattle.zarrs_codec.proofs.WholeShards.{shared_is}

module _ (codec : ShardingCodec) (t : CellType) (r : ShardRead) (is : IsOpen r) where
  -- ---- one subchunk

  pub none_decodes : (i : List ℕ) → HasNoSubchunk r i → DecodesOne codec t r i
  none_decodes i none n at = absurd (none n at)

  pub absent_decodes : (i : List ℕ) (n : ℕ) → IsAt r i n → slice_index_or (parts_of r) n None ≡ None → DecodesOne codec t r i
  absent_decodes i n at absent j at_j =
      let same : n ≡ j = sym at.at_n ∙ at_j.at_n in
      let none : slice_index_or (parts_of r) j None ≡ None = ap (λ x. slice_index_or (parts_of r) x None) (sym same) ∙ absent in
      subst (λ (o : Option (List ℕ)). IfSome o (λ b. IsSome (inner_decoded codec t r b))) (sym none) tt

  pub present_decodes : (i : List ℕ) (n : ℕ) (encoded : List ℕ) → IsAt r i n → slice_index_or (parts_of r) n None ≡ Some encoded → IsSome (inner_decoded codec t r encoded) → DecodesOne codec t r i
  present_decodes i n encoded at present some j at_j =
      let same : n ≡ j = sym at.at_n ∙ at_j.at_n in
      let here : slice_index_or (parts_of r) j None ≡ Some encoded = ap (λ x. slice_index_or (parts_of r) x None) (sym same) ∙ present in
      subst (λ (o : Option (List ℕ)). IfSome o (λ b. IsSome (inner_decoded codec t r b))) (sym here) some

  -- ---- the whole shard

  module _ (whole : r.part.shape ≡ r.shape) where
    part_is : r.part ≡ box_at_origin r.shape
    part_is = origin_box r.part r.shape whole is.lies

    -- it has a position of each subchunk
    has_position : (i : List ℕ) (n : ℕ) → IsAt r i n → (p : List ℕ) × Holds r.part p × (quotients p r.sub ≡ i)
    has_position i n at =
        let len = (cut_len r.shape r.sub is.cut).0 in
        let full : 0 < position_count r.sub = count_some r.sub (λ k lt none. let some = (cut_at r.shape r.sub k is.cut (omega arith)).1 in omega arith) in
        let q = unravel r.sub 0 in
        let q_in : InShape r.sub q = unravel_in r.sub 0 full in
        let p = offset_by (corner r.sub i) q in (
          p,
          ap (λ (b : Box). in_box b p) part_is ∙ holds_chunk r.shape p (position_inside r.shape r.sub i q is.cut at.in_grid q_in),
          (parts_of_position r.shape r.sub i q is.cut at.in_grid q_in).0,
        )

    pub unshared_decodes : (i : List ℕ) → HasNone r i → DecodesOne codec t r i
    unshared_decodes i none n at = let p = has_position i n at in absurd (none p.0 p.1 p.2)

    -- what it shares with a subchunk is all of that
    pub shared_decodes : (i : List ℕ) (n : ℕ) (encoded : List ℕ) (shared own : Box) → IsAt r i n → IsShare r i n shared own → slice_index_or (parts_of r) n None ≡ Some encoded
        → (own.shape ≡ r.sub → IsSome (inner_decoded codec t r encoded)) → DecodesOne codec t r i
    shared_decodes i n encoded shared own at share present some =
        let shape : own.shape ≡ r.sub = ap (λ (b : Box). b.shape) share.own_is ∙ ap (λ (b : Box). b.shape) (share.shared_is ∙ shared_is r is n part_is at.below) in
        present_decodes i n encoded at present (some shape)

    -- so each subchunk decodes, if those that it meets do
    pub met_decode : (met : Box) → IsLong met → MeetsPart r.sub r.part met → ((i : List ℕ) → is_among (positions met) i ≡ true → DecodesOne codec t r i) → DecodesEach codec t r
    met_decode met long meets each i n at =
        let p = has_position i n at in
        let among : is_among (positions met) i ≡ true = subst (λ (j : List ℕ). is_among (positions met) j ≡ true) p.2 (met_among met (quotients p.0 r.sub) long (meets p.0 p.1)) in
        each i among n at

    -- or the only one does
    pub alone_decodes : (i : List ℕ) (shared : Box) (held : ArrayData) → HasPieceOf codec t r i shared held → shared ≡ r.part → DecodesOne codec t r i → DecodesEach codec t r
    alone_decodes i shared held has alone one j n at =
        let p = has_position j n at in
        let here : in_box shared p.0 ≡ true = ap (λ (b : Box). in_box b p.0) alone ∙ p.1 in
        go (pointwise nat_eq i j) refl p.0 p.1 p.2 here
      where
        go : (b : Bool) → pointwise nat_eq i j ≡ b → (p : List ℕ) → Holds r.part p → quotients p r.sub ≡ j → in_box shared p ≡ true → IfSome (slice_index_or (parts_of r) n None) (λ b. IsSome (inner_decoded codec t r b))
        go true same p holds is here = one n (subst (λ (x : List ℕ). IsAt r x n) (sym (same_text i j (sym same))) at)
        go false other p holds is here =
            absurd (false≢true (sym (has.others p holds (λ e. false≢true (sym other ∙ ap (pointwise nat_eq i) (sym is ∙ e) ∙ same_index i))) ∙ here))

  -- the shard decodes, if each subchunk does
  pub each_decodes : (chain_meaning (inner_chain_of codec)).fits (kind_of t) r.sub ≡ true → DecodesEach codec t r → IsSome (shard_decoded codec t r)
  each_decodes fits each =
      let m : ChainMeaning = chain_meaning (inner_chain_of codec) in
      let k = kind_of t in
      let f = filling t in
      let law = chain-lawful (inner_chain_of codec) in
      shard_decodes k (m.decoded k f r.sub) f r.shape r.sub is.cut (parts_of r) (subchunk_meaning m false k f r.sub) r.at_start r.encoded fits (λ b. refl) is.parts
      (λ b cs decodes. law.decoded_len k f r.sub b cs decodes) (λ b cs decodes. law.decoded_values k f r.sub b cs decodes) (fill-value k t.fill_value t.filled)
      (λ n lt. let at = at_number r n (omega (arith, parts_len r is)) in each (unravel (quotients r.shape r.sub) n) n at)

-- what follows of a result from two facts of it
pub ok_both : {T E : Type 0} (o : Result T E) (P Q R : T → Type 0) → ((x : T) → P x → Q x → R x) → IfOk o P → IfOk o Q → IfOk o R
ok_both (Ok x) P Q R f p q = f x p q
ok_both (Err e) P Q R f p q = tt
