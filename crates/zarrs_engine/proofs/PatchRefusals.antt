-- Why a part of a chunk is not written by itself.
use Rattle.std.proofs.Common.{◌≡◌, ℕ, Bool, cond, List, [], ◌∷◌, Option, Some, None, refl, sym, ap, subst, ◌∙◌, inl, inr, arith}
use Rattle.std.proofs.lemmas.Bool.{cases_Bool}
use Rattle.zarrs_subset.specs.Regions.{Box, overlap_of}
use Rattle.zarrs_subset.specs.Refusals.{RefusesLength}
use Rattle.zarrs_subset.specs.declared.error.ArraySubsetError.{ArraySubsetError}
use Rattle.zarrs_subset.specs.declared.error.ArraySubsetError.TheVariants as subset
use Rattle.zarrs_chunk_grid.specs.Grids.{box_at}
use Rattle.zarrs_storage.specs.Store.{StoreState, Values}
use Rattle.zarrs_storage.specs.declared.error.StorageError.{StorageError}
use Rattle.zarrs_storage.specs.declared.error.StorageError.TheVariants as stored
use Rattle.zarrs_codec_leaf.specs.declared.error.CodecError.{CodecError}
use Rattle.zarrs_codec_leaf.specs.declared.error.CodecError.TheVariants as coded
use Rattle.zarrs_data_type.specs.ArrayData.{ArrayData}
use Rattle.zarrs_data_type.specs.Parts.{ExtractsCells}
use Rattle.zarrs_codec_chain.specs.Refusals.{RefusesPartialEncoding}
use Rattle.zarrs_engine_calls.specs.Layout.{Layout}
use Rattle.zarrs_engine_calls.specs.Content.{value_at}
use Rattle.zarrs_engine_calls.specs.Errors.{error_of_subset}
use Rattle.zarrs_engine_calls.specs.ChunkBoxes.{chunk_part}
use Rattle.zarrs_engine_calls.specs.Refusals as refusal
use Rattle.zarrs_engine_calls.specs.Refusals.{Refusal, RefusesBy, key_refusal, refusal_of, refusal_of_codec, refusal_of_storage}
use Rattle.zarrs_engine_calls.specs.StateRefusals.{RefusesErasure, RefusesPart}
use Rattle.zarrs_engine_calls.specs.Patches.{IsEncodedAs, IsNotEncoded, RefusesPartOf, RefusesPartly}
use Rattle.zarrs_engine_calls.proofs.Contents.{only_member}
use Rattle.zarrs_engine_calls.proofs.RefusalLemmas.{memory_or_said}
use Rattle.zarrs_engine.specs.Patches.{LeavesPartly, LeavesPatch, RefusesPutPart}
use Rattle.zarrs_engine_calls.proofs.PartCounts.{made_as, none_made, one_named}

-- ---- only memory may be short

-- where nothing is refused that is decided
pub only_memory : (first : Option Refusal) (r : Refusal) → first ≡ None → RefusesBy first r → r ≡ refusal.out_of_memory
only_memory first r none why = elim (memory_or_said first r why) [
  | inl memory ↦ memory
  | inr said ↦ absurd (let clash : None ≡ Some r = sym none ∙ said in cc)
]

-- of two boxes of as many dimensions
pub length_memory : (got expected : ℕ) (e : ArraySubsetError) → got ≡ expected → RefusesLength got expected e → refusal_of (error_of_subset e) ≡ refusal.out_of_memory
length_memory got expected (subset.IncompatibleDimensionality mismatch) same why = absurd (why.0 same)
length_memory got expected subset.EndOverflow same why = absurd why
length_memory got expected subset.EndBelowStart same why = absurd why
length_memory got expected subset.StartBelowOffset same why = absurd why
length_memory got expected subset.OutOfMemory same why = refl

-- ---- one part

module _ (layout : Layout) (keep : Bool) (index : List ℕ) (part : Box) (held : ArrayData) where
  -- the key of the chunk refuses to be read
  pub key_partly : (state : StoreState) (r : Refusal) → RefusesBy (key_refusal layout index state) r → RefusesPartly layout keep index part held 0 state r
  key_partly state r why = elim (memory_or_said _ r why) [
    | inl memory ↦ subst (RefusesPartly layout keep index part held 0 state) (sym memory) tt
    | inr said ↦ elim (cases_Bool (state.refuses (layout.key index))) [
      | inl hit ↦
          let is : Some refusal.storage ≡ Some r = sym (ap (λ b. cond b (Some refusal.storage) None) hit) ∙ said in
          let same : refusal.storage ≡ r = cc in
          subst (RefusesPartly layout keep index part held 0 state) same (inl (refl, hit))
      | inr miss ↦ absurd (let clash : None ≡ Some r = sym (ap (λ b. cond b (Some refusal.storage) None) miss) ∙ said in cc)
    ]
  ]

  -- the part is not encoded
  pub encoded_partly : (state : StoreState) (r : Refusal)
      → IsNotEncoded layout keep (box_at layout.grid index).shape (value_at state (layout.key index)) part held r → RefusesPartly layout keep index part held 0 state r
  encoded_partly state r not = subst (RefusesPartly layout keep index part held 0 state) (sym not.is) (go not.error not.cause)
    where
      go : (e : CodecError) → RefusesPartialEncoding layout.chain keep layout.kind layout.fill (box_at layout.grid index).shape (value_at state (layout.key index)) part held e
          → RefusesPartly layout keep index part held 0 state (refusal_of_codec e)
      go (coded.DoesNotFit misfit) cause = (refl, record { error = coded.DoesNotFit misfit; is = refl; cause = cause })
      go coded.SizeOverflow cause = (refl, record { error = coded.SizeOverflow; is = refl; cause = cause })
      go coded.OutOfMemory cause = tt

  -- the part is encoded, and the writing call is refused
  erasure_partly : (e : StorageError) (failed : ℕ) (new : StoreState) → IsEncodedAs layout keep index new part held → RefusesErasure failed new (refusal_of_storage e)
      → RefusesPartly layout keep index part held failed new (refusal_of_storage e)
  erasure_partly (stored.InvalidMetadata key said) failed new is fails = inr (is, fails)
  erasure_partly stored.ReadOnly failed new is fails = inr (is, fails)
  erasure_partly stored.InvalidByteRange failed new is fails = inr (is, fails)
  erasure_partly stored.Exhausted failed new is fails = inr (is, fails)
  erasure_partly (stored.Other said) failed new is fails = inr (is, fails)
  erasure_partly stored.OutOfMemory failed new is fails = tt

  pub partly_leaves : (r : Refusal) (state : StoreState) → RefusesPartly layout keep index part held 0 state r → LeavesPartly layout keep index part held r state state
  partly_leaves r state why = record {
    failed = 0;
    one = omega arith;
    counted = λ some. absurd (omega arith);
    values = refl;
    makes = none_made (λ i. Unit {0}) (index ∷ []) state;
    cause = why;
  }

  pub put_leaves_partly : (key : List ℕ) (e : StorageError) (old new : StoreState) → IsEncodedAs layout keep index old part held → RefusesPutPart key (refusal_of_storage e) old new
      → LeavesPartly layout keep index part held (refusal_of_storage e) old new
  put_leaves_partly key e old new is put = record {
    failed = put.failed;
    one = put.one;
    counted = put.counted;
    values = put.values;
    makes = one_named key index 0 put.failed old new put.makes;
    cause = erasure_partly e put.failed new
        (subst (λ (values : Values). IsEncodedAs layout keep index (record old { values = values }) part held) (sym put.values) is) put.cause;
  }

-- ---- the part that a region has of a chunk

module _ (layout : Layout) (keep : Bool) (itself : List ℕ → Type 0) (region : Box) (held : ArrayData) (index : List ℕ) where
  -- out of memory
  pub memory_leaves : (r : Refusal) (state : StoreState) → r ≡ refusal.out_of_memory → LeavesPatch layout keep itself region held index r state state
  memory_leaves r state is = record {
    failed = 0;
    one = omega arith;
    counted = λ some. absurd (omega arith);
    values = refl;
    makes = none_made itself (index ∷ []) state;
    cause = record { whole = λ _. subst (RefusesPart layout keep region held index 0 state) (sym is) tt; partly = λ _. inl is };
  }

  -- why the part is not written is why the chunk does not take its part
  module _ (part : Box) (taken : ArrayData) (part_is : part ≡ chunk_part region (box_at layout.grid index))
      (are : ExtractsCells layout.kind region held (overlap_of region (box_at layout.grid index)) taken) where
    pub partly_of : (failed : ℕ) (state : StoreState) (r : Refusal) → RefusesPartly layout keep index part taken failed state r
        → RefusesPartOf layout keep region held index failed state r
    partly_of failed state r why =
        record { taken = taken; are_cells = are; cause = subst (λ (b : Box). RefusesPartly layout keep index b taken failed state r) part_is why }

    pub partly_leaves_patch : (r : Refusal) (old new : StoreState) → itself index → LeavesPartly layout keep index part taken r old new
        → LeavesPatch layout keep itself region held index r old new
    partly_leaves_patch r old new is l = record {
      failed = l.failed;
      one = l.one;
      counted = l.counted;
      values = l.values;
      makes = made_as (λ i. Unit {0}) itself (index ∷ []) 0 l.failed old new (λ i among _. subst itself (sym (only_member index i among)) is) l.makes;
      cause = record { whole = λ not. absurd (not is); partly = λ _. inr (partly_of l.failed new r l.cause) };
    }
