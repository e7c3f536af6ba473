-- Chunks and parts of chunks: where they lie, and which are refused.
use Rattle.std.proofs.Common.{◌≡◌, ◌+◌, ◌<◌, ◌≤◌, not, ℕ, zero, suc, true, false, List, [], ◌∷◌, length, slice_index}
use Rattle.std.proofs.Common.{nat_le, Option, Some, None, refl, sym, ◌∙◌, ap, subst, inl, inr, arith}
use Rattle.std.proofs.lemmas.Bool.{cases_Bool, and_from, and_parts, false≢true, le-leb, leb-true}
use Rattle.zarrs_subset.specs.Boxes.{EndsFit, offset_by, zip_with}
use Rattle.zarrs_subset.specs.Refusals.{RefusesShift}
use Rattle.zarrs_subset.specs.Regions.{Box, IsLong, LiesInShape, box_from, shifted_box}
use Rattle.zarrs_subset.specs.declared.error.ArraySubsetError.{ArraySubsetError}
use Rattle.zarrs_subset.specs.declared.error.ArraySubsetError.TheVariants as subset
use Rattle.zarrs_chunk_grid.specs.Grids.{box_at, has_box}
use Rattle.zarrs_engine_calls.specs.declared.error.ArrayError.{ArrayError}
use Rattle.zarrs_engine_calls.specs.Layout.{Layout}
use Rattle.zarrs_engine_calls.specs.ArgumentRefusals.{chunk_refusal, part_refusal}
use Rattle.zarrs_engine_calls.specs.ChunkBoxes.{ends_within, is_part_of, part_box}
use Rattle.zarrs_engine_calls.specs.Errors.{error_of_subset}
use Rattle.zarrs_engine_calls.specs.Refusals as refusal
use Rattle.zarrs_engine_calls.specs.Refusals.{Refusal, RefusesBy, box_refusal, refusal_of, refuse_if}
use Rattle.zarrs_engine_calls.proofs.RefusalLemmas.{no_chunk, refusal_moved}
use Rattle.zarrs_engine_layout.specs.Steps.{RefusesIndices}

-- ---- the chunk

-- indices with a chunk are not refused
pub chunk_accepted : (layout : Layout) (index : List ℕ) → has_box layout.grid index ≡ true → chunk_refusal layout index ≡ None
chunk_accepted layout index has = ap (λ b. refuse_if (not b) (refusal.indices index)) has

-- and one that is not there is
pub chunk_missing : (layout : Layout) (index : List ℕ) → has_box layout.grid index ≡ false → chunk_refusal layout index ≡ Some (refusal.indices index)
chunk_missing layout index none = ap (λ b. refuse_if (not b) (refusal.indices index)) none

pub chunk_refused : (layout : Layout) (index : List ℕ) (e : ArrayError) → has_box layout.grid index ≡ false → RefusesIndices index e → RefusesBy (chunk_refusal layout index) (refusal_of e)
chunk_refused layout index e none r = subst (λ (o : Option Refusal). RefusesBy o (refusal_of e)) (sym (chunk_missing layout index none)) r

pub chunk_has : (layout : Layout) (index : List ℕ) → chunk_refusal layout index ≡ None → has_box layout.grid index ≡ true
chunk_has layout index none =
    elim (cases_Bool (has_box layout.grid index)) [
      | inl has ↦ has
      | inr missing ↦ absurd (let clash : None ≡ Some (refusal.indices index) = sym none ∙ chunk_missing layout index missing in cc)
    ]

-- what refuses the box of a chunk refuses the chunk
pub box_refuses : (layout : Layout) (index : List ℕ) (r : Refusal) → RefusesBy (chunk_refusal layout index) r → RefusesBy (box_refusal layout index) r
box_refuses layout index r = elim (cases_Bool (has_box layout.grid index)) [
  | inl has ↦ λ why. refusal_moved (chunk_refusal layout index) (box_refusal layout index) r (λ x is. absurd (let clash : None ≡ Some x = sym (chunk_accepted layout index has) ∙ is in cc)) why
  | inr none ↦ λ why. subst (λ (o : Option Refusal). RefusesBy o r) (chunk_missing layout index none ∙ sym (no_chunk layout index none)) why
]

-- ---- which parts lie in a chunk

-- the two forms of "the part lies in an array of this shape"
pub lies_within : (start extents shape : List ℕ) → length start ≡ length extents → LiesInShape (box_from start extents) shape → ends_within start extents shape ≡ true
lies_within [] [] [] long lies = refl
lies_within [] [] (n ∷ shape) long lies = let same = lies.same_length in absurd (omega arith)
lies_within [] (e ∷ extents) shape long lies = absurd (omega arith)
lies_within (s ∷ start) [] shape long lies = absurd (omega arith)
lies_within (s ∷ start) (e ∷ extents) [] long lies = let same = lies.same_length in absurd (omega arith)
lies_within (s ∷ start) (e ∷ extents) (n ∷ shape) long lies =
    let same = lies.same_length in
    let here : s + e ≤ n = lies.ends 0 (omega arith) in
    and_from (nat_le (s + e) n) (ends_within start extents shape) (le-leb (s + e) n here)
    (lies_within start extents shape (omega arith) (record { same_length = omega arith; ends = λ k below. lies.ends (suc k) (omega arith) }))

ends_at : (s e n : ℕ) (start extents shape : List ℕ) → s + e ≤ n → LiesInShape (box_from start extents) shape → (k : ℕ) → k < length (n ∷ shape)
    → slice_index (s ∷ start) k + slice_index (e ∷ extents) k ≤ slice_index (n ∷ shape) k
ends_at s e n start extents shape here rest zero below = here
ends_at s e n start extents shape here rest (suc k) below = rest.ends k (omega arith)

pub within_lies : (start extents shape : List ℕ) → ends_within start extents shape ≡ true → LiesInShape (box_from start extents) shape
within_lies [] [] [] is = record { same_length = refl; ends = λ k below. absurd (omega arith) }
within_lies [] [] (n ∷ shape) is = absurd (false≢true is)
within_lies [] (e ∷ extents) shape is = absurd (false≢true is)
within_lies (s ∷ start) [] shape is = absurd (false≢true is)
within_lies (s ∷ start) (e ∷ extents) [] is = absurd (false≢true is)
within_lies (s ∷ start) (e ∷ extents) (n ∷ shape) is =
    let parts = and_parts (nat_le (s + e) n) (ends_within start extents shape) is in
    let rest = within_lies start extents shape parts.1 in
    let same = rest.same_length in
    record { same_length = omega arith; ends = ends_at s e n start extents shape (leb-true (s + e) n parts.0) rest }

module _ (layout : Layout) (index : List ℕ) (part : Box) where
  -- a part that lies in its chunk is not refused
  pub part_accepted : IsLong part → LiesInShape part (box_at layout.grid index).shape → part_refusal layout index part ≡ None
  part_accepted long lies =
      let shape = (box_at layout.grid index).shape in
      ap (λ b. refuse_if (not b) (refusal.chunk_subset part index shape)) (lies_within part.start part.shape shape long lies)

  -- and another one is
  pub part_passes : (LiesInShape part (box_at layout.grid index).shape → ⊥) → part_refusal layout index part ≡ Some (refusal.chunk_subset part index (box_at layout.grid index).shape)
  part_passes out =
      let shape = (box_at layout.grid index).shape in
      elim (cases_Bool (is_part_of shape part)) [
        | inl inside ↦ absurd (out (within_lies part.start part.shape shape inside))
        | inr not_inside ↦ ap (λ b. refuse_if (not b) (refusal.chunk_subset part index shape)) not_inside
      ]

  pub part_refused : (e : ArrayError) → (LiesInShape part (box_at layout.grid index).shape → ⊥) → RefusesBy (Some (refusal.chunk_subset part index (box_at layout.grid index).shape)) (refusal_of e)
      → RefusesBy (part_refusal layout index part) (refusal_of e)
  part_refused e out r = subst (λ (o : Option Refusal). RefusesBy o (refusal_of e)) (sym (part_passes out)) r

  pub part_lies : part_refusal layout index part ≡ None → LiesInShape part (box_at layout.grid index).shape
  part_lies none =
      let shape = (box_at layout.grid index).shape in
      elim (cases_Bool (is_part_of shape part)) [
        | inl inside ↦ within_lies part.start part.shape shape inside
        | inr not_inside ↦ absurd (
            let said = ap (λ b. refuse_if (not b) (refusal.chunk_subset part index shape)) not_inside in
            let clash : None ≡ Some (refusal.chunk_subset part index shape) = sym none ∙ said in
            cc)
      ]

-- ---- where a part lies

offset_sums : (start offset : List ℕ) → zip_with (λ s t. s + t) start offset ≡ offset_by offset start
offset_sums [] [] = refl
offset_sums [] (o ∷ offset) = refl
offset_sums (s ∷ start) [] = refl
offset_sums (s ∷ start) (o ∷ offset) =
    let here : s + o ≡ o + s = omega arith in
    ap (λ x. x ∷ zip_with (λ s t. s + t) start offset) here ∙ ap (λ xs. (o + s) ∷ xs) (offset_sums start offset)

-- a part, seen from the origin of the array, is shifted by where its chunk begins
pub shifted_part : (chunk part : Box) → shifted_box part chunk.start ≡ part_box chunk part
shifted_part chunk part = ap (λ start. box_from start part.shape) (offset_sums part.start chunk.start)

-- it can be shifted: only memory may be short
pub shift_refused : (first : Option Refusal) (chunk part : Box) (e : ArraySubsetError) → IsLong chunk → EndsFit chunk.start chunk.shape → LiesInShape part chunk.shape
    → RefusesShift part.start part.shape chunk.start e → RefusesBy first (refusal_of (error_of_subset e))
shift_refused first chunk part (subset.IncompatibleDimensionality error) long fits lies h =
    absurd (h.0 (long ∙ sym lies.same_length))
shift_refused first chunk part subset.EndOverflow long fits lies (same, (k, below, past)) =
    absurd (let end = fits k in let inside = lies.ends k (omega (arith, long)) in omega arith)
shift_refused first chunk part subset.EndBelowStart long fits lies h = absurd h
shift_refused first chunk part subset.StartBelowOffset long fits lies h = absurd h
shift_refused first chunk part subset.OutOfMemory long fits lies h = tt
