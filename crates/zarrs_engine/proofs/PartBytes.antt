-- Parts of chunks, read from the bytes at their keys.
use Rattle.std.proofs.Common.{◌≡◌, ◌≤◌, ◌*◌, ◌^◌, ℕ, Bool, true, false, List, [], ◌∷◌, length, Option, Some, None, option_map, refl, sym, ◌∙◌, ap, subst, inl, inr, arith}
use Rattle.std.specs.Prelude.{unwrap_or}
use Rattle.std.specs.FinMap as map
use Rattle.std.specs.Option.{option_or}
use Rattle.std.proofs.lemmas.Bool.{cases_Bool, lt-leb}
use Rattle.std.proofs.Math.Nat.{mul-le-mul_right}
use Rattle.zarrs_subset.specs.Boxes.{position_count}
use Rattle.zarrs_subset.specs.Regions.{Box}
use Rattle.zarrs_chunk_grid.specs.Grids.{box_at, has_box}
use Rattle.zarrs_chunk_grid.proofs.Chunks.{box_is_there}
use Rattle.zarrs_storage.specs.Store.{StoreState, size_at}
use Rattle.zarrs_storage.specs.Refusals.{RefusesRead}
use Rattle.zarrs_storage.specs.declared.error.StorageError.{StorageError}
use Rattle.zarrs_data_type.specs.Kind.{cell_size}
use Rattle.zarrs_data_type.specs.ArrayData.{ArrayData}
use Rattle.zarrs_data_type.specs.Cells.{HasCells}
use Rattle.zarrs_data_type_bytes.proofs.Cells.{HasCells-some}
use Rattle.zarrs_codec_leaf.specs.Stored.{value_or_empty}
use Rattle.zarrs_codec_chain.specs.Refusals.{IsTooLargeToDecode}
use Rattle.zarrs_engine_calls.specs.ChunkBoxes.{chunk_part}
use Rattle.zarrs_engine_calls.specs.Layout.{Layout}
use Rattle.zarrs_engine_calls.specs.Content.{decoded_cells, value_at}
use Rattle.zarrs_engine_calls.specs.ArgumentRefusals.{chunk_refusal, size_refusal}
use Rattle.zarrs_engine_calls.specs.ChunkBoxes.{CoversBox}
use Rattle.zarrs_engine_calls.specs.Errors.{error_of_storage}
use Rattle.zarrs_engine_calls.specs.Refusals as refusal
use Rattle.zarrs_engine_calls.specs.Refusals.{Refusal, RefusesBy, box_refusal, is_too_large, refusal_of, refuse_if}
use Rattle.zarrs_engine_calls.specs.StateRefusals.{IsPart, RefusesSomeChunk}
use Rattle.zarrs_engine_calls.proofs.Contents.{member}
use Rattle.zarrs_engine_calls.proofs.RefusalLemmas.{fit_chunk, large_chunk, memory_or_said, not_large, refuses_said}
use Rattle.zarrs_engine_layout.specs.Steps.{RefusesBytes, RefusesPartBytes}
use Rattle.zarrs_engine_layout.proofs.ChunkParts.{chunk_accepted}
use Rattle.zarrs_engine_layout.proofs.Chunks.{value_refused_store}
use Rattle.zarrs_engine_layout.proofs.RegionRefusals.{some_broken, some_key, some_large, some_size}
use Rattle.zarrs_engine.specs.RegionReads.{DecodesStored}

-- the bytes of a value that has a size
pub value_there : (o : Option (List ℕ)) (size : ℕ) → option_map length o ≡ Some size → (value : List ℕ) × (o ≡ Some value) × (unwrap_or o [] ≡ value)
value_there None size is = absurd (cc)
value_there (Some value) size is = (value, refl, refl)

-- what a source of a stored value reads
pub source_value : (s t : StoreState) (k key : List ℕ) (size : ℕ) → s ≡ t → k ≡ key → size_at s.values k ≡ Some size
    → (value : List ℕ) × (value_at t key ≡ Some value) × (value_or_empty s k ≡ value)
source_value s t k key size same named is =
    let found = value_there (map.get s.values k) size is in (
      found.0,
      ap (λ (u : StoreState). map.get u.values key) (sym same) ∙ ap (map.get s.values) (sym named) ∙ found.1,
      found.2,
    )

-- a size that is accepted
pub size_fits : (layout : Layout) (shape : List ℕ) → size_refusal layout shape ≡ None → is_too_large layout shape ≡ false
size_fits layout shape none =
    elim (cases_Bool (is_too_large layout shape)) [
      | inr small ↦ small
      | inl large ↦ absurd (let clash : Some refusal.size_overflow ≡ None = sym (ap (λ b. refuse_if b refusal.size_overflow) large) ∙ none in cc)
    ]

-- so is that of a box of fewer positions
pub smaller_fits : (layout : Layout) (a b : List ℕ) → position_count a ≤ position_count b → size_refusal layout b ≡ None → size_refusal layout a ≡ None
smaller_fits layout a b few fits =
    let small = not_large layout b (size_fits layout b fits) in
    let less : position_count a * cell_size layout.kind ≤ position_count b * cell_size layout.kind = mul-le-mul_right (cell_size layout.kind) few in
    ap (λ large. refuse_if large refusal.size_overflow) (lt-leb (2 ^ 64) (position_count a * cell_size layout.kind) (omega arith))

-- a decode of a part is one cell for each of its positions
pub decoded_has : (layout : Layout) (index : List ℕ) (part shared : Box) (state : StoreState) (made : ArrayData) → DecodesStored layout index part state made → part.shape ≡ shared.shape
    → HasCells layout.kind made (position_count shared.shape)
decoded_has layout index part shared state made d same =
    subst (HasCells layout.kind made) (d.decodes.count ∙ ap position_count same) (HasCells-some layout.kind made d.decodes.given d.decodes.are_cells)

-- what comes first refuses by itself
refused_large : (r : Refusal) (first later : Option Refusal) → first ≡ Some refusal.size_overflow → RefusesBy (option_or first later) r → RefusesBy first r
refused_large r first later is h = elim (memory_or_said _ r h) [
  | inl memory ↦ subst (RefusesBy first) (sym memory) tt
  | inr said ↦ refuses_said first r (is ∙ sym (ap (λ o. option_or o later) is) ∙ said)
]

module _ (layout : Layout) (region : Box) (index : List ℕ) (state : StoreState) (has : has_box layout.grid index ≡ true) where
  memory_why : (r : Refusal) → r ≡ refusal.out_of_memory → RefusesSomeChunk layout region (index ∷ []) state r
  memory_why r is = subst (RefusesSomeChunk layout region (index ∷ []) state) (sym is) tt

  -- the box of a chunk that there is is not returned: out of memory
  pub box_why : (r : Refusal) → RefusesBy (chunk_refusal layout index) r → RefusesSomeChunk layout region (index ∷ []) state r
  box_why r h = elim (memory_or_said _ r h) [
    | inl memory ↦ memory_why r memory
    | inr said ↦ absurd (let clash : None ≡ Some r = sym (chunk_accepted layout index has) ∙ said in cc)
  ]

  -- the store refuses the key, or out of memory
  pub key_why : (key : List ℕ) (e : StorageError) → key ≡ layout.key index → RefusesRead state key e → RefusesSomeChunk layout region (index ∷ []) state (refusal_of (error_of_storage e))
  key_why key e is why =
      some_key layout region index state has (refusal_of (error_of_storage e)) (value_refused_store layout index key state e (box_is_there layout.grid index has).long is why)

  -- the bytes of a chunk that is present, and that the region covers, are not decoded
  pub bytes_why : CoversBox region (box_at layout.grid index) → (encoded : List ℕ) → value_at state (layout.key index) ≡ Some encoded → (r : Refusal) → RefusesBytes layout index encoded r → RefusesSomeChunk layout region (index ∷ []) state r
  bytes_why covers encoded stands r why =
      elim (cases_Bool (is_too_large layout (box_at layout.grid index).shape)) [
        | inr fit ↦ some_broken layout region index state has covers encoded stands (fit_chunk layout index has fit) r why
        | inl large ↦ elim why [
          | inl h ↦ some_size layout region index state has covers encoded stands r (refused_large r (box_refusal layout index) _ (large_chunk layout index has large) h)
          | inr lack ↦ absurd (let clash : None ≡ Some refusal.size_overflow = sym lack.1.boxed ∙ large_chunk layout index has large in cc)
        ]
      ]

  -- a part of a chunk that is present is not decoded
  pub part_why : IsPart layout region index → (piece : Box) → piece ≡ chunk_part region (box_at layout.grid index) → (encoded : List ℕ) (refuses : Bool) (box : Box) → box ≡ box_at layout.grid index → refuses ≡ state.refuses (layout.key index) → value_at state (layout.key index) ≡ Some encoded
      → (r : Refusal) → RefusesPartBytes layout box piece encoded refuses r → RefusesSomeChunk layout region (index ∷ []) state r
  part_why part piece seen encoded refuses box is same stands refusal.storage why = (index, member index, sym same ∙ why)
  part_why part piece seen encoded refuses box is same stands refusal.codec why =
      (index, member index, record { encoded = encoded; stands = stands; undecoded = subst (λ (b : Box). decoded_cells layout b encoded ≡ None) is why })
  part_why part piece seen encoded refuses box is same stands refusal.size_overflow why =
      some_large layout region index state has encoded stands part
      (subst (λ (b : Box). IsTooLargeToDecode layout.chain layout.kind layout.fill b.shape (chunk_part region (box_at layout.grid index)) encoded) is
      (subst (λ (b : Box). IsTooLargeToDecode layout.chain layout.kind layout.fill box.shape b encoded) seen why))
  part_why part piece seen encoded refuses box is same stands refusal.out_of_memory why = tt
  part_why part piece seen encoded refuses box is same stands _ why = absurd why
