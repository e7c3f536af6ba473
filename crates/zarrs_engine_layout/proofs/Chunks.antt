-- Calls of one chunk, from what their parts ensure.
use Rattle.std.proofs.Common.{◌≡◌, ◌≢◌, ◌⊎◌, ◌*◌, ◌^◌, ℕ, Bool, true, false, not, cond, nat_le, List, length, Option, Some, None, is_some}
use Rattle.std.proofs.Common.{replicate, ◌==◌, eq-eqb, IfOk, OnOk, Result, Ok, Err, option_map, refl, sym, ◌∙◌, ap, subst, inl, inr}
use Rattle.std.specs.Prelude.{Vec}
use Rattle.std.specs.declared.alloc.Global.{Global}
use Rattle.std.specs.Option.{option_or}
use Rattle.std.proofs.lemmas.Bool.{cases_Bool}
use Rattle.std.proofs.lemmas.Map.Views.{exact_unsigned_eq}
use Rattle.zarrs_subset.specs.Boxes.{position_count}
use Rattle.zarrs_subset.specs.Regions.{Box}
use Rattle.zarrs_chunk_grid.specs.Grids.{box_at, has_box}
use Rattle.zarrs_chunk_grid.proofs.Chunks.{box_is_there}
use Rattle.zarrs_storage.specs.Store.{StoreState}
use Rattle.zarrs_storage.specs.Refusals.{RefusesRead}
use Rattle.zarrs_storage.specs.declared.error.StorageError.{StorageError}
use Rattle.zarrs_storage.specs.declared.error.StorageError.TheVariants as stored
use Rattle.zarrs_codec_leaf.specs.declared.error.CodecError.{CodecError}
use Rattle.zarrs_codec_leaf.specs.declared.error.CodecError.TheVariants as coded
use Rattle.zarrs_codec_chain.specs.Chain.{ChainMeaning, IsLawfulChain, chunk_encoding}
use Rattle.zarrs_codec_chain.specs.Refusals.{RefusesChunkEncoding}
use Rattle.zarrs_data_type.specs.Kind.{Kind}
use Rattle.zarrs_data_type.specs.Cell.{Cell, held_size}
use Rattle.zarrs_data_type.specs.ArrayData.{ArrayData}
use Rattle.zarrs_data_type.specs.Cells.{cells, HasCells}
use Rattle.zarrs_data_type_bytes.proofs.Cells.{HasCells-some}
use Rattle.zarrs_engine_calls.specs.declared.error.ArrayError.{ArrayError}
use Rattle.zarrs_engine_calls.specs.Layout.{Layout, IsLawful}
use Rattle.zarrs_engine_calls.specs.Content.{value_at, decoded_cells}
use Rattle.zarrs_engine_calls.specs.Errors.{error_of_storage, error_of_codec}
use Rattle.zarrs_engine_calls.specs.Refusals as refusal
use Rattle.zarrs_engine_calls.specs.Refusals.{Refusal, refusal_of, length_refusal, box_refusal}
use Rattle.zarrs_engine_calls.specs.Refusals.{is_left_out, encoded_cells, encode_refusal, data_refusal, key_refusal}
use Rattle.zarrs_engine_calls.specs.Refusals.{fill_refusal, is_too_large, read_refusal, RefusesBy, refuse_if}
use Rattle.zarrs_engine_calls.specs.Changes.{IsValueOf, RetrievesChunk, RetrievesIfExists}
use Rattle.zarrs_engine_calls.specs.Reads.{IsBroken}
use Rattle.zarrs_engine_calls.specs.StateRefusals.{NeedsLargeFill, RefusesChunkRead}
use Rattle.zarrs_engine_layout.specs.Steps.{HasValue, MakesValue, RefusesBytes, RefusesIndices, RefusesValue}
use Rattle.zarrs_engine_calls.proofs.Contents.{reads_decoded, reads_absent}
use Rattle.zarrs_engine_calls.proofs.RefusalLemmas.{refusal_moved, first_refusal, refused_first, refused_second, second_refusal, box_accepted, fit_chunk, memory_or_said}

-- what holds of each answer, by a fact that goes with any
pub both_ok : {T E : Type 0} (r : Result T E) (P R : T → Type 0) (Q : Type 0) → ((x : T) → Q → P x → R x) → OnOk r Q → IfOk r P → IfOk r R
both_ok (Ok x) P R Q f q p = f x q p
both_ok (Err e) P R Q f q p = tt

-- an index list of another length has no box
pub wrong_length : (layout : Layout) (index : List ℕ) → length index ≢ layout.grid.dimensions → has_box layout.grid index ≡ false
wrong_length layout index wrong =
    elim (cases_Bool (has_box layout.grid index)) [
      | inl there ↦ absurd (wrong (box_is_there layout.grid index there).long)
      | inr none ↦ none
    ]

other_length : (n d : ℕ) → n ≢ d → (n == d) ≡ false
other_length n d apart = elim (cases_Bool (n == d)) [ inl is ↦ absurd (apart (exact_unsigned_eq n d is)) | inr is_not ↦ is_not ]

-- and indices of another length
pub wrong_length_said : (layout : Layout) (index : List ℕ) → length index ≢ layout.grid.dimensions → length_refusal layout index ≡ Some (refusal.indices index)
wrong_length_said layout index wrong = ap (λ b. cond b None (Some (refusal.indices index))) (other_length (length index) layout.grid.dimensions wrong)

pub refuses_length : (layout : Layout) (index : List ℕ) (e : ArrayError) → length index ≢ layout.grid.dimensions → RefusesIndices index e → RefusesBy (length_refusal layout index) (refusal_of e)
refuses_length layout index e wrong r = subst (λ o. RefusesBy o (refusal_of e)) (sym (wrong_length_said layout index wrong)) r

pub right_length : (layout : Layout) (index : List ℕ) → length index ≡ layout.grid.dimensions → length_refusal layout index ≡ None
right_length layout index long = ap (λ b. cond b None (Some (refusal.indices index))) (eq-eqb _ _ long)

-- data that is not the cells of a chunk of this shape
pub data_unfit : (layout : Layout) (keep : Bool) (shape : List ℕ) (held : ArrayData) → (HasCells layout.kind held (position_count shape) → ⊥) → data_refusal layout keep shape (cells layout.kind held) ≡ Some refusal.codec
data_unfit layout keep shape held unfit =
    elim (cells layout.kind held) as (λ o. cells layout.kind held ≡ o → data_refusal layout keep shape o ≡ Some refusal.codec) [
      | None ↦ λ at. refl
      | Some cs ↦ λ at. elim (cases_Bool (length cs == position_count shape)) [
        | inl is ↦ absurd (unfit (let long = exact_unsigned_eq (length cs) (position_count shape) is in subst (HasCells layout.kind held) long (HasCells-some layout.kind held cs at)))
        | inr is_not ↦ ap (λ b. cond (not b) (Some refusal.codec) (cond (is_left_out layout keep cs) None (encode_refusal layout keep shape cs))) is_not
      ]
    ] refl

-- what the data of a chunk is refused for
data_counted : (layout : Layout) (keep : Bool) (shape : List ℕ) (held : ArrayData) (cs : List Cell) → cells layout.kind held ≡ Some cs → length cs ≡ position_count shape → data_refusal layout keep shape (cells layout.kind held) ≡ cond (is_left_out layout keep cs) None (encode_refusal layout keep shape cs)
data_counted layout keep shape held cs at long =
    ap (data_refusal layout keep shape) at
    ∙ ap (λ b. cond (not b) (Some refusal.codec) (cond (is_left_out layout keep cs) None (encode_refusal layout keep shape cs))) (eq-eqb _ _ long)

pub left_out_accepted : (layout : Layout) (keep : Bool) (shape : List ℕ) (held : ArrayData) (cs : List Cell) → cells layout.kind held ≡ Some cs → length cs ≡ position_count shape → is_left_out layout keep cs ≡ true → data_refusal layout keep shape (cells layout.kind held) ≡ None
left_out_accepted layout keep shape held cs at long left =
    data_counted layout keep shape held cs at long ∙ ap (λ b. cond b None (encode_refusal layout keep shape cs)) left

pub kept_refusal : (layout : Layout) (keep : Bool) (shape : List ℕ) (held : ArrayData) (cs : List Cell) → cells layout.kind held ≡ Some cs → length cs ≡ position_count shape → is_left_out layout keep cs ≡ false → data_refusal layout keep shape (cells layout.kind held) ≡ encode_refusal layout keep shape cs
kept_refusal layout keep shape held cs at long kept =
    data_counted layout keep shape held cs at long ∙ ap (λ b. cond b None (encode_refusal layout keep shape cs)) kept

-- the encoding of a chunk's data is that of its cells
pub chunk_encoding_is : (chain : ChainMeaning) (keep : Bool) (kind : Kind) (fill : Cell) (shape : List ℕ) (held : ArrayData) (cs : List Cell) → cells kind held ≡ Some cs → length cs ≡ position_count shape → chunk_encoding chain keep kind fill shape held ≡ chain.encoded keep kind fill shape cs
chunk_encoding_is chain keep kind fill shape held cs at long =
    ap (λ o. elim o [ None ↦ None | Some found ↦ cond (length found == position_count shape) (chain.encoded keep kind fill shape found) None ]) at
    ∙ ap (λ b. cond b (chain.encoded keep kind fill shape cs) None) (eq-eqb _ _ long)

pub encode_accepted : (layout : Layout) (keep : Bool) (shape : List ℕ) (cs : List Cell) (encoded : List ℕ) → encoded_cells layout keep shape cs ≡ Some encoded → encode_refusal layout keep shape cs ≡ None
encode_accepted layout keep shape cs encoded at =
    ap (λ o. cond (is_some o) None (cond (layout.chain.fits layout.kind shape) (Some refusal.size_overflow) (Some refusal.codec))) at

encode_none : (layout : Layout) (keep : Bool) (shape : List ℕ) (cs : List Cell) → encoded_cells layout keep shape cs ≡ None → encode_refusal layout keep shape cs ≡ cond (layout.chain.fits layout.kind shape) (Some refusal.size_overflow) (Some refusal.codec)
encode_none layout keep shape cs at =
    ap (λ o. cond (is_some o) None (cond (layout.chain.fits layout.kind shape) (Some refusal.size_overflow) (Some refusal.codec))) at

-- what the chain refuses
pub encode_refused : (layout : Layout) → IsLawfulChain layout.chain → (keep : Bool) (shape : List ℕ) (held : ArrayData) (cs : List Cell) (e : CodecError) → cells layout.kind held ≡ Some cs → length cs ≡ position_count shape
    → RefusesChunkEncoding layout.chain keep layout.kind layout.fill shape held e → RefusesBy (encode_refusal layout keep shape cs) (refusal_of (error_of_codec e))
encode_refused layout lawful keep shape held cs (coded.DoesNotFit _) at long unfit =
    encode_none layout keep shape cs (lawful.unfit keep layout.kind layout.fill shape cs unfit)
    ∙ ap (λ b. cond b (Some refusal.size_overflow) (Some refusal.codec)) unfit
encode_refused layout lawful keep shape held cs coded.SizeOverflow at long h =
    encode_none layout keep shape cs (sym (chunk_encoding_is layout.chain keep layout.kind layout.fill shape held cs at long) ∙ h.1)
    ∙ ap (λ b. cond b (Some refusal.size_overflow) (Some refusal.codec)) h.0
encode_refused layout lawful keep shape held cs coded.OutOfMemory at long h = tt

-- which of two refusals comes
pub refused_either : (a b : Option Refusal) (r : Refusal) → RefusesBy (option_or a b) r → RefusesBy a r ⊎ ((a ≡ None) × RefusesBy b r)
refused_either None b r h = inr (refl, h)
refused_either (Some x) b r h = inl h

-- neither of two refusals comes
pub both_accepted : (a b : Option Refusal) → option_or a b ≡ None → (a ≡ None) × (b ≡ None)
both_accepted None b h = (refl, h)
both_accepted (Some x) b h = absurd (cc)

-- what is to be present at a key goes by the shape of the chunk
has_moved : (layout : Layout) (keep : Bool) (a b : Box) (held : ArrayData) (value : Option (List ℕ)) → a.shape ≡ b.shape → HasValue layout keep a held value → HasValue layout keep b held value
has_moved layout keep a b held value same h = record {
  chunk = h.chunk;
  is_chunk = h.is_chunk;
  count = h.count ∙ ap position_count same;
  is_value = moved value h.is_value;
}
  where
    moved : (v : Option (List ℕ)) → IsValueOf layout keep a h.chunk v → IsValueOf layout keep b h.chunk v
    moved None is = is
    moved (Some encoded) is = (is.0, ap (λ s. encoded_cells layout keep s h.chunk) (sym same) ∙ is.1)

-- the same of what a step made, where nothing that comes first refuses it
pub value_moved : (layout : Layout) (keep : Bool) (first : Option Refusal) (a b : Box) (held : ArrayData) (result : Result (Option (Vec ℕ Global)) ArrayError) → a.shape ≡ b.shape → first ≡ None
    → MakesValue layout keep None a held result → MakesValue layout keep first b held result
value_moved layout keep first a b held (Ok value) same none h = record {
  answer = has_moved layout keep a b held (option_map (λ v. v.items) value) same h.answer;
  accepted = second_refusal first (data_refusal layout keep b.shape (cells layout.kind held)) none ∙ subst (λ s. data_refusal layout keep s (cells layout.kind held) ≡ None) same h.accepted;
  refused = tt;
}
value_moved layout keep first a b held (Err e) same none h = record {
  answer = tt;
  accepted = tt;
  refused = refused_second first (data_refusal layout keep b.shape (cells layout.kind held)) (refusal_of e) none (subst (λ s. RefusesBy (data_refusal layout keep s (cells layout.kind held)) (refusal_of e)) same h.refused);
}

-- the first of two refusals is the first of three
refusal_more : (a b c : Option Refusal) (x : Refusal) → option_or a b ≡ Some x → option_or a (option_or b c) ≡ Some x
refusal_more None b c x h = first_refusal b c x h
refusal_more (Some y) b c x h = h

-- a key that the store does not refuse
pub key_accepted : (layout : Layout) (index : List ℕ) (state : StoreState) → (state.refuses (layout.key index) ≡ true → ⊥) → key_refusal layout index state ≡ None
key_accepted layout index state open_key =
    elim (cases_Bool (state.refuses (layout.key index))) [
      | inl is ↦ absurd (open_key is)
      | inr is_not ↦ ap (λ b. cond b (Some refusal.storage) None) is_not
    ]

-- the bytes of a chunk are refused for the length of the index list
pub value_refused_length : (layout : Layout) (index : List ℕ) (state : StoreState) (e : ArrayError) → length index ≢ layout.grid.dimensions → RefusesIndices index e → RefusesValue layout index state (refusal_of e)
value_refused_length layout index state e wrong r =
    refused_first (length_refusal layout index) (key_refusal layout index state) (refusal_of e) (refuses_length layout index e wrong r)

-- what the store says is the refusal of the key, or out of memory
value_refused_said : (first : Option Refusal) (e : StorageError) → first ≡ Some refusal.storage → RefusesBy first (refusal_of (error_of_storage e))
value_refused_said first (stored.InvalidMetadata key encoded) h = h
value_refused_said first stored.ReadOnly h = h
value_refused_said first stored.InvalidByteRange h = h
value_refused_said first stored.Exhausted h = h
value_refused_said first (stored.Other encoded) h = h
value_refused_said first stored.OutOfMemory h = tt

-- or by the store
pub value_refused_store : (layout : Layout) (index key : List ℕ) (state : StoreState) (e : StorageError) → length index ≡ layout.grid.dimensions → key ≡ layout.key index → RefusesRead state key e → RefusesValue layout index state (refusal_of (error_of_storage e))
value_refused_store layout index key state e long is (inl memory) = rw memory tt
value_refused_store layout index key state e long is (inr refuses) =
    value_refused_said _ e
    (second_refusal (length_refusal layout index) _ (right_length layout index long)
    ∙ ap (λ b. cond b (Some refusal.storage) None) (ap state.refuses (sym is) ∙ refuses))

-- a read that was refused before the bytes came
pub read_refused_first : (layout : Layout) (needed : Bool) (index : List ℕ) (state : StoreState) (r : Refusal) → RefusesValue layout index state r → RefusesChunkRead layout (length_refusal layout index) needed index state r
read_refused_first layout needed index state r h =
    let more = refusal_more (length_refusal layout index) (key_refusal layout index state) (read_refusal layout needed index (value_at state (layout.key index))) in
    inl (refusal_moved (option_or (length_refusal layout index) (key_refusal layout index state)) _ r more h)

-- and after
pub read_refused_then : (layout : Layout) (needed : Bool) (index : List ℕ) (found : Option (List ℕ)) (state : StoreState) (r : Refusal) → length index ≡ layout.grid.dimensions → key_refusal layout index state ≡ None → found ≡ value_at state (layout.key index)
    → RefusesBy (read_refusal layout needed index found) r → RefusesChunkRead layout (length_refusal layout index) needed index state r
read_refused_then layout needed index found state r long open_key at h =
    inl (refusal_moved (read_refusal layout needed index (value_at state (layout.key index))) _ r
    (λ x is. second_refusal (length_refusal layout index) _ (right_length layout index long) ∙ second_refusal (key_refusal layout index state) _ open_key ∙ is)
    (subst (λ (o : Option (List ℕ)). RefusesBy (read_refusal layout needed index o) r) at h))

-- its bytes do not decode, or leave out cells
pub bytes_refused_then : (layout : Layout) (needed : Bool) (index encoded : List ℕ) (state : StoreState) (r : Refusal) → length index ≡ layout.grid.dimensions → key_refusal layout index state ≡ None → Some encoded ≡ value_at state (layout.key index)
    → RefusesBytes layout index encoded r → RefusesChunkRead layout (length_refusal layout index) needed index state r
bytes_refused_then layout needed index encoded state r long open_key at (inl h) = read_refused_then layout needed index (Some encoded) state r long open_key at h
bytes_refused_then layout needed index encoded state r long open_key at (inr (is, lack)) = inr (
  is,
  second_refusal (length_refusal layout index) _ (right_length layout index long) ∙ second_refusal (key_refusal layout index state) _ open_key ∙ lack.boxed,
  record { encoded = encoded; stands = sym at; left_out = lack.left_out; large = lack.large },
)

-- Why a chunk that has a box of a size is not read: its bytes do not decode, a chunk of fill is needed and too large, or the
-- store refuses its key.
module _ (layout : Layout) (index : List ℕ) (state : StoreState) (has : has_box layout.grid index ≡ true) (fit : is_too_large layout (box_at layout.grid index).shape ≡ false)
    (P : Refusal → Type 0) (memory : P refusal.out_of_memory) (broken : IsBroken layout index state → P refusal.codec)
    (large : fill_refusal layout (box_at layout.grid index).shape ≡ Some refusal.size_overflow → (value_at state (layout.key index) ≡ None) ⊎ NeedsLargeFill layout index state → P refusal.size_overflow)
    (refuses : state.refuses (layout.key index) ≡ true → P refusal.storage) where
  bytes_why : (r : Refusal) (value : Option (List ℕ)) → value_at state (layout.key index) ≡ value → read_refusal layout true index value ≡ Some r → P r
  bytes_why r None absent h =
      let shape = (box_at layout.grid index).shape in
      let size : fill_refusal layout shape ≡ Some r = sym (second_refusal (box_refusal layout index) _ (fit_chunk layout index has fit)) ∙ h in
      elim (cases_Bool (nat_le (2 ^ 64) (position_count shape * held_size layout.kind layout.fill))) [
        | inl much ↦
            let said : fill_refusal layout shape ≡ Some refusal.size_overflow = ap (λ b. refuse_if b refusal.size_overflow) much in
            let is : Some refusal.size_overflow ≡ Some r = sym said ∙ size in
            let same : refusal.size_overflow ≡ r = cc in
            subst P same (large said (inl absent))
        | inr small ↦ absurd (let clash : None ≡ Some r = sym (ap (λ b. refuse_if b refusal.size_overflow) small) ∙ size in cc)
      ]
  bytes_why r (Some encoded) stands h =
      let box = box_at layout.grid index in
      let decode : cond (is_some (decoded_cells layout box encoded)) None (Some refusal.codec) ≡ Some r = sym (second_refusal (box_refusal layout index) _ (fit_chunk layout index has fit)) ∙ h in
      elim (decoded_cells layout box encoded) as (λ o. decoded_cells layout box encoded ≡ o → cond (is_some o) None (Some refusal.codec) ≡ Some r → P r) [
        | None ↦ λ at is.
            let same : refusal.codec ≡ r = cc in
            subst P same (broken (record { encoded = encoded; stands = stands; undecoded = at }))
        | Some found ↦ λ at is. absurd (let clash : None ≡ Some r = is in cc)
      ] refl decode

  said_why : (r : Refusal) → option_or (length_refusal layout index) (option_or (key_refusal layout index state) (read_refusal layout true index (value_at state (layout.key index)))) ≡ Some r → P r
  said_why r said =
      let after : option_or (key_refusal layout index state) (read_refusal layout true index (value_at state (layout.key index))) ≡ Some r =
      sym (second_refusal (length_refusal layout index) _ (right_length layout index (box_is_there layout.grid index has).long)) ∙ said in
      elim (cases_Bool (state.refuses (layout.key index))) [
        | inl refused ↦
            let key = ap (λ b. cond b (Some refusal.storage) None) refused in
            let is : Some refusal.storage ≡ Some r = sym (first_refusal (key_refusal layout index state) _ refusal.storage key) ∙ after in
            let same : refusal.storage ≡ r = cc in
            subst P same (refuses refused)
        | inr open_key ↦
            let bytes = sym (second_refusal (key_refusal layout index state) _ (ap (λ b. cond b (Some refusal.storage) None) open_key)) ∙ after in
            bytes_why r (value_at state (layout.key index)) refl bytes
      ]

  pub unread_why : (r : Refusal) → RefusesChunkRead layout (length_refusal layout index) true index state r → P r
  unread_why r (inl h) = elim (memory_or_said _ r h) [ inl out ↦ subst P (sym out) memory | inr said ↦ said_why r said ]
  unread_why r (inr (is, none, needs)) = subst P (sym is) (large needs.large (inr needs))

first_none : (a b : Option Refusal) → option_or a b ≡ None → a ≡ None
first_none None b h = refl
first_none (Some x) b h = absurd (cc)

decoded_some : (found : Option (List Cell)) → cond (is_some found) None (Some refusal.codec) ≡ None → (cs : List Cell) × (found ≡ Some cs)
decoded_some None h = absurd (cc)
decoded_some (Some cs) h = (cs, refl)

module _ (layout : Layout) (lawful : IsLawful layout) (index : List ℕ) (held : ArrayData) (state : StoreState) where
  -- a chunk that is present was read
  pub retrieved : (encoded : List ℕ) → Some encoded ≡ value_at state (layout.key index) → read_refusal layout true index (Some encoded) ≡ None → cells layout.kind held ≡ decoded_cells layout (box_at layout.grid index) encoded → RetrievesChunk layout index held state
  retrieved encoded at none is =
      let box = box_at layout.grid index in
      let boxed = first_none (box_refusal layout index) _ none in
      let has = (box_accepted layout index boxed).0 in
      let decodes = decoded_some (decoded_cells layout box encoded) (sym (second_refusal (box_refusal layout index) _ boxed) ∙ none) in
      record {
        has_box = has;
        chunk = decodes.0;
        is_chunk = is ∙ decodes.1;
        reads = reads_decoded layout (value_at state) lawful index has encoded decodes.0 (sym at) decodes.1;
      }

  -- an absent chunk was read
  pub retrieved_fill : None ≡ value_at state (layout.key index) → read_refusal layout true index None ≡ None → cells layout.kind held ≡ Some (replicate (position_count (box_at layout.grid index).shape) layout.fill) → RetrievesChunk layout index held state
  retrieved_fill at none is =
      let has = (box_accepted layout index (first_none (box_refusal layout index) _ none)).0 in
      record {
        has_box = has;
        chunk = replicate (position_count (box_at layout.grid index).shape) layout.fill;
        is_chunk = is;
        reads = reads_absent layout (value_at state) lawful index has (sym at);
      }

-- what a read of one chunk found, it found at an index list of the right length
pub retrieved_length : (layout : Layout) (index : List ℕ) (held : ArrayData) (state : StoreState) → RetrievesChunk layout index held state → length_refusal layout index ≡ None
retrieved_length layout index held state r = right_length layout index (box_is_there layout.grid index r.has_box).long

pub found_length : (layout : Layout) (index : List ℕ) (found : Option ArrayData) (state : StoreState) → RetrievesIfExists layout index found state → length_refusal layout index ≡ None
found_length layout index None state r = right_length layout index r.0
found_length layout index (Some held) state r = retrieved_length layout index held state r.0
