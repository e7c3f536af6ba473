-- Refusals of the parts of a call are refusals of the call.
use Rattle.std.proofs.Common.{◌⊎◌, inl, inr, ◌≡◌, ℕ, ◌*◌, ◌^◌, ◌<◌, ◌≤◌, true, false, not, cond, List, Option, Some}
use Rattle.std.proofs.Common.{None, refl, ◌∙◌, ap, arith}
use Rattle.std.specs.Prelude.{unwrap_or}
use Rattle.std.specs.Option.{option_or}
use Rattle.std.proofs.lemmas.Bool.{le-leb, lt-leb, leb-false}
use Rattle.std.proofs.Math.Nat.{mul-le-mul_left}
use Rattle.zarrs_subset.specs.Boxes.{position_count}
use Rattle.zarrs_chunk_grid.specs.Grids.{box_at, has_box}
use Rattle.zarrs_storage.specs.Store.{StoreState, KeepsReach}
use Rattle.zarrs_storage.specs.declared.error.StorageError.{StorageError}
use Rattle.zarrs_storage.specs.declared.error.StorageError.TheVariants as stored
use Rattle.zarrs_codec_leaf.specs.declared.error.CodecError.{CodecError}
use Rattle.zarrs_codec_leaf.specs.declared.error.CodecError.TheVariants as coded
use Rattle.zarrs_data_type.specs.Kind.{Kind, cell_size, fixed_size}
use Rattle.zarrs_data_type.specs.Kind as type
use Rattle.zarrs_engine_calls.specs.Layout.{Layout}
use Rattle.zarrs_engine_calls.specs.Errors.{error_of_storage, error_of_codec}
use Rattle.zarrs_engine_calls.specs.Changes.{Makes}
use Rattle.zarrs_engine_calls.specs.Refusals as refusal
use Rattle.zarrs_engine_calls.specs.Refusals.{Refusal, refusal_of, refusal_of_storage, refusal_of_codec, box_refusal}
use Rattle.zarrs_engine_calls.specs.Refusals.{is_too_large, RefusesBy}

-- what refuses a part of a call refuses the call
pub refusal_moved : (a b : Option Refusal) (r : Refusal) → ((x : Refusal) → a ≡ Some x → b ≡ Some x) → RefusesBy a r → RefusesBy b r
refusal_moved a b (refusal.array_subset region shape) f h = f _ h
refusal_moved a b (refusal.chunk_subset part index shape) f h = f _ h
refusal_moved a b (refusal.indices index) f h = f _ h
refusal_moved a b refusal.codec f h = f _ h
refusal_moved a b refusal.element f h = f _ h
refusal_moved a b (refusal.data_shape got expected) f h = f _ h
refusal_moved a b refusal.storage f h = f _ h
refusal_moved a b refusal.size_overflow f h = f _ h
refusal_moved a b refusal.out_of_memory f h = tt
refusal_moved a b (refusal.dimensionality got expected) f h = f _ h
refusal_moved a b refusal.unsupported f h = f _ h
refusal_moved a b refusal.unused f h = f _ h

-- a refusal is the one that is decided, or out of memory
pub memory_or_said : (first : Option Refusal) (r : Refusal) → RefusesBy first r → (r ≡ refusal.out_of_memory) ⊎ (first ≡ Some r)
memory_or_said first (refusal.array_subset region shape) h = inr h
memory_or_said first (refusal.chunk_subset part index shape) h = inr h
memory_or_said first (refusal.indices index) h = inr h
memory_or_said first refusal.codec h = inr h
memory_or_said first refusal.element h = inr h
memory_or_said first (refusal.data_shape got expected) h = inr h
memory_or_said first refusal.storage h = inr h
memory_or_said first refusal.size_overflow h = inr h
memory_or_said first refusal.out_of_memory h = inl refl
memory_or_said first (refusal.dimensionality got expected) h = inr h
memory_or_said first refusal.unsupported h = inr h
memory_or_said first refusal.unused h = inr h

pub refuses_said : (first : Option Refusal) (r : Refusal) → first ≡ Some r → RefusesBy first r
refuses_said first (refusal.array_subset region shape) h = h
refuses_said first (refusal.chunk_subset part index shape) h = h
refuses_said first (refusal.indices index) h = h
refuses_said first refusal.codec h = h
refuses_said first refusal.element h = h
refuses_said first (refusal.data_shape got expected) h = h
refuses_said first refusal.storage h = h
refuses_said first refusal.size_overflow h = h
refuses_said first refusal.out_of_memory h = tt
refuses_said first (refusal.dimensionality got expected) h = h
refuses_said first refusal.unsupported h = h
refuses_said first refusal.unused h = h

-- the first of two refusals is that of both
pub first_refusal : (a b : Option Refusal) (x : Refusal) → a ≡ Some x → option_or a b ≡ Some x
first_refusal None b x h = absurd (cc)
first_refusal (Some y) b x h = h

-- and the second one, where the first part refuses nothing
pub second_refusal : (a b : Option Refusal) → a ≡ None → option_or a b ≡ b
second_refusal None b h = refl
second_refusal (Some y) b h = absurd (cc)

pub refused_first : (a b : Option Refusal) (r : Refusal) → RefusesBy a r → RefusesBy (option_or a b) r
refused_first a b r h = refusal_moved a (option_or a b) r (first_refusal a b) h

pub refused_second : (a b : Option Refusal) (r : Refusal) → a ≡ None → RefusesBy b r → RefusesBy (option_or a b) r
refused_second a b r none h = refusal_moved b (option_or a b) r (λ x is. second_refusal a b none ∙ is) h

-- what the error of a store says
pub storage_said : (e : StorageError) → refusal_of (error_of_storage e) ≡ refusal_of_storage e
storage_said (stored.InvalidMetadata key encoded) = refl
storage_said stored.ReadOnly = refl
storage_said stored.InvalidByteRange = refl
storage_said stored.Exhausted = refl
storage_said (stored.Other encoded) = refl
storage_said stored.OutOfMemory = refl

pub codec_said : (e : CodecError) → refusal_of (error_of_codec e) ≡ refusal_of_codec e
codec_said (coded.DoesNotFit _) = refl
codec_said coded.SizeOverflow = refl
codec_said coded.OutOfMemory = refl

pub same_reach : (state : StoreState) → KeepsReach state state
same_reach state = record { refuses = λ key. refl; may_ask = λ key. refl; may_read = λ key place. refl; sets_parts = refl; lenders = refl; parts = refl }

-- no writing call
pub makes_none : (state : StoreState) → Makes 0 0 state state
makes_none state = record { calls = omega arith; failures = omega arith; reach = same_reach state }

-- a chunk that has a box which is not too large
pub box_accepted : (layout : Layout) (index : List ℕ) → box_refusal layout index ≡ None → (has_box layout.grid index ≡ true) × (is_too_large layout (box_at layout.grid index).shape ≡ false)
box_accepted layout index h =
    elim (has_box layout.grid index) as (λ v. has_box layout.grid index ≡ v → cond (not v) (Some (refusal.indices index)) (cond (is_too_large layout (box_at layout.grid index).shape) (Some refusal.size_overflow) None) ≡ None → (v ≡ true) × (is_too_large layout (box_at layout.grid index).shape ≡ false)) [
      | true ↦ λ at. elim (is_too_large layout (box_at layout.grid index).shape) as (λ w. cond w (Some refusal.size_overflow) None ≡ None → (true ≡ true) × (w ≡ false)) [ true ↦ λ e. absurd (cc) | false ↦ λ e. (refl, refl) ]
      | false ↦ λ at e. absurd (cc)
    ] refl h

pub no_chunk : (layout : Layout) (index : List ℕ) → has_box layout.grid index ≡ false → box_refusal layout index ≡ Some (refusal.indices index)
no_chunk layout index none = ap (λ v. cond (not v) (Some (refusal.indices index)) (cond (is_too_large layout (box_at layout.grid index).shape) (Some refusal.size_overflow) None)) none

pub large_chunk : (layout : Layout) (index : List ℕ) → has_box layout.grid index ≡ true → is_too_large layout (box_at layout.grid index).shape ≡ true → box_refusal layout index ≡ Some refusal.size_overflow
large_chunk layout index has large =
    ap (λ v. cond (not v) (Some (refusal.indices index)) (cond (is_too_large layout (box_at layout.grid index).shape) (Some refusal.size_overflow) None)) has
    ∙ ap (λ v. cond v (Some refusal.size_overflow) None) large

pub fit_chunk : (layout : Layout) (index : List ℕ) → has_box layout.grid index ≡ true → is_too_large layout (box_at layout.grid index).shape ≡ false → box_refusal layout index ≡ None
fit_chunk layout index has small =
    ap (λ v. cond (not v) (Some (refusal.indices index)) (cond (is_too_large layout (box_at layout.grid index).shape) (Some refusal.size_overflow) None)) has
    ∙ ap (λ v. cond v (Some refusal.size_overflow) None) small

-- the size of a cell is that of the type, or 1 for a variable type
pub cell_size_is : (k : Kind) → unwrap_or (fixed_size k) 1 ≡ cell_size k
cell_size_is (type.optional inner) = cell_size_is inner
cell_size_is type.string = refl
cell_size_is type.bytes = refl
cell_size_is (type.raw size) = refl
cell_size_is type.bool = refl
cell_size_is type.int8 = refl
cell_size_is type.int16 = refl
cell_size_is type.int32 = refl
cell_size_is type.int64 = refl
cell_size_is type.uint8 = refl
cell_size_is type.uint16 = refl
cell_size_is type.uint32 = refl
cell_size_is type.uint64 = refl

-- which chunks are too large
pub large_count : (layout : Layout) (shape : List ℕ) → 0 < cell_size layout.kind → 2 ^ 64 ≤ position_count shape → is_too_large layout shape ≡ true
large_count layout shape some many =
    let one : 1 ≤ cell_size layout.kind = omega arith in
    let more : position_count shape * 1 ≤ position_count shape * cell_size layout.kind = mul-le-mul_left (position_count shape) one in
    le-leb (2 ^ 64) (position_count shape * cell_size layout.kind) (omega arith)

pub large_size : (layout : Layout) (shape : List ℕ) (count size : ℕ) → count ≡ position_count shape → size ≡ cell_size layout.kind → 2 ^ 64 ≤ count * size → is_too_large layout shape ≡ true
large_size layout shape count size e f large =
    le-leb (2 ^ 64) (position_count shape * cell_size layout.kind) (let moved = rw (e, f) at large in moved)

pub small_size : (layout : Layout) (shape : List ℕ) (count size : ℕ) → count ≡ position_count shape → size ≡ cell_size layout.kind → count * size < 2 ^ 64 → is_too_large layout shape ≡ false
small_size layout shape count size e f small =
    lt-leb (2 ^ 64) (position_count shape * cell_size layout.kind) (let moved = rw (e, f) at small in moved)

-- and which are not
pub not_large : (layout : Layout) (shape : List ℕ) → is_too_large layout shape ≡ false → position_count shape * cell_size layout.kind < 2 ^ 64
not_large layout shape h = leb-false (2 ^ 64) (position_count shape * cell_size layout.kind) h
