-- Copies of runs of bytes at equal distances.
use Rattle.std.specs.Prelude.{◌≡◌, ◌≢◌, ℕ, ◌+◌, ◌-◌, ◌*◌, ◌<◌, ◌≤◌, List, [], ◌∷◌, slice_index}
use Rattle.std.specs.Coded.{×_prop, Unit-prop, le_prop}
use Rattle.zarrs_subset.specs.declared.runs.Stride.{Stride}

-- the byte `to` bytes after the first one in the target is copied from the byte `from` bytes after the first one in the
-- source: with no stride it is one of the first `len`
abbrev pub Reaches : List Stride → ℕ → ℕ → ℕ → Type 0
Reaches [] len to from = (to ≡ from) × (to < len)
Reaches (stride ∷ strides) len to from =
    (k : ℕ) × (t : ℕ) × (s : ℕ) × (k < stride.count) × (to ≡ k * stride.target_step + t) × (from ≡ k * stride.source_step + s)
    × Reaches strides len t s

-- how many bytes there are from the first one that is read or written to the last one
abbrev pub source_span : List Stride → ℕ → ℕ
source_span [] len = len
source_span (stride ∷ strides) len = (stride.count - 1) * stride.source_step + source_span strides len

abbrev pub target_span : List Stride → ℕ → ℕ
target_span [] len = len
target_span (stride ∷ strides) len = (stride.count - 1) * stride.target_step + target_span strides len

-- each repetition writes after the last byte of the one before
abbrev pub AreApart : List Stride → ℕ → Type 0
AreApart [] len = Unit {0}
AreApart (stride ∷ strides) len = ((0 < stride.count) × (target_span strides len ≤ stride.target_step)) × AreApart strides len

pub AreApart-prop : (strides : List Stride) (len : ℕ) → IsProp (AreApart strides len)
AreApart-prop [] len = Unit-prop
AreApart-prop (stride ∷ strides) len = ×_prop (×_prop le_prop le_prop) (AreApart-prop strides len)

-- `new` is `old` except the bytes that the copy reaches, which are those of `source`
pub record RunsCopied (strides : List Stride) (len source_offset target_offset : ℕ) (source old new : List ℕ) : Type 0 where
  pub copied : (to from : ℕ) → Reaches strides len to from → slice_index new (target_offset + to) ≡ slice_index source (source_offset + from)
  pub kept : (i : ℕ) → ((to from : ℕ) → Reaches strides len to from → i ≢ target_offset + to) → slice_index new i ≡ slice_index old i
