-- Lemmas of copies of runs of bytes.
use Rattle.std.proofs.Common.{◌≡◌, ℕ, ◌+◌, ◌-◌, ◌*◌, ◌<◌, ◌≤◌, List, [], ◌∷◌, length, get_or, slice_range, refl}
use Rattle.std.proofs.Common.{ap, ◌∙◌, arith, inl, inr}
use Rattle.std.proofs.Math.Nat.{mul-le-mul_right}
use Rattle.std.proofs.lemmas.Bool.{cases_lt, cases_eq}
use borrow.Rule.Slice.PartMut.{put_mid}
use Rattle.zarrs_subset.specs.declared.runs.Stride.{Stride}
use Rattle.zarrs_subset.specs.Strides.{Reaches, target_span, RunsCopied}
use Rattle.zarrs_subset.proofs.Kernel.{get_or-put_mid_inside, get_or-put_mid_below, get_or-put_mid_above, get_or-part, block_order}

-- one run
pub run_copied : (len from to wk : ℕ) (source old part : List ℕ) → wk ≡ len → to + len ≤ length old
    → part ≡ slice_range source from (from + len) → length part ≡ len → RunsCopied [] len from to source old (put_mid to wk old part)
run_copied len from to wk source old part kIs room partIs partLen = rw kIs (record {
  copied = λ t s reached.
      let same : t ≡ s = reached.0 in
      let below : t < len = reached.1 in
      get_or-put_mid_inside to len t old part room partLen below
      ∙ ap (λ xs. get_or xs t 0) partIs
      ∙ get_or-part from (from + len) t source (omega arith)
      ∙ ap (λ n. get_or source (from + n) 0) same;
  kept = λ i out. elim (cases_lt i to) [
    | inl before ↦ get_or-put_mid_below to len i old part room partLen before
    | inr after ↦ elim (cases_lt i (to + len)) [
      | inl inside ↦
          let at : i ≡ to + (i - to) = omega arith in
          let below : i - to < len = omega arith in
          absurd (out (i - to) (i - to) (refl, below) at)
      | inr past ↦ get_or-put_mid_above to len i old part room partLen past
    ]
  ];
})

-- no repetition
pub runs_none : (ss ts : ℕ) (strides : List Stride) (len from to : ℕ) (source old : List ℕ)
    → RunsCopied (record { count = 0; source_step = ss; target_step = ts } ∷ strides) len from to source old old
runs_none ss ts strides len from to source old = record {
  copied = λ t s reached. let below : reached.0 < 0 = reached.3 in absurd (omega arith);
  kept = λ i out. refl;
}

-- a byte that is reached lies within the span
pub reached_below : (strides : List Stride) (len t s : ℕ) → Reaches strides len t s → t < target_span strides len
reached_below [] len t s reached = reached.1
reached_below (stride ∷ strides) len t s reached =
    let inner = reached_below strides len reached.1 reached.2 reached.6 in
    let low : reached.0 ≤ stride.count - 1 = (let below : reached.0 < stride.count = reached.3 in omega arith) in
    let at : t ≡ reached.0 * stride.target_step + reached.1 = reached.4 in
    omega (arith, mul-le-mul_right stride.target_step low)

-- one repetition more
pub runs_more : (k ss ts : ℕ) (strides : List Stride) (len from to read write : ℕ) (source old mid new : List ℕ)
    → read ≡ from + k * ss → write ≡ to + k * ts → target_span strides len ≤ ts
    → RunsCopied (record { count = k; source_step = ss; target_step = ts } ∷ strides) len from to source old mid
    → RunsCopied strides len read write source mid new
    → RunsCopied (record { count = k + 1; source_step = ss; target_step = ts } ∷ strides) len from to source old new
runs_more k ss ts strides len from to read write source old mid new readIs writeIs room before here = record {
  copied = λ t s reached.
      let j = reached.0 in
      let t' = reached.1 in
      let s' = reached.2 in
      let numbered : j < k + 1 = reached.3 in
      let tIs : t ≡ j * ts + t' = reached.4 in
      let sIs : s ≡ j * ss + s' = reached.5 in
      elim (cases_eq j k) [
        | inl same ↦
            let at : to + t ≡ write + t' = omega (arith, ap (λ n. n * ts) same) in
            let byte : read + s' ≡ from + s = omega (arith, ap (λ n. n * ss) same) in
            ap (λ n. get_or new n 0) at ∙ here.copied t' s' reached.6 ∙ ap (λ n. get_or source n 0) byte
        | inr other ↦
            let earlier : j < k = omega arith in
            let order = block_order j k ts earlier in
            let low = reached_below strides len t' s' reached.6 in
            here.kept (to + t) (λ t2 s2 reached2 e. absurd (omega arith))
            ∙ before.copied t s (j, t', s', earlier, tIs, sIs, reached.6)
      ];
  kept = λ i out.
      here.kept i (λ t2 s2 reached2 e. out (k * ts + t2) (k * ss + s2) (k, t2, s2, omega arith, refl, refl, reached2) (omega arith))
      ∙ before.kept i (λ t s reached. let below : reached.0 < k = reached.3 in
      out t s (reached.0, reached.1, reached.2, omega arith, reached.4, reached.5, reached.6));
}

-- a repetition ends within the array
pub step_within : (k count step span from len : ℕ) → k < count → from + ((count - 1) * step + span) ≤ len → from + k * step + span ≤ len
step_within k count step span from len below room =
    let low : k ≤ count - 1 = omega arith in
    omega (arith, mul-le-mul_right step low)
