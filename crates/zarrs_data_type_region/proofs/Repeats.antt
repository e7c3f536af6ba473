-- Pieces that are repeated, and data of one cell that is.
use Rattle.std.proofs.Common.{◌≡◌, ℕ, zero, suc, ◌+◌, ◌-◌, ◌*◌, ◌<◌, ◌≤◌, min, true, eqb, cond, List, [], ◌∷◌, ◌++◌, length, take, drop, append_assoc, Some, None, inl, inr, refl, sym, ap, ◌∙◌, subst, arith}
use Rattle.std.specs.List.{repeat}
use Rattle.std.specs.Prelude.{◌==◌, slice_index}
use Rattle.std.proofs.Math.Nat.{add-mul, mul-le-mul_right}
use Rattle.std.proofs.lemmas.Bool.{and_from, cases_lt, cases_order, eq-eqb}
use Rattle.std.proofs.lemmas.List.{length-append, length-drop, length-take-le, take_all, take_at}
use Rattle.zarrs_subset.specs.Pieces.{piece_at}
use Rattle.zarrs_subset.proofs.Kernel.{block_order}
use Rattle.zarrs_data_type_kinds.specs.Kind.{Kind, fixed_size}
use Rattle.zarrs_data_type_kinds.specs.Kind as type
use Rattle.zarrs_data_type_kinds.specs.Cell.{bytes}
use Rattle.zarrs_data_type_kinds.specs.Cell as held
use Rattle.zarrs_data_type_bytes.specs.ArrayData.{ArrayData, fixed, variable, optional}
use Rattle.zarrs_data_type_bytes.specs.Cells.{cell_at, fits}
use Rattle.zarrs_data_type_bytes.proofs.Cells.{fitting-fixed}
use Rattle.zarrs_data_type_bytes.proofs.Filled.{cell_at-fixed, fits-fixed, fits-optional, fits-variable}
use Rattle.zarrs_data_type_bytes.proofs.Pieces.{length-repeat}
use Rattle.zarrs_data_type_region.specs.Targets.{HasLevels, repeated}
use Rattle.zarrs_data_type_region.proofs.Rows.{repeat_piece}
use Rattle.zarrs_data_type_region.proofs.TypeSizes.{variable_none}
use Rattle.zarrs_data_type_bytes.proofs.FixedSizes.{optional_is}

-- ---- runs

repeat_add : (p : List ℕ) (m s : ℕ) → repeat m p ++ repeat s p ≡ repeat (m + s) p
repeat_add p zero s = let e : s ≡ 0 + s = omega arith in ap (λ n. repeat n p) e
repeat_add p (suc m) s =
    let e : suc (m + s) ≡ suc m + s = omega arith in
    append_assoc p (repeat m p) (repeat s p) ∙ ap (λ l. p ++ l) (repeat_add p m s) ∙ ap (λ n. repeat n p) e

take_repeat : (p : List ℕ) (m s : ℕ) → s ≤ m → take (s * length p) (repeat m p) ≡ repeat s p
take_repeat p m s within =
    let e : m ≡ s + (m - s) = omega arith in
    ap (λ n. take (s * length p) (repeat n p)) e
    ∙ ap (take (s * length p)) (sym (repeat_add p s (m - s)))
    ∙ take_at (repeat s p) (repeat (m - s) p) (s * length p) (length-repeat p s)

nil_is : (xs : List ℕ) → length xs ≡ 0 → xs ≡ []
nil_is [] e = refl
nil_is (x ∷ xs) e = absurd (omega arith)

pub run_none : (piece target : List ℕ) (count : ℕ) → length target ≡ count * length piece → length target ≡ 0 → target ≡ repeat count piece
run_none piece target count len none = nil_is target none ∙ sym (nil_is (repeat count piece) (length-repeat piece count ∙ sym len ∙ none))

pub run_room : (size len count : ℕ) → len ≡ count * size → 0 < len → size ≤ len
run_room size len zero is some = absurd (omega arith)
run_room size len (suc count) is some = omega arith

positive_factor : (n size : ℕ) → 0 < n * size → 0 < size
positive_factor n zero h = absurd (omega arith)
positive_factor n (suc size) h = omega arith

same_factor : (x c size : ℕ) → 0 < size → x * size ≡ c * size → x ≡ c
same_factor x c size some e = elim (cases_order x c) [
  | inl same ↦ same
  | inr o ↦ elim o [ inl lt ↦ absurd (omega (arith, block_order x c size lt)) | inr gt ↦ absurd (omega (arith, block_order c x size gt)) ]
]

-- what stands in the run so far
pub record IsRun (piece target : List ℕ) (count done : ℕ) : Type 0 where
  pub len : length target ≡ count * length piece
  pub within : done ≤ length target
  pub filled : (n : ℕ) × (done ≡ n * length piece) × (take done target ≡ repeat n piece)

pub run_first : (piece target sub : List ℕ) (count : ℕ) → length target ≡ count * length piece → length piece ≤ length target → sub ≡ piece
    → IsRun piece (sub ++ drop (length piece) target) count (length piece)
run_first piece target sub count len room is =
    let sub_len : length sub ≡ length piece = ap length is in
    let whole : length (sub ++ drop (length piece) target) ≡ length target = length-append sub (drop (length piece) target) ∙ omega (arith, length-drop (length piece) target) in
    let one : length piece ≡ 1 * length piece = omega arith in
    record {
      len = whole ∙ len;
      within = omega arith;
      filled = (1, one, take_at sub (drop (length piece) target) (length piece) sub_len ∙ is ∙ sym (append_nil piece));
    }
  where
    append_nil : (xs : List ℕ) → xs ++ [] ≡ xs
    append_nil [] = refl
    append_nil (x ∷ xs) = ap (λ l. x ∷ l) (append_nil xs)

pub run_more : (piece target front rest sub : List ℕ) (count done block some : ℕ) → length target ≡ count * length piece → done < length target
    → front ≡ take done target → rest ≡ drop done target → 0 < block → block ≤ done → (n : ℕ) × (block ≡ n * length piece)
    → (n : ℕ) × (done ≡ n * length piece) × (take done target ≡ repeat n piece)
    → some ≡ min block (length rest) → sub ≡ take some front → IsRun piece (front ++ (sub ++ drop some rest)) count (done + some)
run_more piece target front rest sub count done block some len below front_is rest_is positive within whole filled some_is sub_is =
    let size = length piece in
    let x = filled.0 in
    let front_len : length front ≡ done = ap length front_is ∙ length-take-le done target (omega arith) in
    let rest_len : length rest ≡ length target - done = ap length rest_is ∙ length-drop done target in
    let small : some ≤ done = omega arith in
    let room : some ≤ length rest = omega arith in
    let sub_len : length sub ≡ some = ap length sub_is ∙ length-take-le some front (omega arith) in
    let size_some : 0 < size = positive_factor whole.0 size (omega (arith, whole.1)) in
    let x_below : x < count = elim (cases_lt x count) [
      | inl lt ↦ lt
      | inr past ↦ absurd (omega (arith, mul-le-mul_right size past, filled.1))
    ] in
    let left : count ≡ x + (count - x) = omega arith in
    let parts : (s : ℕ) × (some ≡ s * size) = elim (cases_lt block (length rest)) [
      | inl lt ↦ (whole.0, omega (arith, whole.1))
      | inr past ↦ (count - x, omega (arith, filled.1, add-mul x (count - x) size, ap (λ n. n * size) left))
    ] in
    let s = parts.0 in
    let s_within : s ≤ x = elim (cases_lt x s) [
      | inl lt ↦ absurd (omega (arith, block_order x s size lt, parts.1, filled.1))
      | inr there ↦ there
    ] in
    let all : length (front ++ (sub ++ drop some rest)) ≡ length target =
    length-append front (sub ++ drop some rest) ∙ ap (λ n. length front + n) (length-append sub (drop some rest)) ∙ omega (arith, length-drop some rest) in
    let sub_repeat : sub ≡ repeat s piece =
    sub_is ∙ ap (take some) (front_is ∙ filled.2) ∙ ap (λ n. take n (repeat x piece)) parts.1 ∙ take_repeat piece x s s_within in
    record {
      len = all ∙ len;
      within = omega arith;
      filled = (
        x + s,
        omega (arith, parts.1, filled.1, add-mul x s size),
        ap (take (done + some)) (sym (append_assoc front sub (drop some rest)))
            ∙ take_at (front ++ sub) (drop some rest) (done + some) (length-append front sub ∙ omega arith)
            ∙ ap (λ l. l ++ sub) (front_is ∙ filled.2)
            ∙ ap (λ l. repeat x piece ++ l) sub_repeat
            ∙ repeat_add piece x s,
      );
    }

pub run_end : (piece target : List ℕ) (count done block : ℕ) → length target ≡ count * length piece → done ≤ length target → length target ≤ done → 0 < block
    → (n : ℕ) × (block ≡ n * length piece) → (n : ℕ) × (done ≡ n * length piece) × (take done target ≡ repeat n piece) → target ≡ repeat count piece
run_end piece target count done block len within past positive whole filled =
    let size_some : 0 < length piece = positive_factor whole.0 (length piece) (omega (arith, whole.1)) in
    let same : filled.0 ≡ count = same_factor filled.0 count (length piece) size_some (omega (arith, filled.1)) in
    sym (take_all done target past) ∙ filled.2 ∙ ap (λ n. repeat n piece) same

-- ---- levels

pub fixed_len : (depth size : ℕ) (d : ArrayData) (b : List ℕ) → d ≡ fixed b → HasLevels depth size 1 d → length b ≡ size
fixed_len zero size d b is has = let len : length b ≡ 1 * size = subst (HasLevels 0 size 1) is has in omega arith
fixed_len (suc depth) size d b is has = absurd (subst (HasLevels (suc depth) size 1) is has)

pub repeated_levels : (depth size n : ℕ) (d : ArrayData) → HasLevels depth size 1 d → HasLevels depth size n (repeated n d)
repeated_levels zero size n (fixed b) has =
    let len : length b ≡ size = omega arith in
    length-repeat b n ∙ ap (λ s. n * s) len
repeated_levels zero size n (variable strings) has = absurd has
repeated_levels zero size n (optional mask inner) has = absurd has
repeated_levels (suc depth) size n (fixed b) has = absurd has
repeated_levels (suc depth) size n (variable strings) has = absurd has
repeated_levels (suc depth) size n (optional mask inner) has =
    let one : n * 1 ≡ n = omega arith in
    (length-repeat mask n ∙ ap (λ m. n * m) has.0 ∙ one, repeated_levels depth size n inner has.1)

piece_zero : (size : ℕ) (b : List ℕ) → length b ≡ size → piece_at size b 0 ≡ b
piece_zero size b len =
    let start : 0 * size ≡ 0 = omega arith in
    let count : 0 * size + size - 0 * size ≡ size = omega arith in
    ap (λ k. take (0 * size + size - 0 * size) (drop k b)) start ∙ ap (λ k. take k b) count ∙ take_all size b (omega arith)

flag_at : (mask : List ℕ) (n i : ℕ) → length mask ≡ 1 → i < n → slice_index (repeat n mask) i ≡ slice_index mask 0
flag_at [] n i one lt = absurd (omega arith)
flag_at (m ∷ x ∷ mask) n i one lt = absurd (omega arith)
flag_at (m ∷ []) zero i one lt = absurd (omega arith)
flag_at (m ∷ []) (suc n) zero one lt = refl
flag_at (m ∷ []) (suc n) (suc i) one lt = flag_at (m ∷ []) n i one (omega arith)

-- the cells of data of one cell that is repeated
pub repeated_cells : (k : Kind) (size n : ℕ) (d : ArrayData) → fixed_size k ≡ Some size → fits k d 1 ≡ true
    → (fits k (repeated n d) n ≡ true) × ((i : ℕ) → i < n → cell_at k (repeated n d) i ≡ cell_at k d 0)
repeated_cells k size n (fixed b) is fit =
    let f = fits-fixed k b 1 fit in
    let len : length b ≡ f.0 = omega (arith, f.2) in
    let first = piece_zero f.0 b len in (
      fitting-fixed k f.0 (repeat n b) n f.1 (length-repeat b n ∙ ap (λ s. n * s) len),
      λ i lt.
          cell_at-fixed k f.0 (repeat n b) i f.1
          ∙ ap bytes (ap (λ s. piece_at s (repeat n b) i) (sym len) ∙ repeat_piece b n i lt ∙ sym first)
          ∙ sym (cell_at-fixed k f.0 b 0 f.1),
    )
repeated_cells k size n (variable strings) is fit =
    let e : None ≡ Some size = sym (variable_none k (fits-variable k strings 1 fit).0) ∙ is in cc
repeated_cells k size n (optional mask inner) is fit =
    let f = fits-optional k mask inner 1 fit in
    let e = optional_is k f.0 f.1 in
    let under = repeated_cells f.0 size n inner (ap fixed_size (sym e) ∙ is) f.3 in
    subst (λ v. (fits v (optional (repeat n mask) (repeated n inner)) n ≡ true) × ((i : ℕ) → i < n → cell_at v (optional (repeat n mask) (repeated n inner)) i ≡ cell_at v (optional mask inner) 0)) (sym e)
    (optional_repeated f.0 n mask inner f.2 under.0 under.1)
  where
    optional_repeated : (u : Kind) (n : ℕ) (mask : List ℕ) (inner : ArrayData) → length mask ≡ 1 → fits u (repeated n inner) n ≡ true
        → ((i : ℕ) → i < n → cell_at u (repeated n inner) i ≡ cell_at u inner 0)
        → (fits (type.optional u) (optional (repeat n mask) (repeated n inner)) n ≡ true)
        × ((i : ℕ) → i < n → cell_at (type.optional u) (optional (repeat n mask) (repeated n inner)) i ≡ cell_at (type.optional u) (optional mask inner) 0)
    optional_repeated u n mask inner one fit each =
        let count : n * 1 ≡ n = omega arith in (
          and_from (eqb (length (repeat n mask)) n) (fits u (repeated n inner) n) (eq-eqb (length (repeat n mask)) n (length-repeat mask n ∙ ap (λ m. n * m) one ∙ count)) fit,
          λ i lt.
              ap (λ flag. cond (flag == 0) held.none (held.some (cell_at u (repeated n inner) i))) (flag_at mask n i one lt)
              ∙ ap (λ c. cond (slice_index mask 0 == 0) held.none (held.some c)) (each i lt),
        )
