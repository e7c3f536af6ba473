use Rattle.std.proofs.Common.{◌≡◌, ◌+◌, ◌<◌, ◌++◌, ◌∷◌, [], ℕ, List, length, map, take, ap, sym, ◌∙◌, arith}
use Rattle.std.specs.Prelude.{slice_index, sum_by}
use Rattle.std.specs.List.{range_with_len}
use Rattle.std.proofs.lemmas.List.FromFn.{map-range_with_len_more}
use Rattle.zarrs_data_type_bytes.specs.Offsets.{offsets_of}
use Rattle.zarrs_data_type_bytes.proofs.Cuts.{cut_at, cut_within, length-cuts}
use Rattle.zarrs_data_type_bytes.proofs.placed_strings.starts_from.Goals as goal

pub loop-index-preserved : goal.loop-index-preserved
loop-index-preserved c =
    let strings = c.args.strings.now in
    let i = c.loop-index.index in
    let cuts = c.as_slice-cuts.result.now in
    let start : ℕ → ℕ = λ k. c.args.from + sum_by length (take k strings) in
    let below : i < length strings = omega (arith, c.loop-index-test.true, c.len-count.ensures) in
    let are : cuts ≡ offsets_of strings = c.as_slice-cuts.ensures.offsets ∙ c.offsets.ensures in
    c.in_ok-push.ensures
    ∙ ap (λ l. l ++ (c.args.from + slice_index cuts i) ∷ []) c.loop-index.invariant
    ∙ ap (λ s. map start (range_with_len 0 i) ++ (c.args.from + s) ∷ []) (cut_at cuts strings i are (omega arith))
    ∙ sym (map-range_with_len_more start 0 i i (omega arith))

pub bounds-cuts-index : goal.bounds-cuts-index
bounds-cuts-index c =
    let all = ap (λ (xs : List ℕ). length xs) (c.as_slice-cuts.ensures.offsets ∙ c.offsets.ensures) in
    omega (arith, all, length-cuts c.args.strings.now, c.loop-index-test.true, c.len-count.ensures)

pub overflow_add-from : goal.overflow_add-from
overflow_add-from c =
    let strings = c.args.strings.now in
    let below : c.loop-index.index < length strings = omega (arith, c.loop-index-test.true, c.len-count.ensures) in
    let cut = cut_within c.as_slice-cuts.result.now strings c.loop-index.index (c.as_slice-cuts.ensures.offsets ∙ c.offsets.ensures) below in
    omega (arith, cut, c.requires)

pub offset_bounds-cuts-index : goal.offset_bounds-cuts-index
offset_bounds-cuts-index c =
    let all = ap (λ (xs : List ℕ). length xs) (c.as_slice-cuts.ensures.offsets ∙ c.offsets.ensures) in
    omega (arith, all, length-cuts c.args.strings.now, c.loop-index-test.true, c.len-count.ensures, c.as_slice-cuts.type_inv.0)
