use Rattle.std.proofs.Common.{◌≡◌, ◌+◌, ◌-◌, ◌<◌, ◌++◌, ◌∷◌, [], ℕ, List, length, map, take, ap, sym, ◌∙◌, arith}
use Rattle.std.specs.Prelude.{slice_index, slice_index_or}
use Rattle.std.proofs.lemmas.List.{map_more}
use Rattle.zarrs_data_type_bytes.proofs.Cuts.{length-cuts, next_cut}
use Rattle.zarrs_data_type_bytes.proofs.placed_strings.lens_of.Goals as goal

pub loop-index-preserved : goal.loop-index-preserved
loop-index-preserved c =
    let strings = c.args.strings.now in
    let i = c.loop-index.index in
    let cuts = c.as_slice-cuts.result.now in
    let below : i < length strings = omega (arith, c.loop-index-test.true, c.len-count.ensures) in
    let next = next_cut cuts strings i (c.as_slice-cuts.ensures.offsets ∙ c.offsets.ensures) below in
    let one : slice_index cuts (i + 1) - slice_index cuts i ≡ length (slice_index_or strings i []) = omega arith in
    c.in_ok-push.ensures
    ∙ ap (λ l. l ++ (slice_index cuts (i + 1) - slice_index cuts i) ∷ []) c.loop-index.invariant
    ∙ ap (λ n. map length (take i strings) ++ n ∷ []) one
    ∙ sym (map_more length strings i [] below)

pub bounds-cuts-index : goal.bounds-cuts-index
bounds-cuts-index c =
    let all = ap (λ (xs : List ℕ). length xs) (c.as_slice-cuts.ensures.offsets ∙ c.offsets.ensures) in
    omega (arith, all, length-cuts c.args.strings.now, c.loop-index-test.true, c.len-count.ensures)

pub bounds-cuts-index-in-loop-index : goal.bounds-cuts-index-in-loop-index
bounds-cuts-index-in-loop-index c =
    let all = ap (λ (xs : List ℕ). length xs) (c.as_slice-cuts.ensures.offsets ∙ c.offsets.ensures) in
    omega (arith, all, length-cuts c.args.strings.now, c.loop-index-test.true, c.len-count.ensures)

pub overflow_sub-cuts : goal.overflow_sub-cuts
overflow_sub-cuts c =
    let strings = c.args.strings.now in
    let below : c.loop-index.index < length strings = omega (arith, c.loop-index-test.true, c.len-count.ensures) in
    let next = next_cut c.as_slice-cuts.result.now strings c.loop-index.index (c.as_slice-cuts.ensures.offsets ∙ c.offsets.ensures) below in
    omega arith

pub offset_bounds-cuts-index : goal.offset_bounds-cuts-index
offset_bounds-cuts-index c =
    let all = ap (λ (xs : List ℕ). length xs) (c.as_slice-cuts.ensures.offsets ∙ c.offsets.ensures) in
    omega (arith, all, length-cuts c.args.strings.now, c.loop-index-test.true, c.len-count.ensures, c.as_slice-cuts.type_inv.0)

pub offset_bounds-cuts-index-in-loop-index : goal.offset_bounds-cuts-index-in-loop-index
offset_bounds-cuts-index-in-loop-index c =
    let all = ap (λ (xs : List ℕ). length xs) (c.as_slice-cuts.ensures.offsets ∙ c.offsets.ensures) in
    omega (arith, all, length-cuts c.args.strings.now, c.loop-index-test.true, c.len-count.ensures, c.as_slice-cuts.type_inv.0)
