use Rattle.std.proofs.Common.{◌≡◌, ℕ, ◌+◌, ◌-◌, ◌<◌, ◌++◌, List, length, map, take, drop, get_or, sym, ap, subst, ◌∙◌, arith}
use Rattle.std.specs.Prelude.{slice_index, slice_range}
use Rattle.std.specs.Cow.{cow_slice_items}
use Rattle.std.proofs.lemmas.List.{get_or-take, get_or-drop, get_or_default, length-drop, length-take-le}
use Rattle.zarrs_data_type_bytes.specs.Offsets.{AreCuts, byte_strings}
use Rattle.zarrs_data_type_bytes.proofs.ByteStrings.{length_strings, offset_within}
use Rattle.zarrs_data_type_bytes.proofs.Rows.{ends, run, range_cuts, range_pushed}
use Rattle.zarrs_data_type_bytes.proofs.variable.VariableLengthBuilder.push_range.Goals as goal

-- the offsets behind which the cuts were put, moved
moved_cuts : List ℕ → ℕ → List ℕ → ℕ → ℕ → List ℕ
moved_cuts offsets base cuts from to = offsets ++ map (λ n. base + (n - slice_index cuts from)) (slice_range cuts (from + 1) to)

ends_are : (offsets bytes cuts source : List ℕ) (held : AreCuts offsets bytes) (given : AreCuts cuts source) (from count base : ℕ) (front passed made : List ℕ)
    → front ≡ offsets → base ≡ length bytes → passed ≡ cuts
    → made ≡ front ++ map (λ n. base + (n - slice_index passed from)) (slice_range passed (from + 1) (from + count + 1))
    → made ≡ ends offsets bytes cuts source held given from count
unfolding moved_cuts
ends_are offsets bytes cuts source held given from count base front passed made fronts bases cut is =
    let last : from + count + 1 ≡ from + 1 + count = omega arith in
    is
    ∙ ap (λ o. moved_cuts o base passed from (from + count + 1)) fronts
    ∙ ap (λ b. moved_cuts offsets b passed from (from + count + 1)) bases
    ∙ ap (λ c. moved_cuts offsets (length bytes) c from (from + count + 1)) cut
    ∙ ap (λ j. moved_cuts offsets (length bytes) cuts from j) last

run_is : (offsets bytes cuts source : List ℕ) (held : AreCuts offsets bytes) (given : AreCuts cuts source) (from count : ℕ) (read passed made : List ℕ)
    → read ≡ source → passed ≡ cuts
    → made ≡ bytes ++ slice_range read (slice_index passed from) (slice_index passed (from + count))
    → made ≡ run offsets bytes cuts source held given from count
run_is offsets bytes cuts source held given from count read passed made reads cut is =
    is
    ∙ ap (λ r. bytes ++ slice_range r (slice_index passed from) (slice_index passed (from + count))) reads
    ∙ ap (λ c. bytes ++ slice_range source (slice_index c from) (slice_index c (from + count))) cut

pub push_moved-requires-clause-fits : goal.push_moved-requires-clause-fits
push_moved-requires-clause-fits c = λ k d lt.
    let cuts = c.strings.inside.offsets in
    let source = cow_slice_items c.strings.inside.bytes in
    let given = c.strings.invariant in
    let passed = c.as_slice-cuts.result.now in
    let from = c.args.from in
    let count = c.args.count in
    let long : from + count < length cuts = omega (arith, c.requires, length_strings cuts source, ap length c.strings.view_is, given.are_offsets.not_empty) in
    let cut : passed ≡ cuts = c.as_slice-cuts.ensures.offsets in
    let below : k < from + count + 1 - (from + 1) = omega (arith, length-take-le (from + count + 1 - (from + 1)) (drop (from + 1) passed) (omega (arith, length-drop (from + 1) passed, ap length cut))) in
    let read : get_or (take (from + count + 1 - (from + 1)) (drop (from + 1) passed)) k d ≡ get_or cuts (from + 1 + k) d =
    get_or-take (from + count + 1 - (from + 1)) (drop (from + 1) passed) k d below ∙ get_or-drop (from + 1) passed k d ∙ ap (λ xs. get_or xs (from + 1 + k) d) cut in
    let high = given.are_offsets.rising (from + 1 + k) (from + count) d (omega arith) long in
    let same = get_or_default cuts (from + count) d 0 long in
    let low = given.are_offsets.rising from (from + count) 0 (omega arith) long in
    let within = offset_within cuts source given (from + count) long in
    let first : get_or passed from 0 ≡ get_or cuts from 0 = ap (λ xs. get_or xs from 0) cut in
    let last : get_or passed (from + count) 0 ≡ get_or cuts (from + count) 0 = ap (λ xs. get_or xs (from + count) 0) cut in
    let part = length-take-le (get_or passed (from + count) 0 - get_or passed from 0) (drop (get_or passed from 0) c.as_slice.result.now)
    (omega (arith, length-drop (get_or passed from 0) c.as_slice.result.now, ap length c.as_slice.ensures.value)) in
    omega (arith, read, high, same, low, first, last, part, c.len-base.ensures, c.in_ok-extend_from_slice.ensures.len, c.extend_from_slice.new.self.ok, c.extend_from_slice.new.self.small)

pub invariant_of-self-2 : goal.invariant_of-self-2
invariant_of-self-2 c =
    let offsets = c.self.inside.offsets.items in
    let bytes = c.self.inside.bytes.items in
    let cuts = c.strings.inside.offsets in
    let source = cow_slice_items c.strings.inside.bytes in
    let held = c.self.invariant in
    let given = c.strings.invariant in
    let from = c.args.from in
    let count = c.args.count in
    let long : from + count < length cuts = omega (arith, c.requires, length_strings cuts source, ap length c.strings.view_is, given.are_offsets.not_empty) in
    let ended = ends_are offsets bytes cuts source held given from count c.len-base.result c.reserve.new.self.items c.as_slice-cuts.result.now c.push_moved.new.numbers.items
    c.in_ok-reserve.ensures.items (c.len-base.ensures ∙ c.self.inside.bytes.ok.0) c.as_slice-cuts.ensures.offsets c.push_moved.ensures in
    let ran = run_is offsets bytes cuts source held given from count c.as_slice.result.now c.as_slice-cuts.result.now c.extend_from_slice.new.self.items
    c.as_slice.ensures.value c.as_slice-cuts.ensures.offsets c.in_ok-extend_from_slice.ensures.items in
    subst (λ o. AreCuts o c.extend_from_slice.new.self.items) (sym ended)
    (subst (λ b. AreCuts (ends offsets bytes cuts source held given from count) b) (sym ran) (range_cuts offsets bytes cuts source held given from count long))

pub returns-clause-pushed : goal.returns-clause-pushed
returns-clause-pushed c =
    let offsets = c.self.inside.offsets.items in
    let bytes = c.self.inside.bytes.items in
    let cuts = c.strings.inside.offsets in
    let source = cow_slice_items c.strings.inside.bytes in
    let held = c.self.invariant in
    let given = c.strings.invariant in
    let from = c.args.from in
    let count = c.args.count in
    let long : from + count < length cuts = omega (arith, c.requires, length_strings cuts source, ap length c.strings.view_is, given.are_offsets.not_empty) in
    let ended = ends_are offsets bytes cuts source held given from count c.len-base.result c.reserve.new.self.items c.as_slice-cuts.result.now c.push_moved.new.numbers.items
    c.in_ok-reserve.ensures.items (c.len-base.ensures ∙ c.self.inside.bytes.ok.0) c.as_slice-cuts.ensures.offsets c.push_moved.ensures in
    let ran = run_is offsets bytes cuts source held given from count c.as_slice.result.now c.as_slice-cuts.result.now c.extend_from_slice.new.self.items
    c.as_slice.ensures.value c.as_slice-cuts.ensures.offsets c.in_ok-extend_from_slice.ensures.items in
    ap (λ o. byte_strings o c.extend_from_slice.new.self.items) ended
    ∙ ap (byte_strings (ends offsets bytes cuts source held given from count)) ran
    ∙ range_pushed offsets bytes cuts source held given from count long
    ∙ ap (λ l. l ++ slice_range (byte_strings cuts source) from (from + count)) c.self.view_is
    ∙ ap (λ l. c.args.self.now ++ slice_range l from (from + count)) c.strings.view_is
