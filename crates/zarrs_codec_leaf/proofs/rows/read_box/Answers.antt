use Rattle.std.proofs.lemmas.List.{length-take-le, length-drop}
use Rattle.std.proofs.Common.{arith, ◌≡◌, ◌+◌, ◌≤◌, ◌*◌, drop, length, refl, sym, ap, subst, ◌∙◌}
use Rattle.std.proofs.lemmas.Bool.{false≢true}
use Rattle.zarrs_subset.proofs.Overlaps.{AllSome}
use Rattle.zarrs_subset.specs.Boxes.{InShape, without_ones}
use Rattle.zarrs_subset.specs.Regions.{box_of}
use Rattle.zarrs_codec_leaf.proofs.Gathered.{lent_box}
use Rattle.zarrs_codec_leaf.proofs.Ones.{length-shape, can_read_kept, bytes_kept}
use Rattle.zarrs_codec_leaf.proofs.RowReads.{bytes_fit, can_read, no_bytes}
use Rattle.zarrs_codec_leaf.proofs.Runs.{run_of_part, start_in}
use Rattle.zarrs_codec_leaf.specs.BoxReads.{run_from}
use Rattle.zarrs_codec_leaf.proofs.rows.read_box.Goals as goal

pub returns-then-is_empty-clause-bytes : goal.returns-then-is_empty-clause-bytes
returns-then-is_empty-clause-bytes g c =
    let empty = c.is_empty.ensures.0 c.if-is_empty.true in
    c.new.ensures.items ∙ sym (no_bytes c.args.size c.args.shape.now c.args.part.now.start.items c.args.part.now.shape.items (g.B.ByteSource.bytes c.args.source.now) c.args.window.offset empty.0 c.requires.part empty.1 empty.2)

pub unreachable-requires : goal.unreachable-requires
unreachable-requires g c =
    let room = bytes_fit _ _ _ _ _ c.requires.part c.requires.size c.requires.len in
    let less = room.1 in
    let past = c.in_default.ensures.refused in
    omega (arith, c.requires.window, past)

pub overflow_mul-len : goal.overflow_mul-len
overflow_mul-len g c =
    let room = bytes_fit _ _ _ _ _ c.requires.part c.requires.size c.requires.len in
    let less = room.0 in
    let is : c.in-Ok.count ≡ _ = c.in-Ok.ensures.ok in
    omega (arith, ap (λ n. n * c.args.size) is, c.requires.window)

pub run_at-run-requires-clause-start : goal.run_at-run-requires-clause-start
run_at-run-requires-clause-start g c =
    let some : AllSome c.args.part.now.shape.items = λ k below none. false≢true (sym c.if-is_empty.false ∙ c.is_empty.ensures.1 (k, below, none)) in
    let starts = start_in c.args.part.now.start.items c.args.part.now.shape.items c.args.shape.now c.requires.part some in
    subst (λ l. InShape c.args.shape.now l) (sym c.start-start.ensures) starts

pub run_at-run-requires-clause-fits : goal.run_at-run-requires-clause-fits
run_at-run-requires-clause-fits g c =
    let some : AllSome c.args.part.now.shape.items = λ k below none. false≢true (sym c.if-is_empty.false ∙ c.is_empty.ensures.1 (k, below, none)) in
    let run = run_of_part (g.B.ByteSource.may_read c.args.source.now) c.args.size c.in-Ok.count c.args.window (run_from c.args.window c.args.size c.args.shape.now c.start-start.result.now (c.in-Ok.count * c.args.size)) c.args.shape.now
    c.start-start.result.now c.shape-extents.result.now c.args.part.now.start.items c.args.part.now.shape.items (g.B.ByteSource.bytes c.args.source.now)
    c.start-start.ensures c.shape-extents.ensures refl c.requires.part (sym c.is_run.ensures ∙ c.if-is_run.true) some c.requires.size c.in-Ok.ensures.ok
    c.requires.len c.requires.window c.requires.may_read in
    omega (arith, run.inside)

pub read-requires-clause-within : goal.read-requires-clause-within
read-requires-clause-within g c =
    let some : AllSome c.args.part.now.shape.items = λ k below none. false≢true (sym c.if-is_empty.false ∙ c.is_empty.ensures.1 (k, below, none)) in
    let run = run_of_part (g.B.ByteSource.may_read c.args.source.now) c.args.size c.in-Ok.count c.args.window c.run_at-run.result c.args.shape.now
    c.start-start.result.now c.shape-extents.result.now c.args.part.now.start.items c.args.part.now.shape.items (g.B.ByteSource.bytes c.args.source.now)
    c.start-start.ensures c.shape-extents.ensures c.run_at-run.ensures c.requires.part (sym c.is_run.ensures ∙ c.if-is_run.true) some c.requires.size c.in-Ok.ensures.ok
    c.requires.len c.requires.window c.requires.may_read in
    run.inside

pub read-requires-clause-may_read : goal.read-requires-clause-may_read
read-requires-clause-may_read g c =
    let some : AllSome c.args.part.now.shape.items = λ k below none. false≢true (sym c.if-is_empty.false ∙ c.is_empty.ensures.1 (k, below, none)) in
    let run = run_of_part (g.B.ByteSource.may_read c.args.source.now) c.args.size c.in-Ok.count c.args.window c.run_at-run.result c.args.shape.now
    c.start-start.result.now c.shape-extents.result.now c.args.part.now.start.items c.args.part.now.shape.items (g.B.ByteSource.bytes c.args.source.now)
    c.start-start.ensures c.shape-extents.ensures c.run_at-run.ensures c.requires.part (sym c.is_run.ensures ∙ c.if-is_run.true) some c.requires.size c.in-Ok.ensures.ok
    c.requires.len c.requires.window c.requires.may_read in
    run.allowed

pub returns-then-is_run-clause-bytes : goal.returns-then-is_run-clause-bytes
returns-then-is_run-clause-bytes g c =
    let some : AllSome c.args.part.now.shape.items = λ k below none. false≢true (sym c.if-is_empty.false ∙ c.is_empty.ensures.1 (k, below, none)) in
    let run = run_of_part (g.B.ByteSource.may_read c.args.source.now) c.args.size c.in-Ok.count c.args.window c.run_at-run.result c.args.shape.now
    c.start-start.result.now c.shape-extents.result.now c.args.part.now.start.items c.args.part.now.shape.items (g.B.ByteSource.bytes c.args.source.now)
    c.start-start.ensures c.shape-extents.ensures c.run_at-run.ensures c.requires.part (sym c.is_run.ensures ∙ c.if-is_run.true) some c.requires.size c.in-Ok.ensures.ok
    c.requires.len c.requires.window c.requires.may_read in
    c.in_ok-from_slice.ensures.items ∙ c.as_slice.ensures ∙ c.in_ok-bytes.ensures.bytes ∙ run.bytes_are

pub returns-in-Some-clause-bytes : goal.returns-in-Some-clause-bytes
returns-in-Some-clause-bytes g c =
    lent_box c.args.size c.args.window c.args.shape.now (box_of c.args.part.now) (g.B.ByteSource.bytes c.args.source.now) c.in-Some.bytes.now c.slice.result.now
    c.in_ok-gathered.field-0.items c.requires.part c.requires.len c.in-Some.ensures.lends.all c.slice.ensures c.in_ok-gathered.ensures

pub without_ones-requires : goal.without_ones-requires
without_ones-requires g c =
    (length-shape c.args.part.now.start.items c.args.part.now.shape.items c.args.shape.now c.requires.part).1 ∙ sym (ap length c.shape-extents.ensures)

pub without_ones-requires-2 : goal.without_ones-requires-2
without_ones-requires-2 g c =
    (length-shape c.args.part.now.start.items c.args.part.now.shape.items c.args.shape.now c.requires.part).0 ∙ sym (ap length c.start-start.ensures)

pub read_rows-requires : goal.read_rows-requires
read_rows-requires g c =
    let shape = c.args.shape.now in
    let start = c.args.part.now.start.items in
    let extents = c.args.part.now.shape.items in
    let some : AllSome extents = λ k below none. false≢true (sym c.if-is_empty.false ∙ c.is_empty.ensures.1 (k, below, none)) in
    can_read_kept (g.B.ByteSource.bytes c.args.source.now) (g.B.ByteSource.may_read c.args.source.now) c.args.size c.args.window.offset c.args.window.len
    shape start extents c.deref.result.now c.deref-2.result.now c.deref-3.result.now
    (c.deref.ensures.value ∙ c.in_ok-kept_shape.ensures)
    (c.deref-2.ensures.value ∙ c.in_ok-kept_start.ensures ∙ ap (without_ones shape) c.start-start.ensures)
    (c.deref-3.ensures.value ∙ c.in_ok-kept_extents.ensures ∙ ap (without_ones shape) c.shape-extents.ensures)
    some
    (can_read (g.B.ByteSource.bytes c.args.source.now) (g.B.ByteSource.may_read c.args.source.now) c.args.size c.args.window.offset c.args.window.len
    shape start extents (omega arith) c.requires.window c.requires.size c.requires.len c.requires.part c.requires.may_read some)

pub returns-clause-bytes : goal.returns-clause-bytes
returns-clause-bytes g c =
    let shape = c.args.shape.now in
    let start = c.args.part.now.start.items in
    let extents = c.args.part.now.shape.items in
    let some : AllSome extents = λ k below none. false≢true (sym c.if-is_empty.false ∙ c.is_empty.ensures.1 (k, below, none)) in
    bytes_kept c.args.size c.args.window.offset shape start extents c.deref.result.now c.deref-2.result.now c.deref-3.result.now
    (g.B.ByteSource.bytes c.args.source.now) c.in_ok-made.made.items c.read_rows.new.made.items
    (c.deref.ensures.value ∙ c.in_ok-kept_shape.ensures)
    (c.deref-2.ensures.value ∙ c.in_ok-kept_start.ensures ∙ ap (without_ones shape) c.start-start.ensures)
    (c.deref-3.ensures.value ∙ c.in_ok-kept_extents.ensures ∙ ap (without_ones shape) c.shape-extents.ensures)
    c.requires.part some c.in_ok-made.ensures.items c.in_ok-read_rows.ensures.bytes

pub gathered-requires-clause-array_len : goal.gathered-requires-clause-array_len
gathered-requires-clause-array_len g c =
    let window = c.args.window in
    let bytes = c.in-Some.bytes.now in
    let inside : window.offset + window.len ≤ length bytes = omega (arith, c.requires.window, ap length c.in-Some.ensures.lends.all) in
    omega (arith, ap length c.slice.ensures ∙ length-take-le window.len (drop window.offset bytes) (omega (arith, inside, length-drop window.offset bytes)), c.requires.len)
