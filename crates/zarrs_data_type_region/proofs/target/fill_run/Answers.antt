use Rattle.std.proofs.Common.{◌≡◌, ℕ, zero, suc, ◌<◌, ◌*◌, min, length, take, sym, arith, rules}
use Rattle.std.proofs.lemmas.List.{length-take-le}
use Rattle.zarrs_data_type_region.proofs.Repeats.{run_none, run_room, run_first, run_more, run_end}
use Rattle.zarrs_data_type_region.proofs.target.fill_run.Goals as goal

pub returns-then-is_empty : goal.returns-then-is_empty
returns-then-is_empty c =
    let none : length c.args.target.now ≡ 0 = search rules in
    run_none c.args.piece.now c.args.target.now c.args.count c.requires none

pub slice_bounds-copy_from_slice-end : goal.slice_bounds-copy_from_slice-end
slice_bounds-copy_from_slice-end c =
    let some : 0 < length c.args.target.now = search rules in
    run_room (length c.args.piece.now) (length c.args.target.now) c.args.count c.requires some

pub slice_bounds-copy_from_slice-end-2 : goal.slice_bounds-copy_from_slice-end-2
slice_bounds-copy_from_slice-end-2 c =
    let some : 0 < length c.args.target.now = search rules in
    sym (length-take-le (length c.args.piece.now) c.args.target.now (run_room (length c.args.piece.now) (length c.args.target.now) c.args.count c.requires some))

pub copy_from_slice-requires : goal.copy_from_slice-requires
copy_from_slice-requires c =
    let some : 0 < length c.args.target.now = search rules in
    length-take-le (length c.args.piece.now) c.args.target.now (run_room (length c.args.piece.now) (length c.args.target.now) c.args.count c.requires some)

pub loop-done-init : goal.loop-done-init
loop-done-init c =
    let some : 0 < length c.args.target.now = search rules in
    let room = run_room (length c.args.piece.now) (length c.args.target.now) c.args.count c.requires some in
    let first = run_first c.args.piece.now c.args.target.now c.copy_from_slice.new.self c.args.count c.requires room c.copy_from_slice.ensures.after in
    record {
      len = first.len;
      within = first.within;
      some = positive c.args.count (length c.args.piece.now) (omega (arith, c.requires));
      block = omega arith;
      whole = (1, omega arith);
      filled = first.filled;
    }
  where
    positive : (n size : ℕ) → 0 < n * size → 0 < size
    positive n zero h = absurd (omega arith)
    positive n (suc size) h = omega arith

pub loop-done-preserved-then-block-lt-BLOCK_LEN : goal.loop-done-preserved-then-block-lt-BLOCK_LEN
loop-done-preserved-then-block-lt-BLOCK_LEN c =
    let i = c.loop-done.invariant in
    let front = c.split_at_mut-front.result.0.now in
    let rest = c.split_at_mut-front.result.1.now in
    let some : c.min-some.result ≡ min c.loop-done.block (length rest) = search rules in
    let sub : c.copy_from_slice-in-loop-done.new.self ≡ take c.min-some.result front = search rules in
    let more = run_more c.args.piece.now c.loop-done.target front rest c.copy_from_slice-in-loop-done.new.self c.args.count c.loop-done.done c.loop-done.block c.min-some.result
    i.len (omega arith) c.split_at_mut-front.ensures.front c.split_at_mut-front.ensures.back i.some i.block i.whole i.filled some sub in
    record {
      len = more.len;
      within = more.within;
      some = omega (arith, i.some, i.block);
      block = omega arith;
      whole = (more.filled.0, more.filled.1);
      filled = more.filled;
    }

pub loop-done-preserved : goal.loop-done-preserved
loop-done-preserved c =
    let i = c.loop-done.invariant in
    let front = c.split_at_mut-front.result.0.now in
    let rest = c.split_at_mut-front.result.1.now in
    let some : c.min-some.result ≡ min c.loop-done.block (length rest) = search rules in
    let sub : c.copy_from_slice-in-loop-done.new.self ≡ take c.min-some.result front = search rules in
    let more = run_more c.args.piece.now c.loop-done.target front rest c.copy_from_slice-in-loop-done.new.self c.args.count c.loop-done.done c.loop-done.block c.min-some.result
    i.len (omega arith) c.split_at_mut-front.ensures.front c.split_at_mut-front.ensures.back i.some i.block i.whole i.filled some sub in
    record {
      len = more.len;
      within = more.within;
      some = i.some;
      block = omega (arith, i.block);
      whole = i.whole;
      filled = more.filled;
    }

pub returns : goal.returns
returns c =
    let i = c.loop-done.invariant in
    run_end c.args.piece.now c.loop-done.target c.args.count c.loop-done.done c.loop-done.block i.len i.within (omega arith) i.some i.whole i.filled
