use Rattle.std.proofs.Common.{sym, subst, ap, ◌∙◌}
use Rattle.std.specs.Prelude.{Some}
use Rattle.zarrs_subset.specs.Regions.{box_of, positions}
use Rattle.zarrs_engine_calls.specs.ChunkBoxes.{chunks_met}
use Rattle.zarrs_subset.specs.Walks.{positions_left}
use Rattle.zarrs.specs.Arrays.{layout_of_array}
use Rattle.zarr_arrays.specs.Reading.{HasReadPart, ReadsAtMost}
use Rattle.zarr_arrays.proofs.Asked.{Each, each_none, each_more, each_all, each_next, kept_itself, kept_on, more_read, none_read, yielded, ended}
use Rattle.zarr_arrays.proofs.reading.read_parts.Goals as goal

pub loop-indices-init : goal.loop-indices-init
loop-indices-init c =
    let all = chunks_met (layout_of_array c.args.array.now).grid (box_of c.args.region.now) in
    record {
      each =
          subst (λ it. Each (HasReadPart (layout_of_array c.args.array.now) (box_of c.args.region.now) c.args.store.now) all (positions_left it)) (sym c.into_iter-indices-iterator.ensures.into_iter_gives)
          (subst (Each (HasReadPart (layout_of_array c.args.array.now) (box_of c.args.region.now) c.args.store.now) all) (sym (c.indices-indices-items.ensures ∙ ap positions c.in_ok-chunks.ensures)) (each_none (HasReadPart (layout_of_array c.args.array.now) (box_of c.args.region.now) c.args.store.now) all));
      kept = kept_itself c.args.store.now;
      no_others = none_read (layout_of_array c.args.array.now) all c.args.store.now;
    }

pub loop-indices-preserved : goal.loop-indices-preserved
loop-indices-preserved c = record {
  each =
      each_more (HasReadPart (layout_of_array c.args.array.now) (box_of c.args.region.now) c.loop-indices.store) (HasReadPart (layout_of_array c.args.array.now) (box_of c.args.region.now) c.read_part.new.store) (chunks_met (layout_of_array c.args.array.now).grid (box_of c.args.region.now))
      (positions_left c.loop-indices.indices-iterator) (positions_left c.next.new.self) c.in_ok-indices.indices.items
      (yielded c.loop-indices.indices-iterator c.next.new.self c.next.result c.in_ok-indices.indices c.next.ensures.steps (c.in-Some.is ∙ ap Some c.in_ok-indices.was))
      (subst (HasReadPart (layout_of_array c.args.array.now) (box_of c.args.region.now) c.read_part.new.store) c.deref.ensures c.in_ok-read_part.ensures.read)
      (λ index before part. c.in_ok-read_part.ensures.kept.chunks index (before part)) c.loop-indices.invariant.each;
  kept = kept_on c.args.store.now c.loop-indices.store c.read_part.new.store c.loop-indices.invariant.kept c.in_ok-read_part.ensures.kept.kept;
  no_others =
      more_read (layout_of_array c.args.array.now) (chunks_met (layout_of_array c.args.array.now).grid (box_of c.args.region.now)) c.args.store.now c.loop-indices.store
      c.read_part.new.store c.in_ok-indices.indices.items
      (each_next (HasReadPart (layout_of_array c.args.array.now) (box_of c.args.region.now) c.loop-indices.store) (chunks_met (layout_of_array c.args.array.now).grid (box_of c.args.region.now)) (positions_left c.loop-indices.indices-iterator)
      (positions_left c.next.new.self) c.in_ok-indices.indices.items
      (yielded c.loop-indices.indices-iterator c.next.new.self c.next.result c.in_ok-indices.indices c.next.ensures.steps (c.in-Some.is ∙ ap Some c.in_ok-indices.was))
      c.loop-indices.invariant.each)
      (subst (ReadsAtMost (layout_of_array c.args.array.now) c.loop-indices.store c.read_part.new.store) c.deref.ensures c.in_ok-read_part.ensures.most)
      c.loop-indices.invariant.no_others;
}

pub loop-indices-preserved-in_ok-read_part : goal.loop-indices-preserved-in_ok-read_part
loop-indices-preserved-in_ok-read_part c = record {
  each =
      each_more (HasReadPart (layout_of_array c.args.array.now) (box_of c.args.region.now) c.loop-indices.store) (HasReadPart (layout_of_array c.args.array.now) (box_of c.args.region.now) c.read_part.new.store) (chunks_met (layout_of_array c.args.array.now).grid (box_of c.args.region.now))
      (positions_left c.loop-indices.indices-iterator) (positions_left c.next.new.self) c.in_ok-indices.indices.items
      (yielded c.loop-indices.indices-iterator c.next.new.self c.next.result c.in_ok-indices.indices c.next.ensures.steps (c.in-Some.is ∙ ap Some c.in_ok-indices.was))
      (subst (HasReadPart (layout_of_array c.args.array.now) (box_of c.args.region.now) c.read_part.new.store) c.deref.ensures c.in_ok-read_part.ensures.read)
      (λ index before part. c.in_ok-read_part.ensures.kept.chunks index (before part)) c.loop-indices.invariant.each;
  kept = kept_on c.args.store.now c.loop-indices.store c.read_part.new.store c.loop-indices.invariant.kept c.in_ok-read_part.ensures.kept.kept;
  no_others =
      more_read (layout_of_array c.args.array.now) (chunks_met (layout_of_array c.args.array.now).grid (box_of c.args.region.now)) c.args.store.now c.loop-indices.store
      c.read_part.new.store c.in_ok-indices.indices.items
      (each_next (HasReadPart (layout_of_array c.args.array.now) (box_of c.args.region.now) c.loop-indices.store) (chunks_met (layout_of_array c.args.array.now).grid (box_of c.args.region.now)) (positions_left c.loop-indices.indices-iterator)
      (positions_left c.next.new.self) c.in_ok-indices.indices.items
      (yielded c.loop-indices.indices-iterator c.next.new.self c.next.result c.in_ok-indices.indices c.next.ensures.steps (c.in-Some.is ∙ ap Some c.in_ok-indices.was))
      c.loop-indices.invariant.each)
      (subst (ReadsAtMost (layout_of_array c.args.array.now) c.loop-indices.store c.read_part.new.store) c.deref.ensures c.in_ok-read_part.ensures.most)
      c.loop-indices.invariant.no_others;
}

pub returns-clause-ask : goal.returns-clause-ask
returns-clause-ask c = λ index among.
    each_all (HasReadPart (layout_of_array c.args.array.now) (box_of c.args.region.now) c.loop-indices.store) (chunks_met (layout_of_array c.args.array.now).grid (box_of c.args.region.now)) (positions_left c.loop-indices.indices-iterator)
    (ended c.loop-indices.indices-iterator c.next.new.self c.next.result c.next.ensures.steps c.in-None.is) c.loop-indices.invariant.each index among
