use Rattle.std.proofs.Common.{refl, sym, subst, ap, ◌∙◌, ℕ, List}
use Rattle.std.specs.Prelude.{Some}
use Rattle.zarrs_subset.specs.Regions.{box_of, positions}
use Rattle.zarrs_engine_calls.specs.ChunkBoxes.{chunks_met}
use Rattle.zarrs_engine_calls.specs.Reach.{MayReadPart}
use Rattle.zarrs_subset.specs.Walks.{positions_left}
use Rattle.zarrs.specs.Arrays.{layout_of_array}
use Rattle.zarrs_directory.specs.Excerpts.{excerpts_state}
use Rattle.zarr_arrays.specs.Reading.{ReadsMore}
use Rattle.zarr_arrays.proofs.Asked.{Each, each_none, each_all, yielded, ended}
use Rattle.zarr_arrays.proofs.WantedLemmas.{asks_none, chunk_more}
use Rattle.zarr_arrays.proofs.reading.read_chunks.Goals as goal

pub loop-indices-init : goal.loop-indices-init
loop-indices-init c =
    let layout = layout_of_array c.args.array.now in
    let region = box_of c.args.region.now in
    let all = chunks_met layout.grid region in
    let P = λ (index : List ℕ). MayReadPart layout region index (excerpts_state c.args.files.now) in
    record {
      each =
          subst (λ it. Each P all (positions_left it)) (sym c.into_iter-indices-iterator.ensures.into_iter_gives)
          (subst (Each P all) (sym (c.indices-indices-items.ensures ∙ ap positions c.in_ok-chunks.ensures)) (each_none P all));
      only = asks_none layout all (excerpts_state c.args.files.now) c.requires;
      same = refl;
    }

pub loop-indices-preserved : goal.loop-indices-preserved
loop-indices-preserved c =
    let layout = layout_of_array c.args.array.now in
    let old = excerpts_state c.loop-indices.files in
    let new = excerpts_state c.read_excerpt.new.files in
    let before = c.loop-indices.indices-iterator in
    let split = yielded before c.next.new.self c.next.result c.in_ok-indices.indices c.next.ensures.steps (c.in-Some.is ∙ ap Some c.in_ok-indices.was) in
    let more =
    chunk_more layout (box_of c.args.region.now) (chunks_met layout.grid (box_of c.args.region.now)) (positions_left before) (positions_left c.next.new.self) c.in_ok-indices.indices.items old new split
    (subst (λ (index : List ℕ). MayReadPart layout (box_of c.args.region.now) index new) c.deref.ensures c.in_ok-read_excerpt.ensures.read)
    (subst (λ (index : List ℕ). ReadsMore layout index old new) c.deref.ensures c.in_ok-read_excerpt.ensures.more)
    c.loop-indices.invariant.each c.loop-indices.invariant.only in
    record { each = more.0; only = more.1; same = c.read_excerpt.ensures.directory ∙ c.loop-indices.invariant.same }

pub loop-indices-preserved-in_ok-read_excerpt : goal.loop-indices-preserved-in_ok-read_excerpt
loop-indices-preserved-in_ok-read_excerpt c =
    let layout = layout_of_array c.args.array.now in
    let old = excerpts_state c.loop-indices.files in
    let new = excerpts_state c.read_excerpt.new.files in
    let before = c.loop-indices.indices-iterator in
    let split = yielded before c.next.new.self c.next.result c.in_ok-indices.indices c.next.ensures.steps (c.in-Some.is ∙ ap Some c.in_ok-indices.was) in
    let more =
    chunk_more layout (box_of c.args.region.now) (chunks_met layout.grid (box_of c.args.region.now)) (positions_left before) (positions_left c.next.new.self) c.in_ok-indices.indices.items old new split
    (subst (λ (index : List ℕ). MayReadPart layout (box_of c.args.region.now) index new) c.deref.ensures c.in_ok-read_excerpt.ensures.read)
    (subst (λ (index : List ℕ). ReadsMore layout index old new) c.deref.ensures c.in_ok-read_excerpt.ensures.more)
    c.loop-indices.invariant.each c.loop-indices.invariant.only in
    record { each = more.0; only = more.1; same = c.read_excerpt.ensures.directory ∙ c.loop-indices.invariant.same }

pub returns-clause-read : goal.returns-clause-read
returns-clause-read c =
    let layout = layout_of_array c.args.array.now in
    let region = box_of c.args.region.now in
    record {
      each = λ index among.
          each_all (λ (i : List ℕ). MayReadPart layout region i (excerpts_state c.loop-indices.files)) (chunks_met layout.grid region) (positions_left c.loop-indices.indices-iterator)
          (ended c.loop-indices.indices-iterator c.next.new.self c.next.result c.next.ensures.steps c.in-None.is) c.loop-indices.invariant.each index among;
      keys = c.loop-indices.invariant.only;
    }
