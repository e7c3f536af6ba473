use Rattle.std.proofs.Common.{◌≡◌, ◌∙◌, ◌+◌, ℕ, List, [], Some, slice_get, length, take, ap, refl, rules, subst, sym, arith}
use Rattle.std.proofs.lemmas.Option.{slice_get_within}
use Rattle.zarrs_subset.specs.Regions.{Box, box_of, positions}
use Rattle.zarrs_subset.specs.Walks.{walk_number}
use Rattle.zarrs_data_type.specs.States.{data_of_target, parent_box, target_box}
use Rattle.zarrs_data_type_region.proofs.Kept.{keeps_itself}
use Rattle.zarrs_engine_calls.specs.Refusals.{refusal_of}
use Rattle.zarrs_engine_layout.proofs.RegionRefusals.{some_wider}
use Rattle.zarrs_engine.specs.Engine.{layout_of}
use Rattle.zarrs_engine.specs.TargetReads.{HasReadInto, HasReadSoFar}
use Rattle.zarrs_engine.proofs.TargetReads.{into_last, into_next, into_none, so_far_none}
use Rattle.zarrs_engine.proofs.IntoReads.{kept_more, same_more, same_takes}
use Rattle.zarrs_engine.proofs.RegionSteps.{at_among}
use Rattle.zarrs_engine.proofs.engine.Engine.read_into.Goals as goal

pub returns-in_default-clause-read : goal.returns-in_default-clause-read
returns-in_default-clause-read g c =
    let layout = layout_of c.args.self.now in
    let state = g.S.ReadableStorageTraits.state c.args.self.now.storage in
    let region = box_of c.args.region.now in
    let t = c.args.target.now in
    let none : positions (box_of c.args.chunks.now) ≡ [] = rw c.in_default.is at c.in_ok-walk.ensures.none in
    subst (λ (l : List (List ℕ)). HasReadInto layout region l state (parent_box t) (target_box t) (data_of_target t)) (sym none)
    (into_none layout c.args.self.now.layout.lawful region state (parent_box t) (target_box t) (data_of_target t))

pub loop-walk-init : goal.loop-walk-init
loop-walk-init g c =
    let layout = layout_of c.args.self.now in
    let state = g.S.ReadableStorageTraits.state c.args.self.now.storage in
    let region = box_of c.args.region.now in
    let chunks = positions (box_of c.args.chunks.now) in
    let t = c.args.target.now in
    let first = rw c.in-Some.is at c.in_ok-walk.ensures.first in
    record {
      same_box = rw c.in-Some.is at c.in_ok-walk.ensures.none;
      kept = keeps_itself t;
      read = subst (λ n. HasReadSoFar layout c.args.filled region (take n chunks) state (parent_box t) (target_box t) (data_of_target t)) (sym first)
          (so_far_none layout c.args.self.now.layout.lawful region state (parent_box t) (target_box t) c.args.filled (data_of_target t) c.requires.filled);
    }

pub read_chunk_into-requires-clause-boxed : goal.read_chunk_into-requires-clause-boxed
read_chunk_into-requires-clause-boxed g c =
    let chunks = positions (box_of c.args.chunks.now) in
    let n = walk_number c.loop-walk.walk in
    let index = c.current.result.now in
    let at = subst (λ (b : Box). slice_get (positions b) n ≡ Some index) c.loop-walk.invariant.same_box c.current.ensures in
    c.requires.over.cover.boxed index (at_among chunks n index at)

pub read_chunk_into-requires-clause-ask : goal.read_chunk_into-requires-clause-ask
read_chunk_into-requires-clause-ask g c =
    let chunks = positions (box_of c.args.chunks.now) in
    let n = walk_number c.loop-walk.walk in
    let index = c.current.result.now in
    let at = subst (λ (b : Box). slice_get (positions b) n ≡ Some index) c.loop-walk.invariant.same_box c.current.ensures in
    c.requires.over.ask index (at_among chunks n index at)

pub read_chunk_into-requires-clause-target : goal.read_chunk_into-requires-clause-target
read_chunk_into-requires-clause-target g c =
    let same = c.loop-walk.invariant.kept.same in
    record {
      takes = same_takes c.args.target.now c.loop-walk.target (layout_of c.args.self.now).kind same.cell_size same.depth c.requires.target.takes;
      same_shape = ap (λ (b : Box). b.shape) (ap box_of same.region) ∙ c.requires.target.same_shape;
    }

pub loop-walk-smaller : goal.loop-walk-smaller
loop-walk-smaller g c =
    let chunks = positions (box_of c.args.chunks.now) in
    let n = walk_number c.loop-walk.walk in
    let index = c.current.result.now in
    let at = subst (λ (b : Box). slice_get (positions b) n ≡ Some index) c.loop-walk.invariant.same_box c.current.ensures in
    let here = slice_get_within chunks n index at in
    let next = c.if-not-advance.ensures.next in
    omega arith

pub returns-in_err-read_chunk_into-clause-refused : goal.returns-in_err-read_chunk_into-clause-refused
returns-in_err-read_chunk_into-clause-refused g c =
    let layout = layout_of c.args.self.now in
    let state = g.S.ReadableStorageTraits.state c.args.self.now.storage in
    let region = box_of c.args.region.now in
    let chunks = positions (box_of c.args.chunks.now) in
    let n = walk_number c.loop-walk.walk in
    let index = c.current.result.now in
    let at = subst (λ (b : Box). slice_get (positions b) n ≡ Some index) c.loop-walk.invariant.same_box c.current.ensures in
    let why = some_wider layout region chunks index state (at_among chunks n index at) (refusal_of c.in_err-read_chunk_into.field-0.0) c.in_err-read_chunk_into.ensures.refused in
    search (rules, why)

pub returns-in_err-read_chunk_into-clause-kept : goal.returns-in_err-read_chunk_into-clause-kept
returns-in_err-read_chunk_into-clause-kept g c = kept_more c.args.target.now c.loop-walk.target c.read_chunk_into.new.target c.loop-walk.invariant.kept c.read_chunk_into.ensures.kept

pub returns-then-not-advance-clause-kept : goal.returns-then-not-advance-clause-kept
returns-then-not-advance-clause-kept g c = kept_more c.args.target.now c.loop-walk.target c.read_chunk_into.new.target c.loop-walk.invariant.kept c.read_chunk_into.ensures.kept

pub returns-then-not-advance-clause-read : goal.returns-then-not-advance-clause-read
returns-then-not-advance-clause-read g c =
    let layout = layout_of c.args.self.now in
    let lawful = c.args.self.now.layout.lawful in
    let state = g.S.ReadableStorageTraits.state c.args.self.now.storage in
    let region = box_of c.args.region.now in
    let chunks = positions (box_of c.args.chunks.now) in
    let t = c.args.target.now in
    let l = c.loop-walk.target in
    let new = c.read_chunk_into.new.target in
    let i = c.loop-walk.invariant in
    let n = walk_number c.loop-walk.walk in
    let index = c.current.result.now in
    let at = subst (λ (b : Box). slice_get (positions b) n ≡ Some index) i.same_box c.current.ensures in
    let last = subst (λ (b : Box). n + 1 ≡ length (positions b)) i.same_box c.if-not-advance.ensures.last in
    let one = same_more layout c.args.filled region index state t l (data_of_target l) (data_of_target new) i.kept.same c.in_ok-read_chunk_into.ensures.read in
    into_last layout lawful region state (parent_box t) (target_box t) chunks (n + 1) (data_of_target new) last
    (into_next layout lawful region state (parent_box t) (target_box t) c.args.filled chunks n (n + 1) index (data_of_target l) (data_of_target new) refl at i.read one).read

pub loop-walk-preserved : goal.loop-walk-preserved
loop-walk-preserved g c =
    let layout = layout_of c.args.self.now in
    let lawful = c.args.self.now.layout.lawful in
    let state = g.S.ReadableStorageTraits.state c.args.self.now.storage in
    let region = box_of c.args.region.now in
    let chunks = positions (box_of c.args.chunks.now) in
    let t = c.args.target.now in
    let l = c.loop-walk.target in
    let new = c.read_chunk_into.new.target in
    let i = c.loop-walk.invariant in
    let n = walk_number c.loop-walk.walk in
    let index = c.current.result.now in
    let at = subst (λ (b : Box). slice_get (positions b) n ≡ Some index) i.same_box c.current.ensures in
    let one = same_more layout c.args.filled region index state t l (data_of_target l) (data_of_target new) i.kept.same c.in_ok-read_chunk_into.ensures.read in
    record {
      same_box = c.if-not-advance.ensures.same_box ∙ i.same_box;
      kept = kept_more t l new i.kept c.read_chunk_into.ensures.kept;
      read = into_next layout lawful region state (parent_box t) (target_box t) c.args.filled chunks n _ index (data_of_target l) (data_of_target new) c.if-not-advance.ensures.next at i.read one;
    }
