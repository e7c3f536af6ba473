use Rattle.std.proofs.Common.{rules, ◌≡◌, ◌∙◌, ℕ, List, length, replicate, refl, sym, ap, subst}
use Rattle.std.proofs.lemmas.Bool.{iff_false}
use Rattle.std.specs.List.{refill}
use Rattle.zarrs_subset.specs.Boxes.{position_count}
use Rattle.zarrs_subset.specs.Regions.{box_at_origin, place_in}
use Rattle.zarrs_subset.proofs.Overlaps.{AllSome}
use Rattle.zarrs_subset.proofs.WalkLemmas.{refill-same}
use Rattle.zarrs_engine_layout.specs.WholeChunks.{PassesBelow}
use Rattle.zarrs_engine_layout.proofs.CutWalks.{first_inside, passes_all, passes_empty, passes_first}
use Rattle.zarrs_engine_layout.proofs.cut_walk.CutWalk.new.Goals as goal

pub returns-in_default : goal.returns-in_default
returns-in_default c =
    let shape = c.args.shape.items in
    let whole = c.args.whole.items in
    let more = rw (c.deref.ensures.value, c.deref-2.ensures.value) at c.in_default.ensures.none in
    passes_all shape whole 0 (position_count shape) c.requires more

pub returns-then-has_zero : goal.returns-then-has_zero
returns-then-has_zero c =
    let shape = c.args.shape.items in
    let empty = rw c.deref-3.ensures.value at (c.has_zero.ensures.0 c.if-has_zero.true) in
    passes_empty shape c.args.whole.items 0 (position_count shape) empty

pub skip-requires-clause-inside : goal.skip-requires-clause-inside
skip-requires-clause-inside c =
    let shape = c.args.shape.items in
    let some : AllSome shape = λ k below z. iff_false (rw c.deref-3.ensures.value at c.has_zero.ensures) c.if-has_zero.false (k, below, z) in
    let count : c.len.result ≡ length shape = search rules in
    let zeros : c.deref_mut.result.now ≡ replicate (length shape) 0 = c.deref_mut.ensures.value ∙ c.in_ok-current.ensures.items_if_clones_equal (λ y h. h) ∙ ap (λ n. replicate {A = ℕ} n 0) count in
    rw (c.deref-4.ensures.value, zeros) (first_inside shape some)

pub returns : goal.returns
returns c =
    let shape = c.args.shape.items in
    let whole = c.args.whole.items in
    let current = c.in_ok-current.current in
    let position = c.skip.new.position in
    let count : c.len.result ≡ length shape = search rules in
    let zeros : c.deref_mut.result.now ≡ replicate (length shape) 0 = c.deref_mut.ensures.value ∙ c.in_ok-current.ensures.items_if_clones_equal (λ y h. h) ∙ ap (λ n. replicate {A = ℕ} n 0) count in
    let passes = rw (c.deref-4.ensures.value, c.deref-5.ensures.value) at c.skip.ensures.passes in
    let held : current.len ≡ length current.items = search rules in
    let kept : length position ≡ length current.items = search rules in
    let is : refill current.len current.items position ≡ position = rw held (refill-same current.items position kept) in
    record {
      same_box = refl;
      same_whole = refl;
      passes = subst (λ (q : List ℕ). PassesBelow shape whole 0 (place_in (box_at_origin shape) q)) (sym is)
          (passes_first shape whole c.deref_mut.result.now (place_in (box_at_origin shape) position) zeros passes);
    }
