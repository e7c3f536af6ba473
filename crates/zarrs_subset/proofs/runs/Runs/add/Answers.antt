use Rattle.std.proofs.Common.{rules, arith, refl, sym, ap, ◌∙◌, ◌≡◌, ◌+◌, ◌-◌, ◌*◌, ◌<◌, ◌≤◌, [], drop, length}
use Rattle.std.proofs.Math.Nat.{mul_comm, mul_assoc}
use Rattle.std.proofs.lemmas.List.{drop_all}
use Rattle.zarrs_subset.specs.Boxes.{position_count}
use Rattle.zarrs_subset.proofs.PlanLemmas.{Extends, joined, pushed, single, extended_reaches, reaches_more}
use Rattle.zarrs_subset.proofs.PlanLemmas.{extended_apart, extended_source_span, extended_target_span, room_more}
use Rattle.zarrs_subset.proofs.PlanLemmas.{few_more, iff_trans, offset_more, some_more, drop-set_before}
use Rattle.zarrs_subset.proofs.runs.Runs.add.Goals as goal
use Rattle.zarrs_subset.proofs.runs.Runs.add.Goals.{then-self-eq-MOST_STRIDES+then-self+then-self-2, else-self-eq-MOST_STRIDES+then-extent-gt1}
use Rattle.zarrs_subset.proofs.runs.Runs.add.Goals.{else-self-eq-MOST_STRIDES+else-extent-gt1}

pub invariant_of-self : goal.invariant_of-self
invariant_of-self c =
    let old = c.args.self.now in
    let new = c.if-self-eq-MOST_STRIDES.self in
    let d = c.args.dimension in
    let step : Extends d.extent old.source_block old.target_block (drop old.first old.strides) old.len (64 - old.first)
    (drop new.1.1.0 new.1.0) new.1.1.1.0 (64 - new.1.1.0) = elim c.if-self-eq-MOST_STRIDES.branch [
      | then-self-eq-MOST_STRIDES+then-self+then-self-2 w ↦
          let long : length old.strides ≡ 64 = search rules in
          let none : drop old.first old.strides ≡ [] = drop_all old.first old.strides (omega arith) in
          rw w.self-is (joined none w.if-self.true w.if-self-2.true none refl refl)
      | else-self-eq-MOST_STRIDES+then-extent-gt1 w ↦
          let long : length old.strides ≡ 64 = search rules in
          let some : 0 < old.first = search rules in
          rw w.self-is (pushed (omega arith) (drop-set_before _ _ _ some (omega arith)) refl (omega arith))
      | else-self-eq-MOST_STRIDES+else-extent-gt1 w ↦ rw w.self-is (single (omega arith) refl refl refl)
    ] in
    let within : new.1.1.0 ≤ 64 = elim c.if-self-eq-MOST_STRIDES.branch [
      | then-self-eq-MOST_STRIDES+then-self+then-self-2 w ↦ rw w.self-is (omega arith)
      | else-self-eq-MOST_STRIDES+then-extent-gt1 w ↦ rw w.self-is (omega arith)
      | else-self-eq-MOST_STRIDES+else-extent-gt1 w ↦ rw w.self-is (omega arith)
    ] in
    record {
      within = within;
      some = some_more _ _ _ _ _ _ _ _ _ old.some c.requires.some step;
      apart = extended_apart _ _ _ _ _ _ _ _ _ (omega (arith, old.target_room)) old.apart step;
      source_room = rw (extended_source_span _ _ _ _ _ _ _ _ _ c.requires.some step)
          (room_more _ _ _ _ _ _ old.source_room c.requires.source_fits c.requires.some);
      target_room = rw (extended_target_span _ _ _ _ _ _ _ _ _ c.requires.some step)
          (room_more _ _ _ _ _ _ old.target_room c.requires.target_fits c.requires.some);
      few = few_more _ _ _ _ _ _ _ _ _ _ _ (omega (arith, c.requires.target_fits)) old.few step;
    }

pub returns : goal.returns
returns c = λ size S F T U es plan.
    let old = c.args.self.now in
    let new = c.if-self-eq-MOST_STRIDES.self in
    let d = c.args.dimension in
    let step : Extends d.extent old.source_block old.target_block (drop old.first old.strides) old.len (64 - old.first)
    (drop new.1.1.0 new.1.0) new.1.1.1.0 (64 - new.1.1.0) = elim c.if-self-eq-MOST_STRIDES.branch [
      | then-self-eq-MOST_STRIDES+then-self+then-self-2 w ↦
          let long : length old.strides ≡ 64 = search rules in
          let none : drop old.first old.strides ≡ [] = drop_all old.first old.strides (omega arith) in
          rw w.self-is (joined none w.if-self.true w.if-self-2.true none refl refl)
      | else-self-eq-MOST_STRIDES+then-extent-gt1 w ↦
          let long : length old.strides ≡ 64 = search rules in
          let some : 0 < old.first = search rules in
          rw w.self-is (pushed (omega arith) (drop-set_before _ _ _ some (omega arith)) refl (omega arith))
      | else-self-eq-MOST_STRIDES+else-extent-gt1 w ↦ rw w.self-is (single (omega arith) refl refl refl)
    ] in
    record {
      source_block = ap (λ n. n * d.source_extent) plan.source_block ∙ mul_comm _ d.source_extent ∙ sym (mul_assoc d.source_extent (position_count S) size);
      target_block = ap (λ n. n * d.target_extent) plan.target_block ∙ mul_comm _ d.target_extent ∙ sym (mul_assoc d.target_extent (position_count T) size);
      source_offset = offset_more _ _ _ _ _ _ plan.source_offset plan.source_block;
      target_offset = offset_more _ _ _ _ _ _ plan.target_offset plan.target_block;
      reaches = λ t s. iff_trans _ _ _ (extended_reaches _ _ _ _ _ _ _ _ _ t s old.some step)
          (reaches_more _ _ _ _ _ _ _ _ _ t s plan.source_block plan.target_block plan.reaches);
    }
