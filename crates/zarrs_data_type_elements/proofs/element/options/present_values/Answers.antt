use Rattle.std.proofs.Common.{map, sym, ap, ◌∙◌}
use Rattle.zarrs_data_type_elements.proofs.OptionCells.{present-more, none-more}
use Rattle.zarrs_data_type_elements.proofs.element.options.present_values.Goals as goal
use Rattle.zarrs_data_type_elements.proofs.element.options.present_values.Goals.{in-Some+in_ok-push, in_default}

pub loop-element-preserved : goal.loop-element-preserved
loop-element-preserved g c =
    let es = c.args.elements.now in
    let i = c.loop-element.element-index in
    let e = c.element-item.result in
    let item = sym c.element-item.is in
    elim c.match-element.branch [
      | in-Some+in_ok-push w ↦
          ap (λ l. map (λ v. v.now) l.items) w.values-is
          ∙ present-more (λ o. o.now) (λ v. v.now) es i e c.loop-element.values.items w.push.new.self.items _ c.loop-element-test.true item w.in-Some.is c.loop-element.invariant w.in_ok-push.ensures.items
      | in_default w ↦
          ap (λ l. map (λ v. v.now) l.items) w.values-is
          ∙ c.loop-element.invariant
          ∙ none-more (λ o. o.now) es i e c.loop-element-test.true item w.in_default.is
    ]
