use Rattle.std.proofs.Common.{◌≡◌, take, map, length}
use Rattle.std.specs.Prelude.{vec_capacity}
use Rattle.zarrs_data_type_elements.proofs.element.copies.copied.Given as goal

abbrev pub invariant-loop-value : goal.invariant-loop-value
invariant-loop-value g l = record {
  items : l.copies.items ≡ map (λ v. v.now) (take l.value-index l.lent);
  room : vec_capacity l.copies ≡ length l.lent;
}
