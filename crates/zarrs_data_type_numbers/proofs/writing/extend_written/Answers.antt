use Rattle.std.proofs.Common.{◌++◌, map, ap, ◌∙◌}
use Rattle.std.specs.List.{flat_map}
use Rattle.std.proofs.lemmas.List.{take_all}
use Rattle.zarrs_data_type_numbers.proofs.Chunks.{flat_map-ids}
use Rattle.zarrs_data_type_numbers.proofs.writing.extend_written.Goals as goal

pub returns-clause-bytes : goal.returns-clause-bytes
returns-clause-bytes g c =
    let values = c.args.values.now in
    let bytes_of = g.W.Writing.written in
    c.in_ok-extend_from_slice.ensures.items
    ∙ ap (λ l. c.args.bytes.now.items ++ l) (c.as_flattened.ensures.value
    ∙ ap (flat_map (λ y. y)) (c.as_slice.ensures.value ∙ c.loop-value.invariant.items)
    ∙ ap (λ l. flat_map (λ y. y) (map bytes_of l)) (take_all c.loop-value.value-index values c.loop-value-test.false)
    ∙ flat_map-ids bytes_of values)
