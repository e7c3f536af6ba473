use Rattle.std.proofs.Common.{◌≡◌, ◌+◌, ◌*◌, ◌/◌, [], length, map, get_or, refl, ap, sym, ◌∙◌, arith}
use Rattle.std.specs.Prelude.{vec_capacity, vec_len}
use Rattle.std.specs.List.{flat_map}
use Rattle.std.proofs.Math.Nat.{mul-div_cancel}
use Rattle.std.proofs.lemmas.List.{get_or_default}
use Rattle.zarrs_subset.proofs.Kernel.{cell_ends}
use Rattle.zarrs_data_type_bytes.proofs.Places.{are_places, places_set}
use Rattle.zarrs_data_type_bytes.proofs.Gathering.{gathered_is, gathered_more}
use Rattle.zarrs_data_type_bytes.proofs.Presence.{places-unset}
use Rattle.zarrs_data_type_bytes.proofs.array_bytes.gather.gather_sized.Goals as goal
use Rattle.zarrs_data_type_bytes.proofs.array_bytes.gather.gather_sized.Goals.{then-mask-index-ne0, else-mask-index-ne0}

pub loop-index-preserved : goal.loop-index-preserved
loop-index-preserved g c =
    let mask = c.args.mask.now in
    let i = c.loop-index.index in
    let cells = c.as_chunks.result.0.now in
    let count : length cells ≡ length mask = c.as_chunks.ensures.front_len ∙ ap (λ m. m / g.row.N) c.requires.cells ∙ mul-div_cancel (length mask) c.requires.wide in
    let next = cell_ends g.row.N i (i + 1) ((i + 1) * g.row.N) (omega arith) refl in
    elim c.if-mask-index-ne0.branch [
      | then-mask-index-ne0 w ↦
          let item : w.index-cells-index.result ≡ get_or cells i [] = w.index-cells-index.is ∙ get_or_default cells i w.index-cells-index.result [] (omega arith) in
          record {
            cells = ap (λ v. v.items) w.made-is
                ∙ gathered_more cells mask i c.loop-index.made.items w.push_cell.new.bytes.items w.index-cells-index.result c.loop-index.invariant.cells w.if-mask-index-ne0.true item w.push_cell.ensures.items;
            len = omega (arith, ap vec_len w.made-is, w.push_cell.ensures.len, c.loop-index.invariant.len, next);
            room = ap vec_capacity w.made-is ∙ w.push_cell.ensures.capacity ∙ c.loop-index.invariant.room;
          }
      | else-mask-index-ne0 w ↦
          record {
            cells = ap (λ v. v.items) w.made-is ∙ c.loop-index.invariant.cells
                ∙ ap (λ l. flat_map (λ x. x) (map (λ p. get_or cells p []) l)) (sym (places-unset mask i w.if-mask-index-ne0.false));
            len = omega (arith, ap vec_len w.made-is, c.loop-index.invariant.len, next);
            room = ap vec_capacity w.made-is ∙ c.loop-index.invariant.room;
          }
    ]

pub returns : goal.returns
returns g c =
    let mask = c.args.mask.now in
    let cells = c.as_chunks.result.0.now in
    let done : c.loop-index.index ≡ length mask = omega arith in
    let all = c.loop-index.invariant.cells ∙ ap (λ n. flat_map (λ x. x) (map (λ p. get_or cells p []) (places_set mask n))) done in
    (places_set mask (length mask), are_places mask, gathered_is c.args.bytes.now mask c.loop-index.made.items g.row.N cells c.requires.wide c.requires.cells c.as_chunks.ensures.front all)
