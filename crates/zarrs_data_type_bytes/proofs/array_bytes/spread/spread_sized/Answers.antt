use Rattle.std.proofs.Common.{◌≡◌, ◌*◌, ◌/◌, ◌<◌, [], length, map, get_or, refl, ap, ◌∙◌, arith}
use Rattle.std.specs.Prelude.{count_by}
use Rattle.std.specs.List.{flat_map}
use Rattle.std.proofs.Math.Nat.{mul-div_cancel}
use Rattle.std.proofs.lemmas.List.{get_or_default}
use Rattle.zarrs_subset.proofs.Kernel.{cell_ends}
use Rattle.zarrs_data_type_bytes.specs.Present.{flag_set, ranks_set}
use Rattle.zarrs_data_type_bytes.proofs.Spread.{IsStep, IsStep-set, IsStep-unset, spread_more, spread_is}
use Rattle.zarrs_data_type_bytes.proofs.array_bytes.spread.spread_sized.Goals as goal
use Rattle.zarrs_data_type_bytes.proofs.array_bytes.spread.spread_sized.Goals.{then-mask-index-eq0, else-mask-index-eq0}

pub offset_bounds-cells-rank : goal.offset_bounds-cells-rank
offset_bounds-cells-rank g c =
    let mask = c.args.mask.now in
    let n = c.loop-index.index in
    let step : IsStep mask n c.if-mask-index-eq0.rank = elim c.if-mask-index-eq0.branch [
      | then-mask-index-eq0 w ↦ IsStep-unset mask n c.loop-index.count c.if-mask-index-eq0.rank c.loop-index-test.true c.requires.some c.loop-index.invariant.count w.if-mask-index-eq0.true w.rank-is
      | else-mask-index-eq0 w ↦ IsStep-set mask n c.loop-index.count c.if-mask-index-eq0.rank c.loop-index-test.true c.loop-index.invariant.count w.if-mask-index-eq0.false w.rank-is
    ] in
    let count : length c.as_chunks.result.0.now ≡ count_by flag_set mask = c.as_chunks.ensures.front_len ∙ ap (λ m. m / g.row.N) c.requires.cells ∙ mul-div_cancel (count_by flag_set mask) c.requires.wide in
    omega (arith, step.below, count)

pub bounds-cells-rank : goal.bounds-cells-rank
bounds-cells-rank g c =
    let mask = c.args.mask.now in
    let n = c.loop-index.index in
    let step : IsStep mask n c.if-mask-index-eq0.rank = elim c.if-mask-index-eq0.branch [
      | then-mask-index-eq0 w ↦ IsStep-unset mask n c.loop-index.count c.if-mask-index-eq0.rank c.loop-index-test.true c.requires.some c.loop-index.invariant.count w.if-mask-index-eq0.true w.rank-is
      | else-mask-index-eq0 w ↦ IsStep-set mask n c.loop-index.count c.if-mask-index-eq0.rank c.loop-index-test.true c.loop-index.invariant.count w.if-mask-index-eq0.false w.rank-is
    ] in
    let count : length c.as_chunks.result.0.now ≡ count_by flag_set mask = c.as_chunks.ensures.front_len ∙ ap (λ m. m / g.row.N) c.requires.cells ∙ mul-div_cancel (count_by flag_set mask) c.requires.wide in
    omega (arith, step.below, count)

pub loop-index-preserved : goal.loop-index-preserved
loop-index-preserved g c =
    let mask = c.args.mask.now in
    let n = c.loop-index.index in
    let cells = c.as_chunks.result.0.now in
    let rank = c.if-mask-index-eq0.rank.0 in
    let step : IsStep mask n c.if-mask-index-eq0.rank = elim c.if-mask-index-eq0.branch [
      | then-mask-index-eq0 w ↦ IsStep-unset mask n c.loop-index.count c.if-mask-index-eq0.rank c.loop-index-test.true c.requires.some c.loop-index.invariant.count w.if-mask-index-eq0.true w.rank-is
      | else-mask-index-eq0 w ↦ IsStep-set mask n c.loop-index.count c.if-mask-index-eq0.rank c.loop-index-test.true c.loop-index.invariant.count w.if-mask-index-eq0.false w.rank-is
    ] in
    let count : length cells ≡ count_by flag_set mask = c.as_chunks.ensures.front_len ∙ ap (λ m. m / g.row.N) c.requires.cells ∙ mul-div_cancel (count_by flag_set mask) c.requires.wide in
    let below : rank < length cells = omega (arith, step.below, count) in
    let item : c.index-cells-rank.result ≡ get_or cells rank [] = c.index-cells-rank.is ∙ get_or_default cells rank c.index-cells-rank.result [] below in
    record {
      cells = spread_more cells mask n rank c.loop-index.spread.items c.push_cell.new.bytes.items c.index-cells-rank.result c.loop-index.invariant.cells step.rank item c.push_cell.ensures.items;
      count = step.count;
      len = omega (arith, c.push_cell.ensures.len, c.loop-index.invariant.len);
      room = c.push_cell.ensures.capacity ∙ c.loop-index.invariant.room;
    }

pub push_cell-requires : goal.push_cell-requires
push_cell-requires g c =
    let mask = c.args.mask.now in
    let n = c.loop-index.index in
    let ends = cell_ends g.row.N n (length mask) (length mask * g.row.N) c.loop-index-test.true refl in
    omega (arith, c.loop-index.invariant.len, c.loop-index.invariant.room, ends)

pub returns : goal.returns
returns g c =
    let mask = c.args.mask.now in
    let cells = c.as_chunks.result.0.now in
    let done : c.loop-index.index ≡ length mask = omega arith in
    let all = c.loop-index.invariant.cells ∙ ap (λ n. flat_map (λ x. x) (map (λ r. get_or cells r []) (ranks_set mask n))) done in
    spread_is c.args.bytes.now mask c.loop-index.spread.items g.row.N cells c.requires.wide c.requires.some c.requires.cells c.as_chunks.ensures.front all
