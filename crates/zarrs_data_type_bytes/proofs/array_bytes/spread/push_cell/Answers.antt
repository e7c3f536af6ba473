use Rattle.std.proofs.Common.{◌≡◌, ◌+◌, ◌<◌, ◌∷◌, ◌++◌, [], suc, length, slice_index, take, ap, sym, ◌∙◌, arith, rules}
use Rattle.std.proofs.Math.Seq.{take-suc}
use Rattle.std.proofs.lemmas.List.{append_assoc, append-nil, take_all}
use Rattle.zarrs_data_type_bytes.proofs.array_bytes.spread.push_cell.Goals as goal

pub loop-index-init : goal.loop-index-init
loop-index-init g c = record {
  items = sym (append-nil c.args.bytes.now.items);
  len = omega arith;
  capacity = omega arith;
}

pub loop-index-preserved : goal.loop-index-preserved
loop-index-preserved g c =
    let i = c.loop-index.index in
    let cell = c.args.cell in
    let old = c.args.bytes.now.items in
    let next : i + 1 ≡ suc i = omega arith in
    let len : length cell ≡ g.row.N = search rules in
    let below : i < length cell = omega arith in
    record {
      items = c.push_reserved.ensures.items
          ∙ ap (λ l. l ++ slice_index cell i ∷ []) c.loop-index.invariant.items
          ∙ append_assoc old (take i cell) (slice_index cell i ∷ [])
          ∙ ap (λ l. old ++ l) (sym (take-suc cell i 0 below) ∙ ap (λ n. take n cell) (sym next));
      len = omega (arith, c.push_reserved.ensures.len, c.loop-index.invariant.len);
      capacity = c.push_reserved.ensures.capacity ∙ c.loop-index.invariant.capacity;
    }

pub returns-clause-items : goal.returns-clause-items
returns-clause-items g c =
    let len : length c.args.cell ≡ g.row.N = search rules in
    c.loop-index.invariant.items ∙ ap (λ l. c.args.bytes.now.items ++ l) (take_all c.loop-index.index c.args.cell (omega arith))
