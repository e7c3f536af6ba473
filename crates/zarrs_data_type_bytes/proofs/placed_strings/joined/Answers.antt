use Rattle.std.proofs.Common.{◌≡◌, ◌+◌, ◌<◌, ◌≤◌, ◌++◌, length, ap, ◌∙◌, arith}
use Rattle.std.specs.Prelude.{slice_range}
use Rattle.std.proofs.lemmas.List.{take_all}
use Rattle.zarrs_data_type_bytes.specs.Offsets.{joined}
use Rattle.zarrs_data_type_bytes.specs.Places.{placed_strings}
use Rattle.zarrs_data_type_bytes.proofs.Joins.{run_longer, run_new}
use Rattle.zarrs_data_type_bytes.proofs.Placed.{length_placed}
use Rattle.zarrs_data_type_bytes.proofs.placed_strings.joined.Goals as goal
use Rattle.zarrs_data_type_bytes.proofs.placed_strings.joined.Goals.{then-start-to+in_ok-extend_from_slice, else-start-to}

pub loop-index-preserved : goal.loop-index-preserved
loop-index-preserved c =
    let bytes = c.args.bytes.now in
    let starts = c.args.starts.now in
    let lens = c.args.lens.now in
    let i = c.loop-index.index in
    let start = c.get-start.result in
    let len = c.get.result in
    let old = c.loop-index.invariant in
    let below : i < length starts = omega (arith, c.len-index-end.ensures) in
    let inside = c.requires.within i below in
    let within : start + len ≤ length bytes = omega (arith, c.get-start.ensures, c.get.ensures) in
    elim c.if-start-to.branch [
      | then-start-to+in_ok-extend_from_slice w ↦
          let items : c.if-start-to.made.items ≡ w.extend_from_slice.new.self.items = cc in
          record {
            ordered = omega (arith, w.from-is);
            within = within;
            joined = ap (λ m. m ++ slice_range bytes c.if-start-to.from (start + len)) items
                ∙ ap (λ f. w.extend_from_slice.new.self.items ++ slice_range bytes f (start + len)) w.from-is
                ∙ run_new bytes starts lens i c.loop-index.from c.loop-index.to start len c.loop-index.made.items below c.get-start.ensures c.get.ensures old.joined
                w.extend_from_slice.new.self.items w.in_ok-extend_from_slice.ensures.items;
          }
      | else-start-to w ↦
          let items : c.if-start-to.made.items ≡ c.loop-index.made.items = cc in
          record {
            ordered = omega (arith, w.from-is, old.ordered, w.if-start-to.false);
            within = within;
            joined = ap (λ m. m ++ slice_range bytes c.if-start-to.from (start + len)) items
                ∙ ap (λ f. c.loop-index.made.items ++ slice_range bytes f (start + len)) w.from-is
                ∙ run_longer bytes starts lens i c.loop-index.from c.loop-index.to start len c.loop-index.made.items below c.get-start.ensures c.get.ensures old.joined
                old.ordered w.if-start-to.false;
          }
    ]

pub returns : goal.returns
returns c =
    let strings = placed_strings c.args.bytes.now c.args.starts.now c.args.lens.now in
    c.in_ok-extend_from_slice-2.ensures.items
    ∙ c.loop-index.invariant.joined
    ∙ ap joined (take_all c.loop-index.index strings (omega (arith, length_placed c.args.bytes.now c.args.starts.now c.args.lens.now, c.len-index-end.ensures)))
