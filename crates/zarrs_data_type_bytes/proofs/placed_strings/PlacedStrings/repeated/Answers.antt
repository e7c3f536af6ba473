use Rattle.std.proofs.Common.{replicate, ap, ◌∙◌}
use Rattle.zarrs_data_type_bytes.specs.Places.{placed_strings}
use Rattle.zarrs_data_type_bytes.proofs.Placed.{placed-replicate}
use Rattle.zarrs_data_type_bytes.proofs.placed_strings.PlacedStrings.repeated.Goals as goal

pub returns : goal.returns
returns c =
    ap (λ b. placed_strings b c.in_ok-starts.starts c.in_ok-lens.lens) c.in_ok-bytes.ensures.items
    ∙ ap (λ l. placed_strings c.args.string.now l c.in_ok-lens.lens) c.in_ok-starts.ensures
    ∙ ap (λ l. placed_strings c.args.string.now (replicate c.args.count 0) l) c.in_ok-lens.ensures
    ∙ placed-replicate c.args.string.now c.args.count
