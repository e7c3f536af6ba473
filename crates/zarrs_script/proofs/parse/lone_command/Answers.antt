use Rattle.std.proofs.Common.{◌==◌}
use Rattle.std.specs.List.{slice_split}
use Rattle.zarrs_script.specs.Parsed.{order_of_command}
use Rattle.zarrs_script.proofs.Split.{some_piece}
use Rattle.zarrs_script.proofs.Lists.{not_alone}
use Rattle.zarrs_script.proofs.parse.lone_command.Goals as goal

pub returns-in-Some : goal.returns-in-Some
returns-in-Some c =
    let text = c.in-Some.field-0.now in
    rw c.in-Some.is (not_alone (order_of_command c.args.command) (slice_split (λ b. b == 32) text) (some_piece (λ b. b == 32) text))
