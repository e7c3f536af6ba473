use Rattle.std.proofs.Common.{◌≡◌, true, false}
use Rattle.std.specs.Fmt.{decimal}
use Rattle.std.specs.Str.{bytes_eq}
use Rattle.zarrs_data_type_kinds.proofs.TypeNames.{number_said-none, number_said-same, number_said-other}
use Rattle.zarrs_data_type_kinds.proofs.metadata.number_said.Goals as goal

pub returns-in_default : goal.returns-in_default
returns-in_default c = number_said-none c.args.text.now c.parse.result c.in_default.field-0 c.parse.ensures.value.0 c.in_default.is

pub returns-then-eq : goal.returns-then-eq
returns-then-eq c =
    let test : bytes_eq (decimal c.in-Ok.number) c.args.text.now ≡ true = cc in
    number_said-same c.in-Ok.number c.args.text.now c.parse.result c.parse.ensures.value.0 c.in-Ok.is test

pub returns-else-eq : goal.returns-else-eq
returns-else-eq c =
    let test : bytes_eq (decimal c.in-Ok.number) c.args.text.now ≡ false = cc in
    number_said-other c.in-Ok.number c.args.text.now c.parse.result c.parse.ensures.value.0 c.in-Ok.is test
