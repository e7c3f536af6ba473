use Rattle.std.proofs.Common.{◌≡◌, [], sym, ◌∙◌, length, rules, arith}
use Rattle.std.proofs.lemmas.Grind.{common_steps}
use Rattle.std.proofs.lemmas.Result.{IfOk-weaker}
use Rattle.zarrs_data_type_bytes.proofs.Pieces.{repeat_none, repeat_same}
use Rattle.zarrs_data_type_bytes.proofs.array_bytes.fill.repeated.Goals as goal

pub returns-then-is_empty : goal.returns-then-is_empty
returns-then-is_empty c =
    let none : length c.args.piece.now ≡ 0 = first_of (search rules, grind (arith, common_steps)) in
    let made : c.new.result.items ≡ [] = c.new.ensures.items in
    repeat_none c.args.piece.now c.args.count c.new.result.items none made

pub returns-then-are_all : goal.returns-then-are_all
returns-then-are_all c =
    IfOk-weaker c.repeated_byte.result _ _
    (λ bytes is. is ∙ repeat_same _ c.args.piece.now c.args.count (sym c.are_all.ensures ∙ c.if-are_all.true))
    c.repeated_byte.ensures
