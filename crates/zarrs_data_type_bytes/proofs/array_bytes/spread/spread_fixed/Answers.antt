use Rattle.std.proofs.Common.{◌≡◌, ◌<◌, sym, subst, ◌∙◌, length}
use Rattle.std.specs.Prelude.{All, count_by}
use Rattle.std.proofs.lemmas.Result.{IfOk-weaker}
use Rattle.zarrs_data_type_bytes.specs.Present.{TakesPieces, flag_set, ranks_set}
use Rattle.zarrs_data_type_bytes.proofs.Presence.{ranks_within}
use Rattle.zarrs_data_type_bytes.proofs.array_bytes.spread.spread_fixed.Goals as goal

pub select_fixed-requires : goal.select_fixed-requires
select_fixed-requires c =
    let mask = c.args.mask.now in
    let ranks : c.as_slice.result.now ≡ ranks_set mask (length mask) = c.as_slice.ensures.value ∙ c.in_ok-ranks-in_default.ensures in
    (count_by flag_set mask, c.requires.cells, subst (λ l. All (λ p. p < count_by flag_set mask) l) (sym ranks) (ranks_within mask c.requires.some))

pub returns-in_ok-ranks-in_default : goal.returns-in_ok-ranks-in_default
returns-in_ok-ranks-in_default c =
    let mask = c.args.mask.now in
    let ranks : c.as_slice.result.now ≡ ranks_set mask (length mask) = c.as_slice.ensures.value ∙ c.in_ok-ranks-in_default.ensures in
    IfOk-weaker c.select_fixed.result _ _
    (λ selected taken. subst (λ l. TakesPieces c.args.size l c.args.cells.now selected.items) ranks taken)
    c.select_fixed.ensures
