use Rattle.std.proofs.Common.{◌/◌, length, refl, sym, ◌∙◌}
use Rattle.std.proofs.lemmas.Slice.Eq.{bytes_eq-Decides}
use Rattle.zarrs_data_type_bytes.proofs.Periods.{behind_tests, first_tests, some_whole}
use Rattle.zarrs_data_type_bytes.proofs.array_bytes.fill.is_repeated.Goals as goal

pub returns-then-eq : goal.returns-then-eq
returns-then-eq c =
    behind_tests c.args.piece.now c.args.bytes.now (length c.args.bytes.now / length c.args.piece.now) _ _
    (some_whole _ _ c.if-whole-eq0.false) refl
    ((bytes_eq-Decides _ _).0 (sym c.eq.ensures ∙ c.if-eq.true)) c.eq-then-eq.ensures

pub returns-else-eq : goal.returns-else-eq
returns-else-eq c =
    first_tests c.args.piece.now c.args.bytes.now (length c.args.bytes.now / length c.args.piece.now) _
    (some_whole _ _ c.if-whole-eq0.false) c.eq.ensures c.if-eq.false
