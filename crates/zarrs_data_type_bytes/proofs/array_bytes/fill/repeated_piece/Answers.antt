use Rattle.std.proofs.Common.{◌+◌, ◌≤◌, length, refl, ap, ◌∙◌, arith}
use Rattle.std.proofs.Math.Nat.{mul-le-mul_right}
use Rattle.zarrs_data_type_bytes.proofs.Pieces.{length-repeat, repeat_upto}
use Rattle.zarrs_data_type_bytes.proofs.array_bytes.fill.repeated_piece.Goals as goal

pub extend_from_within-requires-clause-in_bounds : goal.extend_from_within-requires-clause-in_bounds
extend_from_within-requires-clause-in_bounds c =
    let few : c.min-more.result ≤ c.loop-pieces.pieces = omega (arith, c.min.ensures, c.min-more.ensures) in
    let fits = mul-le-mul_right {m = c.min-more.result} {n = c.loop-pieces.pieces} (length c.args.piece.now) few in
    let long = ap length c.loop-pieces.invariant.0 ∙ length-repeat c.args.piece.now c.loop-pieces.pieces in
    omega (arith, fits, long, c.loop-pieces.bytes.ok.0)

pub loop-pieces-preserved : goal.loop-pieces-preserved
loop-pieces-preserved c = (
  repeat_upto c.args.piece.now _ _ c.loop-pieces.pieces c.min-more.result _ (c.loop-pieces.pieces + c.min-more.result) c.loop-pieces.invariant.0
      c.in_ok-extend_from_within.ensures.items refl (omega (arith, c.min.ensures, c.min-more.ensures)) refl,
  omega (arith, c.loop-pieces.invariant.1),
  omega (arith, c.min-more.ensures, c.loop-pieces-test.true),
)
