use Rattle.std.proofs.Common.{◌≡◌, ◌+◌, ◌*◌, ◌-◌, ◌<◌, ◌≤◌, ℕ, [], length, get_or, reverse, refl, ap, sym, subst, ◌∙◌, arith}
use Rattle.std.proofs.lemmas.List.{get_or_default}
use borrow.Rule.Slice.PartMut.{put_mid}
use Rattle.zarrs_subset.specs.Pieces.{piece_at}
use Rattle.zarrs_subset.proofs.Kernel.{cell_ends, length_part}
use Rattle.zarrs_codec_chain.proofs.Turns.{joined, put_more}
use Rattle.zarrs_codec_chain.proofs.bytes_into.turn_cells.Goals as goal

pub loop-index-preserved : goal.loop-index-preserved
loop-index-preserved g c =
    let N = g.row.N in
    let i = c.loop-index.index in
    let cells = c.args.cells.now in
    let mid = c.loop-index.target in
    let item : c.index-cells-index.result ≡ get_or cells i [] = c.index-cells-index.is ∙ get_or_default cells i c.index-cells-index.result [] (omega arith) in
    let cell = c.copy_from_slice.new.self in
    let is : cell ≡ reverse (get_or cells i []) = c.copy_from_slice.ensures.after ∙ c.turned.ensures ∙ ap reverse item in
    let width : i * N + N - i * N ≡ N = omega arith in
    let room : i * N + N ≤ length mid = cell_ends N i (length cells) (length mid) (omega arith) (omega arith) in
    subst (λ n. (j : ℕ) → j < i + 1 → piece_at N (put_mid (i * N) n mid cell) j ≡ reverse (get_or cells j [])) (sym width)
    (put_more N (length cells) i (i * N) (λ j. reverse (get_or cells j [])) mid cell (omega arith) (omega arith) refl (c.copy_from_slice.ensures.len ∙ length_part (i * N) N mid room) is c.loop-index.invariant)

pub returns : goal.returns
returns g c = joined reverse g.row.N c.args.cells.now [] c.loop-index.target (omega arith) (λ i lt. c.loop-index.invariant i (omega arith))
