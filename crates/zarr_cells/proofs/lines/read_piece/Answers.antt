use Rattle.std.proofs.Common.{◌≡◌, ◌++◌, eqb, length, MatchBool, sym, ap, ◌∙◌, subst}
use Rattle.std.specs.Prelude.{IfSome}
use Rattle.std.specs.Io.BufRead.{take_through}
use Rattle.zarr_cells.specs.Lines.{trim_front, PassesBlanks, ReadsToken}
use Rattle.zarr_cells.proofs.BlankLemmas.{piece_read}
use Rattle.zarr_cells.proofs.lines.read_piece.Goals as goal

pub returns : goal.returns
returns g c =
    let old = g.R.Read.remaining c.args.input.now in
    let new = g.R.Read.remaining c.read_until.new.self in
    let token = c.read_until.new.buf.items in
    let ending = c.args.ending in
    let read = c.in_ok-count.ensures in
    let took = subst (λ l. IfSome old (λ xs. token ≡ l ++ take_through ending xs)) c.clear.ensures.items read.bytes in
    let blank = c.is_blank.ensures ∙ ap (λ l. eqb (length (trim_front l)) 0) c.deref.ensures.value in
    subst (λ first. MatchBool c.is_blank.result (PassesBlanks first old new) (ReadsToken first ending old new token)) (sym c.if-not-is_first.false)
    (piece_read ending old new token c.is_blank.result took read.rest blank)
