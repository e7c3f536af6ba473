use Rattle.std.proofs.Common.{ℕ, List, map, subst}
use Rattle.std.proofs.lemmas.Result.{IfOk-weaker}
use Rattle.zarrs_metadata.specs.Versions.{metadata_view}
use Rattle.zarrs_creation.specs.Writing.{put_view, IsWrittenBy}
use Rattle.zarrs.proofs.array.Array.shown_puts.Goals as goal

pub returns-clause-shown : goal.returns-clause-shown
returns-clause-shown g c =
    let shows = metadata_view c.in-Ok.metadata in
    IfOk-weaker c.puts_of_metadata.result _ _
    (λ puts written. record {
      shows = shows;
      is_shown = c.in-Ok.ensures.shown;
      written = subst (λ (p : List ℕ). IsWrittenBy p shows (map put_view puts.items)) c.path.ensures written;
    })
    c.puts_of_metadata.ensures.written
