use Rattle.std.proofs.Common.{rules, ◌≡◌, sym, ◌∙◌, true, false}
use Rattle.std.proofs.lemmas.Bool.{false≢true}
use Rattle.std.specs.Prelude.{None}
use Rattle.zarrs_directory.proofs.ExcerptLemmas.{read_one}
use Rattle.zarrs_directory.specs.Directory.{has_key}
use Rattle.zarrs_directory.proofs.excerpts.Excerpts.read.Goals as goal
use Rattle.zarrs_directory.proofs.excerpts.Excerpts.read.Goals.{then-contains, else-contains}

pub returns-clause-read : goal.returns-clause-read
returns-clause-read g c =
    let read = has_key c.args.self.now.read c.args.key.now in
    let asked = c.if-contains.wanted in
    let first : read ≡ false → asked ≡ c.args.wanted =
    elim c.if-contains.branch [
      | then-contains w ↦ λ unread. absurd (false≢true (sym unread ∙ search (rules, w.if-contains)))
      | else-contains w ↦ λ unread. w.wanted-is
    ] in
    let again : read ≡ true → asked ≡ None =
    elim c.if-contains.branch [
      | then-contains w ↦ λ noted. w.wanted-is
      | else-contains w ↦ λ noted. absurd (false≢true (sym (search (rules, w.if-contains)) ∙ noted))
    ] in
    read_one c.args.self.now (record { directory = c.args.self.now.directory; found = c.put_excerpt.new.found; read = c.note.new.read }) c.args.key.now c.args.wanted asked c.in_ok-excerpt.excerpt first again c.in_ok-excerpt.ensures.found
    c.in_ok-put_excerpt.ensures.here c.in_ok-put_excerpt.ensures.others c.in_ok-note.ensures.noted c.in_ok-note.ensures.keys
