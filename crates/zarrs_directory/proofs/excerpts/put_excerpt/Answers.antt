use Rattle.std.specs.Prelude.{None, Some}
use Rattle.std.proofs.Common.{rules, refl}
use Rattle.zarrs_directory.proofs.ExcerptLemmas.{others_updated}
use Rattle.zarrs_directory.proofs.excerpts.put_excerpt.Goals as goal

pub returns-in_ok-insert-in-Some-clause-others : goal.returns-in_ok-insert-in-Some-clause-others
returns-in_ok-insert-in-Some-clause-others c =
    others_updated c.args.found.now c.insert.new.self c.args.key.now c.in_ok-key-in-Some.key (Some c.in-Some.excerpt)
    (search (rules, c.in_ok-insert-in-Some.ensures.updates)) c.in_ok-key-in-Some.ensures.cases

pub returns-in-None-clause-others : goal.returns-in-None-clause-others
returns-in-None-clause-others c = others_updated c.args.found.now c.remove.new.self c.args.key.now c.args.key.now None c.remove.ensures.updates refl
