use Rattle.std.proofs.Common.{◌≡◌, sym, ap, ◌∙◌}
use Rattle.std.specs.List.{flat_map}
use Rattle.std.proofs.lemmas.List.{map-id}
use Rattle.std.proofs.lemmas.Iterator.{YieldsList-from_chars}
use Rattle.std.proofs.lemmas.Iterator.Consumers.{YieldsList-end}
use Rattle.zarr_cells.specs.Ascii.{ascii_text, escaped}
use Rattle.zarr_cells.proofs.AsciiLemmas.{text_ascii, text_same}
use Rattle.zarr_cells.proofs.ascii.escaped_text.Goals as goal

written : (c : goal.In-None) → c.loop-character.made.items ≡ ascii_text c.args.text.now
written c =
    let all = YieldsList-end (YieldsList-from_chars c.args.text.now c.utf8.text cc) c.loop-character.yielded _ c.loop-character.yielded_by _ _ c.in-None.is c.next.ensures.steps in
    c.loop-character.invariant ∙ ap (flat_map escaped) (sym (map-id c.loop-character.yielded) ∙ all.0)

pub returns-clause-written : goal.returns-clause-written
returns-clause-written c = written c

pub returns-clause-ascii : goal.returns-clause-ascii
returns-clause-ascii c = text_ascii c.args.text.now c.loop-character.made.items (written c)

pub returns-clause-same : goal.returns-clause-same
returns-clause-same c = text_same c.args.text.now c.loop-character.made.items (written c)
