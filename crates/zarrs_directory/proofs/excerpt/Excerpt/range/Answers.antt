use Rattle.std.proofs.Common.{rules, ◌+◌, ◌-◌, arith}
use Rattle.zarrs_directory.proofs.ExcerptLemmas.{range_read, read_below}
use Rattle.zarrs_directory.proofs.excerpt.Excerpt.range.Goals as goal

pub returns-clause-ok : goal.returns-clause-ok
returns-clause-ok c =
    let held = c.args.self.now in
    let first = read_below held c.args.offset (search rules) (c.requires.read c.args.offset (omega arith) (search rules)) in
    let last = read_below held (c.args.offset + c.args.count - 1) (search rules) (c.requires.read (c.args.offset + c.args.count - 1) (search rules) (search rules)) in
    let same = range_read held c.args.offset c.args.count first.0 (search (rules, last)) in
    search (rules, c.in_ok-slice.ensures.ok, same)
