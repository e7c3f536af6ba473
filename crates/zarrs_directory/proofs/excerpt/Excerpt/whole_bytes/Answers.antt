use Rattle.std.proofs.Common.{rules}
use Rattle.zarrs_directory.proofs.ExcerptLemmas.{all_read}
use Rattle.zarrs_directory.proofs.excerpt.Excerpt.whole_bytes.Goals as goal

pub returns : goal.returns
returns c =
    let held = c.args.self.now in
    let same = all_read held c.requires.read in
    search (rules, same)
