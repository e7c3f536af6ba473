use Rattle.std.proofs.Common.{◌≡◌, ℕ, true, take, eqb}
use Rattle.std.specs.BTreeSet.{contains}
use Rattle.std.specs.List.{list_any}
use Rattle.std.specs.Ordering.{nat_cmp}
use Rattle.zarrs_codec_array.specs.Extents.{are_distinct}
use Rattle.zarrs_codec_array.proofs.reshape.are_distinct.Given as goal

abbrev pub invariant-loop-number : goal.invariant-loop-number
invariant-loop-number l = record {
  distinct : are_distinct (take l.number-index l.numbers) ≡ true;
  held : (q : ℕ) → contains nat_cmp l.seen q ≡ list_any (eqb q) (take l.number-index l.numbers);
}
