use Rattle.std.proofs.Common.{subst}
use Rattle.zarrs_subset.specs.Regions.{Box, positions}
use Rattle.zarrs.specs.Arrays.{layout_of_array, store_of_array}
use Rattle.zarrs.specs.Outcomes.{ComparesChunks}
use Rattle.zarrs.proofs.array.Array.chunks_equal.Goals as goal

pub returns : goal.returns
returns g c =
    let a = c.args.self.now in
    let b = c.args.other.now in
    let one = store_of_array g.TStorage.ReadableStorageTraits.state a in
    let two = store_of_array g.TStorage2.ReadableStorageTraits.state b in
    let compared = c.chunks_equal in
    subst (λ (r : Box). ComparesChunks (layout_of_array a) (layout_of_array b) one two (positions r) compared.result) c.in_ok-chunks.ensures (record {
      equal = compared.ensures.equal;
      different = compared.ensures.different;
      content = compared.ensures.content;
      asked = compared.ensures.asked;
      counted = compared.ensures.counted;
      refused = compared.ensures.refused;
    })
