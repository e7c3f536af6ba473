use Rattle.zarrs_metadata_parts.specs.Lists.{sizes_of}
use Rattle.zarrs_chunk_grid.proofs.SizesLemmas.{last_found}
use Rattle.zarrs_chunk_grid.proofs.dimension.SizeList.end.Goals as goal

pub returns-in-Some : goal.returns-in-Some
returns-in-Some c =
    let list = c.args.self.now in
    last_found (sizes_of list.sizes.items) list.ends.items c.in-Some.end.now list.summed (rw c.deref.ensures.value at c.in-Some.ensures.value)
