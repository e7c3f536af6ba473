use Rattle.std.proofs.Common.{◌≡◌, map, length}
use Rattle.std.specs.Vec.Iter.{into_iter_items, into_iter_len}
use Rattle.zarrs_creation.specs.Writing.{put_view}
use Rattle.zarrs.specs.Arrays.{store_of_array, KeepsArray}
use Rattle.zarrs.proofs.Puts.{Putting}
use Rattle.zarrs.proofs.array.Array.put_all.Given as goal

-- what is left is still to be put
abbrev pub invariant-loop-put : goal.invariant-loop-put
invariant-loop-put g l =
    Putting (map put_view l.fn.puts.items) (map put_view (into_iter_items l.put-iterator)) (store_of_array g.TStorage.ReadableStorageTraits.state l.fn.self) (store_of_array g.TStorage.ReadableStorageTraits.state l.self)
    × KeepsArray l.fn.self l.self
    × (into_iter_len l.put-iterator ≡ length (into_iter_items l.put-iterator))
