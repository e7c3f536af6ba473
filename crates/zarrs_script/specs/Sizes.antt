-- The extents of a chunk.
use Rattle.std.specs.Prelude.{◌≡◌, ◌==◌, ℕ, true, List, Result, Ok, Err, Vec}
use Rattle.std.specs.List.{list_any}
use Rattle.std.specs.declared.alloc.Global.{Global}
use Rattle.std.specs.declared.num.NonZeroU64.{NonZeroU64}
use Rattle.zarrs_metadata_parts.specs.Lists.{sizes_of}
use Rattle.zarrs_script.specs.declared.error.CreationError.{CreationError}
use Rattle.zarrs_script.specs.declared.error.CreationError.TheVariants.{NoGrid, OutOfMemory}

-- the extents, none of them 0, or one of them is 0, or out of memory
abbrev pub HasSizes : List ℕ → Result (Vec NonZeroU64 Global) CreationError → Type 0
HasSizes extents (Ok sizes) = sizes_of sizes.items ≡ extents
HasSizes extents (Err NoGrid) = list_any (λ extent. extent == 0) extents ≡ true
HasSizes extents (Err OutOfMemory) = Unit {0}
