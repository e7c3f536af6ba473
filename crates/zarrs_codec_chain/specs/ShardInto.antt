-- What a shard leaves in a target, subchunk by subchunk.
use Rattle.std.specs.Prelude.{◌≡◌, ℕ, Option, None, Some, List}
use Rattle.zarrs_data_type.specs.ArrayData.{ArrayData}
use Rattle.zarrs_data_type.specs.Cells.{cell_at}
use Rattle.zarrs_subset.specs.Regions.{Box, Holds, place_in}
use Rattle.zarrs_data_type.specs.Cell.{Cell}
use Rattle.zarrs_data_type.specs.Kind.{Kind}
use Rattle.zarrs_codec_chain.specs.Parts.{DecodesInto}

-- data over `box` has the cells of a subchunk's part at the positions of `other`: an absent one is all fill
abbrev pub DecodesPartInto : Kind → (List ℕ → Option (List Cell)) → (fill : Cell) → (box other : Box) → Option (List ℕ) → ArrayData → Type 0
DecodesPartInto k decoded fill box other None held = (position : List ℕ) → Holds other position → cell_at k held (place_in box position) ≡ fill
DecodesPartInto k decoded fill box other (Some encoded) held = DecodesInto k box other (decoded encoded) held
