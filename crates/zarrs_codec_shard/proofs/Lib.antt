mod Blanks
pub mod Compaction
mod CopiedCells
pub mod Cuts
pub mod Encoding
pub mod FixedCells
pub mod Filling
pub mod Grids
mod Meetings
pub mod Missing
pub mod PartialBytes
pub mod PartialCells
pub mod Patching
mod Packed
mod PlaneRows
mod PushedCells
mod RowBlocks
mod Rewriting
pub mod ShardBytes
pub mod ShardLaws
mod ShardReading
mod ShardWriting
pub mod Sizes
pub mod SubchunkBoxes
mod SubchunkCells
mod UnmetRuns
