use Rattle.zarrs_data_type.specs.ArrayData.{data_of}
use Rattle.zarrs_data_type.specs.RegionData.{region_data}
use Rattle.zarrs_subset.specs.Regions.{box_of}
use Rattle.zarrs_engine.specs.Engine.{layout_of}
use Rattle.zarrs_engine.specs.RegionReads.{IsShare, ReadsOneMore}
use Rattle.zarrs_data_type.specs.ArrayData.{ArrayData}
use Rattle.zarrs_engine.proofs.engine.Engine.with_chunk.Goals as goal

pub returns-in_default : goal.returns-in_default
returns-in_default g c =
    let layout = layout_of c.args.self.now in
    let state = g.S.ReadableStorageTraits.state c.args.self.now.storage in
    let region = box_of c.args.region.now in
    let index = c.args.chunk_indices.now in
    let none : (held : ArrayData) → ReadsOneMore layout region index state held held = rw c.in_default.is at c.in_ok-part.ensures.none in
    record { read = none (region_data c.args.held); refused = tt }

pub with_part-requires-clause-dimensions : goal.with_part-requires-clause-dimensions
with_part-requires-clause-dimensions g c =
    let layout = layout_of c.args.self.now in
    let state = g.S.ReadableStorageTraits.state c.args.self.now.storage in
    let region = box_of c.args.region.now in
    let index = c.args.chunk_indices.now in
    let is : IsShare layout region index state (box_of c.shared_cells.new.share.own) (data_of c.in-Some.part) = rw c.in-Some.is at c.in_ok-part.ensures.some in
    is.dimensions

pub with_part-requires-clause-part : goal.with_part-requires-clause-part
with_part-requires-clause-part g c =
    let layout = layout_of c.args.self.now in
    let state = g.S.ReadableStorageTraits.state c.args.self.now.storage in
    let region = box_of c.args.region.now in
    let index = c.args.chunk_indices.now in
    let is : IsShare layout region index state (box_of c.shared_cells.new.share.own) (data_of c.in-Some.part) = rw c.in-Some.is at c.in_ok-part.ensures.some in
    is.has

pub returns : goal.returns
returns g c =
    let layout = layout_of c.args.self.now in
    let state = g.S.ReadableStorageTraits.state c.args.self.now.storage in
    let region = box_of c.args.region.now in
    let index = c.args.chunk_indices.now in
    let is : IsShare layout region index state (box_of c.shared_cells.new.share.own) (data_of c.in-Some.part) = rw c.in-Some.is at c.in_ok-part.ensures.some in
    record { read = is.reads (region_data c.args.held) (region_data c.in_ok-made.made) c.in_ok-made.ensures; refused = tt }
