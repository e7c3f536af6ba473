use Rattle.std.proofs.Common.{sym, subst, Option}
use Rattle.zarrs_subset.specs.Regions.{box_of}
use Rattle.zarrs_engine_calls.specs.Refusals.{Refusal, RefusesBy, refusal_of}
use Rattle.zarrs_engine_layout.specs.Layouts.{layout_meaning}
use Rattle.zarrs_engine_layout.proofs.RegionRefusals.{region_accepted, region_cover, region_uncovered}
use Rattle.zarrs_engine_layout.proofs.array_layout.ArrayLayout.chunks_met.Goals as goal

pub returns-in-Ok-Some : goal.returns-in-Ok-Some
returns-in-Ok-Some g c =
    let layout = layout_meaning c.args.self.now in
    let shape = g.G.ChunkGridTraits.array_extents c.args.self.now.grid in
    let region = c.args.region.now in
    let chunks = c.in-Ok-Some.chunks in
    let e = c.in-Ok-Some.ensures in
    let value = rw c.in-Ok-Some.field-0-is at e.value in
    let is_met = rw c.in-Ok-Some.field-0-is at e.some in
    let cover = region_cover layout c.args.self.now.lawful shape (box_of region) (region.same_length) (box_of chunks) (chunks.same_length) e.long is_met in
    record {
      answer = record { chunks = value; cover = cover };
      accepted = region_accepted layout c.args.self.now.lawful shape (box_of region) (region.same_length) (box_of chunks) (chunks.same_length) e.long is_met;
      refused = tt;
    }

pub returns-in-Ok-None : goal.returns-in-Ok-None
returns-in-Ok-None g c =
    let layout = layout_meaning c.args.self.now in
    let shape = g.G.ChunkGridTraits.array_extents c.args.self.now.grid in
    let region = c.args.region.now in
    let e = c.in-Ok-None.ensures in
    let uncovered = rw c.in-Ok-None.field-0-is at e.none in
    let said = region_uncovered layout c.args.self.now.lawful shape (box_of region) (region.same_length) e.long uncovered in
    let why = subst (λ (first : Option Refusal). RefusesBy first (refusal_of c.invalid_region.result)) (sym said) c.invalid_region.ensures in
    record { answer = tt; accepted = tt; refused = why }
