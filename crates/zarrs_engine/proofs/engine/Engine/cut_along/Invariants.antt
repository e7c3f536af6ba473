use Rattle.std.proofs.Common.{◌≡◌, ◌-◌, length}
use Rattle.zarrs_subset.specs.Regions.{box_at_origin, positions}
use Rattle.zarrs_codec_chain.specs.Options.{stores_empty_chunks}
use Rattle.zarrs_engine_layout.specs.CutWalks.{walk_number}
use Rattle.zarrs_engine.specs.Engine.{layout_of, state_of, store_of}
use Rattle.zarrs_engine.proofs.Cuts.{HasCutTo}
use Rattle.zarrs_engine.proofs.engine.Engine.cut_along.Given as goal

abbrev pub invariant-loop-walk : goal.invariant-loop-walk
invariant-loop-walk g l = record {
  cut : HasCutTo (layout_of l.fn.self) (stores_empty_chunks l.options) l.shape ((layout_of l.fn.self).grid.counts (state_of g.S.ReadableStorageTraits.state l.fn.self).shape) l.walk (store_of g.S.ReadableStorageTraits.state l.fn.self) (store_of g.S.ReadableStorageTraits.state l.self);
  layout_kept : l.self.layout ≡ l.fn.self.layout;
}

abbrev pub decreases-loop-walk : goal.decreases-loop-walk
decreases-loop-walk g l = length (positions (box_at_origin ((layout_of l.fn.self).grid.counts (state_of g.S.ReadableStorageTraits.state l.fn.self).shape))) - walk_number l.walk
