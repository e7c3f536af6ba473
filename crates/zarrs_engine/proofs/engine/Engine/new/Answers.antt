use Rattle.zarrs_data_type.specs.Kind.{kind}
use Rattle.zarrs_engine_calls.proofs.Contents.{lawful_at_parts}
use Rattle.zarrs_engine.proofs.engine.Engine.new.Goals as goal

pub invariant_of-layout-2 : goal.invariant_of-layout-2
invariant_of-layout-2 g c = record {
  lawful =
      lawful_at_parts (g.G.ChunkGridTraits.grid c.args.grid) c.args.path (g.K.ChunkKeyEncodingTraits.key c.args.keys)
      (g.C.ChainTraits.meaning c.args.chain) (kind c.args.data_type) c.args.fill_value
      (g.met.G.ChunkGridTraits.lawful c.args.grid) (g.met.K.ChunkKeyEncodingTraits.lawful c.args.keys) (g.met.C.ChainTraits.lawful c.args.chain) c.requires;
}
