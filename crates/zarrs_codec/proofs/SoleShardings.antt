-- Chains that are `sharding_indexed` alone make shards.
use Rattle.std.proofs.Common.{Some, refl}
use Rattle.zarrs_codec.specs.ChainLaws.{same_cells}
use Rattle.zarrs_codec.specs.Configurations.{sharding, meaning_of_bytes_codec}
use Rattle.zarrs_codec.specs.SoleShardings.{SoleShardingsMakeShards}

pub sole_shardings : SoleShardingsMakeShards
sole_shardings chunk_shape at_start front last = record {
  encoded = λ k f s cs. refl;
  decoded = λ k f s b. same_cells (meaning_of_bytes_codec (sharding chunk_shape at_start front last)) k f s (Some b);
  compacted = λ s b. refl;
}
