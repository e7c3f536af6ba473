use Rattle.std.proofs.Common.{◌∙◌, ◌-◌, List, ℕ, ap, subst, sym}
use Rattle.std.specs.Prelude.{IfOk}
use Rattle.zarrs_codec_chain.specs.OpenShards.{read_of}
use Rattle.zarrs_codec_chain.proofs.OpenShards.{opened}
use Rattle.zarrs_subset.specs.Regions.{LiesInShape, box_of}
use Rattle.zarrs_codec_shard.specs.Subchunks.{is_cut_by}
use Rattle.zarrs_codec_chain.specs.ShardParts.{HasOnlyMet}
use Rattle.zarrs_codec_chain.proofs.shard_part.ShardPart.met.Goals as goal

pub met_subchunks-requires-clause-cut : goal.met_subchunks-requires-clause-cut
met_subchunks-requires-clause-cut g c =
    ap (λ (s : List ℕ). is_cut_by s c.shape.result.now) c.chunk_shape.ensures ∙ ap (is_cut_by (read_of c.args.self.now).shape) c.shape.ensures ∙ (opened c.args.self.now).cut

pub met_subchunks-requires-clause-part : goal.met_subchunks-requires-clause-part
met_subchunks-requires-clause-part g c = subst (LiesInShape (box_of c.args.self.now.part.now)) (sym c.chunk_shape.ensures) c.args.self.now.lies

pub returns-clause-only : goal.returns-clause-only
returns-clause-only g c =
    let part = box_of c.args.self.now.part.now in
    subst (λ (sub : List ℕ). IfOk c.met_subchunks.result (λ met. HasOnlyMet sub part (box_of met))) c.shape.ensures c.met_subchunks.ensures.only
