use Rattle.std.proofs.Common.{◌≡◌, ◌∙◌, ◌-◌, ◌≤◌, ◌^◌, List, ℕ, ap, arith, subst, sym}
use Rattle.zarrs_codec_chain.specs.OpenShards.{read_of}
use Rattle.zarrs_codec_chain.proofs.OpenShards.{few_subchunks}
use Rattle.zarrs_codec_shard.specs.Subchunks.{quotients}
use Rattle.zarrs_subset.specs.Boxes.{InShape, place}
use Rattle.zarrs_subset.proofs.Kernel.{place_below}
use Rattle.zarrs_codec_chain.proofs.shard_part.ShardPart.number.Goals as goal

pub returns-in_default-clause-none : goal.returns-in_default-clause-none
returns-in_default-clause-none g c =
    let self = c.args.self.now in
    let r = read_of self in
    let i = c.args.indices.now in
    let past = subst (λ (x : List ℕ). InShape x i → 2 ^ 64 ≤ place x i) c.grid.ensures c.in_default.ensures in
    let few = few_subchunks self in
    λ n at.
    let large = past at.in_grid in
    let same = at.at_n in
    let below = at.below in
    omega arith

pub returns-clause-number : goal.returns-clause-number
returns-clause-number g c =
    let self = c.args.self.now in
    let r = read_of self in
    let i = c.args.indices.now in
    let in_grid = subst (λ (x : List ℕ). InShape x i) c.grid.ensures c.in-Some.ensures.0 in
    let at_n : place (quotients r.shape r.sub) i ≡ c.in-Some.number = sym (c.in-Some.ensures.1 ∙ ap (λ (x : List ℕ). place x i) c.grid.ensures) in
    record { in_grid = in_grid; at_n = at_n; below = omega (arith, place_below (quotients r.shape r.sub) i in_grid) }
