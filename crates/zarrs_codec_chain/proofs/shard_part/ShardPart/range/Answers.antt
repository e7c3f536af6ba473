use Rattle.std.proofs.Common.{◌≡◌, ◌∙◌, ◌-◌, List, ℕ, Some, None, ap, arith, length, sym}
use Rattle.zarrs_codec_chain.specs.OpenShards.{read_of}
use Rattle.zarrs_codec_chain.proofs.OpenShards.{data_within, named_here, opened, range_wider}
use Rattle.std.specs.Prelude.{slice_index_or}
use Rattle.zarrs_codec_shard.specs.ShardIndex.{range_part}
use Rattle.zarrs_data_type_bytes.proofs.FixedSizes.{some_is}
use Rattle.zarrs_subset.specs.Pieces.{piece_at}
use Rattle.zarrs_codec_chain.specs.ShardReads.{count_of, parts_of}
use Rattle.zarrs_codec_chain.specs.Stored.{bytes_of}
use Rattle.zarrs_codec_chain.proofs.ReadSteps.{count_fits}
use Rattle.zarrs_codec_chain.proofs.ShardOpening.{length-index_in}
use Rattle.zarrs_codec_chain.proofs.shard_part.ShardPart.range.Goals as goal

pub range_at-requires : goal.range_at-requires
range_at-requires g c =
    let self = c.args.self.now in
    let r = read_of self in
    let is = opened self in
    omega (arith, ap length (c.as_slice-index.ensures ∙ self.index_is), length-index_in self.at_start (count_of r) (bytes_of self.stored) (count_fits r is), c.requires)

pub unreachable-requires : goal.unreachable-requires
unreachable-requires g c =
    let self = c.args.self.now in
    let r = read_of self in
    let no : None ≡ Some (slice_index_or (parts_of r) c.args.number None) = named_here self c.args.number c.as_slice-index.result.now None c.as_slice-index.ensures c.requires (c.in_default.ensures.part (bytes_of self.stored)) in
    cc

pub returns-clause-part : goal.returns-clause-part
returns-clause-part g c =
    let self = c.args.self.now in
    sym (some_is (named_here self c.args.number c.as_slice-index.result.now (Some (range_part (bytes_of self.stored) c.in-Some.range)) c.as_slice-index.ensures c.requires (c.in-Some.ensures.part (bytes_of self.stored))))

pub returns-clause-within : goal.returns-clause-within
returns-clause-within g c =
    let self = c.args.self.now in
    let r = read_of self in
    let len = length (bytes_of self.stored) in
    range_wider self.end len c.in-Some.range (omega (arith, self.end_is, data_within self.at_start (count_of r) len)) c.in-Some.ensures.within

pub returns-clause-entry : goal.returns-clause-entry
returns-clause-entry g c =
    let self = c.args.self.now in
    ap (λ (l : List ℕ). piece_at 16 l c.args.number) (sym (c.as_slice-index.ensures ∙ self.index_is)) ∙ c.in-Some.ensures.entry
