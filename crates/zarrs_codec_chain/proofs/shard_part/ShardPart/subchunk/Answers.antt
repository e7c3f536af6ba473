use Rattle.std.proofs.Common.{◌∙◌, ◌+◌, ◌-◌, ◌<◌, ◌≤◌, Some, ap, arith, drop, length, sym}
use Rattle.zarrs_codec_chain.specs.OpenShards.{read_of}
use Rattle.zarrs_codec_chain.proofs.OpenShards.{few_bytes, opened}
use Rattle.std.proofs.lemmas.List.{length-drop, length-take-le}
use Rattle.zarrs_codec_chain.specs.Stored.{bytes_of}
use Rattle.zarrs_codec_chain.proofs.ReadSteps.{in_places}
use Rattle.zarrs_codec_chain.proofs.shard_part.ShardPart.subchunk.Goals as goal

pub part-requires-clause-order : goal.part-requires-clause-order
part-requires-clause-order g c = c.in_ok-range.ensures.within.0

pub part-requires-clause-within : goal.part-requires-clause-within
part-requires-clause-within g c = c.in_ok-range.ensures.within.1

pub returns-clause-bytes : goal.returns-clause-bytes
returns-clause-bytes g c = c.in_ok-range.ensures.part ∙ ap Some (sym c.part.ensures.bytes)

pub returns-clause-may_read : goal.returns-clause-may_read
returns-clause-may_read g c = λ meets place below.
    let self = c.args.self.now in
    let r = read_of self in
    let is = opened self in
    let range = c.in_ok-range.range in
    let enc = bytes_of self.stored in
    let within = c.in_ok-range.ensures.within in
    let order : range.start ≤ range.end = within.0 in
    let end : range.end ≤ length enc = within.1 in
    let width = length-take-le (range.end - range.start) (drop range.start enc) (omega (arith, length-drop range.start enc)) in
    let last : range.start + place < range.end = omega (arith, ap length c.part.ensures.bytes, width) in
    c.part.ensures.may_read place
    ∙ self.may_read (range.start + place) (in_places r is c.args.number range (range.start + place) c.requires meets c.in_ok-range.ensures.entry within (few_bytes self.stored) (omega arith) last)
