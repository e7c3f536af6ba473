use Rattle.zarrs_data_type.specs.CellTypes.{filling, kind_of}
use Rattle.std.proofs.Common.{◌≡◌, ◌∙◌, length, sym, arith}
use Rattle.std.proofs.lemmas.Bool.{false≢true}
use Rattle.zarrs_subset.specs.Regions.{box_of}
use Rattle.zarrs_codec_chain.specs.Chain.{ChainMeaning}
use Rattle.zarrs_codec_shard.specs.SubchunkData.{chunk_shape, subchunk_shape}
use Rattle.zarrs_codec.specs.Chains.{chain_meaning, inner_chain_of}
use Rattle.zarrs_codec.specs.ShardUpdates.{parts_in}
use Rattle.zarrs_codec.proofs.Patches.{all_passed, passed_more}
use Rattle.zarrs_codec.proofs.sharding.ShardingCodec.test_met.Goals as goal

pub returns-clause-decode : goal.returns-clause-decode
returns-clause-decode c =
    let u = c.args.update.now in
    let k = kind_of u.cell_type.now in
    let f = filling u.cell_type.now in
    let m : ChainMeaning = chain_meaning (inner_chain_of c.args.self.now) in
    let s = chunk_shape u.subchunks in
    let sub = subchunk_shape u.subchunks in
    let done : c.loop-number.number ≡ length u.ranges.items = omega arith in
    all_passed m k f s sub (box_of u.part.now) (parts_in u) c.loop-number.number (done ∙ c.requires.ranges.count) c.loop-number.invariant

pub loop-number-preserved-then-run-gt0 : goal.loop-number-preserved-then-run-gt0
loop-number-preserved-then-run-gt0 c =
    let u = c.args.update.now in
    let k = kind_of u.cell_type.now in
    let f = filling u.cell_type.now in
    let m : ChainMeaning = chain_meaning (inner_chain_of c.args.self.now) in
    let n = c.loop-number.number in
    passed_more m k f (chunk_shape u.subchunks) (subchunk_shape u.subchunks) (box_of u.part.now) (parts_in u) n c.loop-number.invariant
    (λ meets. absurd (false≢true (sym (c.unmet-run.ensures.unmet n (omega arith) (omega (arith, c.if-run-gt0.true))) ∙ meets)))
