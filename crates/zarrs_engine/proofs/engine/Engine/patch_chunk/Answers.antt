use Rattle.std.proofs.Common.{rules, ap, subst, sym}
use Rattle.std.specs.Prelude.{is_some}
use Rattle.std.proofs.lemmas.Bool.{false≢true}
use Rattle.zarrs_subset.specs.Regions.{box_of}
use Rattle.zarrs_data_type.specs.ArrayData.{data_of}
use Rattle.zarrs_codec_shard.specs.ShardPatches.{change_of}
use Rattle.zarrs_codec_chain.specs.Options.{stores_empty_chunks}
use Rattle.zarrs_engine_calls.specs.Refusals.{Refusal, refusal_of}
use Rattle.zarrs_engine_calls.proofs.RefusalLemmas.{storage_said}
use Rattle.zarrs_engine.specs.Engine.{layout_of}
use Rattle.zarrs_engine.specs.Patches.{LeavesPartly}
use Rattle.zarrs_engine.proofs.PatchRefusals.{partly_leaves, put_leaves_partly}
use Rattle.zarrs_engine.proofs.PatchedChunks.{patched}
use Rattle.zarrs_engine.proofs.engine.Engine.patch_chunk.Goals as goal

pub returns-in_err-write-clause-writes : goal.returns-in_err-write-clause-writes
returns-in_err-write-clause-writes g c =
    let state = g.S.ReadableStorageTraits.state c.args.self.now.storage in
    let why = partly_leaves (layout_of c.args.self.now) (stores_empty_chunks c.args.options.now) c.args.chunk.now.indices.now (box_of c.args.part.now) (data_of c.args.part_data.now)
    (refusal_of c.in_err-write.field-0.0) state c.in_err-write.ensures.refused in
    search (rules, why)

pub returns-in_err-put_part-clause-writes : goal.returns-in_err-put_part-clause-writes
returns-in_err-put_part-clause-writes g c =
    let layout = layout_of c.args.self.now in
    let keep = stores_empty_chunks c.args.options.now in
    let index = c.args.chunk.now.indices.now in
    let part = box_of c.args.part.now in
    let held = data_of c.args.part_data.now in
    let old = g.S.ReadableStorageTraits.state c.args.self.now.storage in
    let new = g.S.ReadableStorageTraits.state c.put_part.new.self.storage in
    let e = c.in_err-put_part.field-0.0 in
    let left = put_leaves_partly layout keep index part held c.args.chunk.now.key e old new (ap is_some c.in_ok-write.ensures.written) c.in_err-put_part.ensures.refused in
    let why = subst (λ (r : Refusal). LeavesPartly layout keep index part held r old new) (sym (storage_said e)) left in
    search (rules, why)

pub returns-clause-writes : goal.returns-clause-writes
returns-clause-writes g c =
    let layout = layout_of c.args.self.now in
    let keep = stores_empty_chunks c.args.options.now in
    let part = box_of c.args.part.now in
    let done =
    patched layout c.args.self.now.layout.lawful c.args.chunk.now.indices.now c.requires.chunk.boxed keep part (data_of c.args.part_data.now) c.args.chunk.now.key (change_of c.in_ok-write.write)
    (g.S.ReadableStorageTraits.state c.args.self.now.storage) (g.S.ReadableStorageTraits.state c.put_part.new.self.storage)
    c.args.part.now.same_length c.requires.part c.requires.cells c.requires.chunk.key c.in_ok-write.ensures.written c.in_ok-put_part.ensures.done in
    search (rules, done)

pub returns-clause-refusing : goal.returns-clause-refusing
returns-clause-refusing g c = λ said. absurd (false≢true (c.in_ok-write.ensures.refusing said))
