use Rattle.std.proofs.Common.{option_map, rules, subst, sym}
use Rattle.std.proofs.lemmas.Bool.{false≢true}
use Rattle.std.proofs.lemmas.Result.{err_from_is_err_and}
use Rattle.zarrs_subset.specs.Regions.{box_of}
use Rattle.zarrs_data_type.specs.ArrayData.{data_of}
use Rattle.zarrs_codec_chain.specs.Options.{stores_empty_chunks}
use Rattle.zarrs_engine_calls.specs.Refusals.{Refusal, refusal_of, refusal_of_storage}
use Rattle.zarrs_engine_calls.proofs.RefusalLemmas.{storage_said}
use Rattle.zarrs_engine.specs.Engine.{layout_of}
use Rattle.zarrs_engine.specs.RegionWrites.{LeavesPart}
use Rattle.zarrs_engine.proofs.RegionFronts.{leaves_state, put_leaves, puts_part}
use Rattle.zarrs_engine.proofs.engine.Engine.store_whole.Goals as goal

pub returns-in_err-value-clause-writes : goal.returns-in_err-value-clause-writes
returns-in_err-value-clause-writes g c =
    let why = leaves_state (layout_of c.args.self.now) (stores_empty_chunks c.args.options.now) (box_of c.args.region.now) (data_of c.args.region_data.now) c.args.chunk.now.indices.now
    (refusal_of c.in_err-value.field-0.0) (g.S.ReadableStorageTraits.state c.args.self.now.storage) c.in_err-value.ensures.makes.refused in
    search (rules, why)

pub returns-in_err-put-clause-writes : goal.returns-in_err-put-clause-writes
returns-in_err-put-clause-writes g c =
    let layout = layout_of c.args.self.now in
    let keep = stores_empty_chunks c.args.options.now in
    let region = box_of c.args.region.now in
    let held = data_of c.args.region_data.now in
    let index = c.args.chunk.now.indices.now in
    let old = g.S.ReadableStorageTraits.state c.args.self.now.storage in
    let new = g.S.ReadableStorageTraits.state c.put.new.self.storage in
    let e = c.in_err-put.field-0.0 in
    let why = put_leaves layout keep region held index c.in_ok-value.ensures.makes.fit c.in_ok-value.ensures.makes.value.made old c.in_ok-value.ensures.makes.value.updated new (refusal_of_storage e)
    c.in_ok-value.ensures.makes.value.accepted c.in_err-put.ensures.refused in
    let said = subst (λ (r : Refusal). LeavesPart layout keep region held index r old new) (sym (storage_said e)) why in
    let p = err_from_is_err_and c.from_residual-in_err-put.result c.from_residual-in_err-put.ensures.1 in
    rw (p.1, p.2) (record { done = tt; refused = said; layout_kept = c.in_err-put.ensures.layout_kept })

pub returns-clause-writes : goal.returns-clause-writes
returns-clause-writes g c =
    let layout = layout_of c.args.self.now in
    let chunk = c.requires.chunk in
    let value = c.in_ok-value.ensures.makes in
    let v = value.value in
    let done = puts_part layout (stores_empty_chunks c.args.options.now) (box_of c.args.region.now) (data_of c.args.region_data.now) c.args.chunk.now.indices.now value.fit v.made
    (g.S.ReadableStorageTraits.state c.args.self.now.storage) v.updated c.args.self.now.layout.lawful chunk.boxed c.requires.covered c.args.chunk.now.key (option_map (λ v. v.items) c.in_ok-value.value)
    (g.S.ReadableStorageTraits.state c.put.new.self.storage) chunk.key c.requires.given v.has c.in_ok-put.ensures.done in
    search (rules, done)

pub returns-clause-refusing : goal.returns-clause-refusing
returns-clause-refusing g c = λ part said. absurd (false≢true (c.in_ok-value.ensures.refusing part said))
