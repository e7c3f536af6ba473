use Rattle.std.proofs.Common.{◌≡◌, ◌∙◌, true, ℕ, List, ap, None, option_map, rules, subst, sym}
use Rattle.zarrs_codec_chain.specs.Options.{stores_empty_chunks}
use Rattle.zarrs_engine_calls.specs.Refusals.{Refusal, refusal_of, refusal_of_storage}
use Rattle.zarrs_engine_calls.specs.Cuts.{is_cut, keeps_some}
use Rattle.zarrs_engine_calls.proofs.Contents.{member}
use Rattle.zarrs_engine_calls.proofs.RefusalLemmas.{storage_said}
use Rattle.zarrs_engine.specs.Engine.{layout_of}
use Rattle.zarrs_engine_calls.specs.Reach.{MayAskChunk}
use Rattle.zarrs_engine_calls.specs.StateRefusals.{RefusesCut}
use Rattle.zarrs_engine_layout.proofs.ChunkParts.{chunk_accepted}
use Rattle.zarrs_engine.specs.Resizes.{IsCutValue, LeavesCut}
use Rattle.zarrs_engine.proofs.PatchRefusals.{only_memory}
use Rattle.zarrs_engine.proofs.Cuts.{cut_answer, cut_has_box, leaves_cut, leaves_cut_memory, no_answer, passes_none, put_fails, puts_cut, value_gone}
use Rattle.zarrs_engine.proofs.engine.Engine.cut_chunk.Goals as goal

pub returns-in_default : goal.returns-in_default
returns-in_default g c =
    let layout = layout_of c.args.self.now in
    let index = c.args.chunk_indices.now in
    let shape = c.args.shape.now in
    let fails_so = no_answer (is_cut layout.grid shape index) (keeps_some layout.grid shape index) (sym c.in_default.is ∙ c.cut.ensures) in
    let done =
    passes_none layout (stores_empty_chunks c.args.options.now) shape index (g.S.ReadableStorageTraits.state c.args.self.now.storage) fails_so in
    search (rules, done)

pub returns-in_err-key : goal.returns-in_err-key
returns-in_err-key g c =
    let layout = layout_of c.args.self.now in
    let keep = stores_empty_chunks c.args.options.now in
    let index = c.args.chunk_indices.now in
    let shape = c.args.shape.now in
    let holds_so = cut_answer (is_cut layout.grid shape index) (keeps_some layout.grid shape index) c.in-Some.keeps (sym c.in-Some.is ∙ c.cut.ensures) in
    let why = leaves_cut_memory layout keep shape index holds_so.0 (g.S.ReadableStorageTraits.state c.args.self.now.storage) in
    search (rules, why)

pub returns-in_err-put : goal.returns-in_err-put
returns-in_err-put g c =
    let layout = layout_of c.args.self.now in
    let keep = stores_empty_chunks c.args.options.now in
    let index = c.args.chunk_indices.now in
    let shape = c.args.shape.now in
    let holds_so = cut_answer (is_cut layout.grid shape index) (keeps_some layout.grid shape index) c.in-Some.keeps (sym c.in-Some.is ∙ c.cut.ensures) in
    let old = g.S.ReadableStorageTraits.state c.args.self.now.storage in
    let new = g.S.ReadableStorageTraits.state c.put.new.self.storage in
    let gone = value_gone layout keep shape index old (cut_has_box layout shape index holds_so.0) (sym holds_so.1 ∙ c.if-not-keeps.true) in
    let e = c.in_err-put.field-0.0 in
    let why = put_fails layout keep shape index holds_so.0 None old new (refusal_of_storage e) gone c.in_err-put.ensures.refused in
    let said = subst (λ (r : Refusal). LeavesCut layout keep shape index r old new) (sym (storage_said e)) why in
    search (rules, said)

pub returns-then-not-keeps : goal.returns-then-not-keeps
returns-then-not-keeps g c =
    let layout = layout_of c.args.self.now in
    let keep = stores_empty_chunks c.args.options.now in
    let index = c.args.chunk_indices.now in
    let shape = c.args.shape.now in
    let holds_so = cut_answer (is_cut layout.grid shape index) (keeps_some layout.grid shape index) c.in-Some.keeps (sym c.in-Some.is ∙ c.cut.ensures) in
    let old = g.S.ReadableStorageTraits.state c.args.self.now.storage in
    let has = cut_has_box layout shape index holds_so.0 in
    let gone = value_gone layout keep shape index old has (sym holds_so.1 ∙ c.if-not-keeps.true) in
    let done = puts_cut layout keep shape index holds_so.0 c.args.self.now.layout.lawful has c.in_ok-key.key None old (g.S.ReadableStorageTraits.state c.put.new.self.storage) c.in_ok-key.ensures.key gone c.in_ok-put.ensures.done in
    search (rules, done)

pub returns-in_err-chunk : goal.returns-in_err-chunk
returns-in_err-chunk g c =
    let layout = layout_of c.args.self.now in
    let keep = stores_empty_chunks c.args.options.now in
    let index = c.args.chunk_indices.now in
    let shape = c.args.shape.now in
    let state = g.S.ReadableStorageTraits.state c.args.self.now.storage in
    let holds_so = cut_answer (is_cut layout.grid shape index) (keeps_some layout.grid shape index) c.in-Some.keeps (sym c.in-Some.is ∙ c.cut.ensures) in
    let r = refusal_of c.in_err-chunk.field-0.0 in
    let memory = only_memory _ r (chunk_accepted layout index (cut_has_box layout shape index holds_so.0)) c.in_err-chunk.ensures.refused in
    let why = subst (λ (r : Refusal). LeavesCut layout keep shape index r state state) (sym memory) (leaves_cut_memory layout keep shape index holds_so.0 state) in
    search (rules, why)

pub cut_value-requires-clause-kept : goal.cut_value-requires-clause-kept
cut_value-requires-clause-kept g c =
    let layout = layout_of c.args.self.now in
    let index = c.args.chunk_indices.now in
    let shape = c.args.shape.now in
    let holds_so = cut_answer (is_cut layout.grid shape index) (keeps_some layout.grid shape index) c.in-Some.keeps (sym c.in-Some.is ∙ c.cut.ensures) in
    subst (λ (i : List ℕ). keeps_some layout.grid shape i ≡ true) (sym c.in_ok-chunk.ensures.answer.indices) (sym holds_so.1 ∙ c.if-not-keeps.false)

pub cut_value-requires-clause-ask : goal.cut_value-requires-clause-ask
cut_value-requires-clause-ask g c =
    let layout = layout_of c.args.self.now in
    let index = c.args.chunk_indices.now in
    let shape = c.args.shape.now in
    let holds_so = cut_answer (is_cut layout.grid shape index) (keeps_some layout.grid shape index) c.in-Some.keeps (sym c.in-Some.is ∙ c.cut.ensures) in
    let state = g.S.ReadableStorageTraits.state c.args.self.now.storage in
    let ask = c.requires.ask holds_so.0 index (member index) (sym holds_so.1 ∙ c.if-not-keeps.false) in
    subst (λ (i : List ℕ). MayAskChunk layout i state) (sym c.in_ok-chunk.ensures.answer.indices) ask

pub returns-in_err-value : goal.returns-in_err-value
returns-in_err-value g c =
    let layout = layout_of c.args.self.now in
    let index = c.args.chunk_indices.now in
    let state = g.S.ReadableStorageTraits.state c.args.self.now.storage in
    let shape = c.args.shape.now in
    let holds_so = cut_answer (is_cut layout.grid shape index) (keeps_some layout.grid shape index) c.in-Some.keeps (sym c.in-Some.is ∙ c.cut.ensures) in
    let why = leaves_cut layout (stores_empty_chunks c.args.options.now) shape index holds_so.0 (refusal_of c.in_err-value.field-0.0) state
    (subst (λ (i : List ℕ). RefusesCut layout (stores_empty_chunks c.args.options.now) shape i 0 state (refusal_of c.in_err-value.field-0.0)) c.in_ok-chunk.ensures.answer.indices c.in_err-value.ensures.refused) in
    search (rules, why)

pub returns-in_err-put-2 : goal.returns-in_err-put-2
returns-in_err-put-2 g c =
    let layout = layout_of c.args.self.now in
    let keep = stores_empty_chunks c.args.options.now in
    let index = c.args.chunk_indices.now in
    let shape = c.args.shape.now in
    let old = g.S.ReadableStorageTraits.state c.args.self.now.storage in
    let new = g.S.ReadableStorageTraits.state c.put-2.new.self.storage in
    let e = c.in_err-put-2.field-0.0 in
    let holds_so = cut_answer (is_cut layout.grid shape index) (keeps_some layout.grid shape index) c.in-Some.keeps (sym c.in-Some.is ∙ c.cut.ensures) in
    let why = put_fails layout keep shape index holds_so.0 (option_map (λ v. v.items) c.in_ok-value.value) old new (refusal_of_storage e)
    (subst (λ (i : List ℕ). IsCutValue layout keep shape i old (option_map (λ v. v.items) c.in_ok-value.value)) c.in_ok-chunk.ensures.answer.indices c.in_ok-value.ensures.value) c.in_err-put-2.ensures.refused in
    let said = subst (λ (r : Refusal). LeavesCut layout keep shape index r old new) (sym (storage_said e)) why in
    search (rules, said)

pub returns : goal.returns
returns g c =
    let layout = layout_of c.args.self.now in
    let index = c.args.chunk_indices.now in
    let shape = c.args.shape.now in
    let old = g.S.ReadableStorageTraits.state c.args.self.now.storage in
    let holds_so = cut_answer (is_cut layout.grid shape index) (keeps_some layout.grid shape index) c.in-Some.keeps (sym c.in-Some.is ∙ c.cut.ensures) in
    let done =
    puts_cut layout (stores_empty_chunks c.args.options.now) shape index holds_so.0 c.args.self.now.layout.lawful (cut_has_box layout shape index holds_so.0)
    c.in_ok-chunk.chunk.key (option_map (λ v. v.items) c.in_ok-value.value) old (g.S.ReadableStorageTraits.state c.put-2.new.self.storage) (c.in_ok-chunk.ensures.answer.chunk.key ∙ ap layout.key c.in_ok-chunk.ensures.answer.indices)
    (subst (λ (i : List ℕ). IsCutValue layout (stores_empty_chunks c.args.options.now) shape i old (option_map (λ v. v.items) c.in_ok-value.value)) c.in_ok-chunk.ensures.answer.indices c.in_ok-value.ensures.value) c.in_ok-put-2.ensures.done in
    search (rules, done)
