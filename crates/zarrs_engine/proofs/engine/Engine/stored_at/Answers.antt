use Rattle.std.proofs.Common.{◌≡◌, sym, subst, true, List, ℕ, rules, arith}
use Rattle.zarrs_keys.specs.Keys.{IsIndexList}
use Rattle.zarrs_storage.specs.Store.{MayReadWhole}
use Rattle.zarrs_engine_layout.proofs.Chunks.{value_refused_store}
use Rattle.zarrs_engine.specs.Engine.{layout_of}
use Rattle.zarrs_engine.proofs.engine.Engine.stored_at.Goals as goal

pub get-requires-clause-may_ask : goal.get-requires-clause-may_ask
get-requires-clause-may_ask g c =
    let state = g.S.ReadableStorageTraits.state c.args.self.now.storage in
    let words : (IsIndexList (g.G.ChunkGridTraits.grid c.args.self.now.layout.grid).dimensions c.args.chunk_indices.now) = record {
      long = c.requires.long;
      words = λ k. (let fits = c.type_inv.chunk_indices k in omega arith);
    } in
    subst (λ (key : List ℕ). state.may_ask key ≡ true) (sym c.requires.key) (c.requires.ask.key words)

pub get-requires-clause-may_read : goal.get-requires-clause-may_read
get-requires-clause-may_read g c =
    let state = g.S.ReadableStorageTraits.state c.args.self.now.storage in
    let words : (IsIndexList (g.G.ChunkGridTraits.grid c.args.self.now.layout.grid).dimensions c.args.chunk_indices.now) = record {
      long = c.requires.long;
      words = λ k. (let fits = c.type_inv.chunk_indices k in omega arith);
    } in
    subst (λ (key : List ℕ). MayReadWhole state key) (sym c.requires.key) (c.requires.ask.places words)

pub returns-in_err-value : goal.returns-in_err-value
returns-in_err-value g c =
    let layout = layout_of c.args.self.now in
    let state = g.S.ReadableStorageTraits.state c.args.self.now.storage in
    let why = value_refused_store layout c.args.chunk_indices.now c.args.key.now state c.in_err-value.field-0.0 c.requires.long c.requires.key c.in_err-value.ensures.refused in
    search (rules, why)
