-- Runs of which the stores may write the parts of chunks by themselves go through one function too.
use Rattle.std.proofs.Common.{◌≡◌, ◌≤◌, ◌+◌, ℕ, suc, Bool, true, false, cond, List, [], ◌∷◌, length, take, Contains, Option, Some, None}
use Rattle.std.proofs.Common.{refl, sym, ◌∙◌, ap, subst, inl, inr, arith}
use Rattle.std.specs.Prelude.{IsSome, is_some, option_and_then, nat_le}
use Rattle.std.specs.FinMap as map
use Rattle.std.proofs.lemmas.Bool.{cases_Bool}
use Rattle.std.proofs.lemmas.List.{take_all}
use Rattle.zarrs_subset.specs.Boxes.{position_count, offset_by}
use Rattle.zarrs_subset.specs.Regions.{Box, IsLong, Holds, box_of, cell_in, empty_box, in_box}
use Rattle.zarrs_chunk_grid.specs.Grids.{Grid, box_at, chunks_box, has_box, index_at, is_covered, range_box}
use Rattle.zarrs_chunk_grid.proofs.Chunks.{box_covered, box_index, box_is_there, box_long}
use Rattle.zarrs_storage.specs.Store.{StoreState}
use Rattle.zarrs_data_type.specs.Cell.{Cell}
use Rattle.zarrs_data_type.specs.ArrayData.{ArrayData, data_of}
use Rattle.zarrs_data_type.specs.Cells.{cells}
use Rattle.zarrs_codec_chain.specs.Chain.{chunk_cells}
use Rattle.zarrs_engine_calls.specs.Layout.{ArrayState, Layout, IsLawful}
use Rattle.zarrs_engine_calls.specs.Content.{value_at, content, chunk_cell, decoded_cells}
use Rattle.zarrs_engine_calls.specs.Refusals.{Refusal, box_refusal}
use Rattle.zarrs_engine_calls.specs.ChunkBoxes.{ends_within, is_empty, is_whole_of, part_box}
use Rattle.zarrs_engine_calls.specs.ArgumentRefusals.{argument_refusal, read_part_refusal, region_data_refusal, region_refusal}
use Rattle.zarrs_engine_calls.specs.declared.call.Call.{Call}
use Rattle.zarrs_engine_calls.specs.declared.call.Call.TheVariants as call
use Rattle.zarrs_engine_calls.specs.declared.call.Reply.{Reply}
use Rattle.zarrs_engine_calls.specs.declared.call.Reply.TheVariants.{Done, Compacted, Cells, MaybeCells, Refused}
use Rattle.zarrs_engine_calls.specs.Acts.{Act, store, erase, compact, read, read_chunk, resize, act_of, shape_after, shape_left}
use Rattle.zarrs_engine_calls.specs.Outcome as outcome
use Rattle.zarrs_engine_calls.specs.Outcome.{Outcome, outcome_of}
use Rattle.zarrs_engine_calls.specs.Refusals.{refusal_of}
use Rattle.zarrs_engine_calls.specs.Step.{ActOutcome}
use Rattle.zarrs_engine_calls.specs.Events.{Event, event_of, events_of, one_event}
use Rattle.zarrs_engine_calls.specs.Laws.{EachDecodes}
use Rattle.zarrs_engine_calls.specs.Patches.{IsPatched, PatchActStep, PatchRun, Patches, PatchesAll, RefusesPatches, TakesPatches, known_cells}
use Rattle.zarrs_engine_calls.specs.Fronts.{is_in_chunks}
use Rattle.zarrs_engine_calls.specs.Headline.{Change, IsOneFunctionThrough, PatchedRunsAreOneFunction, cell_at, made}
use Rattle.zarrs_engine_calls.proofs.Contents.{content_covered, content_uncovered, covered_has_box, in_chunk, index_list, member}
use Rattle.zarrs_engine_calls.proofs.Copied.{stored_part, takes_stored_range}
use Rattle.zarrs_engine_calls.proofs.CutLaws.{and_right}
use Rattle.zarrs_engine_calls.proofs.Headline.{act_change, by_chunks, in_part, none_happened, one_more}
use Rattle.zarrs_engine_calls.proofs.Ranges.{box_of_range}
use Rattle.zarrs_engine_calls.proofs.Reached.{first_part, part_covered, part_meets, range_covered, range_meets, region_covered, region_meets}
use Rattle.zarrs_engine_calls.proofs.RefusalLemmas.{box_accepted}
use Rattle.zarrs_engine_calls.proofs.Regions.{cell_there, decoded_cell}
use Rattle.zarrs_engine_calls.proofs.Shapes.{among_or_not, first_held, front_keeps, known_decodes, others_keep, some_decode}
use Rattle.zarrs_engine_calls.proofs.Steps.{AllDecode, courses_keep_decoding}

-- ---- what an accepted store has

-- each position of the region lies in one of these chunks
record IsStoredBy (layout : Layout) (region : Box) (chunks : List (List ℕ)) : Type 0 where
  long : IsLong region
  covered : (position : List ℕ) → Holds region position → is_covered layout.grid position ≡ true
  meets : (position : List ℕ) → Holds region position → Contains chunks (index_at layout.grid position)

-- so it is of a store that the arguments do not refuse
abbrev IsStoredRight : Layout → Option Refusal → Act → Type 0
IsStoredRight layout first (store region held chunks) = first ≡ None → IsStoredBy layout region chunks
IsStoredRight layout first (erase chunks) = Unit {0}
IsStoredRight layout first (compact index) = Unit {0}
IsStoredRight layout first (read region chunks) = Unit {0}
IsStoredRight layout first (read_chunk needed index) = Unit {0}
IsStoredRight layout first (resize wanted) = Unit {0}

part_long : (c n s e : List ℕ) → length c ≡ length n → ends_within s e n ≡ true → length (offset_by c s) ≡ length e
part_long [] [] [] [] long fits = refl
part_long [] [] [] (x ∷ e) long fits = absurd (cc)
part_long [] [] (x ∷ s) [] long fits = absurd (cc)
part_long [] [] (x ∷ s) (y ∷ e) long fits = absurd (cc)
part_long [] (y ∷ n) s e long fits = absurd (omega arith)
part_long (x ∷ c) [] s e long fits = absurd (omega arith)
part_long (x ∷ c) (y ∷ n) [] [] long fits = absurd (cc)
part_long (x ∷ c) (y ∷ n) [] (w ∷ e) long fits = absurd (cc)
part_long (x ∷ c) (y ∷ n) (z ∷ s) [] long fits = absurd (cc)
part_long (x ∷ c) (y ∷ n) (z ∷ s) (w ∷ e) long fits =
    ap suc (part_long c n s e (omega arith) (and_right (nat_le (z + w) y) (ends_within s e n) fits))

chunks_long : (grid : Grid) (range : Box) → IsLong (chunks_box grid range)
chunks_long grid range =
    elim (is_empty range) as (λ v. IsLong (cond v (empty_box (length range.shape)) (range_box grid range))) [ true ↦ refl | false ↦ box_of_range grid range ]

stored_right : (layout : Layout) → IsLawful layout → (shape : List ℕ) (call : Call) → IsStoredRight layout (argument_refusal layout shape call) (act_of layout call)
stored_right layout lawful shape (call.StoreChunk index held) = λ none.
    let i = index.items in
    let there = box_is_there layout.grid i (box_accepted layout i (first_part (box_refusal layout i) _ none).0).0 in
    record {
      long = box_long layout.grid i;
      covered = λ position holds. box_covered layout.grid lawful.grid i position there holds;
      meets = λ position holds. subst (Contains (i ∷ [])) (sym (box_index layout.grid lawful.grid i position there holds)) (member i);
    }
stored_right layout lawful shape (call.StoreChunks range held) = λ none.
    let box = box_of range in
    let takes = takes_stored_range layout box (data_of held) range.same_length none in
    record {
      long = chunks_long layout.grid box;
      covered = range_covered layout lawful box range.same_length takes;
      meets = range_meets layout lawful box range.same_length takes;
    }
stored_right layout lawful shape (call.StoreChunkSubset index part held) = λ none.
    let i = index.items in
    let box = box_of part in
    let chunk = box_at layout.grid i in
    let parts = stored_part layout i box (data_of held) none in
    record {
      long = part_long chunk.start chunk.shape box.start box.shape (box_long layout.grid i) parts.1;
      covered = part_covered layout lawful i box parts.0 parts.1;
      meets = part_meets layout lawful i box parts.0 parts.1;
    }
stored_right layout lawful shape (call.StoreArraySubset region held) = λ none.
    let box = box_of region in
    let accepted = (first_part (region_refusal layout shape box) (region_data_refusal layout box (data_of held)) none).0 in
    record {
      long = region.same_length;
      covered = region_covered layout lawful shape box region.same_length accepted;
      meets = region_meets layout lawful shape box region.same_length accepted;
    }
stored_right layout lawful shape (call.RetrieveChunkSubset index part) =
    let i = index.items in
    let chunk = box_at layout.grid i in
    elim (is_whole_of chunk.shape (box_of part)) as (λ v. IsStoredRight layout (read_part_refusal layout i (box_of part)) (cond v (read_chunk true i) (read (part_box chunk (box_of part)) (i ∷ [])))) [
      | true ↦ tt
      | false ↦ tt
    ]
stored_right layout lawful shape (call.EraseChunk index) = tt
stored_right layout lawful shape (call.EraseChunks range) = tt
stored_right layout lawful shape (call.CompactChunk index) = tt
stored_right layout lawful shape (call.RetrieveChunkIfExists index) = tt
stored_right layout lawful shape (call.RetrieveChunk index) = tt
stored_right layout lawful shape (call.RetrieveChunks range) = tt
stored_right layout lawful shape (call.RetrieveArraySubset region) = tt
stored_right layout lawful shape (call.Resize wanted) = tt

-- ---- chunks that took their part

-- the cells of a chunk are known if it is absent or decodes
known_of : (layout : Layout) (index : List ℕ) (stored : Option (List ℕ))
    → ((encoded : List ℕ) → stored ≡ Some encoded → (found : List Cell) × (decoded_cells layout (box_at layout.grid index) encoded ≡ Some found))
    → IsSome (chunk_cells layout.chain layout.kind layout.fill (box_at layout.grid index).shape stored)
known_of layout index None decodes = refl
known_of layout index (Some encoded) decodes = ap is_some (decodes encoded refl).1

module _ (layout : Layout) (lawful : IsLawful layout) (keep : Bool) (itself : List ℕ → Type 0) (region : Box) (given : List Cell) (indices : List (List ℕ))
    (old new : StoreState) (p : Patches layout keep itself region given indices old new) (each : EachDecodes layout old) where
  known : (index : List ℕ) → has_box layout.grid index ≡ true → IsSome (known_cells layout index old)
  known index has = known_of layout index (value_at old (layout.key index)) (λ encoded at. each index encoded has at)

  patched_inside : (position : List ℕ) → is_covered layout.grid position ≡ true → Contains indices (index_at layout.grid position)
      → content layout (value_at new) position ≡ cond (in_box region position) (cell_in region given position) (content layout (value_at old) position)
  patched_inside position covered among =
      let index = index_at layout.grid position in
      p.inside index among (λ _. known index (p.boxed index among)) position (in_chunk layout lawful index position covered refl)

  uncovered_same : (position : List ℕ) → is_covered layout.grid position ≡ false → content layout (value_at new) position ≡ content layout (value_at old) position
  uncovered_same position uncovered = content_uncovered layout (value_at new) position uncovered ∙ sym (content_uncovered layout (value_at old) position uncovered)

  patched_outside : (position : List ℕ) → (Contains indices (index_at layout.grid position) → ⊥) → content layout (value_at new) position ≡ content layout (value_at old) position
  patched_outside position apart = elim (cases_Bool (is_covered layout.grid position)) [
    | inr uncovered ↦ uncovered_same position uncovered
    | inl covered ↦
        let index = index_at layout.grid position in
        let long = index_list layout lawful index (covered_has_box layout lawful position covered) in
        content_covered layout (value_at new) position covered
        ∙ ap (λ t. chunk_cell layout t (box_at layout.grid index) position)
        (others_keep layout lawful indices old new (λ i among. index_list layout lawful i (p.boxed i among)) p.keys index long apart)
        ∙ sym (content_covered layout (value_at old) position covered)
  ]

  -- no cell outside the region changes
  patched_beside : (position : List ℕ) → in_box region position ≡ false → content layout (value_at new) position ≡ content layout (value_at old) position
  patched_beside position out = elim (among_or_not indices (index_at layout.grid position)) [
    | inr apart ↦ patched_outside position apart
    | inl among ↦ elim (cases_Bool (is_covered layout.grid position)) [
      | inr uncovered ↦ uncovered_same position uncovered
      | inl covered ↦
          patched_inside position covered among ∙ ap (λ b. cond b (cell_in region given position) (content layout (value_at old) position)) out
    ]
  ]

  module _ (long : IsLong region) (count : length given ≡ position_count region.shape) where
    -- a position of a chunk has a cell afterwards
    some_cell : (position : List ℕ) → is_covered layout.grid position ≡ true
        → (cell : Cell) × (cond (in_box region position) (cell_in region given position) (content layout (value_at old) position) ≡ Some cell)
    some_cell position covered =
        let was = content layout (value_at old) position in
        let put = cell_in region given position in
        elim (cases_Bool (in_box region position)) [
          | inl holds ↦ let c = cell_there region given position long count holds in (c.0, ap (λ b. cond b put was) holds ∙ c.1)
          | inr out ↦
              let c = decoded_cell layout lawful true old position covered
              (λ encoded at. each (index_at layout.grid position) encoded (covered_has_box layout lawful position covered) at) in
              (c.0, ap (λ b. cond b put was) out ∙ c.1)
        ]

    patched_decodes : EachDecodes layout new
    patched_decodes =
        some_decode layout lawful indices old new (λ i among. index_list layout lawful i (p.boxed i among)) p.keys
        (λ i encoded among has at.
        let start = (box_at layout.grid i).start in
        let holds = first_held layout.grid lawful.grid i has in
        let c = some_cell start (box_covered layout.grid lawful.grid i start (box_is_there layout.grid i has) holds) in
        known_decodes layout lawful (value_at new) i encoded start c.0 has at holds (p.inside i among (λ _. known i has) start holds ∙ c.1))
        each

-- ---- steps

module _ (layout : Layout) (lawful : IsLawful layout) (keep asked : Bool) (old new : ArrayState) (each : EachDecodes layout old.store) where
  module _ (itself : List ℕ → Type 0) (region : Box) (held : ArrayData) (chunks : List (List ℕ)) where
    abbrev put_at : List ℕ → Option Cell
    put_at position = option_and_then (λ given. cell_in region given position) (cells layout.kind held)

    -- an accepted store
    patched_made : IsStoredBy layout region chunks → PatchesAll layout keep itself region held chunks old.store new.store → Change layout (store region held chunks) outcome.done old new
    patched_made stored s =
        let t = s.takes in (
          record {
            cells = λ position.
                let was = cell_at layout old position in
                let is : put_at position ≡ cell_in region t.given position = ap (λ o. option_and_then (λ given. cell_in region given position) o) t.are_cells in
                elim (cases_Bool (in_box region position)) [
                  | inl holds ↦
                      patched_inside layout lawful keep itself region t.given chunks old.store new.store t.patches each position (stored.covered position holds) (stored.meets position holds)
                      ∙ ap (λ o. cond (in_box region position) o was) (sym is)
                  | inr out ↦
                      patched_beside layout lawful keep itself region t.given chunks old.store new.store t.patches each position out
                      ∙ sym (ap (λ b. cond b (put_at position) was) out)
                ];
            keys = t.patches.keys;
          },
          (t.given, t.are_cells, t.count),
        )

    -- a refused one, in the chunks that took their part
    patched_part : (indices : List (List ℕ)) → TakesPatches layout keep itself region held indices old.store new.store → (position : List ℕ)
        → cell_at layout new position ≡ cond (is_in_chunks layout indices position) (made layout old.shape (store region held chunks) (cell_at layout old) position) (cell_at layout old position)
    patched_part indices t position =
        let was = cell_at layout old position in
        let is : put_at position ≡ cell_in region t.given position = ap (λ o. option_and_then (λ given. cell_in region given position) o) t.are_cells in
        by_chunks layout old.store new.store indices position (cond (in_box region position) (put_at position) was)
        (λ covered among.
        patched_inside layout lawful keep itself region t.given indices old.store new.store t.patches each position covered among
        ∙ ap (λ o. cond (in_box region position) o was) (sym is))
        (λ apart. patched_outside layout lawful keep itself region t.given indices old.store new.store t.patches each position apart)

    part_decodes : (first : Option Refusal) (r : Refusal) → (first ≡ None → IsStoredBy layout region chunks)
        → RefusesPatches layout keep itself first region held chunks r old.store new.store → EachDecodes layout new.store
    part_decodes first r right s = elim s.cause [
      | inl early ↦ subst (AllDecode layout) (ap (λ values. map.get values) (sym (s.front.untouched early.1))) each
      | inr (index, where_at, why) ↦
          front_keeps (λ indices. TakesPatches layout keep itself region held indices old.store new.store) chunks s.done s.failed old.store new.store (AllDecode layout)
          (λ indices t was. patched_decodes layout lawful keep itself region t.given indices old.store new.store t.patches was (right why.0).long t.count)
          s.front each
    ]

  -- an act that writes no part by itself
  other_change : (first : Option Refusal) (act : Act) (ended : Outcome) → new.shape ≡ shape_left act ended old.shape
      → ActOutcome layout keep old.shape first act ended old.store new.store → Change layout act ended old new × EachDecodes layout new.store
  other_change first act ended shape s =
      let event : Event = record { act = act; ended = ended } in (
        act_change layout lawful keep old new first act ended each shape s,
        courses_keep_decoding layout lawful keep (event ∷ []) old new (one_event layout keep old new event (record { shape = shape; first = first; does = s })) each,
      )

  patched_change : (first : Option Refusal) (act : Act) (reply : Reply) → IsStoredRight layout first act → new.shape ≡ shape_after act reply old.shape
      → PatchActStep layout keep asked old.shape first act reply old.store new.store → Change layout act (outcome_of reply) old new × EachDecodes layout new.store
  patched_change first (store region held chunks) Done right shape s =
      let t = s.1.takes in (
        patched_made (IsPatched layout asked region old.store) region held chunks (right s.0) s.1,
        patched_decodes layout lawful keep (IsPatched layout asked region old.store) region t.given chunks old.store new.store t.patches each (right s.0).long t.count,
      )
  patched_change first (store region held chunks) (Refused e) right shape s = (
    in_part layout lawful keep old new (store region held chunks) chunks _ _ _ s
        (λ position t. patched_part (IsPatched layout asked region old.store) region held chunks (take s.done chunks) t position) (λ t. t.patches.keys),
    part_decodes (IsPatched layout asked region old.store) region held chunks first (refusal_of e) right s,
  )
  patched_change first (store region held chunks) (Compacted answer) right shape s = absurd s
  patched_change first (store region held chunks) (Cells found) right shape s = absurd s
  patched_change first (store region held chunks) (MaybeCells found) right shape s = absurd s
  patched_change first (erase chunks) reply right shape s = other_change first (erase chunks) (outcome_of reply) shape s
  patched_change first (compact index) reply right shape s = other_change first (compact index) (outcome_of reply) shape s
  patched_change first (read region chunks) reply right shape s = other_change first (read region chunks) (outcome_of reply) shape s
  patched_change first (read_chunk needed index) reply right shape s = other_change first (read_chunk needed index) (outcome_of reply) shape s
  patched_change first (resize wanted) reply right shape s = other_change first (resize wanted) (outcome_of reply) shape s

-- ---- runs

pub patched_runs_one : PatchedRunsAreOneFunction
patched_runs_one layout lawful keep asked [] [] old new each run = record { one_each = refl; function = none_happened layout old new each run }
patched_runs_one layout lawful keep asked (call ∷ calls) (reply ∷ replies) old new each run =
    let mid = run.0 in
    let shape = run.1.0 in
    let step = patched_change layout lawful keep asked old mid each (argument_refusal layout old.shape call) (act_of layout call) reply (stored_right layout lawful old.shape call) shape run.1.1 in
    let rest = patched_runs_one layout lawful keep asked calls replies mid new step.1 run.2 in
    record {
      one_each = ap suc rest.one_each;
      function = one_more layout (event_of layout call reply) (events_of layout calls replies) old mid new each step.0 shape rest.function;
    }
patched_runs_one layout lawful keep asked [] (reply ∷ replies) old new each run = absurd run
patched_runs_one layout lawful keep asked (call ∷ calls) [] old new each run = absurd run

-- the same of a loop that has made all of its calls
pub patched_all_one : (layout : Layout) → IsLawful layout → (keep asked : Bool) (calls : List Call) (n : ℕ) (replies : List Reply) (old new : ArrayState)
    → length calls ≤ n → PatchRun layout keep asked (take n calls) replies old new → EachDecodes layout old.store → IsOneFunctionThrough layout calls replies old new
patched_all_one layout lawful keep asked calls n replies old new all run each =
    subst (λ (made : List Call). IsOneFunctionThrough layout made replies old new) (take_all n calls all)
    (patched_runs_one layout lawful keep asked (take n calls) replies old new each run)
