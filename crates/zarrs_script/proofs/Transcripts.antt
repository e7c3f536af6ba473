-- How transcripts go on.
use Rattle.std.proofs.Common.{◌≡◌, ℕ, ◌||◌, Bool, true, false, List, [], ◌∷◌, ◌++◌, map, length, codes, Option, Some, None}
use Rattle.std.proofs.Common.{IsSome, option_map, refl, sym, ap, subst, ◌∙◌, append_assoc}
use Rattle.std.proofs.lemmas.List.{append-nil}
use Rattle.zarrs_data_type.specs.Kind.{Kind}
use Rattle.zarrs_data_type.specs.Cell.{Cell}
use Rattle.zarrs_data_type.specs.ArrayData.{ArrayData, data_of}
use Rattle.zarrs_data_type.specs.Cells.{cells}
use Rattle.zarrs_storage.specs.Store.{StoreState}
use Rattle.zarrs_engine_calls.specs.declared.call.Call.{Call}
use Rattle.zarrs_engine_calls.specs.declared.call.Call.TheVariants as call
use Rattle.zarrs_engine_calls.specs.declared.call.Reply.{Reply}
use Rattle.zarrs_engine_calls.specs.declared.call.Reply.TheVariants.{Done, Compacted, Cells, MaybeCells, Refused}
use Rattle.zarrs_engine_calls.specs.Layout.{Layout, ArrayState}
use Rattle.zarrs_engine_calls.specs.Acts.{Act, store, erase, compact, read, read_chunk, resize, act_of}
use Rattle.zarrs_engine_calls.specs.ArgumentRefusals.{argument_refusal}
use Rattle.zarrs_engine_calls.specs.Refusals.{Refusal}
use Rattle.zarrs_engine_calls.specs.Step.{ActStep, Step, Run}
use Rattle.zarrs_metadata.specs.Versions.{MetadataData}
use Rattle.zarrs_creation.specs.Changes.{with_shape}
use Rattle.zarrs.specs.Arrays.{metadata_of_array}
use Rattle.zarrs_script.specs.Parts.{text_of_metadata}
use Rattle.zarrs_script.specs.declared.cell_type.CellType.{CellType}
use Rattle.zarrs_script.specs.declared.command.Creation.{Creation}
use Rattle.zarrs_script.specs.declared.command.Command.{Command}
use Rattle.zarrs_script.specs.declared.command.Command.TheVariants as command_of
use Rattle.zarrs_script.specs.declared.array.OpenArray.{OpenArray}
use Rattle.zarrs_script.specs.CellTypes.{kind_of_cells}
use Rattle.zarrs_script.specs.CellTexts.{cell_text}
use Rattle.zarrs_script.specs.Script.{Order}
use Rattle.zarrs_script.specs.Parsed.{order_of_call, order_of_command}
use Rattle.zarrs_script.specs.Transcript.{Opened, Session, Outcome, Opens, Calls, Does, Transcript, line, list_text}
use Rattle.zarrs_script.specs.Transcript.{ListsContent, data_text, reply_text, is_refusal}
use Rattle.zarrs_script.specs.Sessions.{Follows, session_of, opened}

-- the session of these parts
abbrev pub at : CellType → Layout → MetadataData → ArrayState → Session
at cell_type layout metadata state = Some (record { cell_type = cell_type; layout = layout; metadata = metadata; state = state })

-- data that stands for cells has a text
some_text : (cell_type : CellType) (kind : Kind) (held : ArrayData) (given : List Cell) → kind ≡ kind_of_cells cell_type → cells kind held ≡ Some given → IsSome (data_text cell_type held)
some_text cell_type kind held given typed is =
    let same : cells (kind_of_cells cell_type) held ≡ Some given = ap (λ (k : Kind). cells k held) (sym typed) ∙ is in
    subst (λ (found : Option (List Cell)). IsSome (option_map (λ given. line (list_text (map (cell_text cell_type) given))) found)) (sym same) refl

-- each reply of an act has a text
act_said : (cell_type : CellType) (layout : Layout) (keep : Bool) (shape : List ℕ) (first : Option Refusal) (act : Act) (reply : Reply) (old new : StoreState) → layout.kind ≡ kind_of_cells cell_type → ActStep layout keep shape first act reply old new → IsSome (reply_text cell_type reply)
act_said cell_type layout keep shape first act Done old new typed s = refl
act_said cell_type layout keep shape first act (Compacted answer) old new typed s = refl
act_said cell_type layout keep shape first act (Refused e) old new typed s = refl
act_said cell_type layout keep shape first act (MaybeCells None) old new typed s = refl
act_said cell_type layout keep shape first (store region held chunks) (Cells made) old new typed s = absurd s
act_said cell_type layout keep shape first (erase chunks) (Cells made) old new typed s = absurd s
act_said cell_type layout keep shape first (compact index) (Cells made) old new typed s = absurd s
act_said cell_type layout keep shape first (read region chunks) (Cells made) old new typed s = some_text cell_type layout.kind (data_of made) s.2.given typed s.2.are_cells
act_said cell_type layout keep shape first (read_chunk true index) (Cells made) old new typed s = some_text cell_type layout.kind (data_of made) s.2.chunk typed s.2.is_chunk
act_said cell_type layout keep shape first (read_chunk false index) (Cells made) old new typed s = absurd s
act_said cell_type layout keep shape first (store region held chunks) (MaybeCells (Some made)) old new typed s = absurd s
act_said cell_type layout keep shape first (erase chunks) (MaybeCells (Some made)) old new typed s = absurd s
act_said cell_type layout keep shape first (compact index) (MaybeCells (Some made)) old new typed s = absurd s
act_said cell_type layout keep shape first (read region chunks) (MaybeCells (Some made)) old new typed s = absurd s
act_said cell_type layout keep shape first (read_chunk true index) (MaybeCells (Some made)) old new typed s = absurd s
act_said cell_type layout keep shape first (read_chunk false index) (MaybeCells (Some made)) old new typed s = some_text cell_type layout.kind (data_of made) s.2.0.chunk typed s.2.0.is_chunk
act_said cell_type layout keep shape first (resize wanted) (Cells made) old new typed s = absurd s
act_said cell_type layout keep shape first (resize wanted) (MaybeCells (Some made)) old new typed s = absurd s

-- each reply of a step has a text
pub reply_said : (cell_type : CellType) (layout : Layout) (keep : Bool) (asked : Call) (reply : Reply) (old new : ArrayState) → layout.kind ≡ kind_of_cells cell_type → Step layout keep asked reply old new → IsSome (reply_text cell_type reply)
reply_said cell_type layout keep asked reply old new typed step = act_said cell_type layout keep old.shape (argument_refusal layout old.shape asked) (act_of layout asked) reply old.store new.store typed step.1

-- the line of a call may do what its call does
does_call : (asked : Call) (array : Opened) (outcome : Outcome) → Calls (order_of_call asked) array outcome → Does (Some array) (order_of_call asked) outcome
does_call (call.StoreChunk indices held) array outcome calls = calls
does_call (call.StoreChunks range held) array outcome calls = calls
does_call (call.StoreChunkSubset indices part held) array outcome calls = calls
does_call (call.StoreArraySubset region held) array outcome calls = calls
does_call (call.EraseChunk indices) array outcome calls = calls
does_call (call.EraseChunks range) array outcome calls = calls
does_call (call.CompactChunk indices) array outcome calls = calls
does_call (call.RetrieveChunkIfExists indices) array outcome calls = calls
does_call (call.RetrieveChunk indices) array outcome calls = calls
does_call (call.RetrieveChunks range) array outcome calls = calls
does_call (call.RetrieveChunkSubset indices part) array outcome calls = calls
does_call (call.RetrieveArraySubset region) array outcome calls = calls
does_call (call.Resize shape) array outcome calls = calls

-- a step of the array is what the line of its call may do
pub call_served : (cell_type : CellType) (layout after : Layout) (metadata shown : MetadataData) (keep : Bool) (asked : Call) (reply : Reply) (old new : ArrayState) (refused : Bool)
    → keep ≡ false → after ≡ layout → shown ≡ with_shape new.shape metadata → refused ≡ is_refusal reply → Step layout keep asked reply old new
    → (text : List ℕ) → reply_text cell_type reply ≡ Some text → Does (at cell_type layout metadata old) (order_of_call asked) (record { text = text; refused = refused; after = at cell_type after shown new })
call_served cell_type layout after metadata shown keep asked reply old new refused default lies says told step text said =
    does_call asked (record { cell_type = cell_type; layout = layout; metadata = metadata; state = old }) (record { text = text; refused = refused; after = at cell_type after shown new }) (record {
      call = asked;
      asks = refl;
      reply = reply;
      state = new;
      step = subst (λ (k : Bool). Step layout k asked reply old new) default step;
      prints = said;
      refused = told;
      after = λ i. at cell_type (lies i) (says i) new;
    })

-- the reply to one call
pub one_reply : (layout : Layout) (keep : Bool) (asked : Call) (replies : List Reply) (reply : Reply) (old new : ArrayState) → Run layout keep (asked ∷ []) (replies ++ reply ∷ []) old new → Step layout keep asked reply old new
one_reply layout keep asked [] reply old new (mid, step, stays) = subst (λ (s : ArrayState). Step layout keep asked reply old s) (sym stays) step
one_reply layout keep asked (first ∷ []) reply old new (mid, step, more) = absurd more
one_reply layout keep asked (first ∷ second ∷ replies) reply old new (mid, step, more) = absurd more

-- there is one
pub some_reply : (layout : Layout) (keep : Bool) (asked : Call) (replies : List Reply) (old new : ArrayState) → length replies ≡ 0 → Run layout keep (asked ∷ []) replies old new → ⊥
some_reply layout keep asked [] old new none run = run
some_reply layout keep asked (reply ∷ replies) old new none run = absurd (cc)

-- without an array a call is skipped
skips_call : (asked : Call) → Does None (order_of_call asked) (record { text = line (codes "skipped"); refused = false; after = None })
skips_call (call.StoreChunk indices held) = refl
skips_call (call.StoreChunks range held) = refl
skips_call (call.StoreChunkSubset indices part held) = refl
skips_call (call.StoreArraySubset region held) = refl
skips_call (call.EraseChunk indices) = refl
skips_call (call.EraseChunks range) = refl
skips_call (call.CompactChunk indices) = refl
skips_call (call.RetrieveChunkIfExists indices) = refl
skips_call (call.RetrieveChunk indices) = refl
skips_call (call.RetrieveChunks range) = refl
skips_call (call.RetrieveChunkSubset indices part) = refl
skips_call (call.RetrieveArraySubset region) = refl
skips_call (call.Resize shape) = refl

-- one outcome after another
abbrev pub joined : Outcome → Outcome → Outcome
joined first second = record { text = first.text ++ second.text; refused = first.refused || second.refused; after = second.after }

or_assoc : (a b c : Bool) → ((a || b) || c) ≡ (a || (b || c))
or_assoc true b c = refl
or_assoc false b c = refl

joined_assoc : (a b c : Outcome) → joined (joined a b) c ≡ joined a (joined b c)
joined_assoc a b c = rw (append_assoc a.text b.text c.text, or_assoc a.refused b.refused c.refused) refl

-- the transcript of some orders, and then of more
pub transcript_append : (before : Session) (orders more : List Order) (first second : Outcome) → Transcript before orders first → Transcript first.after more second → Transcript before (orders ++ more) (joined first second)
transcript_append before [] more first second is next =
    subst (λ (f : Outcome). Transcript f.after more second → Transcript before more (joined f second)) (sym is) (λ h. h) next
transcript_append before (order ∷ orders) more first second (one, does, rest, goes, is) next = (
  one,
  does,
  joined rest second,
  transcript_append one.after orders more rest second goes (subst (λ (f : Outcome). Transcript f.after more second) is next),
  ap (λ (f : Outcome). joined f second) is ∙ joined_assoc one rest second,
)

or_false : (b : Bool) → (b || false) ≡ b
or_false true = refl
or_false false = refl

one_order : (before : Session) (order : Order) (outcome : Outcome) → Does before order outcome → Transcript before (order ∷ []) outcome
one_order before order outcome does = (outcome, does, record { text = []; refused = false; after = outcome.after }, refl, rw (append-nil outcome.text, or_false outcome.refused) refl)

-- one more order
pub one_more : (before middle after : Session) (orders : List Order) (order : Order) (out text : List ℕ) (refused again : Bool)
    → Follows before orders out refused middle → Does middle order (record { text = text; refused = again; after = after })
    → Follows before (orders ++ order ∷ []) (out ++ text) (refused || again) after
one_more before middle after orders order out text refused again so_far here =
    let first : Outcome = record { text = out; refused = refused; after = middle } in
    let second : Outcome = record { text = text; refused = again; after = after } in
    transcript_append before orders (order ∷ []) first second so_far (one_order middle order second here)

-- a command without an array
pub command_skipped : (array : Option OpenArray) (command : Command) (text : List ℕ) → None ≡ array → ((creation : Creation) → command ≡ command_of.Array creation → ⊥) → text ≡ line (codes "skipped")
    → Does (session_of array) (order_of_command command) (record { text = text; refused = false; after = session_of array })
command_skipped array (command_of.Array creation) text absent other prints = absurd (other creation refl)
command_skipped array (command_of.Call asked) text absent other prints = rw (← absent, prints) (skips_call asked)
command_skipped array command_of.Keys text absent other prints = rw (← absent, prints) refl
command_skipped array command_of.Meta text absent other prints = rw (← absent, prints) refl

-- a `keys` line
pub keys_listed : (array : OpenArray) (before : Option OpenArray) (command : Command) (text : List ℕ) → Some array ≡ before → command ≡ command_of.Keys → ListsContent (opened array) text
    → Does (session_of before) (order_of_command command) (record { text = text; refused = false; after = Some (opened array) })
keys_listed array before command text old is lists = rw (← old, is) (record { lists = lists; refused = refl; after = refl })

-- a `meta` line
pub meta_shown : (array : OpenArray) (before : Option OpenArray) (command : Command) (text : List ℕ) → Some array ≡ before → command ≡ command_of.Meta → text ≡ line (text_of_metadata (metadata_of_array array.array))
    → Does (session_of before) (order_of_command command) (record { text = text; refused = false; after = Some (opened array) })
meta_shown array before command text old is prints = rw (← old, is, prints) refl

-- an `array` line
pub array_opened : (before : Option OpenArray) (command : Command) (creation : Creation) (outcome : Outcome) → command ≡ command_of.Array creation
    → Opens creation.shape.items creation.chunk_shape.items creation.cell_type creation.fill.items outcome → Does (session_of before) (order_of_command command) outcome
array_opened before command creation outcome is opens = rw is opens
