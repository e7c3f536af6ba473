-- What parsing returns.
use Rattle.std.specs.Prelude.{◌≡◌, ◌==◌, ℕ, List, [], ◌∷◌, ◌++◌, map, Option, Some, None, Result, Ok, Err, Vec}
use Rattle.std.specs.Borrow.{Bor}
use Rattle.std.specs.declared.alloc.Global.{Global}
use Rattle.std.specs.List.{slice_split}
use Rattle.zarrs_subset.specs.Regions.{box_of}
use Rattle.zarrs_data_type.specs.ArrayData.{data_of}
use Rattle.zarrs_engine_calls.specs.declared.call.Call.{Call}
use Rattle.zarrs_engine_calls.specs.declared.call.Call.TheVariants as call
use Rattle.zarrs_script.specs.declared.command.Creation.{Creation}
use Rattle.zarrs_script.specs.declared.command.Command.{Command}
use Rattle.zarrs_script.specs.declared.command.Command.TheVariants as command
use Rattle.zarrs_script.specs.declared.error.ParseError.{ParseError}
use Rattle.zarrs_script.specs.declared.error.ParseError.TheVariants.{NotACommand, OutOfMemory}
use Rattle.zarrs_script.specs.declared.error.ScriptError.{ScriptError}
use Rattle.zarrs_script.specs.declared.error.ScriptError.TheVariants as script
use Rattle.zarrs_metadata_parts.specs.Extension.{◌>>=◌}
use Rattle.zarrs_script.specs.Script.{Order, Array, Chunk, Read, Erase, Put, Get, Resize, Keys, Meta, Other, orders_of}

-- a text that says this is refused with this error: it says nothing, or out of memory
abbrev pub Fails : {Y : Type 0} → ParseError → Option Y → Type 0
Fails NotACommand said = said ≡ None
Fails OutOfMemory said = Unit {0}

-- what a function returned, seen by view, is what the text says, unless out of memory
abbrev pub Gives : {X Y : Type 0} → (X → Y) → Result X ParseError → Option Y → Type 0
Gives view (Ok x) said = said ≡ Some (view x)
Gives view (Err e) said = Fails e said

-- a list grew by what the text says, unless out of memory
abbrev pub Grows : Result (Unit {0}) ParseError → List ℕ → List ℕ → Option (List ℕ) → Type 0
Grows (Ok _) old new said = (said >>= λ more. Some (old ++ more)) ≡ Some new
Grows (Err e) old new said = Fails e said

abbrev pub order_of_creation : Creation → Order
order_of_creation made = Array made.shape.items made.chunk_shape.items made.cell_type made.fill.items

-- what the line of a call asks for
abbrev pub order_of_call : Call → Order
order_of_call (call.StoreChunk indices held) = Chunk indices.items (data_of held)
order_of_call (call.RetrieveChunk indices) = Read indices.items
order_of_call (call.EraseChunk indices) = Erase indices.items
order_of_call (call.StoreArraySubset region held) = Put (box_of region) (data_of held)
order_of_call (call.RetrieveArraySubset region) = Get (box_of region)
order_of_call (call.Resize shape) = Resize shape.items
order_of_call _ = Other

abbrev pub order_of_command : Command → Order
order_of_command (command.Array made) = order_of_creation made
order_of_command (command.Call asked) = order_of_call asked
order_of_command command.Keys = Keys
order_of_command command.Meta = Meta

-- the words of a line that are still to be read
abbrev pub words_in : Option (Bor (List ℕ)) → List (List ℕ)
words_in None = []
words_in (Some rest) = slice_split (λ b. b == 32) rest.now

-- the first of the words, and the others; or there is none
abbrev pub TakesWord : Option (Bor (List ℕ)) → Result (Bor (List ℕ) × Option (Bor (List ℕ))) ParseError → Type 0
TakesWord words (Ok (word, others)) = words_in words ≡ word.now ∷ words_in others
TakesWord words (Err e) = (e ≡ NotACommand) × (words_in words ≡ [])

-- the one word that is left; or there is none, or there are more
abbrev pub TakesLastWord : Option (Bor (List ℕ)) → Result (Bor (List ℕ)) ParseError → Type 0
TakesLastWord words (Ok word) = words_in words ≡ word.now ∷ []
TakesLastWord words (Err e) = (e ≡ NotACommand) × ((word : List ℕ) → words_in words ≡ word ∷ [] → ⊥)

-- the commands of a script ask for its orders, or this is the number of the first line that is not a command, or out of memory
abbrev pub GivesOrders : List ℕ → Result (Vec Command Global) ScriptError → Type 0
GivesOrders text (Ok commands) = orders_of text ≡ Ok (map order_of_command commands.items)
GivesOrders text (Err (script.BadLine n)) = orders_of text ≡ Err n
GivesOrders text (Err script.OutOfMemory) = Unit {0}
