use Rattle.std.proofs.Common.{◌≡◌, ℕ, false, List, Option, None, codes, refl}
use Rattle.zarrs_engine_calls.specs.declared.call.Call.{Call}
use Rattle.zarrs.specs.Arrays.{metadata_of_array}
use Rattle.zarrs_script.specs.declared.array.OpenArray.{OpenArray}
use Rattle.zarrs_script.specs.declared.command.Creation.{Creation}
use Rattle.zarrs_script.specs.declared.command.Command.{Command}
use Rattle.zarrs_script.specs.declared.command.Command.TheVariants as command_of
use Rattle.zarrs_script.specs.Parsed.{order_of_command}
use Rattle.zarrs_script.specs.Parts.{text_of_metadata}
use Rattle.zarrs_script.specs.Sessions.{session_of}
use Rattle.zarrs_script.specs.Transcript.{Does, line}
use Rattle.zarrs_script.proofs.Printing.{puts_as, puts_pending}
use Rattle.zarrs_script.proofs.Transcripts.{array_opened, command_skipped, keys_listed, meta_shown}
use Rattle.zarrs_script.proofs.run.run_command.Goals as goal

no_array : (asked : Call) (creation : Creation) → command_of.Call asked ≡ command_of.Array creation → ⊥
no_array asked creation e = cc

-- a call without an array
call_skipped : (array : Option OpenArray) (command : Command) (asked : Call) (text : List ℕ) → None ≡ array → command ≡ command_of.Call asked → text ≡ line (codes "skipped")
    → Does (session_of array) (order_of_command command) (record { text = text; refused = false; after = session_of array })
call_skipped array command asked text absent is prints = rw is (command_skipped array (command_of.Call asked) text absent (no_array asked) prints)

-- a `keys` line without an array
keys_skipped : (array : Option OpenArray) (command : Command) (text : List ℕ) → None ≡ array → command ≡ command_of.Keys → text ≡ line (codes "skipped")
    → Does (session_of array) (order_of_command command) (record { text = text; refused = false; after = session_of array })
keys_skipped array command text absent is prints = rw (← absent, is, prints) refl

-- a `meta` line without an array
meta_skipped : (array : Option OpenArray) (command : Command) (text : List ℕ) → None ≡ array → command ≡ command_of.Meta → text ≡ line (codes "skipped")
    → Does (session_of array) (order_of_command command) (record { text = text; refused = false; after = session_of array })
meta_skipped array command text absent is prints = rw (← absent, is, prints) refl

pub returns-in_ok-opening-in-Array-default : goal.returns-in_ok-opening-in-Array-default
returns-in_ok-opening-in-Array-default g c =
    let arm = c.in_ok-opening-in-Array-default in
    let printed = arm.ensures in
    puts_pending (g.W.Write.contents c.args.writer.now) c.args.out.now.items c.open.new.out.items printed.0 printed.1
    (array_opened c.args.array.now c.args.command c.in-Array-default.creation _ c.in-Array-default.is-0 printed.2)

pub returns-in_ok-put_content-in-Keys-Some : goal.returns-in_ok-put_content-in-Keys-Some
returns-in_ok-put_content-in-Keys-Some g c =
    puts_as (g.W.Write.contents c.args.writer.now) _ c.args.out.now.items _
    (λ text lists. keys_listed c.in-Keys-Some.array.now c.args.array.now c.args.command text c.in-Keys-Some.ensures.value c.in-Keys-Some.is-0 lists)
    c.in_ok-put_content-in-Keys-Some.ensures

pub returns-in_ok-put_metadata-in-Meta-Some : goal.returns-in_ok-put_metadata-in-Meta-Some
returns-in_ok-put_metadata-in-Meta-Some g c =
    let shown = line (text_of_metadata (metadata_of_array c.in-Meta-Some.array.now.array)) in
    puts_pending (g.W.Write.contents c.args.writer.now) c.args.out.now.items _ shown (rw c.metadata.ensures at c.in_ok-put_metadata-in-Meta-Some.ensures)
    (meta_shown c.in-Meta-Some.array.now c.args.array.now c.args.command shown c.in-Meta-Some.ensures.value c.in-Meta-Some.is-0 refl)

pub returns-in_ok-put_skipped-in-Meta-None : goal.returns-in_ok-put_skipped-in-Meta-None
returns-in_ok-put_skipped-in-Meta-None g c =
    puts_pending (g.W.Write.contents c.args.writer.now) c.args.out.now.items _ (line (codes "skipped")) c.in_ok-put_skipped-in-Meta-None.ensures
    (meta_skipped c.args.array.now c.args.command (line (codes "skipped")) c.in-Meta-None.ensures.value c.in-Meta-None.is-0 refl)

pub returns-in_ok-put_skipped-in-Call-None : goal.returns-in_ok-put_skipped-in-Call-None
returns-in_ok-put_skipped-in-Call-None g c =
    puts_pending (g.W.Write.contents c.args.writer.now) c.args.out.now.items _ (line (codes "skipped")) c.in_ok-put_skipped-in-Call-None.ensures
    (call_skipped c.args.array.now c.args.command _ (line (codes "skipped")) c.in-Call-None.ensures.value c.in-Call-None.is-0 refl)

pub returns-in_ok-put_skipped-in-Keys-None : goal.returns-in_ok-put_skipped-in-Keys-None
returns-in_ok-put_skipped-in-Keys-None g c =
    puts_pending (g.W.Write.contents c.args.writer.now) c.args.out.now.items _ (line (codes "skipped")) c.in_ok-put_skipped-in-Keys-None.ensures
    (keys_skipped c.args.array.now c.args.command (line (codes "skipped")) c.in-Keys-None.ensures.value c.in-Keys-None.is-0 refl)

pub returns-in-Call-Some : goal.returns-in-Call-Some
returns-in-Call-Some g c = rw (← c.in-Call-Some.ensures.value, c.in-Call-Some.is-0) c.make_call.ensures
