use Rattle.std.proofs.Common.{◌≡◌, ◌&&◌, Bool, false, List, ◌∷◌, [], refl, sym, subst, ap, ◌∙◌, arith}
use Rattle.std.proofs.Math.Logic.{∥∥₁_map}
use Rattle.std.proofs.lemmas.Result.{IfOk-weaker, on_err_weaker}
use Rattle.serde_json.specs.Written.{has_float}
use Rattle.zarrs_storage.specs.Memory.{open_state}
use Rattle.zarrs_storage.specs.Store.{StoreState}
use Rattle.zarrs_metadata.specs.Versions.{MetadataData, data_of_metadata}
use Rattle.zarrs_data_type.specs.Same.{kind_eq, kind_eq-Decides}
use Rattle.zarrs_engine_calls.specs.Layout.{Layout}
use Rattle.zarrs_engine_calls.specs.declared.call.Reply.{Reply}
use Rattle.zarrs_engine_calls.specs.Step.{Run}
use Rattle.zarrs_codec.specs.Options.{encodes_partially, stores_empty_chunks}
use Rattle.zarrs_engine_calls.specs.Patches.{writes_parts}
use Rattle.zarrs_engine_calls.specs.Canon.{IsCanonical}
use Rattle.zarrs_engine_calls.specs.Content.{value_at}
use Rattle.zarrs_engine.specs.Outcomes.{RunsAs}
use Rattle.zarrs.specs.Arrays.{layout_of_array, metadata_of_array, state_of_array, store_of_array, IsUntouched}
use Rattle.zarrs_script.specs.CellTypes.{kind_of_cells}
use Rattle.zarrs_script.proofs.Contents.{chunks_stay_alone}
use Rattle.zarrs_script.proofs.Printing.{puts_as}
use Rattle.zarrs_script.proofs.Reshaped.{floats_kept}
use Rattle.zarrs_script.proofs.Transcripts.{one_reply, some_reply, reply_said, call_served}
use Rattle.zarrs_script.proofs.run.make_call.Goals as goal

-- no part is written by itself that is not asked for
not_asked : (asked : Bool) (layout : Layout) (state : StoreState) → asked ≡ false → writes_parts asked layout state ≡ false
not_asked asked layout state off = ap (λ b. b && (layout.chain.encodes_partly && state.sets_parts)) off

pub replay-requires : goal.replay-requires
replay-requires g c = ((λ located index reached long. record { key = refl; places = λ place. refl }), λ later leaves. tt)

pub unreachable-requires : goal.unreachable-requires
unreachable-requires g c =
    let old = c.args.array.now in
    let replies = c.in_ok-replies.replies.items in
    some_reply (layout_of_array old.array) (stores_empty_chunks c.default-options.result) c.args.call replies (state_of_array open_state old.array) (state_of_array open_state c.replay.new.self)
    (omega (arith, c.in_default.ensures.cases.0)) (c.in_ok-replies.ensures.run.run (not_asked (encodes_partially c.default-options.result) (layout_of_array c.args.array.now.array) (open_state c.args.array.now.array.engine.storage) c.default-options.ensures.1))

pub put_reply-requires : goal.put_reply-requires
put_reply-requires g c =
    let old = c.args.array.now in
    let keep = stores_empty_chunks c.default-options.result in
    let before = state_of_array open_state old.array in
    let after = state_of_array open_state c.replay.new.self in
    let typed = (kind_eq-Decides (layout_of_array old.array).kind (kind_of_cells old.cell_type)).0 old.typed in
    reply_said old.cell_type (layout_of_array old.array) keep c.args.call c.in-Some.reply before after typed
    (one_reply (layout_of_array old.array) keep c.args.call c.pop.new.self.items c.in-Some.reply before after
    (subst (λ (replies : List Reply). Run (layout_of_array old.array) keep (c.args.call ∷ []) replies before after) c.in-Some.ensures.items (c.in_ok-replies.ensures.run.run (not_asked (encodes_partially c.default-options.result) (layout_of_array c.args.array.now.array) (open_state c.args.array.now.array.engine.storage) c.default-options.ensures.1))))

pub returns : goal.returns
returns g c =
    let old = c.args.array.now in
    let kept = c.replay.ensures.kept in
    let keep = stores_empty_chunks c.default-options.result in
    let before = state_of_array open_state old.array in
    let after = state_of_array open_state c.replay.new.self in
    puts_as (g.W.Write.contents c.args.writer.now) _ c.args.out.now.items _
    (call_served old.cell_type (layout_of_array old.array) (layout_of_array c.replay.new.self) (metadata_of_array old.array) (metadata_of_array c.replay.new.self) keep c.args.call c.in-Some.reply before after _
    c.default-options.ensures.0 c.replay.ensures.layout kept.metadata c.is_refusal.ensures
    (one_reply (layout_of_array old.array) keep c.args.call c.pop.new.self.items c.in-Some.reply before after
    (subst (λ (replies : List Reply). Run (layout_of_array old.array) keep (c.args.call ∷ []) replies before after) c.in-Some.ensures.items (c.in_ok-replies.ensures.run.run (not_asked (encodes_partially c.default-options.result) (layout_of_array c.args.array.now.array) (open_state c.args.array.now.array.engine.storage) c.default-options.ensures.1)))))
    c.in_ok-put_reply.ensures

pub invariant_of-array-clause-typed : goal.invariant_of-array-clause-typed
invariant_of-array-clause-typed g c =
    let old = c.args.array.now in
    ap (λ (layout : Layout). kind_eq layout.kind (kind_of_cells old.cell_type)) c.replay.ensures.layout ∙ old.typed

pub invariant_of-array-clause-plain : goal.invariant_of-array-clause-plain
invariant_of-array-clause-plain g c =
    let old = c.args.array.now in
    let shape = (state_of_array open_state c.replay.new.self).shape in
    ap (λ (m : MetadataData). has_float (data_of_metadata m)) c.replay.ensures.kept.metadata ∙ floats_kept (metadata_of_array old.array) shape ∙ old.plain

pub invariant_of-array-clause-canonical : goal.invariant_of-array-clause-canonical
invariant_of-array-clause-canonical g c =
    ∥∥₁_map c.args.array.now.canonical
    (λ canon. subst (λ (layout : Layout). IsCanonical layout (value_at (store_of_array open_state c.replay.new.self))) (sym c.replay.ensures.layout)
    ((c.replay.ensures.bytes (not_asked (encodes_partially c.default-options.result) (layout_of_array c.args.array.now.array) (open_state c.args.array.now.array.engine.storage) c.default-options.ensures.1)).canonical c.default-options.ensures.0 canon))

pub invariant_of-array-clause-alone : goal.invariant_of-array-clause-alone
invariant_of-array-clause-alone g c =
    let old = c.args.array.now in
    let layout = layout_of_array old.array in
    let options = c.default-options.result in
    let calls = c.args.call ∷ [] in
    let before = state_of_array open_state old.array in
    let after = state_of_array open_state c.replay.new.self in
    let asked = not_asked (encodes_partially options) layout before.store c.default-options.ensures.1 in
    let run = IfOk-weaker c.replay.result (λ replies. RunsAs layout options calls replies.items before after) (λ replies. Run layout (stores_empty_chunks options) calls replies.items before after)
    (λ replies is. is.run asked) c.replay.ensures.run in
    chunks_stay_alone (λ replies. replies.items) layout (layout_of_array c.replay.new.self) (stores_empty_chunks options) calls c.replay.result before after
    c.an_array_is_its_metadata.ensures.lawful c.replay.ensures.layout run (on_err_weaker c.replay.result (λ (u : IsUntouched old.array c.replay.new.self). ap open_state u.storage) c.replay.ensures.untouched) old.alone
