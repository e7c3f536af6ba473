use Rattle.std.proofs.Common.{arith, ◌≡◌, ◌-◌, List, ℕ, None, IsSome, ap, ◌∙◌, sym, subst, length, take, ◌++◌}
use Rattle.std.specs.Prelude.{is_some, not, ◌&&◌}
use Rattle.std.proofs.lemmas.List.{length-append, take_at}
use Rattle.std.proofs.lemmas.Result.{IfOk-weaker}
use Rattle.zarrs_data_type.specs.ArrayData.{fixed}
use Rattle.zarrs_data_type.specs.Cells.{cells}
use Rattle.zarrs_data_type_bytes.proofs.Fixed.{length-fixed}
use Rattle.zarrs_subset.specs.Boxes.{position_count}
use Rattle.zarrs_subset.specs.Regions.{box_from, box_of}
use Rattle.zarrs_data_type_kinds.proofs.Sizes.{element_size-positive}
use Rattle.zarrs_data_type.specs.Cell.{Cell, fill_of}
use Rattle.zarrs_data_type.specs.Kind.{kind}
use Rattle.zarrs_codec_shard.specs.Sharded.{is_all_fill}
use Rattle.zarrs_codec_shard.specs.Shards.{entry_bytes}
use Rattle.zarrs_codec_shard.proofs.PushedCells.{added_extracts, at_some, behind_is, pushes_added, pushes_again, pushes_fill}
use Rattle.zarrs_codec_shard.proofs.ShardWriting.{writing_present}
use Rattle.zarrs_codec_shard.proofs.shard_index.ShardWriter.push_cells.Goals as goal

pub add_cells-requires-clause-positive : goal.add_cells-requires-clause-positive
add_cells-requires-clause-positive c =
    element_size-positive c.args.data_type.now c.unwrap-size.result (sym c.element_size.ensures ∙ c.unwrap-size.ensures)

pub add_cells-requires-clause-held_len : goal.add_cells-requires-clause-held_len
add_cells-requires-clause-held_len c =
    length-fixed (kind c.args.data_type.now) c.unwrap-size.result (sym c.element_size.ensures ∙ c.unwrap-size.ensures) c.args.bytes.now (position_count (box_of c.args.held_box.now).shape) c.requires.held

pub is_left_out-requires-clause-has_cells : goal.is_left_out-requires-clause-has_cells
is_left_out-requires-clause-has_cells c =
    let t = c.args.data_type.now in
    let k = kind t in
    let held = box_of c.args.held_box.now in
    let part = box_from c.args.corner.now c.args.shape.now in
    let bytes = c.args.bytes.now in
    let old = c.args.self.now.encoded.items in
    let x = c.in_ok-add_cells.ensures.added in
    let at : length old ≡ c.len-start.result = omega (arith, c.args.self.now.encoded.ok.0, c.len-start.ensures) in
    let slice = behind_is old x.added c.deref.result.now c.len-start.result (c.deref.ensures.value ∙ x.new_is) at in
    let e = added_extracts t c.unwrap-size.result held part bytes x.added (sym c.element_size.ensures ∙ c.unwrap-size.ensures) c.args.held_box.now.same_length c.requires.long c.requires.inside c.requires.held x.count x.cells_are in
    subst (λ (b : List ℕ). IsSome (cells k (fixed b))) (sym slice) (ap is_some e.new_is)

pub returns-then-is_left_out-clause-pushed : goal.returns-then-is_left_out-clause-pushed
returns-then-is_left_out-clause-pushed c =
    let t = c.args.data_type.now in
    let k = kind t in
    let f = fill_of k c.args.fill_value.now in
    let empty = c.args.store_empty in
    let held = box_of c.args.held_box.now in
    let part = box_from c.args.corner.now c.args.shape.now in
    let bytes = c.args.bytes.now in
    let old = c.args.self.now.encoded.items in
    let x = c.in_ok-add_cells.ensures.added in
    let at : length old ≡ c.len-start.result = omega (arith, c.args.self.now.encoded.ok.0, c.len-start.ensures) in
    let slice = behind_is old x.added c.deref.result.now c.len-start.result (c.deref.ensures.value ∙ x.new_is) at in
    let e = added_extracts t c.unwrap-size.result held part bytes x.added (sym c.element_size.ensures ∙ c.unwrap-size.ensures) c.args.held_box.now.same_length c.requires.long c.requires.inside c.requires.held x.count x.cells_are in
    let left = at_some _ e.made (λ (cs : List Cell). c.is_left_out.result ≡ (not empty && is_all_fill f cs)) (ap (λ (b : List ℕ). cells k (fixed b)) slice ∙ e.new_is) c.is_left_out.ensures in
    IfOk-weaker c.push_absent.result _ _
    (λ done pushes. pushes_fill k empty f held bytes part c.args.self.now c.push_absent.new.self x.added e (sym left ∙ c.if-is_left_out.true)
    (pushes_again c.args.self.now _ c.push_absent.new.self None
    (record { place_is = c.add_cells.ensures.at_start; encoded_is = c.truncate.ensures.items ∙ ap (take c.len-start.result) x.new_is ∙ take_at old x.added c.len-start.result at; entries_are = ap (λ v. v.items) c.add_cells.ensures.entries }) pushes))
    c.push_absent.ensures.pushed

pub returns-else-is_err-clause-pushed : goal.returns-else-is_err-clause-pushed
returns-else-is_err-clause-pushed c =
    let t = c.args.data_type.now in
    let k = kind t in
    let f = fill_of k c.args.fill_value.now in
    let empty = c.args.store_empty in
    let held = box_of c.args.held_box.now in
    let part = box_from c.args.corner.now c.args.shape.now in
    let bytes = c.args.bytes.now in
    let old = c.args.self.now.encoded.items in
    let x = c.in_ok-add_cells.ensures.added in
    let at : length old ≡ c.len-start.result = omega (arith, c.args.self.now.encoded.ok.0, c.len-start.ensures) in
    let slice = behind_is old x.added c.deref.result.now c.len-start.result (c.deref.ensures.value ∙ x.new_is) at in
    let e = added_extracts t c.unwrap-size.result held part bytes x.added (sym c.element_size.ensures ∙ c.unwrap-size.ensures) c.args.held_box.now.same_length c.requires.long c.requires.inside c.requires.held x.count x.cells_are in
    let left = at_some _ e.made (λ (cs : List Cell). c.is_left_out.result ≡ (not empty && is_all_fill f cs)) (ap (λ (b : List ℕ). cells k (fixed b)) slice ∙ e.new_is) c.is_left_out.ensures in
    let long : c.len.result - c.len-start.result ≡ length x.added =
    omega (arith, ap length x.new_is, length-append old x.added, c.len.ensures, c.add_cells.new.self.encoded.ok.0, at) in
    IfOk-weaker c.push_entry-pushed.result _ _
    (λ done entries_are. pushes_added k empty f held bytes part c.args.self.now c.push_entry-pushed.new.self x.added e (sym left ∙ c.if-is_left_out.false)
    (writing_present c.args.self.now c.push_entry-pushed.new.self x.added (c.push_entry-pushed.ensures.at_start ∙ c.add_cells.ensures.at_start)
    (entries_are
    ∙ ap (λ v. v.items ++ entry_bytes c.len-start.result (c.len.result - c.len-start.result)) c.add_cells.ensures.entries
    ∙ ap (λ o. c.args.self.now.entries.items ++ entry_bytes o (c.len.result - c.len-start.result)) (sym at)
    ∙ ap (λ n. c.args.self.now.entries.items ++ entry_bytes (length old) n) long)
    (ap (λ v. v.items) c.push_entry-pushed.ensures.encoded ∙ x.new_is)))
    c.push_entry-pushed.ensures.entries
