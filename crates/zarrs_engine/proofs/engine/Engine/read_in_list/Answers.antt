use Rattle.std.proofs.Common.{◌≡◌, ◌∙◌, ◌*◌, ◌<◌, ◌^◌, ℕ, List, Some, length, replicate, rules, ap, sym, subst}
use Rattle.std.specs.Vec.{with_items}
use Rattle.std.proofs.lemmas.List.{with_items_is}
use Rattle.zarrs_subset.specs.Boxes.{position_count}
use Rattle.zarrs_subset.specs.Regions.{box_of, positions}
use Rattle.zarrs_data_type_kinds.proofs.Sizes.{element_size-positive}
use Rattle.zarrs_data_type.specs.ArrayData.{ArrayData, data_of, fixed}
use Rattle.zarrs_data_type.specs.Cells.{cells}
use Rattle.zarrs_data_type.specs.Kind.{cell_size}
use Rattle.zarrs_data_type.specs.Targets.{masked}
use Rattle.zarrs_data_type_region.proofs.TypeSizes.{type_taken}
use Rattle.zarrs_engine_calls.specs.Reads.{ReadsRegion}
use Rattle.zarrs_engine.specs.Engine.{layout_of}
use Rattle.zarrs_engine.proofs.RegionLists.{AreFlags, lists_read}
use Rattle.zarrs_engine.proofs.engine.Engine.read_in_list.Goals as goal
use Rattle.zarrs_data_type_bytes.proofs.FixedSizes.{size_is}

pub first_bytes-requires-clause-size : goal.first_bytes-requires-clause-size
first_bytes-requires-clause-size g c =
    let layout = layout_of c.args.self.now in
    let form = c.args.form in
    let size : cell_size layout.kind ≡ form.size = size_is layout.kind form.size (type_taken form.size form.depth layout.kind c.requires.takes).0 in
    let fit : c.in_ok-count.count * form.size < 2 ^ 64 = subst (λ n. c.in_ok-count.count * n < 2 ^ 64) size c.in_ok-count.ensures.answer.1 in
    search (rules, fit)

pub read_into_list-requires-clause-filled : goal.read_into_list-requires-clause-filled
read_into_list-requires-clause-filled g c = λ plain.
    let layout = layout_of c.args.self.now in
    let n = position_count (box_of c.args.region.now).shape in
    let bytes = c.in_ok-bytes.bytes.items in
    subst (λ (b : List ℕ). cells layout.kind (fixed b) ≡ Some (replicate n layout.fill)) (sym c.deref_mut.ensures.value)
    (subst (λ m. cells layout.kind (fixed bytes) ≡ Some (replicate m layout.fill)) c.in_ok-count.ensures.answer.0 (c.in_ok-bytes.ensures.filled plain))

pub returns : goal.returns
returns g c =
    let layout = layout_of c.args.self.now in
    let state = g.S.ReadableStorageTraits.state c.args.self.now.storage in
    let region = box_of c.args.region.now in
    let chunks = positions (box_of c.args.chunks.now) in
    let form = c.args.form in
    let n = position_count region.shape in
    let bytes = c.read_into_list.new.bytes in
    let masks = c.read_into_list.new.masks in
    let flags = c.into_flags.result.items in
    let count : c.in_ok-count.count ≡ n = c.in_ok-count.ensures.answer.0 in
    let bytes_are : (with_items c.in_ok-bytes.bytes bytes).items ≡ bytes = with_items_is c.in_ok-bytes.bytes bytes (c.read_into_list.auto.bytes ∙ c.deref_mut.ensures.len) in
    let masks_are : (with_items c.in_ok-masks.masks masks).items ≡ masks = with_items_is c.in_ok-masks.masks masks (c.read_into_list.auto.masks ∙ c.deref_mut-2.ensures.len) in
    let made : data_of c.in_ok-made.made ≡ masked form.depth c.in_ok-count.count flags (with_items c.in_ok-bytes.bytes bytes).items = c.in_ok-made.ensures in
    let made_is = made ∙ ap (masked form.depth c.in_ok-count.count flags) bytes_are ∙ ap (λ m. masked form.depth m flags bytes) count in
    let bytes_len : length bytes ≡ n * form.size =
    c.read_into_list.auto.bytes ∙ ap length c.deref_mut.ensures.value ∙ c.in_ok-bytes.ensures.len ∙ ap (λ m. m * form.size) count in
    let masks_len : length masks ≡ n * form.depth =
    c.read_into_list.auto.masks ∙ ap length c.deref_mut-2.ensures.value ∙ c.in_ok-masks.ensures ∙ ap (λ m. m * form.depth) count in
    let are = subst (λ (m : List ℕ). AreFlags m flags) masks_are (c.into_flags.ensures.len, c.into_flags.ensures.same) in
    let read =
    lists_read layout region chunks state form.size form.depth masks flags bytes c.requires.over.cover c.requires.takes (element_size-positive c.args.self.now.layout.cell_type.data_type) bytes_len masks_len are
    c.in_ok-read_into_list.ensures.read in
    record {
      read = subst (λ (d : ArrayData). ReadsRegion layout region chunks d state) (sym made_is) read;
      accepted = c.in_ok-count.ensures.accepted;
      refused = tt;
    }
