use Rattle.std.proofs.Common.{◌≡◌, ◌∙◌, ◌*◌, ◌<◌, ◌^◌, List, ℕ, ap, arith, length, rules, subst, sym}
use Rattle.zarrs_subset.specs.Boxes.{position_count}
use Rattle.zarrs_subset.specs.Regions.{Box, box_at_origin, box_of}
use Rattle.zarrs_data_type.specs.States.{data_of_target, parent_box, target_box}
use Rattle.zarrs_data_type_region.proofs.TargetBoxes.{bytes_within}
use Rattle.zarrs_data_type_region.proofs.Kept.{keeps_itself}
use Rattle.zarrs_data_type_region.proofs.TypeSizes.{type_taken}
use Rattle.zarrs_data_type.specs.Kind.{cell_size}
use Rattle.zarrs_data_type.specs.Cell.{held_size}
use Rattle.zarrs_data_type_kinds.proofs.Values.{fill-value}
use Rattle.zarrs_data_type_bytes.proofs.FixedSizes.{held_fixed, size_is}
use Rattle.zarrs_data_type.specs.CellTypes.{filling, kind_of}
use Rattle.zarrs_codec_chain.specs.Parts.{DecodesInto}
use Rattle.zarrs_codec_chain.specs.PartRefusals.{RefusesIntoDecoding}
use Rattle.zarrs_codec_chain.specs.Refusals.{IsTooLargeToDecode}
use Rattle.zarrs_codec_leaf.specs.Sources.{window_bytes}
use Rattle.std.proofs.lemmas.Bool.{false≢true}
use Rattle.zarrs_codec_chain.proofs.AllOfIt.{all_bytes, whole_part, whole_refused}
use Rattle.zarrs_codec_chain.proofs.traits.ChainTraits.decode_into.Goals as goal

pub returns-in_err-from_slice-clause-kept : goal.returns-in_err-from_slice-clause-kept
returns-in_err-from_slice-clause-kept g c = keeps_itself c.args.target.now

pub returns-in_err-whole-clause-kept : goal.returns-in_err-whole-clause-kept
returns-in_err-whole-clause-kept g c = keeps_itself c.args.target.now

pub returns-in-Ok-clause-cells : goal.returns-in-Ok-clause-cells
returns-in-Ok-clause-cells g c =
    let t = c.args.target.now in
    let k = kind_of c.args.cell_type.now in
    let f = filling c.args.cell_type.now in
    let m = g.Self.ChainTraits.meaning c.args.self.now in
    let own = target_box t in
    let s = c.shape-shape.result.now in
    let shape : s ≡ own.shape = search rules in
    let part : box_of c.in_ok-whole.whole ≡ box_at_origin s = search rules in
    let new = data_of_target c.partial_decode_into.new.target in
    let decoded = whole_part k t.parent_shape.now s (box_of c.in_ok-whole.whole) own _ new t.region.now.same_length (sym shape) part
    (c.in-Ok.ensures.whole (ap (λ (b : Box). b.shape) part)) c.in-Ok.ensures.cells in
    subst (λ (x : List ℕ). DecodesInto k (parent_box t) own (m.decoded k f x c.args.encoded.now) new) shape
    (subst (λ (b : List ℕ). DecodesInto k (parent_box t) own (m.decoded k f s b) new) (all_bytes c.args.encoded.now) decoded)

pub returns-clause-refused : goal.returns-clause-refused
returns-clause-refused g c =
    let t = c.args.target.now in
    let k = kind_of c.args.cell_type.now in
    let f = filling c.args.cell_type.now in
    let m = g.Self.ChainTraits.meaning c.args.self.now in
    let s = c.shape-shape.result.now in
    let shape : s ≡ (target_box t).shape = search rules in
    let enc = c.args.encoded.now in
    let part = box_of c.in_ok-whole.whole in
    let read = window_bytes (record { offset = 0; len = length enc }) enc in
    let made = c.whole_error.result in
    let fixed_is = (type_taken t.cell_size t.depth k c.requires.takes).0 in
    let size : cell_size k ≡ t.cell_size = size_is k t.cell_size fixed_is in
    let held : held_size k f ≡ t.cell_size = held_fixed k t.cell_size f fixed_is (fill-value k c.args.cell_type.now.fill_value c.args.cell_type.now.filled) in
    let within = bytes_within _ t.cell_size _ t.depth t.parent_shape.now (target_box t) t.region.now.same_length t.whole in
    let cells_small : position_count s * cell_size k < 2 ^ 64 =
    omega (arith, within, t.whole.small, ap (λ (x : List ℕ). position_count x * cell_size k) shape, ap (λ n. position_count (target_box t).shape * n) size) in
    let fill_small : position_count s * held_size k f < 2 ^ 64 =
    omega (arith, within, t.whole.small, ap (λ (x : List ℕ). position_count x * held_size k f) shape, ap (λ n. position_count (target_box t).shape * n) held) in
    let none_large = (g.met.Self.ChainTraits.lawful c.args.self.now).reads_within k f s part read cells_small fill_small in
    subst (λ (x : List ℕ). RefusesIntoDecoding (m.decoded k f x enc) made) shape
    (subst (λ (x : List ℕ). RefusesIntoDecoding (m.decoded k f s x) made) (all_bytes enc)
    (whole_refused _ (IsTooLargeToDecode m k f s part read) _ made (λ large. false≢true (sym none_large ∙ large)) c.in-Err.ensures.refused c.whole_error.ensures))
