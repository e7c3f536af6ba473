use Rattle.std.proofs.Common.{◌≡◌, ◌∙◌, ◌≤◌, ap, sym, arith, rules, Some}
use Rattle.std.proofs.lemmas.Bool.{false≢true}
use Rattle.zarrs_data_type.specs.ArrayData.{data_of}
use Rattle.zarrs_codec_leaf.specs.Bytes.{bytes_meaning_of, endian_of}
use Rattle.zarrs_codec_leaf.specs.BytesLaws.{untaken_bytes}
use Rattle.zarrs_subset.specs.Boxes.{position_count}
use Rattle.zarrs_subset.specs.Regions.{box_of}
use Rattle.zarrs_data_type.specs.Kind.{kind, element_size}
use Rattle.zarrs_data_type_kinds.proofs.Sizes.{element_size-positive}
use Rattle.zarrs_codec_leaf.specs.Sources.{window_bytes}
use Rattle.zarrs_codec_leaf.proofs.RowReads.{count_fits}
use Rattle.zarrs_codec_chain.proofs.BytesParts.{may_read_part, read_part, part_refused, window_len, wrong_length}
use Rattle.std.proofs.Math.Nat.{mul-le-mul_left}
use Rattle.zarrs_codec_chain.proofs.Kept.{err_kept}
use Rattle.zarrs_codec_chain.proofs.AllOfIt.{whole_read}
use Rattle.zarrs_codec_chain.proofs.PartBoxes.{part_fits}
use Rattle.zarrs_codec_chain.proofs.SubchunkSteps.{refused_decoding}
use Rattle.zarrs_codec_chain.specs.PartRefusals.{RefusesPartDecoding}
use Rattle.zarrs_codec_chain.specs.declared.error.PartError.TheVariants as part_error
use Rattle.zarrs_codec_chain.proofs.bytes.partial_decode_bytes.Goals as goal

pub returns-then-not-takes-clause-refused : goal.returns-then-not-takes-clause-refused
returns-then-not-takes-clause-refused g c =
    untaken_bytes (endian_of c.args.codec.now) (kind c.args.data_type.now) _ _ (sym c.takes.ensures ∙ c.if-not-takes.true)

pub returns-then-not-is_length_of-clause-refused : goal.returns-then-not-is_length_of-clause-refused
returns-then-not-is_length_of-clause-refused g c =
    let is : element_size (kind c.args.data_type.now) ≡ Some c.in-Some.size = search rules in
    let len = window_len c.args.stored.now.window (g.B.ByteSource.bytes c.args.stored.now.source.now) c.args.stored.now.within in
    wrong_length (endian_of c.args.codec.now) (kind c.args.data_type.now) c.in-Some.size (position_count c.args.shape.now) _ is
    (λ same. let yes = c.is_length_of.ensures.1 (sym len ∙ same) in false≢true (sym c.if-not-is_length_of.true ∙ yes))

pub is_length_of-requires : goal.is_length_of-requires
is_length_of-requires g c =
    let is : element_size (kind c.args.data_type.now) ≡ Some c.in-Some.size = search rules in
    element_size-positive c.args.data_type.now c.in-Some.size is

pub read_box-requires-clause-size : goal.read_box-requires-clause-size
read_box-requires-clause-size g c =
    let is : element_size (kind c.args.data_type.now) ≡ Some c.in-Some.size = search rules in
    element_size-positive c.args.data_type.now c.in-Some.size is

pub read_box-requires-clause-len : goal.read_box-requires-clause-len
read_box-requires-clause-len g c = c.is_length_of.ensures.0 c.if-not-is_length_of.false

pub read_box-requires-clause-part : goal.read_box-requires-clause-part
read_box-requires-clause-part g c = part_fits (box_of c.args.part.now) c.args.shape.now c.args.part.now.same_length c.requires.part

pub read_box-requires-clause-may_read : goal.read_box-requires-clause-may_read
read_box-requires-clause-may_read g c =
    let is : element_size (kind c.args.data_type.now) ≡ Some c.in-Some.size = search rules in
    let source = g.B.ByteSource.bytes c.args.stored.now.source.now in
    let len = window_len c.args.stored.now.window source c.args.stored.now.within ∙ c.is_length_of.ensures.0 c.if-not-is_length_of.false in
    may_read_part (g.B.ByteSource.may_read c.args.stored.now.source.now) c.args.stored.now.window (kind c.args.data_type.now) c.in-Some.size c.args.shape.now (box_of c.args.part.now) (window_bytes c.args.stored.now.window source) is
    (part_fits (box_of c.args.part.now) c.args.shape.now c.args.part.now.same_length c.requires.part) len c.requires.may_read

pub unreachable-requires-in_default-num_elements : goal.unreachable-requires-in_default-num_elements
unreachable-requires-in_default-num_elements g c =
    let is : element_size (kind c.args.data_type.now) ≡ Some c.in-Some.size = search rules in
    let one : 1 ≤ c.in-Some.size = element_size-positive c.args.data_type.now c.in-Some.size is in
    let len = c.is_length_of.ensures.0 c.if-not-is_length_of.false in
    let fewer = count_fits _ _ _ (part_fits (box_of c.args.part.now) c.args.shape.now c.args.part.now.same_length c.requires.part) in
    omega (arith, mul-le-mul_left (position_count c.args.shape.now) one, len, fewer, c.in_default-num_elements.ensures.refused)

pub returns-in_err-decode_owned-clause-refused : goal.returns-in_err-decode_owned-clause-refused
returns-in_err-decode_owned-clause-refused g c =
    let k = kind c.args.data_type.now in
    let e = endian_of c.args.codec.now in
    let shape = c.args.shape.now in
    let part = box_of c.args.part.now in
    let source = g.B.ByteSource.bytes c.args.stored.now.source.now in
    let refuses = g.B.ByteSource.refuses c.args.stored.now.source.now in
    let got = c.in_ok-encoded.encoded.items in
    let is : element_size k ≡ Some c.in-Some.size = search rules in
    let count : c.in-Ok.count ≡ position_count part.shape = c.in-Ok.ensures.ok in
    let dec = (bytes_meaning_of e).decoded k (position_count shape) (window_bytes c.args.stored.now.window source) in
    err_kept c.from_residual-in_err-decode_owned.result (part_error.Codec c.in_err-decode_owned.field-0.0) (RefusesPartDecoding dec ⊥ refuses) c.from_residual-in_err-decode_owned.ensures.1
    (refused_decoding dec refuses (bytes_meaning_of e) k c.in-Ok.count got c.in_err-decode_owned.field-0.0 c.in_err-decode_owned.ensures.refused
    (λ none. part_refused e k c.in-Some.size shape part c.args.stored.now.window source got is c.args.part.now.same_length c.requires.part c.args.stored.now.within
    (c.is_length_of.ensures.0 c.if-not-is_length_of.false) c.in_ok-encoded.ensures.bytes (sym c.takes.ensures ∙ c.if-not-takes.false)
    (ap (λ n. (bytes_meaning_of e).decoded k n got) (sym count) ∙ none)))

pub returns-clause-part : goal.returns-clause-part
returns-clause-part g c =
    let is : element_size (kind c.args.data_type.now) ≡ Some c.in-Some.size = search rules in
    let source = g.B.ByteSource.bytes c.args.stored.now.source.now in
    let count : c.in-Ok.count ≡ position_count (box_of c.args.part.now).shape = c.in-Ok.ensures.ok in
    read_part (endian_of c.args.codec.now) (kind c.args.data_type.now) c.in-Some.size c.args.shape.now (box_of c.args.part.now) c.args.stored.now.window source c.in_ok-encoded.encoded.items (data_of c.in_ok-decode_owned.field-0)
    is c.args.part.now.same_length c.requires.part c.args.stored.now.within (c.is_length_of.ensures.0 c.if-not-is_length_of.false) c.in_ok-encoded.ensures.bytes
    (c.in_ok-decode_owned.ensures.cells ∙ ap (λ n. (bytes_meaning_of (endian_of c.args.codec.now)).decoded (kind c.args.data_type.now) n c.in_ok-encoded.encoded.items) count) c.in_ok-decode_owned.ensures.some

pub returns-clause-whole : goal.returns-clause-whole
returns-clause-whole g c = λ all.
    let source = g.B.ByteSource.bytes c.args.stored.now.source.now in
    let count : c.in-Ok.count ≡ position_count (box_of c.args.part.now).shape = c.in-Ok.ensures.ok in
    whole_read (endian_of c.args.codec.now) (kind c.args.data_type.now) c.in-Some.size c.args.shape.now (box_of c.args.part.now) c.args.stored.now.window source c.in_ok-encoded.encoded.items (data_of c.in_ok-decode_owned.field-0)
    all c.args.part.now.same_length c.requires.part (c.is_length_of.ensures.0 c.if-not-is_length_of.false) c.in_ok-encoded.ensures.bytes
    (c.in_ok-decode_owned.ensures.cells ∙ ap (λ n. (bytes_meaning_of (endian_of c.args.codec.now)).decoded (kind c.args.data_type.now) n c.in_ok-encoded.encoded.items) count)
