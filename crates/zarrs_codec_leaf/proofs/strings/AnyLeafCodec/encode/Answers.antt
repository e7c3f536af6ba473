use Rattle.std.proofs.Common.{ap, sym, subst, ◌∙◌}
use Rattle.std.specs.Prelude.{IsSome, option_map}
use Rattle.std.specs.Cow.{cow_slice_items}
use Rattle.zarrs_data_type.specs.ArrayData.{data_of, variable}
use Rattle.zarrs_data_type.specs.Cells.{cells}
use Rattle.zarrs_data_type.specs.Kind.{kind}
use Rattle.zarrs_codec_leaf.proofs.StringData.{encoding_of-strings, fixed_untaken, optional_untaken}
use Rattle.zarrs_codec_leaf.proofs.strings.AnyLeafCodec.encode.Goals as goal

pub returns-in-Fixed-clause-refused : goal.returns-in-Fixed-clause-refused
returns-in-Fixed-clause-refused g c =
    let k = kind c.args.data_type.now in
    let there = subst (λ x. IsSome (cells k (data_of x))) c.in-Fixed.is c.requires in
    fixed_untaken (g.C.StringsCodec.taken k) k (cow_slice_items c.in-Fixed.field-0) (g.C.StringsCodec.variable k) there

pub returns-in-Optional-clause-refused : goal.returns-in-Optional-clause-refused
returns-in-Optional-clause-refused g c =
    let k = kind c.args.data_type.now in
    optional_untaken (g.C.StringsCodec.taken k) k c.in-Optional.field-0.mask (data_of c.in-Optional.field-0.data.value) (g.C.StringsCodec.variable k)
    (subst (λ x. IsSome (cells k (data_of x))) c.in-Optional.is c.requires)

pub returns-in-Some-clause-encoded : goal.returns-in-Some-clause-encoded
returns-in-Some-clause-encoded g c =
    let k = kind c.args.data_type.now in
    let taken = sym c.takes_type.ensures ∙ c.if-not-takes_type.false in
    encoding_of-strings g.C.StringsCodec.taken g.C.StringsCodec.written g.C.StringsCodec.read k taken (g.C.StringsCodec.variable k) (data_of c.args.bytes.now) c.in-Variable.strings (ap data_of c.in-Variable.is) c.requires
    ∙ sym (ap (option_map (λ encoded. encoded.items)) (sym c.in-Some.is) ∙ c.in_ok-encoded-in-Variable.ensures)

pub returns-in-None-clause-refused : goal.returns-in-None-clause-refused
returns-in-None-clause-refused g c =
    let k = kind c.args.data_type.now in
    let taken = sym c.takes_type.ensures ∙ c.if-not-takes_type.false in (
      taken,
      encoding_of-strings g.C.StringsCodec.taken g.C.StringsCodec.written g.C.StringsCodec.read k taken (g.C.StringsCodec.variable k) (data_of c.args.bytes.now) c.in-Variable.strings (ap data_of c.in-Variable.is) c.requires
          ∙ sym (ap (option_map (λ encoded. encoded.items)) (sym c.in-None.is) ∙ c.in_ok-encoded-in-Variable.ensures),
    )
