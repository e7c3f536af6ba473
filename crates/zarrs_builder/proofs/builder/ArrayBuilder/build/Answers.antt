use Rattle.std.proofs.Common.{◌≡◌, Ok, rules, sym, ap, ◌∙◌}
use Rattle.zarrs_metadata_v3.specs.View.{document_view}
use Rattle.zarrs_metadata.specs.Versions.{metadata_view, v3}
use Rattle.zarrs_options.specs.Refusals.{create_refusal_of}
use Rattle.zarrs_creation.specs.Meanings.{creation}
use Rattle.zarrs.specs.Arrays.{metadata_of_array, meaning_of_array}
use Rattle.zarrs.proofs.Layouts.{parts_are}
use Rattle.zarrs_builder.specs.Builders.{builder_view, found_fields}
use Rattle.zarrs_builder.proofs.Order.{at_path, at_chosen, at_creation, metadata_built, parts_built}
use Rattle.zarrs_builder.proofs.builder.ArrayBuilder.build.Goals as goal

pub returns-in_err-check_path : goal.returns-in_err-check_path
returns-in_err-check_path g c =
    let why = at_path (builder_view c.args.self.now) (found_fields c.in_ok-fields.fields) c.in_ok-fields.ensures.made c.args.path.now (create_refusal_of c.in_err-check_path.field-0.0) c.in_err-check_path.ensures.refused in
    record { metadata = search rules; parts = search rules; path = search rules; storage = search rules; options = search rules; refused = search (rules, why) }

pub returns-in_err-metadata : goal.returns-in_err-metadata
returns-in_err-metadata g c =
    let why = at_chosen (builder_view c.args.self.now) (found_fields c.in_ok-fields.fields) c.in_ok-fields.ensures.made c.args.path.now (create_refusal_of c.in_err-metadata.field-0.0) c.in_ok-check_path.ensures.made c.in_err-metadata.ensures.refused in
    record { metadata = search rules; parts = search rules; path = search rules; storage = search rules; options = search rules; refused = search (rules, why) }

pub returns-in_err-array : goal.returns-in_err-array
returns-in_err-array g c =
    let says = c.in_ok-metadata.ensures.says in
    let why = at_creation (builder_view c.args.self.now) (found_fields c.in_ok-fields.fields) c.in_ok-fields.ensures.made c.args.path.now (create_refusal_of c.in_err-array.field-0.0) c.in_ok-check_path.ensures.made
    says.0 says.1 (document_view c.in_ok-metadata.metadata) says.2 c.in_err-array.ensures.refused in
    record { metadata = search rules; parts = search rules; path = search rules; storage = search rules; options = search rules; refused = search (rules, why) }

pub returns : goal.returns
returns g c =
    let array = c.with_codec_specific_options.result in
    let says = c.in_ok-metadata.ensures.says in
    let b = builder_view c.args.self.now in
    let f = found_fields c.in_ok-fields.fields in
    let m = document_view c.in_ok-metadata.metadata in
    let described : metadata_of_array array ≡ v3 m = ap metadata_view c.with_codec_specific_options.ensures.metadata ∙ c.in_ok-array.ensures.metadata in
    record {
      metadata = metadata_built b f c.in_ok-fields.ensures.made m c.in_ok-metadata.ensures.made ∙ ap Ok (sym described);
      parts = parts_built b f c.in_ok-fields.ensures.made c.args.path.now says.0 m (meaning_of_array array) c.in_ok-check_path.ensures.made says.1 says.2 (sym (ap creation described) ∙ parts_are array);
      path = search rules;
      storage = search rules;
      options = search rules;
      refused = tt;
    }
