use Rattle.std.proofs.Common.{◌≡◌, Some, rules, subst}
use Rattle.zarrs_metadata_parts.specs.Extension.{ExtensionData}
use Rattle.zarrs_keys.specs.Metadata.{key_encoding_of}
use Rattle.zarrs_metadata_parts.specs.FillValue.{fill_data}
use Rattle.zarrs_data_type.specs.Kind.{kind}
use Rattle.zarrs_chunk_grid.specs.GridView.{configuration_of}
use Rattle.zarrs_codec.specs.Chains.{chain_data}
use Rattle.zarrs_options.specs.Refusals.{create_refusal_of}
use Rattle.zarrs_builder.specs.Built.{ChosenData}
use Rattle.zarrs_builder.specs.Builders.{builder_view, found_fields}
use Rattle.zarrs_builder.proofs.Order.{at_type, at_chain, at_grid, at_fill, at_names, at_stated, all_chosen, document_made, document_creates, grid_back}
use Rattle.zarrs_builder.proofs.builder.ArrayBuilder.metadata_of.Goals as goal

pub returns-in_err-data_type-clause-refused : goal.returns-in_err-data_type-clause-refused
returns-in_err-data_type-clause-refused c =
    let why = at_type (builder_view c.args.self.now) (found_fields c.args.fields.now) (create_refusal_of c.in_err-data_type.field-0.0) c.in_err-data_type.ensures.refused in
    search (rules, why)

pub returns-in_err-chain-clause-refused : goal.returns-in_err-chain-clause-refused
returns-in_err-chain-clause-refused c =
    let why = at_chain (builder_view c.args.self.now) (found_fields c.args.fields.now) (create_refusal_of c.in_err-chain.field-0.0) (kind c.in_ok-data_type.data_type) c.in_ok-data_type.ensures.made c.in_err-chain.ensures.refused in
    search (rules, why)

pub returns-in_err-grid-clause-refused : goal.returns-in_err-grid-clause-refused
returns-in_err-grid-clause-refused c =
    let why = at_grid (builder_view c.args.self.now) (found_fields c.args.fields.now) (create_refusal_of c.in_err-grid.field-0.0) (kind c.in_ok-data_type.data_type) c.in_ok-data_type.ensures.made (chain_data c.in_ok-chain.chain) c.in_ok-chain.ensures.made c.in_err-grid.ensures.refused in
    search (rules, why)

pub returns-in_err-fill_value-clause-refused : goal.returns-in_err-fill_value-clause-refused
returns-in_err-fill_value-clause-refused c =
    let why = at_fill (builder_view c.args.self.now) (found_fields c.args.fields.now) (create_refusal_of c.in_err-fill_value.field-0.0) (kind c.in_ok-data_type.data_type) c.in_ok-data_type.ensures.made (chain_data c.in_ok-chain.chain) c.in_ok-chain.ensures.made (configuration_of c.in_ok-grid.grid) c.in_ok-grid.ensures.made c.in_err-fill_value.ensures.refused in
    search (rules, why)

pub returns-in_err-check_names-clause-refused : goal.returns-in_err-check_names-clause-refused
returns-in_err-check_names-clause-refused c =
    let why = at_names (builder_view c.args.self.now) (found_fields c.args.fields.now) (create_refusal_of c.in_err-check_names.field-0.0) (kind c.in_ok-data_type.data_type) c.in_ok-data_type.ensures.made (chain_data c.in_ok-chain.chain) c.in_ok-chain.ensures.made (configuration_of c.in_ok-grid.grid) c.in_ok-grid.ensures.made c.in_ok-fill_value.fill_value c.in_ok-fill_value.ensures.made c.in_err-check_names.ensures.refused in
    search (rules, why)

pub returns-in_err-stated-clause-refused : goal.returns-in_err-stated-clause-refused
returns-in_err-stated-clause-refused c =
    let why = at_stated (builder_view c.args.self.now) (found_fields c.args.fields.now) (create_refusal_of c.in_err-stated.field-0.0) (kind c.in_ok-data_type.data_type) c.in_ok-data_type.ensures.made (chain_data c.in_ok-chain.chain) c.in_ok-chain.ensures.made (configuration_of c.in_ok-grid.grid) c.in_ok-grid.ensures.made c.in_ok-fill_value.fill_value c.in_ok-fill_value.ensures.made c.in_ok-check_names.ensures.made c.in_err-stated.ensures.refused in
    search (rules, why)

pub returns-clause-made : goal.returns-clause-made
returns-clause-made c =
    document_made (builder_view c.args.self.now) (found_fields c.args.fields.now) _ (all_chosen _ _ (kind c.in_ok-data_type.data_type) c.in_ok-data_type.ensures.made (chain_data c.in_ok-chain.chain) c.in_ok-chain.ensures.made (configuration_of c.in_ok-grid.grid) c.in_ok-grid.ensures.made c.in_ok-fill_value.fill_value c.in_ok-fill_value.ensures.made c.in_ok-check_names.ensures.made (fill_data c.in_ok-stated.stated) c.in_ok-stated.ensures.made) _ (search rules)

pub returns-clause-says : goal.returns-clause-says
returns-clause-says c =
    let b = builder_view c.args.self.now in
    let f = found_fields c.args.fields.now in
    let chosen : ChosenData = record { kind = kind c.in_ok-data_type.data_type; chain = chain_data c.in_ok-chain.chain; grid = configuration_of c.in_ok-grid.grid; fill = c.in_ok-fill_value.fill_value; fill_value = fill_data c.in_ok-stated.stated } in
    let chain = rw c.in_ok-create_metadatas.ensures.written at c.in_ok-create_metadatas.ensures.reads_back in
    let keys = subst (λ (e : ExtensionData). key_encoding_of e ≡ Some b.chunk_key_encoding) c.in_ok-metadata-3.ensures.written c.in_ok-metadata-3.ensures.reads_back in
    (chosen, all_chosen b f (kind c.in_ok-data_type.data_type) c.in_ok-data_type.ensures.made (chain_data c.in_ok-chain.chain) c.in_ok-chain.ensures.made (configuration_of c.in_ok-grid.grid) c.in_ok-grid.ensures.made c.in_ok-fill_value.fill_value c.in_ok-fill_value.ensures.made c.in_ok-check_names.ensures.made (fill_data c.in_ok-stated.stated) c.in_ok-stated.ensures.made, document_creates b f chosen _ (search rules) chain (grid_back c.in_ok-grid.grid f.shape c.in_ok-grid.ensures.over) c.in_ok-stated.ensures.read keys c.in_ok-check_names.ensures.made)
