use Rattle.std.proofs.Common.{rules}
use Rattle.zarrs_chunk_grid.specs.GridView.{configuration_of}
use Rattle.zarrs_data_type.specs.Kind.{kind}
use Rattle.zarrs_codec.specs.Chains.{chain_data}
use Rattle.zarrs_metadata_v3.specs.View.{document_view}
use Rattle.zarrs_options.specs.Refusals.{create_refusal_of}
use Rattle.zarrs_creation.proofs.Order.{at_codecs, at_data_type, at_grid, at_fill, at_transformers, at_keys, at_names, all_said}
use Rattle.zarrs_creation.proofs.parts.parts_of_v3.Goals as goal

pub returns-in_err-chain : goal.returns-in_err-chain
returns-in_err-chain c =
    let why = at_codecs (document_view c.args.metadata.now) (create_refusal_of c.in_err-chain.field-0.0)
    (rw c.deref.ensures.value at c.in_err-chain.ensures.refused) in
    record { made = search rules; filled = search rules; refused = search (rules, why) }

pub returns-in_err-data_type : goal.returns-in_err-data_type
returns-in_err-data_type c =
    let why = at_data_type (document_view c.args.metadata.now) (create_refusal_of c.in_err-data_type.field-0.0) (chain_data c.in_ok-chain.chain) (rw c.deref.ensures.value at c.in_ok-chain.ensures.made)
    c.in_err-data_type.ensures.refused in
    record { made = search rules; filled = search rules; refused = search (rules, why) }

pub returns-in_err-grid : goal.returns-in_err-grid
returns-in_err-grid c =
    let why = at_grid (document_view c.args.metadata.now) (create_refusal_of c.in_err-grid.field-0.0) (chain_data c.in_ok-chain.chain) (rw c.deref.ensures.value at c.in_ok-chain.ensures.made) (kind c.in_ok-data_type.data_type) c.in_ok-data_type.ensures.made
    (rw c.as_slice-shape.ensures.value at c.in_err-grid.ensures.said.refused) in
    record { made = search rules; filled = search rules; refused = search (rules, why) }

pub returns-in_err-fill_value : goal.returns-in_err-fill_value
returns-in_err-fill_value c =
    let why = at_fill (document_view c.args.metadata.now) (create_refusal_of c.in_err-fill_value.field-0.0) (chain_data c.in_ok-chain.chain) (rw c.deref.ensures.value at c.in_ok-chain.ensures.made) (kind c.in_ok-data_type.data_type) c.in_ok-data_type.ensures.made (configuration_of c.in_ok-grid.grid) (rw c.as_slice-shape.ensures.value at c.in_ok-grid.ensures.said.made)
    (rw c.name.ensures at c.in_err-fill_value.ensures.said.refused) in
    record { made = search rules; filled = search rules; refused = search (rules, why) }

pub returns-in_err-check_transformers : goal.returns-in_err-check_transformers
returns-in_err-check_transformers c =
    let why = at_transformers (document_view c.args.metadata.now) (create_refusal_of c.in_err-check_transformers.field-0.0) (chain_data c.in_ok-chain.chain) (rw c.deref.ensures.value at c.in_ok-chain.ensures.made) (kind c.in_ok-data_type.data_type) c.in_ok-data_type.ensures.made (configuration_of c.in_ok-grid.grid) (rw c.as_slice-shape.ensures.value at c.in_ok-grid.ensures.said.made) c.in_ok-fill_value.fill_value c.in_ok-fill_value.ensures.said.made
    (rw c.deref-2.ensures.value at c.in_err-check_transformers.ensures.refused) in
    record { made = search rules; filled = search rules; refused = search (rules, why) }

pub returns-in_err-keys : goal.returns-in_err-keys
returns-in_err-keys c =
    let why = at_keys (document_view c.args.metadata.now) (create_refusal_of c.in_err-keys.field-0.0) (chain_data c.in_ok-chain.chain) (rw c.deref.ensures.value at c.in_ok-chain.ensures.made) (kind c.in_ok-data_type.data_type) c.in_ok-data_type.ensures.made (configuration_of c.in_ok-grid.grid) (rw c.as_slice-shape.ensures.value at c.in_ok-grid.ensures.said.made) c.in_ok-fill_value.fill_value c.in_ok-fill_value.ensures.said.made (rw c.deref-2.ensures.value at c.in_ok-check_transformers.ensures.made)
    c.in_err-keys.ensures.refused in
    record { made = search rules; filled = search rules; refused = search (rules, why) }

pub returns-in_err-check_names : goal.returns-in_err-check_names
returns-in_err-check_names c =
    let why = at_names (document_view c.args.metadata.now) (create_refusal_of c.in_err-check_names.field-0.0) (chain_data c.in_ok-chain.chain) (rw c.deref.ensures.value at c.in_ok-chain.ensures.made) (kind c.in_ok-data_type.data_type) c.in_ok-data_type.ensures.made (configuration_of c.in_ok-grid.grid) (rw c.as_slice-shape.ensures.value at c.in_ok-grid.ensures.said.made) c.in_ok-fill_value.fill_value c.in_ok-fill_value.ensures.said.made (rw c.deref-2.ensures.value at c.in_ok-check_transformers.ensures.made) c.in_ok-keys.keys c.in_ok-keys.ensures.made
    (rw c.as_slice-shape.ensures.value at c.in_err-check_names.ensures.refused) in
    record { made = search rules; filled = search rules; refused = search (rules, why) }

pub returns : goal.returns
returns c =
    let said = all_said (document_view c.args.metadata.now) (chain_data c.in_ok-chain.chain) (rw c.deref.ensures.value at c.in_ok-chain.ensures.made) (kind c.in_ok-data_type.data_type) c.in_ok-data_type.ensures.made (configuration_of c.in_ok-grid.grid) (rw c.as_slice-shape.ensures.value at c.in_ok-grid.ensures.said.made) c.in_ok-fill_value.fill_value c.in_ok-fill_value.ensures.said.made (rw c.deref-2.ensures.value at c.in_ok-check_transformers.ensures.made) c.in_ok-keys.keys c.in_ok-keys.ensures.made (rw c.as_slice-shape.ensures.value at c.in_ok-check_names.ensures.made) in
    record { made = rw (c.in_ok-grid.ensures.shape, c.as_slice-shape.ensures.value) said; filled = c.in_ok-fill_value.ensures.filled; refused = tt }
