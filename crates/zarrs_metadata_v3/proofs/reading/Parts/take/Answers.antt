use Rattle.std.proofs.Common.{[], ◌∷◌, codes, option_map, refl}
use Rattle.serde_json.specs.View.{view, members_view}
use Rattle.zarrs_metadata_v3.proofs.PartsLemmas.{besides-nothing, take_next}
use Rattle.zarrs_metadata_v3.proofs.reading.Parts.take.Goals as goal

pub returns : goal.returns
returns c =
    let ms = members_view c.args.members.now.entries in
    let m1 = members_view c.take_member.new.members.entries in
    let at_zarr_format = take_next [] (codes "zarr_format") ms ms m1 (option_map view c.take_member.result) refl (besides-nothing ms) c.take_member.ensures.found c.take_member.ensures.left in
    let n1 = codes "zarr_format" ∷ [] in
    let m2 = members_view c.take_member-2.new.members.entries in
    let at_node_type = take_next n1 (codes "node_type") ms m1 m2 (option_map view c.take_member-2.result) refl at_zarr_format.1 c.take_member-2.ensures.found c.take_member-2.ensures.left in
    let n2 = codes "node_type" ∷ n1 in
    let m3 = members_view c.take_member-3.new.members.entries in
    let at_shape = take_next n2 (codes "shape") ms m2 m3 (option_map view c.take_member-3.result) refl at_node_type.1 c.take_member-3.ensures.found c.take_member-3.ensures.left in
    let n3 = codes "shape" ∷ n2 in
    let m4 = members_view c.take_member-4.new.members.entries in
    let at_data_type = take_next n3 (codes "data_type") ms m3 m4 (option_map view c.take_member-4.result) refl at_shape.1 c.take_member-4.ensures.found c.take_member-4.ensures.left in
    let n4 = codes "data_type" ∷ n3 in
    let m5 = members_view c.take_member-5.new.members.entries in
    let at_chunk_grid = take_next n4 (codes "chunk_grid") ms m4 m5 (option_map view c.take_member-5.result) refl at_data_type.1 c.take_member-5.ensures.found c.take_member-5.ensures.left in
    let n5 = codes "chunk_grid" ∷ n4 in
    let m6 = members_view c.take_member-6.new.members.entries in
    let at_chunk_key_encoding = take_next n5 (codes "chunk_key_encoding") ms m5 m6 (option_map view c.take_member-6.result) refl at_chunk_grid.1 c.take_member-6.ensures.found c.take_member-6.ensures.left in
    let n6 = codes "chunk_key_encoding" ∷ n5 in
    let m7 = members_view c.take_member-7.new.members.entries in
    let at_fill_value = take_next n6 (codes "fill_value") ms m6 m7 (option_map view c.take_member-7.result) refl at_chunk_key_encoding.1 c.take_member-7.ensures.found c.take_member-7.ensures.left in
    let n7 = codes "fill_value" ∷ n6 in
    let m8 = members_view c.take_member-8.new.members.entries in
    let at_codecs = take_next n7 (codes "codecs") ms m7 m8 (option_map view c.take_member-8.result) refl at_fill_value.1 c.take_member-8.ensures.found c.take_member-8.ensures.left in
    let n8 = codes "codecs" ∷ n7 in
    let m9 = members_view c.take_member-9.new.members.entries in
    let at_attributes = take_next n8 (codes "attributes") ms m8 m9 (option_map view c.take_member-9.result) refl at_codecs.1 c.take_member-9.ensures.found c.take_member-9.ensures.left in
    let n9 = codes "attributes" ∷ n8 in
    let m10 = members_view c.take_member-10.new.members.entries in
    let at_storage_transformers = take_next n9 (codes "storage_transformers") ms m9 m10 (option_map view c.take_member-10.result) refl at_attributes.1 c.take_member-10.ensures.found c.take_member-10.ensures.left in
    let n10 = codes "storage_transformers" ∷ n9 in
    let m11 = members_view c.take_member-11.new.members.entries in
    let at_dimension_names = take_next n10 (codes "dimension_names") ms m10 m11 (option_map view c.take_member-11.result) refl at_storage_transformers.1 c.take_member-11.ensures.found c.take_member-11.ensures.left in
    record {
      taken = record {
        zarr_format = at_zarr_format.0;
        node_type = at_node_type.0;
        shape = at_shape.0;
        data_type = at_data_type.0;
        chunk_grid = at_chunk_grid.0;
        chunk_key_encoding = at_chunk_key_encoding.0;
        fill_value = at_fill_value.0;
        codecs = at_codecs.0;
        attributes = at_attributes.0;
        storage_transformers = at_storage_transformers.0;
        dimension_names = at_dimension_names.0;
      };
      left = at_dimension_names.1;
    }
