use Rattle.std.proofs.Common.{[], ◌∷◌, codes, option_map, refl}
use Rattle.serde_json.specs.View.{view, members_view}
use Rattle.zarrs_metadata_v3.proofs.PartsLemmas.{besides-nothing, take_next}
use Rattle.zarrs_metadata_v2.proofs.reading.Parts.take.Goals as goal

pub returns : goal.returns
returns c =
    let ms = members_view c.args.members.entries in
    let m1 = members_view c.take_member.new.members.entries in
    let at_zarr_format = take_next [] (codes "zarr_format") ms ms m1 (option_map view c.take_member.result) refl (besides-nothing ms) c.take_member.ensures.found c.take_member.ensures.left in
    let n1 = codes "zarr_format" ∷ [] in
    let m2 = members_view c.take_member-2.new.members.entries in
    let at_shape = take_next n1 (codes "shape") ms m1 m2 (option_map view c.take_member-2.result) refl at_zarr_format.1 c.take_member-2.ensures.found c.take_member-2.ensures.left in
    let n2 = codes "shape" ∷ n1 in
    let m3 = members_view c.take_member-3.new.members.entries in
    let at_chunks = take_next n2 (codes "chunks") ms m2 m3 (option_map view c.take_member-3.result) refl at_shape.1 c.take_member-3.ensures.found c.take_member-3.ensures.left in
    let n3 = codes "chunks" ∷ n2 in
    let m4 = members_view c.take_member-4.new.members.entries in
    let at_dtype = take_next n3 (codes "dtype") ms m3 m4 (option_map view c.take_member-4.result) refl at_chunks.1 c.take_member-4.ensures.found c.take_member-4.ensures.left in
    let n4 = codes "dtype" ∷ n3 in
    let m5 = members_view c.take_member-5.new.members.entries in
    let at_compressor = take_next n4 (codes "compressor") ms m4 m5 (option_map view c.take_member-5.result) refl at_dtype.1 c.take_member-5.ensures.found c.take_member-5.ensures.left in
    let n5 = codes "compressor" ∷ n4 in
    let m6 = members_view c.take_member-6.new.members.entries in
    let at_fill_value = take_next n5 (codes "fill_value") ms m5 m6 (option_map view c.take_member-6.result) refl at_compressor.1 c.take_member-6.ensures.found c.take_member-6.ensures.left in
    let n6 = codes "fill_value" ∷ n5 in
    let m7 = members_view c.take_member-7.new.members.entries in
    let at_order = take_next n6 (codes "order") ms m6 m7 (option_map view c.take_member-7.result) refl at_fill_value.1 c.take_member-7.ensures.found c.take_member-7.ensures.left in
    let n7 = codes "order" ∷ n6 in
    let m8 = members_view c.take_member-8.new.members.entries in
    let at_filters = take_next n7 (codes "filters") ms m7 m8 (option_map view c.take_member-8.result) refl at_order.1 c.take_member-8.ensures.found c.take_member-8.ensures.left in
    let n8 = codes "filters" ∷ n7 in
    let m9 = members_view c.take_member-9.new.members.entries in
    let at_dimension_separator = take_next n8 (codes "dimension_separator") ms m8 m9 (option_map view c.take_member-9.result) refl at_filters.1 c.take_member-9.ensures.found c.take_member-9.ensures.left in
    let n9 = codes "dimension_separator" ∷ n8 in
    let m10 = members_view c.take_member-10.new.members.entries in
    let at_attributes = take_next n9 (codes "attributes") ms m9 m10 (option_map view c.take_member-10.result) refl at_dimension_separator.1 c.take_member-10.ensures.found c.take_member-10.ensures.left in
    record {
      zarr_format = at_zarr_format.0;
      shape = at_shape.0;
      chunks = at_chunks.0;
      dtype = at_dtype.0;
      compressor = at_compressor.0;
      fill_value = at_fill_value.0;
      order = at_order.0;
      filters = at_filters.0;
      dimension_separator = at_dimension_separator.0;
      attributes = at_attributes.0;
    }
