-- What is written for a codec reads as that codec.
use Rattle.std.proofs.Common.{◌≡◌, List, Some, option_map, option_and_then, refl, sym, ap, ◌∙◌, arith}
use Rattle.std.specs.Prelude.{codes}
use Rattle.std.proofs.lemmas.Bool.{ne_eqb}
use Rattle.std.proofs.lemmas.Simd.{map-map}
use Rattle.serde_json.specs.Data.{Data}
use Rattle.serde_json.specs.View.{items_of}
use Rattle.zarrs_metadata_parts.specs.Lists.{all_of, list_of, list_data}
use Rattle.zarrs_metadata_parts.specs.Extension.{ExtensionData, extension_with_member}
use Rattle.zarrs_metadata_parts.proofs.ListLemmas.{all_of-items_of, numbers_of-numbers_data}
use Rattle.zarrs_codec_array.specs.Arrays.{product_of}
use Rattle.zarrs_codec_array.specs.Extents.{extent_view, extents_view}
use Rattle.zarrs_codec_array.specs.Metadata.{extent_said, extent_data, transpose_of, reshape_of, array_codec_said, extension_of_array_codec}
use Rattle.zarrs_codec_array.specs.ArrayCodecs.{array_codec_data}
use Rattle.zarrs_codec_array.specs.Reshape.{entries_of}
use Rattle.zarrs_codec_array.specs.declared.array.ArrayToArrayCodec.{ArrayToArrayCodec}
use Rattle.zarrs_codec_array.specs.declared.array.ArrayToArrayCodec.TheVariants as code
use Rattle.zarrs_codec_array.specs.declared.reshape.ReshapeCodec.{ReshapeCodec}
use Rattle.zarrs_codec_array.specs.declared.reshape.ReshapeExtent.{ReshapeExtent}
use Rattle.zarrs_codec_array.specs.declared.reshape.ReshapeExtent.TheVariants as entry

extent_back : (e : ReshapeExtent) → extent_said (extent_data (extent_view e)) ≡ Some (extent_view e)
extent_back (entry.Size n) = let some = n.ok in rw (ne_eqb n.value 0 (λ z. absurd (omega arith))) refl
extent_back (entry.ProductOf dimensions) = ap (option_map product_of) (numbers_of-numbers_data dimensions.items)
extent_back entry.Rest = refl

extents_back : (es : List ReshapeExtent) → list_of extent_said (list_data extent_data (extents_view es)) ≡ Some (extents_view es)
extents_back es =
    ap (λ (ds : List Data). all_of extent_said (items_of ds)) (map-map extent_data extent_view es)
    ∙ all_of-items_of extent_said (λ (e : ReshapeExtent). extent_data (extent_view e)) extent_view extent_back es

pub array_codec_back : (c : ArrayToArrayCodec) → array_codec_said (extension_of_array_codec (array_codec_data c)) ≡ Some (array_codec_data c)
array_codec_back (code.Transpose t) = ap (option_and_then transpose_of) (numbers_of-numbers_data t.order.items) ∙ rw t.in_order refl
array_codec_back (code.Reshape r) = ap (option_and_then reshape_of) (extents_back r.entries.items) ∙ rw r.is_reshape refl
array_codec_back (code.Squeeze s) = refl

-- the metadata of a codec `reshape`, made of the value of its entries
pub reshape_written : (self : ArrayToArrayCodec) (r : ReshapeCodec) (es : List ReshapeExtent) (d : Data) (m : ExtensionData) → self ≡ code.Reshape r → extents_view es ≡ entries_of r
    → d ≡ list_data extent_data (extents_view es) → m ≡ extension_with_member (codes "reshape") (codes "shape") d → array_codec_said m ≡ Some (array_codec_data self)
reshape_written self r es d m is entries value written =
    ap array_codec_said (written ∙ ap (extension_with_member (codes "reshape") (codes "shape")) (value ∙ ap (list_data extent_data) entries))
    ∙ array_codec_back (code.Reshape r) ∙ ap (λ x. Some (array_codec_data x)) (sym is)
