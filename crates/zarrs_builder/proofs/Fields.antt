-- Fields that values become.
use Rattle.std.proofs.Common.{◌≡◌, ℕ, ◌+◌, ◌<◌, List, [], ◌∷◌, ◌++◌, length, take, get_or, Some, Option, Result, Ok, Err, refl}
use Rattle.std.specs.List.{AllZip}
use Rattle.std.proofs.lemmas.List.{take_more}
use Rattle.std.proofs.lemmas.Slice.Zip.{all_zipped_more}
use Rattle.std.specs.Prelude.{IfOk, IfSome, option_map}
use Rattle.std.specs.Result.{result_ok}
use Rattle.serde_json.specs.Data.{Members}
use Rattle.zarrs_metadata_parts.specs.Extension.{ExtensionData}
use Rattle.zarrs_keys.specs.declared.encodings.ChunkKeyEncoding.{ChunkKeyEncoding}
use Rattle.zarrs_data_type.specs.Kind.{Kind}
use Rattle.zarrs_codec_array.specs.Configurations.{ArrayCodecData}
use Rattle.zarrs_codec_chain.specs.declared.options.CodecSpecificOptions.{CodecSpecificOptions}
use Rattle.zarrs_codec.specs.Configurations.{BytesCodecData}
use Rattle.zarrs_metadata_v3.specs.Fields.{FieldData}
use Rattle.zarrs_builder.specs.Given.{FillData}
use Rattle.zarrs_builder.specs.Builders.{BuilderData}

abbrev pub same_type : BuilderData → BuilderData → Type 0
same_type b c = b ≡ c

-- what a field says, if it found memory
pub of_ok : {A B E : Type 0} (r : Result A E) (f : A → B) (b : B) → IfOk r (λ a. f a ≡ b) → IfSome (option_map f (result_ok r)) (λ x. x ≡ b)
of_ok (Ok a) f b is = is
of_ok (Err e) f b is = tt

-- a field that found memory
pub found_ok : {A B E : Type 0} (r : Result A E) (f : A → B) (a : A) → r ≡ Ok a → option_map f (result_ok r) ≡ Some (f a)
found_ok r f a is = rw is refl

-- one more pair of two lists
pub zip_more : {A B : Type 0} (R : A → B → Type 0) (xs : List A) (ys : List B) (i : ℕ) (x : A) (y : B) → i < length xs → x ≡ get_or xs i x → AllZip R (take i xs) ys → R x y → AllZip R (take (i + 1) xs) (ys ++ y ∷ [])
zip_more R xs ys i x y lt is all one = rw (take_more xs i x lt, ← is) (all_zipped_more R (take i xs) ys x y all one)

-- two builders of the same parts
pub same_parts : (s t : Option (List ℕ)) (g h : Option (Option ExtensionData)) (k l : Option (Option Kind)) (f e : Option FillData) (n o : Option (Option (List (Option (List ℕ))))) (keys others : ChunkKeyEncoding) (a b : List ArrayCodecData) (c d : Option BytesCodecData) (attributes more : Members) (fields rest : List (List ℕ × FieldData)) (sub cut : Option (Option (List ℕ))) (options choices : CodecSpecificOptions)
    → s ≡ t → g ≡ h → k ≡ l → f ≡ e → n ≡ o → keys ≡ others → a ≡ b → c ≡ d → attributes ≡ more → fields ≡ rest → sub ≡ cut → options ≡ choices
    → same_type (record { shape = s; chunk_grid = g; data_type = k; fill_value = f; dimension_names = n; subchunk_shape = sub; chunk_key_encoding = keys; array_to_array = a; array_to_bytes = c; attributes = attributes; additional_fields = fields; codec_specific_options = options })
    (record { shape = t; chunk_grid = h; data_type = l; fill_value = e; dimension_names = o; subchunk_shape = cut; chunk_key_encoding = others; array_to_array = b; array_to_bytes = d; attributes = more; additional_fields = rest; codec_specific_options = choices })
same_parts s t g h k l f e n o keys others a b c d attributes more fields rest sub cut options choices e1 e2 e3 e4 e5 e6 e7 e8 e9 e10 e11 e12 =
    rw (e1, e2, e3, e4, e5, e6, e7, e8, e9, e10, e11, e12) refl
