-- What a conversion gives, by what the members read as.
use Rattle.std.proofs.Common.{◌≡◌, true, false, Option, Some, None, Ok, Err, refl}
use Rattle.serde_json.specs.Data.{Data}
use Rattle.zarrs_metadata_v2.specs.Document.{DocumentV2Data}
use Rattle.zarrs_metadata.specs.Conversion.{no_type, no_fill_value, no_codecs, type_v2, fill_v3, is_uncompressed, converted, to_v3}
use Rattle.zarrs_metadata_parts.specs.declared.types_v2.TypeV2.{TypeV2}

-- a value that no `Some` is
pub none_of : {A : Type 0} (o : Option A) → ((a : A) → o ≡ Some a → ⊥) → o ≡ None
none_of None never = refl
none_of (Some a) never = absurd (never a refl)

pub without_type : (m : DocumentV2Data) → type_v2 m.dtype ≡ None → to_v3 m ≡ Err (no_type m.dtype)
unfolding to_v3
without_type m none = rw none refl

pub without_fill : (m : DocumentV2Data) (t : TypeV2) → type_v2 m.dtype ≡ Some t → fill_v3 t.kind m.fill_value ≡ None → to_v3 m ≡ Err (no_fill_value m.dtype m.fill_value)
unfolding to_v3
without_fill m t is none = rw is (rw none refl)

pub without_codecs : (m : DocumentV2Data) (t : TypeV2) (fill : Data) → type_v2 m.dtype ≡ Some t → fill_v3 t.kind m.fill_value ≡ Some fill → is_uncompressed t.kind m ≡ false → to_v3 m ≡ Err no_codecs
unfolding to_v3
without_codecs m t fill is filled packed = rw is (rw filled (rw packed refl))

pub with_all : (m : DocumentV2Data) (t : TypeV2) (fill : Data) → type_v2 m.dtype ≡ Some t → fill_v3 t.kind m.fill_value ≡ Some fill → is_uncompressed t.kind m ≡ true → to_v3 m ≡ Ok (converted m t fill)
unfolding to_v3
with_all m t fill is filled plain = rw is (rw filled (rw plain refl))
