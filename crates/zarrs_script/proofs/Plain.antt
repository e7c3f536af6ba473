-- Documents of arrays of bools and integers hold no float.
use Rattle.std.proofs.Common.{◌≡◌, ℕ, List, [], ◌∷◌, map, Bool, true, false, Option, Some, None, Ordering, Less, Equal, Greater, refl, ap}
use Rattle.std.specs.Prelude.{ℤ, pos, negsuc, ◌||◌}
use Rattle.std.specs.Ordering.{nat_cmp, match_ordering}
use Rattle.std.specs.Cmp.Lexicographic.{slice_cmp}
use Rattle.std.proofs.lemmas.Bool.{or_parts}
use Rattle.serde_json.specs.Data.{Data, Members, no_members, member, put}
use Rattle.serde_json.specs.Find.{is_float, of_integer}
use Rattle.serde_json.specs.View.{items_of}
use Rattle.serde_json.specs.Written.{has_float, items_have_float, members_have_float}
use Rattle.zarrs_metadata_parts.specs.Extension.{extension_data}
use Rattle.zarrs_metadata_parts.specs.Lists.{number_data}
use Rattle.zarrs_metadata_v3.specs.Members.{put_some, put_all}
use Rattle.zarrs_metadata_v3.specs.Document.{data_of_document, document_members}
use Rattle.zarrs_chunk_grid.specs.Configurations.{regular}
use Rattle.zarrs_chunk_grid.specs.Metadata.{extension_of_grid}
use Rattle.zarrs_data_type.specs.FillMetadata.{fill_written}
use Rattle.zarrs_data_type.specs.Kind.{Kind}
use Rattle.zarrs_data_type.specs.Kind as type
use Rattle.zarrs_data_type.specs.TypeMetadata.{kind_extension}
use Rattle.zarrs_script.specs.Parts.{parts_for, document_for, is_whole_number}

put_plain : (key : List ℕ) (d : Data) (ms : Members) → has_float d ≡ false → members_have_float ms ≡ false → members_have_float (put key d ms) ≡ false
put_plain key d no_members p q = ap (λ (b : Bool). b || false) p
put_plain key d (member l e ms) p q =
    let parts = or_parts (has_float e) (members_have_float ms) q in
    by (slice_cmp nat_cmp key l) parts.0 parts.1 (put_plain key d ms p parts.1)
  where
    by : (o : Ordering) → has_float e ≡ false → members_have_float ms ≡ false → members_have_float (put key d ms) ≡ false
        → members_have_float (match_ordering o (member key d (member l e ms)) (member l d ms) (member l e (put key d ms))) ≡ false
    by Less first rest later = rw (p, first, rest) refl
    by Equal first rest later = rw (p, rest) refl
    by Greater first rest later = rw (first, later) refl

abbrev IsPlain : Option Data → Type 0
IsPlain None = Unit {0}
IsPlain (Some d) = has_float d ≡ false

abbrev ArePlain : List (List ℕ × Option Data) → Type 0
ArePlain [] = Unit {0}
ArePlain (e ∷ es) = IsPlain e.1 × ArePlain es

put_some_plain : (key : List ℕ) (o : Option Data) (ms : Members) → IsPlain o → members_have_float ms ≡ false → members_have_float (put_some key o ms) ≡ false
put_some_plain key None ms p q = q
put_some_plain key (Some d) ms p q = put_plain key d ms p q

put_all_plain : (es : List (List ℕ × Option Data)) (ms : Members) → ArePlain es → members_have_float ms ≡ false → members_have_float (put_all es ms) ≡ false
put_all_plain [] ms p q = q
put_all_plain (e ∷ es) ms p q = put_some_plain e.0 e.1 (put_all es ms) p.0 (put_all_plain es ms p.1 q)

numbers_plain : (numbers : List ℕ) → items_have_float (items_of (map number_data numbers)) ≡ false
numbers_plain [] = refl
numbers_plain (n ∷ numbers) = numbers_plain numbers

grid_plain : (chunk_shape : List ℕ) → has_float (extension_data (extension_of_grid (regular chunk_shape))) ≡ false
grid_plain chunk_shape = ap (λ (b : Bool). (b || false) || false) (numbers_plain chunk_shape)

integer_plain : (z : ℤ) → is_float (of_integer z) ≡ false
integer_plain (pos n) = refl
integer_plain (negsuc n) = refl

type_plain : (k : Kind) → is_whole_number k ≡ true → has_float (extension_data (kind_extension k)) ≡ false
type_plain type.bool numeric = refl
type_plain type.int8 numeric = refl
type_plain type.int16 numeric = refl
type_plain type.int32 numeric = refl
type_plain type.int64 numeric = refl
type_plain type.uint8 numeric = refl
type_plain type.uint16 numeric = refl
type_plain type.uint32 numeric = refl
type_plain type.uint64 numeric = refl
type_plain k numeric = cc

fill_plain : (k : Kind) (b : List ℕ) → is_whole_number k ≡ true → has_float (fill_written k b) ≡ false
fill_plain type.bool b numeric = refl
fill_plain type.int8 b numeric = integer_plain _
fill_plain type.int16 b numeric = integer_plain _
fill_plain type.int32 b numeric = integer_plain _
fill_plain type.int64 b numeric = integer_plain _
fill_plain type.uint8 b numeric = refl
fill_plain type.uint16 b numeric = refl
fill_plain type.uint32 b numeric = refl
fill_plain type.uint64 b numeric = refl
fill_plain k b numeric = cc

pub plain_document_for : (shape chunk_shape : List ℕ) (k : Kind) (fill : List ℕ) → is_whole_number k ≡ true → has_float (data_of_document (document_for (parts_for shape chunk_shape k fill))) ≡ false
unfolding data_of_document
plain_document_for shape chunk_shape k fill numeric =
    put_all_plain (document_members (document_for (parts_for shape chunk_shape k fill))) no_members
    (tt, (tt, (tt, (refl, (fill_plain k fill numeric, (refl, (grid_plain chunk_shape, (type_plain k numeric, (numbers_plain shape, (refl, (refl, tt)))))))))))
    refl
