-- What a change of an array's shape keeps: its metadata holds a float if it did.
use Rattle.std.proofs.Common.{◌≡◌, ℕ, List, [], ◌∷◌, map, take, drop, Bool, false, ◌||◌, Option, Some, None, Ordering, Less, Equal, Greater, refl, sym, ap, ◌∙◌}
use Rattle.std.specs.Prelude.{codes}
use Rattle.std.specs.Ordering.{nat_cmp, match_ordering}
use Rattle.std.specs.Cmp.Lexicographic.{slice_cmp}
use Rattle.serde_json.specs.Data.{Data, Members, no_members, member, put}
use Rattle.serde_json.specs.View.{items_of}
use Rattle.serde_json.specs.Written.{has_float, items_have_float, members_have_float}
use Rattle.zarrs_metadata_parts.specs.Members.{besides}
use Rattle.zarrs_metadata_parts.specs.Lists.{number_data, numbers_data}
use Rattle.zarrs_metadata_v3.specs.Members.{object_data, put_some, put_all}
use Rattle.zarrs_metadata_v3.specs.Document.{DocumentData, data_of_document, document_members, document_names}
use Rattle.zarrs_metadata_v3.specs.Fields.{fields_data}
use Rattle.zarrs_metadata_v2.specs.Document.{DocumentV2Data, data_v2_with, document_v2_members}
use Rattle.zarrs_metadata.specs.Versions.{MetadataData, v3, v2, data_of_metadata}
use Rattle.zarrs_creation.specs.Changes.{with_shape}

-- each key, and whether its value holds a float
abbrev marks : Members → List (List ℕ × Bool)
marks no_members = []
marks (member key d ms) = (key, has_float d) ∷ marks ms

abbrev any_marked : List (List ℕ × Bool) → Bool
any_marked [] = false
any_marked (m ∷ ms) = m.1 || any_marked ms

-- a mark is put as a member is
abbrev put_mark : List ℕ → Bool → List (List ℕ × Bool) → List (List ℕ × Bool)
put_mark key b [] = (key, b) ∷ []
put_mark key b (m ∷ ms) = match_ordering (slice_cmp nat_cmp key m.0) ((key, b) ∷ m ∷ ms) ((m.0, b) ∷ ms) (m ∷ put_mark key b ms)

floats_marked : (ms : Members) → members_have_float ms ≡ any_marked (marks ms)
floats_marked no_members = refl
floats_marked (member key d ms) = ap (λ (b : Bool). has_float d || b) (floats_marked ms)

-- a mark put beside another, by the order of their keys
put_beside : (key l : List ℕ) (d e : Data) (ms : Members) (o : Ordering) → marks (put key d ms) ≡ put_mark key (has_float d) (marks ms)
    → marks (match_ordering o (member key d (member l e ms)) (member l d ms) (member l e (put key d ms)))
    ≡ match_ordering o ((key, has_float d) ∷ (l, has_float e) ∷ marks ms) ((l, has_float d) ∷ marks ms) ((l, has_float e) ∷ put_mark key (has_float d) (marks ms))
put_beside key l d e ms Less rest = refl
put_beside key l d e ms Equal rest = refl
put_beside key l d e ms Greater rest = ap (λ (xs : List (List ℕ × Bool)). (l, has_float e) ∷ xs) rest

marks_of_put : (key : List ℕ) (d : Data) (ms : Members) → marks (put key d ms) ≡ put_mark key (has_float d) (marks ms)
marks_of_put key d no_members = refl
marks_of_put key d (member l e ms) = put_beside key l d e ms (slice_cmp nat_cmp key l) (marks_of_put key d ms)

-- members with the same marks have the same ones after more is put
same_after_put : (key : List ℕ) (d e : Data) (ms ns : Members) → has_float d ≡ has_float e → marks ms ≡ marks ns → marks (put key d ms) ≡ marks (put key e ns)
same_after_put key d e ms ns floats same =
    marks_of_put key d ms ∙ (λ t. put_mark key (floats t) (same t)) ∙ sym (marks_of_put key e ns)

same_after_some : (key : List ℕ) (o : Option Data) (ms ns : Members) → marks ms ≡ marks ns → marks (put_some key o ms) ≡ marks (put_some key o ns)
same_after_some key None ms ns same = same
same_after_some key (Some d) ms ns same = same_after_put key d d ms ns refl same

same_after_all : (es : List (List ℕ × Option Data)) (ms ns : Members) → marks ms ≡ marks ns → marks (put_all es ms) ≡ marks (put_all es ns)
same_after_all [] ms ns same = same
same_after_all (e ∷ es) ms ns same = same_after_some e.0 e.1 (put_all es ms) (put_all es ns) (same_after_all es ms ns same)

same_floats : (ms ns : Members) → marks ms ≡ marks ns → members_have_float ms ≡ members_have_float ns
same_floats ms ns same = floats_marked ms ∙ ap any_marked same ∙ sym (floats_marked ns)

numbers_plain : (numbers : List ℕ) → items_have_float (items_of (map number_data numbers)) ≡ false
numbers_plain [] = refl
numbers_plain (n ∷ numbers) = numbers_plain numbers

shapes_alike : (shape other : List ℕ) → has_float (numbers_data shape) ≡ has_float (numbers_data other)
shapes_alike shape other = numbers_plain shape ∙ sym (numbers_plain other)

-- members that differ in their shape only
shape_alone : (above : List (List ℕ × Option Data)) (shape other : List ℕ) (below : Members)
    → members_have_float (put_all above (put (codes "shape") (numbers_data shape) below)) ≡ members_have_float (put_all above (put (codes "shape") (numbers_data other) below))
shape_alone above shape other below =
    same_floats _ _ (same_after_all above _ _ (same_after_put (codes "shape") (numbers_data shape) (numbers_data other) below below (shapes_alike shape other) refl))

document_floats : (m : DocumentData) (shape : List ℕ) → has_float (data_of_document (record m { shape = shape })) ≡ has_float (data_of_document m)
unfolding data_of_document
document_floats m shape =
    shape_alone (take 8 (document_members m)) shape m.shape (put_all (drop 9 (document_members m)) (besides document_names (fields_data m.additional_fields)))

v2_floats : (m : DocumentV2Data) (attributes : Option Data) (shape : List ℕ) → has_float (data_v2_with attributes (record m { shape = shape })) ≡ has_float (data_v2_with attributes m)
unfolding data_v2_with
v2_floats m attributes shape =
    shape_alone (take 8 (document_v2_members attributes m)) shape m.shape (put_all (drop 9 (document_v2_members attributes m)) no_members)

-- metadata with another shape holds a float if it did
pub floats_kept : (m : MetadataData) (shape : List ℕ) → has_float (data_of_metadata (with_shape shape m)) ≡ has_float (data_of_metadata m)
floats_kept (v3 m) shape = document_floats m shape
floats_kept (v2 m) shape = v2_floats m (object_data m.attributes) shape
