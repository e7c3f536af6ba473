-- Maps of additional fields, beside the members that they are read from and written as.
use Rattle.std.proofs.Common.{◌≡◌, List, [], ◌∷◌, ◌++◌, String, Global, Less, Greater, string_bytes, string_cmp}
use Rattle.std.proofs.Common.{nat_cmp, refl, sym, ap, ◌∙◌, subst}
use Rattle.std.proofs.lemmas.Cmp.{nat_list_cmp_total}
use Rattle.std.proofs.lemmas.List.{map-append}
use Rattle.std.specs.Cmp.Lexicographic.{slice_cmp}
use Rattle.std.specs.List.{AllByRecursion, AllZip}
use Rattle.std.specs.List.Sorted.{IsStrictlySortedBy}
use Rattle.std.specs.Map.{keys_of}
use Rattle.std.specs.Ordering.{ordering_reverse}
use Rattle.std.specs.BTreeMap.{insert_entry}
use Rattle.serde_json.specs.Data.{member, put}
use Rattle.serde_json.specs.View.{view, members_view}
use Rattle.serde_json.specs.declared.value.Value.{Value}
use Rattle.serde_json.proofs.Views.{Entry, members_view-insert_entry}
use Rattle.zarrs_metadata_v3.specs.Fields.{field_of, data_of_field, fields_of, fields_data}
use Rattle.zarrs_metadata_v3.specs.View.{field_view, fields_view}
use Rattle.zarrs_metadata_v3.specs.declared.fields.AdditionalFieldV3.{AdditionalFieldV3}

abbrev pub FieldEntry : Type 0
FieldEntry = String Global × AdditionalFieldV3

-- ---- keys in order

above : (k l : String Global) → string_cmp l k ≡ Less → slice_cmp nat_cmp (string_bytes k) (string_bytes l) ≡ Greater
above k l less = nat_list_cmp_total.antisymm (string_bytes k) (string_bytes l) ∙ ap ordering_reverse less

below_middle : {X : Type 0} (first : String Global) (es : List (String Global × X)) (e : String Global × X) (more : List (String Global × X)) → AllByRecursion (λ y. string_cmp first y ≡ Less) (keys_of (es ++ e ∷ more)) → string_cmp first e.0 ≡ Less
below_middle first [] e more h = h.0
below_middle first (x ∷ es) e more h = below_middle first es e more h.1

-- the keys before one that is in the middle
keys_before : {X : Type 0} (done : List (String Global × X)) (e : String Global × X) (more : List (String Global × X)) → IsStrictlySortedBy string_cmp (keys_of (done ++ e ∷ more)) → AllByRecursion (λ y. string_cmp y e.0 ≡ Less) (keys_of done)
unfolding IsStrictlySortedBy
keys_before [] e more h = tt
keys_before (first ∷ done) e more h = (below_middle first.0 done e more h.0, keys_before done e more h.1)

-- a key above the others goes last
insert_last : {X : Type 0} (es : List (String Global × X)) (k : String Global) (v : X) → AllByRecursion (λ y. string_cmp y k ≡ Less) (keys_of es) → insert_entry string_cmp es k v ≡ es ++ (k, v) ∷ []
insert_last [] k v h = refl
insert_last (e ∷ es) k v h = rw (above k e.0 h.0) (ap (λ r. e ∷ r) (insert_last es k v h.1))

-- ---- reading

fields_of-last : (done : List Entry) (e : Entry) → fields_of (members_view (done ++ e ∷ [])) ≡ fields_of (members_view done) ++ (string_bytes e.0, field_of (view e.1)) ∷ []
fields_of-last [] e = refl
fields_of-last (first ∷ done) e = ap (λ r. (string_bytes first.0, field_of (view first.1)) ∷ r) (fields_of-last done e)

-- one more field is read
pub read_next : (done : List Entry) (e : Entry) (more : List Entry) (fs : List FieldEntry) (field : AdditionalFieldV3)
    → IsStrictlySortedBy string_cmp (keys_of (done ++ e ∷ more)) → keys_of fs ≡ keys_of done → fields_view fs ≡ fields_of (members_view done) → field_view field ≡ field_of (view e.1)
    → (keys_of (insert_entry string_cmp fs e.0 field) ≡ keys_of (done ++ e ∷ [])) × (fields_view (insert_entry string_cmp fs e.0 field) ≡ fields_of (members_view (done ++ e ∷ [])))
read_next done e more fs field ordered same_keys same_fields same =
    let before = subst (AllByRecursion (λ y. string_cmp y e.0 ≡ Less)) (sym same_keys) (keys_before done e more ordered) in
    let last : insert_entry string_cmp fs e.0 field ≡ fs ++ (e.0, field) ∷ [] = insert_last fs e.0 field before in (
      ap keys_of last ∙ map-append (λ f. f.0) fs ((e.0, field) ∷ []) ∙ ap (λ r. r ++ e.0 ∷ []) same_keys ∙ sym (map-append (λ f. f.0) done (e ∷ [])),
      ap fields_view last ∙ map-append (λ f. (string_bytes f.0, field_view f.1)) fs ((e.0, field) ∷ []) ∙ rw (same_fields, same) (sym (fields_of-last done e)),
    )

-- ---- writing

fields_data-last : (done : List FieldEntry) (e : FieldEntry) (more : List FieldEntry) → IsStrictlySortedBy string_cmp (keys_of (done ++ e ∷ more))
    → put (string_bytes e.0) (data_of_field (field_view e.1)) (fields_data (fields_view done)) ≡ fields_data (fields_view (done ++ e ∷ []))
unfolding IsStrictlySortedBy
fields_data-last [] e more h = refl
fields_data-last (first ∷ done) e more h =
    rw (above e.0 first.0 (below_middle first.0 done e more h.0)) (ap (member (string_bytes first.0) (data_of_field (field_view first.1))) (fields_data-last done e more h.1))

-- one more field is written
pub write_next : (done : List FieldEntry) (e : FieldEntry) (more : List FieldEntry) (ms : List Entry) (name : String Global) (value : Value)
    → IsStrictlySortedBy string_cmp (keys_of (done ++ e ∷ more)) → members_view ms ≡ fields_data (fields_view done) → string_bytes name ≡ string_bytes e.0 → view value ≡ data_of_field (field_view e.1)
    → members_view (insert_entry string_cmp ms name value) ≡ fields_data (fields_view (done ++ e ∷ []))
write_next done e more ms name value ordered same named is = members_view-insert_entry ms name value ∙ rw (named, is, same) (fields_data-last done e more ordered)

-- ---- a copy

pub fields_view-clone : (es fs : List FieldEntry) → AllZip (λ p q. (string_bytes q.0 ≡ string_bytes p.0) × (field_view q.1 ≡ field_view p.1)) es fs → fields_view fs ≡ fields_view es
fields_view-clone [] [] h = refl
fields_view-clone [] (f ∷ fs) h = absurd h
fields_view-clone (e ∷ es) [] h = absurd h
fields_view-clone (e ∷ es) (f ∷ fs) h = rw (h.0.0, h.0.1, fields_view-clone es fs h.1) refl
