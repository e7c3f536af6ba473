-- A document that was read is read again as it is.
use Rattle.std.proofs.Common.{◌≡◌, ℕ, List, [], ◌∷◌, map, Bool, true, false, if◌then◌else◌, Option, Some, None}
use Rattle.std.proofs.Common.{option_map, option_and_then, unwrap_or, not, codes, refl, sym, ap, subst, ◌∙◌}
use Rattle.serde_json.specs.Data.{Data, null, boolean, number, string, array, object, Items, no_items, item, Members}
use Rattle.serde_json.specs.Data.{no_members, member, put}
use Rattle.serde_json.specs.Find.{get_member, as_array, as_bool, as_object, as_str}
use Rattle.serde_json.proofs.Views.{get_member-put}
use Rattle.zarrs_metadata_parts.specs.Members.{is_named, has_only, besides, nonempty}
use Rattle.zarrs_metadata_parts.specs.Lists.{all_of, list_of, numbers_of}
use Rattle.zarrs_metadata_parts.specs.Extension.{ExtensionData, named, normal, extension_of, extension_names, configuration_from, must_understand_from}
use Rattle.zarrs_metadata_v3.specs.Members.{list_in, members_in}
use Rattle.zarrs_metadata_v3.specs.Fields.{FieldData, flag_names, is_unneeded, field_of, normal_field, fields_of, normal_fields}
use Rattle.zarrs_metadata_v3.specs.Document.{DocumentData, document_names, is_array, document_in, document_from}
use Rattle.zarrs_metadata_v3.specs.Document.{transformers_in, names_in, document_of, normal_document}
use Rattle.zarrs_metadata_v3.proofs.MemberLemmas.{besides-put, besides-again}

-- ---- a value that is present came of one that was present

bind_some : {A B : Type 0} (f : A → Option B) (o : Option A) (b : B) → option_and_then f o ≡ Some b → (a : A) × (o ≡ Some a) × (f a ≡ Some b)
bind_some f None b h = cc
bind_some f (Some a) b h = (a, refl, h)

map_some : {A B : Type 0} (f : A → B) (o : Option A) (b : B) → option_map f o ≡ Some b → (a : A) × (o ≡ Some a) × (f a ≡ b)
map_some f None b h = cc
map_some f (Some a) b h = (a, refl, cc)

some_same : {A : Type 0} (a b : A) → Some a ≡ Some b → a ≡ b
some_same a b h = cc

kept_if : {A : Type 0} (p : Bool) (o : Option A) (a : A) → (if p then o else None) ≡ Some a → o ≡ Some a
kept_if true o a h = h
kept_if false o a h = cc

-- ---- extension points

from_object : (o : Option Members) (c : Option Members) → option_map nonempty o ≡ Some c → option_and_then nonempty c ≡ c
from_object None c h = cc
from_object (Some no_members) c h = let is : None ≡ c = cc in subst (λ x. option_and_then nonempty x ≡ x) is refl
from_object (Some (member k d ms)) c h = let is : Some (member k d ms) ≡ c = cc in subst (λ x. option_and_then nonempty x ≡ x) is refl

settings_normal : (o : Option Data) (c : Option Members) → configuration_from o ≡ Some c → option_and_then nonempty c ≡ c
settings_normal None c h = let is : None ≡ c = cc in subst (λ x. option_and_then nonempty x ≡ x) is refl
settings_normal (Some d) c h = from_object (as_object d) c h

members_normal : (text settings flag : Option Data) (p : Bool) (e : ExtensionData) → option_and_then (λ n. option_and_then (λ c. option_and_then (λ m. if p then Some (record { name = n; configuration = c; must_understand = m }) else None) (must_understand_from flag)) (configuration_from settings)) (option_and_then as_str text) ≡ Some e → normal e ≡ e
members_normal text settings flag p e h =
    let first = bind_some (λ n. option_and_then (λ c. option_and_then (λ m. if p then Some (record { name = n; configuration = c; must_understand = m }) else None) (must_understand_from flag)) (configuration_from settings)) (option_and_then as_str text) e h in
    let n = first.0 in
    let second = bind_some (λ c. option_and_then (λ m. if p then Some (record { name = n; configuration = c; must_understand = m }) else None) (must_understand_from flag)) (configuration_from settings) e first.2 in
    let c = second.0 in
    let third = bind_some (λ m. if p then Some (record { name = n; configuration = c; must_understand = m }) else None) (must_understand_from flag) e second.2 in
    let m = third.0 in
    let made : ExtensionData = record { name = n; configuration = c; must_understand = m } in
    let last : Some made ≡ Some e = kept_if p (Some made) e third.2 in
    let is : made ≡ e = some_same made e last in
    subst (λ x. normal x ≡ x) is (ap (λ s. record { name = n; configuration = s; must_understand = m }) (settings_normal settings c second.1))

extension_normal : (d : Data) (e : ExtensionData) → extension_of d ≡ Some e → normal e ≡ e
extension_normal (string text) e h = let is : named text ≡ e = cc in subst (λ x. normal x ≡ x) is refl
extension_normal (object ms) e h = members_normal (get_member (codes "name") ms) (get_member (codes "configuration") ms) (get_member (codes "must_understand") ms) (has_only extension_names ms) e h
extension_normal null e h = cc
extension_normal (boolean b) e h = cc
extension_normal (number n) e h = cc
extension_normal (array ds) e h = cc

member_normal : (o : Option Data) (e : ExtensionData) → option_and_then extension_of o ≡ Some e → normal e ≡ e
member_normal o e h = let found = bind_some extension_of o e h in extension_normal found.0 e found.2

all_normal : (ds : Items) (es : List ExtensionData) → all_of extension_of ds ≡ Some es → map normal es ≡ es
all_normal no_items es h = let is : [] ≡ es = cc in subst (λ x. map normal x ≡ x) is refl
all_normal (item d ds) es h =
    let first = bind_some (λ a. option_map (λ more. a ∷ more) (all_of extension_of ds)) (extension_of d) es h in
    let a = first.0 in
    let rest = map_some (λ more. a ∷ more) (all_of extension_of ds) es first.2 in
    let more = rest.0 in
    subst (λ x. map normal x ≡ x) rest.2 (ap (λ x. x ∷ map normal more) (extension_normal d a first.1) ∙ ap (λ xs. a ∷ xs) (all_normal ds more rest.1))

list_normal : (o : Option Data) (es : List ExtensionData) → list_in extension_of o ≡ Some es → map normal es ≡ es
list_normal o es h =
    let said = bind_some (list_of extension_of) o es h in
    let found = bind_some (all_of extension_of) (as_array said.0) es said.2 in
    all_normal found.0 es found.2

transformers_normal : (o : Option Data) (es : List ExtensionData) → transformers_in o ≡ Some es → map normal es ≡ es
transformers_normal None es h = let is : [] ≡ es = cc in subst (λ x. map normal x ≡ x) is refl
transformers_normal (Some d) es h = list_normal (Some d) es h

-- ---- additional fields

unneeded_normal : (ms : Members) → is_unneeded (object ms) ≡ true → normal_field (field_of (object ms)) ≡ field_of (object ms)
unneeded_normal ms is =
    let left = besides flag_names ms in
    let again = put (codes "must_understand") (boolean false) left in
    let seen : field_of (object ms) ≡ record { value = object left; must_understand = false } = rw is refl in
    let flag : is_unneeded (object again) ≡ true = ap (λ o. unwrap_or (option_map not (option_and_then as_bool o)) false) (get_member-put (codes "must_understand") (boolean false) left) in
    let read : field_of (object again) ≡ record { value = object (besides flag_names again); must_understand = false } = rw flag refl in
    let same : besides flag_names again ≡ left = besides-put flag_names (codes "must_understand") (boolean false) left refl ∙ besides-again flag_names ms in
    ap normal_field seen ∙ read ∙ ap (λ x. record { value = object x; must_understand = false }) same ∙ sym seen

field_at : (p : Bool) (d : Data) → is_unneeded d ≡ p → normal_field (field_of d) ≡ field_of d
field_at false d is =
    let seen : field_of d ≡ record { value = d; must_understand = true } = rw is refl in
    ap normal_field seen
field_at true (object ms) is = unneeded_normal ms is
field_at true null is = cc
field_at true (boolean b) is = cc
field_at true (number n) is = cc
field_at true (string text) is = cc
field_at true (array ds) is = cc

fields_at : (p : Bool) (names : List (List ℕ)) (key : List ℕ) (d : Data) (ms : Members) → is_named names key ≡ p → normal_fields names (fields_of (besides names ms)) ≡ fields_of (besides names ms)
    → normal_fields names (fields_of (besides names (member key d ms))) ≡ fields_of (besides names (member key d ms))
fields_at true names key d ms is later = rw is later
fields_at false names key d ms is later =
    rw is (rw is (ap (λ f. (key, f) ∷ normal_fields names (fields_of (besides names ms))) (field_at _ d refl) ∙ ap (λ fs. (key, field_of d) ∷ fs) later))

fields_normal : (names : List (List ℕ)) (ms : Members) → normal_fields names (fields_of (besides names ms)) ≡ fields_of (besides names ms)
fields_normal names no_members = refl
fields_normal names (member key d ms) = fields_at _ names key d ms refl (fields_normal names ms)

-- ---- documents

abbrev made : List ℕ → ExtensionData → ExtensionData → ExtensionData → Data → List ExtensionData → Members → List ExtensionData → Option (List (Option (List ℕ))) → List (List ℕ × FieldData) → DocumentData
made s d g k f c a t n fs = record { shape = s; data_type = d; chunk_grid = g; chunk_key_encoding = k; fill_value = f; codecs = c; attributes = a; storage_transformers = t; dimension_names = n; additional_fields = fs }

made_normal : (s : List ℕ) (d g k : ExtensionData) (f : Data) (c : List ExtensionData) (a : Members) (t : List ExtensionData) (n : Option (List (Option (List ℕ)))) (fs : List (List ℕ × FieldData))
    → normal d ≡ d → normal g ≡ g → normal k ≡ k → map normal c ≡ c → map normal t ≡ t → normal_fields document_names fs ≡ fs → normal_document (made s d g k f c a t n fs) ≡ made s d g k f c a t n fs
made_normal s d g k f c a t n fs ed eg ek ec et ef =
    ap (λ x. made s x (normal g) (normal k) f (map normal c) a (map normal t) n (normal_fields document_names fs)) ed
    ∙ ap (λ x. made s d x (normal k) f (map normal c) a (map normal t) n (normal_fields document_names fs)) eg
    ∙ ap (λ x. made s d g x f (map normal c) a (map normal t) n (normal_fields document_names fs)) ek
    ∙ ap (λ x. made s d g k f x a (map normal t) n (normal_fields document_names fs)) ec
    ∙ ap (λ x. made s d g k f c a x n (normal_fields document_names fs)) et
    ∙ ap (λ x. made s d g k f c a t n x) ef

-- what members read as came of each of them
came_from : (ms : Members) (m : DocumentData) → document_in ms ≡ Some m
    → (option_and_then extension_of (get_member (codes "data_type") ms) ≡ Some m.data_type) × (option_and_then extension_of (get_member (codes "chunk_grid") ms) ≡ Some m.chunk_grid) × (option_and_then extension_of (get_member (codes "chunk_key_encoding") ms) ≡ Some m.chunk_key_encoding)
    × (list_in extension_of (get_member (codes "codecs") ms) ≡ Some m.codecs) × (transformers_in (get_member (codes "storage_transformers") ms) ≡ Some m.storage_transformers) × (fields_of (besides document_names ms) ≡ m.additional_fields)
unfolding document_in
came_from ms m h =
    let fs = fields_of (besides document_names ms) in
    let s = bind_some _ (option_and_then numbers_of (get_member (codes "shape") ms)) m h in
    let d = bind_some _ (option_and_then extension_of (get_member (codes "data_type") ms)) m s.2 in
    let g = bind_some _ (option_and_then extension_of (get_member (codes "chunk_grid") ms)) m d.2 in
    let k = bind_some _ (option_and_then extension_of (get_member (codes "chunk_key_encoding") ms)) m g.2 in
    let f = bind_some _ (get_member (codes "fill_value") ms) m k.2 in
    let c = bind_some _ (list_in extension_of (get_member (codes "codecs") ms)) m f.2 in
    let a = bind_some _ (members_in (get_member (codes "attributes") ms)) m c.2 in
    let t = bind_some _ (transformers_in (get_member (codes "storage_transformers") ms)) m a.2 in
    let n = bind_some _ (names_in (get_member (codes "dimension_names") ms)) m t.2 in
    let is : made s.0 d.0 g.0 k.0 f.0 c.0 a.0 t.0 n.0 fs ≡ m = some_same _ m n.2 in (
      d.1 ∙ ap (λ (x : DocumentData). Some x.data_type) is,
      g.1 ∙ ap (λ (x : DocumentData). Some x.chunk_grid) is,
      k.1 ∙ ap (λ (x : DocumentData). Some x.chunk_key_encoding) is,
      c.1 ∙ ap (λ (x : DocumentData). Some x.codecs) is,
      t.1 ∙ ap (λ (x : DocumentData). Some x.storage_transformers) is,
      ap (λ (x : DocumentData). x.additional_fields) is,
    )

members_normal_in : (ms : Members) (m : DocumentData) → document_in ms ≡ Some m → normal_document m ≡ m
members_normal_in ms m h =
    let from = came_from ms m h in
    made_normal m.shape m.data_type m.chunk_grid m.chunk_key_encoding m.fill_value m.codecs m.attributes m.storage_transformers m.dimension_names m.additional_fields
    (member_normal (get_member (codes "data_type") ms) m.data_type from.0) (member_normal (get_member (codes "chunk_grid") ms) m.chunk_grid from.1) (member_normal (get_member (codes "chunk_key_encoding") ms) m.chunk_key_encoding from.2)
    (list_normal (get_member (codes "codecs") ms) m.codecs from.3) (transformers_normal (get_member (codes "storage_transformers") ms) m.storage_transformers from.4)
    (subst (λ fs. normal_fields document_names fs ≡ fs) from.5 (fields_normal document_names ms))

pub read_document_normal : (d : Data) (m : DocumentData) → document_of d ≡ Some m → normal_document m ≡ m
read_document_normal d m h =
    let found = bind_some document_from (as_object d) m h in
    members_normal_in found.0 m (kept_if (is_array found.0) (document_in found.0) m found.2)
