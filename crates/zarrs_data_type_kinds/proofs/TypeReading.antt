-- The data type that metadata says.
use Rattle.std.proofs.Common.{◌≡◌, ℕ, zero, suc, ◌*◌, ◌<◌, ◌≤◌, Bool, true, false, cond, ltb, leb, max, Ordering, Less}
use Rattle.std.proofs.Common.{Equal, Greater, nat_cmp, List, [], ◌∷◌, Option, None, Some, refl, ap, ◌∙◌}
use Rattle.std.proofs.Common.{arith}
use Rattle.std.specs.Prelude.{codes, option_map, option_and_then, if◌then◌else◌}
use Rattle.std.specs.Fmt.{decimal}
use Rattle.std.specs.Ordering.{match_ordering}
use Rattle.std.specs.Cmp.Lexicographic.{slice_cmp}
use Rattle.std.proofs.lemmas.Bool.{and_parts, ltb-true, leb-true}
use Rattle.serde_json.specs.Data.{Data, null, boolean, number, string, array, object, Members, no_members, member, depth, members_depth}
use Rattle.serde_json.specs.Find.{get_member, as_str, as_object}
use Rattle.zarrs_metadata_parts.specs.Extension.{ExtensionData, settings}
use Rattle.zarrs_metadata_parts.specs.Members.{has_only}
use Rattle.zarrs_data_type_kinds.specs.Kind.{Kind}
use Rattle.zarrs_data_type_kinds.specs.Kind as type
use Rattle.zarrs_data_type_kinds.specs.TypeMetadata.{raw_size, size_of_bits, plain_kind, is_optional_name}
use Rattle.zarrs_data_type_kinds.specs.TypeMetadata.{type_configuration_said, inner_extension, kind_within, levels_in, kind_of}
use Rattle.zarrs_data_type_kinds.specs.TypeMetadata.{inner_members, kind_extension, is_readable}
use Rattle.zarrs_data_type_kinds.proofs.TypeNames.{number_said-decimal, size_of_bits-times}

-- a member nests no deeper than all members
pub get_member-depth : (key : List ℕ) (ms : Members) (d : Data) → get_member key ms ≡ Some d → depth d ≤ members_depth ms
get_member-depth key no_members d is = cc
get_member-depth key (member l e ms) d is = go (slice_cmp nat_cmp key l) (λ found. get_member-depth key ms d found) is
  where
    go : (o : Ordering) → (get_member key ms ≡ Some d → depth d ≤ members_depth ms) → match_ordering o (get_member key ms) (Some e) (get_member key ms) ≡ Some d → depth d ≤ max (depth e) (members_depth ms)
    go Less later found = let below = later found in omega arith
    go Equal later found = let same : e ≡ d = cc in let at : depth e ≡ depth d = ap depth same in omega arith
    go Greater later found = let below = later found in omega arith

object_within : (d : Data) (ms : Members) → as_object d ≡ Some ms → suc (members_depth ms) ≤ depth d
object_within (object ms') ms is = let same : ms' ≡ ms = cc in let at : members_depth ms' ≡ members_depth ms = ap members_depth same in omega arith
object_within null ms is = cc
object_within (boolean b) ms is = cc
object_within (number n) ms is = cc
object_within (string s) ms is = cc
object_within (array ds) ms is = cc

levels_le : (ms : Members) → levels_in ms ≤ suc (members_depth ms)
levels_le no_members = omega arith
levels_le (member key d ms) = omega arith

levels_of_named : (ms : Members) (d : Data) → get_member (codes "name") ms ≡ Some d → levels_in ms ≡ suc (members_depth ms)
levels_of_named no_members d is = cc
levels_of_named (member key e ms) d is = refl

abbrev made : List ℕ → Option Members → ExtensionData
made text c = record { name = text; configuration = c; must_understand = true }

abbrev inner_with : Option (List ℕ) → Option (Option Members) → Option ExtensionData
inner_with t c = option_and_then (λ text. option_and_then (λ conf. Some (made text conf)) c) t

-- the inner type has fewer levels
pub inner_extension-levels : (ms : Members) (i : ExtensionData) → inner_extension ms ≡ Some i → levels_in (settings i) < levels_in ms
inner_extension-levels ms i is =
    go (has_only (codes "name" ∷ codes "configuration" ∷ []) ms) (get_member (codes "name") ms) refl (get_member (codes "configuration") ms) refl is
  where
    configured : (d dn : Data) (text : List ℕ) (o : Option Members) → get_member (codes "name") ms ≡ Some dn → get_member (codes "configuration") ms ≡ Some d → as_object d ≡ o
        → inner_with (Some text) (option_map Some o) ≡ Some i → levels_in (settings i) < levels_in ms
    configured d dn text None named at is e = cc
    configured d dn text (Some inner) named at is e =
        let same : made text (Some inner) ≡ i = cc in
        let levels : levels_in inner ≡ levels_in (settings i) = ap (λ x. levels_in (settings x)) same in
        omega (arith, levels_le inner, object_within d inner is, get_member-depth (codes "configuration") ms d at, levels_of_named ms dn named)

    with_name : (dn : Data) (t : Option (List ℕ)) (c : Option Data) → get_member (codes "name") ms ≡ Some dn → get_member (codes "configuration") ms ≡ c
        → inner_with t (type_configuration_said c) ≡ Some i → levels_in (settings i) < levels_in ms
    with_name dn None c named at e = cc
    with_name dn (Some text) None named at e =
        let same : made text None ≡ i = cc in
        let levels : 0 ≡ levels_in (settings i) = ap (λ x. levels_in (settings x)) same in
        omega (arith, levels_of_named ms dn named)
    with_name dn (Some text) (Some d) named at e = configured d dn text (as_object d) named at refl e

    go : (b : Bool) (n : Option Data) → get_member (codes "name") ms ≡ n → (c : Option Data) → get_member (codes "configuration") ms ≡ c
        → cond b (inner_with (option_and_then as_str n) (type_configuration_said c)) None ≡ Some i → levels_in (settings i) < levels_in ms
    go false n named c at e = cc
    go true None named c at e = cc
    go true (Some dn) named c at e = with_name dn (as_str dn) c named at e

-- more levels than there are change nothing
kind_within-enough : (n m : ℕ) (e : ExtensionData) → levels_in (settings e) < n → levels_in (settings e) < m → kind_within n e ≡ kind_within m e
kind_within-enough zero m e h k = absurd (omega arith)
kind_within-enough (suc n) zero e h k = absurd (omega arith)
kind_within-enough (suc n) (suc m) e h k =
    ap (λ o. cond (is_optional_name e.name) (option_map type.optional o) (cond (has_only [] (settings e)) (plain_kind e.name) None))
    (go (inner_extension (settings e)) refl (λ i p q. kind_within-enough n m i p q))
  where
    go : (o : Option ExtensionData) → inner_extension (settings e) ≡ o
        → ((i : ExtensionData) → levels_in (settings i) < n → levels_in (settings i) < m → kind_within n i ≡ kind_within m i)
        → option_and_then (λ i. kind_within n i) o ≡ option_and_then (λ i. kind_within m i) o
    go None is below = refl
    go (Some i) is below = let fewer = inner_extension-levels (settings e) i is in below i (omega arith) (omega arith)

-- an optional type is that of the inner type in its configuration
pub kind_of-inner : (e i : ExtensionData) → is_optional_name e.name ≡ true → inner_extension (settings e) ≡ Some i → kind_of e ≡ option_map type.optional (kind_of i)
kind_of-inner e i optional is =
    let levels = levels_in (settings e) in
    let fewer : levels_in (settings i) < levels_in (settings e) = inner_extension-levels (settings e) i is in
    ap (λ b. cond b (option_map type.optional (option_and_then (λ j. kind_within levels j) (inner_extension (settings e)))) (cond (has_only [] (settings e)) (plain_kind e.name) None)) optional
    ∙ ap (λ o. option_map type.optional (option_and_then (λ j. kind_within levels j) o)) is
    ∙ ap (option_map type.optional) (kind_within-enough levels (suc (levels_in (settings i))) i fewer (omega arith))

-- and is none without one
pub kind_of-no_inner : (e : ExtensionData) → is_optional_name e.name ≡ true → inner_extension (settings e) ≡ None → kind_of e ≡ None
kind_of-no_inner e optional is =
    let levels = levels_in (settings e) in
    ap (λ b. cond b (option_map type.optional (option_and_then (λ j. kind_within levels j) (inner_extension (settings e)))) (cond (has_only [] (settings e)) (plain_kind e.name) None)) optional
    ∙ ap (λ o. option_map type.optional (option_and_then (λ j. kind_within levels j) o)) is

-- the type that metadata says, level by level
pub kind_of-unfolds : (e : ExtensionData)
    → kind_of e ≡ (if is_optional_name e.name then option_map type.optional (option_and_then kind_of (inner_extension (settings e)))
    else if has_only [] (settings e) then plain_kind e.name else None)
kind_of-unfolds e =
    ap (λ o. cond (is_optional_name e.name) (option_map type.optional o) (cond (has_only [] (settings e)) (plain_kind e.name) None))
    (go (inner_extension (settings e)) refl)
  where
    go : (o : Option ExtensionData) → inner_extension (settings e) ≡ o
        → option_and_then (λ i. kind_within (levels_in (settings e)) i) o ≡ option_and_then kind_of o
    go None is = refl
    go (Some i) is =
        let fewer = inner_extension-levels (settings e) i is in
        kind_within-enough (levels_in (settings e)) (suc (levels_in (settings i))) i fewer (omega arith)

-- the configuration that is written for a type reads as it
inner_of_members : (k : Kind) → inner_extension (inner_members (kind_extension k)) ≡ Some (kind_extension k)
inner_of_members type.bool = refl
inner_of_members type.int8 = refl
inner_of_members type.int16 = refl
inner_of_members type.int32 = refl
inner_of_members type.int64 = refl
inner_of_members type.uint8 = refl
inner_of_members type.uint16 = refl
inner_of_members type.uint32 = refl
inner_of_members type.uint64 = refl
inner_of_members (type.raw size) = refl
inner_of_members type.string = refl
inner_of_members type.bytes = refl
inner_of_members (type.optional u) = refl

raw_of_name : (size : ℕ) → 0 < size → size ≤ 65536 → raw_size (114 ∷ decimal (size * 8)) ≡ Some size
raw_of_name size some small =
    ap (option_and_then size_of_bits) (number_said-decimal (size * 8) (omega arith)) ∙ size_of_bits-times size some small

-- the metadata of a type reads as it
pub kind_of-extension : (k : Kind) → is_readable k ≡ true → kind_of (kind_extension k) ≡ Some k
kind_of-extension type.bool is = refl
kind_of-extension type.int8 is = refl
kind_of-extension type.int16 is = refl
kind_of-extension type.int32 is = refl
kind_of-extension type.int64 is = refl
kind_of-extension type.uint8 is = refl
kind_of-extension type.uint16 is = refl
kind_of-extension type.uint32 is = refl
kind_of-extension type.uint64 is = refl
kind_of-extension (type.raw size) is =
    let both = and_parts (ltb 0 size) (leb size 65536) is in
    ap (option_map type.raw) (raw_of_name size (ltb-true 0 size both.0) (leb-true size 65536 both.1))
kind_of-extension type.string is = refl
kind_of-extension type.bytes is = refl
kind_of-extension (type.optional u) is =
    kind_of-inner (kind_extension (type.optional u)) (kind_extension u) refl (inner_of_members u) ∙ ap (option_map type.optional) (kind_of-extension u is)
