-- The metadata of `zarrs.optional`: what it says of the codecs in it.
use Rattle.std.proofs.Common.{◌≡◌, ℕ, zero, suc, ◌<◌, ◌≤◌, true, false, cond, List, [], ◌∷◌, Option, None, Some}
use Rattle.std.proofs.Common.{refl, ap, ◌∙◌, subst, arith}
use Rattle.std.specs.Prelude.{codes, option_and_then}
use Rattle.serde_json.specs.Data.{Data, null, boolean, number, string, array, object, Items, no_items, item, Members, no_members}
use Rattle.serde_json.specs.Data.{member, depth, items_depth, members_depth}
use Rattle.serde_json.specs.Find.{get_member, as_str, as_object, as_array}
use Rattle.zarrs_metadata_parts.specs.Extension.{ExtensionData, settings, extension_of, extension_data, extension_names}
use Rattle.zarrs_metadata_parts.specs.Extension.{configuration_from, must_understand_from, ◌>>=◌}
use Rattle.zarrs_metadata_parts.specs.Members.{has_only, nonempty}
use Rattle.zarrs_metadata_parts.specs.Lists.{sole_item}
use Rattle.zarrs_data_type.specs.TypeMetadata.{is_optional_name, levels_in}
use Rattle.zarrs_data_type_kinds.proofs.TypeReading.{get_member-depth}
use Rattle.zarrs_codec_leaf.specs.Chosen.{some_is, only_parts, bind_parts, map_parts}
use Rattle.zarrs_codec_leaf.specs.declared.bytes_codec.Endianness.TheVariants.{Little, Big}
use Rattle.zarrs_codec_optional.specs.Configurations.{MaskCodecData, byte_mask, packed_mask, CellsCodecData, plain, optional}
use Rattle.zarrs_codec_optional.specs.Metadata.{mask_codec_said, optional_parts, optional_said, plain_said}
use Rattle.zarrs_codec_optional.specs.PlainCodecs.{PlainCodecData, bytes, extension_of_plain_codec}
use Rattle.zarrs_codec_optional.specs.Sole.{sole_codec}
use Rattle.zarrs_codec_optional.specs.Metadata.{cells_codec_within, cells_codec_said, extension_of_mask_codec, optional_extension, extension_of_cells_codec}

-- ---- a codec in a configuration has fewer levels

levels_le : (ms : Members) → levels_in ms ≤ suc (members_depth ms)
levels_le no_members = omega arith
levels_le (member key d ms) = omega arith

pub levels_of_member : (key : List ℕ) (ms : Members) (d : Data) → get_member key ms ≡ Some d → levels_in ms ≡ suc (members_depth ms)
levels_of_member key no_members d is = cc
levels_of_member key (member l e ms) d is = refl

object_depth : (d : Data) (ms : Members) → as_object d ≡ Some ms → depth d ≡ suc (members_depth ms)
object_depth (object ms') ms is = ap (λ x. suc (members_depth x)) (some_is is)
object_depth null ms is = cc
object_depth (boolean b) ms is = cc
object_depth (number n) ms is = cc
object_depth (string s) ms is = cc
object_depth (array ds) ms is = cc

pub array_depth : (d : Data) (ds : Items) → as_array d ≡ Some ds → depth d ≡ suc (items_depth ds)
array_depth (array ds') ds is = ap (λ x. suc (items_depth x)) (some_is is)
array_depth null ds is = cc
array_depth (boolean b) ds is = cc
array_depth (number n) ds is = cc
array_depth (string s) ds is = cc
array_depth (object ms) ds is = cc

item_depth : (ds : Items) (d : Data) → sole_item ds ≡ Some d → depth d ≤ items_depth ds
item_depth no_items d is = cc
item_depth (item e no_items) d is = let same : depth e ≡ depth d = ap depth (some_is is) in omega arith
item_depth (item e (item f ds)) d is = cc

nonempty_levels : (ms : Members) (e : ExtensionData) → nonempty ms ≡ e.configuration → levels_in (settings e) ≤ suc (members_depth ms)
nonempty_levels no_members e is = subst (λ c. levels_in (settings (record e { configuration = c })) ≤ 1) is (omega arith)
nonempty_levels (member key d ms) e is =
    subst (λ c. levels_in (settings (record e { configuration = c })) ≤ suc (members_depth (member key d ms))) is (omega arith)

-- the configuration of an extension point lies in its object
members_levels : (ms : Members) (e : ExtensionData) → extension_of (object ms) ≡ Some e → levels_in (settings e) ≤ suc (members_depth ms)
members_levels ms e is =
    let text = get_member (codes "name") ms in
    let flag = get_member (codes "must_understand") ms in
    let named = bind_parts (option_and_then as_str text)
    (λ n. configuration_from (get_member (codes "configuration") ms) >>= λ c. must_understand_from flag >>= λ m. cond (has_only extension_names ms) (Some (record { name = n; configuration = c; must_understand = m })) None)
    e is in
    let configured = bind_parts (configuration_from (get_member (codes "configuration") ms))
    (λ c. must_understand_from flag >>= λ m. cond (has_only extension_names ms) (Some (record { name = named.0; configuration = c; must_understand = m })) None)
    e named.2 in
    let flagged = bind_parts (must_understand_from flag)
    (λ m. cond (has_only extension_names ms) (Some (record { name = named.0; configuration = configured.0; must_understand = m })) None)
    e configured.2 in
    let made = some_is (only_parts (has_only extension_names ms) (Some (record { name = named.0; configuration = configured.0; must_understand = flagged.0 })) e flagged.2).1 in
    go (get_member (codes "configuration") ms) refl (configured.1 ∙ ap (λ x. Some x.configuration) made)
  where
    go : (o : Option Data) → get_member (codes "configuration") ms ≡ o → configuration_from o ≡ Some e.configuration → levels_in (settings e) ≤ suc (members_depth ms)
    go None at c = subst (λ x. levels_in (settings (record e { configuration = x })) ≤ suc (members_depth ms)) (some_is c) (omega arith)
    go (Some d) at c =
        let p = map_parts nonempty (as_object d) e.configuration c in
        omega (arith, nonempty_levels p.0 e p.2, object_depth d p.0 p.1, get_member-depth (codes "configuration") ms d at)

pub extension_levels : (d : Data) (e : ExtensionData) → extension_of d ≡ Some e → levels_in (settings e) ≤ depth d
extension_levels (string text) e is = subst (λ x. levels_in (settings x) ≤ 0) (some_is is) (omega arith)
extension_levels (object ms) e is = members_levels ms e is
extension_levels null e is = cc
extension_levels (boolean b) e is = cc
extension_levels (number n) e is = cc
extension_levels (array ds) e is = cc

sole_levels : (key : List ℕ) (ms : Members) (e : ExtensionData) → sole_codec (get_member key ms) ≡ Some e → levels_in (settings e) < levels_in ms
sole_levels key ms e is =
    let value = bind_parts (get_member key ms) (λ v. as_array v >>= λ ds. sole_item ds >>= λ d. extension_of d) e is in
    let items = bind_parts (as_array value.0) (λ ds. sole_item ds >>= λ d. extension_of d) e value.2 in
    let codec = bind_parts (sole_item items.0) (λ d. extension_of d) e items.2 in
    omega (
      arith,
      extension_levels codec.0 e codec.2,
      item_depth items.0 codec.0 codec.1,
      array_depth value.0 items.0 items.1,
      get_member-depth key ms value.0 value.1,
      levels_of_member key ms value.0 value.1,
    )

pub optional_parts-levels : (ms : Members) (m e : ExtensionData) → optional_parts ms ≡ Some (m, e) → levels_in (settings e) < levels_in ms
optional_parts-levels ms m e is =
    let all = only_parts (has_only (codes "data_codecs" ∷ codes "mask_codecs" ∷ []) ms)
    (sole_codec (get_member (codes "mask_codecs") ms) >>= λ x. sole_codec (get_member (codes "data_codecs") ms) >>= λ y. Some (x, y)) (m, e) is in
    let mask = bind_parts (sole_codec (get_member (codes "mask_codecs") ms)) (λ x. sole_codec (get_member (codes "data_codecs") ms) >>= λ y. Some (x, y)) (m, e) all.1 in
    let inner = bind_parts (sole_codec (get_member (codes "data_codecs") ms)) (λ y. Some (mask.0, y)) (m, e) mask.2 in
    let same : inner.0 ≡ e = ap (λ p. p.1) (some_is inner.2) in
    sole_levels (codes "data_codecs") ms e (inner.1 ∙ ap Some same)

-- ---- what an extension point says

-- more levels than there are change nothing
within-enough : (n m : ℕ) (e : ExtensionData) → levels_in (settings e) < n → levels_in (settings e) < m → cells_codec_within n e ≡ cells_codec_within m e
within-enough zero m e h k = absurd (omega arith)
within-enough (suc n) zero e h k = absurd (omega arith)
within-enough (suc n) (suc m) e h k =
    ap (λ o. cond (is_optional_name e.name) o (plain_said e)) (go (optional_parts (settings e)) refl (λ i p q. within-enough n m i p q))
  where
    go : (o : Option (ExtensionData × ExtensionData)) → optional_parts (settings e) ≡ o
        → ((i : ExtensionData) → levels_in (settings i) < n → levels_in (settings i) < m → cells_codec_within n i ≡ cells_codec_within m i)
        → option_and_then (λ p. optional_said (mask_codec_said p.0) (cells_codec_within n p.1)) o ≡ option_and_then (λ p. optional_said (mask_codec_said p.0) (cells_codec_within m p.1)) o
    go None is below = refl
    go (Some (x, i)) is below =
        let fewer = optional_parts-levels (settings e) x i is in
        ap (optional_said (mask_codec_said x)) (below i (omega arith) (omega arith))

pub said-plain : (e : ExtensionData) → is_optional_name e.name ≡ false → cells_codec_said e ≡ plain_said e
said-plain e other =
    ap (λ b. cond b (option_and_then (λ p. optional_said (mask_codec_said p.0) (cells_codec_within (levels_in (settings e)) p.1)) (optional_parts (settings e))) (plain_said e)) other

pub said-optional : (e m i : ExtensionData) → is_optional_name e.name ≡ true → optional_parts (settings e) ≡ Some (m, i) → cells_codec_said e ≡ optional_said (mask_codec_said m) (cells_codec_said i)
said-optional e m i named is =
    let levels = levels_in (settings e) in
    let fewer : levels_in (settings i) < levels = optional_parts-levels (settings e) m i is in
    ap (λ b. cond b (option_and_then (λ p. optional_said (mask_codec_said p.0) (cells_codec_within levels p.1)) (optional_parts (settings e))) (plain_said e)) named
    ∙ ap (option_and_then (λ p. optional_said (mask_codec_said p.0) (cells_codec_within levels p.1))) is
    ∙ ap (optional_said (mask_codec_said m)) (within-enough levels (suc (levels_in (settings i))) i fewer (omega arith))

pub said-no_parts : (e : ExtensionData) → is_optional_name e.name ≡ true → optional_parts (settings e) ≡ None → cells_codec_said e ≡ None
said-no_parts e named is =
    let levels = levels_in (settings e) in
    ap (λ b. cond b (option_and_then (λ p. optional_said (mask_codec_said p.0) (cells_codec_within levels p.1)) (optional_parts (settings e))) (plain_said e)) named
    ∙ ap (option_and_then (λ p. optional_said (mask_codec_said p.0) (cells_codec_within levels p.1))) is

-- ---- what is written reads again

mask_again : (m : MaskCodecData) → extension_of (extension_data (extension_of_mask_codec m)) ≡ Some (extension_of_mask_codec m)
mask_again (byte_mask None) = refl
mask_again (byte_mask (Some Little)) = refl
mask_again (byte_mask (Some Big)) = refl
mask_again packed_mask = refl

plain_again : (c : PlainCodecData) → extension_of (extension_data (extension_of_plain_codec c)) ≡ Some (extension_of_plain_codec c)
plain_again (bytes None) = refl
plain_again (bytes (Some Little)) = refl
plain_again (bytes (Some Big)) = refl
plain_again c = refl

pub codec_again : (c : CellsCodecData) → extension_of (extension_data (extension_of_cells_codec c)) ≡ Some (extension_of_cells_codec c)
codec_again (plain codec) = plain_again codec
codec_again (optional mask inner) = refl

parts_again : (m : MaskCodecData) (c : CellsCodecData) → optional_parts (settings (optional_extension (extension_of_mask_codec m) (extension_of_cells_codec c))) ≡ Some (extension_of_mask_codec m, extension_of_cells_codec c)
parts_again m c =
    ap (λ o. o >>= λ x. extension_of (extension_data (extension_of_cells_codec c)) >>= λ y. Some (x, y)) (mask_again m)
    ∙ ap (λ o. o >>= λ y. Some (extension_of_mask_codec m, y)) (codec_again c)

mask_back : (m : MaskCodecData) → mask_codec_said (extension_of_mask_codec m) ≡ Some m
mask_back (byte_mask None) = refl
mask_back (byte_mask (Some Little)) = refl
mask_back (byte_mask (Some Big)) = refl
mask_back packed_mask = refl

plain_back : (c : PlainCodecData) → cells_codec_said (extension_of_plain_codec c) ≡ Some (plain c)
plain_back (bytes None) = refl
plain_back (bytes (Some Little)) = refl
plain_back (bytes (Some Big)) = refl
plain_back c = refl

pub cells_codec_back : (c : CellsCodecData) → cells_codec_said (extension_of_cells_codec c) ≡ Some c
cells_codec_back (plain codec) = plain_back codec
cells_codec_back (optional mask inner) =
    said-optional (extension_of_cells_codec (optional mask inner)) (extension_of_mask_codec mask) (extension_of_cells_codec inner) refl (parts_again mask inner)
    ∙ ap (λ o. optional_said o (cells_codec_said (extension_of_cells_codec inner))) (mask_back mask)
    ∙ ap (optional_said (Some mask)) (cells_codec_back inner)
