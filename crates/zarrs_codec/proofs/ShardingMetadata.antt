-- The metadata of `sharding_indexed`: what it says of the codecs in it.
use Rattle.std.proofs.Common.{◌≡◌, ℕ, zero, suc, ◌-◌, ◌<◌, ◌≤◌, Bool, true, false, cond, List, [], ◌∷◌, length, Option, None, Some}
use Rattle.std.proofs.Common.{refl, ap, ◌∙◌, arith}
use Rattle.std.specs.Prelude.{codes, option_map, option_and_then, slice_get, ◌&&◌}
use Rattle.std.specs.Str.{bytes_eq}
use Rattle.serde_json.specs.Data.{Data, Items, no_items, item, Members, depth, items_depth}
use Rattle.serde_json.specs.Find.{get_member, as_array}
use Rattle.zarrs_metadata_parts.specs.Extension.{ExtensionData, settings, extension_of}
use Rattle.zarrs_metadata_parts.specs.Lists.{all_of, list_of, size_said}
use Rattle.zarrs_metadata_parts.specs.Members.{has_only}
use Rattle.zarrs_data_type.specs.TypeMetadata.{levels_in}
use Rattle.zarrs_data_type_kinds.proofs.TypeReading.{get_member-depth}
use Rattle.zarrs_codec_leaf.specs.Chosen.{some_is, only_parts, bind_parts, map_parts}
use Rattle.zarrs_codec_optional.specs.BytesMetadata.{are_little_bytes}
use Rattle.zarrs_codec_optional.specs.Metadata.{cells_codec_said}
use Rattle.zarrs_codec_optional.proofs.OptionalMetadata.{extension_levels, array_depth, levels_of_member}
use Rattle.zarrs_codec.specs.Metadata.{array_codecs_said, chain_of_parts, chain_said, front_of, last_of, sharding_with, bytes_codec_within, bytes_codec_said}
use Rattle.zarrs_codec.specs.Configurations.{BytesCodecData, cells}
use Rattle.zarrs_codec_optional.specs.ShardingMetadata.{ShardingData, sharding_data, sharding_from, sharding_names, location_said}

-- ---- a codec in a configuration has fewer levels

list_levels : (ds : Items) (es : List ExtensionData) (i : ℕ) (e : ExtensionData) → all_of extension_of ds ≡ Some es → slice_get es i ≡ Some e → levels_in (settings e) ≤ items_depth ds
list_levels no_items es i e is at =
    let none : slice_get [] i ≡ Some e = ap (λ l. slice_get l i) (some_is is) ∙ at in cc
list_levels (item d ds) es i e is at =
    let first = bind_parts (extension_of d) (λ a. option_map (λ more. a ∷ more) (all_of extension_of ds)) es is in
    let rest = map_parts (λ more. first.0 ∷ more) (all_of extension_of ds) es first.2 in
    let here : slice_get (first.0 ∷ rest.0) i ≡ Some e = ap (λ l. slice_get l i) rest.2 ∙ at in
    go first.0 rest.0 i here (extension_levels d first.0 first.1) (λ j there. list_levels ds rest.0 j e rest.1 there)
  where
    go : (a : ExtensionData) (more : List ExtensionData) (j : ℕ) → slice_get (a ∷ more) j ≡ Some e → levels_in (settings a) ≤ depth d
        → ((n : ℕ) → slice_get more n ≡ Some e → levels_in (settings e) ≤ items_depth ds) → levels_in (settings e) ≤ items_depth (item d ds)
    go a more zero here le below = let same = ap (λ (x : ExtensionData). levels_in (settings x)) (some_is here) in omega arith
    go a more (suc j) here le below = let le' = below j here in omega arith

last_levels : (ms : Members) (key : List ℕ) (list : Data) (es : List ExtensionData) (e : ExtensionData) → get_member key ms ≡ Some list → list_of extension_of list ≡ Some es → last_of es ≡ Some e → levels_in (settings e) < levels_in ms
last_levels ms key list es e member is at =
    let items = bind_parts (as_array list) (λ ds. all_of extension_of ds) es is in
    omega (
      arith,
      list_levels items.0 es (length es - 1) e items.2 at,
      array_depth list items.0 items.1,
      get_member-depth key ms list member,
      levels_of_member key ms list member,
    )

codecs_read : (at_start : Option Bool) (sizes : Option (List ℕ)) (list : Option (List ExtensionData)) (d : ShardingData) → sharding_from at_start sizes list ≡ Some d → list ≡ Some d.codecs
codecs_read None sizes list d is = cc
codecs_read (Some a) None list d is = cc
codecs_read (Some a) (Some s) None d is = cc
codecs_read (Some a) (Some s) (Some c) d is = ap (λ (x : ShardingData). Some x.codecs) (some_is is)

pub sharding-levels : (ms : Members) (d : ShardingData) (e : ExtensionData) → sharding_data ms ≡ Some d → last_of d.codecs ≡ Some e → levels_in (settings e) < levels_in ms
sharding-levels ms d e is at =
    let at_start = location_said (get_member (codes "index_location") ms) in
    let sizes = option_and_then (list_of size_said) (get_member (codes "chunk_shape") ms) in
    let list = option_and_then (list_of extension_of) (get_member (codes "codecs") ms) in
    let whole = only_parts (has_only sharding_names ms && are_little_bytes (get_member (codes "index_codecs") ms)) (sharding_from at_start sizes list) d is in
    let found = bind_parts (get_member (codes "codecs") ms) (list_of extension_of) d.codecs (codecs_read at_start sizes list d whole.1) in
    last_levels ms (codes "codecs") found.0 d.codecs e found.1 found.2 at

-- ---- what an extension point says

abbrev inner_said : (ExtensionData → Option BytesCodecData) → ShardingData → Option BytesCodecData
inner_said f d = sharding_with d (chain_of_parts (array_codecs_said (front_of d.codecs)) (option_and_then f (last_of d.codecs)))

-- more levels than there are change nothing
within-enough : (n m : ℕ) (e : ExtensionData) → levels_in (settings e) < n → levels_in (settings e) < m → bytes_codec_within n e ≡ bytes_codec_within m e
within-enough zero m e h k = absurd (omega arith)
within-enough (suc n) zero e h k = absurd (omega arith)
within-enough (suc n) (suc m) e h k =
    ap (λ o. cond (bytes_eq e.name (codes "sharding_indexed")) o (option_map cells (cells_codec_said e))) (go (sharding_data (settings e)) refl (λ i p q. within-enough n m i p q))
  where
    go : (o : Option ShardingData) → sharding_data (settings e) ≡ o
        → ((i : ExtensionData) → levels_in (settings i) < n → levels_in (settings i) < m → bytes_codec_within n i ≡ bytes_codec_within m i)
        → option_and_then (inner_said (λ x. bytes_codec_within n x)) o ≡ option_and_then (inner_said (λ x. bytes_codec_within m x)) o
    go None is below = refl
    go (Some d) is below = ap (λ o. sharding_with d (chain_of_parts (array_codecs_said (front_of d.codecs)) o)) (last (last_of d.codecs) refl)
      where
        last : (o : Option ExtensionData) → last_of d.codecs ≡ o → option_and_then (λ x. bytes_codec_within n x) o ≡ option_and_then (λ x. bytes_codec_within m x) o
        last None at = refl
        last (Some x) at = let fewer = sharding-levels (settings e) d x is at in below x (omega arith) (omega arith)

pub said-cells : (e : ExtensionData) → bytes_eq e.name (codes "sharding_indexed") ≡ false → bytes_codec_said e ≡ option_map cells (cells_codec_said e)
said-cells e other =
    ap (λ b. cond b (option_and_then (inner_said (λ x. bytes_codec_within (levels_in (settings e)) x)) (sharding_data (settings e))) (option_map cells (cells_codec_said e))) other

pub said-no_parts : (e : ExtensionData) → bytes_eq e.name (codes "sharding_indexed") ≡ true → sharding_data (settings e) ≡ None → bytes_codec_said e ≡ None
said-no_parts e named is =
    ap (λ b. cond b (option_and_then (inner_said (λ x. bytes_codec_within (levels_in (settings e)) x)) (sharding_data (settings e))) (option_map cells (cells_codec_said e))) named
    ∙ ap (option_and_then (inner_said (λ x. bytes_codec_within (levels_in (settings e)) x))) is

pub said-sharding : (e : ExtensionData) (d : ShardingData) → bytes_eq e.name (codes "sharding_indexed") ≡ true → sharding_data (settings e) ≡ Some d → bytes_codec_said e ≡ sharding_with d (chain_said d.codecs)
said-sharding e d named is =
    let levels = levels_in (settings e) in
    ap (λ b. cond b (option_and_then (inner_said (λ x. bytes_codec_within levels x)) (sharding_data (settings e))) (option_map cells (cells_codec_said e))) named
    ∙ ap (option_and_then (inner_said (λ x. bytes_codec_within levels x))) is
    ∙ ap (λ o. sharding_with d (chain_of_parts (array_codecs_said (front_of d.codecs)) o)) (last (last_of d.codecs) refl)
  where
    last : (o : Option ExtensionData) → last_of d.codecs ≡ o → option_and_then (λ x. bytes_codec_within (levels_in (settings e)) x) o ≡ option_and_then bytes_codec_said o
    last None at = refl
    last (Some x) at =
        let fewer = sharding-levels (settings e) d x is at in
        within-enough (levels_in (settings e)) (suc (levels_in (settings x))) x fewer (omega arith)

-- what an extension point says, level by level
pub said-unfolds : (e : ExtensionData) → bytes_codec_said e
    ≡ cond (bytes_eq e.name (codes "sharding_indexed")) (option_and_then (λ (d : ShardingData). sharding_with d (chain_said d.codecs)) (sharding_data (settings e))) (option_map cells (cells_codec_said e))
said-unfolds e = named (bytes_eq e.name (codes "sharding_indexed")) refl
  where
    around : Option ShardingData → Option BytesCodecData
    around parts = option_and_then (λ (d : ShardingData). sharding_with d (chain_said d.codecs)) parts

    shards : (o : Option ShardingData) → bytes_eq e.name (codes "sharding_indexed") ≡ true → sharding_data (settings e) ≡ o → bytes_codec_said e ≡ around o
    shards None is at = said-no_parts e is at
    shards (Some d) is at = said-sharding e d is at

    named : (b : Bool) → bytes_eq e.name (codes "sharding_indexed") ≡ b → bytes_codec_said e ≡ cond b (around (sharding_data (settings e))) (option_map cells (cells_codec_said e))
    named true is = shards (sharding_data (settings e)) is refl
    named false is = said-cells e is
