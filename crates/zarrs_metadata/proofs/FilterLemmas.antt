-- Filters, and the numbers that count down.
use Rattle.std.proofs.Common.{◌≡◌, ℕ, suc, List, [], ◌∷◌, length, false, refl}
use Rattle.serde_json.specs.Data.{array}
use Rattle.serde_json.specs.View.{items_view}
use Rattle.serde_json.specs.declared.value.Value.{Value}
use Rattle.zarrs_metadata_parts.specs.declared.types_v2.KindV2.{KindV2}
use Rattle.zarrs_metadata.specs.Conversion.{has_filters_of, count_down}

pub other_filters : (k : KindV2) (items : List Value) → (length items ≡ 0 → ⊥) → (length items ≡ 1 → ⊥) → false ≡ has_filters_of k (array (items_view items))
other_filters k [] some many = absurd (some refl)
other_filters k (v ∷ []) some many = absurd (many refl)
other_filters k (v ∷ w ∷ vs) some many = refl

pub count_down_step : (n m : ℕ) → n ≡ suc m → count_down n ≡ m ∷ count_down m
count_down_step n m is = rw is refl
