-- What is written reads as what was written.
use Rattle.std.proofs.Common.{◌≡◌, ℕ, List, [], ◌∷◌, Bool, true, false, Option, Some, None, codes, refl, ap, ◌∙◌}
use Rattle.serde_json.specs.Data.{Members, no_members, member}
use Rattle.zarrs_metadata_parts.specs.Extension.{ExtensionData, normal, extension_data, extension_of, extension_from, extension_of_members, extension_names}
use Rattle.serde_json.specs.Find.{get_member}
use Rattle.std.specs.Prelude.{is_none}
use Rattle.zarrs_metadata_parts.specs.Members.{besides, nonempty}
use Rattle.zarrs_metadata_parts.proofs.MemberLemmas.{besides-besides, get_member-besides, nothing_besides}

pub round_trip : (e : ExtensionData) → extension_of (extension_data e) ≡ Some (normal e)
round_trip e = trip e.name e.configuration e.must_understand
  where
    trip : (text : List ℕ) (settings : Option Members) (must : Bool) → extension_of (extension_data (record { name = text; configuration = settings; must_understand = must })) ≡ Some (normal (record { name = text; configuration = settings; must_understand = must }))
    trip text None true = refl
    trip text None false = refl
    trip text (Some no_members) true = refl
    trip text (Some no_members) false = refl
    trip text (Some (member k d ms)) true = refl
    trip text (Some (member k d ms)) false = refl

-- taking the three members one after the other
pub parts_in_turn : (ms m1 m2 m3 : Members) → m1 ≡ besides (codes "name" ∷ []) ms → m2 ≡ besides (codes "configuration" ∷ []) m1 → m3 ≡ besides (codes "must_understand" ∷ []) m2
    → extension_from (get_member (codes "name") ms) (get_member (codes "configuration") m1) (get_member (codes "must_understand") m2) (is_none (nonempty m3)) ≡ extension_of_members ms
parts_in_turn ms m1 m2 m3 e1 e2 e3 =
    let two : m2 ≡ besides (codes "configuration" ∷ codes "name" ∷ []) ms = e2 ∙ ap (besides (codes "configuration" ∷ [])) e1 ∙ besides-besides (codes "configuration") (codes "name" ∷ []) ms in
    let three : m3 ≡ besides extension_names ms = e3 ∙ ap (besides (codes "must_understand" ∷ [])) two ∙ besides-besides (codes "must_understand") (codes "configuration" ∷ codes "name" ∷ []) ms in
    let second : get_member (codes "configuration") m1 ≡ get_member (codes "configuration") ms = ap (get_member (codes "configuration")) e1 ∙ get_member-besides (codes "name" ∷ []) (codes "configuration") ms refl in
    let third : get_member (codes "must_understand") m2 ≡ get_member (codes "must_understand") ms = ap (get_member (codes "must_understand")) two ∙ get_member-besides (codes "configuration" ∷ codes "name" ∷ []) (codes "must_understand") ms refl in
    ap (λ c. extension_from (get_member (codes "name") ms) c (get_member (codes "must_understand") m2) (is_none (nonempty m3))) second
    ∙ ap (λ m. extension_from (get_member (codes "name") ms) (get_member (codes "configuration") ms) m (is_none (nonempty m3))) third
    ∙ ap (extension_from (get_member (codes "name") ms) (get_member (codes "configuration") ms) (get_member (codes "must_understand") ms)) (ap (λ m. is_none (nonempty m)) three ∙ nothing_besides extension_names ms)
