-- An array lies in its store as its metadata says.
use Rattle.std.proofs.Common.{◌≡◌, List, ℕ, Some, Result, Ok, Err, refl, ap, sym, ◌∙◌}
use Rattle.std.specs.Result.{result_ok}
use Rattle.zarrs_options.specs.Refusals.{CreateRefusal}
use Rattle.zarrs_creation.specs.Meanings.{Meaning, creation}
use Rattle.zarrs.specs.Layouts.{layout_meant}
use Rattle.zarrs.specs.Arrays.{metadata_of_array, meaning_of_array, layout_of_array, path_of_array}
use Rattle.zarrs.specs.declared.array.Array.{Array}

ok_is : {A : Type 0} (r : Result A CreateRefusal) (a : A) → result_ok r ≡ Some a → r ≡ Ok a
ok_is (Ok x) a is = cc
ok_is (Err e) a is = cc

module _ {S : Type 0} where
  pub layout_is : (a : Array S) → layout_of_array a ≡ layout_meant (path_of_array a) (meaning_of_array a)
  layout_is a = refl

  pub parts_are : (a : Array S) → creation (metadata_of_array a) ≡ Ok (meaning_of_array a)
  parts_are a = ok_is _ _ a.agrees

  -- arrays at one path, of which the second one's metadata says the parts of the first, lie in the same way
  pub one_layout : (a b : Array S) → creation (metadata_of_array b) ≡ Ok (meaning_of_array a) → path_of_array b ≡ path_of_array a → layout_of_array b ≡ layout_of_array a
  one_layout a b same path =
      let said : Ok (meaning_of_array b) ≡ Ok (meaning_of_array a) = sym (parts_are b) ∙ same in
      let meaning : meaning_of_array b ≡ meaning_of_array a = cc in
      layout_is b ∙ ap (λ (p : List ℕ). layout_meant p (meaning_of_array b)) path ∙ ap (λ (m : Meaning). layout_meant (path_of_array a) m) meaning ∙ sym (layout_is a)

-- arrays of the same parts at one path lie in the same way, whichever their stores
pub layout_of_parts : {S T : Type 0} (a : Array S) (b : Array T) → path_of_array b ≡ path_of_array a → meaning_of_array b ≡ meaning_of_array a → layout_of_array b ≡ layout_of_array a
layout_of_parts a b path meaning =
    layout_is b ∙ ap (λ (p : List ℕ). layout_meant p (meaning_of_array b)) path ∙ ap (λ (m : Meaning). layout_meant (path_of_array a) m) meaning ∙ sym (layout_is a)
