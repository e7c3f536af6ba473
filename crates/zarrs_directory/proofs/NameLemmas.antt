-- The names that make the path of a key.
use Rattle.std.proofs.Common.{◌≡◌, ℕ, ◌<◌, List, [], length, map, get_or, sym, ap, ◌∙◌, subst}
use Rattle.std.specs.Borrow.{Bor}
use Rattle.std.specs.List.{All}
use Rattle.std.proofs.lemmas.List.{get_or-map, length-map}
use Rattle.zarrs_directory.specs.Directory.{IsName}

-- if each word is a name, so is each part that the words were taken from
pub name_among : (parts : List (Bor (List ℕ))) (words : List (List ℕ)) (i : ℕ) (d : Bor (List ℕ)) → map (λ (part : Bor (List ℕ)). part.now) parts ≡ words
    → i < length parts → All IsName words → IsName (get_or parts i d).now
name_among parts words i d are below each =
    let inside : i < length words = subst (λ (n : ℕ). i < n) (sym (length-map parts (λ (part : Bor (List ℕ)). part.now)) ∙ ap length are) below in
    subst IsName (ap (λ (l : List (List ℕ)). get_or l i []) (sym are) ∙ get_or-map (λ (part : Bor (List ℕ)). part.now) parts i d [] below) (each i [] inside)
