-- The law of a codec of byte strings.
use Rattle.std.proofs.Common.{◌≡◌, ℕ, Bool, true, false, cond, List, length, map, get_or, Option, None}
use Rattle.std.proofs.Common.{Some, refl, sym, ap, ◌∙◌}
use Rattle.std.specs.Prelude.{option_and_then}
use Rattle.std.proofs.lemmas.Bool.{false≢true}
use Rattle.std.proofs.lemmas.List.{length-map}
use Rattle.std.proofs.lemmas.List.Sums.{AllPass-from_list_all}
use Rattle.std.proofs.lemmas.Simd.{map-map}
use Rattle.zarrs_data_type.specs.Kind.{Kind, is_variable}
use Rattle.zarrs_data_type.specs.Kind as type
use Rattle.zarrs_data_type.specs.Cell.{Cell, bytes, none, some, is_value, are_values, values_only}
use Rattle.zarrs_codec_leaf.specs.Bytes.{cell_bytes}
use Rattle.zarrs_codec_leaf.specs.Chosen.{some_is, only_parts, bind_parts, map_same}
use Rattle.zarrs_codec_leaf.specs.Leaf.{LeafMeaning, IsLawfulLeaf}
use Rattle.zarrs_codec_leaf.specs.Strings.{strings_meaning}

-- the values of such a type are byte strings
string_cell : (k : Kind) (c : Cell) → is_variable k ≡ true → is_value k c ≡ true → bytes (cell_bytes c) ≡ c
string_cell k (bytes b) is v = refl
string_cell type.string none is v = absurd (false≢true v)
string_cell type.bytes none is v = absurd (false≢true v)
string_cell k none is v = absurd (false≢true is)
string_cell type.string (some c) is v = absurd (false≢true v)
string_cell type.bytes (some c) is v = absurd (false≢true v)
string_cell k (some c) is v = absurd (false≢true is)

pub string_cells : (k : Kind) (cs : List Cell) → is_variable k ≡ true → are_values k cs ≡ true → map bytes (map cell_bytes cs) ≡ cs
string_cells k cs is values =
    map-map bytes cell_bytes cs
    ∙ map_same (λ c. bytes (cell_bytes c)) cs (λ i d lt. string_cell k (get_or cs i d) is (AllPass-from_list_all (λ c. is_value k c) cs values i d lt))

-- a codec of byte strings is lawful if it reads again what it writes, and the number of byte strings that was asked for
module _ (takes : Kind → Bool) (written : List (List ℕ) → Option (List ℕ)) (read : ℕ → List ℕ → Option (List (List ℕ))) where
  abbrev of_strings : LeafMeaning
  of_strings = strings_meaning takes written read

  module _ (only : (k : Kind) → takes k ≡ true → is_variable k ≡ true)
      (again : (strings : List (List ℕ)) (b : List ℕ) → written strings ≡ Some b → read (length strings) b ≡ Some strings)
      (count : (n : ℕ) (b : List ℕ) (strings : List (List ℕ)) → read n b ≡ Some strings → length strings ≡ n) where
    round_trip : (k : Kind) (cs : List Cell) (b : List ℕ) → are_values k cs ≡ true → of_strings.encoded k cs ≡ Some b
        → of_strings.decoded k (length cs) b ≡ Some cs
    round_trip k cs b values made =
        let p = only_parts (takes k) (written (map cell_bytes cs)) b made in
        ap (λ x. cond x (option_and_then (λ strings. values_only k (map bytes strings)) (read (length cs) b)) None) p.0
        ∙ ap (λ n. option_and_then (λ strings. values_only k (map bytes strings)) (read n b)) (sym (length-map cs cell_bytes))
        ∙ ap (option_and_then (λ strings. values_only k (map bytes strings))) (again (map cell_bytes cs) b p.1)
        ∙ ap (values_only k) (string_cells k cs (only k p.0) values)
        ∙ ap (λ x. cond x (Some cs) None) values

    parts : (k : Kind) (n : ℕ) (b : List ℕ) (cs : List Cell) → of_strings.decoded k n b ≡ Some cs → (length cs ≡ n) × (are_values k cs ≡ true)
    parts k n b cs made =
        let p = only_parts (takes k) (option_and_then (λ strings. values_only k (map bytes strings)) (read n b)) cs made in
        let q = bind_parts (read n b) (λ strings. values_only k (map bytes strings)) cs p.1 in
        let v = only_parts (are_values k (map bytes q.0)) (Some (map bytes q.0)) cs q.2 in
        let same = some_is v.1 in
        (ap length (sym same) ∙ length-map q.0 bytes ∙ count n b q.0 q.1, ap (are_values k) (sym same) ∙ v.0)

    pub strings-lawful : IsLawfulLeaf of_strings
    strings-lawful = record {
      round_trip = round_trip;
      decoded_len = λ k n b cs made. (parts k n b cs made).0;
      decoded_values = λ k n b cs made. (parts k n b cs made).1;
      untaken = λ k cs not. ap (λ x. cond x (written (map cell_bytes cs)) None) not;
      untaken_decoded = λ k n b not. ap (λ x. cond x (option_and_then (λ strings. values_only k (map bytes strings)) (read n b)) None) not;
    }
