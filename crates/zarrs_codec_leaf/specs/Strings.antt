-- Codecs of byte strings, from what they write for a list of byte strings.
use Rattle.std.specs.Prelude.{ℕ, Bool, Option, None, List, map, option_and_then, if◌then◌else◌}
use Rattle.zarrs_data_type.specs.Kind.{Kind}
use Rattle.zarrs_data_type.specs.Cell.{bytes, values_only}
use Rattle.zarrs_codec_leaf.specs.Bytes.{cell_bytes}
use Rattle.zarrs_codec_leaf.specs.Leaf.{LeafMeaning}

-- the codec of the types that are taken, of what it writes, and of how many byte strings it reads from which bytes
abbrev pub strings_meaning : (Kind → Bool) → (List (List ℕ) → Option (List ℕ)) → (ℕ → List ℕ → Option (List (List ℕ))) → LeafMeaning
strings_meaning takes written read = record {
  takes = takes;
  encoded = λ k cs. if takes k then written (map cell_bytes cs) else None;
  decoded = λ k n b. if takes k then option_and_then (λ strings. values_only k (map bytes strings)) (read n b) else None;
}
