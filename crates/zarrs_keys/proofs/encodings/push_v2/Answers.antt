-- the first number, and a part for each other one
use Rattle.std.proofs.Common.{◌≡◌, ℕ, string_bytes, ◌-◌, ◌≤◌, List, [], ◌∷◌, ◌++◌, length, take, drop, get_or, ap, sym}
use Rattle.std.proofs.Common.{◌∙◌, arith, append_assoc}
use Rattle.std.specs.List.{flat_map}
use Rattle.std.specs.Fmt.{decimal}
use Rattle.std.proofs.lemmas.List.{take_rest}
use Rattle.zarrs_keys.specs.Encodings.{key_part, v2_key}
use Rattle.zarrs_keys.specs.KeyLaws.{joined_is}
use Rattle.zarrs_metadata_parts.specs.declared.separators.ChunkKeySeparator.{ChunkKeySeparator}
use Rattle.zarrs_keys.proofs.StoreKeyLemmas.{on_ok_by}
use Rattle.zarrs_keys.proofs.encodings.push_v2.Goals as goal

v2_by_parts : (separator : ChunkKeySeparator) (indices old first whole : List ℕ) → 1 ≤ length indices → first ≡ old ++ decimal (get_or indices 0 0) → whole ≡ first ++ flat_map (key_part separator) (take (length indices - 1) (drop 1 indices)) → whole ≡ old ++ v2_key separator indices
v2_by_parts s [] old first whole some e h = absurd (omega arith)
v2_by_parts s (i ∷ is) old first whole some e h =
    h ∙ ap (λ text. text ++ flat_map (key_part s) (take (length (i ∷ is) - 1) is)) e
    ∙ ap (λ rest. (old ++ decimal i) ++ flat_map (key_part s) rest) (take_rest (i ∷ is) 1)
    ∙ append_assoc old (decimal i) (flat_map (key_part s) is)
    ∙ ap (λ text. old ++ text) (sym (joined_is s i is))

pub returns : goal.returns
returns c = on_ok_by c.push_parts.result (v2_by_parts c.args.separator c.args.indices.now _ _ _ c.in-len1-up.len_at_least (c.in_ok-push_str.ensures.bytes ∙ ap (λ digits. string_bytes c.args.key.now ++ digits) c.format.ensures.text)) c.push_parts.ensures
