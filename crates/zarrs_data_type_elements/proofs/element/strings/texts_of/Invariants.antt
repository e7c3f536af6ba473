use Rattle.std.proofs.Common.{◌≡◌, true, take, map, string_bytes}
use Rattle.std.specs.List.{list_all}
use Rattle.std.specs.Str.{is_utf8}
use Rattle.zarrs_data_type_elements.proofs.element.strings.texts_of.Given as goal

abbrev pub invariant-loop-index : goal.invariant-loop-index
invariant-loop-index l = (map string_bytes l.texts.items ≡ take l.index l.strings) × (list_all (λ s. is_utf8 s) (take l.index l.strings) ≡ true)
