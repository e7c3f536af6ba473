use Rattle.std.proofs.Common.{◌≡◌, true, take, map}
use Rattle.std.specs.List.{list_all}
use Rattle.std.specs.Str.{is_utf8}
use Rattle.zarrs_data_type_elements.proofs.element.strings.text_data.Given as goal

abbrev pub invariant-loop-text : goal.invariant-loop-text
invariant-loop-text g l = record {
  strings : l.strings ≡ map g.S.AsStr.text (take l.text-index l.texts);
  texts : list_all (λ s. is_utf8 s) l.strings ≡ true;
}
