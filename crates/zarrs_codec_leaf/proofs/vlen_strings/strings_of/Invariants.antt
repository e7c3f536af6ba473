use Rattle.std.proofs.Common.{◌≡◌, ◌-◌, ◌++◌}
use Rattle.std.specs.Prelude.{option_map}
use Rattle.zarrs_codec_leaf.specs.VlenStrings.{strings_of}
use Rattle.zarrs_codec_leaf.proofs.vlen_strings.strings_of.Given as goal

abbrev pub invariant-loop-index : goal.invariant-loop-index
invariant-loop-index l = strings_of l.fn.count l.fn.bytes ≡ option_map (λ ss. l.builder ++ ss) (strings_of (l.fn.count - l.index) l.rest)
