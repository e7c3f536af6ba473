use Rattle.std.proofs.Common.{◌≡◌, ◌==◌, length, drop}
use Rattle.std.specs.List.{slice_split}
use Rattle.zarrs_script.specs.Words.{each_of, number_of}
use Rattle.zarrs_script.proofs.Lists.{with_numbers}
use Rattle.zarrs_script.proofs.parse.numbers_in_word.Given as goal

abbrev pub invariant-loop-item : goal.invariant-loop-item
invariant-loop-item l =
    let parts = slice_split (λ b. b == 44) l.fn.word in
    with_numbers l.numbers.items (each_of number_of (drop (length l.yielded) parts)) ≡ each_of number_of parts
