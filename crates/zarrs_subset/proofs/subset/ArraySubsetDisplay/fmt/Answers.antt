use Rattle.std.proofs.Common.{rules, ◌≡◌, ◌==◌, ◌+◌, [], ◌++◌, codes, decimal, length, slice_index, cond, refl, sym}
use Rattle.std.proofs.Common.{◌∙◌, append_assoc, arith}
use Rattle.std.specs.Fmt.{HasWritten}
use Rattle.std.proofs.lemmas.List.{get_or_read_under}
use Rattle.std.proofs.lemmas.Grind.{put_three}
use Rattle.std.proofs.Output.{has_written_append, has_written_of_eq}
use Rattle.zarrs_subset.specs.Regions.{box_of, range_text}
use Rattle.zarrs_subset.proofs.Texts.{texts_more}
use Rattle.zarrs_subset.proofs.subset.ArraySubsetDisplay.fmt.Goals.{then-k-eq0, else-k-eq0}
use Rattle.zarrs_subset.proofs.subset.ArraySubsetDisplay.fmt.Goals as goal

pub loop-k-preserved : goal.loop-k-preserved
loop-k-preserved g c = λ plain.
    let box = box_of c.args.self.now in
    let k = c.loop-k.k in
    let so_far = c.loop-k.invariant plain in
    let separator : c.if-k-eq0.separator.now ≡ cond (k == 0) [] (codes ", ") = elim c.if-k-eq0.branch [
      | then-k-eq0 w ↦ search rules
      | else-k-eq0 w ↦ search rules
    ] in
    let long : c.len-k-end.result ≡ length box.start = omega (arith, c.len-k-end.ensures) in
    let start : c.index.result.now ≡ slice_index box.start k =
    get_or_read_under box.start k c.len-k-end.result _ 0 c.index.ensures c.loop-k-test.true long in
    let extent : c.index-in-loop-k.result.now ≡ slice_index box.shape k =
    get_or_read_under box.shape k c.len-k-end.result _ 0 c.index-in-loop-k.ensures c.loop-k-test.true (long ∙ c.args.self.now.same_length) in
    let said : c.if-k-eq0.separator.now ++ (decimal c.index.result.now ++ (codes ".." ++ decimal (c.index.result.now + c.index-in-loop-k.result.now))) ≡ range_text box k =
    rw (separator, start, extent)
    (sym (append_assoc (cond (k == 0) [] (codes ", ") ++ decimal (slice_index box.start k)) (codes "..") _ ∙ append_assoc (cond (k == 0) [] (codes ", ")) (decimal (slice_index box.start k)) _)) in
    let wrote = c.write-in-loop-k.ensures.writes so_far.plain (search rules) in
    has_written_of_eq _ _ _ _ _ (sym (texts_more (range_text box) 0 k k (omega arith))) (has_written_append _ _ _ _ _ _ so_far (has_written_of_eq _ _ _ _ _ said wrote))

pub returns-clause-writes : goal.returns-clause-writes
returns-clause-writes g c = λ plain ok.
    let box = box_of c.args.self.now in
    let opened : HasWritten g.W.Write.write_str_gives c.args.f.now (codes "[") c.write.new.self = search rules in
    let ranges = c.loop-k.invariant opened.plain in
    let all : c.loop-k.k ≡ length box.start = omega (arith, c.loop-k-test.false, c.loop-k.auto.k-end, c.len-k-end.ensures) in
    let closed : HasWritten g.W.Write.write_str_gives c.loop-k.f (codes "]") c.write-2.new.self = c.write-2.ensures.writes ranges.plain ok in
    put_three _ _ _ _ _ (codes "[") _ (codes "]") _ opened (rw all at ranges) closed refl
