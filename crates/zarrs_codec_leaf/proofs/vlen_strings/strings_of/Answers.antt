use Rattle.std.proofs.Common.{◌≡◌, ◌-◌, ◌+◌, ◌++◌, suc, Some, ap, sym, ◌∙◌, arith}
use Rattle.std.specs.Prelude.{option_map}
use Rattle.zarrs_codec_leaf.specs.VlenStrings.{strings_of}
use Rattle.zarrs_codec_leaf.proofs.StringData.{read_more, read_none, read_end, read_left}
use Rattle.zarrs_codec_leaf.proofs.vlen_strings.strings_of.Goals as goal

pub loop-index-preserved : goal.loop-index-preserved
loop-index-preserved c =
    let n = c.args.count in
    let i = c.loop-index.index in
    let next : n - i ≡ suc (n - (i + 1)) = omega (arith, c.loop-index-test.true) in
    let found = sym c.first_string.ensures ∙ ap (option_map (λ parts. (parts.0.now, parts.1.now))) c.in-Some.is in
    read_more n c.args.bytes.now c.loop-index.builder c.loop-index.rest.now (n - i) (n - (i + 1)) c.in-Some.string.now c.in-Some.left.now c.loop-index.invariant next found
    ∙ ap (λ made. option_map (λ ss. made ++ ss) (strings_of (n - (i + 1)) c.in-Some.left.now)) (sym c.in_ok-push.ensures.pushed)

pub returns-in_default : goal.returns-in_default
returns-in_default c =
    let n = c.args.count in
    let i = c.loop-index.index in
    let next : n - i ≡ suc (n - (i + 1)) = omega (arith, c.loop-index-test.true) in
    let found = sym c.first_string.ensures ∙ ap (option_map (λ parts. (parts.0.now, parts.1.now))) c.in_default.is in
    read_none n c.args.bytes.now c.loop-index.builder c.loop-index.rest.now (n - i) (n - (i + 1)) c.loop-index.invariant next found

pub returns-then-not-is_empty : goal.returns-then-not-is_empty
returns-then-not-is_empty c =
    let n = c.args.count in
    let done : n - c.loop-index.index ≡ 0 = omega (arith, c.loop-index-test.false) in
    read_left n c.args.bytes.now c.loop-index.builder c.loop-index.rest.now (n - c.loop-index.index) c.loop-index.invariant done (sym c.is_empty.ensures ∙ c.if-not-is_empty.true)

pub returns : goal.returns
returns c =
    let n = c.args.count in
    let done : n - c.loop-index.index ≡ 0 = omega (arith, c.loop-index-test.false) in
    ap Some c.finish.ensures ∙ read_end n c.args.bytes.now c.loop-index.builder c.loop-index.rest.now (n - c.loop-index.index) c.loop-index.invariant done (sym c.is_empty.ensures ∙ c.if-not-is_empty.false)
