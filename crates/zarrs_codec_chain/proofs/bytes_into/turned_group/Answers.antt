use Rattle.std.proofs.Common.{◌≡◌, ◌+◌, ◌<◌, ◌∷◌, ◌++◌, [], suc, length, get_or, map, reverse, slice_set, take, ap, sym, ◌∙◌, arith}
use Rattle.std.proofs.Math.Seq.{take-suc, take-suc-set}
use Rattle.std.proofs.lemmas.List.{get_or_default, length-set, map-append, take_all}
use Rattle.zarrs_codec_chain.proofs.bytes_into.turned_group.Goals as goal

pub loop-index-preserved : goal.loop-index-preserved
loop-index-preserved g c =
    let i = c.loop-index.index in
    let cells = c.args.cells.now in
    let next : i + 1 ≡ suc i = omega arith in
    let below : i < length cells = omega (arith, c.told-cells) in (
      length-set c.loop-index.turned i c.turned.result ∙ c.loop-index.invariant.0,
      ap (λ n. take n (slice_set c.loop-index.turned i c.turned.result)) next
          ∙ take-suc-set c.loop-index.turned i c.turned.result (omega (arith, c.loop-index.invariant.0))
          ∙ ap (λ l. l ++ c.turned.result ∷ []) c.loop-index.invariant.1
          ∙ ap (λ x. map reverse (take i cells) ++ x ∷ []) (c.turned.ensures ∙ ap reverse (get_or_default cells i _ [] below))
          ∙ sym (map-append reverse (take i cells) (get_or cells i [] ∷ []))
          ∙ ap (map reverse) (sym (take-suc cells i [] below) ∙ ap (λ n. take n cells) (sym next)),
    )

pub returns : goal.returns
returns g c =
    let all : c.loop-index.index ≡ 16 = omega arith in
    sym (take_all 16 c.loop-index.turned (omega (arith, c.loop-index.invariant.0))) ∙ ap (λ n. take n c.loop-index.turned) (sym all) ∙ c.loop-index.invariant.1
    ∙ ap (λ n. map reverse (take n c.args.cells.now)) all ∙ ap (map reverse) (take_all 16 c.args.cells.now (omega (arith, c.told-cells)))
