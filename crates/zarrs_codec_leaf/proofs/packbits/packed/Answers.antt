use Rattle.std.proofs.Common.{◌≡◌, ◌<◌, ◌*◌, ◌/◌, ◌++◌, ◌∷◌, [], All, length, map, drop, slice_index_or, ap}
use Rattle.std.proofs.Common.{sym, subst, ◌∙◌, arith}
use Rattle.std.specs.Simd.{first_chunks}
use Rattle.std.proofs.lemmas.Bool.{eqb-true}
use Rattle.std.proofs.lemmas.List.{take_all}
use Rattle.zarrs_codec_leaf.specs.PackBits.{packed_byte}
use Rattle.zarrs_codec_leaf.proofs.PackedData.{chunk_small, not_zero, packed_whole, packed_rest, rest_small}
use Rattle.zarrs_codec_leaf.proofs.packbits.packed.Goals as goal

pub packed_eight-requires : goal.packed_eight-requires
packed_eight-requires c =
    let flags = c.args.flags.now in
    let i = c.loop-eight.eight-index in
    let lt : i < length flags / 8 = omega (arith, c.loop-eight-test.true, c.as_chunks.ensures.front_len) in
    subst (λ xs. All (λ x. x < 2) (slice_index_or xs i [])) (sym c.as_chunks.ensures.front) (chunk_small (length flags / 8) flags c.requires i [] lt)

pub packed_byte-requires-clause-flags : goal.packed_byte-requires-clause-flags
packed_byte-requires-clause-flags c =
    let flags = c.args.flags.now in
    subst (λ xs. All (λ x. x < 2) xs) (sym c.as_chunks.ensures.back) (rest_small (length flags / 8 * 8) flags c.requires)

pub returns-then-is_empty : goal.returns-then-is_empty
returns-then-is_empty c =
    let flags = c.args.flags.now in
    let none_left : length (drop (length flags / 8 * 8) flags) ≡ 0 =
    ap length (sym c.as_chunks.ensures.back) ∙ eqb-true (length c.as_chunks.result.1.now) 0 (sym c.is_empty.ensures ∙ c.if-is_empty.true) in
    c.loop-eight.invariant.items
    ∙ ap (map packed_byte) (take_all c.loop-eight.eight-index c.as_chunks.result.0.now c.loop-eight-test.false ∙ c.as_chunks.ensures.front)
    ∙ sym (packed_whole flags none_left)

pub returns : goal.returns
returns c =
    let flags = c.args.flags.now in
    let some_left : 0 < length (drop (length flags / 8 * 8) flags) =
    subst (λ xs. 0 < length xs) c.as_chunks.ensures.back (not_zero (length c.as_chunks.result.1.now) (sym c.is_empty.ensures ∙ c.if-is_empty.false)) in
    let front = c.loop-eight.invariant.items
    ∙ ap (map packed_byte) (take_all c.loop-eight.eight-index c.as_chunks.result.0.now c.loop-eight-test.false ∙ c.as_chunks.ensures.front) in
    c.in_ok-push.ensures.items
    ∙ ap (λ l. l ++ c.packed_byte.result ∷ []) front
    ∙ ap (λ x. map packed_byte (first_chunks 8 (length flags / 8) flags) ++ x ∷ []) (c.packed_byte.ensures.byte ∙ ap packed_byte c.as_chunks.ensures.back)
    ∙ sym (packed_rest flags some_left)
