use Rattle.std.proofs.Common.{◌≡◌, ◌*◌, ◌/◌, ◌%◌, ◌-◌, ◌++◌, length, drop, reverse, ap, ◌∙◌, arith}
use Rattle.std.specs.List.{flat_map}
use Rattle.std.specs.Simd.{first_chunks}
use Rattle.std.proofs.lemmas.List.{length-take-le}
use Rattle.std.proofs.Math.Nat.{mul-div_cancel}
use Rattle.zarrs_codec_chain.proofs.Turns.{part_end, put_behind, rest_len, turned_all}
use Rattle.zarrs_codec_chain.proofs.bytes_into.turn_run.Goals as goal

pub turn_cells-requires : goal.turn_cells-requires
turn_cells-requires g c =
    let N = g.row.N in
    let k = length c.as_chunks-2.result.0.now * 16 * N in
    let old = c.args.target.now in
    let front = c.turn_groups.new.target in
    let count : length c.as_chunks.result.0.now ≡ c.args.count = c.as_chunks.ensures.front_len ∙ ap (λ n. n / N) c.requires.source_len ∙ mul-div_cancel c.args.count c.requires.some in
    let rest = rest_len N c.args.count (length c.as_chunks-2.result.0.now) (length c.as_chunks-2.result.1.now) k 16
    (c.as_chunks-2.ensures.front_len ∙ ap (λ n. n / 16) count) (c.as_chunks-2.ensures.back_len ∙ ap (λ n. n % 16) count) (omega arith) in
    let len : length front ≡ k = c.turn_groups.auto.target ∙ length-take-le k old (omega (arith, rest.0, c.requires.target_len)) in
    (omega (arith, c.requires.small), (c.requires.some, (c.requires.small, part_end k front old len (omega (arith, rest.0, c.requires.target_len)) ∙ ap (λ n. n - k) c.requires.target_len ∙ rest.1)))

pub returns : goal.returns
returns g c = λ turned is.
    let N = g.row.N in
    let k = length c.as_chunks-2.result.0.now * 16 * N in
    let front = c.turn_groups.new.target in
    let count : length c.as_chunks.result.0.now ≡ c.args.count = c.as_chunks.ensures.front_len ∙ ap (λ n. n / N) c.requires.source_len ∙ mul-div_cancel c.args.count c.requires.some in
    let rest = rest_len N c.args.count (length c.as_chunks-2.result.0.now) (length c.as_chunks-2.result.1.now) k 16
    (c.as_chunks-2.ensures.front_len ∙ ap (λ n. n / 16) count) (c.as_chunks-2.ensures.back_len ∙ ap (λ n. n % 16) count) (omega arith) in
    let len : length front ≡ k = c.turn_groups.auto.target ∙ length-take-le k c.args.target.now (omega (arith, rest.0, c.requires.target_len)) in
    let cut = c.as_chunks.ensures.front ∙ ap (λ n. first_chunks N n c.args.source.now) (ap (λ n. n / N) c.requires.source_len ∙ mul-div_cancel c.args.count c.requires.some) in
    turned_all N c.args.count 16 (length c.as_chunks.result.0.now / 16) c.args.source.now turned c.as_chunks.result.0.now c.as_chunks-2.result.0.now c.as_chunks-2.result.1.now _ c.requires.some c.requires.source_len is
    cut c.as_chunks-2.ensures.front c.as_chunks-2.ensures.back
    (put_behind k front (drop k c.args.target.now) c.turn_cells.new.target len ∙ ap (λ l. l ++ c.turn_cells.new.target) c.turn_groups.ensures ∙ ap (λ l. flat_map (flat_map reverse) c.as_chunks-2.result.0.now ++ l) c.turn_cells.ensures)
