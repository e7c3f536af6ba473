use Rattle.std.proofs.Common.{◌≡◌, ◌+◌, ◌*◌, ◌-◌, ◌<◌, ◌≤◌, ℕ, [], length, get_or, reverse, refl, ap, sym, subst, ◌∙◌, arith}
use Rattle.std.specs.List.{flat_map}
use Rattle.std.proofs.lemmas.List.{get_or_default}
use borrow.Rule.Slice.PartMut.{put_mid}
use Rattle.zarrs_subset.specs.Pieces.{piece_at}
use Rattle.zarrs_subset.proofs.Kernel.{cell_ends, length_part}
use Rattle.zarrs_codec_chain.proofs.Turns.{flat_turned, joined, put_more}
use Rattle.zarrs_codec_chain.proofs.bytes_into.turn_groups.Goals as goal

pub loop-index-preserved : goal.loop-index-preserved
loop-index-preserved g c =
    let size = 16 * g.row.N in
    let i = c.loop-index.index in
    let groups = c.args.groups.now in
    let mid = c.loop-index.target in
    let item : c.index-groups-index.result ≡ get_or groups i [] = c.index-groups-index.is ∙ get_or_default groups i c.index-groups-index.result [] (omega arith) in
    let group = c.copy_from_slice.new.self in
    let is : group ≡ flat_map reverse (get_or groups i []) =
    c.copy_from_slice.ensures.after ∙ c.as_flattened.ensures.value ∙ ap (flat_map (λ x. x)) c.turned_group-turned.ensures ∙ flat_turned c.index-groups-index.result ∙ ap (flat_map reverse) item in
    let width : i * size + size - i * size ≡ size = omega arith in
    let room : i * size + size ≤ length mid = cell_ends size i (length groups) (length mid) (omega arith) (omega arith) in
    subst (λ n. (j : ℕ) → j < i + 1 → piece_at size (put_mid (i * size) n mid group) j ≡ flat_map reverse (get_or groups j [])) (sym width)
    (put_more size (length groups) i (i * size) (λ j. flat_map reverse (get_or groups j [])) mid group (omega arith) (omega arith) refl (c.copy_from_slice.ensures.len ∙ length_part (i * size) size mid room) is c.loop-index.invariant)

pub returns : goal.returns
returns g c = joined (flat_map reverse) (16 * g.row.N) c.args.groups.now [] c.loop-index.target (omega arith) (λ i lt. c.loop-index.invariant i (omega arith))
