use Rattle.std.proofs.Common.{◌≡◌, ◌∙◌, ◌+◌, ◌-◌, ◌<◌, ◌≤◌, ◌^◌, List, ℕ, ap, arith, length, subst, sym}
use Rattle.std.specs.Prelude.{slice_index}
use Rattle.zarrs_subset.specs.Regions.{Box, box_of, seen_from}
use Rattle.zarrs_codec_chain.proofs.MovedBoxes.{moved_ends, seen_start_len}
use Rattle.zarrs_codec_chain.proofs.shard_part.moved_to.Goals as goal

pub seen_from_corner-requires-clause-dimensions : goal.seen_from_corner-requires-clause-dimensions
seen_from_corner-requires-clause-dimensions c =
    let lies = c.requires.lies in
    ap length c.start.ensures ∙ sym lies.same_length

pub seen_from_corner-requires-clause-above : goal.seen_from_corner-requires-clause-above
seen_from_corner-requires-clause-above c =
    let shared = box_of c.args.shared.now in
    let lies = c.requires.lies in
    subst (λ (x : List ℕ). (j : ℕ) → j < length shared.start → slice_index x j ≤ slice_index shared.start j) (sym c.start.ensures) (λ j below. lies.starts j (omega (arith, lies.same_length)))

pub shifted-requires-clause-dimensions : goal.shifted-requires-clause-dimensions
shifted-requires-clause-dimensions c =
    let region = box_of c.args.region.now in
    let part = box_of c.args.part.now in
    let shared = box_of c.args.shared.now in
    let lies = c.requires.lies in
    let seen_is : box_of c.in_ok-seen.seen ≡ seen_from shared part.start = c.in_ok-seen.ensures ∙ ap (seen_from shared) c.start.ensures in
    ap length c.start-2.ensures ∙ seen_start_len region part shared c.args.region.now.same_length c.args.part.now.same_length c.args.shared.now.same_length c.requires.shape lies ∙ ap (λ (b : Box). length b.start) (sym seen_is)

pub shifted-requires-clause-ends : goal.shifted-requires-clause-ends
shifted-requires-clause-ends c =
    let region = box_of c.args.region.now in
    let part = box_of c.args.part.now in
    let shared = box_of c.args.shared.now in
    let lies = c.requires.lies in
    let seen_is : box_of c.in_ok-seen.seen ≡ seen_from shared part.start = c.in_ok-seen.ensures ∙ ap (seen_from shared) c.start.ensures in
    subst (λ (o : List ℕ). (j : ℕ) → j < length o → slice_index (box_of c.in_ok-seen.seen).start j + slice_index (box_of c.in_ok-seen.seen).shape j + slice_index o j < 2 ^ 64) (sym c.start-2.ensures)
    (subst (λ (b : Box). (j : ℕ) → j < length region.start → slice_index b.start j + slice_index b.shape j + slice_index region.start j < 2 ^ 64) (sym seen_is)
    (moved_ends region part shared c.args.region.now.same_length c.args.part.now.same_length c.args.shared.now.same_length c.requires.shape lies (λ j. c.args.region.now.ends_fit j)))
