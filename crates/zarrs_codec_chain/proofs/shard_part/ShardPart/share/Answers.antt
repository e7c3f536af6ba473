use Rattle.std.proofs.Common.{◌≡◌, ◌∙◌, ◌<◌, ◌≤◌, ◌&&◌, List, ℕ, ap, length, refl, subst, sym}
use Rattle.std.specs.Prelude.{slice_index}
use Rattle.std.proofs.lemmas.Bool.{false≢true}
use Rattle.zarrs_codec_shard.specs.Subchunks.{quotients}
use Rattle.zarrs_codec_shard.proofs.Grids.{corner_long}
use Rattle.zarrs_subset.specs.Boxes.{unravel}
use Rattle.zarrs_subset.specs.Regions.{Box, box_of, in_box, overlap_of, seen_from}
use Rattle.zarrs_subset.proofs.Overlaps.{AllSome}
use Rattle.zarrs_codec_chain.specs.OpenShards.{read_of}
use Rattle.zarrs_codec_chain.specs.ShardReads.{IsAt, IsOpen, IsShare, ShardRead, box_at, count_of}
use Rattle.zarrs_codec_chain.proofs.OpenShards.{at_number, opened}
use Rattle.zarrs_codec_chain.proofs.ReadSteps.{none_empty, share_of}
use Rattle.zarrs_codec_chain.proofs.shard_part.ShardPart.share.Goals as goal

-- the box of a subchunk, and what the part shares with it
module _ (r : ShardRead) (n : ℕ) (subset shared : Box) (subset_is : subset ≡ box_at r n) (common : (p : List ℕ) → in_box shared p ≡ (in_box r.part p && in_box subset p)) where
  common_with : (p : List ℕ) → in_box shared p ≡ (in_box r.part p && in_box (box_at r n) p)
  common_with = subst (λ (b : Box). (p : List ℕ) → in_box shared p ≡ (in_box r.part p && in_box b p)) subset_is common

  shared_with : (i start : List ℕ) (own : Box) → IsOpen r → IsAt r i n → shared ≡ overlap_of r.part subset → AllSome shared.shape → start ≡ subset.start → own ≡ seen_from shared start → IsShare r i n shared own
  shared_with i start own is at shared_is full start_is own_is =
      share_of r is i n shared own start at (shared_is ∙ ap (overlap_of r.part) subset_is) common_with full (start_is ∙ ap (λ (b : Box). b.start) subset_is) own_is

  -- seen from where it starts
  share_here : (start : List ℕ) → IsOpen r → (lt : n < count_of r) → shared ≡ overlap_of r.part subset → AllSome shared.shape → start ≡ subset.start
      → (length start ≡ length shared.start) × ((k : ℕ) → k < length shared.start → slice_index start k ≤ slice_index shared.start k)
  share_here start is lt shared_is full start_is =
      let there = shared_with (unravel (quotients r.shape r.sub) n) start (seen_from shared start) is (at_number r n lt) shared_is full start_is refl in
      let corner_is = start_is ∙ ap (λ (b : Box). b.start) subset_is ∙ there.corner_is in (
        ap length corner_is ∙ there.corner_len,
        subst (λ (x : List ℕ). (k : ℕ) → k < length shared.start → slice_index x k ≤ slice_index shared.start k) (sym corner_is) there.above,
      )

pub common_part-requires : goal.common_part-requires
common_part-requires g c =
    let r = read_of c.args.self.now in
    let is = opened c.args.self.now in
    let n = c.args.number in
    is.lies.same_length ∙ sym (ap (λ (b : Box). length b.start) c.in_ok-subset.ensures ∙ corner_long r.shape r.sub (unravel (quotients r.shape r.sub) n) is.cut (at_number r n c.requires).in_grid)

pub returns-then-is_empty-clause-none : goal.returns-then-is_empty-clause-none
returns-then-is_empty-clause-none g c = λ i at_i.
    let r = read_of c.args.self.now in
    let shared = c.in_ok-shared.shared in
    let none = c.is_empty.ensures.0 c.if-is_empty.true in
    none_empty r (opened c.args.self.now) i c.args.number (box_of shared) none.0 at_i shared.same_length none.1 none.2 (common_with r c.args.number _ (box_of shared) c.in_ok-subset.ensures c.in_ok-shared.ensures.common)

pub seen_from_corner-requires-clause-dimensions : goal.seen_from_corner-requires-clause-dimensions
seen_from_corner-requires-clause-dimensions g c =
    let full : AllSome (box_of c.in_ok-shared.shared).shape = λ j below none. false≢true (sym c.if-is_empty.false ∙ c.is_empty.ensures.1 (j, below, none)) in
    (share_here (read_of c.args.self.now) c.args.number _ (box_of c.in_ok-shared.shared) c.in_ok-subset.ensures c.in_ok-shared.ensures.common c.start.result.now (opened c.args.self.now) c.requires c.in_ok-shared.ensures.value full c.start.ensures).0

pub seen_from_corner-requires-clause-above : goal.seen_from_corner-requires-clause-above
seen_from_corner-requires-clause-above g c =
    let full : AllSome (box_of c.in_ok-shared.shared).shape = λ j below none. false≢true (sym c.if-is_empty.false ∙ c.is_empty.ensures.1 (j, below, none)) in
    (share_here (read_of c.args.self.now) c.args.number _ (box_of c.in_ok-shared.shared) c.in_ok-subset.ensures c.in_ok-shared.ensures.common c.start.result.now (opened c.args.self.now) c.requires c.in_ok-shared.ensures.value full c.start.ensures).1

pub returns-clause-share : goal.returns-clause-share
returns-clause-share g c = λ i at_i.
    let full : AllSome (box_of c.in_ok-shared.shared).shape = λ j below none. false≢true (sym c.if-is_empty.false ∙ c.is_empty.ensures.1 (j, below, none)) in
    shared_with (read_of c.args.self.now) c.args.number _ (box_of c.in_ok-shared.shared) c.in_ok-subset.ensures c.in_ok-shared.ensures.common i c.start.result.now (box_of c.in_ok-own.own) (opened c.args.self.now) at_i c.in_ok-shared.ensures.value full
    c.start.ensures c.in_ok-own.ensures
