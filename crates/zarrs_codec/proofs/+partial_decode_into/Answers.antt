use Rattle.zarrs_data_type.specs.CellTypes.{chunk_fill, chunk_kind, filling, kind_of, shape_of}
use Rattle.std.proofs.Common.{vec_len, ◌≡◌, ◌∙◌, ◌+◌, Some, slice_get, length, take, List, ℕ, rules, sym, ap, subst, arith, ◌<◌, refl, None, false, true, Bool}
use Rattle.std.proofs.lemmas.Bool.{eqb-true}
use Rattle.std.proofs.lemmas.Option.{slice_get_within}
use Rattle.std.proofs.lemmas.Result.{IfErr-weaker, on_ok_weaker}
use Rattle.std.specs.Prelude.{IfSome, IsSome, option_map, slice_index_or}
use Rattle.zarrs_subset.specs.Regions.{LiesInBox, Box, LiesInShape, box_at_origin, box_of, in_box, positions, seen_from}
use Rattle.zarrs_codec_chain.specs.Chain.{ChainMeaning}
use Rattle.zarrs_codec.specs.ChainLaws.{chain-lawful, sharded-lawful}
use Rattle.zarrs_codec.specs.Chains.{codec_meaning, chain_meaning, inner_chain_of, is_at_start, location_of, subchunk_sizes_of, sharding_meaning}
use Rattle.zarrs_codec.specs.Shardings.{subchunk_meaning}
use Rattle.zarrs_codec.specs.ShardChunks.{RefusesShard, shard_decoded}
use Rattle.zarrs_codec.specs.ShardPartsInto.{DecodesPieceAt, HasSubchunksAt, RefusesPiece}
use Rattle.zarrs_codec.proofs.PartReads.{alone_refused, alone_places, is_none, leaf_refused}
use Rattle.zarrs_codec.proofs.ShardReads.{large_share, parts_at_decode, piece_refused, read_places, sharded_unfit, subchunks_refused, whole_large}
use Rattle.zarrs_codec.proofs.Targets.{but_kept, kept_twice, one_read, still_takes}
use Rattle.zarrs_codec.proofs.WholeShards.{all_met, alone_some, into_part, origin_lies, piece_whole, some_bytes}
use Rattle.zarrs_codec.proofs.SubchunksInto.{all_at, alone_at, last_walked, more_walked, none_at, piece_at, skip_at}
use Rattle.zarrs_codec_chain.proofs.AllOfIt.{origin_box}
use Rattle.zarrs_codec_shard.specs.Shards.{shard_parts}
use Rattle.zarrs_codec_chain.specs.Parts.{DecodesInto, DecodesPartAt}
use Rattle.zarrs_metadata_parts.specs.Lists.{sizes_of}
use Rattle.zarrs_codec_chain.proofs.IntoSteps.{all_into, filled_part, own_box, own_in_region, own_outside, parts_more, same_decodes, same_keeps}
use Rattle.zarrs_codec_chain.proofs.Kept.{err_kept}
use Rattle.zarrs_codec_chain.proofs.MovedBoxes.{moved_box, moved_lies, moved_outside}
use Rattle.zarrs_codec_chain.proofs.OpenShards.{opened}
use Rattle.zarrs_codec_chain.proofs.ReadSteps.{none_unfound}
use Rattle.zarrs_codec_chain.specs.OpenShards.{read_of}
use Rattle.zarrs_codec_chain.specs.PartRefusals.{RefusesPartDecoding}
use Rattle.zarrs_codec_chain.specs.Refusals.{IsTooLargeToDecode}
use Rattle.zarrs_codec_chain.specs.ShardParts.{IsNoShard, MeetsPart}
use Rattle.zarrs_codec_chain.specs.ShardReads.{ShardRead, count_of, part_places, parts_of, shard_read}
use Rattle.zarrs_codec_chain.specs.Stored.{MayReadOf, bytes_of, refuses_of}
use Rattle.zarrs_codec_shard.specs.Sharded.{sharded_decoded}
use Rattle.zarrs_codec_shard.specs.Subchunks.{corner, is_cut_by, subchunk_count}
use Rattle.zarrs_codec_leaf.specs.Sources.{MayRead}
use Rattle.zarrs_subset.specs.Walks.{walk_box, walk_number}
use Rattle.zarrs_data_type_region.proofs.TargetBoxes.{lies_at_origin, origin_long}
use Rattle.zarrs_data_type_region.proofs.Kept.{keeps_itself}
use Rattle.zarrs_data_type_region.proofs.TypeSizes.{type_taken}
use Rattle.zarrs_data_type.specs.States.{data_of_target, parent_box, target_box}
use Rattle.zarrs_data_type.specs.Targets.{KeepsOutside}
use Rattle.zarrs_data_type_kinds.proofs.Values.{fill-value}
use Rattle.zarrs_codec.proofs.+partial_decode_into.Goals as goal

pub sharding::ShardingCodec::read_subchunk_into-returns-in_default-clause-read : goal.sharding::ShardingCodec::read_subchunk_into-returns-in_default-clause-read
sharding::ShardingCodec::read_subchunk_into-returns-in_default-clause-read g t c =
    let k = kind_of c.args.cell_type.now in
    let f = filling c.args.cell_type.now in
    let r = read_of c.args.read.now in
    let m : ChainMeaning = chain_meaning (inner_chain_of c.args.self.now) in
    let dec = m.decoded k f r.sub in
    let t = c.args.target.now in
    let region = target_box t in
    skip_at k dec f r.shape r.sub r.part (parts_of r) (parent_box t) region c.args.indices.now (data_of_target t) (none_unfound r (opened c.args.read.now) c.args.indices.now c.in_default.ensures.none)

pub sharding::ShardingCodec::read_subchunk_into-returns-in_default-2-clause-read : goal.sharding::ShardingCodec::read_subchunk_into-returns-in_default-2-clause-read
sharding::ShardingCodec::read_subchunk_into-returns-in_default-2-clause-read g t c =
    let k = kind_of c.args.cell_type.now in
    let f = filling c.args.cell_type.now in
    let r = read_of c.args.read.now in
    let is = opened c.args.read.now in
    let m : ChainMeaning = chain_meaning (inner_chain_of c.args.self.now) in
    let dec = m.decoded k f r.sub in
    let t = c.args.target.now in
    let region = target_box t in
    let i = c.args.indices.now in
    let at = c.in-Some.ensures.number in
    skip_at k dec f r.shape r.sub r.part (parts_of r) (parent_box t) region i (data_of_target t) ((rw c.in_default-2.is at c.in_ok-share.ensures.none) i at)

pub sharding::ShardingCodec::read_subchunk_into-share-requires : goal.sharding::ShardingCodec::read_subchunk_into-share-requires
sharding::ShardingCodec::read_subchunk_into-share-requires g t c =
    let at = c.in-Some.ensures.number in
    at.below

pub sharding::ShardingCodec::read_subchunk_into-subchunk-stored-requires : goal.sharding::ShardingCodec::read_subchunk_into-subchunk-stored-requires
sharding::ShardingCodec::read_subchunk_into-subchunk-stored-requires g t c =
    let at = c.in-Some.ensures.number in
    at.below

pub sharding::ShardingCodec::read_subchunk_into-moved_to-requires-clause-lies : goal.sharding::ShardingCodec::read_subchunk_into-moved_to-requires-clause-lies
sharding::ShardingCodec::read_subchunk_into-moved_to-requires-clause-lies g t c =
    let i = c.args.indices.now in
    let at = c.in-Some.ensures.number in
    let share = (rw c.in-Some-2.is at c.in_ok-share.ensures.share) i at in
    share.shared_lies

pub sharding::ShardingCodec::read_subchunk_into-read_piece-requires : goal.sharding::ShardingCodec::read_subchunk_into-read_piece-requires
sharding::ShardingCodec::read_subchunk_into-read_piece-requires g t c κs within =
    let r = read_of c.args.read.now in
    let is = opened c.args.read.now in
    let t = c.args.target.now in
    let region = target_box t in
    let i = c.args.indices.now in
    let at = c.in-Some.ensures.number in
    let share = (rw c.in-Some-2.is at c.in_ok-share.ensures.share) i at in
    let shared = box_of c.in-Some-2.share.shared in
    let piece = box_of c.in-Some-2.share.own in
    let shape_is : c.subchunk_shape.result.now ≡ r.sub = c.subchunk_shape.ensures in
    let shared_long = c.in-Some-2.share.shared.same_length in
    let own_long = t.region.now.same_length in
    let own = box_of c.in_ok-own.own in
    let own_is : own ≡ moved_box region r.part shared = c.in_ok-own.ensures in
    let lies = subst (LiesInShape piece) (sym shape_is) share.own_lies in
    let own_lies = subst (λ (b : Box). LiesInBox b region) (sym own_is) (moved_lies region r.part shared own_long is.long shared_long c.requires.same_shape share.shared_lies) in
    let same_shape : own.shape ≡ piece.shape = ap (λ (b : Box). b.shape) own_is ∙ sym (ap (λ (b : Box). b.shape) share.own_is) in
    (first_of (omega (arith, c.decreases), search rules), (search rules, (lies, (c.subchunk-stored.ensures.may_read share.meets, (c.requires.takes, (own_lies, same_shape))))))

pub sharding::ShardingCodec::read_subchunk_into-returns-clause-kept : goal.sharding::ShardingCodec::read_subchunk_into-returns-clause-kept
sharding::ShardingCodec::read_subchunk_into-returns-clause-kept g t c =
    let r = read_of c.args.read.now in
    let is = opened c.args.read.now in
    let t = c.args.target.now in
    let region = target_box t in
    let i = c.args.indices.now in
    let at = c.in-Some.ensures.number in
    let share = (rw c.in-Some-2.is at c.in_ok-share.ensures.share) i at in
    let shared = box_of c.in-Some-2.share.shared in
    let shared_long = c.in-Some-2.share.shared.same_length in
    let own_long = t.region.now.same_length in
    let own = box_of c.in_ok-own.own in
    let own_is : own ≡ moved_box region r.part shared = c.in_ok-own.ensures in
    let new = c.read_piece.new.target in
    but_kept t t new own (keeps_itself t) c.read_piece.ensures.kept
    (subst (λ (b : Box). (p : List ℕ) → in_box region p ≡ false → in_box b p ≡ false) (sym own_is) (moved_outside region r.part shared own_long is.long shared_long c.requires.same_shape share.shared_lies))

pub sharding::ShardingCodec::read_subchunk_into-returns-clause-read : goal.sharding::ShardingCodec::read_subchunk_into-returns-clause-read
sharding::ShardingCodec::read_subchunk_into-returns-clause-read g t c =
    let k = kind_of c.args.cell_type.now in
    let f = filling c.args.cell_type.now in
    let r = read_of c.args.read.now in
    let is = opened c.args.read.now in
    let m : ChainMeaning = chain_meaning (inner_chain_of c.args.self.now) in
    let dec = m.decoded k f r.sub in
    let t = c.args.target.now in
    let region = target_box t in
    let i = c.args.indices.now in
    let n = c.in-Some.number in
    let at = c.in-Some.ensures.number in
    let share = (rw c.in-Some-2.is at c.in_ok-share.ensures.share) i at in
    let shared = box_of c.in-Some-2.share.shared in
    let piece = box_of c.in-Some-2.share.own in
    let shape_is : c.subchunk_shape.result.now ≡ r.sub = c.subchunk_shape.ensures in
    let shared_long = c.in-Some-2.share.shared.same_length in
    let own_long = t.region.now.same_length in
    let own = box_of c.in_ok-own.own in
    let own_is : own ≡ moved_box region r.part shared = c.in_ok-own.ensures in
    let stored = c.subchunk-stored.result in
    let bytes_are = c.subchunk-stored.ensures.bytes in
    let new = c.read_piece.new.target in
    let o = option_map bytes_of stored in
    let keeps = subst (λ (b : Box). KeepsOutside t.cell_size (parent_box t) b (data_of_target t) (data_of_target new)) own_is c.read_piece.ensures.kept.outside in
    on_ok_weaker c.read_piece.result
    (λ h.
    piece_at k dec f r.shape r.sub r.part (parts_of r) (parent_box t) region t.cell_size (type_taken t.cell_size t.depth k c.requires.takes).0 (fill-value k c.args.cell_type.now.fill_value c.args.cell_type.now.filled) is.cut is.long is.lies
    (origin_long t.parent_shape.now) own_long c.requires.same_shape (lies_at_origin region t.parent_shape.now t.whole.inside)
    i n shared shared_long share.shared_lies at.in_grid at.at_n share.common share.corner_len share.above o (data_of_target t) (data_of_target new) bytes_are keeps
    (subst (λ (b : Box). DecodesPieceAt k dec f r.sub (seen_from shared (corner r.sub i)) o (parent_box t) b (data_of_target new)) own_is
    (subst (λ (b : Box). DecodesPieceAt k dec f r.sub b o (parent_box t) own (data_of_target new)) share.own_is
    (subst (λ (x : List ℕ). DecodesPieceAt k (m.decoded k f x) f x piece o (parent_box t) own (data_of_target new)) shape_is h))))
    c.read_piece.ensures.cells

pub sharding::ShardingCodec::read_subchunk_into-returns-clause-refused : goal.sharding::ShardingCodec::read_subchunk_into-returns-clause-refused
sharding::ShardingCodec::read_subchunk_into-returns-clause-refused g t c =
    let k = kind_of c.args.cell_type.now in
    let f = filling c.args.cell_type.now in
    let r = read_of c.args.read.now in
    let is = opened c.args.read.now in
    let m : ChainMeaning = chain_meaning (inner_chain_of c.args.self.now) in
    let i = c.args.indices.now in
    let n = c.in-Some.number in
    let at = c.in-Some.ensures.number in
    let share = (rw c.in-Some-2.is at c.in_ok-share.ensures.share) i at in
    let shared = box_of c.in-Some-2.share.shared in
    let piece = box_of c.in-Some-2.share.own in
    let shape_is : c.subchunk_shape.result.now ≡ r.sub = c.subchunk_shape.ensures in
    let stored = c.subchunk-stored.result in
    let bytes_are = c.subchunk-stored.ensures.bytes in
    IfErr-weaker c.read_piece.result _ _
    (λ e why.
    piece_refused c.args.self.now c.args.cell_type.now r is n at.below stored piece e bytes_are c.subchunk-stored.ensures.refuses (large_share c.args.self.now c.args.cell_type.now r is i n shared piece share)
    (subst (λ (x : List ℕ). RefusesPiece (m.decoded k f x) (IsTooLargeToDecode m k f x piece) stored e) shape_is why))
    c.read_piece.ensures.refused

pub sharding::ShardingCodec::read_piece_into-returns-in_default-clause-cells : goal.sharding::ShardingCodec::read_piece_into-returns-in_default-clause-cells
sharding::ShardingCodec::read_piece_into-returns-in_default-clause-cells g t c =
    let k = chunk_kind c.args.chunk.now in
    let f = chunk_fill c.args.chunk.now in
    let sub = shape_of c.args.chunk.now in
    let m : ChainMeaning = chain_meaning (inner_chain_of c.args.self.now) in
    let dec = m.decoded k f sub in
    let piece = box_of c.args.piece.now in
    let t = c.args.target.now in
    let new = data_of_target c.copy_fill_value_into.new.target in
    subst (λ o. DecodesPieceAt k dec f sub piece (option_map bytes_of o) (parent_box t) (target_box t) new) (sym c.in_default.is)
    (filled_part k t.parent_shape.now (target_box t) f (data_of_target t) new t.region.now.same_length t.whole.inside c.in_ok-copy_fill_value_into.ensures.fills)

pub sharding::ShardingCodec::read_piece_into-returns-clause-cells : goal.sharding::ShardingCodec::read_piece_into-returns-clause-cells
sharding::ShardingCodec::read_piece_into-returns-clause-cells g t c =
    let k = chunk_kind c.args.chunk.now in
    let f = chunk_fill c.args.chunk.now in
    let sub = shape_of c.args.chunk.now in
    let m : ChainMeaning = chain_meaning (inner_chain_of c.args.self.now) in
    let dec = m.decoded k f sub in
    let piece = box_of c.args.piece.now in
    let t = c.args.target.now in
    let new = data_of_target c.partial_decode_inner_into.new.target in
    on_ok_weaker c.partial_decode_inner_into.result
    (λ h. subst (λ o. DecodesPieceAt k dec f sub piece (option_map bytes_of o) (parent_box t) (target_box t) new) (sym c.in-Some.is) h)
    c.partial_decode_inner_into.ensures.cells

pub sharding::ShardingCodec::read_piece_into-returns-clause-refused : goal.sharding::ShardingCodec::read_piece_into-returns-clause-refused
sharding::ShardingCodec::read_piece_into-returns-clause-refused g t c =
    let k = chunk_kind c.args.chunk.now in
    let f = chunk_fill c.args.chunk.now in
    let sub = shape_of c.args.chunk.now in
    let m : ChainMeaning = chain_meaning (inner_chain_of c.args.self.now) in
    let dec = m.decoded k f sub in
    let piece = box_of c.args.piece.now in
    IfErr-weaker c.partial_decode_inner_into.result _ _
    (λ e why. subst (λ o. RefusesPiece dec (IsTooLargeToDecode m k f sub piece) o e) (sym c.in-Some.is) why)
    c.partial_decode_inner_into.ensures.refused

pub sharding::ShardingCodec::read_piece_into-returns-clause-whole : goal.sharding::ShardingCodec::read_piece_into-returns-clause-whole
sharding::ShardingCodec::read_piece_into-returns-clause-whole g t c =
    let k = chunk_kind c.args.chunk.now in
    let f = chunk_fill c.args.chunk.now in
    let sub = shape_of c.args.chunk.now in
    let m : ChainMeaning = chain_meaning (inner_chain_of c.args.self.now) in
    let dec = m.decoded k f sub in
    λ all. on_ok_weaker c.partial_decode_inner_into.result
    (λ h. subst (λ o. IfSome o (λ own. IsSome (dec (bytes_of own)))) (sym c.in-Some.is) h)
    (c.partial_decode_inner_into.ensures.whole all)

pub sharding::ShardingCodec::read_piece_into-partial_decode_inner_into-requires : goal.sharding::ShardingCodec::read_piece_into-partial_decode_inner_into-requires
sharding::ShardingCodec::read_piece_into-partial_decode_inner_into-requires g t c κs within =
    let chunk = c.args.chunk.now in
    let inner = inner_chain_of c.args.self.now in
    let stored = c.in-Some.stored in
    let piece = box_of c.args.piece.now in
    let all = rw c.in-Some.is at c.requires.may_read in
    let may = read_places stored ((chain_meaning inner).places (chunk_kind chunk) (shape_of chunk) piece (bytes_of stored)) ((chain-lawful inner).places_inside (chunk_kind chunk) (shape_of chunk) piece (bytes_of stored)) all in
    (first_of (omega (arith, c.decreases), search rules), (search rules, (c.requires.piece, (may, (c.requires.takes, c.requires.same_shape)))))

pub sharding::ShardingCodec::read_subchunks_into-returns-in_default-clause-all : goal.sharding::ShardingCodec::read_subchunks_into-returns-in_default-clause-all
sharding::ShardingCodec::read_subchunks_into-returns-in_default-clause-all g t c =
    let k = kind_of c.args.cell_type.now in
    let f = filling c.args.cell_type.now in
    let r = read_of c.args.read.now in
    let is = opened c.args.read.now in
    let m : ChainMeaning = chain_meaning (inner_chain_of c.args.self.now) in
    let dec = m.decoded k f r.sub in
    let t = c.args.target.now in
    let region = target_box t in
    let nothing = rw c.in_default.is at c.in_ok-walk.ensures.none in
    all_at k dec f r.shape r.sub r.part (parts_of r) (parent_box t) region (box_of c.in_ok-met.met) (data_of_target t) c.in_ok-met.met.same_length c.in_ok-met.ensures.met
    (subst (λ (done : List (List ℕ)). HasSubchunksAt k dec f r.shape r.sub r.part (parts_of r) done (parent_box t) region (data_of_target t)) (sym nothing)
    (none_at k dec f r.shape r.sub r.part (parts_of r) (parent_box t) region (data_of_target t)))

pub sharding::ShardingCodec::read_subchunks_into-loop-walk-init : goal.sharding::ShardingCodec::read_subchunks_into-loop-walk-init
sharding::ShardingCodec::read_subchunks_into-loop-walk-init g t c =
    let k = kind_of c.args.cell_type.now in
    let f = filling c.args.cell_type.now in
    let r = read_of c.args.read.now in
    let is = opened c.args.read.now in
    let m : ChainMeaning = chain_meaning (inner_chain_of c.args.self.now) in
    let dec = m.decoded k f r.sub in
    let t = c.args.target.now in
    let region = target_box t in
    let walk = c.in-Some.walk in
    let same = rw c.in-Some.is at c.in_ok-walk.ensures.none in
    let first = rw c.in-Some.is at c.in_ok-walk.ensures.first in
    record {
      kept = keeps_itself t;
      meets = subst (λ (b : Box). MeetsPart r.sub r.part b) (sym same) c.in_ok-met.ensures.met;
      read =
          subst (λ (n : ℕ). HasSubchunksAt k dec f r.shape r.sub r.part (parts_of r) (take n (positions (walk_box walk))) (parent_box t) region (data_of_target t)) (sym first)
          (none_at k dec f r.shape r.sub r.part (parts_of r) (parent_box t) region (data_of_target t));
    }

pub sharding::ShardingCodec::read_subchunks_into-loop-walk-smaller : goal.sharding::ShardingCodec::read_subchunks_into-loop-walk-smaller
sharding::ShardingCodec::read_subchunks_into-loop-walk-smaller g t c =
    let walk = c.loop-walk.walk in
    let chunks = positions (walk_box walk) in
    let i = c.loop-walk.invariant in
    let n = walk_number walk in
    let l = c.loop-walk.target in
    let index = c.current.result.now in
    let at : slice_get chunks n ≡ Some index = c.current.ensures in
    let here = slice_get_within chunks n index at in
    let next = c.if-not-advance.ensures.next in
    omega (arith, ap (λ (b : Box). length (positions b)) c.if-not-advance.ensures.same_box)

pub sharding::ShardingCodec::read_subchunks_into-returns-in_err-read_subchunk_into-clause-kept : goal.sharding::ShardingCodec::read_subchunks_into-returns-in_err-read_subchunk_into-clause-kept
sharding::ShardingCodec::read_subchunks_into-returns-in_err-read_subchunk_into-clause-kept g t c =
    kept_twice c.args.target.now c.loop-walk.target c.read_subchunk_into.new.target c.loop-walk.invariant.kept c.read_subchunk_into.ensures.kept

pub sharding::ShardingCodec::read_subchunks_into-returns-then-not-advance-clause-kept : goal.sharding::ShardingCodec::read_subchunks_into-returns-then-not-advance-clause-kept
sharding::ShardingCodec::read_subchunks_into-returns-then-not-advance-clause-kept g t c =
    kept_twice c.args.target.now c.loop-walk.target c.read_subchunk_into.new.target c.loop-walk.invariant.kept c.read_subchunk_into.ensures.kept

pub sharding::ShardingCodec::read_subchunks_into-returns-then-not-advance-clause-all : goal.sharding::ShardingCodec::read_subchunks_into-returns-then-not-advance-clause-all
sharding::ShardingCodec::read_subchunks_into-returns-then-not-advance-clause-all g t c =
    let k = kind_of c.args.cell_type.now in
    let f = filling c.args.cell_type.now in
    let r = read_of c.args.read.now in
    let m : ChainMeaning = chain_meaning (inner_chain_of c.args.self.now) in
    let dec = m.decoded k f r.sub in
    let t = c.args.target.now in
    let region = target_box t in
    let walk = c.loop-walk.walk in
    let chunks = positions (walk_box walk) in
    let i = c.loop-walk.invariant in
    let n = walk_number walk in
    let l = c.loop-walk.target in
    let index = c.current.result.now in
    let at : slice_get chunks n ≡ Some index = c.current.ensures in
    let new = c.read_subchunk_into.new.target in
    let read = one_read c.args.self.now c.args.cell_type.now r index t l new i.kept c.in_ok-read_subchunk_into.ensures.read in
    all_at k dec f r.shape r.sub r.part (parts_of r) (parent_box t) region (walk_box walk) (data_of_target new) walk.subset.now.same_length i.meets
    (last_walked k dec f r.shape r.sub r.part (parts_of r) (parent_box t) region chunks (n + 1) (data_of_target new) c.if-not-advance.ensures.last
    (more_walked k dec f r.shape r.sub r.part (parts_of r) (parent_box t) region chunks n (n + 1) index (data_of_target l) (data_of_target new) refl at i.read read))

pub sharding::ShardingCodec::read_subchunks_into-loop-walk-preserved : goal.sharding::ShardingCodec::read_subchunks_into-loop-walk-preserved
sharding::ShardingCodec::read_subchunks_into-loop-walk-preserved g t c =
    let k = kind_of c.args.cell_type.now in
    let f = filling c.args.cell_type.now in
    let r = read_of c.args.read.now in
    let m : ChainMeaning = chain_meaning (inner_chain_of c.args.self.now) in
    let dec = m.decoded k f r.sub in
    let t = c.args.target.now in
    let region = target_box t in
    let walk = c.loop-walk.walk in
    let chunks = positions (walk_box walk) in
    let i = c.loop-walk.invariant in
    let n = walk_number walk in
    let l = c.loop-walk.target in
    let index = c.current.result.now in
    let at : slice_get chunks n ≡ Some index = c.current.ensures in
    let new = c.read_subchunk_into.new.target in
    let read = one_read c.args.self.now c.args.cell_type.now r index t l new i.kept c.in_ok-read_subchunk_into.ensures.read in
    let same = c.if-not-advance.ensures.same_box in
    record {
      kept = kept_twice t l new i.kept c.read_subchunk_into.ensures.kept;
      meets = subst (λ (b : Box). MeetsPart r.sub r.part b) (sym same) i.meets;
      read =
          subst (λ (b : Box). HasSubchunksAt k dec f r.shape r.sub r.part (parts_of r) (take (walk_number c.advance.new.self) (positions b)) (parent_box t) region (data_of_target new)) (sym same)
          (more_walked k dec f r.shape r.sub r.part (parts_of r) (parent_box t) region chunks n _ index (data_of_target l) (data_of_target new) c.if-not-advance.ensures.next at i.read read);
    }

pub sharding::ShardingCodec::read_subchunks_into-read_subchunk_into-requires : goal.sharding::ShardingCodec::read_subchunks_into-read_subchunk_into-requires
sharding::ShardingCodec::read_subchunks_into-read_subchunk_into-requires g t c κs within =
    let t = c.args.target.now in
    let l = c.loop-walk.target in
    let kept = c.loop-walk.invariant.kept in
    let shape : (target_box l).shape ≡ (read_of c.args.read.now).part.shape = ap (λ (b : Box). b.shape) (ap box_of kept.same.region) ∙ c.requires.same_shape in
    (first_of (omega (arith, c.decreases), search rules), (search rules, (still_takes t l (kind_of c.args.cell_type.now) kept c.requires.takes, shape)))

pub sharding::ShardingCodec::read_all_into-loop-number-init : goal.sharding::ShardingCodec::read_all_into-loop-number-init
sharding::ShardingCodec::read_all_into-loop-number-init g t c =
    record { kept = keeps_itself c.args.target.now; parts = λ j lt. absurd (omega arith) }

pub sharding::ShardingCodec::read_all_into-subset_in-requires-clause-number : goal.sharding::ShardingCodec::read_all_into-subset_in-requires-clause-number
sharding::ShardingCodec::read_all_into-subset_in-requires-clause-number g t c =
    omega (arith, c.count-number-end.ensures)

pub sharding::ShardingCodec::read_all_into-subset_in-requires-clause-shape : goal.sharding::ShardingCodec::read_all_into-subset_in-requires-clause-shape
sharding::ShardingCodec::read_all_into-subset_in-requires-clause-shape g t c =
    c.requires.same_shape ∙ c.requires.whole

pub sharding::ShardingCodec::read_all_into-subchunk-stored-requires : goal.sharding::ShardingCodec::read_all_into-subchunk-stored-requires
sharding::ShardingCodec::read_all_into-subchunk-stored-requires g t c =
    omega (arith, c.count-number-end.ensures)

pub sharding::ShardingCodec::read_all_into-read_piece-requires : goal.sharding::ShardingCodec::read_all_into-read_piece-requires
sharding::ShardingCodec::read_all_into-read_piece-requires g t c κs within =
    let k = kind_of c.args.cell_type.now in
    let r = read_of c.args.read.now in
    let is = opened c.args.read.now in
    let t = c.args.target.now in
    let region = target_box t in
    let parent = t.parent_shape.now in
    let long = t.region.now.same_length in
    let lies = t.whole.inside in
    let s_is : region.shape ≡ r.shape = c.requires.same_shape ∙ c.requires.whole in
    let cut : is_cut_by region.shape r.sub ≡ true = ap (λ (x : List ℕ). is_cut_by x r.sub) s_is ∙ is.cut in
    let count_is : subchunk_count region.shape r.sub ≡ count_of r = ap (λ (x : List ℕ). subchunk_count x r.sub) s_is in
    let shape_is : c.subchunk_shape-shape.result.now ≡ r.sub = c.subchunk_shape-shape.ensures in
    let l = c.loop-number.target in
    let i = c.loop-number.invariant in
    let n = c.loop-number.number in
    let r_lt : n < count_of r = omega (arith, c.count-number-end.ensures) in
    let n_lt : n < subchunk_count region.shape r.sub = omega (arith, c.count-number-end.ensures, count_is) in
    let own = box_of c.in_ok-own.own in
    let own_is : own ≡ own_box region r.sub n = c.in_ok-own.ensures in
    let part_is = origin_box r.part r.shape c.requires.whole is.lies in
    let piece = box_of c.in_ok-piece.piece in
    let piece_is : piece ≡ box_at_origin c.subchunk_shape-shape.result.now = search rules in
    let here : piece ≡ box_at_origin r.sub = piece_is ∙ ap box_at_origin shape_is in
    let piece_lies : LiesInShape piece c.subchunk_shape-shape.result.now = subst (λ (b : Box). LiesInShape b c.subchunk_shape-shape.result.now) (sym piece_is) (origin_lies c.subchunk_shape-shape.result.now) in
    let own_lies =
    subst (λ (b : Box). LiesInBox b (target_box l)) (sym own_is)
    (subst (λ (b : Box). LiesInBox (own_box region r.sub n) b) (ap box_of (sym i.kept.same.region)) (own_in_region parent region r.sub cut long lies n n_lt)) in
    let same_shape : own.shape ≡ piece.shape = ap (λ (b : Box). b.shape) own_is ∙ sym (ap (λ (b : Box). b.shape) here) in
    let may = c.subchunk-stored.ensures.may_read (all_met r is n part_is r_lt) in
    (first_of (omega (arith, c.decreases), search rules), (search rules, (piece_lies, (may, (still_takes t l k i.kept c.requires.takes, (own_lies, same_shape))))))

pub sharding::ShardingCodec::read_all_into-returns-in_err-read_piece-clause-kept : goal.sharding::ShardingCodec::read_all_into-returns-in_err-read_piece-clause-kept
sharding::ShardingCodec::read_all_into-returns-in_err-read_piece-clause-kept g t c =
    let r = read_of c.args.read.now in
    let is = opened c.args.read.now in
    let t = c.args.target.now in
    let region = target_box t in
    let parent = t.parent_shape.now in
    let long = t.region.now.same_length in
    let lies = t.whole.inside in
    let s_is : region.shape ≡ r.shape = c.requires.same_shape ∙ c.requires.whole in
    let cut : is_cut_by region.shape r.sub ≡ true = ap (λ (x : List ℕ). is_cut_by x r.sub) s_is ∙ is.cut in
    let count_is : subchunk_count region.shape r.sub ≡ count_of r = ap (λ (x : List ℕ). subchunk_count x r.sub) s_is in
    let shape_is : c.subchunk_shape-shape.result.now ≡ r.sub = c.subchunk_shape-shape.ensures in
    let l = c.loop-number.target in
    let i = c.loop-number.invariant in
    let n = c.loop-number.number in
    let r_lt : n < count_of r = omega (arith, c.count-number-end.ensures) in
    let n_lt : n < subchunk_count region.shape r.sub = omega (arith, c.count-number-end.ensures, count_is) in
    let own = box_of c.in_ok-own.own in
    let own_is : own ≡ own_box region r.sub n = c.in_ok-own.ensures in
    let new = c.read_piece.new.target in
    but_kept t l new own i.kept c.read_piece.ensures.kept
    (subst (λ (b : Box). (p : List ℕ) → in_box region p ≡ false → in_box b p ≡ false) (sym own_is) (own_outside parent region r.sub cut long lies n n_lt))

pub sharding::ShardingCodec::read_all_into-returns-in_err-read_piece-clause-refused : goal.sharding::ShardingCodec::read_all_into-returns-in_err-read_piece-clause-refused
sharding::ShardingCodec::read_all_into-returns-in_err-read_piece-clause-refused g t c =
    let k = kind_of c.args.cell_type.now in
    let f = filling c.args.cell_type.now in
    let r = read_of c.args.read.now in
    let is = opened c.args.read.now in
    let m : ChainMeaning = chain_meaning (inner_chain_of c.args.self.now) in
    let t = c.args.target.now in
    let region = target_box t in
    let lies = t.whole.inside in
    let s_is : region.shape ≡ r.shape = c.requires.same_shape ∙ c.requires.whole in
    let cut : is_cut_by region.shape r.sub ≡ true = ap (λ (x : List ℕ). is_cut_by x r.sub) s_is ∙ is.cut in
    let count_is : subchunk_count region.shape r.sub ≡ count_of r = ap (λ (x : List ℕ). subchunk_count x r.sub) s_is in
    let shape_is : c.subchunk_shape-shape.result.now ≡ r.sub = c.subchunk_shape-shape.ensures in
    let n = c.loop-number.number in
    let r_lt : n < count_of r = omega (arith, c.count-number-end.ensures) in
    let n_lt : n < subchunk_count region.shape r.sub = omega (arith, c.count-number-end.ensures, count_is) in
    let own = box_of c.in_ok-own.own in
    let own_is : own ≡ own_box region r.sub n = c.in_ok-own.ensures in
    let stored = c.subchunk-stored.result in
    let part_is = origin_box r.part r.shape c.requires.whole is.lies in
    let piece = box_of c.in_ok-piece.piece in
    let piece_is : piece ≡ box_at_origin c.subchunk_shape-shape.result.now = search rules in
    let here : piece ≡ box_at_origin r.sub = piece_is ∙ ap box_at_origin shape_is in
    let e = c.in_err-read_piece.field-0.0 in
    err_kept c.from_residual-in_err-read_piece.result e (RefusesShard c.args.self.now c.args.cell_type.now r) c.from_residual-in_err-read_piece.ensures.1
    (subchunks_refused c.args.self.now c.args.cell_type.now r is e
    (piece_refused c.args.self.now c.args.cell_type.now r is n r_lt stored piece e c.subchunk-stored.ensures.bytes c.subchunk-stored.ensures.refuses
    (λ b. whole_large c.args.self.now c.args.cell_type.now r is n piece part_is r_lt here b)
    (subst (λ (x : List ℕ). RefusesPiece (m.decoded k f x) (IsTooLargeToDecode m k f x piece) stored e) shape_is c.in_err-read_piece.ensures.refused)))

pub sharding::ShardingCodec::read_all_into-loop-number-preserved : goal.sharding::ShardingCodec::read_all_into-loop-number-preserved
sharding::ShardingCodec::read_all_into-loop-number-preserved g t c =
    let k = kind_of c.args.cell_type.now in
    let f = filling c.args.cell_type.now in
    let r = read_of c.args.read.now in
    let is = opened c.args.read.now in
    let m : ChainMeaning = chain_meaning (inner_chain_of c.args.self.now) in
    let dec = m.decoded k f r.sub in
    let t = c.args.target.now in
    let region = target_box t in
    let parent = t.parent_shape.now in
    let long = t.region.now.same_length in
    let lies = t.whole.inside in
    let s_is : region.shape ≡ r.shape = c.requires.same_shape ∙ c.requires.whole in
    let cut : is_cut_by region.shape r.sub ≡ true = ap (λ (x : List ℕ). is_cut_by x r.sub) s_is ∙ is.cut in
    let count_is : subchunk_count region.shape r.sub ≡ count_of r = ap (λ (x : List ℕ). subchunk_count x r.sub) s_is in
    let shape_is : c.subchunk_shape-shape.result.now ≡ r.sub = c.subchunk_shape-shape.ensures in
    let l = c.loop-number.target in
    let i = c.loop-number.invariant in
    let n = c.loop-number.number in
    let r_lt : n < count_of r = omega (arith, c.count-number-end.ensures) in
    let n_lt : n < subchunk_count region.shape r.sub = omega (arith, c.count-number-end.ensures, count_is) in
    let own = box_of c.in_ok-own.own in
    let own_is : own ≡ own_box region r.sub n = c.in_ok-own.ensures in
    let stored = c.subchunk-stored.result in
    let part_is = origin_box r.part r.shape c.requires.whole is.lies in
    let piece = box_of c.in_ok-piece.piece in
    let piece_is : piece ≡ box_at_origin c.subchunk_shape-shape.result.now = search rules in
    let here : piece ≡ box_at_origin r.sub = piece_is ∙ ap box_at_origin shape_is in
    let new = c.read_piece.new.target in
    let kept = but_kept t l new own i.kept c.read_piece.ensures.kept
    (subst (λ (b : Box). (p : List ℕ) → in_box region p ≡ false → in_box b p ≡ false) (sym own_is) (own_outside parent region r.sub cut long lies n n_lt)) in
    let keeps =
    same_keeps t.cell_size l.cell_size parent l.parent_shape.now (own_box region r.sub n) own (data_of_target l) (data_of_target new) i.kept.same.cell_size i.kept.same.parent_shape own_is
    c.read_piece.ensures.kept.outside in
    let o = option_map bytes_of stored in
    let fixed_is = (type_taken t.cell_size t.depth k c.requires.takes).0 in
    let own_shape : own.shape ≡ r.sub = ap (λ (b : Box). b.shape) own_is in
    let whole = subst (λ (x : List ℕ). IfSome stored (λ own. IsSome (m.decoded k f x (bytes_of own)))) shape_is (c.in_ok-read_piece.ensures.whole (ap (λ (b : Box). b.shape) piece_is)) in
    let cells = subst (λ (x : List ℕ). DecodesPieceAt k (m.decoded k f x) f x piece o (parent_box l) own (data_of_target new)) shape_is c.in_ok-read_piece.ensures.cells in
    let read = piece_whole k dec f l.parent_shape.now r.sub piece own o (data_of_target new) c.in_ok-own.own.same_length own_shape here (some_bytes dec stored whole) cells in
    record {
      kept = kept;
      parts = parts_more parent region r.sub cut long lies k t.cell_size fixed_is dec f (parts_of r) n (data_of_target l) (data_of_target new) n_lt keeps i.parts
          (same_decodes k (λ (x : List ℕ). dec) f parent l.parent_shape.now (own_box region r.sub n) own (slice_index_or (parts_of r) n None) o (data_of_target new) i.kept.same.parent_shape own_is (sym c.subchunk-stored.ensures.bytes) read);
    }

pub sharding::ShardingCodec::read_all_into-returns-clause-cells : goal.sharding::ShardingCodec::read_all_into-returns-clause-cells
sharding::ShardingCodec::read_all_into-returns-clause-cells g t c =
    let k = kind_of c.args.cell_type.now in
    let f = filling c.args.cell_type.now in
    let r = read_of c.args.read.now in
    let is = opened c.args.read.now in
    let m : ChainMeaning = chain_meaning (inner_chain_of c.args.self.now) in
    let dec = m.decoded k f r.sub in
    let t = c.args.target.now in
    let region = target_box t in
    let parent = t.parent_shape.now in
    let long = t.region.now.same_length in
    let lies = t.whole.inside in
    let s_is : region.shape ≡ r.shape = c.requires.same_shape ∙ c.requires.whole in
    let cut : is_cut_by region.shape r.sub ≡ true = ap (λ (x : List ℕ). is_cut_by x r.sub) s_is ∙ is.cut in
    let count_is : subchunk_count region.shape r.sub ≡ count_of r = ap (λ (x : List ℕ). subchunk_count x r.sub) s_is in
    let shape_is : c.subchunk_shape-shape.result.now ≡ r.sub = c.subchunk_shape-shape.ensures in
    let l = c.loop-number.target in
    let i = c.loop-number.invariant in
    let fixed_is = (type_taken t.cell_size t.depth k c.requires.takes).0 in
    let one = subchunk_meaning m false k f r.sub in
    let fit : m.fits k r.sub ≡ true = ap (m.fits k) (sym shape_is) ∙ sym c.in_ok-fits_chunk.ensures ∙ c.if-not-branch.false in
    let parts_are : shard_parts r.at_start (subchunk_count region.shape r.sub) r.encoded ≡ Some (parts_of r) = ap (λ x. shard_parts r.at_start x r.encoded) count_is ∙ is.parts in
    let law = chain-lawful (inner_chain_of c.args.self.now) in
    subst (λ (x : List ℕ). DecodesInto k (parent_box t) region (sharded_decoded one r.at_start k f x r.sub r.encoded) (data_of_target l)) s_is
    (all_into parent region r.sub cut long lies k t.cell_size fixed_is dec f (parts_of r) one r.at_start r.encoded fit (λ b. refl) parts_are
    (λ b cs decodes. law.decoded_len k f r.sub b cs decodes) (λ b cs decodes. law.decoded_values k f r.sub b cs decodes)
    (fill-value k c.args.cell_type.now.fill_value c.args.cell_type.now.filled) (data_of_target l)
    (λ j lt. i.parts j (omega (arith, c.count-number-end.ensures, count_is))))

pub sharding::ShardingCodec::read_all_into-returns-then-not-branch-clause-refused : goal.sharding::ShardingCodec::read_all_into-returns-then-not-branch-clause-refused
sharding::ShardingCodec::read_all_into-returns-then-not-branch-clause-refused g t c =
    let k = kind_of c.args.cell_type.now in
    let r = read_of c.args.read.now in
    let is = opened c.args.read.now in
    let m : ChainMeaning = chain_meaning (inner_chain_of c.args.self.now) in
    let shape_is : c.subchunk_shape-shape.result.now ≡ r.sub = c.subchunk_shape-shape.ensures in
    sharded_unfit c.args.self.now c.args.cell_type.now r is (ap (m.fits k) (sym shape_is) ∙ sym c.in_ok-fits_chunk.ensures ∙ c.if-not-branch.true)

pub sharding::ShardingCodec::partial_decode_shard_into-open-requires-clause-may_read : goal.sharding::ShardingCodec::partial_decode_shard_into-open-requires-clause-may_read
sharding::ShardingCodec::partial_decode_shard_into-open-requires-clause-may_read g t c =
    let x = c.args.self.now in
    let stored = c.args.stored.now in
    let chunk = c.args.chunk.now in
    let at_is : c.is_at_start-at_start.result ≡ is_at_start (location_of x) = c.is_at_start-at_start.ensures ∙ ap is_at_start c.index_location.ensures in
    let sub_is : c.deref.result.now ≡ sizes_of (subchunk_sizes_of x) = c.deref.ensures ∙ c.in_ok-sub.ensures in
    let r_of = λ (at : Bool) (sub : List ℕ). shard_read at (shape_of chunk) sub (box_of c.args.part.now) (bytes_of stored) (refuses_of stored) in
    subst (λ (l : List ℕ). MayReadOf stored (part_places (r_of c.is_at_start-at_start.result l))) (sym sub_is)
    (subst (λ (at : Bool). MayReadOf stored (part_places (r_of at (sizes_of (subchunk_sizes_of x))))) (sym at_is) c.requires.may_read)

pub sharding::ShardingCodec::partial_decode_shard_into-read_all_into-requires : goal.sharding::ShardingCodec::partial_decode_shard_into-read_all_into-requires
sharding::ShardingCodec::partial_decode_shard_into-read_all_into-requires g t c κs within =
    let x = c.args.self.now in
    let stored = c.args.stored.now in
    let chunk = c.args.chunk.now in
    let at_is : c.is_at_start-at_start.result ≡ is_at_start (location_of x) = c.is_at_start-at_start.ensures ∙ ap is_at_start c.index_location.ensures in
    let sub_is : c.deref.result.now ≡ sizes_of (subchunk_sizes_of x) = c.deref.ensures ∙ c.in_ok-sub.ensures in
    let r_of = λ (at : Bool) (sub : List ℕ). shard_read at (shape_of chunk) sub (box_of c.args.part.now) (bytes_of stored) (refuses_of stored) in
    let read = c.in-Some.read in
    let read_is : read_of read ≡ r_of (is_at_start (location_of x)) (sizes_of (subchunk_sizes_of x)) =
    (rw c.in-Some.is at c.in_ok-read.ensures.opened) ∙ ap (λ (at : Bool). r_of at c.deref.result.now) at_is ∙ ap (r_of (is_at_start (location_of x))) sub_is in
    let r = read_of read in
    let t = c.args.target.now in
    let part_whole : (box_of c.args.part.now).shape ≡ shape_of chunk = search rules in
    let whole = subst (λ (r : ShardRead). r.part.shape ≡ r.shape) (sym read_is) part_whole in
    let same = subst (λ (r : ShardRead). (target_box t).shape ≡ r.part.shape) (sym read_is) c.requires.same_shape in
    (first_of (omega (arith, c.decreases), search rules), (search rules, (whole, (c.requires.takes, same))))

pub sharding::ShardingCodec::partial_decode_shard_into-read_subchunks_into-requires : goal.sharding::ShardingCodec::partial_decode_shard_into-read_subchunks_into-requires
sharding::ShardingCodec::partial_decode_shard_into-read_subchunks_into-requires g t c κs within =
    let x = c.args.self.now in
    let stored = c.args.stored.now in
    let chunk = c.args.chunk.now in
    let at_is : c.is_at_start-at_start.result ≡ is_at_start (location_of x) = c.is_at_start-at_start.ensures ∙ ap is_at_start c.index_location.ensures in
    let sub_is : c.deref.result.now ≡ sizes_of (subchunk_sizes_of x) = c.deref.ensures ∙ c.in_ok-sub.ensures in
    let r_of = λ (at : Bool) (sub : List ℕ). shard_read at (shape_of chunk) sub (box_of c.args.part.now) (bytes_of stored) (refuses_of stored) in
    let read = c.in-Some.read in
    let read_is : read_of read ≡ r_of (is_at_start (location_of x)) (sizes_of (subchunk_sizes_of x)) =
    (rw c.in-Some.is at c.in_ok-read.ensures.opened) ∙ ap (λ (at : Bool). r_of at c.deref.result.now) at_is ∙ ap (r_of (is_at_start (location_of x))) sub_is in
    let r = read_of read in
    let t = c.args.target.now in
    let same = subst (λ (r : ShardRead). (target_box t).shape ≡ r.part.shape) (sym read_is) c.requires.same_shape in
    (first_of (omega (arith, c.decreases), search rules), (search rules, (c.requires.takes, same)))

pub sharding::ShardingCodec::partial_decode_shard_into-returns-then-eq-clause-cells : goal.sharding::ShardingCodec::partial_decode_shard_into-returns-then-eq-clause-cells
sharding::ShardingCodec::partial_decode_shard_into-returns-then-eq-clause-cells g t c =
    let x = c.args.self.now in
    let stored = c.args.stored.now in
    let chunk = c.args.chunk.now in
    let at_is : c.is_at_start-at_start.result ≡ is_at_start (location_of x) = c.is_at_start-at_start.ensures ∙ ap is_at_start c.index_location.ensures in
    let sub_is : c.deref.result.now ≡ sizes_of (subchunk_sizes_of x) = c.deref.ensures ∙ c.in_ok-sub.ensures in
    let r_of = λ (at : Bool) (sub : List ℕ). shard_read at (shape_of chunk) sub (box_of c.args.part.now) (bytes_of stored) (refuses_of stored) in
    let read = c.in-Some.read in
    let read_is : read_of read ≡ r_of (is_at_start (location_of x)) (sizes_of (subchunk_sizes_of x)) =
    (rw c.in-Some.is at c.in_ok-read.ensures.opened) ∙ ap (λ (at : Bool). r_of at c.deref.result.now) at_is ∙ ap (r_of (is_at_start (location_of x))) sub_is in
    let r = read_of read in
    let ty = chunk.cell_type.now in
    let t = c.args.target.now in
    let new = data_of_target c.read_all_into.new.target in
    let part_whole : (box_of c.args.part.now).shape ≡ shape_of chunk = search rules in
    let k = chunk_kind chunk in
    let law = sharded-lawful r.at_start r.sub (chain_meaning (inner_chain_of x)) (chain-lawful (inner_chain_of x)) in
    let part_is : r.part ≡ box_at_origin r.shape = origin_box r.part r.shape (subst (λ (r : ShardRead). r.part.shape ≡ r.shape) (sym read_is) part_whole) (opened read).lies in
    let same = subst (λ (r : ShardRead). (target_box t).shape ≡ r.part.shape) (sym read_is) c.requires.same_shape in
    on_ok_weaker c.read_all_into.result
    (λ h. subst (λ (r : ShardRead). DecodesPartAt k r.shape r.part (shard_decoded x ty r) (parent_box t) (target_box t) new) read_is
    (into_part k t.parent_shape.now r.shape r.part (target_box t) (shard_decoded x ty r) new (opened read).long t.region.now.same_length same part_is
    (λ cs decodes. law.decoded_values k (chunk_fill chunk) r.shape r.encoded cs decodes) h))
    c.read_all_into.ensures.cells

pub sharding::ShardingCodec::partial_decode_shard_into-returns-then-eq-clause-whole : goal.sharding::ShardingCodec::partial_decode_shard_into-returns-then-eq-clause-whole
sharding::ShardingCodec::partial_decode_shard_into-returns-then-eq-clause-whole g t c =
    let x = c.args.self.now in
    let stored = c.args.stored.now in
    let chunk = c.args.chunk.now in
    let at_is : c.is_at_start-at_start.result ≡ is_at_start (location_of x) = c.is_at_start-at_start.ensures ∙ ap is_at_start c.index_location.ensures in
    let sub_is : c.deref.result.now ≡ sizes_of (subchunk_sizes_of x) = c.deref.ensures ∙ c.in_ok-sub.ensures in
    let r_of = λ (at : Bool) (sub : List ℕ). shard_read at (shape_of chunk) sub (box_of c.args.part.now) (bytes_of stored) (refuses_of stored) in
    let read = c.in-Some.read in
    let read_is : read_of read ≡ r_of (is_at_start (location_of x)) (sizes_of (subchunk_sizes_of x)) =
    (rw c.in-Some.is at c.in_ok-read.ensures.opened) ∙ ap (λ (at : Bool). r_of at c.deref.result.now) at_is ∙ ap (r_of (is_at_start (location_of x))) sub_is in
    let r = read_of read in
    let ty = chunk.cell_type.now in
    λ all. on_ok_weaker c.read_all_into.result
    (λ h. subst (λ (r : ShardRead). IsSome (shard_decoded x ty r)) read_is (subst IsSome (sym h.decoded_is) refl))
    c.read_all_into.ensures.cells

pub sharding::ShardingCodec::partial_decode_shard_into-returns-then-eq-clause-refused : goal.sharding::ShardingCodec::partial_decode_shard_into-returns-then-eq-clause-refused
sharding::ShardingCodec::partial_decode_shard_into-returns-then-eq-clause-refused g t c =
    let x = c.args.self.now in
    let stored = c.args.stored.now in
    let chunk = c.args.chunk.now in
    let at_is : c.is_at_start-at_start.result ≡ is_at_start (location_of x) = c.is_at_start-at_start.ensures ∙ ap is_at_start c.index_location.ensures in
    let sub_is : c.deref.result.now ≡ sizes_of (subchunk_sizes_of x) = c.deref.ensures ∙ c.in_ok-sub.ensures in
    let r_of = λ (at : Bool) (sub : List ℕ). shard_read at (shape_of chunk) sub (box_of c.args.part.now) (bytes_of stored) (refuses_of stored) in
    let read = c.in-Some.read in
    let read_is : read_of read ≡ r_of (is_at_start (location_of x)) (sizes_of (subchunk_sizes_of x)) =
    (rw c.in-Some.is at c.in_ok-read.ensures.opened) ∙ ap (λ (at : Bool). r_of at c.deref.result.now) at_is ∙ ap (r_of (is_at_start (location_of x))) sub_is in
    let r = read_of read in
    let ty = chunk.cell_type.now in
    IfErr-weaker c.read_all_into.result _ _ (λ e why. subst (λ (r : ShardRead). RefusesShard x ty r e) read_is why) c.read_all_into.ensures.refused

pub sharding::ShardingCodec::partial_decode_shard_into-returns-clause-cells : goal.sharding::ShardingCodec::partial_decode_shard_into-returns-clause-cells
sharding::ShardingCodec::partial_decode_shard_into-returns-clause-cells g t c =
    let x = c.args.self.now in
    let stored = c.args.stored.now in
    let chunk = c.args.chunk.now in
    let at_is : c.is_at_start-at_start.result ≡ is_at_start (location_of x) = c.is_at_start-at_start.ensures ∙ ap is_at_start c.index_location.ensures in
    let sub_is : c.deref.result.now ≡ sizes_of (subchunk_sizes_of x) = c.deref.ensures ∙ c.in_ok-sub.ensures in
    let r_of = λ (at : Bool) (sub : List ℕ). shard_read at (shape_of chunk) sub (box_of c.args.part.now) (bytes_of stored) (refuses_of stored) in
    let read = c.in-Some.read in
    let read_is : read_of read ≡ r_of (is_at_start (location_of x)) (sizes_of (subchunk_sizes_of x)) =
    (rw c.in-Some.is at c.in_ok-read.ensures.opened) ∙ ap (λ (at : Bool). r_of at c.deref.result.now) at_is ∙ ap (r_of (is_at_start (location_of x))) sub_is in
    let r = read_of read in
    let ty = chunk.cell_type.now in
    let t = c.args.target.now in
    let new = data_of_target c.read_subchunks_into.new.target in
    on_ok_weaker c.read_subchunks_into.result
    (λ has. subst (λ (r : ShardRead). DecodesPartAt (chunk_kind chunk) r.shape r.part (shard_decoded x ty r) (parent_box t) (target_box t) new) read_is
    (parts_at_decode x ty r (opened read) (parent_box t) (target_box t) new has))
    c.read_subchunks_into.ensures.all

pub sharding::ShardingCodec::partial_decode_shard_into-returns-clause-refused : goal.sharding::ShardingCodec::partial_decode_shard_into-returns-clause-refused
sharding::ShardingCodec::partial_decode_shard_into-returns-clause-refused g t c =
    let x = c.args.self.now in
    let stored = c.args.stored.now in
    let chunk = c.args.chunk.now in
    let at_is : c.is_at_start-at_start.result ≡ is_at_start (location_of x) = c.is_at_start-at_start.ensures ∙ ap is_at_start c.index_location.ensures in
    let sub_is : c.deref.result.now ≡ sizes_of (subchunk_sizes_of x) = c.deref.ensures ∙ c.in_ok-sub.ensures in
    let r_of = λ (at : Bool) (sub : List ℕ). shard_read at (shape_of chunk) sub (box_of c.args.part.now) (bytes_of stored) (refuses_of stored) in
    let read = c.in-Some.read in
    let read_is : read_of read ≡ r_of (is_at_start (location_of x)) (sizes_of (subchunk_sizes_of x)) =
    (rw c.in-Some.is at c.in_ok-read.ensures.opened) ∙ ap (λ (at : Bool). r_of at c.deref.result.now) at_is ∙ ap (r_of (is_at_start (location_of x))) sub_is in
    let r = read_of read in
    let ty = chunk.cell_type.now in
    IfErr-weaker c.read_subchunks_into.result _ _
    (λ e why. subst (λ (r : ShardRead). RefusesShard x ty r e) read_is (subchunks_refused x ty r (opened read) e why))
    c.read_subchunks_into.ensures.refused

pub sharding::ShardingCodec::partial_decode_shard_into-returns-in_default-clause-refused : goal.sharding::ShardingCodec::partial_decode_shard_into-returns-in_default-clause-refused
sharding::ShardingCodec::partial_decode_shard_into-returns-in_default-clause-refused g t c =
    let x = c.args.self.now in
    let stored = c.args.stored.now in
    let chunk = c.args.chunk.now in
    let at_is : c.is_at_start-at_start.result ≡ is_at_start (location_of x) = c.is_at_start-at_start.ensures ∙ ap is_at_start c.index_location.ensures in
    let sub_is : c.deref.result.now ≡ sizes_of (subchunk_sizes_of x) = c.deref.ensures ∙ c.in_ok-sub.ensures in
    let none = rw c.in_default.is at c.in_ok-read.ensures.none in
    let at = is_at_start (location_of x) in
    let m : ChainMeaning = chain_meaning (inner_chain_of x) in
    let k = chunk_kind chunk in
    let f = chunk_fill chunk in
    let sub = sizes_of (subchunk_sizes_of x) in
    (subst (λ (l : List ℕ). IsNoShard at (shape_of chunk) l (bytes_of stored)) sub_is (subst (λ (a : Bool). IsNoShard a (shape_of chunk) c.deref.result.now (bytes_of stored)) at_is none)) (subchunk_meaning m false k f sub) k f

pub chain::CodecChain::partial_decode_chunk_into-partial_decode_bytes_into-requires-clause-may_read : goal.chain::CodecChain::partial_decode_chunk_into-partial_decode_bytes_into-requires-clause-may_read
chain::CodecChain::partial_decode_chunk_into-partial_decode_bytes_into-requires-clause-may_read g t c =
    let k = chunk_kind c.args.chunk.now in
    let s = c.args.chunk.now.shape.now in
    let b = bytes_of c.args.stored.now in
    let part = box_of c.args.part.now in
    let may_read = g.B.ByteSource.may_read c.args.stored.now.source.now in
    let before = c.args.self.now.array_to_array in
    let last = c.args.self.now.array_to_bytes in
    let none = eqb-true (vec_len before) 0 (sym c.if-not-is_empty.ensures) in
    let alone = is_none before.items (omega (arith, none, before.ok.0)) in
    subst (λ x. MayRead may_read c.args.stored.now.window ((codec_meaning x).places k s part b)) c.in-Bytes.is
    (alone_places before.items (codec_meaning last) may_read c.args.stored.now.window k s part b alone c.requires.may_read)

pub chain::CodecChain::partial_decode_chunk_into-returns-in-Bytes-clause-cells : goal.chain::CodecChain::partial_decode_chunk_into-returns-in-Bytes-clause-cells
chain::CodecChain::partial_decode_chunk_into-returns-in-Bytes-clause-cells g t c =
    let k = chunk_kind c.args.chunk.now in
    let f = chunk_fill c.args.chunk.now in
    let s = c.args.chunk.now.shape.now in
    let b = bytes_of c.args.stored.now in
    let part = box_of c.args.part.now in
    let t = c.args.target.now in
    let before = c.args.self.now.array_to_array in
    let last = c.args.self.now.array_to_bytes in
    let none = eqb-true (vec_len before) 0 (sym c.if-not-is_empty.ensures) in
    let alone = is_none before.items (omega (arith, none, before.ok.0)) in
    let new = data_of_target c.partial_decode_bytes_into.new.target in
    on_ok_weaker c.partial_decode_bytes_into.result
    (λ h.
    alone_at before.items (codec_meaning last) k f s part b (parent_box t) (target_box t) new alone
    (subst (λ x. DecodesPartAt k s part ((codec_meaning x).decoded k f s b) (parent_box t) (target_box t) new) (sym c.in-Bytes.is) h))
    c.partial_decode_bytes_into.ensures.cells

pub chain::CodecChain::partial_decode_chunk_into-returns-in-Bytes-clause-refused : goal.chain::CodecChain::partial_decode_chunk_into-returns-in-Bytes-clause-refused
chain::CodecChain::partial_decode_chunk_into-returns-in-Bytes-clause-refused g t c =
    let k = chunk_kind c.args.chunk.now in
    let f = chunk_fill c.args.chunk.now in
    let s = c.args.chunk.now.shape.now in
    let part = box_of c.args.part.now in
    let b = bytes_of c.args.stored.now in
    let before = c.args.self.now.array_to_array in
    let last = c.args.self.now.array_to_bytes in
    let none = eqb-true (vec_len before) 0 (sym c.if-not-is_empty.ensures) in
    let alone = is_none before.items (omega (arith, none, before.ok.0)) in
    let refuses = refuses_of c.args.stored.now in
    IfErr-weaker c.partial_decode_bytes_into.result _ _
    (λ e why.
    alone_refused before.items (codec_meaning last) k f s part b refuses e alone
    (subst (λ x. RefusesPartDecoding ((codec_meaning x).decoded k f s b) (IsTooLargeToDecode (codec_meaning x) k f s part b) refuses e) (sym c.in-Bytes.is)
    (leaf_refused _ _ refuses e why)))
    c.partial_decode_bytes_into.ensures.refused

pub chain::CodecChain::partial_decode_chunk_into-returns-in-Sharding-clause-cells : goal.chain::CodecChain::partial_decode_chunk_into-returns-in-Sharding-clause-cells
chain::CodecChain::partial_decode_chunk_into-returns-in-Sharding-clause-cells g t c =
    let k = chunk_kind c.args.chunk.now in
    let f = chunk_fill c.args.chunk.now in
    let s = c.args.chunk.now.shape.now in
    let b = bytes_of c.args.stored.now in
    let part = box_of c.args.part.now in
    let t = c.args.target.now in
    let before = c.args.self.now.array_to_array in
    let last = c.args.self.now.array_to_bytes in
    let none = eqb-true (vec_len before) 0 (sym c.if-not-is_empty.ensures) in
    let alone = is_none before.items (omega (arith, none, before.ok.0)) in
    let new = data_of_target c.partial_decode_shard_into.new.target in
    on_ok_weaker c.partial_decode_shard_into.result
    (λ h.
    alone_at before.items (codec_meaning last) k f s part b (parent_box t) (target_box t) new alone
    (subst (λ x. DecodesPartAt k s part ((codec_meaning x).decoded k f s b) (parent_box t) (target_box t) new) (sym c.in-Sharding.is)
    (subst (λ x. DecodesPartAt k s part ((sharding_meaning x).decoded k f s b) (parent_box t) (target_box t) new) c.deref.ensures h)))
    c.partial_decode_shard_into.ensures.cells

pub chain::CodecChain::partial_decode_chunk_into-returns-in-Sharding-clause-refused : goal.chain::CodecChain::partial_decode_chunk_into-returns-in-Sharding-clause-refused
chain::CodecChain::partial_decode_chunk_into-returns-in-Sharding-clause-refused g t c =
    let k = chunk_kind c.args.chunk.now in
    let f = chunk_fill c.args.chunk.now in
    let s = c.args.chunk.now.shape.now in
    let b = bytes_of c.args.stored.now in
    let part = box_of c.args.part.now in
    let before = c.args.self.now.array_to_array in
    let last = c.args.self.now.array_to_bytes in
    let none = eqb-true (vec_len before) 0 (sym c.if-not-is_empty.ensures) in
    let alone = is_none before.items (omega (arith, none, before.ok.0)) in
    let refuses = refuses_of c.args.stored.now in
    IfErr-weaker c.partial_decode_shard_into.result _ _
    (λ e why.
    alone_refused before.items (codec_meaning last) k f s part b refuses e alone
    (subst (λ x. RefusesPartDecoding ((codec_meaning x).decoded k f s b) (IsTooLargeToDecode (codec_meaning x) k f s part b) refuses e) (sym c.in-Sharding.is)
    (subst (λ x. RefusesPartDecoding ((sharding_meaning x).decoded k f s b) (IsTooLargeToDecode (sharding_meaning x) k f s part b) refuses e) c.deref.ensures why)))
    c.partial_decode_shard_into.ensures.refused

pub chain::CodecChain::partial_decode_chunk_into-returns-in-Bytes-clause-whole : goal.chain::CodecChain::partial_decode_chunk_into-returns-in-Bytes-clause-whole
chain::CodecChain::partial_decode_chunk_into-returns-in-Bytes-clause-whole g t c = λ all.
    let k = chunk_kind c.args.chunk.now in
    let f = chunk_fill c.args.chunk.now in
    let s = c.args.chunk.now.shape.now in
    let b = bytes_of c.args.stored.now in
    let before = c.args.self.now.array_to_array in
    let last = c.args.self.now.array_to_bytes in
    let none = eqb-true (vec_len before) 0 (sym c.if-not-is_empty.ensures) in
    let alone = is_none before.items (omega (arith, none, before.ok.0)) in
    on_ok_weaker c.partial_decode_bytes_into.result
    (λ h. alone_some before.items (codec_meaning last) k f s b alone (subst (λ x. IsSome ((codec_meaning x).decoded k f s b)) (sym c.in-Bytes.is) h))
    (c.partial_decode_bytes_into.ensures.whole all)

pub chain::CodecChain::partial_decode_chunk_into-returns-in-Sharding-clause-whole : goal.chain::CodecChain::partial_decode_chunk_into-returns-in-Sharding-clause-whole
chain::CodecChain::partial_decode_chunk_into-returns-in-Sharding-clause-whole g t c = λ all.
    let k = chunk_kind c.args.chunk.now in
    let f = chunk_fill c.args.chunk.now in
    let s = c.args.chunk.now.shape.now in
    let b = bytes_of c.args.stored.now in
    let before = c.args.self.now.array_to_array in
    let last = c.args.self.now.array_to_bytes in
    let none = eqb-true (vec_len before) 0 (sym c.if-not-is_empty.ensures) in
    let alone = is_none before.items (omega (arith, none, before.ok.0)) in
    on_ok_weaker c.partial_decode_shard_into.result
    (λ h. alone_some before.items (codec_meaning last) k f s b alone
    (subst (λ x. IsSome ((codec_meaning x).decoded k f s b)) (sym c.in-Sharding.is) (subst (λ x. IsSome ((sharding_meaning x).decoded k f s b)) c.deref.ensures h)))
    (c.partial_decode_shard_into.ensures.whole all)
