use Rattle.zarrs_data_type.specs.CellTypes.{chunk_fill, chunk_kind, filling, kind_of, shape_of}
use Rattle.std.proofs.Common.{vec_len, ◌≡◌, ◌∙◌, ◌+◌, Some, slice_get, length, take, List, ℕ, rules, sym, ap, subst, arith, ◌-◌, ◌*◌, ◌<◌, ◌≤◌, ◌^◌, false, true, refl, Bool, replicate}
use Rattle.std.proofs.Math.Nat.{mul-le-mul_left}
use Rattle.std.specs.Prelude.{IsSome}
use Rattle.std.proofs.lemmas.Bool.{eqb-true, false≢true}
use Rattle.std.proofs.lemmas.Option.{slice_get_within}
use Rattle.std.proofs.lemmas.Result.{IfErr-weaker, IfOk-weaker}
use Rattle.zarrs_data_type.specs.ArrayData.{data_of}
use Rattle.zarrs_data_type.specs.RegionData.{region_data}
use Rattle.zarrs_data_type.specs.Cells.{cells}
use Rattle.zarrs_codec_chain.specs.Chain.{ChainMeaning}
use Rattle.zarrs_codec.specs.ChainLaws.{chain-lawful}
use Rattle.zarrs_codec.specs.Chains.{codec_meaning, chain_meaning, inner_chain_of, is_at_start, location_of, subchunk_sizes_of, sharding_meaning}
use Rattle.zarrs_codec.specs.ShardChunks.{DecodesOne, HasParts, RefusesShard, RefusesReads, shard_decoded}
use Rattle.zarrs_codec.specs.Shardings.{subchunk_meaning}
use Rattle.zarrs_codec.proofs.PartReads.{alone_refused, is_none, leaf_refused}
use Rattle.zarrs_codec.proofs.Pieces.{piece_alone, piece_cells, piece_put}
use Rattle.zarrs_codec.proofs.ShardReads.{large_share, own_refused, parts_decode, piece_of_share, read_places, sharded_unfit, small_share, subchunks_refused}
use Rattle.zarrs_codec.proofs.WholeReads.{absent_decodes, alone_decodes, each_decodes, met_decode, none_decodes, ok_both, shared_decodes, unshared_decodes}
use Rattle.zarrs_codec.proofs.WholeShards.{alone_some}
use Rattle.zarrs_metadata_parts.specs.Lists.{sizes_of}
use Rattle.zarrs_codec_chain.proofs.Kept.{err_kept}
use Rattle.zarrs_codec_chain.proofs.OpenShards.{at_number, opened}
use Rattle.zarrs_codec_chain.proofs.ReadSteps.{none_unfound, skip_absent, skip_none}
use Rattle.zarrs_codec_chain.proofs.SubchunkSteps.{none_read}
use Rattle.zarrs_codec_chain.proofs.SubchunkWalks.{all_walked, among_last, among_next, walked_cells, walked_last, walked_more, walked_next}
use Rattle.zarrs_codec_chain.specs.OpenShards.{read_of}
use Rattle.zarrs_codec_chain.specs.Parts.{DecodesPart}
use Rattle.zarrs_codec_chain.specs.PartRefusals.{RefusesPartDecoding}
use Rattle.zarrs_codec_chain.specs.Refusals.{IsTooLargeToDecode}
use Rattle.zarrs_codec_chain.specs.ShardParts.{HasSubchunkParts, IsNoShard, MeetsPart, is_among}
use Rattle.zarrs_codec_chain.specs.ShardReads.{ShardRead, part_places, parts_of, shard_read}
use Rattle.zarrs_codec_chain.specs.Stored.{MayReadOf, bytes_of, refuses_of}
use Rattle.zarrs_codec_shard.specs.Subchunks.{quotients}
use Rattle.zarrs_subset.specs.Boxes.{position_count, unravel}
use Rattle.zarrs_subset.specs.Regions.{Box, LiesInShape, box_of, positions}
use Rattle.zarrs_subset.specs.Walks.{walk_box, walk_number}
use Rattle.zarrs_data_type_kinds.proofs.Sizes.{cell_size-positive}
use Rattle.zarrs_data_type.specs.Kind.{cell_size}
use Rattle.zarrs_codec.proofs.+partial_decode.Goals as goal

pub sharding::ShardingCodec::decode_piece-returns-in_default-clause-none : goal.sharding::ShardingCodec::decode_piece-returns-in_default-clause-none
sharding::ShardingCodec::decode_piece-returns-in_default-clause-none g t c =
    let k = kind_of c.args.cell_type.now in
    let f = filling c.args.cell_type.now in
    let r = read_of c.args.read.now in
    let is = opened c.args.read.now in
    let m : ChainMeaning = chain_meaning (inner_chain_of c.args.self.now) in
    let dec = m.decoded k f r.sub in
    λ held. skip_none r is k dec f c.args.indices.now held (none_unfound r is c.args.indices.now c.in_default.ensures.none)

pub sharding::ShardingCodec::decode_piece-returns-in_default-subchunk-clause-none : goal.sharding::ShardingCodec::decode_piece-returns-in_default-subchunk-clause-none
sharding::ShardingCodec::decode_piece-returns-in_default-subchunk-clause-none g t c =
    let k = kind_of c.args.cell_type.now in
    let f = filling c.args.cell_type.now in
    let r = read_of c.args.read.now in
    let is = opened c.args.read.now in
    let m : ChainMeaning = chain_meaning (inner_chain_of c.args.self.now) in
    let dec = m.decoded k f r.sub in
    let i = c.args.indices.now in
    let n = c.in-Some.number in
    let at = c.in-Some.ensures.number in
    λ held. skip_absent r is k dec f i held n at (c.in_default-subchunk.ensures.bytes)

pub sharding::ShardingCodec::decode_piece-returns-in_default-2-clause-none : goal.sharding::ShardingCodec::decode_piece-returns-in_default-2-clause-none
sharding::ShardingCodec::decode_piece-returns-in_default-2-clause-none g t c =
    let k = kind_of c.args.cell_type.now in
    let f = filling c.args.cell_type.now in
    let r = read_of c.args.read.now in
    let is = opened c.args.read.now in
    let m : ChainMeaning = chain_meaning (inner_chain_of c.args.self.now) in
    let dec = m.decoded k f r.sub in
    let i = c.args.indices.now in
    let at = c.in-Some.ensures.number in
    λ held. skip_none r is k dec f i held ((rw c.in_default-2.is at c.in_ok-share.ensures.none) i at)

pub sharding::ShardingCodec::decode_piece-returns-in_default-clause-whole : goal.sharding::ShardingCodec::decode_piece-returns-in_default-clause-whole
sharding::ShardingCodec::decode_piece-returns-in_default-clause-whole g t c = λ all.
    let r = read_of c.args.read.now in
    let is = opened c.args.read.now in
    none_decodes c.args.self.now c.args.cell_type.now r is c.args.indices.now c.in_default.ensures.none

pub sharding::ShardingCodec::decode_piece-returns-in_default-subchunk-clause-whole : goal.sharding::ShardingCodec::decode_piece-returns-in_default-subchunk-clause-whole
sharding::ShardingCodec::decode_piece-returns-in_default-subchunk-clause-whole g t c = λ all.
    let r = read_of c.args.read.now in
    let is = opened c.args.read.now in
    absent_decodes c.args.self.now c.args.cell_type.now r is c.args.indices.now c.in-Some.number c.in-Some.ensures.number c.in_default-subchunk.ensures.bytes

pub sharding::ShardingCodec::decode_piece-returns-in_default-2-clause-whole : goal.sharding::ShardingCodec::decode_piece-returns-in_default-2-clause-whole
sharding::ShardingCodec::decode_piece-returns-in_default-2-clause-whole g t c = λ all.
    let r = read_of c.args.read.now in
    let is = opened c.args.read.now in
    let i = c.args.indices.now in
    unshared_decodes c.args.self.now c.args.cell_type.now r is all i ((rw c.in_default-2.is at c.in_ok-share.ensures.none) i c.in-Some.ensures.number)

pub sharding::ShardingCodec::decode_piece-returns-clause-whole : goal.sharding::ShardingCodec::decode_piece-returns-clause-whole
sharding::ShardingCodec::decode_piece-returns-clause-whole g t c = λ all.
    let k = kind_of c.args.cell_type.now in
    let f = filling c.args.cell_type.now in
    let r = read_of c.args.read.now in
    let is = opened c.args.read.now in
    let m : ChainMeaning = chain_meaning (inner_chain_of c.args.self.now) in
    let i = c.args.indices.now in
    let n = c.in-Some.number in
    let at = c.in-Some.ensures.number in
    let share = (rw c.in-Some-2.is at c.in_ok-share.ensures.share) i at in
    let shared = box_of c.in-Some-2.share.shared in
    let own = box_of c.in-Some-2.share.own in
    let shape_is : c.subchunk_shape.result.now ≡ r.sub = c.subchunk_shape.ensures in
    let b = bytes_of c.in-Some-subchunk.stored in
    shared_decodes c.args.self.now c.args.cell_type.now r is all i n b shared own at share c.in-Some-subchunk.ensures.bytes
    (λ same. subst (λ (x : List ℕ). IsSome (m.decoded k f x b)) shape_is (c.in_ok-cells.ensures.whole (same ∙ sym shape_is)))

pub sharding::ShardingCodec::decode_piece-subchunk-requires : goal.sharding::ShardingCodec::decode_piece-subchunk-requires
sharding::ShardingCodec::decode_piece-subchunk-requires g t c =
    let at = c.in-Some.ensures.number in
    at.below

pub sharding::ShardingCodec::decode_piece-share-requires : goal.sharding::ShardingCodec::decode_piece-share-requires
sharding::ShardingCodec::decode_piece-share-requires g t c =
    let at = c.in-Some.ensures.number in
    at.below

pub sharding::ShardingCodec::decode_piece-returns-in_err-cells-clause-refused : goal.sharding::ShardingCodec::decode_piece-returns-in_err-cells-clause-refused
sharding::ShardingCodec::decode_piece-returns-in_err-cells-clause-refused g t c =
    let k = kind_of c.args.cell_type.now in
    let f = filling c.args.cell_type.now in
    let r = read_of c.args.read.now in
    let is = opened c.args.read.now in
    let m : ChainMeaning = chain_meaning (inner_chain_of c.args.self.now) in
    let i = c.args.indices.now in
    let n = c.in-Some.number in
    let at = c.in-Some.ensures.number in
    let share = (rw c.in-Some-2.is at c.in_ok-share.ensures.share) i at in
    let shared = box_of c.in-Some-2.share.shared in
    let own = box_of c.in-Some-2.share.own in
    let shape_is : c.subchunk_shape.result.now ≡ r.sub = c.subchunk_shape.ensures in
    let stored = c.in-Some-subchunk.stored in
    let e = c.in_err-cells.field-0.0 in
    err_kept c.from_residual-in_err-cells.result e (RefusesReads c.args.self.now c.args.cell_type.now r) c.from_residual-in_err-cells.ensures.1
    (own_refused c.args.self.now c.args.cell_type.now r is n at.below stored own e c.in-Some-subchunk.ensures.bytes c.in-Some-subchunk.ensures.refuses
    (large_share c.args.self.now c.args.cell_type.now r is i n shared own share)
    (subst (λ (x : List ℕ). RefusesPartDecoding (m.decoded k f x (bytes_of stored)) (IsTooLargeToDecode m k f x own (bytes_of stored)) (refuses_of stored) e) shape_is c.in_err-cells.ensures.refused))

pub sharding::ShardingCodec::decode_piece-returns-clause-piece : goal.sharding::ShardingCodec::decode_piece-returns-clause-piece
sharding::ShardingCodec::decode_piece-returns-clause-piece g t c =
    let k = kind_of c.args.cell_type.now in
    let f = filling c.args.cell_type.now in
    let r = read_of c.args.read.now in
    let is = opened c.args.read.now in
    let m : ChainMeaning = chain_meaning (inner_chain_of c.args.self.now) in
    let i = c.args.indices.now in
    let n = c.in-Some.number in
    let at = c.in-Some.ensures.number in
    let share = (rw c.in-Some-2.is at c.in_ok-share.ensures.share) i at in
    let shared = box_of c.in-Some-2.share.shared in
    let own = box_of c.in-Some-2.share.own in
    let shape_is : c.subchunk_shape.result.now ≡ r.sub = c.subchunk_shape.ensures in
    let stored = c.in-Some-subchunk.stored in
    let made = data_of c.in_ok-cells.cells in
    piece_of_share c.args.self.now c.args.cell_type.now r is i n (bytes_of stored) shared own made at share c.in-Some-2.share.shared.same_length c.in-Some-subchunk.ensures.bytes
    (subst (λ (x : List ℕ). DecodesPart k x own (m.decoded k f x (bytes_of stored)) made) shape_is c.in_ok-cells.ensures.cells)

pub sharding::ShardingCodec::decode_piece-partial_decode_inner-requires : goal.sharding::ShardingCodec::decode_piece-partial_decode_inner-requires
sharding::ShardingCodec::decode_piece-partial_decode_inner-requires g t c κs within =
    let k = kind_of c.args.cell_type.now in
    let r = read_of c.args.read.now in
    let is = opened c.args.read.now in
    let m : ChainMeaning = chain_meaning (inner_chain_of c.args.self.now) in
    let i = c.args.indices.now in
    let n = c.in-Some.number in
    let at = c.in-Some.ensures.number in
    let share = (rw c.in-Some-2.is at c.in_ok-share.ensures.share) i at in
    let shared = box_of c.in-Some-2.share.shared in
    let own = box_of c.in-Some-2.share.own in
    let shape_is : c.subchunk_shape.result.now ≡ r.sub = c.subchunk_shape.ensures in
    let small = small_share c.args.self.now c.args.cell_type.now r is i n shared own share c.in-Some-2.share.shared.same_length c.requires in
    let lies = subst (LiesInShape own) (sym shape_is) share.own_lies in
    let stored = c.in-Some-subchunk.stored in
    let shape = c.subchunk_shape.result.now in
    let may = read_places stored (m.places k shape own (bytes_of stored)) ((chain-lawful (inner_chain_of c.args.self.now)).places_inside k shape own (bytes_of stored)) (c.in-Some-subchunk.ensures.may_read share.meets) in
    (first_of (omega (arith, c.decreases), search rules), (search rules, (small, (lies, may))))

pub sharding::ShardingCodec::read_subchunk-decode_piece-requires : goal.sharding::ShardingCodec::read_subchunk-decode_piece-requires
sharding::ShardingCodec::read_subchunk-decode_piece-requires g t c κs within =
    (first_of (omega (arith, c.decreases), search rules), (search rules, c.requires.size))

pub sharding::ShardingCodec::read_subchunk-with_owned_part-requires-clause-dimensions : goal.sharding::ShardingCodec::read_subchunk-with_owned_part-requires-clause-dimensions
sharding::ShardingCodec::read_subchunk-with_owned_part-requires-clause-dimensions g t c =
    let has = rw c.in-Some.is at c.in_ok-piece.ensures.piece in
    has.dimensions

pub sharding::ShardingCodec::read_subchunk-with_owned_part-requires-clause-part : goal.sharding::ShardingCodec::read_subchunk-with_owned_part-requires-clause-part
sharding::ShardingCodec::read_subchunk-with_owned_part-requires-clause-part g t c =
    let k = kind_of c.args.cell_type.now in
    let f = filling c.args.cell_type.now in
    let r = read_of c.args.read.now in
    let is = opened c.args.read.now in
    let m : ChainMeaning = chain_meaning (inner_chain_of c.args.self.now) in
    let dec = m.decoded k f r.sub in
    let has = rw c.in-Some.is at c.in_ok-piece.ensures.piece in
    let piece = c.in-Some.piece in
    piece_cells k dec f r.shape r.sub r.part (parts_of r) c.args.indices.now (box_of piece.shared) (data_of piece.cells) has

pub sharding::ShardingCodec::read_subchunk-returns-clause-read : goal.sharding::ShardingCodec::read_subchunk-returns-clause-read
sharding::ShardingCodec::read_subchunk-returns-clause-read g t c =
    let k = kind_of c.args.cell_type.now in
    let f = filling c.args.cell_type.now in
    let r = read_of c.args.read.now in
    let is = opened c.args.read.now in
    let m : ChainMeaning = chain_meaning (inner_chain_of c.args.self.now) in
    let dec = m.decoded k f r.sub in
    let has = rw c.in-Some.is at c.in_ok-piece.ensures.piece in
    let piece = c.in-Some.piece in
    piece_put k dec f r.shape r.sub r.part (parts_of r) c.args.indices.now (box_of piece.shared) (data_of piece.cells) has _ _ c.in_ok-with_owned_part.ensures

pub sharding::ShardingCodec::read_subchunk-returns-in_default-clause-read : goal.sharding::ShardingCodec::read_subchunk-returns-in_default-clause-read
sharding::ShardingCodec::read_subchunk-returns-in_default-clause-read g t c =
    (rw c.in_default.is at c.in_ok-piece.ensures.none) (region_data c.args.held)

pub sharding::ShardingCodec::read_subchunk-returns-clause-whole : goal.sharding::ShardingCodec::read_subchunk-returns-clause-whole
sharding::ShardingCodec::read_subchunk-returns-clause-whole g t c = λ all. c.in_ok-piece.ensures.whole all

pub sharding::ShardingCodec::read_subchunk-returns-in_default-clause-whole : goal.sharding::ShardingCodec::read_subchunk-returns-in_default-clause-whole
sharding::ShardingCodec::read_subchunk-returns-in_default-clause-whole g t c = λ all. c.in_ok-piece.ensures.whole all

pub sharding::ShardingCodec::read_subchunks-returns-in_default-2-clause-whole : goal.sharding::ShardingCodec::read_subchunks-returns-in_default-2-clause-whole
sharding::ShardingCodec::read_subchunks-returns-in_default-2-clause-whole g t c = λ all.
    let r = read_of c.args.read.now in
    let is = opened c.args.read.now in
    let nothing = rw c.in_default-2.is at c.in_ok-walk.ensures.none in
    met_decode c.args.self.now c.args.cell_type.now r is all (box_of c.args.met.now) c.args.met.now.same_length c.requires.met
    (λ i among. absurd (false≢true (sym (ap (λ (l : List (List ℕ)). is_among l i) nothing) ∙ among)))

pub sharding::ShardingCodec::read_subchunks-returns-in_default-2-clause-all : goal.sharding::ShardingCodec::read_subchunks-returns-in_default-2-clause-all
sharding::ShardingCodec::read_subchunks-returns-in_default-2-clause-all g t c =
    let k = kind_of c.args.cell_type.now in
    let f = filling c.args.cell_type.now in
    let r = read_of c.args.read.now in
    let is = opened c.args.read.now in
    let m : ChainMeaning = chain_meaning (inner_chain_of c.args.self.now) in
    let dec = m.decoded k f r.sub in
    let count : c.in-Ok.count ≡ position_count r.part.shape = c.in-Ok.ensures.ok in
    let fill : cells k (region_data c.in_ok-held.held) ≡ Some (replicate (position_count r.part.shape) f) = c.in_ok-held.ensures ∙ ap (λ n. Some (replicate n f)) count in
    let none = none_read k dec f r.shape r.sub r.part (parts_of r) (region_data c.in_ok-held.held) is.long fill in
    let nothing = rw c.in_default-2.is at c.in_ok-walk.ensures.none in
    subst (HasParts c.args.self.now c.args.cell_type.now r) (sym c.in_ok-into_array_bytes.ensures)
    (all_walked k dec f r.shape r.sub r.part (box_of c.args.met.now) (parts_of r) (region_data c.in_ok-held.held) c.args.met.now.same_length c.requires.met
    (subst (λ (done : List (List ℕ)). HasSubchunkParts k dec f r.shape r.sub r.part (parts_of r) done (region_data c.in_ok-held.held)) (sym nothing) none))

pub sharding::ShardingCodec::read_subchunks-loop-walk-init : goal.sharding::ShardingCodec::read_subchunks-loop-walk-init
sharding::ShardingCodec::read_subchunks-loop-walk-init g t c =
    let k = kind_of c.args.cell_type.now in
    let f = filling c.args.cell_type.now in
    let r = read_of c.args.read.now in
    let is = opened c.args.read.now in
    let m : ChainMeaning = chain_meaning (inner_chain_of c.args.self.now) in
    let dec = m.decoded k f r.sub in
    let count : c.in-Ok.count ≡ position_count r.part.shape = c.in-Ok.ensures.ok in
    let fill : cells k (region_data c.in_ok-held.held) ≡ Some (replicate (position_count r.part.shape) f) = c.in_ok-held.ensures ∙ ap (λ n. Some (replicate n f)) count in
    let none = none_read k dec f r.shape r.sub r.part (parts_of r) (region_data c.in_ok-held.held) is.long fill in
    let walk = c.in-Some.walk in
    let same = rw c.in-Some.is at c.in_ok-walk.ensures.none in
    let first = rw c.in-Some.is at c.in_ok-walk.ensures.first in
    record {
      meets = subst (λ (b : Box). MeetsPart r.sub r.part b) (sym same) c.requires.met;
      read =
          subst (λ (n : ℕ). HasSubchunkParts k dec f r.shape r.sub r.part (parts_of r) (take n (positions (walk_box walk))) (region_data c.in_ok-held.held)) (sym first) none;
      decodes = λ all.
          subst (λ (n : ℕ). (i : List ℕ) → is_among (take n (positions (walk_box walk))) i ≡ true → DecodesOne c.args.self.now c.args.cell_type.now r i) (sym first) (λ i among. absurd (false≢true among));
    }

pub sharding::ShardingCodec::read_subchunks-loop-walk-smaller : goal.sharding::ShardingCodec::read_subchunks-loop-walk-smaller
sharding::ShardingCodec::read_subchunks-loop-walk-smaller g t c =
    let walk = c.loop-walk.walk in
    let chunks = positions (walk_box walk) in
    let i = c.loop-walk.invariant in
    let n = walk_number walk in
    let index = c.current.result.now in
    let at : slice_get chunks n ≡ Some index = c.current.ensures in
    let here = slice_get_within chunks n index at in
    let next = c.if-not-advance.ensures.next in
    omega (arith, ap (λ (b : Box). length (positions b)) c.if-not-advance.ensures.same_box)

pub sharding::ShardingCodec::read_subchunks-returns-then-not-advance-clause-all : goal.sharding::ShardingCodec::read_subchunks-returns-then-not-advance-clause-all
sharding::ShardingCodec::read_subchunks-returns-then-not-advance-clause-all g t c =
    let k = kind_of c.args.cell_type.now in
    let f = filling c.args.cell_type.now in
    let r = read_of c.args.read.now in
    let m : ChainMeaning = chain_meaning (inner_chain_of c.args.self.now) in
    let dec = m.decoded k f r.sub in
    let walk = c.loop-walk.walk in
    let chunks = positions (walk_box walk) in
    let i = c.loop-walk.invariant in
    let n = walk_number walk in
    let index = c.current.result.now in
    let at : slice_get chunks n ≡ Some index = c.current.ensures in
    subst (HasParts c.args.self.now c.args.cell_type.now r) (sym c.in_ok-into_array_bytes-2.ensures)
    (all_walked k dec f r.shape r.sub r.part (walk_box walk) (parts_of r) _ walk.subset.now.same_length i.meets
    (walked_last k dec f r.shape r.sub r.part (parts_of r) chunks (n + 1) _ c.if-not-advance.ensures.last
    (walked_more k dec f r.shape r.sub r.part (parts_of r) chunks n index _ _ at i.read c.in_ok-made.ensures.read)))

pub sharding::ShardingCodec::read_subchunks-returns-then-not-advance-clause-whole : goal.sharding::ShardingCodec::read_subchunks-returns-then-not-advance-clause-whole
sharding::ShardingCodec::read_subchunks-returns-then-not-advance-clause-whole g t c = λ all.
    let r = read_of c.args.read.now in
    let is = opened c.args.read.now in
    let walk = c.loop-walk.walk in
    let chunks = positions (walk_box walk) in
    let i = c.loop-walk.invariant in
    let n = walk_number walk in
    let index = c.current.result.now in
    let at : slice_get chunks n ≡ Some index = c.current.ensures in
    met_decode c.args.self.now c.args.cell_type.now r is all (walk_box walk) walk.subset.now.same_length i.meets
    (among_last (DecodesOne c.args.self.now c.args.cell_type.now r) chunks (n + 1) c.if-not-advance.ensures.last
    (among_next (DecodesOne c.args.self.now c.args.cell_type.now r) chunks n (n + 1) index refl at (i.decodes all) (c.in_ok-made.ensures.whole all)))

pub sharding::ShardingCodec::read_subchunks-loop-walk-preserved : goal.sharding::ShardingCodec::read_subchunks-loop-walk-preserved
sharding::ShardingCodec::read_subchunks-loop-walk-preserved g t c =
    let k = kind_of c.args.cell_type.now in
    let f = filling c.args.cell_type.now in
    let r = read_of c.args.read.now in
    let m : ChainMeaning = chain_meaning (inner_chain_of c.args.self.now) in
    let dec = m.decoded k f r.sub in
    let walk = c.loop-walk.walk in
    let chunks = positions (walk_box walk) in
    let i = c.loop-walk.invariant in
    let n = walk_number walk in
    let index = c.current.result.now in
    let at : slice_get chunks n ≡ Some index = c.current.ensures in
    let same = c.if-not-advance.ensures.same_box in
    record {
      meets = subst (λ (b : Box). MeetsPart r.sub r.part b) (sym same) i.meets;
      read =
          subst (λ (b : Box). HasSubchunkParts k dec f r.shape r.sub r.part (parts_of r) (take (walk_number c.advance.new.self) (positions b)) (region_data c.in_ok-made.made)) (sym same)
          (walked_next k dec f r.shape r.sub r.part (parts_of r) chunks n _ index _ _ c.if-not-advance.ensures.next at i.read c.in_ok-made.ensures.read);
      decodes = λ all.
          subst (λ (b : Box). (j : List ℕ) → is_among (take (walk_number c.advance.new.self) (positions b)) j ≡ true → DecodesOne c.args.self.now c.args.cell_type.now r j) (sym same)
          (among_next (DecodesOne c.args.self.now c.args.cell_type.now r) chunks n (walk_number c.advance.new.self) index c.if-not-advance.ensures.next at (i.decodes all) (c.in_ok-made.ensures.whole all));
    }

pub sharding::ShardingCodec::read_subchunks-read_subchunk-requires : goal.sharding::ShardingCodec::read_subchunks-read_subchunk-requires
sharding::ShardingCodec::read_subchunks-read_subchunk-requires g t c κs within =
    let k = kind_of c.args.cell_type.now in
    let f = filling c.args.cell_type.now in
    let r = read_of c.args.read.now in
    let m : ChainMeaning = chain_meaning (inner_chain_of c.args.self.now) in
    let dec = m.decoded k f r.sub in
    let held = walked_cells k dec f r.shape r.sub r.part (parts_of r) _ (region_data c.loop-walk.made) c.loop-walk.invariant.read in
    (first_of (omega (arith, c.decreases), search rules), (search rules, (c.requires.size, held)))

pub sharding::ShardingCodec::read_subchunks-new_fill_value-requires-clause-size : goal.sharding::ShardingCodec::read_subchunks-new_fill_value-requires-clause-size
sharding::ShardingCodec::read_subchunks-new_fill_value-requires-clause-size g t c =
    let size = cell_size (kind_of c.args.cell_type.now) in
    let count : c.in-Ok.count ≡ position_count (read_of c.args.read.now).part.shape = c.in-Ok.ensures.ok in
    omega (arith, ap (λ n. n * size) count, c.requires.size)

pub sharding::ShardingCodec::read_subchunks-unreachable-requires : goal.sharding::ShardingCodec::read_subchunks-unreachable-requires
sharding::ShardingCodec::read_subchunks-unreachable-requires g t c =
    let shape = (read_of c.args.read.now).part.shape in
    let one : 1 ≤ cell_size (kind_of c.args.cell_type.now) = cell_size-positive c.args.cell_type.now.data_type in
    omega (arith, mul-le-mul_left (position_count shape) one, c.requires.size, c.in_default.ensures.refused)

pub sharding::ShardingCodec::decode_sole-subchunk-requires : goal.sharding::ShardingCodec::decode_sole-subchunk-requires
sharding::ShardingCodec::decode_sole-subchunk-requires g t c = c.requires.sole.below

pub sharding::ShardingCodec::decode_sole-partial_decode_inner-requires : goal.sharding::ShardingCodec::decode_sole-partial_decode_inner-requires
sharding::ShardingCodec::decode_sole-partial_decode_inner-requires g t c κs within =
    let k = kind_of c.args.cell_type.now in
    let r = read_of c.args.read.now in
    let is = opened c.args.read.now in
    let m : ChainMeaning = chain_meaning (inner_chain_of c.args.self.now) in
    let n = c.args.sole.now.number in
    let i = unravel (quotients r.shape r.sub) n in
    let share = c.requires.sole.share i (at_number r n c.requires.sole.below) in
    let own = box_of c.args.sole.now.own in
    let shape_is : c.subchunk_shape.result.now ≡ r.sub = c.subchunk_shape.ensures in
    let small = small_share c.args.self.now c.args.cell_type.now r is i n r.part own share is.long c.requires.size in
    let lies = subst (LiesInShape own) (sym shape_is) share.own_lies in
    let stored = c.in-Some.stored in
    let shape = c.subchunk_shape.result.now in
    let may = read_places stored (m.places k shape own (bytes_of stored)) ((chain-lawful (inner_chain_of c.args.self.now)).places_inside k shape own (bytes_of stored)) (c.in-Some.ensures.may_read share.meets) in
    (first_of (omega (arith, c.decreases), search rules), (search rules, (small, (lies, may))))

pub sharding::ShardingCodec::decode_sole-returns-in_err-cells-clause-refused : goal.sharding::ShardingCodec::decode_sole-returns-in_err-cells-clause-refused
sharding::ShardingCodec::decode_sole-returns-in_err-cells-clause-refused g t c =
    let k = kind_of c.args.cell_type.now in
    let f = filling c.args.cell_type.now in
    let r = read_of c.args.read.now in
    let is = opened c.args.read.now in
    let m : ChainMeaning = chain_meaning (inner_chain_of c.args.self.now) in
    let n = c.args.sole.now.number in
    let i = unravel (quotients r.shape r.sub) n in
    let share = c.requires.sole.share i (at_number r n c.requires.sole.below) in
    let own = box_of c.args.sole.now.own in
    let shape_is : c.subchunk_shape.result.now ≡ r.sub = c.subchunk_shape.ensures in
    let stored = c.in-Some.stored in
    let e = c.in_err-cells.field-0.0 in
    err_kept c.from_residual.result e (RefusesReads c.args.self.now c.args.cell_type.now r) c.from_residual.ensures.1
    (own_refused c.args.self.now c.args.cell_type.now r is n c.requires.sole.below stored own e c.in-Some.ensures.bytes c.in-Some.ensures.refuses
    (large_share c.args.self.now c.args.cell_type.now r is i n r.part own share)
    (subst (λ (x : List ℕ). RefusesPartDecoding (m.decoded k f x (bytes_of stored)) (IsTooLargeToDecode m k f x own (bytes_of stored)) (refuses_of stored) e) shape_is c.in_err-cells.ensures.refused))

pub sharding::ShardingCodec::decode_sole-returns-clause-all : goal.sharding::ShardingCodec::decode_sole-returns-clause-all
sharding::ShardingCodec::decode_sole-returns-clause-all g t c =
    let k = kind_of c.args.cell_type.now in
    let f = filling c.args.cell_type.now in
    let r = read_of c.args.read.now in
    let is = opened c.args.read.now in
    let m : ChainMeaning = chain_meaning (inner_chain_of c.args.self.now) in
    let n = c.args.sole.now.number in
    let i = unravel (quotients r.shape r.sub) n in
    let at = at_number r n c.requires.sole.below in
    let share = c.requires.sole.share i at in
    let own = box_of c.args.sole.now.own in
    let shape_is : c.subchunk_shape.result.now ≡ r.sub = c.subchunk_shape.ensures in
    let stored = c.in-Some.stored in
    let made = data_of c.in_ok-cells.cells in
    let has = piece_of_share c.args.self.now c.args.cell_type.now r is i n (bytes_of stored) r.part own made at share is.long c.in-Some.ensures.bytes
    (subst (λ (x : List ℕ). DecodesPart k x own (m.decoded k f x (bytes_of stored)) made) shape_is c.in_ok-cells.ensures.cells) in
    piece_alone k (m.decoded k f r.sub) f r.shape r.sub r.part (parts_of r) i r.part made has refl

pub sharding::ShardingCodec::decode_sole-returns-clause-whole : goal.sharding::ShardingCodec::decode_sole-returns-clause-whole
sharding::ShardingCodec::decode_sole-returns-clause-whole g t c = λ all.
    let k = kind_of c.args.cell_type.now in
    let f = filling c.args.cell_type.now in
    let r = read_of c.args.read.now in
    let is = opened c.args.read.now in
    let m : ChainMeaning = chain_meaning (inner_chain_of c.args.self.now) in
    let n = c.args.sole.now.number in
    let i = unravel (quotients r.shape r.sub) n in
    let at = at_number r n c.requires.sole.below in
    let share = c.requires.sole.share i at in
    let own = box_of c.args.sole.now.own in
    let shape_is : c.subchunk_shape.result.now ≡ r.sub = c.subchunk_shape.ensures in
    let stored = c.in-Some.stored in
    let b = bytes_of stored in
    let made = data_of c.in_ok-cells.cells in
    let has = piece_of_share c.args.self.now c.args.cell_type.now r is i n b r.part own made at share is.long c.in-Some.ensures.bytes
    (subst (λ (x : List ℕ). DecodesPart k x own (m.decoded k f x b) made) shape_is c.in_ok-cells.ensures.cells) in
    let one = shared_decodes c.args.self.now c.args.cell_type.now r is all i n b r.part own at share c.in-Some.ensures.bytes
    (λ same. subst (λ (x : List ℕ). IsSome (m.decoded k f x b)) shape_is (c.in_ok-cells.ensures.whole (same ∙ sym shape_is))) in
    alone_decodes c.args.self.now c.args.cell_type.now r is all i r.part made has refl one

pub sharding::ShardingCodec::read_part-decode_sole-requires : goal.sharding::ShardingCodec::read_part-decode_sole-requires
sharding::ShardingCodec::read_part-decode_sole-requires g t c κs within =
    (first_of (omega (arith, c.decreases), search rules), (search rules, (c.requires, rw c.in-Some.is at c.in_ok-sole.ensures)))

pub sharding::ShardingCodec::read_all-read_part-requires : goal.sharding::ShardingCodec::read_all-read_part-requires
sharding::ShardingCodec::read_all-read_part-requires g t c κs within =
    (first_of (omega (arith, c.decreases), search rules), (search rules, c.requires.size))

pub sharding::ShardingCodec::read_all-returns-then-not-branch-clause-refused : goal.sharding::ShardingCodec::read_all-returns-then-not-branch-clause-refused
sharding::ShardingCodec::read_all-returns-then-not-branch-clause-refused g t c =
    let k = kind_of c.args.cell_type.now in
    let r = read_of c.args.read.now in
    let is = opened c.args.read.now in
    let m : ChainMeaning = chain_meaning (inner_chain_of c.args.self.now) in
    let shape_is : c.subchunk_shape-shape.result.now ≡ r.sub = c.subchunk_shape-shape.ensures in
    let unfit : m.fits k r.sub ≡ false = ap (m.fits k) (sym shape_is) ∙ sym c.in_ok-fits_chunk.ensures ∙ c.if-not-branch.true in
    sharded_unfit c.args.self.now c.args.cell_type.now r is unfit

pub sharding::ShardingCodec::read_all-returns-clause-decodes : goal.sharding::ShardingCodec::read_all-returns-clause-decodes
sharding::ShardingCodec::read_all-returns-clause-decodes g t c =
    let k = kind_of c.args.cell_type.now in
    let r = read_of c.args.read.now in
    let is = opened c.args.read.now in
    let m : ChainMeaning = chain_meaning (inner_chain_of c.args.self.now) in
    let shape_is : c.subchunk_shape-shape.result.now ≡ r.sub = c.subchunk_shape-shape.ensures in
    let fit : m.fits k r.sub ≡ true = ap (m.fits k) (sym shape_is) ∙ sym c.in_ok-fits_chunk.ensures ∙ c.if-not-branch.false in
    IfOk-weaker c.read_part.result _ _ (λ made each. each_decodes c.args.self.now c.args.cell_type.now r is fit each) (c.read_part.ensures.whole c.requires.whole)

pub sharding::ShardingCodec::read_all-returns-clause-refused : goal.sharding::ShardingCodec::read_all-returns-clause-refused
sharding::ShardingCodec::read_all-returns-clause-refused g t c =
    let r = read_of c.args.read.now in
    IfErr-weaker c.read_part.result _ _ (λ e why. subchunks_refused c.args.self.now c.args.cell_type.now r (opened c.args.read.now) e why) c.read_part.ensures.refused

pub sharding::ShardingCodec::partial_decode_shard-open-requires-clause-may_read : goal.sharding::ShardingCodec::partial_decode_shard-open-requires-clause-may_read
sharding::ShardingCodec::partial_decode_shard-open-requires-clause-may_read g t c =
    let x = c.args.self.now in
    let stored = c.args.stored.now in
    let chunk = c.args.chunk.now in
    let at_is : c.is_at_start-at_start.result ≡ is_at_start (location_of x) = c.is_at_start-at_start.ensures ∙ ap is_at_start c.index_location.ensures in
    let sub_is : c.deref.result.now ≡ sizes_of (subchunk_sizes_of x) = c.deref.ensures ∙ c.in_ok-sub.ensures in
    let r_of = λ (at : Bool) (sub : List ℕ). shard_read at (shape_of chunk) sub (box_of c.args.part.now) (bytes_of stored) (refuses_of stored) in
    subst (λ (l : List ℕ). MayReadOf stored (part_places (r_of c.is_at_start-at_start.result l))) (sym sub_is)
    (subst (λ (at : Bool). MayReadOf stored (part_places (r_of at (sizes_of (subchunk_sizes_of x))))) (sym at_is) c.requires.may_read)

pub sharding::ShardingCodec::partial_decode_shard-read_part-requires : goal.sharding::ShardingCodec::partial_decode_shard-read_part-requires
sharding::ShardingCodec::partial_decode_shard-read_part-requires g t c κs within =
    let x = c.args.self.now in
    let stored = c.args.stored.now in
    let chunk = c.args.chunk.now in
    let at_is : c.is_at_start-at_start.result ≡ is_at_start (location_of x) = c.is_at_start-at_start.ensures ∙ ap is_at_start c.index_location.ensures in
    let sub_is : c.deref.result.now ≡ sizes_of (subchunk_sizes_of x) = c.deref.ensures ∙ c.in_ok-sub.ensures in
    let r_of = λ (at : Bool) (sub : List ℕ). shard_read at (shape_of chunk) sub (box_of c.args.part.now) (bytes_of stored) (refuses_of stored) in
    let read = c.in-Some.read in
    let read_is : read_of read ≡ r_of (is_at_start (location_of x)) (sizes_of (subchunk_sizes_of x)) =
    (rw c.in-Some.is at c.in_ok-read.ensures.opened) ∙ ap (λ (at : Bool). r_of at c.deref.result.now) at_is ∙ ap (r_of (is_at_start (location_of x))) sub_is in
    let small = subst (λ (r : ShardRead). position_count r.part.shape * cell_size (chunk_kind chunk) < 2 ^ 64) (sym read_is) c.requires.size in
    (first_of (omega (arith, c.decreases), search rules), (search rules, small))

pub sharding::ShardingCodec::partial_decode_shard-returns-clause-cells : goal.sharding::ShardingCodec::partial_decode_shard-returns-clause-cells
sharding::ShardingCodec::partial_decode_shard-returns-clause-cells g t c =
    let x = c.args.self.now in
    let stored = c.args.stored.now in
    let chunk = c.args.chunk.now in
    let at_is : c.is_at_start-at_start.result ≡ is_at_start (location_of x) = c.is_at_start-at_start.ensures ∙ ap is_at_start c.index_location.ensures in
    let sub_is : c.deref.result.now ≡ sizes_of (subchunk_sizes_of x) = c.deref.ensures ∙ c.in_ok-sub.ensures in
    let r_of = λ (at : Bool) (sub : List ℕ). shard_read at (shape_of chunk) sub (box_of c.args.part.now) (bytes_of stored) (refuses_of stored) in
    let read = c.in-Some.read in
    let read_is : read_of read ≡ r_of (is_at_start (location_of x)) (sizes_of (subchunk_sizes_of x)) =
    (rw c.in-Some.is at c.in_ok-read.ensures.opened) ∙ ap (λ (at : Bool). r_of at c.deref.result.now) at_is ∙ ap (r_of (is_at_start (location_of x))) sub_is in
    IfOk-weaker c.read_part.result _ _
    (λ made has. subst (λ (r : ShardRead). DecodesPart (chunk_kind chunk) r.shape r.part (shard_decoded x chunk.cell_type.now r) (data_of made)) read_is (parts_decode x chunk.cell_type.now (read_of read) (opened read) (data_of made) has))
    c.read_part.ensures.all

pub sharding::ShardingCodec::partial_decode_shard-returns-clause-refused : goal.sharding::ShardingCodec::partial_decode_shard-returns-clause-refused
sharding::ShardingCodec::partial_decode_shard-returns-clause-refused g t c =
    let x = c.args.self.now in
    let stored = c.args.stored.now in
    let chunk = c.args.chunk.now in
    let at_is : c.is_at_start-at_start.result ≡ is_at_start (location_of x) = c.is_at_start-at_start.ensures ∙ ap is_at_start c.index_location.ensures in
    let sub_is : c.deref.result.now ≡ sizes_of (subchunk_sizes_of x) = c.deref.ensures ∙ c.in_ok-sub.ensures in
    let r_of = λ (at : Bool) (sub : List ℕ). shard_read at (shape_of chunk) sub (box_of c.args.part.now) (bytes_of stored) (refuses_of stored) in
    let read = c.in-Some.read in
    let read_is : read_of read ≡ r_of (is_at_start (location_of x)) (sizes_of (subchunk_sizes_of x)) =
    (rw c.in-Some.is at c.in_ok-read.ensures.opened) ∙ ap (λ (at : Bool). r_of at c.deref.result.now) at_is ∙ ap (r_of (is_at_start (location_of x))) sub_is in
    IfErr-weaker c.read_part.result _ _
    (λ e why. subst (λ (r : ShardRead). RefusesShard x chunk.cell_type.now r e) read_is (subchunks_refused x chunk.cell_type.now (read_of read) (opened read) e why))
    c.read_part.ensures.refused

pub sharding::ShardingCodec::partial_decode_shard-read_all-requires : goal.sharding::ShardingCodec::partial_decode_shard-read_all-requires
sharding::ShardingCodec::partial_decode_shard-read_all-requires g t c κs within =
    let x = c.args.self.now in
    let stored = c.args.stored.now in
    let chunk = c.args.chunk.now in
    let at_is : c.is_at_start-at_start.result ≡ is_at_start (location_of x) = c.is_at_start-at_start.ensures ∙ ap is_at_start c.index_location.ensures in
    let sub_is : c.deref.result.now ≡ sizes_of (subchunk_sizes_of x) = c.deref.ensures ∙ c.in_ok-sub.ensures in
    let r_of = λ (at : Bool) (sub : List ℕ). shard_read at (shape_of chunk) sub (box_of c.args.part.now) (bytes_of stored) (refuses_of stored) in
    let read = c.in-Some.read in
    let read_is : read_of read ≡ r_of (is_at_start (location_of x)) (sizes_of (subchunk_sizes_of x)) =
    (rw c.in-Some.is at c.in_ok-read.ensures.opened) ∙ ap (λ (at : Bool). r_of at c.deref.result.now) at_is ∙ ap (r_of (is_at_start (location_of x))) sub_is in
    let part_whole : (box_of c.args.part.now).shape ≡ shape_of chunk = search rules in
    let whole = subst (λ (r : ShardRead). r.part.shape ≡ r.shape) (sym read_is) part_whole in
    let small = subst (λ (r : ShardRead). position_count r.part.shape * cell_size (chunk_kind chunk) < 2 ^ 64) (sym read_is) c.requires.size in
    (first_of (omega (arith, c.decreases), search rules), (search rules, (small, whole)))

pub sharding::ShardingCodec::partial_decode_shard-returns-then-eq-clause-cells : goal.sharding::ShardingCodec::partial_decode_shard-returns-then-eq-clause-cells
sharding::ShardingCodec::partial_decode_shard-returns-then-eq-clause-cells g t c =
    let x = c.args.self.now in
    let stored = c.args.stored.now in
    let chunk = c.args.chunk.now in
    let at_is : c.is_at_start-at_start.result ≡ is_at_start (location_of x) = c.is_at_start-at_start.ensures ∙ ap is_at_start c.index_location.ensures in
    let sub_is : c.deref.result.now ≡ sizes_of (subchunk_sizes_of x) = c.deref.ensures ∙ c.in_ok-sub.ensures in
    let r_of = λ (at : Bool) (sub : List ℕ). shard_read at (shape_of chunk) sub (box_of c.args.part.now) (bytes_of stored) (refuses_of stored) in
    let read = c.in-Some.read in
    let read_is : read_of read ≡ r_of (is_at_start (location_of x)) (sizes_of (subchunk_sizes_of x)) =
    (rw c.in-Some.is at c.in_ok-read.ensures.opened) ∙ ap (λ (at : Bool). r_of at c.deref.result.now) at_is ∙ ap (r_of (is_at_start (location_of x))) sub_is in
    IfOk-weaker c.read_all.result _ _
    (λ made has. subst (λ (r : ShardRead). DecodesPart (chunk_kind chunk) r.shape r.part (shard_decoded x chunk.cell_type.now r) (data_of made)) read_is (parts_decode x chunk.cell_type.now (read_of read) (opened read) (data_of made) has))
    c.read_all.ensures.all

pub sharding::ShardingCodec::partial_decode_shard-returns-then-eq-clause-whole : goal.sharding::ShardingCodec::partial_decode_shard-returns-then-eq-clause-whole
sharding::ShardingCodec::partial_decode_shard-returns-then-eq-clause-whole g t c =
    let x = c.args.self.now in
    let stored = c.args.stored.now in
    let chunk = c.args.chunk.now in
    let at_is : c.is_at_start-at_start.result ≡ is_at_start (location_of x) = c.is_at_start-at_start.ensures ∙ ap is_at_start c.index_location.ensures in
    let sub_is : c.deref.result.now ≡ sizes_of (subchunk_sizes_of x) = c.deref.ensures ∙ c.in_ok-sub.ensures in
    let r_of = λ (at : Bool) (sub : List ℕ). shard_read at (shape_of chunk) sub (box_of c.args.part.now) (bytes_of stored) (refuses_of stored) in
    let read = c.in-Some.read in
    let read_is : read_of read ≡ r_of (is_at_start (location_of x)) (sizes_of (subchunk_sizes_of x)) =
    (rw c.in-Some.is at c.in_ok-read.ensures.opened) ∙ ap (λ (at : Bool). r_of at c.deref.result.now) at_is ∙ ap (r_of (is_at_start (location_of x))) sub_is in
    λ all. IfOk-weaker c.read_all.result _ _
    (λ made some. subst (λ (r : ShardRead). IsSome (shard_decoded x chunk.cell_type.now r)) read_is some)
    c.read_all.ensures.decodes

pub sharding::ShardingCodec::partial_decode_shard-returns-then-eq-clause-refused : goal.sharding::ShardingCodec::partial_decode_shard-returns-then-eq-clause-refused
sharding::ShardingCodec::partial_decode_shard-returns-then-eq-clause-refused g t c =
    let x = c.args.self.now in
    let stored = c.args.stored.now in
    let chunk = c.args.chunk.now in
    let at_is : c.is_at_start-at_start.result ≡ is_at_start (location_of x) = c.is_at_start-at_start.ensures ∙ ap is_at_start c.index_location.ensures in
    let sub_is : c.deref.result.now ≡ sizes_of (subchunk_sizes_of x) = c.deref.ensures ∙ c.in_ok-sub.ensures in
    let r_of = λ (at : Bool) (sub : List ℕ). shard_read at (shape_of chunk) sub (box_of c.args.part.now) (bytes_of stored) (refuses_of stored) in
    let read = c.in-Some.read in
    let read_is : read_of read ≡ r_of (is_at_start (location_of x)) (sizes_of (subchunk_sizes_of x)) =
    (rw c.in-Some.is at c.in_ok-read.ensures.opened) ∙ ap (λ (at : Bool). r_of at c.deref.result.now) at_is ∙ ap (r_of (is_at_start (location_of x))) sub_is in
    IfErr-weaker c.read_all.result _ _ (λ e why. subst (λ (r : ShardRead). RefusesShard x chunk.cell_type.now r e) read_is why) c.read_all.ensures.refused

pub sharding::ShardingCodec::partial_decode_shard-returns-in_default-clause-refused : goal.sharding::ShardingCodec::partial_decode_shard-returns-in_default-clause-refused
sharding::ShardingCodec::partial_decode_shard-returns-in_default-clause-refused g t c =
    let x = c.args.self.now in
    let stored = c.args.stored.now in
    let chunk = c.args.chunk.now in
    let at_is : c.is_at_start-at_start.result ≡ is_at_start (location_of x) = c.is_at_start-at_start.ensures ∙ ap is_at_start c.index_location.ensures in
    let sub_is : c.deref.result.now ≡ sizes_of (subchunk_sizes_of x) = c.deref.ensures ∙ c.in_ok-sub.ensures in
    let none = rw c.in_default.is at c.in_ok-read.ensures.none in
    let at = is_at_start (location_of x) in
    let m : ChainMeaning = chain_meaning (inner_chain_of x) in
    let k = chunk_kind chunk in
    let f = chunk_fill chunk in
    let sub = sizes_of (subchunk_sizes_of x) in
    (subst (λ (l : List ℕ). IsNoShard at (shape_of chunk) l (bytes_of stored)) sub_is (subst (λ (a : Bool). IsNoShard a (shape_of chunk) c.deref.result.now (bytes_of stored)) at_is none)) (subchunk_meaning m false k f sub) k f

pub sharding::ShardingCodec::read_part-read_subchunks-requires : goal.sharding::ShardingCodec::read_part-read_subchunks-requires
sharding::ShardingCodec::read_part-read_subchunks-requires g t c κs within =
    (first_of (omega (arith, c.decreases), search rules), (search rules, (c.requires, c.in_ok-met.ensures.met)))

pub chain::CodecChain::partial_decode_chunk-returns-in-Bytes-clause-whole : goal.chain::CodecChain::partial_decode_chunk-returns-in-Bytes-clause-whole
chain::CodecChain::partial_decode_chunk-returns-in-Bytes-clause-whole g t c = λ all.
    let k = chunk_kind c.args.chunk.now in
    let f = chunk_fill c.args.chunk.now in
    let s = c.args.chunk.now.shape.now in
    let b = bytes_of c.args.stored.now in
    let before = c.args.self.now.array_to_array in
    let last = c.args.self.now.array_to_bytes in
    let none = eqb-true (vec_len before) 0 (sym c.if-not-is_empty.ensures) in
    let alone = is_none before.items (omega (arith, none, before.ok.0)) in
    ok_both c.partial_decode_bytes.result _ _ _
    (λ made part same.
    let some = subst IsSome same (subst IsSome (sym part.are_cells) refl) in
    alone_some before.items (codec_meaning last) k f s b alone (subst (λ x. IsSome ((codec_meaning x).decoded k f s b)) (sym c.in-Bytes.is) some))
    c.partial_decode_bytes.ensures.part (c.partial_decode_bytes.ensures.whole all)

pub chain::CodecChain::partial_decode_chunk-returns-in-Sharding-clause-whole : goal.chain::CodecChain::partial_decode_chunk-returns-in-Sharding-clause-whole
chain::CodecChain::partial_decode_chunk-returns-in-Sharding-clause-whole g t c = λ all.
    let k = chunk_kind c.args.chunk.now in
    let f = chunk_fill c.args.chunk.now in
    let s = c.args.chunk.now.shape.now in
    let b = bytes_of c.args.stored.now in
    let before = c.args.self.now.array_to_array in
    let last = c.args.self.now.array_to_bytes in
    let none = eqb-true (vec_len before) 0 (sym c.if-not-is_empty.ensures) in
    let alone = is_none before.items (omega (arith, none, before.ok.0)) in
    IfOk-weaker c.partial_decode_shard.result _ _
    (λ made h.
    alone_some before.items (codec_meaning last) k f s b alone
    (subst (λ x. IsSome ((codec_meaning x).decoded k f s b)) (sym c.in-Sharding.is) (subst (λ x. IsSome ((sharding_meaning x).decoded k f s b)) c.deref.ensures h)))
    (c.partial_decode_shard.ensures.whole all)

pub chain::CodecChain::partial_decode_chunk-returns-in-Sharding-clause-refused : goal.chain::CodecChain::partial_decode_chunk-returns-in-Sharding-clause-refused
chain::CodecChain::partial_decode_chunk-returns-in-Sharding-clause-refused g t c =
    let k = chunk_kind c.args.chunk.now in
    let f = chunk_fill c.args.chunk.now in
    let s = c.args.chunk.now.shape.now in
    let part = box_of c.args.part.now in
    let b = bytes_of c.args.stored.now in
    let refuses = refuses_of c.args.stored.now in
    let before = c.args.self.now.array_to_array in
    let last = c.args.self.now.array_to_bytes in
    let none = eqb-true (vec_len before) 0 (sym c.if-not-is_empty.ensures) in
    let alone = is_none before.items (omega (arith, none, before.ok.0)) in
    IfErr-weaker c.partial_decode_shard.result _ _
    (λ e why.
    alone_refused before.items (codec_meaning last) k f s part b refuses e alone
    (subst (λ x. RefusesPartDecoding ((codec_meaning x).decoded k f s b) (IsTooLargeToDecode (codec_meaning x) k f s part b) refuses e) (sym c.in-Sharding.is)
    (subst (λ x. RefusesPartDecoding ((sharding_meaning x).decoded k f s b) (IsTooLargeToDecode (sharding_meaning x) k f s part b) refuses e) c.deref.ensures why)))
    c.partial_decode_shard.ensures.refused

pub chain::CodecChain::partial_decode_chunk-returns-in-Bytes-clause-refused : goal.chain::CodecChain::partial_decode_chunk-returns-in-Bytes-clause-refused
chain::CodecChain::partial_decode_chunk-returns-in-Bytes-clause-refused g t c =
    let k = chunk_kind c.args.chunk.now in
    let f = chunk_fill c.args.chunk.now in
    let s = c.args.chunk.now.shape.now in
    let part = box_of c.args.part.now in
    let b = bytes_of c.args.stored.now in
    let refuses = refuses_of c.args.stored.now in
    let before = c.args.self.now.array_to_array in
    let last = c.args.self.now.array_to_bytes in
    let none = eqb-true (vec_len before) 0 (sym c.if-not-is_empty.ensures) in
    let alone = is_none before.items (omega (arith, none, before.ok.0)) in
    IfErr-weaker c.partial_decode_bytes.result _ _
    (λ e why.
    alone_refused before.items (codec_meaning last) k f s part b refuses e alone
    (subst (λ x. RefusesPartDecoding ((codec_meaning x).decoded k f s b) (IsTooLargeToDecode (codec_meaning x) k f s part b) refuses e) (sym c.in-Bytes.is)
    (leaf_refused _ _ refuses e why)))
    c.partial_decode_bytes.ensures.refused
