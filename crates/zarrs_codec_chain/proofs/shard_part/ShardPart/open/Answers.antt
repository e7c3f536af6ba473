use Rattle.std.proofs.Common.{◌≡◌, ◌∙◌, ◌+◌, ◌<◌, ℕ, List, ap, arith, length, subst, sym}
use Rattle.std.specs.Prelude.{is_some}
use Rattle.zarrs_codec_shard.specs.Shards.{index_in, shard_parts}
use Rattle.zarrs_codec_shard.specs.LentData.{lent_chunk_shape, lent_shape}
use Rattle.zarrs_codec_shard.specs.Subchunks.{subchunk_count}
use Rattle.zarrs_codec_shard.specs.declared.lent.LentSubchunks.{LentSubchunks}
use Rattle.zarrs_subset.specs.Regions.{LiesInShape, box_of}
use Rattle.zarrs_codec_chain.specs.Places.{is_index_place}
use Rattle.zarrs_codec_chain.specs.ShardReads.{part_places, shard_read}
use Rattle.zarrs_codec_chain.specs.Stored.{MayReadOf, bytes_of, refuses_of}
use Rattle.zarrs_codec_chain.proofs.OpenShards.{few_bytes, length-bytes_of}
use Rattle.zarrs_codec_chain.proofs.ShardOpening.{index_needed, no_cut, no_entries, no_room, placed, tested_index}
use Rattle.zarrs_codec_chain.proofs.shard_part.ShardPart.open.Goals as goal

-- how many subchunks there are
abbrev own_count : LentSubchunks → ℕ
own_count subchunks = subchunk_count (lent_chunk_shape subchunks) (lent_shape subchunks)

own_is : (subchunks : LentSubchunks) (shape sub : List ℕ) → lent_chunk_shape subchunks ≡ shape → lent_shape subchunks ≡ sub → own_count subchunks ≡ subchunk_count shape sub
own_is subchunks shape sub shape_is sub_is = ap (λ s. subchunk_count s (lent_shape subchunks)) shape_is ∙ ap (subchunk_count shape) sub_is

pub returns-in_default-clause-none : goal.returns-in_default-clause-none
returns-in_default-clause-none g c =
    no_cut c.args.at_start c.args.shape.now c.args.sub.now (bytes_of c.args.stored.now) (rw c.in_default.is at c.in_ok-subchunks.ensures.cut)

pub returns-in_default-count-clause-none : goal.returns-in_default-count-clause-none
returns-in_default-count-clause-none g c =
    let count = own_is c.in-Some.subchunks c.args.shape.now c.args.sub.now (rw c.in-Some.is at c.in_ok-subchunks.ensures.chunk) (rw c.in-Some.is at c.in_ok-subchunks.ensures.subchunk) in
    no_room c.args.at_start c.args.shape.now c.args.sub.now (bytes_of c.args.stored.now) (omega (arith, few_bytes c.args.stored.now, c.in_default-count.ensures, count))

pub returns-then-is_short-clause-none : goal.returns-then-is_short-clause-none
returns-then-is_short-clause-none g c =
    let count = own_is c.in-Some.subchunks c.args.shape.now c.args.sub.now (rw c.in-Some.is at c.in_ok-subchunks.ensures.chunk) (rw c.in-Some.is at c.in_ok-subchunks.ensures.subchunk) in
    no_room c.args.at_start c.args.shape.now c.args.sub.now (bytes_of c.args.stored.now) (omega (arith, length-bytes_of c.args.stored.now, c.if-is_short.ensures.short, c.in-Some-count.ensures, count))

pub part-requires-clause-order : goal.part-requires-clause-order
part-requires-clause-order g c =
    let e = c.index_place-place.ensures in
    (placed c.args.at_start (own_count c.in-Some.subchunks) c.in-Some-count.count _ _ _ _ _ (bytes_of c.args.stored.now) c.in-Some-count.ensures (length-bytes_of c.args.stored.now) c.if-is_short.ensures.long e.first e.last e.start e.end).order

pub part-requires-clause-within : goal.part-requires-clause-within
part-requires-clause-within g c =
    let e = c.index_place-place.ensures in
    (placed c.args.at_start (own_count c.in-Some.subchunks) c.in-Some-count.count _ _ _ _ _ (bytes_of c.args.stored.now) c.in-Some-count.ensures (length-bytes_of c.args.stored.now) c.if-is_short.ensures.long e.first e.last e.start e.end).within

pub read-requires : goal.read-requires
read-requires g c = λ x below.
    let enc = bytes_of c.args.stored.now in
    let e = c.index_place-place.ensures in
    let at = placed c.args.at_start (own_count c.in-Some.subchunks) c.in-Some-count.count _ _ _ _ _ enc c.in-Some-count.ensures (length-bytes_of c.args.stored.now) c.if-is_short.ensures.long e.first e.last e.start e.end in
    let count = own_is c.in-Some.subchunks c.args.shape.now c.args.sub.now (rw c.in-Some.is at c.in_ok-subchunks.ensures.chunk) (rw c.in-Some.is at c.in_ok-subchunks.ensures.subchunk) in
    let first = c.index_place-place.result.first in
    let here : first + x < c.index_place-place.result.last = omega (arith, ap length c.part.ensures.bytes, at.width) in
    c.part.ensures.may_read x
    ∙ c.requires.may_read (first + x)
    (index_needed (shard_read c.args.at_start c.args.shape.now c.args.sub.now (box_of c.args.part.now) enc (refuses_of c.args.stored.now)) (first + x) (omega (arith, at.within))
    (ap (λ n. is_index_place c.args.at_start n (length enc) (first + x)) (sym count) ∙ at.places (first + x) (omega arith) here))

pub are_entries-requires : goal.are_entries-requires
are_entries-requires g c =
    let e = c.index_place-place.ensures in
    let at = placed c.args.at_start (own_count c.in-Some.subchunks) c.in-Some-count.count _ _ _ _ _ (bytes_of c.args.stored.now) c.in-Some-count.ensures (length-bytes_of c.args.stored.now) c.if-is_short.ensures.long e.first e.last e.start e.end in
    let index_is : c.as_slice.result.now ≡ index_in c.args.at_start (own_count c.in-Some.subchunks) (bytes_of c.args.stored.now) = c.as_slice.ensures ∙ c.in_ok-index.ensures.bytes ∙ c.part.ensures.bytes ∙ at.index_is in
    omega (arith, ap length index_is, at.index_len, c.in-Some-count.ensures)

pub returns-then-not-are_entries-clause-none : goal.returns-then-not-are_entries-clause-none
returns-then-not-are_entries-clause-none g c =
    let enc = bytes_of c.args.stored.now in
    let e = c.index_place-place.ensures in
    let at = placed c.args.at_start (own_count c.in-Some.subchunks) c.in-Some-count.count _ _ _ _ _ enc c.in-Some-count.ensures (length-bytes_of c.args.stored.now) c.if-is_short.ensures.long e.first e.last e.start e.end in
    let tested = tested_index c.args.at_start (own_count c.in-Some.subchunks) c.in-Some-count.count _ _ _ _ enc c.as_slice.result.now c.are_entries.result at c.in-Some-count.ensures
    (c.as_slice.ensures ∙ c.in_ok-index.ensures.bytes ∙ c.part.ensures.bytes) (c.are_entries.ensures enc) in
    let count = own_is c.in-Some.subchunks c.args.shape.now c.args.sub.now (rw c.in-Some.is at c.in_ok-subchunks.ensures.chunk) (rw c.in-Some.is at c.in_ok-subchunks.ensures.subchunk) in
    no_entries c.args.at_start c.args.shape.now c.args.sub.now enc (ap (λ x. is_some (shard_parts c.args.at_start x enc)) (sym count) ∙ tested ∙ c.if-not-are_entries.true)

pub returns-clause-opened : goal.returns-clause-opened
returns-clause-opened g c =
    let read = λ (s sub : List ℕ). shard_read c.args.at_start s sub (box_of c.args.part.now) (bytes_of c.args.stored.now) (refuses_of c.args.stored.now) in
    ap (λ s. read s (lent_shape c.in-Some.subchunks)) (rw c.in-Some.is at c.in_ok-subchunks.ensures.chunk)
    ∙ ap (read c.args.shape.now) (rw c.in-Some.is at c.in_ok-subchunks.ensures.subchunk)

pub invariant_of-result-clause-lies : goal.invariant_of-result-clause-lies
invariant_of-result-clause-lies g c = subst (LiesInShape (box_of c.args.part.now)) (sym (rw c.in-Some.is at c.in_ok-subchunks.ensures.chunk)) c.requires.part

pub invariant_of-result-clause-index_is : goal.invariant_of-result-clause-index_is
invariant_of-result-clause-index_is g c =
    let e = c.index_place-place.ensures in
    c.in_ok-index.ensures.bytes ∙ c.part.ensures.bytes
    ∙ (placed c.args.at_start (own_count c.in-Some.subchunks) c.in-Some-count.count _ _ _ _ _ (bytes_of c.args.stored.now) c.in-Some-count.ensures (length-bytes_of c.args.stored.now) c.if-is_short.ensures.long e.first e.last e.start e.end).index_is

pub invariant_of-result-clause-start_is : goal.invariant_of-result-clause-start_is
invariant_of-result-clause-start_is g c =
    let e = c.index_place-place.ensures in
    (placed c.args.at_start (own_count c.in-Some.subchunks) c.in-Some-count.count _ _ _ _ _ (bytes_of c.args.stored.now) c.in-Some-count.ensures (length-bytes_of c.args.stored.now) c.if-is_short.ensures.long e.first e.last e.start e.end).start_is

pub invariant_of-result-clause-end_is : goal.invariant_of-result-clause-end_is
invariant_of-result-clause-end_is g c =
    let e = c.index_place-place.ensures in
    (placed c.args.at_start (own_count c.in-Some.subchunks) c.in-Some-count.count _ _ _ _ _ (bytes_of c.args.stored.now) c.in-Some-count.ensures (length-bytes_of c.args.stored.now) c.if-is_short.ensures.long e.first e.last e.start e.end).end_is

pub invariant_of-result-clause-tested : goal.invariant_of-result-clause-tested
invariant_of-result-clause-tested g c =
    let enc = bytes_of c.args.stored.now in
    let e = c.index_place-place.ensures in
    let at = placed c.args.at_start (own_count c.in-Some.subchunks) c.in-Some-count.count _ _ _ _ _ enc c.in-Some-count.ensures (length-bytes_of c.args.stored.now) c.if-is_short.ensures.long e.first e.last e.start e.end in
    tested_index c.args.at_start (own_count c.in-Some.subchunks) c.in-Some-count.count _ _ _ _ enc c.as_slice.result.now c.are_entries.result at c.in-Some-count.ensures
    (c.as_slice.ensures ∙ c.in_ok-index.ensures.bytes ∙ c.part.ensures.bytes) (c.are_entries.ensures enc) ∙ c.if-not-are_entries.false

pub invariant_of-result-clause-may_read : goal.invariant_of-result-clause-may_read
invariant_of-result-clause-may_read g c =
    let stored = c.args.stored.now in
    let read = λ (s sub : List ℕ). MayReadOf stored (part_places (shard_read c.args.at_start s sub (box_of c.args.part.now) (bytes_of stored) (refuses_of stored))) in
    subst (λ s. read s (lent_shape c.in-Some.subchunks)) (sym (rw c.in-Some.is at c.in_ok-subchunks.ensures.chunk))
    (subst (read c.args.shape.now) (sym (rw c.in-Some.is at c.in_ok-subchunks.ensures.subchunk)) c.requires.may_read)
