-- Parts of chunks that are read, and chunks that are decoded into targets.
use Rattle.std.proofs.Common.{◌≡◌, ℕ, ◌+◌, ◌-◌, ◌*◌, ◌^◌, ◌<◌, ◌≤◌, Bool, true, false, List, [], ◌∷◌, get_or, length, Option, None, Some, refl, sym, ap, ◌∙◌, subst, arith}
use Rattle.std.specs.Prelude.{nat_le, slice_index_or, ◌&&◌}
use Rattle.std.specs.List.{list_any, range_with_len}
use Rattle.std.proofs.lemmas.Bool.{and_from, false≢true, le-leb, or_left, or_right}
use Rattle.std.proofs.lemmas.List.Folds.{list_any_at}
use Rattle.std.proofs.lemmas.List.FromFn.{get_or-range_with_len, length-range_with_len}
use Rattle.zarrs_data_type.specs.ArrayData.{ArrayData}
use Rattle.zarrs_codec_array.specs.declared.array.ArrayToArrayCodec.{ArrayToArrayCodec}
use Rattle.zarrs_codec_leaf.specs.declared.error.CodecError.{CodecError}
use Rattle.zarrs_codec_leaf.specs.declared.error.CodecError.TheVariants as error
use Rattle.zarrs_codec_leaf.specs.Sources.{MayRead}
use Rattle.zarrs_codec_leaf.specs.declared.source.Window.{Window}
use Rattle.zarrs_subset.specs.Boxes.{position_count}
use Rattle.zarrs_subset.specs.Regions.{Box, overlap_of, seen_from}
use Rattle.zarrs_data_type.specs.Cell.{Cell, held_size}
use Rattle.zarrs_data_type.specs.Kind.{Kind, cell_size}
use Rattle.zarrs_codec_chain.specs.Parts.{DecodesPart}
use Rattle.zarrs_codec_chain.specs.Places.{all_places, boxes_meet}
use Rattle.zarrs_codec_chain.specs.PartRefusals.{RefusesPartDecoding}
use Rattle.zarrs_codec_chain.specs.declared.error.PartError.{PartError}
use Rattle.zarrs_codec_chain.specs.declared.error.PartError.TheVariants.{Codec, Source}
use Rattle.zarrs_codec_chain.specs.Chain.{ChainMeaning, is_too_large}
use Rattle.zarrs_codec_chain.specs.Refusals.{IsTooLargeToDecode, RefusesChunkDecoding}
use Rattle.zarrs_codec_chain.specs.ShardParts.{HasTooLarge}
use Rattle.zarrs_codec_shard.proofs.ShardLaws.{length-shard_parts}
use Rattle.zarrs_codec_shard.specs.Shards.{shard_parts}
use Rattle.zarrs_codec_shard.specs.Subchunks.{is_cut_by, subchunk_box, subchunk_count}
use Rattle.zarrs_codec.specs.Chains.{behind, no_codec}
use Rattle.zarrs_codec.specs.ChainLaws.{same_cells}
use Rattle.zarrs_codec.specs.ShardChunks.{DecodesWhole}
use Rattle.zarrs_codec.specs.Shardings.{ReadsLargeSubchunk, reads_large_part, sharded}
use Rattle.zarrs_codec.specs.declared.codec.ArrayToBytesCodec as codec

-- ---- behind no codec

pub alone_part : (codecs : List ArrayToArrayCodec) (m : ChainMeaning) (k : Kind) (f : Cell) (s : List ℕ) (part : Box) (b : List ℕ) (d : ArrayData) → no_codec codecs ≡ true
    → DecodesPart k s part (m.decoded k f s b) d → DecodesPart k s part ((behind codecs m).decoded k f s b) d
alone_part [] m k f s part b d alone h = subst (λ o. DecodesPart k s part o d) (sym (same_cells m k f s (Some b))) h
alone_part (c ∷ codecs) m k f s part b d alone h = absurd (false≢true alone)

pub alone_refused : (codecs : List ArrayToArrayCodec) (m : ChainMeaning) (k : Kind) (f : Cell) (s : List ℕ) (part : Box) (b : List ℕ) (refuses : Bool) (e : PartError) → no_codec codecs ≡ true
    → RefusesPartDecoding (m.decoded k f s b) (IsTooLargeToDecode m k f s part b) refuses e → RefusesPartDecoding ((behind codecs m).decoded k f s b) (IsTooLargeToDecode (behind codecs m) k f s part b) refuses e
alone_refused [] m k f s part b refuses e alone why = subst (λ o. RefusesPartDecoding o (IsTooLargeToDecode m k f s part b) refuses e) (sym (same_cells m k f s (Some b))) why
alone_refused (c ∷ codecs) m k f s part b refuses e alone why = absurd (false≢true alone)

pub alone_places : (codecs : List ArrayToArrayCodec) (m : ChainMeaning) (may_read : ℕ → Bool) (window : Window) (k : Kind) (s : List ℕ) (part : Box) (b : List ℕ) → no_codec codecs ≡ true
    → MayRead may_read window ((behind codecs m).places k s part b) → MayRead may_read window (m.places k s part b)
alone_places [] m may_read window k s part b alone may = may
alone_places (c ∷ codecs) m may_read window k s part b alone may = absurd (false≢true alone)

-- behind some codec every place is needed
pub many_places : (codecs : List ArrayToArrayCodec) (m : ChainMeaning) (may_read : ℕ → Bool) (window : Window) (k : Kind) (s : List ℕ) (part : Box) (b : List ℕ) → no_codec codecs ≡ false
    → MayRead may_read window ((behind codecs m).places k s part b) → MayRead may_read window (all_places k s part b)
many_places [] m may_read window k s part b many may = absurd (false≢true (sym many))
many_places (c ∷ codecs) m may_read window k s part b many may = may

pub is_none : (codecs : List ArrayToArrayCodec) → length codecs ≡ 0 → no_codec codecs ≡ true
is_none [] none = refl
is_none (c ∷ codecs) none = absurd (omega arith)

pub is_some : (codecs : List ArrayToArrayCodec) → (length codecs ≡ 0 → ⊥) → no_codec codecs ≡ false
is_some [] some = absurd (some refl)
is_some (c ∷ codecs) some = refl

-- ---- whole chunks

-- cells that a usize does not count, or fill, are too large
pub cells_large : (leaves_out : Bool) (k : Kind) (f : Cell) (s : List ℕ) → 2 ^ 64 ≤ position_count s * cell_size k → is_too_large leaves_out k f s ≡ true
cells_large leaves_out k f s large =
    or_left (nat_le (2 ^ 64) (position_count s * cell_size k)) (leaves_out && nat_le (2 ^ 64) (position_count s * held_size k f))
    (le-leb (2 ^ 64) (position_count s * cell_size k) large)

pub fill_large : (leaves_out : Bool) (k : Kind) (f : Cell) (s : List ℕ) → leaves_out ≡ true → 2 ^ 64 ≤ position_count s * held_size k f → is_too_large leaves_out k f s ≡ true
fill_large leaves_out k f s left large =
    or_right (nat_le (2 ^ 64) (position_count s * cell_size k)) (leaves_out && nat_le (2 ^ 64) (position_count s * held_size k f))
    (and_from leaves_out (nat_le (2 ^ 64) (position_count s * held_size k f)) left (le-leb (2 ^ 64) (position_count s * held_size k f) large))

-- of a chain that decodes the chunk whole
pub chunk_refused : (m : ChainMeaning) (k : Kind) (f : Cell) (s : List ℕ) (part : Box) (b : List ℕ) (refuses : Bool) (e : CodecError) → DecodesWhole m → RefusesChunkDecoding m k f s b e
    → RefusesPartDecoding (m.decoded k f s b) (IsTooLargeToDecode m k f s part b) refuses (Codec e)
chunk_refused m k f s part b refuses (error.DoesNotFit _) whole why = why
chunk_refused m k f s part b refuses error.SizeOverflow whole why = whole k f s part b ∙ fill_large (m.leaves_out s b) k f s why.0 why.1
chunk_refused m k f s part b refuses error.OutOfMemory whole why = why

-- behind some codec that is so
pub whole_many : (codecs : List ArrayToArrayCodec) (m : ChainMeaning) → no_codec codecs ≡ false → DecodesWhole (behind codecs m)
whole_many [] m many = absurd (false≢true (sym many))
whole_many (c ∷ codecs) m many = λ k f s part b. refl

-- and behind none if the codec does
pub whole_alone : (codecs : List ArrayToArrayCodec) (m : ChainMeaning) → no_codec codecs ≡ true → DecodesWhole m → DecodesWhole (behind codecs m)
whole_alone [] m alone whole = λ k f s part b. whole k f s part b
whole_alone (c ∷ codecs) m alone whole = absurd (false≢true alone)

-- ---- shards

-- what is too large of a subchunk that the part meets is too large of the shard
pub shard_too_large : (at_start : Bool) (sub : List ℕ) (m : ChainMeaning) (k : Kind) (f : Cell) (s : List ℕ) (part : Box) (b : List ℕ) (parts : List (Option (List ℕ))) → is_cut_by s sub ≡ true
    → shard_parts at_start (subchunk_count s sub) b ≡ Some parts
    → HasTooLarge (ReadsLargeSubchunk m k f s sub part) parts → IsTooLargeToDecode (sharded at_start sub m) k f s part b
shard_too_large at_start sub m k f s part b parts cut are h =
    let count = subchunk_count s sub in
    let large : ℕ → Bool = λ j. reads_large_part m k f s sub part j (slice_index_or parts j None) in
    let below : h.number < count = omega (arith, h.below, length-shard_parts at_start count b parts are) in
    let at : get_or (range_with_len 0 count) h.number 0 ≡ h.number = get_or-range_with_len 0 count h.number 0 below ∙ (let e : 0 + h.number ≡ h.number = omega arith in e) in
    let here : large h.number ≡ true = ap (reads_large_part m k f s sub part h.number) h.present ∙ h.large in
    let any : list_any large (range_with_len 0 count) ≡ true =
    list_any_at large (range_with_len 0 count) h.number 0 (omega (arith, length-range_with_len 0 count)) (ap large at ∙ here) in
    and_from (is_cut_by s sub) _ cut (ap (λ (o : Option (List (Option (List ℕ)))). large_of o) are ∙ any)
  where
    large_of : Option (List (Option (List ℕ))) → Bool
    large_of o = elim o [ None ↦ false | Some x ↦ list_any (λ j. reads_large_part m k f s sub part j (slice_index_or x j None)) (range_with_len 0 (subchunk_count s sub)) ]

-- the code's boxes of what a part shares with a subchunk
pub large_piece : (m : ChainMeaning) (k : Kind) (f : Cell) (s sub : List ℕ) (part : Box) (n : ℕ) (subset shared own : Box) (corner b : List ℕ)
    → boxes_meet part (subchunk_box s sub n) ≡ true → subset ≡ subchunk_box s sub n → shared ≡ overlap_of part subset → corner ≡ subset.start → own ≡ seen_from shared corner
    → IsTooLargeToDecode m k f sub own b → ReadsLargeSubchunk m k f s sub part n b
large_piece m k f s sub part n subset shared own corner b meets subset_is shared_is corner_is own_is large =
    let here : own ≡ seen_from (overlap_of part (subchunk_box s sub n)) (subchunk_box s sub n).start =
    own_is ∙ ap (seen_from shared) corner_is ∙ ap (λ (x : Box). seen_from x subset.start) shared_is ∙ ap (λ (x : Box). seen_from (overlap_of part x) x.start) subset_is in
    and_from (boxes_meet part (subchunk_box s sub n)) _ meets (ap (λ (o : Box). m.reads_too_large k f sub o b) (sym here) ∙ large)

-- ---- codecs of cells

-- where nothing is decoded whole, nothing is too large
pub leaf_refused : (dec : Option (List Cell)) (TooLarge : Type 0) (refuses : Bool) (e : PartError) → RefusesPartDecoding dec ⊥ refuses e → RefusesPartDecoding dec TooLarge refuses e
leaf_refused dec TooLarge refuses (Codec (error.DoesNotFit _)) why = why
leaf_refused dec TooLarge refuses (Codec error.SizeOverflow) why = absurd why
leaf_refused dec TooLarge refuses (Codec error.OutOfMemory) why = why
leaf_refused dec TooLarge refuses (Source e) why = why
