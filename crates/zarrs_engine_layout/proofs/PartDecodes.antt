-- Parts of chunks that are decoded from sources.
use Rattle.std.proofs.Common.{◌≡◌, ℕ, Bool, List, length, take, drop, ap, ◌∙◌, inl, inr}
use Rattle.std.proofs.Math.Seq.{take-length}
use Rattle.zarrs_storage.specs.declared.error.StorageError.TheVariants as storage
use Rattle.zarrs_codec_leaf.specs.declared.error.CodecError.TheVariants as codec
use Rattle.zarrs_subset.specs.Regions.{Box}
use Rattle.zarrs_codec_chain.specs.PartRefusals.{RefusesPartDecoding}
use Rattle.zarrs_codec_chain.specs.Refusals.{IsTooLargeToDecode}
use Rattle.zarrs_codec_chain.specs.declared.error.PartError.{PartError}
use Rattle.zarrs_codec_chain.specs.declared.error.PartError.TheVariants as part
use Rattle.zarrs_codec_leaf.specs.Sources.{window_bytes}
use Rattle.zarrs_codec_leaf.specs.declared.source.Window.{Window}
use Rattle.zarrs_engine_calls.specs.Errors.{error_of_part}
use Rattle.zarrs_engine_calls.specs.Layout.{Layout}
use Rattle.zarrs_engine_calls.specs.Content.{decoded_cells}
use Rattle.zarrs_engine_calls.specs.Refusals.{refusal_of}
use Rattle.zarrs_engine_layout.specs.Steps.{RefusesPartBytes}

-- what the chain or the source refuses, the call refuses
pub part_refused : (layout : Layout) (box piece : Box) (encoded : List ℕ) (refuses : Bool) (e : PartError)
    → RefusesPartDecoding (decoded_cells layout box encoded) (IsTooLargeToDecode layout.chain layout.kind layout.fill box.shape piece encoded) refuses e
    → RefusesPartBytes layout box piece encoded refuses (refusal_of (error_of_part e))
part_refused layout box piece encoded refuses (part.Codec (codec.DoesNotFit _)) why = why
part_refused layout box piece encoded refuses (part.Codec codec.SizeOverflow) why = why
part_refused layout box piece encoded refuses (part.Codec codec.OutOfMemory) why = tt
part_refused layout box piece encoded refuses (part.Source storage.OutOfMemory) why = tt
part_refused layout box piece encoded refuses (part.Source (storage.InvalidMetadata key said)) (inl is) = absurd (cc)
part_refused layout box piece encoded refuses (part.Source (storage.InvalidMetadata key said)) (inr is) = is
part_refused layout box piece encoded refuses (part.Source storage.ReadOnly) (inl is) = absurd (cc)
part_refused layout box piece encoded refuses (part.Source storage.ReadOnly) (inr is) = is
part_refused layout box piece encoded refuses (part.Source storage.InvalidByteRange) (inl is) = absurd (cc)
part_refused layout box piece encoded refuses (part.Source storage.InvalidByteRange) (inr is) = is
part_refused layout box piece encoded refuses (part.Source storage.Exhausted) (inl is) = absurd (cc)
part_refused layout box piece encoded refuses (part.Source storage.Exhausted) (inr is) = is
part_refused layout box piece encoded refuses (part.Source (storage.Other said)) (inl is) = absurd (cc)
part_refused layout box piece encoded refuses (part.Source (storage.Other said)) (inr is) = is

-- the window of all bytes
pub whole_window : (window : Window) (bytes : List ℕ) → window.offset ≡ 0 → window.len ≡ length bytes → window_bytes window bytes ≡ bytes
whole_window window bytes first all =
    ap (λ n. take window.len (drop n bytes)) first ∙ ap (λ n. take n bytes) all ∙ take-length bytes
