-- Reads and writes of the parts of one chunk of an array.
use Rattle.std.specs.Prelude.{◌≡◌, ℕ, List, None, true, Result, OnOk, IfOk, IfErr, IsErr}
use Rattle.std.specs.Borrow.{Fml, MutBor, RattleType, RestsIfErr}
use Rattle.zarrs_storage.specs.Store.{StoreState}
use Rattle.zarrs_subset.specs.Regions.{Box}
use Rattle.zarrs_chunk_grid.specs.Grids.{box_at, has_box}
use Rattle.zarrs_data_type_bytes.specs.declared.array_bytes.ArrayBytes.{ArrayBytes}
use Rattle.zarrs_data_type.specs.ArrayData.{data_of}
use Rattle.zarrs_engine_calls.specs.ArgumentRefusals.{chunk_refusal, part_refusal}
use Rattle.zarrs_engine_calls.specs.ChunkBoxes.{is_whole_of}
use Rattle.zarrs_engine_calls.specs.Reach.{MayReadPart}
use Rattle.zarrs_engine_calls.specs.Layout.{Layout, ArrayState}
use Rattle.zarrs_engine_calls.specs.Refusals.{RefusesBy, refusal_of}
use Rattle.zarrs_engine_calls.specs.Step.{RetrievesPart, RefusesRetrievePart}
use Rattle.zarrs_engine_calls.specs.declared.error.ArrayError.{ArrayError}
use Rattle.zarrs_engine.specs.Engine.{layout_of, state_of, store_of}
use Rattle.zarrs_engine.specs.PartialDecoders.{engine_of, indices_of, region_of_part}
use Rattle.zarrs.specs.Arrays.{layout_of_array, state_of_array}
use Rattle.zarrs.specs.declared.array.Array.{Array}
use Rattle.zarrs.specs.declared.array.part_reads.ArrayPartialDecoder.{ArrayPartialDecoder}
use Rattle.zarrs.specs.declared.array.partial_encoder.ArrayPartialEncoder.{ArrayPartialEncoder}
use Rattle.zarrs.specs.contracts.array.Array.{the_row}

module _ {S : Type 0} where
  -- the array that an encoder writes, the name of its loan, and the indices of its chunk
  abbrev pub array_of_encoder : ArrayPartialEncoder S → Array S
  array_of_encoder encoder = encoder.array.now

  abbrev pub loan_of_encoder : ArrayPartialEncoder S → ℕ
  loan_of_encoder encoder = encoder.array.ghost_name

  abbrev pub indices_of_encoder : ArrayPartialEncoder S → List ℕ
  indices_of_encoder encoder = encoder.chunk_indices.items

  -- how the array of a decoder lies in its store, what that is now, also with the array's shape, and the indices of its
  -- chunk
  abbrev pub layout_of_decoder : ArrayPartialDecoder S → Layout
  layout_of_decoder decoder = layout_of (engine_of decoder.decoder)

  abbrev pub store_of_decoder : (S → StoreState) → ArrayPartialDecoder S → StoreState
  store_of_decoder state decoder = store_of state (engine_of decoder.decoder)

  abbrev pub state_of_decoder : (S → StoreState) → ArrayPartialDecoder S → ArrayState
  state_of_decoder state decoder = state_of state (engine_of decoder.decoder)

  abbrev pub indices_of_decoder : ArrayPartialDecoder S → List ℕ
  indices_of_decoder decoder = indices_of decoder.decoder

  -- a part of its chunk may be asked for, if there is such a chunk and the part lies in it
  abbrev pub MayDecodeAt : (S → StoreState) → Box → ArrayPartialDecoder S → Type 0
  MayDecodeAt state part decoder =
      let layout = layout_of_decoder decoder in
      let index = indices_of_decoder decoder in
      chunk_refusal layout index ≡ None → part_refusal layout index part ≡ None
      → MayReadPart layout (region_of_part layout index part) index (store_of_decoder state decoder)

  -- the decoder of the chunk with these indices was made, or it is refused for them
  pub record DecodesChunk (state : S → StoreState) (index : List ℕ) (array : Array S) (result : Result (ArrayPartialDecoder S) ArrayError) : Type 0 where
    pub layout : IfOk result (λ decoder. layout_of_decoder decoder ≡ layout_of_array array)
    pub state_kept : IfOk result (λ decoder. state_of_decoder state decoder ≡ state_of_array state array)
    pub chunk : IfOk result (λ decoder. indices_of_decoder decoder ≡ index)
    pub accepted : OnOk result (has_box (layout_of_array array).grid index ≡ true)
    pub refused : IfErr result (λ e. RefusesBy (chunk_refusal (layout_of_array array) index) (refusal_of e))

  -- the cells of a part of its chunk are returned, or the read is refused; if the part is the whole chunk, it is where the store
  -- refuses the key
  pub record DecodesPart (state : S → StoreState) (part : Box) (decoder : ArrayPartialDecoder S) (result : Result ArrayBytes ArrayError) : Type 0 where
    pub cells : IfOk result (λ made. RetrievesPart (layout_of_decoder decoder) (indices_of_decoder decoder) part (data_of made)
        (store_of_decoder state decoder))
    pub refused : IfErr result (λ e. RefusesRetrievePart (layout_of_decoder decoder) (indices_of_decoder decoder) part (refusal_of e)
        (store_of_decoder state decoder))
    pub refusing : is_whole_of (box_at (layout_of_decoder decoder).grid (indices_of_decoder decoder)).shape part ≡ true
        → (store_of_decoder state decoder).refuses ((layout_of_decoder decoder).key (indices_of_decoder decoder)) ≡ true → IsErr result

-- once the borrow ends, the array is what the encoder left, and if none was made what it had been
abbrev pub RestsUnlessEncoded : (S : RattleType) → MutBor (Array S.Denot) → Result (ArrayPartialEncoder S.Denot) ArrayError → Fml
RestsUnlessEncoded S array r = RestsIfErr (the_row S) array loan_of_encoder r (λ last. last ≡ array.now)
