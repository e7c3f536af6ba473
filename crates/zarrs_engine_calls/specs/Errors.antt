-- What the refusals of lower layers become.
use Rattle.zarrs_storage.specs.declared.error.StorageError.{StorageError}
use Rattle.zarrs_storage.specs.declared.error.StorageError.TheVariants as storage
use Rattle.zarrs_codec_leaf.specs.declared.error.CodecError.{CodecError}
use Rattle.zarrs_codec_leaf.specs.declared.error.CodecError.TheVariants as codec
use Rattle.zarrs_codec_leaf.specs.declared.error.Misfit.TheVariants as misfit
use Rattle.zarrs_codec_chain.specs.declared.error.PartError.{PartError}
use Rattle.zarrs_codec_chain.specs.declared.error.PartError.TheVariants as part
use Rattle.zarrs_data_type_elements.specs.declared.error.ElementError.{ElementError}
use Rattle.zarrs_data_type_elements.specs.declared.error.ElementError.TheVariants as element
use Rattle.zarrs_subset.specs.declared.error.ArraySubsetError.{ArraySubsetError}
use Rattle.zarrs_subset.specs.declared.error.ArraySubsetError.TheVariants as subset
use Rattle.zarrs_engine_calls.specs.declared.error.ArrayError.{ArrayError}
use Rattle.zarrs_engine_calls.specs.declared.error.ArrayError.TheVariants as array

-- the error that data of another kind becomes: E4, of the misfit `NoValue`
abbrev pub unfit : ArrayError
unfit = array.CodecError (codec.DoesNotFit misfit.NoValue)

-- a store's refusal, except out of memory
abbrev pub error_of_storage : StorageError → ArrayError
error_of_storage storage.OutOfMemory = array.OutOfMemory
error_of_storage error = array.StorageError error

-- a codec's refusal, except a size and out of memory
abbrev pub error_of_codec : CodecError → ArrayError
error_of_codec (codec.DoesNotFit why) = array.CodecError (codec.DoesNotFit why)
error_of_codec codec.SizeOverflow = array.SizeOverflow
error_of_codec codec.OutOfMemory = array.OutOfMemory

-- a refusal of a part of a chunk: that of the codec or of the store
abbrev pub error_of_part : PartError → ArrayError
error_of_part (part.Codec error) = error_of_codec error
error_of_part (part.Source error) = error_of_storage error

-- a refusal of values, except out of memory
abbrev pub error_of_element : ElementError → ArrayError
error_of_element element.OutOfMemory = array.OutOfMemory
error_of_element error = array.ElementError error

-- a refusal of a box, except out of memory
abbrev pub error_of_subset : ArraySubsetError → ArrayError
error_of_subset subset.OutOfMemory = array.OutOfMemory
error_of_subset error = array.ArraySubsetError error
