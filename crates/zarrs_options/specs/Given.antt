-- Metadata as callers give it: extension points as texts, and chunk grids.
use Rattle.std.specs.Prelude.{ℕ, ◌==◌, List, [], ◌∷◌, Bool, true, false, codes, if◌then◌else◌, Option, Some, option_and_then, string_bytes}
use Rattle.serde_json.specs.Data.{no_members, member}
use Rattle.serde_json.specs.Read.{read}
use Rattle.zarrs_metadata_parts.specs.Extension.{ExtensionData, extension_view, extension_of, named}
use Rattle.zarrs_metadata_parts.specs.Lists.{numbers_data}
use Rattle.zarrs_options.specs.declared.chunk_grid_metadata.ArrayBuilderChunkGridMetadata.{ArrayBuilderChunkGridMetadata}
use Rattle.zarrs_options.specs.declared.chunk_grid_metadata.Given.{Given}
use Rattle.zarrs_options.specs.declared.chunk_grid_metadata.Given.TheVariants.{Metadata, Text, Sizes}

-- whether a text begins with `{`
abbrev pub begins_object : List ℕ → Bool
begins_object [] = false
begins_object (first ∷ rest) = first == 123

-- the extension point that a text says: a text that begins with `{` is JSON, any other is a name
abbrev pub extension_of_text : List ℕ → Option ExtensionData
extension_of_text text = if begins_object text then option_and_then extension_of (read text) else Some (named text)

-- the `regular` grid of chunks of this shape
abbrev pub regular_extension : List ℕ → ExtensionData
regular_extension sizes =
    record { name = codes "regular"; configuration = Some (member (codes "chunk_shape") (numbers_data sizes) no_members); must_understand = true }

abbrev pub given_extension : Given → Option ExtensionData
given_extension (Metadata m) = Some (extension_view m)
given_extension (Text text) = extension_of_text (string_bytes text)
given_extension (Sizes sizes) = Some (regular_extension sizes.items)

-- the extension point that is given for a chunk grid, if it is one
abbrev pub grid_given : ArrayBuilderChunkGridMetadata → Option ExtensionData
grid_given g = given_extension g.0
