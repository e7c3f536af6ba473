-- The document of the parts of an array says them.
use Rattle.std.proofs.Common.{◌≡◌, ℕ, List, Bool, true, cond, Some, None, Ok, refl, ap, ◌∙◌}
use Rattle.std.specs.Prelude.{option_and_then}
use Rattle.serde_json.specs.Data.{Data}
use Rattle.zarrs_metadata_parts.specs.Extension.{ExtensionData}
use Rattle.zarrs_metadata_parts.specs.declared.separators.ChunkKeySeparator.TheVariants.{Slash}
use Rattle.zarrs_metadata_v3.specs.Document.{DocumentData, plain_document}
use Rattle.zarrs_keys.specs.declared.encodings.ChunkKeyEncoding.TheVariants.{Default}
use Rattle.zarrs_chunk_grid.specs.Configurations.{GridConfiguration}
use Rattle.zarrs_chunk_grid.specs.GridView.{configuration_of, array_extents_of}
use Rattle.zarrs_chunk_grid.specs.Metadata.{grid_said, over_shape, extension_of_grid}
use Rattle.zarrs_chunk_grid.specs.declared.grid.ChunkGrid.{ChunkGrid}
use Rattle.zarrs_chunk_grid.specs.declared.grid.ChunkGrid.TheVariants.{Regular}
use Rattle.zarrs_chunk_grid.specs.declared.regular.RegularChunkGrid.{RegularChunkGrid}
use Rattle.zarrs_chunk_grid.proofs.ConfigurationLemmas.{own_taken}
use Rattle.zarrs_chunk_grid.proofs.MetadataLemmas.{said_back}
use Rattle.zarrs_data_type.specs.FillMetadata.{fill_said, fill_written}
use Rattle.zarrs_data_type.specs.Kind.{Kind, kind}
use Rattle.zarrs_data_type.specs.Kind as type
use Rattle.zarrs_data_type.specs.TypeMetadata.{kind_of, kind_extension}
use Rattle.zarrs_data_type_kinds.specs.declared.data_type.DataType.{DataType}
use Rattle.zarrs_codec.specs.Chains.{array_to_array_of, array_to_bytes_of, chain_data}
use Rattle.zarrs_codec.specs.Metadata.{chain_said, extensions_of_chain}
use Rattle.zarrs_codec.specs.Configurations.{ChainData}
use Rattle.zarrs_codec.specs.declared.chain.CodecChain.{CodecChain}
use Rattle.zarrs_codec.proofs.ChainMetadata.{chain_back}
use Rattle.zarrs_creation.specs.Meanings.{meaning_with, creation_v3}
use Rattle.zarrs_creation.proofs.Order.{all_said}
use Rattle.zarrs_script.specs.Parts.{document_for, is_whole_number}

-- documents of equal parts are the same
pub same_document : (s t : List ℕ) (g h d e : ExtensionData) (f v : Data) (c k : List ExtensionData) → s ≡ t → g ≡ h → d ≡ e → f ≡ v → c ≡ k → plain_document s g d f c ≡ plain_document t h e v k
same_document s t g h d e f v c k shape grid type fill codecs = λ i. plain_document (shape i) (grid i) (type i) (fill i) (codecs i)

type_back : (k : Kind) → is_whole_number k ≡ true → kind_of (kind_extension k) ≡ Some k
type_back type.bool numeric = refl
type_back type.int8 numeric = refl
type_back type.int16 numeric = refl
type_back type.int32 numeric = refl
type_back type.int64 numeric = refl
type_back type.uint8 numeric = refl
type_back type.uint16 numeric = refl
type_back type.uint32 numeric = refl
type_back type.uint64 numeric = refl
type_back k numeric = cc

grid_back : (g : ChunkGrid) → grid_said (extension_of_grid (configuration_of g)) (array_extents_of g) ≡ Some (configuration_of g)
grid_back g =
    ap (option_and_then (over_shape (array_extents_of g))) (said_back g)
    ∙ ap (λ (t : Bool). cond t (Some (configuration_of g)) None) (own_taken g)

-- what a document of these parts says, one after another
parts_back : (shape : List ℕ) (grid : GridConfiguration) (chain : ChainData) (k : Kind) (fill : List ℕ) → chain_said (extensions_of_chain chain) ≡ Some chain → kind_of (kind_extension k) ≡ Some k
    → grid_said (extension_of_grid grid) shape ≡ Some grid → fill_said k (fill_written k fill) ≡ Some fill
    → creation_v3 (plain_document shape (extension_of_grid grid) (kind_extension k) (fill_written k fill) (extensions_of_chain chain))
    ≡ Ok (record { shape = shape; grid = grid; keys = Default Slash; chain = chain; kind = k; fill = fill })
parts_back shape grid chain k fill e1 e2 e3 e4 =
    all_said (plain_document shape (extension_of_grid grid) (kind_extension k) (fill_written k fill) (extensions_of_chain chain)) chain e1 k e2 grid e3 fill e4 refl (Default Slash) refl refl

pub document_says : (g : RegularChunkGrid) (chain : CodecChain) (t : DataType) (fill : List ℕ) (m : DocumentData) → is_whole_number (kind t) ≡ true → fill_said (kind t) (fill_written (kind t) fill) ≡ Some fill
    → m ≡ document_for (meaning_with (Regular g) (Default Slash) chain t fill) → creation_v3 m ≡ Ok (meaning_with (Regular g) (Default Slash) chain t fill)
document_says g chain t fill m numeric said is =
    ap creation_v3 is
    ∙ parts_back (array_extents_of (Regular g)) (configuration_of (Regular g)) (chain_data chain) (kind t) fill
    (chain_back (array_to_array_of chain) (array_to_bytes_of chain)) (type_back (kind t) numeric) (grid_back (Regular g)) said
