-- What new arrays are.
use Rattle.std.proofs.Common.{◌≡◌, ◌≢◌, ◌==◌, ℕ, ◌<◌, ◌+◌, true, false, List, [], ◌∷◌, ◌++◌, length, take, get_or}
use Rattle.std.proofs.Common.{codes, map, Option, Some, Result, Ok, refl, sym, ap, ◌∙◌, subst, arith}
use Rattle.std.specs.List.{list_any}
use Rattle.std.specs.FinMap as finite
use Rattle.std.specs.Int.NonZero.{non_zero_u64_get}
use Rattle.std.specs.declared.num.NonZeroU64.{NonZeroU64}
use Rattle.std.proofs.lemmas.Bool.Decides.{nat_tests}
use Rattle.std.proofs.lemmas.List.{take_more, map_push}
use Rattle.std.proofs.lemmas.List.Folds.{list_any_at}
use Rattle.zarrs_storage.specs.Memory.{MemoryState, open_state}
use Rattle.zarrs_metadata_parts.specs.declared.separators.ChunkKeySeparator.TheVariants.{Slash}
use Rattle.zarrs_metadata_parts.specs.Lists.{sizes_of}
use Rattle.zarrs_chunk_grid.specs.Configurations.{regular, takes_shape, GridConfiguration}
use Rattle.zarrs_data_type.specs.Kind.{Kind}
use Rattle.serde_json.specs.Written.{has_float}
use Rattle.zarrs_metadata_v3.specs.Document.{DocumentData, data_of_document}
use Rattle.zarrs_keys.specs.declared.encodings.ChunkKeyEncoding.TheVariants.{Default}
use Rattle.zarrs_codec_array.specs.ArrayCodecs.{array_codec_data}
use Rattle.zarrs_codec_array.specs.declared.array.ArrayToArrayCodec.{ArrayToArrayCodec}
use Rattle.zarrs_codec_leaf.specs.Bytes.{endian_of}
use Rattle.zarrs_codec_leaf.specs.declared.bytes_codec.BytesCodec.{BytesCodec}
use Rattle.zarrs_codec_leaf.specs.declared.bytes_codec.Endianness.{Endianness}
use Rattle.zarrs_codec_leaf.specs.declared.bytes_codec.Endianness.TheVariants.{Little}
use Rattle.zarrs_codec_optional.specs.Configurations.{plain}
use Rattle.zarrs_codec_optional.specs.PlainCodecs.{bytes}
use Rattle.zarrs_codec.specs.Chains.{array_to_array_of, array_to_bytes_of, chain_data, bytes_codec_data}
use Rattle.zarrs_codec.specs.Configurations.{ChainData, cells}
use Rattle.zarrs_codec.specs.declared.codec.ArrayToBytesCodec as code
use Rattle.zarrs_codec.specs.declared.chain.CodecChain.{CodecChain}
use Rattle.zarrs_metadata.specs.Versions.{MetadataData, v3}
use Rattle.zarrs_keys.specs.declared.error.NodePathError.TheVariants as path_error
use Rattle.zarrs_metadata_parts.specs.declared.error.PluginCreateError.TheVariants as plugin
use Rattle.zarrs_storage.specs.declared.error.StorageError.TheVariants as stored
use Rattle.zarrs_options.specs.Refusals.{CreateRefusal, create_refusal_of, RefusesCreation}
use Rattle.zarrs_options.specs.declared.error.ArrayCreateError.{ArrayCreateError}
use Rattle.zarrs_options.specs.declared.error.ArrayCreateError.TheVariants as create_error
use Rattle.zarrs_creation.specs.Meanings.{Meaning, creation, creation_v3, created}
use Rattle.zarrs.specs.Layouts.{layout_meant}
use Rattle.zarrs_script.specs.Parts.{is_whole_number, document_for}
use Rattle.zarrs_script.proofs.Plain.{plain_document_for}
use Rattle.zarrs_engine_calls.specs.Layout.{Layout}
use Rattle.zarrs_script.specs.declared.cell_type.CellType.{CellType}
use Rattle.zarrs_script.specs.declared.cell_type.CellType.TheVariants as cell
use Rattle.zarrs_script.specs.CellTypes.{kind_of_cells}
use Rattle.zarrs_script.specs.Transcript.{Opened, MakesGrid, SaysItsParts, layout_for, parts_of_line, metadata_for, new_array}

-- one extent more, which is not 0
pub one_size : (sizes : List NonZeroU64) (size : NonZeroU64) (extents : List ℕ) (k : ℕ) → k < length extents → sizes_of sizes ≡ take k extents → non_zero_u64_get size ≡ get_or extents k 0
    → sizes_of (sizes ++ size ∷ []) ≡ take (k + 1) extents
one_size sizes size extents k lt so_far is =
    map_push non_zero_u64_get sizes size ∙ ap (λ (front : List ℕ). front ++ non_zero_u64_get size ∷ []) so_far
    ∙ ap (λ (n : ℕ). take k extents ++ n ∷ []) is ∙ sym (take_more extents k 0 lt)

-- an extent that is 0
pub zero_extent : (extents : List ℕ) (k : ℕ) → k < length extents → get_or extents k 0 ≡ 0 → list_any (λ extent. extent == 0) extents ≡ true
zero_extent extents k lt zero =
    let test : (get_or extents k 0 == 0) ≡ true = grind (arith, nat_tests) in
    list_any_at (λ extent. extent == 0) extents k 0 lt test

none_zero : (sizes : List NonZeroU64) → list_any (λ extent. extent == 0) (sizes_of sizes) ≡ false
none_zero [] = refl
none_zero (size ∷ sizes) =
    let above : 0 < non_zero_u64_get size = size.ok in
    let test : (non_zero_u64_get size == 0) ≡ false = grind (arith, nat_tests) in
    rw test (none_zero sizes)

pub makes_grid : (shape chunk_shape : List ℕ) (sizes : List NonZeroU64) → sizes_of sizes ≡ chunk_shape → takes_shape (regular (sizes_of sizes)) shape ≡ true → MakesGrid shape chunk_shape
makes_grid shape chunk_shape sizes is taken =
    record {
      taken = subst (λ (extents : List ℕ). takes_shape (regular extents) shape ≡ true) is taken;
      nonzero = ap (list_any (λ extent. extent == 0)) (sym is) ∙ none_zero sizes;
    }

-- an array of these parts lies in its store as a new array does
pub made_array : (shape chunk_shape fill : List ℕ) (cell_type : CellType) (path : List ℕ) (layout : Layout) (metadata : MetadataData) (parts : Meaning) (store : MemoryState) (extents : List ℕ)
    → layout ≡ layout_meant path parts → path ≡ codes "/" → parts ≡ parts_of_line shape chunk_shape cell_type fill → metadata ≡ v3 (metadata_for shape chunk_shape cell_type fill)
    → store ≡ record { values = finite.empty; calls = 0; failures = 0; parts = 0 } → extents ≡ parts.shape
    → ◌≡◌ {A = Opened} (record { cell_type = cell_type; layout = layout; metadata = metadata; state = record { store = open_state store; shape = extents } }) (new_array shape chunk_shape cell_type fill)
made_array shape chunk_shape fill cell_type path layout metadata parts store extents lies at_root are described empty long =
    let same : layout ≡ layout_for shape chunk_shape cell_type fill = lies ∙ ap (λ (p : List ℕ). layout_meant p parts) at_root ∙ ap (λ (m : Meaning). layout_meant (codes "/") m) are in
    let wide : extents ≡ shape = long ∙ ap (λ (m : Meaning). m.shape) are in
    λ i. record { cell_type = cell_type; layout = same i; metadata = described i; state = record { store = open_state (empty i); shape = wide i } }

-- the parts of an array of metadata that says these parts
pub same_parts : (document : DocumentData) (metadata : MetadataData) (parts own : Meaning) → metadata ≡ v3 document → creation_v3 document ≡ Ok parts → creation metadata ≡ Ok own → own ≡ parts
same_parts document metadata parts own is says has =
    let both : Ok own ≡ Ok parts = sym has ∙ ap creation is ∙ says in
    cc

-- nothing but memory refuses metadata that says parts
pub only_memory : {A : Type 0} (made : Result A CreateRefusal) (a : A) (e : ArrayCreateError) → made ≡ Ok a → RefusesCreation made (create_refusal_of e) → e ≢ create_error.OutOfMemory → ⊥
only_memory made a create_error.OutOfMemory is refused other = other refl
only_memory made a (create_error.NodePathError path_error.Invalid) is refused other = absurd (cc (is, refused))
only_memory made a (create_error.NodePathError path_error.OutOfMemory) is refused other = absurd (cc (is, refused))
only_memory made a (create_error.AdditionalFieldUnsupportedError e) is refused other = absurd (cc (is, refused))
only_memory made a (create_error.DataTypeCreateError (plugin.Other text)) is refused other = absurd (cc (is, refused))
only_memory made a (create_error.DataTypeCreateError plugin.OutOfMemory) is refused other = absurd (cc (is, refused))
only_memory made a (create_error.InvalidFillValue name held) is refused other = absurd (cc (is, refused))
only_memory made a (create_error.InvalidFillValueMetadata name value) is refused other = absurd (cc (is, refused))
only_memory made a (create_error.CodecsCreateError (plugin.Other text)) is refused other = absurd (cc (is, refused))
only_memory made a (create_error.CodecsCreateError plugin.OutOfMemory) is refused other = absurd (cc (is, refused))
only_memory made a (create_error.StorageTransformersCreateError (plugin.Other text)) is refused other = absurd (cc (is, refused))
only_memory made a (create_error.StorageTransformersCreateError plugin.OutOfMemory) is refused other = absurd (cc (is, refused))
only_memory made a (create_error.ChunkGridCreateError (plugin.Other text)) is refused other = absurd (cc (is, refused))
only_memory made a (create_error.ChunkGridCreateError plugin.OutOfMemory) is refused other = absurd (cc (is, refused))
only_memory made a (create_error.ChunkKeyEncodingCreateError (plugin.Other text)) is refused other = absurd (cc (is, refused))
only_memory made a (create_error.ChunkKeyEncodingCreateError plugin.OutOfMemory) is refused other = absurd (cc (is, refused))
only_memory made a (create_error.InvalidChunkGridDimensionality grid dimensions) is refused other = absurd (cc (is, refused))
only_memory made a (create_error.InvalidDimensionNames names dimensions) is refused other = absurd (cc (is, refused))
only_memory made a (create_error.InvalidSubchunkShape shape) is refused other = absurd (cc (is, refused))
only_memory made a (create_error.StorageError (stored.InvalidMetadata key text)) is refused other = absurd (cc (is, refused))
only_memory made a (create_error.StorageError stored.ReadOnly) is refused other = absurd (cc (is, refused))
only_memory made a (create_error.StorageError stored.InvalidByteRange) is refused other = absurd (cc (is, refused))
only_memory made a (create_error.StorageError stored.Exhausted) is refused other = absurd (cc (is, refused))
only_memory made a (create_error.StorageError (stored.Other text)) is refused other = absurd (cc (is, refused))
only_memory made a (create_error.StorageError stored.OutOfMemory) is refused other = absurd (cc (is, refused))
only_memory made a create_error.MissingMetadata is refused other = absurd (cc (is, refused))
only_memory made a (create_error.UnsupportedZarrV2Array text) is refused other = absurd (cc (is, refused))

-- metadata that says parts, at the root
pub created_at_root : (document : DocumentData) (path : List ℕ) (metadata : MetadataData) (parts : Meaning) → path ≡ codes "/" → metadata ≡ v3 document → creation_v3 document ≡ Ok parts → created path metadata ≡ Ok parts
created_at_root document path metadata parts at_root is says = rw (at_root, is, says) refl

-- ---- what new arrays have beside their layout

numeric : (cell_type : CellType) → is_whole_number (kind_of_cells cell_type) ≡ true
numeric cell.Bool = refl
numeric cell.Int8 = refl
numeric cell.Int16 = refl
numeric cell.Int32 = refl
numeric cell.Int64 = refl
numeric cell.UInt8 = refl
numeric cell.UInt16 = refl
numeric cell.UInt32 = refl
numeric cell.UInt64 = refl

-- the type of the cells is a bool or an integer
pub is_numeric : (kind : Kind) (cell_type : CellType) → kind ≡ kind_of_cells cell_type → is_whole_number kind ≡ true
is_numeric kind cell_type typed = ap is_whole_number typed ∙ numeric cell_type

-- a chain of `bytes` alone, little endian
pub little_chain : (chain : CodecChain) (codecs : List ArrayToArrayCodec) (codec : BytesCodec) → array_to_array_of chain ≡ codecs → codecs ≡ [] → array_to_bytes_of chain ≡ code.Bytes codec → endian_of codec ≡ Some Little
    → chain_data chain ≡ record { array_to_array = []; array_to_bytes = cells (plain (bytes (Some Little))) }
little_chain chain codecs codec front none last endian =
    let before = front ∙ none in
    let after = ap bytes_codec_data last ∙ ap (λ (e : Option Endianness). cells (plain (bytes e))) endian in
    λ i. record { array_to_array = map array_codec_data (before i); array_to_bytes = after i }

-- the parts are those of the line
pub made_parts : (shape chunk_shape fill : List ℕ) (cell_type : CellType) (sizes : List NonZeroU64) (extents : List ℕ) (grid : GridConfiguration) (chain : ChainData) (kind : Kind) (held : List ℕ)
    → sizes_of sizes ≡ chunk_shape → extents ≡ shape → grid ≡ regular (sizes_of sizes) → chain ≡ record { array_to_array = []; array_to_bytes = cells (plain (bytes (Some Little))) } → kind ≡ kind_of_cells cell_type → held ≡ fill
    → ◌≡◌ {A = Meaning} (record { shape = extents; grid = grid; keys = Default Slash; chain = chain; kind = kind; fill = held }) (parts_of_line shape chunk_shape cell_type fill)
made_parts shape chunk_shape fill cell_type sizes extents grid chain kind held is long on_grid in_bytes typed filled =
    let cut = on_grid ∙ ap regular is in
    λ i. record { shape = long i; grid = cut i; keys = Default Slash; chain = in_bytes i; kind = typed i; fill = filled i }

-- the metadata says the parts of the line
pub says_parts : (shape chunk_shape fill : List ℕ) (cell_type : CellType) (parts : Meaning) (document : DocumentData) → parts ≡ parts_of_line shape chunk_shape cell_type fill → document ≡ document_for parts → creation_v3 document ≡ Ok parts
    → SaysItsParts shape chunk_shape cell_type fill
says_parts shape chunk_shape fill cell_type parts document are described says =
    ap (λ (p : Meaning). creation_v3 (document_for p)) (sym are) ∙ ap creation_v3 (sym described) ∙ says ∙ ap Ok are

-- the metadata holds no float
pub is_plain : (shape chunk_shape fill : List ℕ) (cell_type : CellType) (document : DocumentData) → document ≡ metadata_for shape chunk_shape cell_type fill → has_float (data_of_document document) ≡ false
is_plain shape chunk_shape fill cell_type document described =
    ap (λ (d : DocumentData). has_float (data_of_document d)) described ∙ plain_document_for shape chunk_shape (kind_of_cells cell_type) fill (numeric cell_type)
