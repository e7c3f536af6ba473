-- Metadata with another shape and another grid says these, and else the same parts.
use Rattle.std.proofs.Common.{◌≡◌, ℕ, ◌==◌, List, [], ◌∷◌, length, Bool, true, false, cond, if◌then◌else◌, Option, Some, None, option_and_then, Result, Ok, Err, refl, ap, sym, subst, ◌∙◌}
use Rattle.std.proofs.lemmas.Bool.{eqb-true, and_parts}
use Rattle.serde_json.specs.Data.{Data}
use Rattle.zarrs_metadata_parts.specs.Extension.{ExtensionData}
use Rattle.zarrs_metadata_v3.specs.Document.{DocumentData}
use Rattle.zarrs_metadata.specs.Conversion.{ConversionRefusal, no_codecs, type_v2, fill_v3, is_uncompressed, cells_codec, order_codecs, converted, converted_with_fill, converted_with_type, to_v3}
use Rattle.zarrs_metadata_v2.specs.Document.{DocumentV2Data}
use Rattle.zarrs_metadata.specs.Versions.{MetadataData, v3, v2}
use Rattle.zarrs_chunk_grid.specs.Configurations.{GridConfiguration, regular, bounded, rectangular, dimensions_of, fills_shape, takes_shape, grid_of}
use Rattle.zarrs_chunk_grid.specs.GridView.{configuration_of, array_extents_of}
use Rattle.zarrs_chunk_grid.specs.Metadata.{configuration_said, over_shape, grid_said, extension_of_grid}
use Rattle.zarrs_chunk_grid.specs.declared.grid.ChunkGrid.{ChunkGrid}
use Rattle.zarrs_chunk_grid.proofs.ConfigurationLemmas.{own_taken, said_taken}
use Rattle.zarrs_chunk_grid.proofs.MetadataLemmas.{said_back}
use Rattle.zarrs_keys.specs.Metadata.{key_encoding_of}
use Rattle.zarrs_data_type.specs.FillMetadata.{fill_said}
use Rattle.zarrs_data_type.specs.TypeMetadata.{kind_of}
use Rattle.zarrs_codec.specs.Metadata.{chain_said}
use Rattle.zarrs_options.specs.Given.{regular_extension}
use Rattle.zarrs_options.specs.Options.{transformers_said}
use Rattle.zarrs_options.specs.Refusals.{CreateRefusal, codecs, data_type, chunk_grid, fill_value_metadata, storage_transformers, chunk_key_encoding, grid_dimensions, said_or}
use Rattle.zarrs_creation.specs.Changes.{grid_metadata_of, grid_of_metadata, with_shape, reshaping, dimensions_said, chunks_said, with_grid, regridding}
use Rattle.zarrs_creation.specs.Meanings.{Meaning, names_said, shape_said, creation_v3, creation_by, creation_v2, creation}
use Rattle.zarrs_creation.proofs.Names.{accepted, converts}
use Rattle.zarrs_creation.proofs.Openings.{goes_on}

-- ---- grids of extension points

said_ok : {A : Type 0} (r : CreateRefusal) (o : Option A) (a : A) → said_or r o ≡ Ok a → o ≡ Some a
said_ok r (Some b) a is = cc
said_ok r None a is = absurd cc

over_taken : (o : Option GridConfiguration) (shape : List ℕ) (g : GridConfiguration) → option_and_then (over_shape shape) o ≡ Some g → (o ≡ Some g) × (takes_shape g shape ≡ true)
over_taken None shape g is = absurd cc
over_taken (Some c) shape g is = go (takes_shape c shape) refl is
  where
    go : (b : Bool) → takes_shape c shape ≡ b → (if b then Some c else None) ≡ Some g → (Some c ≡ Some g) × (takes_shape g shape ≡ true)
    go true taken some = let same : c ≡ g = cc in (some, subst (λ (x : GridConfiguration). takes_shape x shape ≡ true) same taken)
    go false taken some = absurd cc

-- a grid has as many dimensions as the shape that it is over
pub said_dimensions : (e : ExtensionData) (shape : List ℕ) (g : GridConfiguration) → grid_said e shape ≡ Some g → dimensions_of g ≡ length shape
said_dimensions e shape g said = eqb-true _ _ (and_parts _ (fills_shape g shape) (over_taken (configuration_said e) shape g said).1).0

-- shapes over which one extension point says grids have as many dimensions
one_length : (e : ExtensionData) (s t : List ℕ) (g h : GridConfiguration) → grid_said e s ≡ Some g → grid_said e t ≡ Some h → length t ≡ length s
one_length e s t g h a b =
    let first = (over_taken (configuration_said e) s g a).0 in
    let second = (over_taken (configuration_said e) t h b).0 in
    let same : h ≡ g = cc in
    sym (said_dimensions e t h b) ∙ ap dimensions_of same ∙ said_dimensions e s g a

pub grid_dimensions_are : (g : GridConfiguration) (shape : List ℕ) → (grid_of g shape).dimensions ≡ dimensions_of g
grid_dimensions_are (regular sizes) shape = refl
grid_dimensions_are (bounded sizes) shape = refl
grid_dimensions_are (rectangular sizes) shape = refl

-- the chunks that V2 metadata has for a grid say it
pub chunks_back : (g : ChunkGrid) (chunks shape : List ℕ) → chunks_said (configuration_of g) ≡ Ok chunks → array_extents_of g ≡ shape → grid_said (regular_extension chunks) shape ≡ Some (configuration_of g)
chunks_back g chunks shape said over = go (configuration_of g) refl said
  where
    go : (c : GridConfiguration) → configuration_of g ≡ c → chunks_said c ≡ Ok chunks → grid_said (regular_extension chunks) shape ≡ Some (configuration_of g)
    go (regular sizes) is chunked =
        let same : sizes ≡ chunks = cc in
        let written : extension_of_grid (configuration_of g) ≡ regular_extension chunks = ap extension_of_grid is ∙ ap (λ (s : List ℕ). regular_extension s) same in
        ap (λ (e : ExtensionData). grid_said e shape) (sym written)
        ∙ ap (option_and_then (over_shape shape)) (said_back g)
        ∙ ap (λ (t : Bool). cond t (Some (configuration_of g)) None) (ap (takes_shape (configuration_of g)) (sym over) ∙ own_taken g)
    go (bounded sizes) is chunked = absurd cc
    go (rectangular sizes) is chunked = absurd cc

-- ---- V3 documents

-- these parts with another shape and another grid
abbrev pub cut_by : List ℕ → GridConfiguration → Meaning → Meaning
cut_by shape grid p = record p { shape = shape; grid = grid }

abbrev all_cut_by : List ℕ → GridConfiguration → Result Meaning CreateRefusal → Result Meaning CreateRefusal
all_cut_by shape grid (Ok p) = Ok (cut_by shape grid p)
all_cut_by shape grid (Err r) = Err r

module _ (m : DocumentData) (p : Meaning) (made : creation_v3 m ≡ Ok p) where
  own_grid_v3 : (grid_said m.chunk_grid m.shape ≡ Some p.grid) × (p.shape ≡ m.shape)
  unfolding creation_v3
  own_grid_v3 =
      let chain = accepted (said_or codecs (chain_said m.codecs)) _ p made in
      let kind = accepted (said_or data_type (kind_of m.data_type)) _ p chain.rest in
      let grid = accepted (said_or chunk_grid (grid_said m.chunk_grid m.shape)) _ p kind.rest in
      let fill = accepted (said_or (fill_value_metadata m.data_type.name m.fill_value) (fill_said kind.value m.fill_value)) _ p grid.rest in
      let transformers = accepted (said_or storage_transformers (transformers_said m.storage_transformers)) _ p fill.rest in
      let keys = accepted (said_or chunk_key_encoding (key_encoding_of m.chunk_key_encoding)) _ p transformers.rest in
      let names = accepted (names_said (length m.shape) m.dimension_names) _ p keys.rest in
      let parts : record { shape = m.shape; grid = grid.value; keys = keys.value; chain = chain.value; kind = kind.value; fill = fill.value } ≡ p = cc in
      (said_ok chunk_grid _ _ grid.first ∙ ap (λ (q : Meaning). Some q.grid) parts, ap (λ (q : Meaning). q.shape) (sym parts))

  recut_v3 : (shape : List ℕ) (e : ExtensionData) (grid : GridConfiguration) → length shape ≡ length m.shape → grid_said e shape ≡ Some grid
      → creation_v3 (record m { shape = shape; chunk_grid = e }) ≡ Ok (cut_by shape grid p)
  unfolding creation_v3
  recut_v3 shape e grid long said =
      let chain = accepted (said_or codecs (chain_said m.codecs)) _ p made in
      let kind = accepted (said_or data_type (kind_of m.data_type)) _ p chain.rest in
      let old = accepted (said_or chunk_grid (grid_said m.chunk_grid m.shape)) _ p kind.rest in
      let fill = accepted (said_or (fill_value_metadata m.data_type.name m.fill_value) (fill_said kind.value m.fill_value)) _ p old.rest in
      let transformers = accepted (said_or storage_transformers (transformers_said m.storage_transformers)) _ p fill.rest in
      let keys = accepted (said_or chunk_key_encoding (key_encoding_of m.chunk_key_encoding)) _ p transformers.rest in
      let names = accepted (names_said (length m.shape) m.dimension_names) _ p keys.rest in
      goes_on _ _ chain.value _ chain.first
      (goes_on _ _ kind.value _ kind.first
      (goes_on _ _ grid _ (ap (said_or chunk_grid) said)
      (goes_on _ _ fill.value _ fill.first
      (goes_on _ _ transformers.value _ transformers.first
      (goes_on _ _ keys.value _ keys.first
      (goes_on _ _ names.value _ (ap (λ (n : ℕ). names_said n m.dimension_names) long ∙ names.first)
      (ap (all_cut_by shape grid) names.rest)))))))

-- ---- V2 documents

-- the V3 document of a V2 document with another shape and other chunks
module _ (m : DocumentV2Data) (shape chunks : List ℕ) (d : DocumentData) (long : length shape ≡ length m.shape) where
  abbrev cut : DocumentV2Data
  cut = record m { shape = shape; chunks = chunks }

  record IsRecut (r : Result DocumentData ConversionRefusal) : Type 0 where
    converts_to : r ≡ Ok (record d { shape = shape; chunk_grid = regular_extension chunks })
    shape_is : d.shape ≡ m.shape
    grid_is : d.chunk_grid ≡ regular_extension m.chunks

  recut_to_v3 : to_v3 m ≡ Ok d → IsRecut (to_v3 cut)
  unfolding to_v3
  recut_to_v3 is = by_type (type_v2 m.dtype) is
    where
      by_codecs : (t : _) (fill : Data) (b : Bool) → (if b then Ok (converted m t fill) else Err no_codecs) ≡ Ok d → IsRecut (if b then Ok (converted cut t fill) else Err no_codecs)
      by_codecs t fill true made =
          let same : converted m t fill ≡ d = cc in
          record {
            converts_to = ap (λ (n : ℕ). Ok (record (converted cut t fill) { codecs = order_codecs m.order n (cells_codec t ∷ []) })) long
                ∙ ap (λ (x : DocumentData). Ok (record x { shape = shape; chunk_grid = regular_extension chunks })) same;
            shape_is = ap (λ (x : DocumentData). x.shape) (sym same);
            grid_is = ap (λ (x : DocumentData). x.chunk_grid) (sym same);
          }
      by_codecs t fill false made = absurd cc

      by_fill : (t : _) (fill : Option Data) → converted_with_fill m t fill ≡ Ok d → IsRecut (converted_with_fill cut t fill)
      by_fill t None made = absurd cc
      by_fill t (Some fill) made = by_codecs t fill (is_uncompressed t.kind m) made

      by_type : (t : Option _) → converted_with_type m t ≡ Ok d → IsRecut (converted_with_type cut t)
      by_type None made = absurd cc
      by_type (Some t) made = by_fill t (fill_v3 t.kind m.fill_value) made

own_grid_v2 : (m : DocumentV2Data) (p : Meaning) → creation_v2 m ≡ Ok p → (grid_said (regular_extension m.chunks) m.shape ≡ Some p.grid) × (p.shape ≡ m.shape)
own_grid_v2 m p made = go (to_v3 m) refl
  where
    go : (r : Result DocumentData ConversionRefusal) → to_v3 m ≡ r → (grid_said (regular_extension m.chunks) m.shape ≡ Some p.grid) × (p.shape ≡ m.shape)
    go (Ok d) is =
        let same = recut_to_v3 m m.shape m.chunks d refl is in
        let own = own_grid_v3 d p (rw is at made) in
        (ap (λ (s : List ℕ). grid_said (regular_extension m.chunks) s) (sym same.shape_is) ∙ ap (λ (e : ExtensionData). grid_said e d.shape) (sym same.grid_is) ∙ own.0, own.1 ∙ same.shape_is)
    go (Err r) is = absurd (converts m p r made is)

recut_v2 : (m : DocumentV2Data) (p : Meaning) (shape chunks : List ℕ) (grid : GridConfiguration) → creation_v2 m ≡ Ok p → length shape ≡ length m.shape → grid_said (regular_extension chunks) shape ≡ Some grid
    → creation_v2 (record m { shape = shape; chunks = chunks }) ≡ Ok (cut_by shape grid p)
recut_v2 m p shape chunks grid made long said = go (to_v3 m) refl
  where
    go : (r : Result DocumentData ConversionRefusal) → to_v3 m ≡ r → creation_v2 (record m { shape = shape; chunks = chunks }) ≡ Ok (cut_by shape grid p)
    go (Ok d) is =
        let same = recut_to_v3 m shape chunks d long is in
        ap (creation_by (record m { shape = shape; chunks = chunks })) same.converts_to
        ∙ recut_v3 d p (rw is at made) shape (regular_extension chunks) grid (long ∙ sym (ap length same.shape_is)) said
    go (Err r) is = absurd (converts m p r made is)

-- ---- of either version

-- the metadata of an array says its grid and its shape
pub own_grid : (m : MetadataData) (p : Meaning) → creation m ≡ Ok p → (grid_of_metadata m ≡ Some p.grid) × (p.shape ≡ shape_said m)
own_grid (v3 m) p made = own_grid_v3 m p made
own_grid (v2 m) p made = own_grid_v2 m p made

-- the new metadata says the new grid and shape, and else the same; the grid has as many dimensions as before
pub record IsCutAnew (m n : MetadataData) (p : Meaning) (shape : List ℕ) (grid : GridConfiguration) : Type 0 where
  pub says : creation n ≡ Ok (cut_by shape grid p)
  pub dimensions : dimensions_of grid ≡ dimensions_of p.grid

reshaped : (m : MetadataData) (p : Meaning) (shape : List ℕ) (grid : GridConfiguration) → creation m ≡ Ok p → grid_of_metadata (with_shape shape m) ≡ Some grid → IsCutAnew m (with_shape shape m) p shape grid
reshaped (v3 m) p shape grid made said =
    let own = own_grid_v3 m p made in
    let long = one_length m.chunk_grid m.shape shape p.grid grid own.0 said in
    record {
      says = recut_v3 m p made shape m.chunk_grid grid long said;
      dimensions = said_dimensions m.chunk_grid shape grid said ∙ long ∙ sym (said_dimensions m.chunk_grid m.shape p.grid own.0);
    }
reshaped (v2 m) p shape grid made said =
    let own = own_grid_v2 m p made in
    let e = regular_extension m.chunks in
    let long = one_length e m.shape shape p.grid grid own.0 said in
    record {
      says = recut_v2 m p shape m.chunks grid made long said;
      dimensions = said_dimensions e shape grid said ∙ long ∙ sym (said_dimensions e m.shape p.grid own.0);
    }

-- ---- a grid of the same configuration over another shape

over_given : (m : MetadataData) (p : Meaning) (given : ChunkGrid) → grid_of_metadata m ≡ Some p.grid → configuration_of given ≡ p.grid
    → grid_said (grid_metadata_of m) (array_extents_of given) ≡ Some (configuration_of given)
over_given m p given own same =
    let said = (over_taken (configuration_said (grid_metadata_of m)) (shape_said m) p.grid own).0 in
    said_taken (configuration_said (grid_metadata_of m)) (array_extents_of given) (configuration_of given) (said ∙ ap (λ (g : GridConfiguration). Some g) (sym same)) (own_taken given)

-- the shape has as many dimensions as before
pub resized_dimensions : (m : MetadataData) (p : Meaning) (given : ChunkGrid) → creation m ≡ Ok p → configuration_of given ≡ p.grid → length (array_extents_of given) ≡ length (shape_said m)
resized_dimensions m p given made same =
    let own = (own_grid m p made).0 in
    one_length (grid_metadata_of m) (shape_said m) (array_extents_of given) p.grid (configuration_of given) own (over_given m p given own same)

-- the metadata with that shape says it, and else the same
pub is_resized : (m : MetadataData) (p : Meaning) (given : ChunkGrid) → creation m ≡ Ok p → configuration_of given ≡ p.grid
    → IsCutAnew m (with_shape (array_extents_of given) m) p (array_extents_of given) (configuration_of given)
is_resized (v3 m) p given made same = reshaped (v3 m) p (array_extents_of given) (configuration_of given) made (over_given (v3 m) p given (own_grid_v3 m p made).0 same)
is_resized (v2 m) p given made same = reshaped (v2 m) p (array_extents_of given) (configuration_of given) made (over_given (v2 m) p given (own_grid_v2 m p made).0 same)

pub is_reshaped : (m n : MetadataData) (p : Meaning) (shape : List ℕ) (grid : GridConfiguration) → creation m ≡ Ok p → reshaping shape m ≡ Ok n → grid_of_metadata n ≡ Some grid → IsCutAnew m n p shape grid
is_reshaped m n p shape grid made is said =
    let steps = accepted (said_or chunk_grid (grid_of_metadata (with_shape shape m))) (λ given. Ok (with_shape shape m)) n is in
    let same : with_shape shape m ≡ n = cc in
    subst (λ (x : MetadataData). IsCutAnew m x p shape grid) same (reshaped m p shape grid made (ap grid_of_metadata same ∙ said))

abbrev fitting : Bool → ℕ → ℕ → Result (Unit {0}) CreateRefusal
fitting fits given dimensions = if fits then Ok tt else Err (grid_dimensions given dimensions)

fits : (b : Bool) (given dimensions : ℕ) (done : Unit {0}) → (given == dimensions) ≡ b → fitting b given dimensions ≡ Ok done → given ≡ dimensions
fits true given dimensions done same is = eqb-true given dimensions same
fits false given dimensions done same is = absurd cc

regridded : (m n : MetadataData) (p : Meaning) (shape : List ℕ) (e : ExtensionData) (given grid : GridConfiguration) → creation m ≡ Ok p → length shape ≡ length (shape_said m) → with_grid shape e given m ≡ Ok n → grid_of_metadata n ≡ Some grid → IsCutAnew m n p shape grid
regridded (v3 m) n p shape e given grid made long is said =
    let new = v3 (record m { shape = shape; chunk_grid = e }) in
    let same : new ≡ n = cc in
    let own = own_grid_v3 m p made in
    let over : grid_said e shape ≡ Some grid = ap grid_of_metadata same ∙ said in
    subst (λ (x : MetadataData). IsCutAnew (v3 m) x p shape grid) same (record {
      says = recut_v3 m p made shape e grid long over;
      dimensions = said_dimensions e shape grid over ∙ long ∙ sym (said_dimensions m.chunk_grid m.shape p.grid own.0);
    })
regridded (v2 m) n p shape e given grid made long is said =
    let steps = accepted (chunks_said given) (λ chunks. Ok (v2 (record m { shape = shape; chunks = chunks }))) n is in
    let new = v2 (record m { shape = shape; chunks = steps.value }) in
    let rest = steps.rest in
    let same : new ≡ n = cc in
    let own = own_grid_v2 m p made in
    let over : grid_said (regular_extension steps.value) shape ≡ Some grid = ap grid_of_metadata same ∙ said in
    subst (λ (x : MetadataData). IsCutAnew (v2 m) x p shape grid) same (record {
      says = recut_v2 m p shape steps.value grid made long over;
      dimensions = said_dimensions (regular_extension steps.value) shape grid over ∙ long ∙ sym (said_dimensions (regular_extension m.chunks) m.shape p.grid own.0);
    })

pub is_regridded : (m n : MetadataData) (p : Meaning) (shape : List ℕ) (given : Option ExtensionData) (grid : GridConfiguration) → creation m ≡ Ok p → regridding shape given m ≡ Ok n → grid_of_metadata n ≡ Some grid → IsCutAnew m n p shape grid
is_regridded m n p shape given grid made is said =
    let e = accepted (said_or chunk_grid given) _ n is in
    let long = accepted (dimensions_said shape m) _ n e.rest in
    let cut = accepted (said_or chunk_grid (grid_said e.value shape)) _ n long.rest in
    regridded m n p shape e.value cut.value grid made (fits (length shape == length (shape_said m)) (length shape) (length (shape_said m)) long.value refl long.first) cut.rest said
