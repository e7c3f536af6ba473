-- Which refusal of a builder comes first.
use Rattle.std.proofs.Common.{◌≡◌, ◌==◌, ℕ, ◌<◌, Bool, true, false, List, [], ◌∷◌, length, Option, Some, None, Result, Ok, refl, sym, ap, subst, ◌∙◌, cond, arith}
use Rattle.std.specs.Prelude.{option_and_then}
use Rattle.std.specs.Int.NonZero.{non_zero_u64_get}
use Rattle.std.specs.List.{list_any}
use Rattle.std.specs.declared.num.NonZeroU64.{NonZeroU64}
use Rattle.std.proofs.lemmas.Bool.Decides.{nat_tests}
use Rattle.serde_json.specs.Data.{Data}
use Rattle.zarrs_metadata_parts.specs.Extension.{ExtensionData}
use Rattle.zarrs_keys.specs.Metadata.{key_encoding_of, extension_of_encoding}
use Rattle.zarrs_chunk_grid.specs.Configurations.{GridConfiguration}
use Rattle.zarrs_chunk_grid.specs.GridView.{configuration_of, array_extents_of}
use Rattle.zarrs_chunk_grid.specs.Metadata.{grid_said, over_shape, extension_of_grid}
use Rattle.zarrs_chunk_grid.specs.declared.grid.ChunkGrid.{ChunkGrid}
use Rattle.zarrs_chunk_grid.proofs.ConfigurationLemmas.{own_taken}
use Rattle.zarrs_chunk_grid.proofs.MetadataLemmas.{said_back}
use Rattle.zarrs_data_type.specs.FillMetadata.{fill_said}
use Rattle.zarrs_data_type.specs.TypeMetadata.{is_readable}
use Rattle.zarrs_data_type_kinds.proofs.TypeReading.{kind_of-extension}
use Rattle.zarrs_data_type.specs.Kind.{Kind}
use Rattle.zarrs_metadata_parts.specs.Lists.{sizes_of}
use Rattle.zarrs_codec.specs.Metadata.{chain_said, extensions_of_chain}
use Rattle.zarrs_codec.specs.Configurations.{ChainData}
use Rattle.zarrs_metadata_v3.specs.Document.{DocumentData}
use Rattle.zarrs_metadata.specs.Versions.{v3}
use Rattle.zarrs_options.specs.Refusals.{CreateRefusal, data_type, chunk_grid, said_or, RefusesCreation}
use Rattle.zarrs_creation.proofs.Order.{bound, all_said}
use Rattle.zarrs_creation.specs.Meanings.{Meaning, creation_v3, names_said, path_said, created}
use Rattle.zarrs_builder.specs.Given.{FillData, fill_chosen}
use Rattle.zarrs_builder.specs.Builders.{BuilderData, FieldsData, fields_of}
use Rattle.zarrs_builder.specs.Built.{codecs_chosen, sizes_said, cut_into, chain_chosen, grid_chosen, fill_stated, ChosenData, chosen, document_with, document_of_fields, parts_of_fields, built, built_at, built_metadata}

-- each field found memory
pub all_found : (b : BuilderData) (s : List ℕ) → b.shape ≡ Some s → (g : Option ExtensionData) → b.chunk_grid ≡ Some g → (k : Option Kind) → b.data_type ≡ Some k → (f : FillData) → b.fill_value ≡ Some f → (n : Option (List (Option (List ℕ)))) → b.dimension_names ≡ Some n → (sub : Option (List ℕ)) → b.subchunk_shape ≡ Some sub
    → fields_of b ≡ Some (record { shape = s; chunk_grid = g; data_type = k; fill_value = f; dimension_names = n; subchunk_shape = sub })
unfolding fields_of
all_found b s e1 g e2 k e3 f e4 n e5 sub e6 = rw (e1, e2, e3, e4, e5, e6) refl

-- ---- what the fields say

none_zero : (sizes : List NonZeroU64) → list_any (λ extent. extent == 0) (sizes_of sizes) ≡ false
none_zero [] = refl
none_zero (size ∷ sizes) =
    let above : 0 < non_zero_u64_get size = size.ok in
    let test : (non_zero_u64_get size == 0) ≡ false = grind (arith, nat_tests) in
    rw test (none_zero sizes)

-- sizes that are not 0
pub sized : (sizes : List NonZeroU64) (shape : List ℕ) → sizes_of sizes ≡ shape → sizes_said shape ≡ Ok tt
sized sizes shape is = subst (λ (s : List ℕ). sizes_said s ≡ Ok tt) is (rw (none_zero sizes) refl)

-- subchunks of these sizes, which these codecs encode
pub chain_cut : (sizes : List NonZeroU64) (shape : List ℕ) (given codecs chain : ChainData) → sizes_of sizes ≡ shape → given ≡ codecs → chain ≡ cut_into (sizes_of sizes) given → chain_chosen (Some shape) codecs ≡ Ok chain
chain_cut sizes shape given codecs chain is same made =
    let cut : cut_into (sizes_of sizes) given ≡ cut_into shape codecs = λ i. cut_into (is i) (same i) in
    rw (sized sizes shape is) (ap Ok (sym (made ∙ cut)))

module _ (b : BuilderData) (f : FieldsData) (r : CreateRefusal) where
  pub at_type : RefusesCreation (said_or data_type f.data_type) r → RefusesCreation (chosen b f) r
  unfolding chosen
  at_type is = bound _ _ r is

  module _ (k : Kind) (e1 : f.data_type ≡ Some k) where
    pub at_chain : RefusesCreation (chain_chosen f.subchunk_shape (codecs_chosen b k)) r → RefusesCreation (chosen b f) r
    unfolding chosen
    at_chain is = rw e1 (bound _ _ r is)

    module _ (chain : ChainData) (e2 : chain_chosen f.subchunk_shape (codecs_chosen b k) ≡ Ok chain) where
      pub at_grid : RefusesCreation (said_or chunk_grid (grid_chosen f.chunk_grid f.shape)) r → RefusesCreation (chosen b f) r
      unfolding chosen
      at_grid is = rw (e1, e2) (bound _ _ r is)

      module _ (grid : GridConfiguration) (e3 : grid_chosen f.chunk_grid f.shape ≡ Some grid) where
        pub at_fill : RefusesCreation (fill_chosen k f.fill_value) r → RefusesCreation (chosen b f) r
        unfolding chosen
        at_fill is = rw (e1, e2, e3) (bound _ _ r is)

        module _ (fill : List ℕ) (e4 : fill_chosen k f.fill_value ≡ Ok fill) where
          pub at_names : RefusesCreation (names_said (length f.shape) f.dimension_names) r → RefusesCreation (chosen b f) r
          unfolding chosen
          at_names is = rw (e1, e2, e3, e4) (bound _ _ r is)

          module _ (e5 : names_said (length f.shape) f.dimension_names ≡ Ok tt) where
            pub at_stated : RefusesCreation (fill_stated k fill) r → RefusesCreation (chosen b f) r
            unfolding chosen
            at_stated is = rw (e1, e2, e3, e4, e5) (bound _ _ r is)

pub all_chosen : (b : BuilderData) (f : FieldsData) (k : Kind) → f.data_type ≡ Some k → (chain : ChainData) → chain_chosen f.subchunk_shape (codecs_chosen b k) ≡ Ok chain
    → (grid : GridConfiguration) → grid_chosen f.chunk_grid f.shape ≡ Some grid → (fill : List ℕ) → fill_chosen k f.fill_value ≡ Ok fill
    → names_said (length f.shape) f.dimension_names ≡ Ok tt → (stated : Data) → fill_stated k fill ≡ Ok stated
    → chosen b f ≡ Ok (record { kind = k; chain = chain; grid = grid; fill = fill; fill_value = stated })
unfolding chosen
all_chosen b f k e1 chain e2 grid e3 fill e4 e5 stated e6 = rw (e1, e2, e3, e4, e5, e6) refl

-- ---- the array

module _ (b : BuilderData) (f : FieldsData) (e : fields_of b ≡ Some f) where
  pub built_refused : (r : CreateRefusal) → RefusesCreation (document_of_fields b f) r → RefusesCreation (built b) r
  built_refused r is = rw e is

  pub is_built : (m : DocumentData) → document_of_fields b f ≡ Ok m → built b ≡ Ok m
  is_built m is = rw e is

  pub metadata_built : (m : DocumentData) → document_of_fields b f ≡ Ok m → built_metadata b ≡ Ok (v3 m)
  metadata_built m is = rw (e, is) refl

  module _ (path : List ℕ) (r : CreateRefusal) where
    pub at_path : RefusesCreation (path_said path) r → RefusesCreation (built_at path b) r
    at_path is = rw e (bound _ _ r is)

    module _ (valid : path_said path ≡ Ok tt) where
      pub at_chosen : RefusesCreation (chosen b f) r → RefusesCreation (built_at path b) r
      at_chosen is = rw (e, valid) (bound _ _ r is)

      module _ (c : ChosenData) (made : chosen b f ≡ Ok c) where
        pub at_creation : (m : DocumentData) → creation_v3 m ≡ parts_of_fields b f c → RefusesCreation (created path (v3 m)) r → RefusesCreation (built_at path b) r
        at_creation m says is =
            let refused : RefusesCreation (creation_v3 m) r = rw valid at is in
            rw (e, valid, made) (subst (λ (x : Result Meaning CreateRefusal). RefusesCreation x r) says refused)

  -- what creation makes of the document
  pub parts_built : (path : List ℕ) (c : ChosenData) (m : DocumentData) (parts : Meaning) → path_said path ≡ Ok tt → chosen b f ≡ Ok c → creation_v3 m ≡ parts_of_fields b f c → creation_v3 m ≡ Ok parts → built_at path b ≡ Ok parts
  parts_built path c m parts valid made says is = rw (e, valid, made) (sym says ∙ is)

-- the document of what is chosen
pub document_made : (b : BuilderData) (f : FieldsData) (c : ChosenData) → chosen b f ≡ Ok c → (m : DocumentData) → m ≡ document_with b f c → document_of_fields b f ≡ Ok m
document_made b f c made m is = rw made (ap Ok (sym is))

-- what is chosen is refused, and so is its document
pub document_refused : (b : BuilderData) (f : FieldsData) (r : CreateRefusal) → RefusesCreation (chosen b f) r → RefusesCreation (document_of_fields b f) r
document_refused b f r is = bound _ _ r is

-- ---- what creation makes of the document of a builder

-- what is written for a grid reads as that grid over its own shape
pub grid_back : (g : ChunkGrid) (shape : List ℕ) → array_extents_of g ≡ shape → grid_said (extension_of_grid (configuration_of g)) shape ≡ Some (configuration_of g)
grid_back g shape over =
    subst (λ (s : List ℕ). grid_said (extension_of_grid (configuration_of g)) s ≡ Some (configuration_of g)) over
    (ap (option_and_then (over_shape (array_extents_of g))) (said_back g) ∙ ap (λ (t : Bool). cond t (Some (configuration_of g)) None) (own_taken g))

pub document_creates : (b : BuilderData) (f : FieldsData) (c : ChosenData) (m : DocumentData) → m ≡ document_with b f c → chain_said (extensions_of_chain c.chain) ≡ Some c.chain → grid_said (extension_of_grid c.grid) f.shape ≡ Some c.grid
    → fill_said c.kind c.fill_value ≡ Some c.fill → key_encoding_of (extension_of_encoding b.chunk_key_encoding) ≡ Some b.chunk_key_encoding → names_said (length f.shape) f.dimension_names ≡ Ok tt
    → creation_v3 m ≡ parts_of_fields b f c
document_creates b f c m written chain grid fill keys named = ap creation_v3 written ∙ go (is_readable c.kind) refl
  where
    go : (r : Bool) → is_readable c.kind ≡ r → creation_v3 (document_with b f c) ≡ parts_of_fields b f c
    go true is = all_said (document_with b f c) c.chain chain c.kind (kind_of-extension c.kind is) c.grid grid c.fill fill refl b.chunk_key_encoding keys named ∙ rw is refl
    go false is = rw is refl
