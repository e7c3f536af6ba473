-- Which arrays take a configuration, and what a grid's own configuration is.
use Rattle.std.proofs.Common.{◌≡◌, ◌≢◌, ℕ, true, false, List, length, Some, Option, refl, subst, eq-eqb}
use Rattle.std.proofs.Common.{option_and_then, ap, ◌∙◌}
use Rattle.std.specs.Int.NonZero.{non_zero_u64_get}
use Rattle.std.specs.declared.num.NonZeroU64.{NonZeroU64}
use Rattle.std.proofs.lemmas.Bool.{ne_eqb, and_from}
use Rattle.std.proofs.lemmas.List.{length-map}
use Rattle.zarrs_metadata_parts.specs.Refusals.{RefusesMeaning}
use Rattle.zarrs_metadata_parts.specs.declared.error.PluginCreateError.{PluginCreateError}
use Rattle.zarrs_metadata_parts.specs.declared.error.PluginCreateError.TheVariants as plugin
use Rattle.zarrs_metadata_parts.specs.Lists.{sizes_of}
use Rattle.zarrs_chunk_grid.specs.Configurations.{GridConfiguration, regular, bounded, chunk_counts, dimensions_of, fills_shape, grid_of, takes_shape, counts_of, sizes_view}
use Rattle.zarrs_chunk_grid.specs.Metadata.{over_shape}
use Rattle.zarrs_chunk_grid.specs.GridView.{configuration_of, array_extents_of, grid_extents_of}
use Rattle.zarrs_chunk_grid.specs.Refusals.{RefusesGrid, KeepsMemory}
use Rattle.zarrs_chunk_grid.specs.declared.error.GridError.{GridError}
use Rattle.zarrs_chunk_grid.specs.declared.error.GridError.TheVariants as error
use Rattle.zarrs_chunk_grid.specs.declared.grid.ChunkGrid.{ChunkGrid}
use Rattle.zarrs_chunk_grid.specs.declared.grid.ChunkGrid.TheVariants.{Regular, RegularBounded, Rectangular}

-- ---- the configuration of a grid is one over an array of its shape

pub taken_from : (configuration : GridConfiguration) (shape : List ℕ) → dimensions_of configuration ≡ length shape
    → fills_shape configuration shape ≡ true → takes_shape configuration shape ≡ true
taken_from configuration shape long fills = and_from _ _ (eq-eqb _ _ long) fills

pub own_taken : (g : ChunkGrid) → takes_shape (configuration_of g) (array_extents_of g) ≡ true
own_taken (Regular g) =
    taken_from (configuration_of (Regular g)) g.array_shape.items
    (length-map g.chunk_shape.items non_zero_u64_get ∙ g.chunk_dimensions) refl
own_taken (RegularBounded g) =
    taken_from (configuration_of (RegularBounded g)) g.whole.array_shape.items
    (length-map g.whole.chunk_shape.items non_zero_u64_get ∙ g.whole.chunk_dimensions) refl
own_taken (Rectangular g) =
    taken_from (configuration_of (Rectangular g)) g.array_shape.items
    (length-map g.sizes.items sizes_view ∙ g.sizes_dimensions) g.filled

pub own_counts : (g : ChunkGrid) → grid_extents_of g ≡ counts_of (configuration_of g) (array_extents_of g)
own_counts (Regular g) = g.counted
own_counts (RegularBounded g) = g.whole.counted
own_counts (Rectangular g) = g.counted

-- ---- which configurations are grids over a shape

not_taken : (configuration : GridConfiguration) (shape : List ℕ) (e : GridError) → RefusesGrid configuration shape e
    → e ≢ error.OutOfMemory → takes_shape configuration shape ≡ false
not_taken configuration shape (error.IncompatibleDimensionality mismatch) r memory =
    rw (ne_eqb (dimensions_of configuration) (length shape) r.0) refl
not_taken configuration shape error.UnequalExtent r memory = rw (eq-eqb _ _ r.0) r.1
not_taken configuration shape error.OutOfMemory r memory = absurd (memory refl)

-- ---- a grid of chunks of one shape that was made

-- what was made has these sizes, and lies over an array of this shape
pub regular_made : (made chunks : List NonZeroU64) (own shape : List ℕ) → made ≡ chunks → own ≡ shape
    → grid_of (regular (sizes_of made)) own ≡ grid_of (regular (sizes_of chunks)) shape
regular_made made chunks own shape same_chunks same_shape =
    ap (λ xs. grid_of (regular (sizes_of xs)) own) same_chunks ∙ ap (λ xs. grid_of (regular (sizes_of chunks)) xs) same_shape

pub bounded_made : (made chunks : List NonZeroU64) (own shape : List ℕ) → made ≡ chunks → own ≡ shape
    → grid_of (bounded (sizes_of made)) own ≡ grid_of (bounded (sizes_of chunks)) shape
bounded_made made chunks own shape same_chunks same_shape =
    ap (λ xs. grid_of (bounded (sizes_of xs)) own) same_chunks ∙ ap (λ xs. grid_of (bounded (sizes_of chunks)) xs) same_shape

pub counts_made : (made chunks : List NonZeroU64) (own shape counts : List ℕ) → counts ≡ chunk_counts own (sizes_of made) → made ≡ chunks → own ≡ shape
    → counts ≡ chunk_counts shape (sizes_of chunks)
counts_made made chunks own shape counts counted same_chunks same_shape =
    counted ∙ ap (λ xs. chunk_counts own (sizes_of xs)) same_chunks ∙ ap (λ xs. chunk_counts xs (sizes_of chunks)) same_shape

pub taken_alike : (configuration : List ℕ → GridConfiguration) (chunks : List NonZeroU64) (shape : List ℕ)
    → dimensions_of (configuration (sizes_of chunks)) ≡ length (sizes_of chunks) → fills_shape (configuration (sizes_of chunks)) shape ≡ true
    → length chunks ≡ length shape → takes_shape (configuration (sizes_of chunks)) shape ≡ true
taken_alike configuration chunks shape dimensions fills long =
    taken_from (configuration (sizes_of chunks)) shape (dimensions ∙ length-map chunks non_zero_u64_get ∙ long) fills

-- the configuration that was said, once there is a grid of it
pub said_taken : (said : Option GridConfiguration) (shape : List ℕ) (configuration : GridConfiguration)
    → said ≡ Some configuration → takes_shape configuration shape ≡ true
    → option_and_then (over_shape shape) said ≡ Some configuration
said_taken said shape configuration is taken =
    ap (λ (o : Option GridConfiguration). option_and_then (over_shape shape) o) is ∙ rw taken refl

-- and once there is none
pub said_refused : (said : Option GridConfiguration) (shape : List ℕ) (configuration : GridConfiguration) (e : GridError)
    (refusal : PluginCreateError) → said ≡ Some configuration → RefusesGrid configuration shape e
    → KeepsMemory e refusal → RefusesMeaning (option_and_then (over_shape shape) said) refusal
said_refused said shape configuration e (plugin.Other text) is refuses keeps =
    let memory : e ≢ error.OutOfMemory = λ same.
    (let kept : plugin.Other text ≡ plugin.OutOfMemory = subst (λ e. KeepsMemory e (plugin.Other text)) same keeps in cc) in
    let not = not_taken configuration shape e refuses memory in
    ap (λ (o : Option GridConfiguration). option_and_then (over_shape shape) o) is ∙ rw not refl
said_refused said shape configuration e plugin.OutOfMemory is refuses keeps = tt
