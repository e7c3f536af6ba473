use Rattle.std.proofs.Common.{List, ℕ, length, refl, ap, ◌∙◌}
use Rattle.std.proofs.lemmas.Result.{err_from_is_err_and}
use Rattle.zarrs_metadata.specs.Versions.{metadata_view}
use Rattle.zarrs_chunk_grid.specs.GridView.{array_extents_of}
use Rattle.zarrs_engine.specs.Engine.{grid_of}
use Rattle.zarrs_creation.specs.Changes.{with_shape}
use Rattle.zarrs.proofs.Layouts.{parts_are}
use Rattle.zarrs.proofs.Regridded.{one_configuration, shape_fits, shape_kept, agrees_resized}
use Rattle.zarrs.proofs.array.Array.resize.Goals as goal

pub returns-in_err-resize : goal.returns-in_err-resize
returns-in_err-resize g c =
    let old = c.args.self.now in
    let made = c.in_err-resize.ensures in
    let p = err_from_is_err_and c.from_residual.result c.from_residual.ensures.1 in
    rw (p.1, p.2) (record {
      done = tt;
      metadata = tt;
      shape = tt;
      refused = made.refused;
      canonical = made.canonical;
      layout = made.layout;
      untouched = record { layout_kept = made.layout_kept; metadata = refl; codec_options = refl; codec_specific_options = refl; metadata_options = refl };
      kept = record {
        others = made.others;
        metadata = shape_kept (metadata_view old.metadata) old.engine c.resize.new.self (parts_are old) made.layout_kept;
        codec_options = refl;
        codec_specific_options = refl;
        metadata_options = refl;
      };
    })

pub overwrite_shape-requires : goal.overwrite_shape-requires
overwrite_shape-requires g c =
    let old = c.args.self.now in
    let new = c.resize.new.self in
    let others = c.in_ok-resize.ensures.others in
    let same = one_configuration (grid_of new) (grid_of old.engine) others.extension in
    ap length (c.array_shape.ensures.value ∙ ap array_extents_of c.chunk_grid.ensures) ∙ shape_fits (metadata_view old.metadata) old.engine new (parts_are old) others same

pub invariant_of-self-2 : goal.invariant_of-self-2
invariant_of-self-2 g c =
    let old = c.args.self.now in
    let new = c.resize.new.self in
    let m = metadata_view old.metadata in
    let others = c.in_ok-resize.ensures.others in
    let same = one_configuration (grid_of new) (grid_of old.engine) others.extension in
    let shaped = c.overwrite_shape.ensures ∙ ap (λ (s : List ℕ). with_shape s m) (c.array_shape.ensures.value ∙ ap array_extents_of c.chunk_grid.ensures) in
    record { agrees = agrees_resized m old.engine new (parts_are old) others same c.overwrite_shape.new.metadata shaped }

pub returns : goal.returns
returns g c =
    let shaped = c.overwrite_shape.ensures ∙ ap (λ (s : List ℕ). with_shape s (metadata_view c.args.self.now.metadata)) (c.array_shape.ensures.value ∙ ap array_extents_of c.chunk_grid.ensures) in
    let metadata = c.overwrite_shape.ensures ∙ ap (λ (s : List ℕ). with_shape s (metadata_view c.args.self.now.metadata)) (c.array_shape.ensures.value ∙ ap array_extents_of c.chunk_grid.ensures ∙ c.in_ok-resize.ensures.shape) in
    record {
      done = c.in_ok-resize.ensures.done;
      metadata = metadata;
      shape = c.in_ok-resize.ensures.shape;
      refused = tt;
      canonical = c.in_ok-resize.ensures.canonical;
      layout = c.in_ok-resize.ensures.layout;
      untouched = tt;
      kept = record { others = c.in_ok-resize.ensures.others; metadata = shaped; codec_options = refl; codec_specific_options = refl; metadata_options = refl };
    }
