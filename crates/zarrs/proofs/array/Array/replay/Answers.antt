use Rattle.std.proofs.Common.{List, ℕ, length, refl, ap, ◌∙◌, rules}
use Rattle.std.proofs.lemmas.Result.{err_from_is_err_and}
use Rattle.zarrs_metadata.specs.Versions.{metadata_view}
use Rattle.zarrs_chunk_grid.specs.GridView.{array_extents_of}
use Rattle.zarrs_engine.specs.Engine.{grid_of}
use Rattle.zarrs_creation.specs.Changes.{with_shape}
use Rattle.zarrs.proofs.Layouts.{parts_are}
use Rattle.zarrs.proofs.Regridded.{one_configuration, shape_fits, shape_kept, layout_same, agrees_resized}
use Rattle.zarrs.proofs.array.Array.replay.Goals as goal

pub returns-in_err-replies : goal.returns-in_err-replies
returns-in_err-replies g c =
    let old = c.args.self.now in
    let made = c.in_err-replies.ensures in
    let p = err_from_is_err_and c.from_residual.result c.from_residual.ensures.1 in
    rw (p.1, p.2) (record {
      run = tt;
      untouched = search rules;
      layout = made.layout;
      kept = record {
        others = made.others;
        metadata = shape_kept (metadata_view old.metadata) old.engine c.replay.new.engine (parts_are old) (layout_same old.engine c.replay.new.engine made.untouched);
        codec_options = refl;
        codec_specific_options = refl;
        metadata_options = refl;
      };
      reach = made.reach;
      bytes = made.bytes;
    })

pub overwrite_shape-requires : goal.overwrite_shape-requires
overwrite_shape-requires g c =
    let old = c.args.self.now in
    let new = c.replay.new.engine in
    let others = c.in_ok-replies.ensures.others in
    let same = one_configuration (grid_of new) (grid_of old.engine) others.extension in
    ap length (c.array_shape.ensures.value ∙ ap array_extents_of c.chunk_grid.ensures) ∙ shape_fits (metadata_view old.metadata) old.engine new (parts_are old) others same

pub invariant_of-self-2 : goal.invariant_of-self-2
invariant_of-self-2 g c =
    let old = c.args.self.now in
    let new = c.replay.new.engine in
    let m = metadata_view old.metadata in
    let others = c.in_ok-replies.ensures.others in
    let same = one_configuration (grid_of new) (grid_of old.engine) others.extension in
    let shaped = c.overwrite_shape.ensures ∙ ap (λ (s : List ℕ). with_shape s m) (c.array_shape.ensures.value ∙ ap array_extents_of c.chunk_grid.ensures) in
    record { agrees = agrees_resized m old.engine new (parts_are old) others same c.overwrite_shape.new.metadata shaped }

pub returns : goal.returns
returns g c =
    let made = c.in_ok-replies.ensures in
    record {
      run = made.run;
      untouched = tt;
      layout = made.layout;
      kept = record {
        others = made.others;
        metadata = c.overwrite_shape.ensures ∙ ap (λ (s : List ℕ). with_shape s (metadata_view c.args.self.now.metadata)) (c.array_shape.ensures.value ∙ ap array_extents_of c.chunk_grid.ensures);
        codec_options = refl;
        codec_specific_options = refl;
        metadata_options = refl;
      };
      reach = made.reach;
      bytes = made.bytes;
    }
