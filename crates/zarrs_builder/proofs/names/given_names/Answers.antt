use Rattle.std.proofs.lemmas.Slice.Zip.{all_zipped_more}
use Rattle.zarrs_builder.proofs.names.given_names.Goals as goal

pub loop-name-preserved : goal.loop-name-preserved
loop-name-preserved g c =
    rw c.in_ok-push.ensures.items (all_zipped_more g.D.IntoField.gives _ _ _ _ c.loop-name.invariant c.in_ok-into_field.ensures)
