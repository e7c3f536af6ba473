use Rattle.std.proofs.Common.{◌≡◌, arith, ap, sym, ◌∙◌, ◌<◌, ◌++◌, ◌∷◌, [], subst}
use Rattle.std.specs.Prelude.{All}
use Rattle.std.proofs.Common.{length}
use Rattle.zarrs_data_type_bytes.specs.Present.{ArePlacesSet}
use Rattle.zarrs_data_type_bytes.proofs.Places.{are_places, places_set}
use Rattle.zarrs_data_type_bytes.proofs.Presence.{places-set, places-unset, All-pushed}
use Rattle.zarrs_data_type_bytes.proofs.array_bytes.gather.places_set.Goals as goal
use Rattle.zarrs_data_type_bytes.proofs.array_bytes.gather.places_set.Goals.{then-mask-index-ne0+in_ok-push, else-mask-index-ne0}

pub loop-index-preserved : goal.loop-index-preserved
loop-index-preserved c =
    let mask = c.args.mask.now in
    let n = c.loop-index.index in
    elim c.if-mask-index-ne0.branch [
      | then-mask-index-ne0+in_ok-push w ↦
          let pushed = ap (λ v. v.items) w.places-is ∙ w.in_ok-push.ensures.items in
          record {
            places = pushed ∙ ap (λ l. l ++ n ∷ []) c.loop-index.invariant.places ∙ sym (places-set mask n w.if-mask-index-ne0.true);
            within = subst (λ l. All (λ p. p < length mask) l) (sym pushed) (All-pushed (length mask) c.loop-index.places.items n c.loop-index.invariant.within c.loop-index-test.true);
          }
      | else-mask-index-ne0 w ↦
          let same = ap (λ v. v.items) w.places-is in
          record {
            places = same ∙ c.loop-index.invariant.places ∙ sym (places-unset mask n w.if-mask-index-ne0.false);
            within = subst (λ l. All (λ p. p < length mask) l) (sym same) c.loop-index.invariant.within;
          }
    ]

pub returns-clause-places : goal.returns-clause-places
returns-clause-places c =
    let mask = c.args.mask.now in
    let done : c.loop-index.index ≡ length mask = omega arith in
    subst (λ places. ArePlacesSet mask places) (sym (c.loop-index.invariant.places ∙ ap (places_set mask) done)) (are_places mask)
