use Rattle.std.proofs.Common.{ap, refl}
use Rattle.zarrs.specs.Agreement.{meaning_of, Agrees, Agrees-prop}
use Rattle.zarrs.specs.Lending.{still_says, with_attributes}
use Rattle.zarrs.proofs.array.Array.attributes_mut.Goals as goal

pub invariant_of-self-lent : goal.invariant_of-self-lent
invariant_of-self-lent g c = λ w. (still_says c.args.self.now.metadata w (meaning_of c.args.self.now.engine) c.args.self.now.agrees, tt)

pub returns : goal.returns
returns g c =
    let array = c.args.self.now in (
      (
        refl {a = c.attributes_in.result.ghost_name},
        λ w. ap (λ (agrees : Agrees array.engine (with_attributes array.metadata w)). record {
          engine = array.engine;
          metadata = with_attributes array.metadata w;
          codec_options = array.codec_options;
          codec_specific_options = array.codec_specific_options;
          metadata_options = array.metadata_options;
          agrees = agrees;
        }) (Agrees-prop array.engine (with_attributes array.metadata w) _ _),
      ),
      record { writes_back = tt; value = c.attributes_in.ensures.value },
    )
