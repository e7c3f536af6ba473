-- What calls that make the parts of an array of its metadata end in.
use Rattle.std.specs.Prelude.{◌≡◌, Option, Some, Result, Ok, IfOk, IfErr, IsSome}
use Rattle.zarrs_data_type.specs.Cell.{fill_cell}
use Rattle.zarrs_data_type.specs.Kind.{kind}
use Rattle.zarrs_options.specs.Refusals.{CreateRefusal, create_refusal_of, said_or, RefusesCreation}
use Rattle.zarrs_options.specs.declared.error.ArrayCreateError.{ArrayCreateError}
use Rattle.zarrs_creation.specs.Meanings.{Meaning, meaning_with}
use Rattle.zarrs_creation.specs.declared.parts.ArrayParts.{ArrayParts}

-- the part that metadata says was made; or it says none, and this is refused
pub record MakesPart {T A : Type 0} (refusal : CreateRefusal) (said : Option A) (means : T → A) (result : Result T ArrayCreateError) : Type 0 where
  pub made : IfOk result (λ part. said ≡ Some (means part))
  pub refused : IfErr result (λ e. RefusesCreation (said_or refusal said) (create_refusal_of e))

-- all parts that metadata says were made, and the fill value is one of the data type; or the first refusal
pub record MakesParts (said : Result Meaning CreateRefusal) (result : Result ArrayParts ArrayCreateError) : Type 0 where
  pub made : IfOk result (λ parts. said ≡ Ok (meaning_with parts.grid parts.keys parts.chain parts.data_type parts.fill_value))
  pub filled : IfOk result (λ parts. IsSome (fill_cell (kind parts.data_type) parts.fill_value))
  pub refused : IfErr result (λ e. RefusesCreation said (create_refusal_of e))
