-- A refusal of a part is one of the whole.
use Rattle.std.proofs.Common.{◌≡◌, Option, None, Result, sym, subst}
use Rattle.std.specs.Result.{IsErrAnd}
use Rattle.std.proofs.lemmas.Result.{err_from_is_err_and}
use Rattle.zarrs_metadata_parts.specs.declared.error.MetadataError.{MetadataError}
use Rattle.zarrs_metadata_parts.specs.declared.error.MetadataError.TheVariants.{InvalidShape, OutOfMemory}
use Rattle.zarrs_metadata_v3.specs.declared.unread.Unread.{Unread}
use Rattle.zarrs_metadata_v3.specs.Refusals.{RefusesReading, metadata_error_of, Reads}

-- what says nothing where a part says nothing is refused where the part is
pub refuses_on : {A B : Type 0} (part : Option A) (whole : Option B) (e : MetadataError) → (part ≡ None → whole ≡ None) → RefusesReading part e → RefusesReading whole e
refuses_on part whole InvalidShape on h = on h
refuses_on part whole OutOfMemory on h = tt

pub refuses_nothing : {A : Type 0} (o : Option A) (e : MetadataError) → o ≡ None → RefusesReading o e
refuses_nothing o InvalidShape none = none
refuses_nothing o OutOfMemory none = tt

-- a refusal that is passed on
pub reads_refused : {A B : Type 0} (shown : A → B) (said : Option B) (r : Result A Unread) (e : Unread) → IsErrAnd r (λ y. y ≡ e) → RefusesReading said (metadata_error_of e) → Reads shown said r
reads_refused shown said r e is here =
    let p = err_from_is_err_and r is in
    subst (Reads shown said) (sym p.1) (subst (λ (y : Unread). RefusesReading said (metadata_error_of y)) (sym p.2) here)
