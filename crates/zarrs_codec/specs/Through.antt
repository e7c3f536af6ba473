-- Chains behind codecs that make an array of an array.
use Rattle.std.proofs.Common.{◌≡◌, ℕ, ◌*◌, ◌<◌, ◌^◌, Bool, true, false, ◌&&◌, ◌||◌, List, length, Option, None, Some, refl, sym, ap, ◌∙◌}
use Rattle.zarrs_data_type.specs.Kind.{Kind, cell_size}
use Rattle.zarrs_data_type.specs.Cell.{Cell, are_values, held_size, is_value}
use Rattle.zarrs_subset.specs.Boxes.{position_count}
use Rattle.zarrs_codec_array.specs.Arrays.{ArrayMeaning, IsLawfulArray}
use Rattle.std.specs.Prelude.{nat_le, option_and_then, if◌then◌else◌}
use Rattle.std.proofs.lemmas.Bool.{and_right, lt-leb}
use Rattle.zarrs_codec_chain.proofs.DecidingPlaces.{all_decide}
use Rattle.zarrs_codec_chain.specs.Places.{all_places, all_places-inside, places_behind}
use Rattle.zarrs_codec_shard.specs.Steps.{given_if}
use Rattle.zarrs_codec_shard.proofs.Missing.{bind_parts, given_if-parts, given_if-true}
use Rattle.zarrs_codec_chain.specs.Chain.{ChainMeaning, IsLawfulChain, decodes_stored, is_too_large}
use Rattle.zarrs_data_type_bytes.proofs.FixedSizes.{some_is}

-- the chain `m` behind codecs that make an array of an array
abbrev pub through : ArrayMeaning → ChainMeaning → ChainMeaning
through a m = record {
  fits = λ k s. a.fits s && m.fits k (a.shape s);
  encoded = λ empty k f s cs. given_if (a.fits s) (m.encoded empty k f (a.shape s) (a.forward s cs));
  decoded = λ k f s b. given_if (a.fits s) (option_and_then (λ cs. Some (a.back s cs)) (m.decoded k f (a.shape s) b));
  compacts = m.compacts;
  compacted = λ s b. if m.compacts then given_if (a.fits s) (m.compacted (a.shape s) b) else Some None;
  leaves_out = λ s b. a.fits s && m.leaves_out (a.shape s) b;
  encodes_partly = false;
  partly_encoded = λ empty k f s stored part cs. None;
  places = all_places;
  reads_too_large = λ k f s part b. is_too_large (a.fits s && m.leaves_out (a.shape s) b) k f s;
  partly_decodes = λ k f s stored part.
      decodes_stored (λ b. given_if (a.fits s) (option_and_then (λ cs. Some (a.back s cs)) (m.decoded k f (a.shape s) b))) stored;
  partly_too_large = λ k f s stored part. false;
}

-- the same, where it is said whether there is no such codec: parts are written, and read by themselves, only then
abbrev pub through_all : (none : Bool) → ArrayMeaning → ChainMeaning → ChainMeaning
through_all none a m = record (through a m) {
  encodes_partly = none && m.encodes_partly;
  partly_encoded = λ empty k f s stored part cs. given_if none (m.partly_encoded empty k f s stored part cs);
  places = places_behind none m.places;
  reads_too_large = λ k f s part b. if none then m.reads_too_large k f s part b else (through a m).reads_too_large k f s part b;
  partly_decodes = λ k f s stored part.
      if none then m.partly_decodes k f s stored part else (through a m).partly_decodes k f s stored part;
  partly_too_large = λ k f s stored part. none && m.partly_too_large k f s stored part;
}

-- a chunk is not too large if neither its cells nor its fill are
pub not_too_large : (leaves_out : Bool) (k : Kind) (f : Cell) (s : List ℕ)
    → position_count s * cell_size k < 2 ^ 64 → position_count s * held_size k f < 2 ^ 64 → is_too_large leaves_out k f s ≡ false
not_too_large leaves_out k f s cells fill =
    ap (λ x. x || (leaves_out && nat_le (2 ^ 64) (position_count s * held_size k f))) (lt-leb (2 ^ 64) (position_count s * cell_size k) cells)
    ∙ and_right leaves_out (nat_le (2 ^ 64) (position_count s * held_size k f)) (lt-leb (2 ^ 64) (position_count s * held_size k f) fill)

compacted_parts : {A : Type 0} (compacts fits : Bool) (o : Option (Option A)) (less : A)
    → (if compacts then given_if fits o else Some None) ≡ Some (Some less) → (fits ≡ true) × (o ≡ Some (Some less))
compacted_parts true fits o less is = given_if-parts fits o (Some less) is
compacted_parts false fits o less is = cc

is_compact : {A : Type 0} (compacts fits : Bool) (o : Option (Option A)) → fits ≡ true → o ≡ Some None
    → (if compacts then given_if fits o else Some None) ≡ Some None
is_compact true true o fit is = is
is_compact true false o fit is = cc
is_compact false fits o fit is = refl

module _ (a : ArrayMeaning) (m : ChainMeaning) (array_law : IsLawfulArray a) (law : IsLawfulChain m) where
  again : (empty : Bool) (k : Kind) (f : Cell) (s : List ℕ) (cs : List Cell) (b : List ℕ) → are_values k cs ≡ true → length cs ≡ position_count s
      → (through a m).encoded empty k f s cs ≡ Some b → (through a m).decoded k f s b ≡ Some cs
  again empty k f s cs b values len made =
      let p = given_if-parts (a.fits s) _ b made in
      let count = array_law.forward_len s cs p.0 len ∙ sym (array_law.count s p.0) in
      let read = law.round_trip empty k f (a.shape s) (a.forward s cs) b (array_law.forward_all (λ c. is_value k c) s cs p.0 len values) count p.1 in
      given_if-true (a.fits s) _ p.0 ∙ ap (option_and_then (λ x. Some (a.back s x))) read ∙ ap Some (array_law.round_trip s cs p.0 len)

  parts : (k : Kind) (f : Cell) (s b : List ℕ) (cs : List Cell) → (through a m).decoded k f s b ≡ Some cs
      → (length cs ≡ position_count s) × (are_values k cs ≡ true)
  parts k f s b cs made =
      let p = given_if-parts (a.fits s) _ cs made in
      let q = bind_parts (m.decoded k f (a.shape s) b) (λ x. Some (a.back s x)) cs p.1 in
      let e = some_is q.2 in
      let len = law.decoded_len k f (a.shape s) b q.0 q.1 ∙ array_law.count s p.0 in (
        ap length (sym e) ∙ array_law.back_len s q.0 p.0 len,
        ap (are_values k) (sym e) ∙ array_law.back_all (λ c. is_value k c) s q.0 p.0 len (law.decoded_values k f (a.shape s) b q.0 q.1),
      )

  unfit_here : {X : Type 0} (x y : Bool) (o : Option X) → (x && y) ≡ false → (y ≡ false → o ≡ None) → given_if x o ≡ None
  unfit_here true y o not rest = rest not
  unfit_here false y o not rest = refl

  pub through-lawful : IsLawfulChain (through a m)
  through-lawful = record {
    round_trip = again;
    decoded_len = λ k f s b cs made. (parts k f s b cs made).0;
    decoded_values = λ k f s b cs made. (parts k f s b cs made).1;
    compacted_same = λ k f s b less made short.
        let p = compacted_parts m.compacts (a.fits s) (m.compacted (a.shape s) b) less made in
        ap (λ o. given_if (a.fits s) (option_and_then (λ x. Some (a.back s x)) o)) (law.compacted_same k f (a.shape s) b less p.1 short);
    compacted_differs = λ s b less made.
        law.compacted_differs (a.shape s) b less (compacted_parts m.compacts (a.fits s) (m.compacted (a.shape s) b) less made).1;
    encoded_compact = λ empty k f s cs b len made.
        let p = given_if-parts (a.fits s) _ b made in
        is_compact m.compacts (a.fits s) (m.compacted (a.shape s) b) p.0
        (law.encoded_compact empty k f (a.shape s) (a.forward s cs) b (array_law.forward_len s cs p.0 len ∙ sym (array_law.count s p.0)) p.1);
    unfit = λ empty k f s cs not.
        unfit_here (a.fits s) (m.fits k (a.shape s)) _ not (λ n. law.unfit empty k f (a.shape s) (a.forward s cs) n);
    unfit_decoded = λ k f s b not.
        unfit_here (a.fits s) (m.fits k (a.shape s)) _ not (λ n. ap (option_and_then (λ x. Some (a.back s x))) (law.unfit_decoded k f (a.shape s) b n));
    partly_updates = λ empty k f s stored part given held change filled values count start shape made is. cc;
    places_inside = all_places-inside;
    places_decide = all_decide (through a m).decoded;
    reads_within = λ k f s part b. not_too_large (a.fits s && m.leaves_out (a.shape s) b) k f s;
  }
