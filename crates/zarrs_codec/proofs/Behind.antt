-- What a chain makes of data behind codecs that make an array of an array.
use Rattle.std.proofs.Common.{◌≡◌, ℕ, ◌*◌, ◌≤◌, ◌^◌, Bool, true, cond, eqb, ◌&&◌, List, length, Option, None, Some, refl, sym, ap, ◌∙◌, subst}
use Rattle.std.specs.Prelude.{option_and_then, IfSome, IsSome}
use Rattle.std.proofs.lemmas.Bool.{eq-eqb}
use Rattle.zarrs_data_type.specs.ArrayData.{ArrayData}
use Rattle.zarrs_data_type.specs.Cell.{Cell, held_size}
use Rattle.zarrs_data_type.specs.Cells.{cells, HasCells}
use Rattle.zarrs_data_type.specs.Kind.{Kind}
use Rattle.zarrs_data_type_bytes.proofs.Cells.{HasCells-cells, HasCells-some}
use Rattle.zarrs_subset.specs.Boxes.{position_count}
use Rattle.zarrs_codec_array.specs.Arrays.{ArrayMeaning, IsLawfulArray}
use Rattle.zarrs_codec_array.specs.Gathered.{encoded_shape}
use Rattle.zarrs_codec_leaf.specs.declared.error.CodecError.{CodecError}
use Rattle.zarrs_codec_leaf.specs.declared.error.CodecError.TheVariants as error
use Rattle.zarrs_codec_chain.specs.Chain.{ChainMeaning, IsLawfulChain, chunk_encoding}
use Rattle.zarrs_codec_chain.specs.Refusals.{RefusesChunkEncoding, RefusesChunkDecoding}
use Rattle.zarrs_codec_shard.proofs.Missing.{given_if-parts}
use Rattle.zarrs_codec.specs.Through.{through}
use Rattle.zarrs_data_type_bytes.proofs.FixedSizes.{some_is}

-- data of a chunk that was decoded has its cells
pub decoded-has_cells : (m : ChainMeaning) → IsLawfulChain m → (k : Kind) (f : Cell) (s b : List ℕ) (d : ArrayData) → cells k d ≡ m.decoded k f s b → IsSome (cells k d) → HasCells k d (position_count s)
decoded-has_cells m law k f s b d is there = go (cells k d) refl there
  where
    go : (o : Option (List Cell)) → cells k d ≡ o → IsSome o → HasCells k d (position_count s)
    go None o_is some = let nothing : IsSome {T = List Cell} None = some in cc
    go (Some cs) o_is some = subst (λ n. HasCells k d n) (law.decoded_len k f s b cs (sym is ∙ o_is)) (HasCells-some k d cs o_is)

module _ (a : ArrayMeaning) (m : ChainMeaning) (k : Kind) (s : List ℕ) (fit : a.fits s ≡ true) (law : IsLawfulArray a) where
  made_cells : (d e : ArrayData) → HasCells k d (position_count s) → IfSome (cells k d) (λ cs. cells k e ≡ Some (a.forward s cs))
      → (cs : List Cell) × (cells k d ≡ Some cs) × (length cs ≡ position_count s) × (cells k e ≡ Some (a.forward s cs))
  made_cells d e has made =
      let held = HasCells-cells k d (position_count s) has in
      (held.0, held.1, held.2, subst (λ o. IfSome o (λ xs. cells k e ≡ Some (a.forward s xs))) held.1 made)

  -- what the codecs made of a chunk's data has the cells of an array of the shape that they make
  pub has-behind : (d e : ArrayData) → HasCells k d (position_count s) → IfSome (cells k d) (λ cs. cells k e ≡ Some (a.forward s cs)) → HasCells k e (position_count (a.shape s))
  has-behind d e has made =
      let c = made_cells d e has made in
      subst (λ n. HasCells k e n) (law.forward_len s c.0 fit c.2 ∙ sym (law.count s fit)) (HasCells-some k e (a.forward s c.0) c.3)

  pub encoding-behind : (empty : Bool) (f : Cell) (d e : ArrayData) → HasCells k d (position_count s) → IfSome (cells k d) (λ cs. cells k e ≡ Some (a.forward s cs))
      → chunk_encoding (through a m) empty k f s d ≡ chunk_encoding m empty k f (a.shape s) e
  encoding-behind empty f d e has made =
      let c = made_cells d e has made in
      let n = law.forward_len s c.0 fit c.2 ∙ sym (law.count s fit) in
      ap (option_and_then (λ xs. cond (eqb (length xs) (position_count s)) (cond (a.fits s) (m.encoded empty k f (a.shape s) (a.forward s xs)) None) None)) c.1
      ∙ ap (λ b. cond b (cond (a.fits s) (m.encoded empty k f (a.shape s) (a.forward s c.0)) None) None) (eq-eqb (length c.0) (position_count s) c.2)
      ∙ ap (λ b. cond b (m.encoded empty k f (a.shape s) (a.forward s c.0)) None) fit
      ∙ sym (ap (option_and_then (λ xs. cond (eqb (length xs) (position_count (a.shape s))) (m.encoded empty k f (a.shape s) xs) None)) c.3
      ∙ ap (λ b. cond b (m.encoded empty k f (a.shape s) (a.forward s c.0)) None) (eq-eqb (length (a.forward s c.0)) (position_count (a.shape s)) n))

  pub encoding_refusal-behind : (empty : Bool) (f : Cell) (d e : ArrayData) (err : CodecError) → HasCells k d (position_count s) → IfSome (cells k d) (λ cs. cells k e ≡ Some (a.forward s cs))
      → RefusesChunkEncoding m empty k f (a.shape s) e err → RefusesChunkEncoding (through a m) empty k f s d err
  encoding_refusal-behind empty f d e (error.DoesNotFit _) has made none = ap (λ x. x && m.fits k (a.shape s)) fit ∙ none
  encoding_refusal-behind empty f d e error.SizeOverflow has made none =
      (ap (λ x. x && m.fits k (a.shape s)) fit ∙ none.0, encoding-behind empty f d e has made ∙ none.1)
  encoding_refusal-behind empty f d e error.OutOfMemory has made none = none

  module _ (f : Cell) (b : List ℕ) where
    decoded_at : (through a m).decoded k f s b ≡ option_and_then (λ cs. Some (a.back s cs)) (m.decoded k f (a.shape s) b)
    decoded_at = ap (λ x. cond x (option_and_then (λ cs. Some (a.back s cs)) (m.decoded k f (a.shape s) b)) None) fit

    pub decoding_refusal-behind : (err : CodecError) → RefusesChunkDecoding m k f (a.shape s) b err → RefusesChunkDecoding (through a m) k f s b err
    decoding_refusal-behind (error.DoesNotFit _) none = decoded_at ∙ ap (option_and_then (λ cs. Some (a.back s cs))) none
    decoding_refusal-behind error.SizeOverflow large =
        (ap (λ x. x && m.leaves_out (a.shape s) b) fit ∙ large.0, subst (λ n. 2 ^ 64 ≤ n * held_size k f) (law.count s fit) large.1)
    decoding_refusal-behind error.OutOfMemory none = none

-- what is said of data and of what the codecs made of it, where `inner` is the shape of the array that they make
pub record IsBehind (a : ArrayMeaning) (m : ChainMeaning) (empty : Bool) (k : Kind) (f : Cell) (s inner : List ℕ) (d e : ArrayData) : Type 0 where
  pub has : HasCells k e (position_count inner)
  pub encoding : chunk_encoding (through a m) empty k f s d ≡ chunk_encoding m empty k f inner e
  pub refusal : (err : CodecError) → RefusesChunkEncoding m empty k f inner e err → RefusesChunkEncoding (through a m) empty k f s d err

pub is_behind : (a : ArrayMeaning) (m : ChainMeaning) → IsLawfulArray a → (empty : Bool) (k : Kind) (f : Cell) (s inner : List ℕ) (d e : ArrayData) → encoded_shape a s ≡ Some inner → HasCells k d (position_count s)
    → IfSome (cells k d) (λ cs. cells k e ≡ Some (a.forward s cs)) → IsBehind a m empty k f s inner d e
is_behind a m law empty k f s inner d e shape has made =
    let p = given_if-parts (a.fits s) (Some (a.shape s)) inner shape in
    let is = some_is p.1 in record {
      has = subst (λ x. HasCells k e (position_count x)) is (has-behind a m k s p.0 law d e has made);
      encoding = encoding-behind a m k s p.0 law empty f d e has made ∙ ap (λ x. chunk_encoding m empty k f x e) is;
      refusal = λ err why. encoding_refusal-behind a m k s p.0 law empty f d e err has made (subst (λ x. RefusesChunkEncoding m empty k f x e err) (sym is) why);
    }

-- what is said of bytes and of the array that the codecs make, of the shape `inner`
module _ (a : ArrayMeaning) (m : ChainMeaning) (array_law : IsLawfulArray a) (k : Kind) (f : Cell) (s inner b : List ℕ) (shape : encoded_shape a s ≡ Some inner) where
  fit : a.fits s ≡ true
  fit = (given_if-parts (a.fits s) (Some (a.shape s)) inner shape).0

  inner_is : a.shape s ≡ inner
  inner_is = some_is (given_if-parts (a.fits s) (Some (a.shape s)) inner shape).1

  pub count_behind : position_count inner ≡ position_count s
  count_behind = ap position_count (sym inner_is) ∙ array_law.count s fit

  -- the array that was decoded has the cells of the chunk
  pub held_behind : IsLawfulChain m → (d : ArrayData) → cells k d ≡ m.decoded k f inner b → IsSome (cells k d) → HasCells k d (position_count s)
  held_behind law d is there = subst (λ n. HasCells k d n) count_behind (decoded-has_cells m law k f inner b d is there)

  -- and what the codecs make of it has those of the chunk's bytes
  pub cells_behind : (d e : ArrayData) → cells k d ≡ m.decoded k f inner b → IsSome (cells k d) → IfSome (cells k d) (λ cs. cells k e ≡ Some (a.back s cs)) → cells k e ≡ (through a m).decoded k f s b
  cells_behind d e is there made = go (cells k d) refl there made
    where
      go : (o : Option (List Cell)) → cells k d ≡ o → IsSome o → IfSome o (λ cs. cells k e ≡ Some (a.back s cs)) → cells k e ≡ (through a m).decoded k f s b
      go None o_is some here = let nothing : IsSome {T = List Cell} None = some in cc
      go (Some cs) o_is some here =
          here ∙ sym (decoded_at a m k s fit array_law f b ∙ ap (option_and_then (λ xs. Some (a.back s xs))) (ap (λ x. m.decoded k f x b) inner_is ∙ sym is ∙ o_is))

  pub refused_behind : (err : CodecError) → RefusesChunkDecoding m k f inner b err → RefusesChunkDecoding (through a m) k f s b err
  refused_behind err why = decoding_refusal-behind a m k s fit array_law f b err (subst (λ x. RefusesChunkDecoding m k f x b err) (sym inner_is) why)
