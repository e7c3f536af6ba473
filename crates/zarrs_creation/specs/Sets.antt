-- Two proofs of one equation of parts are the same, so that the parts of an array agree with its document in one way.
use Rattle.std.proofs.Common.{◌≡◌, Bool, true, Option, refl, ap, subst}
use Rattle.std.specs.Coded.{Coded-set}
use Rattle.std.proofs.Props.{props}
use mathlib.Core.HLevel.{collapsible→set}
use mathlib.Core.Sum.{⊎_set}
use Rattle.zarrs_keys.specs.declared.encodings.ChunkKeyEncoding.{ChunkKeyEncoding}
use Rattle.zarrs_keys.specs.contracts.encodings.ChunkKeyEncoding as encoding
use Rattle.zarrs_chunk_grid.specs.Configurations.{DimensionSizes, GridConfiguration}
use Rattle.zarrs_data_type.specs.Kind.{Kind}
use Rattle.zarrs_data_type.specs.Same.{kind_eq, kind_eq-Decides}
use Rattle.zarrs_codec_array.specs.Arrays.{Extent}
use Rattle.zarrs_codec_array.specs.Configurations.{ArrayCodecData}
use Rattle.zarrs_codec_leaf.specs.declared.bytes_codec.Endianness.{Endianness}
use Rattle.zarrs_codec_optional.specs.Configurations.{MaskCodecData, CellsCodecData, plain, optional}
use Rattle.zarrs_codec_optional.specs.PlainCodecs.{PlainCodecData}
use Rattle.zarrs_codec.specs.Configurations.{BytesCodecData, cells, sharding, ChainData}
use Rattle.zarrs_creation.specs.Meanings.{Meaning}

Bool-set : IsSet Bool
Bool-set = hlevel props

kind_same : (a b : Kind) → a ≡ b → kind_eq a b ≡ true
kind_same a b p = (kind_eq-Decides a b).1 p

Kind-set : IsSet Kind
Kind-set = collapsible→set
    (λ a b p. (kind_eq-Decides a b).0 (kind_same a b p))
    (λ a b p q. ap (kind_eq-Decides a b).0 (Bool-set _ _ (kind_same a b p) (kind_same a b q)))

DimensionSizes-set : IsSet DimensionSizes
DimensionSizes-set = hlevel (props, ⊎_set)

GridConfiguration-set : IsSet GridConfiguration
GridConfiguration-set = hlevel (props, ⊎_set, DimensionSizes-set)

Extent-set : IsSet Extent
Extent-set = hlevel (props, ⊎_set)

ArrayCodecData-set : IsSet ArrayCodecData
ArrayCodecData-set = hlevel (props, ⊎_set, Extent-set)

Endianness-set : IsSet Endianness
Endianness-set = hlevel (props, ⊎_set)

MaskCodecData-set : IsSet MaskCodecData
MaskCodecData-set = hlevel (props, ⊎_set, Endianness-set)

PlainCodecData-set : IsSet PlainCodecData
PlainCodecData-set = hlevel (props, ⊎_set, Endianness-set)

-- two codecs of cells have the same parts
abbrev SameCells : CellsCodecData → CellsCodecData → Type 0
SameCells (plain a) (plain b) = a ≡ b
SameCells (optional m a) (optional n b) = (m ≡ n) × SameCells a b
SameCells _ _ = ⊥

SameCells-prop : (a b : CellsCodecData) → IsProp (SameCells a b)
SameCells-prop (plain a) (plain b) = PlainCodecData-set a b
SameCells-prop (optional m a) (optional n b) = hlevel (MaskCodecData-set, SameCells-prop a b)
SameCells-prop a b = hlevel

same_cells : (a b : CellsCodecData) → SameCells a b → a ≡ b
same_cells (plain a) (plain b) same = ap plain same
same_cells (optional m a) (optional n b) same = λ i. optional (same.0 i) (same_cells a b same.1 i)
same_cells a b same = absurd same

own_cells : (a : CellsCodecData) → SameCells a a
own_cells (plain a) = refl
own_cells (optional m a) = (refl, own_cells a)

shared_cells : (a b : CellsCodecData) → a ≡ b → SameCells a b
shared_cells a b p = subst (SameCells a) p (own_cells a)

CellsCodecData-set : IsSet CellsCodecData
CellsCodecData-set = collapsible→set
    (λ a b p. same_cells a b (shared_cells a b p))
    (λ a b p q. ap (same_cells a b) (SameCells-prop a b (shared_cells a b p) (shared_cells a b q)))

-- two codecs have the same parts
abbrev Same : BytesCodecData → BytesCodecData → Type 0
Same (cells a) (cells b) = a ≡ b
Same (sharding s at f a) (sharding t ends g b) = (s ≡ t) × (at ≡ ends) × (f ≡ g) × Same a b
Same _ _ = ⊥

Same-prop : (a b : BytesCodecData) → IsProp (Same a b)
Same-prop (cells a) (cells b) = CellsCodecData-set a b
Same-prop (sharding s at f a) (sharding t ends g b) = hlevel (props, ArrayCodecData-set, Same-prop a b)
Same-prop a b = hlevel

same_codec : (a b : BytesCodecData) → Same a b → a ≡ b
same_codec (cells a) (cells b) same = ap cells same
same_codec (sharding s at f a) (sharding t ends g b) same = λ i. sharding (same.0 i) (same.1 i) (same.2 i) (same_codec a b same.3 i)
same_codec a b same = absurd same

own_parts : (a : BytesCodecData) → Same a a
own_parts (cells a) = refl
own_parts (sharding s at f a) = (refl, refl, refl, own_parts a)

shared_parts : (a b : BytesCodecData) → a ≡ b → Same a b
shared_parts a b p = subst (Same a) p (own_parts a)

BytesCodecData-set : IsSet BytesCodecData
BytesCodecData-set = collapsible→set
    (λ a b p. same_codec a b (shared_parts a b p))
    (λ a b p q. ap (same_codec a b) (Same-prop a b (shared_parts a b p) (shared_parts a b q)))

ChainData-set : IsSet ChainData
ChainData-set = hlevel (props, ArrayCodecData-set, BytesCodecData-set)

ChunkKeyEncoding-set : IsSet ChunkKeyEncoding
ChunkKeyEncoding-set = Coded-set encoding.the_row.coded

Meaning-set : IsSet Meaning
Meaning-set = hlevel (props, Kind-set, GridConfiguration-set, ChainData-set, ChunkKeyEncoding-set)

pub meanings-set : IsSet (Option Meaning)
meanings-set = hlevel (props, Meaning-set)
