-- Eight flags and their byte, by arithmetic on one word.
use Rattle.std.proofs.Common.{◌≡◌, ℕ, ◌*◌, ◌/◌, ◌%◌, ◌<◌, Bool, true, List, [], ◌∷◌, length, get_or, All, bit_and, bit_or, w64, refl, subst, ◌∙◌, arith}
use Rattle.std.specs.Int.{to_le_bytes, from_le_bytes}
use Rattle.std.specs.Str.{bytes_eq}
use Rattle.std.specs.List.{range_with_len, list_all}
use Rattle.std.proofs.lemmas.List.Sums.{AllPass-from_list_all}
use Rattle.std.proofs.lemmas.List.FromFn.{get_or-range_with_len}
use Rattle.std.proofs.lemmas.Slice.Eq.{bytes_eq-Decides}
use Rattle.zarrs_codec_leaf.specs.PackBits.{packed_byte, byte_bits}

-- the word of eight flags has their byte as its highest one, once they are moved there
pub gathered : (flags : List ℕ) → length flags ≡ 8 → All (λ flag. flag < 2) flags
    → from_le_bytes w64 flags * 72624976668147840 % 18446744073709551616 / 72057594037927936 ≡ packed_byte flags
gathered (a ∷ b ∷ c ∷ d ∷ e ∷ f ∷ g ∷ h ∷ []) len small =
    let a_small = small 0 0 (omega arith) in
    let b_small = small 1 0 (omega arith) in
    let c_small = small 2 0 (omega arith) in
    let d_small = small 3 0 (omega arith) in
    let e_small = small 4 0 (omega arith) in
    let f_small = small 5 0 (omega arith) in
    let g_small = small 6 0 (omega arith) in
    let h_small = small 7 0 (omega arith) in
    omega arith
gathered flags len small = absurd (omega arith)

-- the word whose bytes are the bits of a byte
abbrev spread : ℕ → ℕ
spread b = bit_or (bit_and (b % 128 * 567382630219905) 72340172838076673) (b / 128 * 72057594037927936 % 18446744073709551616)

has_spread : ℕ → Bool
has_spread b = bytes_eq (to_le_bytes w64 (spread b)) (byte_bits b)

-- tried for each byte
all_spread : list_all has_spread (range_with_len 0 256) ≡ true
unfolding has_spread
all_spread = refl

pub spread-bits : (b : ℕ) → b < 256 → to_le_bytes w64 (spread b) ≡ byte_bits b
unfolding has_spread
spread-bits b lt =
    let at : get_or (range_with_len 0 256) b 0 ≡ b = get_or-range_with_len 0 256 b 0 lt ∙ omega arith in
    (bytes_eq-Decides (to_le_bytes w64 (spread b)) (byte_bits b)).0
    (subst (λ x. has_spread x ≡ true) at (AllPass-from_list_all has_spread (range_with_len 0 256) all_spread b 0 (omega arith)))
