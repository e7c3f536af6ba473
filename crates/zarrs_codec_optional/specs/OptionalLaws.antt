-- The law of `zarrs.optional`, from those of its two codecs.
use Rattle.std.proofs.Common.{◌≡◌, ℕ, zero, suc, ◌+◌, ◌<◌, ◌^◌, Bool, true, false, cond, eqb, ◌&&◌, List, [], ◌∷◌, ◌++◌}
use Rattle.std.proofs.Common.{length, map, take, drop, Option, None, Some, refl, sym, ap, ◌∙◌, subst, arith}
use Rattle.std.specs.Prelude.{count_by, nat_lt, is_some, option_and_then}
use Rattle.std.specs.Int.{w64, to_le_bytes, from_le_bytes}
use Rattle.std.proofs.lemmas.Bool.{eq-eqb, ltb-true, and_parts, and_from, false≢true}
use Rattle.std.proofs.lemmas.Nat.{from_le_bytes-to_le_bytes_8}
use Rattle.std.proofs.lemmas.List.{length-append, length-map, take_at, drop_at, drop-drop}
use Rattle.std.proofs.lemmas.List.Sums.{sum_by-cons}
use Rattle.std.proofs.lemmas.Simd.{map-map}
use Rattle.zarrs_metadata_parts.specs.Extension.{◌>>=◌}
use Rattle.zarrs_data_type.specs.Kind.{Kind, inner_of}
use Rattle.zarrs_data_type.specs.Kind as type
use Rattle.zarrs_data_type.specs.Cell.{Cell, bytes, none, some, is_element, is_value, are_values}
use Rattle.zarrs_data_type.specs.Present.{flag_set, present_cells, spread_cells}
use Rattle.zarrs_codec_leaf.specs.Chosen.{some_is, only_parts, bind_parts}
use Rattle.zarrs_codec_leaf.specs.Leaf.{LeafMeaning, IsLawfulLeaf}
use Rattle.zarrs_codec_leaf.specs.PackBits.{flag_of, flag_cell}
use Rattle.zarrs_codec_optional.specs.Optional.{some_flag, mask_cells, behind_lengths, mask_and_data, encoded_if_any, decoded_if_any}
use Rattle.zarrs_codec_optional.specs.Optional.{if_any, takes_optional, optional_meaning}

-- ---- two byte strings behind their lengths

length-le8 : (n : ℕ) → length (to_le_bytes w64 n) ≡ 8
length-le8 n = refl

pub mask_and_data-joined : (mask body : List ℕ) → length mask < 2 ^ 64 → length body < 2 ^ 64
    → mask_and_data (to_le_bytes w64 (length mask) ++ (to_le_bytes w64 (length body) ++ (mask ++ body))) ≡ Some (mask, body)
mask_and_data-joined mask body mask_lt data_lt =
    let lm = length mask in
    let ld = length body in
    let a = to_le_bytes w64 lm in
    let b = to_le_bytes w64 ld in
    let whole = a ++ (b ++ (mask ++ body)) in
    let behind : drop 8 whole ≡ b ++ (mask ++ body) = drop_at a (b ++ (mask ++ body)) 8 (length-le8 lm) in
    let first : from_le_bytes w64 (take 8 whole) ≡ lm =
    ap (from_le_bytes w64) (take_at a (b ++ (mask ++ body)) 8 (length-le8 lm)) ∙ from_le_bytes-to_le_bytes_8 lm mask_lt in
    let second : from_le_bytes w64 (take 8 (drop 8 whole)) ≡ ld =
    ap (λ l. from_le_bytes w64 (take 8 l)) behind ∙ ap (from_le_bytes w64) (take_at b (mask ++ body) 8 (length-le8 ld))
    ∙ from_le_bytes-to_le_bytes_8 ld data_lt in
    let rest : drop 16 whole ≡ mask ++ body = sym (drop-drop 8 8 whole) ∙ ap (drop 8) behind ∙ drop_at b (mask ++ body) 8 (length-le8 ld) in
    let len : length whole ≡ 16 + lm + ld =
    length-append a (b ++ (mask ++ body)) ∙ omega (arith, length-le8 lm, length-append b (mask ++ body), length-le8 ld, length-append mask body) in
    let front : take lm (drop 16 whole) ≡ mask = ap (take lm) rest ∙ take_at mask body lm refl in
    let back : drop lm (drop 16 whole) ≡ body = ap (drop lm) rest ∙ drop_at mask body lm refl in
    ap (λ m. cond (eqb (length whole) (16 + m + from_le_bytes w64 (take 8 (drop 8 whole)))) (Some (take m (drop 16 whole), drop m (drop 16 whole))) None) first
    ∙ ap (λ m. cond (eqb (length whole) (16 + lm + m)) (Some (take lm (drop 16 whole), drop lm (drop 16 whole))) None) second
    ∙ ap (λ x. cond x (Some (take lm (drop 16 whole), drop lm (drop 16 whole))) None) (eq-eqb (length whole) (16 + lm + ld) len)
    ∙ ap Some (ap (λ x. (x, drop lm (drop 16 whole))) front ∙ ap (λ y. (mask, y)) back)

-- ---- a codec, except that no cell has no byte

module _ (leaf : LeafMeaning) (law : IsLawfulLeaf leaf) where
  any_again : (k : Kind) (cs : List Cell) (b : List ℕ) → are_values k cs ≡ true → encoded_if_any leaf k cs ≡ Some b
      → decoded_if_any leaf k (length cs) b ≡ Some cs
  any_again k [] b values made =
      let p = only_parts (leaf.takes k) (Some []) b made in
      ap (decoded_if_any leaf k 0) (sym (some_is p.1)) ∙ ap (λ x. cond (x && true) (Some []) None) p.0
  any_again k (c ∷ cs) b values made = law.round_trip k (c ∷ cs) b values made

  any_parts : (k : Kind) (n : ℕ) (b : List ℕ) (cs : List Cell) → decoded_if_any leaf k n b ≡ Some cs → (length cs ≡ n) × (are_values k cs ≡ true)
  any_parts k zero b cs made =
      let p = only_parts (leaf.takes k && eqb (length b) 0) (Some []) cs made in
      subst (λ l. (length l ≡ 0) × (are_values k l ≡ true)) (some_is p.1) (refl, refl)
  any_parts k (suc n) b cs made = (law.decoded_len k (suc n) b cs made, law.decoded_values k (suc n) b cs made)

  any_untaken : (k : Kind) (cs : List Cell) → leaf.takes k ≡ false → encoded_if_any leaf k cs ≡ None
  any_untaken k [] not = ap (λ x. cond x (Some []) None) not
  any_untaken k (c ∷ cs) not = law.untaken k (c ∷ cs) not

  any_unread : (k : Kind) (n : ℕ) (b : List ℕ) → leaf.takes k ≡ false → decoded_if_any leaf k n b ≡ None
  any_unread k zero b not = ap (λ x. cond (x && eqb (length b) 0) (Some []) None) not
  any_unread k (suc n) b not = law.untaken_decoded k (suc n) b not

  pub if_any-lawful : IsLawfulLeaf (if_any leaf)
  if_any-lawful = record {
    round_trip = any_again;
    decoded_len = λ k n b cs made. (any_parts k n b cs made).0;
    decoded_values = λ k n b cs made. (any_parts k n b cs made).1;
    untaken = any_untaken;
    untaken_decoded = any_unread;
  }

-- ---- cells, taken apart and put together again

-- the values of an optional type are none, or some of a value of the inner type
no_bytes : (k u : Kind) (b : List ℕ) → inner_of k ≡ Some u → is_element k b ≡ true → ⊥
no_bytes (type.optional inner) u b is v = false≢true v
no_bytes _ u b is v = cc

some_value : (k u : Kind) (c : Cell) → inner_of k ≡ Some u → is_value k (some c) ≡ is_value u c
some_value k u c is = ap (λ o. elim o [ None ↦ false | Some x ↦ is_value x c ]) is

pub mask-values : (cs : List Cell) → are_values type.bool (mask_cells cs) ≡ true
mask-values [] = refl
mask-values (bytes b ∷ cs) = mask-values cs
mask-values (none ∷ cs) = mask-values cs
mask-values (some c ∷ cs) = mask-values cs

present-values : (k u : Kind) (cs : List Cell) → inner_of k ≡ Some u → are_values k cs ≡ true → are_values u (present_cells cs) ≡ true
present-values k u [] is v = refl
present-values k u (bytes b ∷ cs) is v = absurd (no_bytes k u b is (and_parts (is_value k (bytes b)) (are_values k cs) v).0)
present-values k u (none ∷ cs) is v = present-values k u cs is (and_parts (is_value k none) (are_values k cs) v).1
present-values k u (some c ∷ cs) is v =
    let p = and_parts (is_value k (some c)) (are_values k cs) v in
    and_from (is_value u c) (are_values u (present_cells cs)) (sym (some_value k u c is) ∙ p.0) (present-values k u cs is p.1)

-- as many as there are flags that are set
count-cons : (flag : ℕ) (mask : List ℕ) → count_by flag_set (flag ∷ mask) ≡ cond (flag_set flag) 1 0 + count_by flag_set mask
count-cons flag mask = sum_by-cons (λ x. cond (flag_set x) 1 0) flag mask

pub count-some : (cs : List Cell) → count_by flag_set (map some_flag cs) ≡ length (present_cells cs)
count-some [] = refl
count-some (bytes b ∷ cs) = omega (arith, count-cons 0 (map some_flag cs), count-some cs)
count-some (none ∷ cs) = omega (arith, count-cons 0 (map some_flag cs), count-some cs)
count-some (some c ∷ cs) = omega (arith, count-cons 1 (map some_flag cs), count-some cs)

pub spread-present : (k u : Kind) (cs : List Cell) → inner_of k ≡ Some u → are_values k cs ≡ true → spread_cells (map some_flag cs) (present_cells cs) ≡ cs
spread-present k u [] is v = refl
spread-present k u (bytes b ∷ cs) is v = absurd (no_bytes k u b is (and_parts (is_value k (bytes b)) (are_values k cs) v).0)
spread-present k u (none ∷ cs) is v = go (present_cells cs) (spread-present k u cs is (and_parts (is_value k none) (are_values k cs) v).1)
  where
    go : (ds : List Cell) → spread_cells (map some_flag cs) ds ≡ cs → spread_cells (0 ∷ map some_flag cs) ds ≡ none ∷ cs
    go [] e = ap (λ l. none ∷ l) e
    go (d ∷ ds) e = ap (λ l. none ∷ l) e
spread-present k u (some c ∷ cs) is v =
    ap (λ l. some c ∷ l) (spread-present k u cs is (and_parts (is_value k (some c)) (are_values k cs) v).1)

pub length-spread : (mask : List ℕ) (ds : List Cell) → length (spread_cells mask ds) ≡ length mask
length-spread [] ds = refl
length-spread (flag ∷ mask) [] = ap suc (length-spread mask [])
length-spread (flag ∷ mask) (d ∷ ds) = go (eqb flag 0) (length-spread mask (d ∷ ds)) (length-spread mask ds)
  where
    go : (b : Bool) → length (spread_cells mask (d ∷ ds)) ≡ length mask → length (spread_cells mask ds) ≡ length mask
        → length (cond b (none ∷ spread_cells mask (d ∷ ds)) (some d ∷ spread_cells mask ds)) ≡ suc (length mask)
    go true here there = ap suc here
    go false here there = ap suc there

spread-values : (k u : Kind) (mask : List ℕ) (ds : List Cell) → inner_of k ≡ Some u → are_values u ds ≡ true → are_values k (spread_cells mask ds) ≡ true
spread-values k u [] ds is v = refl
spread-values k u (flag ∷ mask) [] is v = and_from (is_value k none) (are_values k (spread_cells mask [])) (ap is_some is) (spread-values k u mask [] is v)
spread-values k u (flag ∷ mask) (d ∷ ds) is v =
    let p = and_parts (is_value u d) (are_values u ds) v in
    go (eqb flag 0) (spread-values k u mask (d ∷ ds) is v) (and_from (is_value k (some d)) (are_values k (spread_cells mask ds)) (some_value k u d is
    ∙ p.0) (spread-values k u mask ds is p.1))
  where
    go : (b : Bool) → are_values k (spread_cells mask (d ∷ ds)) ≡ true → are_values k (some d ∷ spread_cells mask ds) ≡ true
        → are_values k (cond b (none ∷ spread_cells mask (d ∷ ds)) (some d ∷ spread_cells mask ds)) ≡ true
    go true here there = and_from (is_value k none) (are_values k (spread_cells mask (d ∷ ds))) (ap is_some is) here
    go false here there = there

-- ---- the law

pub bind_none : {A B : Type 0} (o : Option A) (f : A → Option B) → ((x : A) → f x ≡ None) → option_and_then f o ≡ None
bind_none None f each = refl
bind_none (Some x) f each = each x

module _ (m d : LeafMeaning) (mask_law : IsLawfulLeaf m) (law : IsLawfulLeaf d) where
  again : (k : Kind) (cs : List Cell) (b : List ℕ) → are_values k cs ≡ true → (optional_meaning m d).encoded k cs ≡ Some b
      → (optional_meaning m d).decoded k (length cs) b ≡ Some cs
  again k cs b v made =
      let inner = bind_parts (inner_of k)
      (λ u. m.encoded type.bool (mask_cells cs) >>= λ x. encoded_if_any d u (present_cells cs) >>= λ y. behind_lengths x y)
      b made in
      let u = inner.0 in
      let present = present_cells cs in
      let mask = bind_parts (m.encoded type.bool (mask_cells cs)) (λ x. encoded_if_any d u present >>= λ y. behind_lengths x y) b inner.2 in
      let body = bind_parts (encoded_if_any d u present) (λ y. behind_lengths mask.0 y) b mask.2 in
      let lm = length mask.0 in
      let ld = length body.0 in
      let whole = to_le_bytes w64 lm ++ (to_le_bytes w64 ld ++ (mask.0 ++ body.0)) in
      let fit = only_parts (nat_lt lm (2 ^ 64) && nat_lt ld (2 ^ 64)) (Some whole) b body.2 in
      let lens = and_parts (nat_lt lm (2 ^ 64)) (nat_lt ld (2 ^ 64)) fit.0 in
      let parts : mask_and_data b ≡ Some (mask.0, body.0) =
      ap mask_and_data (sym (some_is fit.1)) ∙ mask_and_data-joined mask.0 body.0 (ltb-true lm (2 ^ 64) lens.0) (ltb-true ld (2 ^ 64) lens.1) in
      let read_mask : m.decoded type.bool (length cs) mask.0 ≡ Some (mask_cells cs) =
      ap (λ n. m.decoded type.bool n mask.0) (sym (length-map cs (λ c. flag_cell (some_flag c))))
      ∙ mask_law.round_trip type.bool (mask_cells cs) mask.0 (mask-values cs) mask.1 in
      let same_flags : map flag_of (mask_cells cs) ≡ map some_flag cs = map-map flag_of (λ c. flag_cell (some_flag c)) cs in
      let read_data : decoded_if_any d u (count_by flag_set (map some_flag cs)) body.0 ≡ Some present =
      ap (λ n. decoded_if_any d u n body.0) (count-some cs) ∙ any_again d law u present body.0 (present-values k u cs inner.1 v) body.1 in
      let finish : List ℕ → List ℕ → Option (List Cell) = λ text fs. decoded_if_any d u (count_by flag_set fs) text >>= λ ds. Some (spread_cells fs ds) in
      ap (λ o. o >>= λ x. mask_and_data b >>= λ ps. m.decoded type.bool (length cs) ps.0
      >>= λ ms. decoded_if_any d x (count_by flag_set (map flag_of ms)) ps.1 >>= λ ds. Some (spread_cells (map flag_of ms) ds))
      inner.1
      ∙ ap (λ o. o >>= λ ps. m.decoded type.bool (length cs) ps.0 >>= λ ms. finish ps.1 (map flag_of ms)) parts
      ∙ ap (λ o. o >>= λ ms. finish body.0 (map flag_of ms)) read_mask
      ∙ ap (finish body.0) same_flags
      ∙ ap (λ o. o >>= λ ds. Some (spread_cells (map some_flag cs) ds)) read_data
      ∙ ap Some (spread-present k u cs inner.1 v)

  parts : (k : Kind) (n : ℕ) (b : List ℕ) (cs : List Cell) → (optional_meaning m d).decoded k n b ≡ Some cs → (length cs ≡ n) × (are_values k cs ≡ true)
  parts k n b cs made =
      let inner = bind_parts (inner_of k)
      (λ u. mask_and_data b >>= λ p. m.decoded type.bool n p.0
      >>= λ ms. decoded_if_any d u (count_by flag_set (map flag_of ms)) p.1 >>= λ ds. Some (spread_cells (map flag_of ms) ds))
      cs made in
      let u = inner.0 in
      let cut = bind_parts (mask_and_data b)
      (λ p. m.decoded type.bool n p.0
      >>= λ ms. decoded_if_any d u (count_by flag_set (map flag_of ms)) p.1 >>= λ ds. Some (spread_cells (map flag_of ms) ds))
      cs inner.2 in
      let mask = bind_parts (m.decoded type.bool n cut.0.0)
      (λ ms. decoded_if_any d u (count_by flag_set (map flag_of ms)) cut.0.1 >>= λ ds. Some (spread_cells (map flag_of ms) ds))
      cs cut.2 in
      let flags = map flag_of mask.0 in
      let present = bind_parts (decoded_if_any d u (count_by flag_set flags) cut.0.1) (λ ds. Some (spread_cells flags ds)) cs mask.2 in
      let e = some_is present.2 in (
        ap length (sym e) ∙ length-spread flags present.0 ∙ length-map mask.0 flag_of ∙ mask_law.decoded_len type.bool n cut.0.0 mask.0 mask.1,
        subst (λ l. are_values k l ≡ true) e
            (spread-values k u flags present.0 inner.1
            (any_parts d law u (count_by flag_set flags) cut.0.1 present.0 present.1).1),
      )

  untaken : (k : Kind) (cs : List Cell) → takes_optional d k ≡ false → (optional_meaning m d).encoded k cs ≡ None
  untaken k cs not = go (inner_of k) not
    where
      go : (o : Option Kind) → elim o [ None ↦ false | Some u ↦ d.takes u ] ≡ false
          → (o >>= λ u. m.encoded type.bool (mask_cells cs) >>= λ x. encoded_if_any d u (present_cells cs) >>= λ y. behind_lengths x y) ≡ None
      go None off = refl
      go (Some u) off =
          bind_none (m.encoded type.bool (mask_cells cs))
          (λ x. encoded_if_any d u (present_cells cs) >>= λ y. behind_lengths x y)
          (λ x. ap (λ o. o >>= λ y. behind_lengths x y) (any_untaken d law u (present_cells cs) off))

  unread : (k : Kind) (n : ℕ) (b : List ℕ) → takes_optional d k ≡ false → (optional_meaning m d).decoded k n b ≡ None
  unread k n b not = go (inner_of k) not
    where
      go : (o : Option Kind) → elim o [ None ↦ false | Some u ↦ d.takes u ] ≡ false
          → (o >>= λ u. mask_and_data b >>= λ p. m.decoded type.bool n p.0
          >>= λ ms. decoded_if_any d u (count_by flag_set (map flag_of ms)) p.1 >>= λ ds. Some (spread_cells (map flag_of ms) ds))
          ≡ None
      go None off = refl
      go (Some u) off =
          bind_none (mask_and_data b)
          (λ p. m.decoded type.bool n p.0
          >>= λ ms. decoded_if_any d u (count_by flag_set (map flag_of ms)) p.1 >>= λ ds. Some (spread_cells (map flag_of ms) ds))
          (λ p.
          bind_none (m.decoded type.bool n p.0)
          (λ ms. decoded_if_any d u (count_by flag_set (map flag_of ms)) p.1 >>= λ ds. Some (spread_cells (map flag_of ms) ds))
          (λ ms.
          ap (λ o. o >>= λ ds. Some (spread_cells (map flag_of ms) ds)) (any_unread d law u (count_by flag_set (map flag_of ms)) p.1 off)))

  pub optional-lawful : IsLawfulLeaf (optional_meaning m d)
  optional-lawful = record {
    round_trip = again;
    decoded_len = λ k n b cs made. (parts k n b cs made).0;
    decoded_values = λ k n b cs made. (parts k n b cs made).1;
    untaken = untaken;
    untaken_decoded = unread;
  }
