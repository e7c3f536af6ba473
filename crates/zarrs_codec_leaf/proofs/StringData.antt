-- What codecs of byte strings do with data.
use Rattle.std.proofs.Common.{◌≡◌, ℕ, suc, ◌+◌, ◌-◌, ◌^◌, ◌<◌, ◌≤◌, Bool, true, false, cond, eqb, ◌&&◌, List}
use Rattle.std.proofs.Common.{[], ◌∷◌, ◌++◌, length, map, take, get_or, Option, None, Some, refl, sym, ap, ◌∙◌}
use Rattle.std.proofs.Common.{subst, arith, append_assoc, append-nil}
use Rattle.std.specs.Prelude.{IsSome, IsSomeAnd, is_some, option_and_then, option_map, nat_lt, slice_index_or}
use Rattle.std.specs.List.{flat_map, list_all, range_with_len}
use Rattle.std.specs.Int.{w32, to_le_bytes}
use Rattle.std.proofs.lemmas.Bool.{eq-eqb, and_from, false≢true, lt-ltb, le-ltb}
use Rattle.std.proofs.lemmas.Grind.{flat_map-append}
use Rattle.std.proofs.lemmas.List.{ext_get_or, get_or-map, length-map, take_all, take_more}
use Rattle.std.proofs.lemmas.List.Folds.{list_all_more}
use Rattle.std.proofs.lemmas.List.FromFn.{length-map-range_with_len, get_or-map-range_with_len}
use Rattle.std.proofs.lemmas.List.Sums.{AllPass-from_list_all}
use Rattle.std.proofs.lemmas.Simd.{map-map}
use Rattle.zarrs_data_type.specs.Kind.{Kind, element_size, is_variable, inner_of}
use Rattle.zarrs_data_type.specs.Kind as type
use Rattle.zarrs_data_type.specs.Cell.{Cell, bytes, none, are_values, values_only}
use Rattle.zarrs_data_type.specs.ArrayData.{ArrayData, fixed, variable, optional}
use Rattle.zarrs_data_type.specs.Cells.{cells, HasCells}
use Rattle.zarrs_data_type_bytes.proofs.Filled.{fits-cells, fits-optional}
use Rattle.zarrs_data_type_bytes.proofs.Fixed.{sized_cells}
use Rattle.zarrs_codec_leaf.specs.Bytes.{cell_bytes}
use Rattle.zarrs_codec_leaf.specs.Chosen.{only_parts, map_same, chosen_size}
use Rattle.zarrs_codec_leaf.specs.Leaf.{LeafMeaning, IsLawfulLeaf, encoding_of}
use Rattle.zarrs_codec_leaf.specs.Strings.{strings_meaning}
use Rattle.zarrs_codec_leaf.specs.VlenStrings.{is_short, behind_length, counted_strings, first_string, strings_of}

-- the cells of byte strings
pub cells-variable : (k : Kind) (strings : List (List ℕ)) → is_variable k ≡ true → cells k (variable strings) ≡ values_only k (map bytes strings)
cells-variable k strings is =
    let n = length strings in
    let f : ℕ → Cell = λ i. bytes (slice_index_or strings i []) in
    let cs = map f (range_with_len 0 n) in
    let same : cs ≡ map bytes strings =
    ext_get_or none cs (map bytes strings) (length-map-range_with_len f 0 n ∙ sym (length-map strings bytes)) (λ i lt.
    let here : i < n = omega (arith, length-map-range_with_len f 0 n) in
    get_or-map-range_with_len f 0 n i i none here (omega arith) ∙ sym (get_or-map bytes strings i [] none here)) in
    ap (λ x. cond (x && are_values k cs) (Some cs) None) (and_from (is_variable k) (eqb n n) is (eq-eqb n n refl))
    ∙ ap (values_only k) same

bytes_again : (strings : List (List ℕ)) → map cell_bytes (map bytes strings) ≡ strings
bytes_again strings = map-map cell_bytes bytes strings ∙ map_same (λ b. b) strings (λ i d lt. refl)

-- data of another kind
variable_size : (k : Kind) → is_variable k ≡ true → element_size k ≡ None
variable_size type.string is = refl
variable_size type.bytes is = refl
variable_size k is = absurd (false≢true is)

variable_inner : (k : Kind) → is_variable k ≡ true → inner_of k ≡ None
variable_inner type.string is = refl
variable_inner type.bytes is = refl
variable_inner k is = absurd (false≢true is)

none-some : {A : Type 0} {x : A} → None ≡ Some x → ⊥
none-some e = cc

not_taken : (x : Bool) → (x ≡ true → ⊥) → x ≡ false
not_taken true fails = absurd (fails refl)
not_taken false fails = refl

pub fixed_untaken : (taken : Bool) (k : Kind) (b : List ℕ) → (taken ≡ true → is_variable k ≡ true) → IsSome (cells k (fixed b)) → taken ≡ false
fixed_untaken taken k b only some =
    let sized = sized_cells k b some in
    not_taken taken (λ is. none-some (sym (variable_size k (only is)) ∙ sized.1))

pub optional_untaken : (taken : Bool) (k : Kind) (mask : List ℕ) (inner : ArrayData) → (taken ≡ true → is_variable k ≡ true) → IsSome (cells k (optional mask inner)) → taken ≡ false
optional_untaken taken k mask inner only some =
    let at = fits-cells k (optional mask inner) some in
    let held = fits-optional k mask inner at.0 at.1 in
    not_taken taken (λ is. none-some (sym (variable_inner k (only is)) ∙ held.1))

module _ (takes : Kind → Bool) (written : List (List ℕ) → Option (List ℕ)) (read : ℕ → List ℕ → Option (List (List ℕ)))
    (k : Kind) (taken : takes k ≡ true) (only : takes k ≡ true → is_variable k ≡ true) where
  abbrev leaf : LeafMeaning
  leaf = strings_meaning takes written read

  -- the encoding of data is what is written of its byte strings
  pub encoding_of-strings : (d : ArrayData) (strings : List (List ℕ)) → d ≡ variable strings → IsSome (cells k d) → encoding_of leaf k d ≡ written strings
  encoding_of-strings d strings is there =
      let same : cells k d ≡ values_only k (map bytes strings) = ap (cells k) is ∙ cells-variable k strings (only taken) in
      let p = chosen_size (values_only k (map bytes strings)) (ap is_some (sym same) ∙ there) in
      let q = only_parts (are_values k (map bytes strings)) (Some (map bytes strings)) p.0 p.1 in
      ap (option_and_then (λ cs. leaf.encoded k cs)) (same ∙ p.1 ∙ sym q.1)
      ∙ ap (λ x. cond x (written (map cell_bytes (map bytes strings))) None) taken
      ∙ ap written (bytes_again strings)

  -- what is read decodes
  pub decoded-strings : (n : ℕ) (b : List ℕ) (strings : List (List ℕ)) → Some strings ≡ read n b → cells k (variable strings) ≡ leaf.decoded k n b
  decoded-strings n b strings is =
      cells-variable k strings (only taken)
      ∙ ap (option_and_then (λ ss. values_only k (map bytes ss))) is
      ∙ sym (ap (λ x. cond x (option_and_then (λ ss. values_only k (map bytes ss)) (read n b)) None) taken)

  -- where it is values
  pub refused-strings : IsLawfulLeaf leaf → (n : ℕ) (b : List ℕ) (strings : List (List ℕ)) → Some strings ≡ read n b → (HasCells k (variable strings) n → ⊥) → leaf.decoded k n b ≡ None
  refused-strings law n b strings is fails = go (leaf.decoded k n b) refl
    where
      go : (o : Option (List Cell)) → leaf.decoded k n b ≡ o → leaf.decoded k n b ≡ None
      go None made = made
      go (Some cs) made =
          absurd (fails (subst (λ o. IsSomeAnd o (λ x. length x ≡ n)) (sym (decoded-strings n b strings is ∙ made)) (law.decoded_len k n b cs made)))

  pub unread-strings : (n : ℕ) (b : List ℕ) → None ≡ read n b → leaf.decoded k n b ≡ None
  unread-strings n b is =
      ap (λ x. cond x (option_and_then (λ ss. values_only k (map bytes ss)) (read n b)) None) taken
      ∙ sym (ap (option_and_then (λ ss. values_only k (map bytes ss))) is)

-- ---- byte strings behind their lengths

flat_map_more : (f : List ℕ → List ℕ) (xs : List (List ℕ)) (i : ℕ) (d : List ℕ) → i < length xs → flat_map f (take (i + 1) xs) ≡ flat_map f (take i xs) ++ f (get_or xs i d)
flat_map_more f xs i d lt =
    ap (flat_map f) (take_more xs i d lt)
    ∙ flat_map-append f (take i xs) (get_or xs i d ∷ [])
    ∙ ap (λ l. flat_map f (take i xs) ++ l) (append-nil (f (get_or xs i d)))

pub counted_more : (strings : List (List ℕ)) (i : ℕ) (head old new string : List ℕ) → i < length strings → old ≡ head ++ flat_map behind_length (take i strings)
    → string ≡ get_or strings i [] → new ≡ old ++ behind_length string → new ≡ head ++ flat_map behind_length (take (i + 1) strings)
counted_more strings i head old new string lt was is put =
    put
    ∙ ap (λ l. l ++ behind_length string) was
    ∙ ap (λ s. (head ++ flat_map behind_length (take i strings)) ++ behind_length s) is
    ∙ append_assoc head (flat_map behind_length (take i strings)) (behind_length (get_or strings i []))
    ∙ ap (λ l. head ++ l) (sym (flat_map_more behind_length strings i [] lt))

pub short_more : (strings : List (List ℕ)) (i : ℕ) (string : List ℕ) → i < length strings → list_all is_short (take i strings) ≡ true → string ≡ get_or strings i [] → is_short string ≡ true
    → list_all is_short (take (i + 1) strings) ≡ true
short_more strings i string lt before is short =
    list_all_more is_short strings i [] lt ∙ and_from (list_all is_short (take i strings)) (is_short (get_or strings i [])) before (ap is_short (sym is) ∙ short)

pub counted_all : (strings : List (List ℕ)) (i : ℕ) (made : List ℕ) → length strings ≤ i → length strings < 2 ^ 32 → list_all is_short (take i strings) ≡ true
    → made ≡ to_le_bytes w32 (length strings) ++ flat_map behind_length (take i strings) → Some made ≡ counted_strings strings
counted_all strings i made end few short is =
    let n = length strings in
    let body = to_le_bytes w32 n ++ flat_map behind_length strings in
    ap Some (is ∙ ap (λ l. to_le_bytes w32 n ++ flat_map behind_length l) (take_all i strings end))
    ∙ sym (ap (λ x. cond x (Some body) None) (and_from (nat_lt n (2 ^ 32)) (list_all is_short strings) (lt-ltb n (2 ^ 32) few) (ap (list_all is_short) (sym (take_all i strings end)) ∙ short)))

uncounted_if : (few short : Bool) (made : List ℕ) → (few ≡ true → short ≡ true → ⊥) → cond (few && short) (Some made) None ≡ None
uncounted_if true true made fails = absurd (fails refl refl)
uncounted_if true false made fails = refl
uncounted_if false short made fails = refl

pub counted_long : (strings : List (List ℕ)) (i : ℕ) (string : List ℕ) → i < length strings → string ≡ get_or strings i [] → is_short string ≡ false → None ≡ counted_strings strings
counted_long strings i string lt is long =
    sym (uncounted_if (nat_lt (length strings) (2 ^ 32)) (list_all is_short strings) (to_le_bytes w32 (length strings) ++ flat_map behind_length strings)
    (λ few short. false≢true (sym long ∙ ap is_short is ∙ AllPass-from_list_all is_short strings short i [] lt)))

pub counted_many : (strings : List (List ℕ)) → 2 ^ 32 ≤ length strings → None ≡ counted_strings strings
counted_many strings many =
    sym (ap (λ x. cond (x && list_all is_short strings) (Some (to_le_bytes w32 (length strings) ++ flat_map behind_length strings)) None) (le-ltb (length strings) (2 ^ 32) many))

-- ---- and read again

map_map : (f g : List (List ℕ) → List (List ℕ)) (o : Option (List (List ℕ))) → option_map f (option_map g o) ≡ option_map (λ x. f (g x)) o
map_map f g None = refl
map_map f g (Some x) = refl

push_then : (made : List (List ℕ)) (string : List ℕ) (o : Option (List (List ℕ))) → option_map (λ ss. made ++ string ∷ ss) o ≡ option_map (λ ss. (made ++ string ∷ []) ++ ss) o
push_then made string None = refl
push_then made string (Some ss) = ap Some (sym (append_assoc made (string ∷ []) ss))

module _ (n : ℕ) (b : List ℕ) (made : List (List ℕ)) (rest : List ℕ) where
  pub read_more : (m j : ℕ) (string left : List ℕ) → strings_of n b ≡ option_map (λ ss. made ++ ss) (strings_of m rest) → m ≡ suc j → first_string rest ≡ Some (string, left)
      → strings_of n b ≡ option_map (λ ss. (made ++ string ∷ []) ++ ss) (strings_of j left)
  read_more m j string left was next is =
      was
      ∙ ap (λ x. option_map (λ ss. made ++ ss) (strings_of x rest)) next
      ∙ ap (λ o. option_map (λ ss. made ++ ss) (option_and_then (λ p. option_map (λ ss. p.0 ∷ ss) (strings_of j p.1)) o)) is
      ∙ map_map (λ ss. made ++ ss) (λ ss. string ∷ ss) (strings_of j left)
      ∙ push_then made string (strings_of j left)

  pub read_none : (m j : ℕ) → strings_of n b ≡ option_map (λ ss. made ++ ss) (strings_of m rest) → m ≡ suc j → first_string rest ≡ None → None ≡ strings_of n b
  read_none m j was next is =
      sym
      (was
      ∙ ap (λ x. option_map (λ ss. made ++ ss) (strings_of x rest)) next
      ∙ ap (λ o. option_map (λ ss. made ++ ss) (option_and_then (λ p. option_map (λ ss. p.0 ∷ ss) (strings_of j p.1)) o)) is)

  pub read_end : (m : ℕ) → strings_of n b ≡ option_map (λ ss. made ++ ss) (strings_of m rest) → m ≡ 0 → eqb (length rest) 0 ≡ true → Some made ≡ strings_of n b
  read_end m was end empty =
      sym
      (was
      ∙ ap (λ x. option_map (λ ss. made ++ ss) (strings_of x rest)) end
      ∙ ap (λ x. option_map (λ ss. made ++ ss) (cond x (Some []) None)) empty
      ∙ ap Some (append-nil made))

  pub read_left : (m : ℕ) → strings_of n b ≡ option_map (λ ss. made ++ ss) (strings_of m rest) → m ≡ 0 → eqb (length rest) 0 ≡ false → None ≡ strings_of n b
  read_left m was end left =
      sym
      (was
      ∙ ap (λ x. option_map (λ ss. made ++ ss) (strings_of x rest)) end
      ∙ ap (λ x. option_map (λ ss. made ++ ss) (cond x (Some []) None)) left)
