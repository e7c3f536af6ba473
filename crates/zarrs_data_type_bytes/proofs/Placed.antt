-- Byte strings that lie among bytes.
use Rattle.std.proofs.Common.{◌≡◌, ℕ, zero, suc, ◌+◌, ◌-◌, ◌<◌, ◌≤◌, Bool, true, false, cond, List, [], ◌∷◌, ◌++◌}
use Rattle.std.proofs.Common.{length, map, take, drop, replicate, refl, sym, ap, ◌∙◌, subst, arith}
use Rattle.std.specs.Prelude.{slice_index, slice_range, sum_by}
use Rattle.std.specs.List.{range_with_len}
use Rattle.std.proofs.Math.Seq.{drop-append-add}
use Rattle.std.proofs.lemmas.List.{ext_get_or, get_or-map, get_or-replicate, length-map, length-replicate, length-append, take_all}
use Rattle.std.proofs.lemmas.List.Concat.{length-flat_map}
use Rattle.std.proofs.lemmas.List.FromFn.{length-map-range_with_len, get_or-map-range_with_len}
use Rattle.std.proofs.lemmas.List.Sums.{sum_by-cons, sum_by_more_le}
use Rattle.zarrs_subset.specs.Boxes.{position_count}
use Rattle.zarrs_subset.specs.Regions.{Box, IsLong, Holds, in_box, place_in}
use Rattle.zarrs_subset.proofs.Bytes.{place_in_below}
use Rattle.zarrs_data_type_bytes.specs.Parts.{TakesAt}
use Rattle.zarrs_data_type_bytes.proofs.Parts.{at_place}
use Rattle.zarrs_data_type_bytes.specs.Offsets.{joined}
use Rattle.zarrs_data_type_bytes.proofs.ByteStrings.{slice_range-front}
use Rattle.zarrs_data_type_bytes.specs.Places.{ArePlaces, placed_strings, string_of}

pub length_placed : (bytes starts lens : List ℕ) → length (placed_strings bytes starts lens) ≡ length starts
length_placed bytes starts lens =
    length-map-range_with_len (λ k. slice_range bytes (slice_index starts k) (slice_index starts k + slice_index lens k)) 0 (length starts)

pub placed_at : (bytes starts lens : List ℕ) (k : ℕ) → k < length starts
    → string_of (placed_strings bytes starts lens) k ≡ slice_range bytes (slice_index starts k) (slice_index starts k + slice_index lens k)
placed_at bytes starts lens k lt =
    get_or-map-range_with_len (λ j. slice_range bytes (slice_index starts j) (slice_index starts j + slice_index lens j)) 0 (length starts) k k [] lt (omega arith)

-- the same byte string, again and again
pub placed-replicate : (string : List ℕ) (n : ℕ) → placed_strings string (replicate n 0) (replicate n (length string)) ≡ replicate n string
placed-replicate string n =
    let starts = replicate n 0 in
    let lens = replicate n (length string) in
    let count = length-replicate {A = ℕ} n 0 in
    let copies = length-replicate {A = List ℕ} n string in
    ext_get_or [] (placed_strings string starts lens) (replicate n string) (length_placed string starts lens ∙ count ∙ sym copies)
    (λ k lt.
    let here : k < n = omega (arith, length_placed string starts lens, count) in
    let start = get_or-replicate {A = ℕ} n k 0 0 here in
    let len = get_or-replicate {A = ℕ} n k (length string) 0 here in
    let whole : 0 + length string - 0 ≡ length string = omega arith in
    placed_at string starts lens k (omega (arith, count))
    ∙ ap (λ s. slice_range string s (s + slice_index lens k)) start
    ∙ ap (λ l. slice_range string 0 (0 + l)) len
    ∙ ap (λ l. take l string) whole
    ∙ take_all (length string) string (omega arith)
    ∙ sym (get_or-replicate n k string [] here))

pub places-replicate : (string : List ℕ) (n : ℕ) → ArePlaces string (replicate n 0) (replicate n (length string))
places-replicate string n = record {
  same_length = length-replicate {A = ℕ} n (length string) ∙ sym (length-replicate {A = ℕ} n 0);
  within = λ k lt.
      let here : k < n = omega (arith, length-replicate {A = ℕ} n 0) in
      omega (arith, get_or-replicate {A = ℕ} n k 0 0 here, get_or-replicate {A = ℕ} n k (length string) 0 here);
}

-- ---- byte strings put behind the bytes

-- a slice of what stands behind
pub slice_range-past : (xs ys : List ℕ) (a b : ℕ) → slice_range (xs ++ ys) (length xs + a) (length xs + b) ≡ slice_range ys a b
slice_range-past xs ys a b =
    let n : length xs + b - (length xs + a) ≡ b - a = omega arith in
    ap (λ k. take k (drop (length xs + a) (xs ++ ys))) n ∙ ap (take (b - a)) (drop-append-add xs ys a)

-- where the byte strings start, if the first one starts at `from`
abbrev pub starts_from : ℕ → List (List ℕ) → List ℕ
starts_from from strings = map (λ k. from + sum_by length (take k strings)) (range_with_len 0 (length strings))

pub start_at : (from : ℕ) (strings : List (List ℕ)) (k : ℕ) → k < length strings → slice_index (starts_from from strings) k ≡ from + sum_by length (take k strings)
start_at from strings k lt = get_or-map-range_with_len (λ j. from + sum_by length (take j strings)) 0 (length strings) k k 0 lt (omega arith)

pub len_at : (strings : List (List ℕ)) (k : ℕ) → k < length strings → slice_index (map length strings) k ≡ length (string_of strings k)
len_at strings k lt = get_or-map length strings k [] 0 lt

pub length-joined : (strings : List (List ℕ)) → length (joined strings) ≡ sum_by length strings
length-joined strings = length-flat_map (λ string. string) strings

-- a byte string lies where those before it end
pub joined_at : (strings : List (List ℕ)) (k : ℕ) → k < length strings
    → slice_range (joined strings) (sum_by length (take k strings)) (sum_by length (take k strings) + length (string_of strings k)) ≡ string_of strings k
joined_at [] k lt = absurd (omega arith)
joined_at (string ∷ strings) zero lt = slice_range-front string (joined strings) 0 (0 + length string) (omega arith) (omega arith) ∙ whole
  where
    whole : slice_range string 0 (0 + length string) ≡ string
    whole = let len : 0 + length string - 0 ≡ length string = omega arith in ap (λ l. take l string) len ∙ take_all (length string) string (omega arith)
joined_at (string ∷ strings) (suc k) lt =
    let before = sum_by length (take k strings) in
    let one = string_of strings k in
    let first : sum_by length (take (suc k) (string ∷ strings)) ≡ length string + before = sum_by-cons length string (take k strings) in
    let end : length string + before + length one ≡ length string + (before + length one) = omega arith in
    ap (λ s. slice_range (string ++ joined strings) s (s + length one)) first
    ∙ ap (λ e. slice_range (string ++ joined strings) (length string + before) e) end
    ∙ slice_range-past string (joined strings) before (before + length one)
    ∙ joined_at strings k (omega arith)

-- byte strings that stand one after another
pub placed-joined : (strings : List (List ℕ)) → placed_strings (joined strings) (starts_from 0 strings) (map length strings) ≡ strings
placed-joined strings =
    let starts = starts_from 0 strings in
    let lens = map length strings in
    let count : length starts ≡ length strings = length-map-range_with_len (λ k. 0 + sum_by length (take k strings)) 0 (length strings) in
    ext_get_or [] (placed_strings (joined strings) starts lens) strings (length_placed (joined strings) starts lens ∙ count)
    (λ k lt.
    let here : k < length strings = omega (arith, length_placed (joined strings) starts lens, count) in
    let before = sum_by length (take k strings) in
    let start : slice_index starts k ≡ before = omega (arith, start_at 0 strings k here) in
    placed_at (joined strings) starts lens k (omega (arith, count))
    ∙ ap (λ s. slice_range (joined strings) s (s + slice_index lens k)) start
    ∙ ap (λ l. slice_range (joined strings) before (before + l)) (len_at strings k here)
    ∙ joined_at strings k here)

pub places-joined : (strings : List (List ℕ)) → ArePlaces (joined strings) (starts_from 0 strings) (map length strings)
places-joined strings =
    let count : length (starts_from 0 strings) ≡ length strings = length-map-range_with_len (λ k. 0 + sum_by length (take k strings)) 0 (length strings) in
    record {
      same_length = length-map strings length ∙ sym count;
      within = λ k lt.
          let here : k < length strings = omega (arith, count) in
          let sum = sum_by_more_le length strings k [] here in
          omega (arith, start_at 0 strings k here, len_at strings k here, length-joined strings);
    }

module _ (box other : Box) (long : IsLong box) (other_long : IsLong other) (bytes starts lens : List ℕ) (part : List (List ℕ)) (new_starts new_lens : List ℕ)
    (places : ArePlaces bytes starts lens) (held_len : length starts ≡ position_count box.shape) (part_len : length part ≡ position_count other.shape)
    (starts_len : length new_starts ≡ position_count box.shape) (lens_len : length new_lens ≡ position_count box.shape)
    (starts_taken : TakesAt box other (slice_index (starts_from (length bytes) part)) (slice_index starts) (slice_index new_starts))
    (lens_taken : TakesAt box other (slice_index (map length part)) (slice_index lens) (slice_index new_lens)) where
  all : List ℕ
  all = bytes ++ joined part

  -- a byte string of the part, and one that was there
  given : (j : ℕ) → j < length part → slice_index (starts_from (length bytes) part) j + slice_index (map length part) j ≤ length bytes + length (joined part)
  given j lt =
      let sum = sum_by_more_le length part j [] lt in
      omega (arith, start_at (length bytes) part j lt, len_at part j lt, length-joined part)

  pub places-taken : ArePlaces (bytes ++ joined part) new_starts new_lens
  places-taken = record {
    same_length = lens_len ∙ sym starts_len;
    within = λ k lt.
        let at = at_place box long k (omega (arith, starts_len)) in
        subst (λ i. slice_index new_starts i + slice_index new_lens i ≤ length (bytes ++ joined part)) at.2
        (go (in_box other at.0) at.0 at.1 refl (starts_taken at.0 at.1) (lens_taken at.0 at.1));
  }
    where
      go : (b : Bool) (position : List ℕ) → Holds box position → in_box other position ≡ b
          → slice_index new_starts (place_in box position) ≡ cond b (slice_index (starts_from (length bytes) part) (place_in other position)) (slice_index starts (place_in box position))
          → slice_index new_lens (place_in box position) ≡ cond b (slice_index (map length part) (place_in other position)) (slice_index lens (place_in box position))
          → slice_index new_starts (place_in box position) + slice_index new_lens (place_in box position) ≤ length (bytes ++ joined part)
      go true position holds is start len =
          let below = place_in_below other position other_long is in
          omega (arith, start, len, length-append bytes (joined part), given (place_in other position) (omega (arith, part_len)))
      go false position holds is start len =
          let below = place_in_below box position long holds in
          omega (arith, start, len, length-append bytes (joined part), places.within (place_in box position) (omega (arith, held_len)))

  pub strings-taken : TakesAt box other (string_of part) (string_of (placed_strings bytes starts lens)) (string_of (placed_strings (bytes ++ joined part) new_starts new_lens))
  strings-taken position holds = go (in_box other position) refl (starts_taken position holds) (lens_taken position holds)
    where
      i : ℕ
      i = place_in box position

      j : ℕ
      j = place_in other position

      below : i < position_count box.shape
      below = place_in_below box position long holds

      new_at : string_of (placed_strings (bytes ++ joined part) new_starts new_lens) i ≡ slice_range (bytes ++ joined part) (slice_index new_starts i) (slice_index new_starts i + slice_index new_lens i)
      new_at = placed_at (bytes ++ joined part) new_starts new_lens i (omega (arith, starts_len, below))

      go : (b : Bool) → in_box other position ≡ b
          → slice_index new_starts i ≡ cond b (slice_index (starts_from (length bytes) part) j) (slice_index starts i)
          → slice_index new_lens i ≡ cond b (slice_index (map length part) j) (slice_index lens i)
          → string_of (placed_strings (bytes ++ joined part) new_starts new_lens) i ≡ cond b (string_of part j) (string_of (placed_strings bytes starts lens) i)
      go true is start len =
          let there : j < length part = omega (arith, part_len, place_in_below other position other_long is) in
          let before = sum_by length (take j part) in
          let one = string_of part j in
          let from : slice_index new_starts i ≡ length bytes + before = start ∙ start_at (length bytes) part j there in
          let long_as : slice_index new_lens i ≡ length one = len ∙ len_at part j there in
          let to : slice_index new_starts i + slice_index new_lens i ≡ length bytes + (before + length one) = omega arith in
          new_at
          ∙ ap (λ s. slice_range (bytes ++ joined part) s (slice_index new_starts i + slice_index new_lens i)) from
          ∙ ap (λ e. slice_range (bytes ++ joined part) (length bytes + before) e) to
          ∙ slice_range-past bytes (joined part) before (before + length one)
          ∙ joined_at part j there
      go false is start len =
          let old_at = placed_at bytes starts lens i (omega (arith, held_len, below)) in
          let inside = places.within i (omega (arith, held_len, below)) in
          new_at
          ∙ ap (λ s. slice_range (bytes ++ joined part) s (s + slice_index new_lens i)) start
          ∙ ap (λ l. slice_range (bytes ++ joined part) (slice_index starts i) (slice_index starts i + l)) len
          ∙ slice_range-front bytes (joined part) (slice_index starts i) (slice_index starts i + slice_index lens i) (omega arith) inside
          ∙ sym old_at

-- ---- from what the steps leave

pub record PutIn (box other : Box) (bytes starts lens new_bytes new_starts new_lens : List ℕ) (held part : List (List ℕ)) : Type 0 where
  pub places : ArePlaces new_bytes new_starts new_lens
  pub strings : TakesAt box other (string_of part) (string_of held) (string_of (placed_strings new_bytes new_starts new_lens))

pub put-in : (box other : Box) (bytes starts lens new_bytes new_starts new_lens : List ℕ) (held part : List (List ℕ)) (from : ℕ) (given : List ℕ) (part_starts part_lens : List ℕ)
    → IsLong box → IsLong other → ArePlaces bytes starts lens → placed_strings bytes starts lens ≡ held
    → length held ≡ position_count box.shape → length part ≡ position_count other.shape
    → from ≡ length bytes → given ≡ joined part → new_bytes ≡ bytes ++ given → part_starts ≡ starts_from from part → part_lens ≡ map length part
    → length new_starts ≡ position_count box.shape → length new_lens ≡ position_count box.shape
    → TakesAt box other (slice_index part_starts) (slice_index starts) (slice_index new_starts)
    → TakesAt box other (slice_index part_lens) (slice_index lens) (slice_index new_lens)
    → PutIn box other bytes starts lens new_bytes new_starts new_lens held part
put-in box other bytes starts lens new_bytes new_starts new_lens held part from given part_starts part_lens long other_long places view held_len part_len from_is given_is bytes_is starts_is lens_is starts_len lens_len starts_taken lens_taken =
    let count : length starts ≡ position_count box.shape = sym (length_placed bytes starts lens) ∙ ap (λ (l : List (List ℕ)). length l) view ∙ held_len in
    let all_is : new_bytes ≡ bytes ++ joined part = bytes_is ∙ ap (λ l. bytes ++ l) given_is in
    let by_starts : TakesAt box other (slice_index (starts_from (length bytes) part)) (slice_index starts) (slice_index new_starts) =
    subst (λ (l : List ℕ). TakesAt box other (slice_index l) (slice_index starts) (slice_index new_starts)) (starts_is ∙ ap (λ n. starts_from n part) from_is) starts_taken in
    let by_lens : TakesAt box other (slice_index (map length part)) (slice_index lens) (slice_index new_lens) =
    subst (λ (l : List ℕ). TakesAt box other (slice_index l) (slice_index lens) (slice_index new_lens)) lens_is lens_taken in
    record {
      places = subst (λ (l : List ℕ). ArePlaces l new_starts new_lens) (sym all_is)
          (places-taken box other long other_long bytes starts lens part new_starts new_lens places count part_len starts_len lens_len by_starts by_lens);
      strings = subst (λ (l : List ℕ). TakesAt box other (string_of part) (string_of held) (string_of (placed_strings l new_starts new_lens))) (sym all_is)
          (subst (λ (h : List (List ℕ)). TakesAt box other (string_of part) (string_of h) (string_of (placed_strings (bytes ++ joined part) new_starts new_lens))) view
          (strings-taken box other long other_long bytes starts lens part new_starts new_lens places count part_len starts_len lens_len by_starts by_lens));
    }
