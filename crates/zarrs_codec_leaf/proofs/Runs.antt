-- Boxes whose cells stand one after another.
use Rattle.std.proofs.Common.{◌≡◌, ℕ, zero, suc, ◌+◌, ◌*◌, ◌<◌, ◌≤◌, Bool, true, false, eqb, nat_eq, cond, List, [], ◌∷◌, length, take, drop}
use Rattle.std.proofs.Common.{refl, sym, ap, subst, ◌∙◌, arith}
use Rattle.std.specs.Cmp.Lexicographic.{pointwise, same_text}
use Rattle.std.specs.List.{flat_map, range_with_len}
use Rattle.std.proofs.Math.Nat.{add-mul, mul_assoc, mul-le-mul_right}
use Rattle.std.proofs.lemmas.Bool.{eqb-true}
use Rattle.std.proofs.lemmas.List.{append-nil}
use Rattle.zarrs_subset.specs.Boxes.{position_count, place, BoxFits, InShape}
use Rattle.zarrs_subset.proofs.Counts.{count_some}
use Rattle.zarrs_subset.proofs.Overlaps.{AllSome}
use Rattle.zarrs_codec_leaf.specs.BoxReads.{box_bytes, is_run, run_from, MayReadBox}
use Rattle.zarrs_codec_leaf.specs.Sources.{MayReadPlaces, window_bytes}
use Rattle.zarrs_codec_leaf.specs.declared.source.Window.{Window}
use Rattle.zarrs_codec_leaf.proofs.Ones.{first_some, rest_some}
use Rattle.zarrs_codec_leaf.proofs.RowReads.{box_first, box_run, box_whole, first_place, may_read_cell, may_read_inner, may_read_run}

-- a box that some array holds whole begins at its first cell
place_whole : (start shape : List ℕ) → BoxFits start shape shape → place shape start ≡ 0
place_whole [] [] fits = refl
place_whole [] (n ∷ shape) fits = absurd fits
place_whole (s ∷ start) [] fits = absurd fits
place_whole (s ∷ start) (n ∷ shape) fits =
    let whole : s + n ≤ n = fits.0 in
    let first : s ≡ 0 = omega arith in
    omega (arith, ap (λ i. i * position_count shape) first, place_whole start shape fits.1)

-- the first cell of a box with a cell is one of the array
pub start_in : (start extents shape : List ℕ) → BoxFits start extents shape → AllSome extents → InShape shape start
start_in [] [] [] fits some = tt
start_in [] [] (n ∷ shape) fits some = absurd fits
start_in [] (e ∷ extents) shape fits some = absurd fits
start_in (s ∷ start) [] shape fits some = absurd fits
start_in (s ∷ start) (e ∷ extents) [] fits some = absurd fits
start_in (s ∷ start) (e ∷ extents) (n ∷ shape) fits some =
    let here : s + e ≤ n = fits.0 in
    let one : 0 < e = first_some e extents some in
    ((let lt : s < n = omega arith in lt), start_in start extents shape fits.1 (rest_some e extents some))

-- what is said of the inner dimensions, and of the run of the outer ones
pub record IsTogether (may_read : ℕ → Bool) (size : ℕ) (shape start extents bytes : List ℕ) (offset : ℕ) : Type 0 where
  pub room : place shape start + position_count extents ≤ position_count shape
  pub allowed : MayReadPlaces may_read (offset + place shape start * size) (position_count extents * size)
  pub bytes_are : box_bytes size shape start extents bytes offset ≡ take (position_count extents * size) (drop (offset + place shape start * size) bytes)

-- one index of the first dimension
one_row : (may_read : ℕ → Bool) (size n s e : ℕ) (shape start extents bytes : List ℕ) (offset : ℕ) → e ≡ 1 → s + e ≤ n
    → IsTogether may_read size shape start extents bytes (offset + s * (position_count shape * size))
    → IsTogether may_read size (n ∷ shape) (s ∷ start) (e ∷ extents) bytes offset
one_row may_read size n s e shape start extents bytes offset one fits inner =
    let count = position_count shape in
    let cells = position_count extents in
    let at : offset + s * (count * size) + place shape start * size ≡ offset + (s * count + place shape start) * size = sym (first_place s count (place shape start) size offset) in
    let all : cells ≡ e * cells = omega (arith, ap (λ k. k * cells) one) in
    let below : suc s ≤ n = omega arith in
    record {
      room = (let h = inner.room in omega (arith, mul-le-mul_right {m = suc s} {n = n} count below, all));
      allowed = subst (λ k. MayReadPlaces may_read (offset + (s * count + place shape start) * size) (k * size)) all
          (subst (λ o. MayReadPlaces may_read o (cells * size)) at inner.allowed);
      bytes_are =
          box_first size n s e shape start extents bytes offset
          ∙ ap (λ k. flat_map (λ i. box_bytes size shape start extents bytes (offset + i * (count * size))) (range_with_len s k)) one
          ∙ append-nil (box_bytes size shape start extents bytes (offset + s * (count * size)))
          ∙ inner.bytes_are
          ∙ ap (λ o. take (cells * size) (drop o bytes)) at
          ∙ ap (λ k. take (k * size) (drop (offset + (s * count + place shape start) * size) bytes)) all;
    }

-- whole inner dimensions
whole_rows : (may_read : ℕ → Bool) (size n s e : ℕ) (shape start extents bytes : List ℕ) (offset : ℕ) → extents ≡ shape → s + e ≤ n → BoxFits start shape shape
    → 0 < position_count shape * size → MayReadBox may_read size (n ∷ shape) (s ∷ start) (e ∷ shape) offset
    → IsTogether may_read size (n ∷ shape) (s ∷ start) (e ∷ extents) bytes offset
whole_rows may_read size n s e shape start extents bytes offset same fits inner some may =
    let count = position_count shape in
    let block = count * size in
    let first : place shape start ≡ 0 = place_whole start shape inner in
    let at : offset + s * block ≡ offset + (s * count + place shape start) * size =
    omega (arith, first_place s count (place shape start) size offset, ap (λ k. k * size) first) in
    let len : e * block ≡ e * position_count extents * size = sym (mul_assoc e count size) ∙ ap (λ l. e * position_count l * size) (sym same) in
    let counted : e * position_count extents ≡ e * count = ap (λ l. e * position_count l) same in
    record {
      room = omega (arith, mul-le-mul_right {m = s + e} {n = n} count fits, add-mul s e count, first, counted);
      allowed = subst (λ k. MayReadPlaces may_read (offset + (s * count + place shape start) * size) k) len
          (subst (λ o. MayReadPlaces may_read o (e * block)) at (may_read_run may_read size n s e shape start offset block some inner refl may));
      bytes_are =
          ap (λ l. box_bytes size (n ∷ shape) (s ∷ start) (e ∷ l) bytes offset) same
          ∙ box_run size n s e shape start bytes offset block inner refl
          ∙ ap (λ o. take (e * block) (drop o bytes)) at
          ∙ ap (λ k. take k (drop (offset + (s * count + place shape start) * size) bytes)) len;
    }

some_block : (e count cells size : ℕ) → 0 < e * cells * size → cells ≡ count → 0 < count * size
some_block e count cells size some is = elim (count * size) as (λ b. count * size ≡ b → 0 < b) [
  | zero ↦ λ none. (let all : e * cells * size ≡ 0 = mul_assoc e cells size ∙ ap (λ c. e * (c * size)) is ∙ ap (λ b. e * b) none ∙ omega arith in absurd (omega arith))
  | suc b ↦ λ is. omega arith
] refl

run_step : (may_read : ℕ → Bool) (size n s e : ℕ) (shape start extents bytes : List ℕ) (offset : ℕ) (b : Bool) → eqb e 1 ≡ b
    → cond b (is_run shape extents) (pointwise nat_eq extents shape) ≡ true → s + e ≤ n → BoxFits start extents shape → 0 < e * position_count extents * size
    → MayReadBox may_read size (n ∷ shape) (s ∷ start) (e ∷ extents) offset
    → (is_run shape extents ≡ true → 0 < position_count extents * size → MayReadBox may_read size shape start extents (offset + s * (position_count shape * size))
    → IsTogether may_read size shape start extents bytes (offset + s * (position_count shape * size)))
    → IsTogether may_read size (n ∷ shape) (s ∷ start) (e ∷ extents) bytes offset
run_step may_read size n s e shape start extents bytes offset true is run fits inner some may together =
    let one : e ≡ 1 = eqb-true e 1 is in
    let all : e * position_count extents ≡ position_count extents = omega (arith, ap (λ k. k * position_count extents) one) in
    let here : 0 < position_count extents * size = subst (λ k. 0 < k * size) all some in
    one_row may_read size n s e shape start extents bytes offset one fits
    (together run here (may_read_inner may_read size n s e s shape start extents offset (position_count shape * size) (omega arith) (omega arith) refl may))
run_step may_read size n s e shape start extents bytes offset false is run fits inner some may together =
    let same : extents ≡ shape = same_text extents shape (sym run) in
    whole_rows may_read size n s e shape start extents bytes offset same fits
    (subst (λ l. BoxFits start l shape) same inner)
    (some_block e (position_count shape) (position_count extents) size some (ap position_count same))
    (subst (λ l. MayReadBox may_read size (n ∷ shape) (s ∷ start) (e ∷ l) offset) same may)

-- the cells of a run are bytes that stand one after another
pub run_together : (may_read : ℕ → Bool) (size : ℕ) (shape start extents bytes : List ℕ) (offset : ℕ) → BoxFits start extents shape → is_run shape extents ≡ true
    → 0 < position_count extents * size → MayReadBox may_read size shape start extents offset → IsTogether may_read size shape start extents bytes offset
run_together may_read size [] [] [] bytes offset fits run some may =
    let len : 1 * size ≡ position_count [] * size = refl in
    let at : offset ≡ offset + 0 * size = omega arith in
    record {
      room = omega arith;
      allowed = subst (λ o. MayReadPlaces may_read o (1 * size)) at (may_read_cell may_read size (1 * size) offset refl may);
      bytes_are = box_whole size [] [] bytes offset tt ∙ ap (λ o. take (1 * size) (drop o bytes)) at;
    }
run_together may_read size [] [] (e ∷ extents) bytes offset fits run some may = absurd fits
run_together may_read size [] (s ∷ start) [] bytes offset fits run some may = absurd fits
run_together may_read size [] (s ∷ start) (e ∷ extents) bytes offset fits run some may = absurd fits
run_together may_read size (n ∷ shape) [] [] bytes offset fits run some may = absurd fits
run_together may_read size (n ∷ shape) [] (e ∷ extents) bytes offset fits run some may = absurd fits
run_together may_read size (n ∷ shape) (s ∷ start) [] bytes offset fits run some may = absurd fits
run_together may_read size (n ∷ shape) (s ∷ start) (e ∷ extents) bytes offset fits run some may =
    run_step may_read size n s e shape start extents bytes offset (eqb e 1) refl run fits.0 fits.1 some may
    (λ inner here allowed. run_together may_read size shape start extents bytes (offset + s * (position_count shape * size)) fits.1 inner here allowed)

-- the window of a run, which lies in that of its array
pub record IsRunWindow (may_read : ℕ → Bool) (size : ℕ) (window run : Window) (shape start extents bytes : List ℕ) : Type 0 where
  pub starts : InShape shape start
  pub inside : run.offset + run.len ≤ length bytes
  pub allowed : MayReadPlaces may_read run.offset run.len
  pub bytes_are : window_bytes run bytes ≡ box_bytes size shape start extents bytes window.offset

pub run_window : (may_read : ℕ → Bool) (size count : ℕ) (window : Window) (shape start extents bytes : List ℕ) → BoxFits start extents shape → is_run shape extents ≡ true
    → AllSome extents → 0 < size → count ≡ position_count extents → window.len ≡ position_count shape * size → window.offset + window.len ≤ length bytes
    → MayReadBox may_read size shape start extents window.offset
    → IsRunWindow may_read size window (run_from window size shape start (count * size)) shape start extents bytes
run_window may_read size count window shape start extents bytes fits run all some is counted inside may =
    let one : 0 < position_count extents = count_some extents all in
    let here : 0 < position_count extents * size = omega (arith, mul-le-mul_right {m = 1} {n = position_count extents} size one) in
    let len : position_count extents * size ≡ count * size = ap (λ k. k * size) (sym is) in
    let together = run_together may_read size shape start extents bytes window.offset fits run here may in
    let from = window.offset + place shape start * size in
    record {
      starts = start_in start extents shape fits all;
      inside = omega (
        arith,
        mul-le-mul_right {m = place shape start + position_count extents} {n = position_count shape} size together.room,
        add-mul (place shape start) (position_count extents) size,
        len,
        counted,
      );
      allowed = subst (λ k. MayReadPlaces may_read from k) len together.allowed;
      bytes_are = sym (together.bytes_are ∙ ap (λ k. take k (drop from bytes)) len);
    }

-- the same, of what the code has
pub run_of_part : (may_read : ℕ → Bool) (size count : ℕ) (window run : Window) (shape first long start extents bytes : List ℕ) → first ≡ start → long ≡ extents
    → run ≡ run_from window size shape first (count * size) → BoxFits start extents shape → is_run shape long ≡ true
    → AllSome extents → 0 < size → count ≡ position_count extents → window.len ≡ position_count shape * size → window.offset + window.len ≤ length bytes
    → MayReadBox may_read size shape start extents window.offset → IsRunWindow may_read size window run shape start extents bytes
run_of_part may_read size count window run shape first long start extents bytes first_is long_is run_is fits is all some counted len inside may =
    subst (λ w. IsRunWindow may_read size window w shape start extents bytes) (sym (run_is ∙ ap (λ l. run_from window size shape l (count * size)) first_is))
    (run_window may_read size count window shape start extents bytes fits (ap (is_run shape) (sym long_is) ∙ is) all some counted len inside may)
