-- Boxes that are copied out of an array into an array of their own.
use Rattle.std.proofs.Common.{◌≡◌, ℕ, suc, ◌+◌, ◌-◌, ◌*◌, ◌<◌, ◌≤◌, true, List, [], ◌∷◌, ◌++◌, length, take, drop, replicate, slice_get, Some}
use Rattle.std.proofs.Common.{refl, sym, ap, subst, ◌∙◌, arith}
use Rattle.std.specs.Prelude.{nat_le, nat_lt, if◌then◌else◌}
use Rattle.std.specs.List.{flat_map, range_with_len}
use Rattle.std.proofs.lemmas.Bool.{and_from, and_parts, le-leb, lt-ltb, ltb-true, false≢true}
use Rattle.std.proofs.lemmas.List.{drop-drop, drop-take, take-take as take-take_std, take_all, drop_all, append-nil}
use Rattle.std.proofs.lemmas.List.Folds.{flat_map-map}
use Rattle.std.proofs.lemmas.List.FromFn.{length-map-range_with_len}
use Rattle.zarrs_subset.specs.Boxes.{position_count, place, InShape, BoxFits, in_range, is_within, moved, offset_from, offset_by}
use Rattle.zarrs_subset.specs.Cells.{CellsCopied}
use Rattle.zarrs_subset.specs.Pieces.{piece_at, pieces}
use Rattle.zarrs_subset.specs.Regions.{Box, Holds, IsLong, cell_in, positions}
use Rattle.zarrs_subset.proofs.CellLists.{cells_are}
use Rattle.zarrs_subset.proofs.Kernel.{cell_ends, place_below}
use Rattle.zarrs_subset.proofs.Nothing.{length_fits}
use Rattle.zarrs_subset.proofs.Parts.{slice_get-pieces}
use Rattle.zarrs_subset.proofs.Positions.{offset_by-from, offset_from-in, positions_in}
use Rattle.zarrs_codec_leaf.specs.BoxReads.{box_bytes, cell_from, cells_in}
use Rattle.zarrs_codec_leaf.specs.Sources.{window_bytes}
use Rattle.zarrs_codec_leaf.specs.declared.source.Window.{Window}
use Rattle.zarrs_codec_leaf.proofs.RowReads.{flat_map-same, runs_joined}

-- ---- arrays that begin at the origin

-- a position of an array lies in the box of all of it
origin_holds : (extents q : List ℕ) → InShape extents q → is_within (replicate (length extents) 0) extents q ≡ true
origin_holds [] [] is = refl
origin_holds [] (i ∷ q) is = absurd is
origin_holds (e ∷ extents) [] is = absurd is
origin_holds (e ∷ extents) (i ∷ q) is =
    let below : i < e = is.0 in
    and_from (in_range 0 e i) (is_within (replicate (length extents) 0) extents q)
    (and_from (nat_le 0 i) (nat_lt i (0 + e)) (le-leb 0 i (omega arith)) (lt-ltb i (0 + e) (omega arith)))
    (origin_holds extents q is.1)

-- and stands as far from another corner
origin_moved : (extents start q : List ℕ) → length start ≡ length extents → InShape extents q → moved (replicate (length extents) 0) start q ≡ offset_by start q
origin_moved [] [] [] long is = refl
origin_moved [] [] (i ∷ q) long is = absurd is
origin_moved [] (s ∷ start) q long is = absurd (omega arith)
origin_moved (e ∷ extents) [] q long is = absurd (omega arith)
origin_moved (e ∷ extents) (s ∷ start) [] long is = absurd is
origin_moved (e ∷ extents) (s ∷ start) (i ∷ q) long is =
    let here : s + (i - 0) ≡ s + i = omega arith in
    ap (λ n. n ∷ moved (replicate (length extents) 0) start q) here ∙ ap (λ l. (s + i) ∷ l) (origin_moved extents start q (omega arith) is.1)

-- ---- the cells of the copy

abbrev same : List ℕ → List ℕ
same bytes = bytes

-- bytes are their pieces, one after another
pieces_joined : (size count : ℕ) (bytes : List ℕ) → length bytes ≡ count * size → bytes ≡ flat_map same (pieces size count bytes)
pieces_joined size count bytes len =
    let numbers = range_with_len 0 count in
    let at_first : 0 + 0 * size ≡ 0 = omega arith in
    sym
    (flat_map-map same (piece_at size bytes) numbers
    ∙ flat_map-same (piece_at size bytes) (λ i. take size (drop (0 + i * size) bytes)) numbers
    (λ i.
    let width : i * size + size - i * size ≡ size = omega arith in
    let at : i * size ≡ 0 + i * size = omega arith in
    ap (λ n. take n (drop (i * size) bytes)) width ∙ ap (λ n. take size (drop n bytes)) at)
    ∙ runs_joined size 0 count bytes 0
    ∙ ap (λ n. take (count * size) (drop n bytes)) at_first
    ∙ take_all (count * size) bytes (omega arith))

-- an array that took the box has its cells
pub gathered_cells : (size : ℕ) (shape origin array old new : List ℕ) (box : Box) → IsLong box → origin ≡ replicate (length box.shape) 0
    → length new ≡ position_count box.shape * size → CellsCopied size shape box.start box.shape origin box.shape array old new
    → new ≡ cells_in size shape box array
gathered_cells size shape origin array old new box long origin_is len copied =
    let count = position_count box.shape in
    let cell : List ℕ → List ℕ = λ p. piece_at size array (place shape p) in
    let cells_at : (p : List ℕ) → Holds box p → cell_in box (pieces size count new) p ≡ Some (cell p) = λ p holds.
    let q = offset_from box.start p in
    let inside = offset_from-in box.start box.shape p long holds in
    let hit : is_within origin box.shape q ≡ true = ap (λ o. is_within o box.shape q) origin_is ∙ origin_holds box.shape q inside in
    let back : moved origin box.start q ≡ p =
    ap (λ o. moved o box.start q) origin_is ∙ origin_moved box.shape box.start q long inside ∙ offset_by-from box.start box.shape p long holds in
    let one : piece_at size new (place box.shape q) ≡ cell p =
    copied q inside
    ∙ ap (λ b. if b then piece_at size array (place shape (moved origin box.start q)) else piece_at size old (place box.shape q)) hit
    ∙ ap cell back in
    slice_get-pieces size count (place box.shape q) new (place_below box.shape q inside) ∙ ap (λ c. Some c) one
    in
    pieces_joined size count new len
    ∙ ap (λ l. flat_map same l) (cells_are cell box (pieces size count new) [] long (length-map-range_with_len (piece_at size new) 0 count) cells_at)
    ∙ flat_map-map same cell (positions box)

-- the same, of what the code has
pub gathered_box : (size : ℕ) (shape start extents origin array old new : List ℕ) (box : Box) → IsLong box → start ≡ box.start → extents ≡ box.shape
    → origin ≡ replicate (length extents) 0 → length new ≡ length old → length old ≡ position_count box.shape * size
    → CellsCopied size shape start extents origin extents array old new → new ≡ cells_in size shape box array
gathered_box size shape start extents origin array old new box long start_is extents_is origin_is kept len copied =
    gathered_cells size shape origin array old new box long (origin_is ∙ ap (λ l. replicate (length l) 0) extents_is) (kept ∙ len)
    (subst (λ l. CellsCopied size shape box.start l origin l array old new) extents_is
    (subst (λ s. CellsCopied size shape s extents origin extents array old new) start_is copied))

-- a box of all of an array, which begins at the origin
pub origin_fits : (extents : List ℕ) → BoxFits (replicate (length extents) 0) extents extents
origin_fits [] = tt
origin_fits (e ∷ extents) = (omega arith, origin_fits extents)

-- a list whose bytes were all written
pub put_whole : (len : ℕ) (old new : List ℕ) → len ≡ length old → length new ≡ length old → take len (new ++ drop (length new) old) ≡ new
put_whole len old new is kept =
    let none : drop (length new) old ≡ [] = drop_all (length new) old (omega arith) in
    rw none (ap (take len) (append-nil new) ∙ take_all len new (omega arith))

-- ---- windows of sources

-- a position of a box in an array is one of the array
pub within_shape : (start extents shape p : List ℕ) → BoxFits start extents shape → is_within start extents p ≡ true → InShape shape p
within_shape [] [] [] [] fits inside = tt
within_shape [] [] [] (i ∷ p) fits inside = absurd (false≢true inside)
within_shape [] [] (n ∷ shape) p fits inside = absurd fits
within_shape [] (e ∷ extents) shape p fits inside = absurd fits
within_shape (s ∷ start) [] shape p fits inside = absurd fits
within_shape (s ∷ start) (e ∷ extents) [] p fits inside = absurd fits
within_shape (s ∷ start) (e ∷ extents) (n ∷ shape) [] fits inside = absurd (false≢true inside)
within_shape (s ∷ start) (e ∷ extents) (n ∷ shape) (i ∷ p) fits inside =
    let parts = and_parts (in_range s e i) (is_within start extents p) inside in
    let tests = and_parts (nat_le s i) (nat_lt i (s + e)) parts.0 in
    let high : i < s + e = ltb-true i (s + e) tests.1 in
    let end : s + e ≤ n = fits.0 in
    ((let lt : i < n = omega arith in lt), within_shape start extents shape p fits.1 parts.1)

-- a cell of the window
cell_of_window : (size c offset len : ℕ) (source : List ℕ) → c * size + size ≤ len → take size (drop (offset + c * size) source) ≡ piece_at size (take len (drop offset source)) c
cell_of_window size c offset len source ends =
    let width : c * size + size - c * size ≡ size = omega arith in
    let split : len ≡ c * size + (len - c * size) = omega arith in
    let rest : len - c * size ≡ size + (len - c * size - size) = omega arith in
    let here = drop offset source in
    ap (take size) (sym (drop-drop (c * size) offset source))
    ∙ sym
    (ap (λ n. take n (drop (c * size) (take len here))) width
    ∙ ap (λ n. take size (drop (c * size) (take n here))) split
    ∙ ap (take size) (drop-take (c * size) (len - c * size) here)
    ∙ ap (λ n. take size (take n (drop (c * size) here))) rest
    ∙ take-take size (len - c * size - size) (drop (c * size) here))
  where
    take-take : (n m : ℕ) (xs : List ℕ) → take n (take (n + m) xs) ≡ take n xs
    take-take n m xs = take-take_std n (n + m) xs (omega arith)

-- the bytes of a box are the cells of the window that its array fills
pub read_cells : (size len offset : ℕ) (shape : List ℕ) (box : Box) (source : List ℕ) → BoxFits box.start box.shape shape → len ≡ position_count shape * size
    → box_bytes size shape box.start box.shape source offset ≡ cells_in size shape box (take len (drop offset source))
read_cells size len offset shape box source fits is =
    flat_map-at (cell_from size shape source offset) (λ p. piece_at size (take len (drop offset source)) (place shape p)) (positions box)
    (λ i p found.
    let inside = positions_in box.start box.shape i p (length_fits box.start box.shape shape fits) found in
    let below = place_below shape p (within_shape box.start box.shape shape p fits inside) in
    cell_of_window size (place shape p) offset len source (cell_ends size (place shape p) (position_count shape) len below is))
  where
    flat_map-at : {X Y : Type 0} (f g : X → List Y) (xs : List X) → ((i : ℕ) (x : X) → slice_get xs i ≡ Some x → f x ≡ g x) → flat_map f xs ≡ flat_map g xs
    flat_map-at f g [] same = refl
    flat_map-at f g (x ∷ xs) same =
        ap (λ l. l ++ flat_map f xs) (same 0 x refl) ∙ ap (λ l. g x ++ l) (flat_map-at f g xs (λ i y found. same (suc i) y found))

-- what was gathered of what the source lent
pub lent_box : (size : ℕ) (window : Window) (shape : List ℕ) (box : Box) (source lent array made : List ℕ) → BoxFits box.start box.shape shape
    → window.len ≡ position_count shape * size → lent ≡ source → array ≡ window_bytes window lent → made ≡ cells_in size shape box array
    → made ≡ box_bytes size shape box.start box.shape source window.offset
lent_box size window shape box source lent array made fits len lent_is array_is is =
    is
    ∙ ap (cells_in size shape box) (array_is ∙ ap (window_bytes window) lent_is)
    ∙ sym (read_cells size window.len window.offset shape box source fits len)
