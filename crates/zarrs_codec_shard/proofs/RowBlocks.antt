-- The rows of a box, block after block.
use Rattle.std.proofs.Common.{◌≡◌, ℕ, ◌+◌, ◌-◌, ◌*◌, ◌<◌, ◌≤◌, List, [], ◌∷◌, length, ◌++◌, take, drop, ap, ◌∙◌, inl, inr, arith, append_assoc}
use Rattle.std.specs.Prelude.{nat_le, nat_lt, slice_index}
use Rattle.std.proofs.lemmas.Bool.{and_parts, and_from, cases_lt, false≢true, ltb-true, leb-true, lt-ltb, le-leb}
use Rattle.std.proofs.lemmas.List.{length-append}
use Rattle.std.proofs.Math.Nat.{add-mul}
use Rattle.std.proofs.Math.Seq.{drop-append-add}
use Rattle.zarrs_data_type_bytes.proofs.Pieces.{piece_within}
use Rattle.zarrs_data_type_bytes.proofs.ByteStrings.{slice_range-front}
use Rattle.zarrs_subset.specs.Boxes.{position_count, place, offset_from, in_range, is_within}
use Rattle.zarrs_subset.specs.Pieces.{piece_at}
use Rattle.zarrs_subset.specs.Regions.{Box, IsLong, Holds, box_from, place_in}
use Rattle.zarrs_subset.proofs.Bytes.{place_in_below}
use Rattle.zarrs_codec_shard.specs.Blocks.{rows_of, AddsCells}

-- ---- the pieces of two lists, one behind the other

pub piece_front : (size n : ℕ) (a b : List ℕ) (j : ℕ) → length a ≡ n * size → j < n → piece_at size (a ++ b) j ≡ piece_at size a j
piece_front size n a b j len lt = slice_range-front a b (j * size) (j * size + size) (omega arith) (piece_within a size n j len lt)

pub piece_past : (size n : ℕ) (a b : List ℕ) (m : ℕ) → length a ≡ n * size → piece_at size (a ++ b) (n + m) ≡ piece_at size b m
piece_past size n a b m len =
    let at : (n + m) * size ≡ length a + m * size = omega (arith, add-mul n m size) in
    let width : (n + m) * size + size - (n + m) * size ≡ m * size + size - m * size = omega arith in
    ap (λ k. take k (drop ((n + m) * size) (a ++ b))) width
    ∙ ap (λ k. take (m * size + size - m * size) (drop k (a ++ b))) at
    ∙ ap (take (m * size + size - m * size)) (drop-append-add a b (m * size))

-- ---- one more block

pub some_rows : (shape : List ℕ) (n : ℕ) → n < slice_index shape 0 → 0 < length shape
some_rows [] n lt = absurd (omega arith)
some_rows (t ∷ ts) n lt = omega arith

module _ (size : ℕ) (held : Box) (bytes : List ℕ) (old mid new : List ℕ) (done count : ℕ) where
  rows_more : (s : ℕ) (ss : List ℕ) (t : ℕ) (ts : List ℕ) → IsLong (box_from (s ∷ ss) (t ∷ ts)) → AddsCells size held bytes (rows_of (box_from (s ∷ ss) (t ∷ ts)) 0 done) old mid
      → AddsCells size held bytes (rows_of (box_from (s ∷ ss) (t ∷ ts)) done count) mid new → AddsCells size held bytes (rows_of (box_from (s ∷ ss) (t ∷ ts)) 0 (done + count)) old new
  rows_more s ss t ts long a b =
      let p = position_count ts in
      record {
        added = a.added ++ b.added;
        new_is = b.new_is ∙ ap (λ l. l ++ b.added) a.new_is ∙ append_assoc old a.added b.added;
        count = omega (arith, length-append a.added b.added, a.count, b.count, ap (λ n. n * size) (add-mul done count p), add-mul (done * p) (count * p) size);
        cells_are = each;
      }
    where
      each : (position : List ℕ) → Holds (box_from ((s + 0) ∷ ss) ((done + count) ∷ ts)) position
          → piece_at size (a.added ++ b.added) (place_in (box_from ((s + 0) ∷ ss) ((done + count) ∷ ts)) position) ≡ piece_at size bytes (place_in held position)
      each [] holds = absurd (false≢true holds)
      each (i ∷ q) holds =
          let p = position_count ts in
          let parts = and_parts (in_range (s + 0) (done + count) i) (is_within ss ts q) holds in
          let tests = and_parts (nat_le (s + 0) i) (nat_lt i (s + 0 + (done + count))) parts.0 in
          let low : s + 0 ≤ i = leb-true (s + 0) i tests.0 in
          let high : i < s + 0 + (done + count) = ltb-true i (s + 0 + (done + count)) tests.1 in
          let r = place ts (offset_from ss q) in
          elim (cases_lt i (s + done)) [
            | inl below ↦
                let here : Holds (box_from ((s + 0) ∷ ss) (done ∷ ts)) (i ∷ q) =
                and_from (in_range (s + 0) done i) (is_within ss ts q) (and_from (nat_le (s + 0) i) (nat_lt i (s + 0 + done)) tests.0 (lt-ltb i (s + 0 + done) (omega arith))) parts.1 in
                let at = place_in_below (box_from ((s + 0) ∷ ss) (done ∷ ts)) (i ∷ q) long here in
                piece_front size (done * p) a.added b.added ((i - (s + 0)) * p + r) a.count at ∙ a.cells_are (i ∷ q) here
            | inr past ↦
                let here : Holds (box_from ((s + done) ∷ ss) (count ∷ ts)) (i ∷ q) =
                and_from (in_range (s + done) count i) (is_within ss ts q) (and_from (nat_le (s + done) i) (nat_lt i (s + done + count)) (le-leb (s + done) i past) (lt-ltb i (s + done + count) (omega arith))) parts.1 in
                let from : i - (s + 0) ≡ done + (i - (s + done)) = omega arith in
                let at : (i - (s + 0)) * p + r ≡ done * p + ((i - (s + done)) * p + r) = omega (arith, ap (λ n. n * p) from, add-mul done (i - (s + done)) p) in
                ap (piece_at size (a.added ++ b.added)) at ∙ piece_past size (done * p) a.added b.added ((i - (s + done)) * p + r) a.count ∙ b.cells_are (i ∷ q) here
          ]

  pub block_more : (part : Box) → IsLong part → 0 < length part.shape → AddsCells size held bytes (rows_of part 0 done) old mid
      → AddsCells size held bytes (rows_of part done count) mid new → AddsCells size held bytes (rows_of part 0 (done + count)) old new
  block_more part long some a b = go part.start part.shape long some a b
    where
      go : (start shape : List ℕ) → length start ≡ length shape → 0 < length shape → AddsCells size held bytes (rows_of (box_from start shape) 0 done) old mid
          → AddsCells size held bytes (rows_of (box_from start shape) done count) mid new → AddsCells size held bytes (rows_of (box_from start shape) 0 (done + count)) old new
      go start [] l some a b = absurd (omega arith)
      go [] (t ∷ ts) l some a b = absurd (omega arith)
      go (s ∷ ss) (t ∷ ts) l some a b = rows_more s ss t ts l a b
