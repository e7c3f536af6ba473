-- Bytes cut into pieces of one size, and put together again.
use Rattle.std.proofs.Common.{◌≡◌, ℕ, zero, suc, ◌+◌, ◌-◌, ◌*◌, ◌<◌, ◌≤◌, ◌==◌, Bool, true, false, List, []}
use Rattle.std.proofs.Common.{◌∷◌, ◌++◌, length, map, take, drop, get_or, replicate, ◌&&◌, refl, sym, ap, ◌∙◌, arith}
use Rattle.std.proofs.Common.{append_assoc, append-nil}
use Rattle.std.specs.Prelude.{slice_range}
use Rattle.std.specs.List.{range_with_len, flat_map, list_all, repeat}
use Rattle.std.proofs.lemmas.Grind.{flat_map-append}
use Rattle.std.proofs.lemmas.Bool.{eqb-true, and_parts}
use Rattle.std.proofs.lemmas.List.{length-append, length-drop, length-take-le, take_at, take_all, take_more}
use Rattle.std.proofs.lemmas.List.Folds.{list_all-append}
use Rattle.std.proofs.lemmas.List.FromFn.{length-map-range_with_len, get_or-map-range_with_len, map-range_with_len_more, fill_by_all}
use Rattle.std.proofs.Math.Nat.{suc-mul, mul-le-mul_right}
use Rattle.std.proofs.Math.Seq.{take-add, drop-append-add}
use borrow.Author.Count.{below_more}
use Rattle.zarrs_subset.specs.Pieces.{pieces}
use Rattle.zarrs_data_type_bytes.proofs.ByteStrings.{slice_range-front, slice_range-seam}

-- a slice of what stands behind
slice_range-past : (xs ys : List ℕ) (a b : ℕ) → slice_range (xs ++ ys) (length xs + a) (length xs + b) ≡ slice_range ys a b
slice_range-past xs ys a b =
    let n : length xs + b - (length xs + a) ≡ b - a = omega arith in
    ap (λ k. take k (drop (length xs + a) (xs ++ ys))) n ∙ ap (take (b - a)) (drop-append-add xs ys a)

-- a piece ends where the bytes end at most
pub piece_within : (b : List ℕ) (size n k : ℕ) → length b ≡ n * size → k < n → k * size + size ≤ length b
piece_within b size n k len lt =
    let within = mul-le-mul_right {m = k + 1} {n = n} size (omega arith) in
    omega arith

pub length-pieces : (size n : ℕ) (b : List ℕ) → length (pieces size n b) ≡ n
length-pieces size n b = length-map-range_with_len (λ k. slice_range b (k * size) (k * size + size)) 0 n

-- one more piece
pub pieces_more : (size n : ℕ) (b : List ℕ) → pieces size (n + 1) b ≡ pieces size n b ++ slice_range b (n * size) (n * size + size) ∷ []
pieces_more size n b = map-range_with_len_more (λ k. slice_range b (k * size) (k * size + size)) 0 n n (omega arith)

joined_more : (f : List ℕ → List ℕ) (size n : ℕ) (b : List ℕ) → flat_map f (pieces size (n + 1) b) ≡ flat_map f (pieces size n b) ++ f (slice_range b (n * size) (n * size + size))
joined_more f size n b =
    ap (flat_map f) (pieces_more size n b)
    ∙ flat_map-append f (pieces size n b) (slice_range b (n * size) (n * size + size) ∷ [])
    ∙ ap (λ l. flat_map f (pieces size n b) ++ l) (append-nil (f (slice_range b (n * size) (n * size + size))))

-- the pieces put together are the front of the bytes
pub pieces-joined : (size n : ℕ) (b : List ℕ) → flat_map (λ x. x) (pieces size n b) ≡ take (n * size) b
pieces-joined size zero b = let e : zero * size ≡ 0 = omega arith in sym (ap (λ k. take k b) e)
pieces-joined size (suc n) b =
    let one : suc n ≡ n + 1 = omega arith in
    let next : (n + 1) * size ≡ n * size + size = ap (λ m. m * size) (sym one) ∙ suc-mul n size in
    let width : n * size + size - n * size ≡ size = omega arith in
    ap (λ m. flat_map (λ x. x) (pieces size m b)) one
    ∙ joined_more (λ x. x) size n b
    ∙ ap (λ l. l ++ slice_range b (n * size) (n * size + size)) (pieces-joined size n b)
    ∙ ap (λ k. take (n * size) b ++ take k (drop (n * size) b)) width
    ∙ sym (take-add (n * size) size b)
    ∙ ap (λ k. take k b) (sym next ∙ ap (λ m. m * size) (sym one))

-- all of the bytes
pub joined_all : (size n : ℕ) (b : List ℕ) → length b ≡ n * size → b ≡ flat_map (λ x. x) (pieces size n b)
joined_all size n b len = sym (pieces-joined size n b ∙ take_all (n * size) b (omega arith))

-- a piece has the size
pub length-piece : (size n : ℕ) (b : List ℕ) → length b ≡ n * size → (k : ℕ) (d : List ℕ) → k < n → length (get_or (pieces size n b) k d) ≡ size
length-piece size n b len k d lt =
    let within = piece_within b size n k len lt in
    ap length (get_or-map-range_with_len (λ j. slice_range b (j * size) (j * size + size)) 0 n k k d lt (omega arith))
    ∙ length-take-le (k * size + size - k * size) (drop (k * size) b) (omega (arith, length-drop (k * size) b))
    ∙ omega arith

-- as many bytes as the parts have
pub length-flat_map_same : {X : Type 0} (f : X → List ℕ) (size : ℕ) (xs : List X) → ((k : ℕ) (d : X) → k < length xs → length (f (get_or xs k d)) ≡ size) → length (flat_map f xs) ≡ length xs * size
length-flat_map_same f size [] each = omega arith
length-flat_map_same f size (x ∷ xs) each =
    length-append (f x) (flat_map f xs)
    ∙ omega (arith, each 0 x (omega arith), length-flat_map_same f size xs (λ k d lt. each (suc k) d (omega arith)), suc-mul (length xs) size)

-- the first piece, and the others
pub pieces-cons : (size n : ℕ) (x b : List ℕ) → length x ≡ size → pieces size (suc n) (x ++ b) ≡ x ∷ pieces size n b
pieces-cons size n x b len =
    let cut : ℕ → List ℕ = λ k. slice_range (x ++ b) (k * size) (k * size + size) in
    let zero_at : 0 * size ≡ 0 = omega arith in
    let whole : 0 + size - 0 ≡ size = omega arith in
    let first : cut 0 ≡ x =
    ap (λ m. slice_range (x ++ b) m (m + size)) zero_at ∙ ap (λ m. take m (x ++ b)) whole ∙ take_at x b size len in
    let others : map cut (range_with_len 1 n) ≡ pieces size n b =
    fill_by_all (λ k. slice_range b (k * size) (k * size + size)) (map cut (range_with_len 1 n)) n []
    (length-map-range_with_len cut 1 n)
    (λ k lt.
    let at : (1 + k) * size ≡ length x + k * size = omega (arith, suc-mul k size) in
    get_or-map-range_with_len cut 1 n k (1 + k) [] lt refl
    ∙ ap (λ m. slice_range (x ++ b) m (m + size)) at
    ∙ ap (λ m. slice_range (x ++ b) (length x + k * size) m) (let e : length x + k * size + size ≡ length x + (k * size + size) = omega arith in e)
    ∙ slice_range-past x b (k * size) (k * size + size)) in
    ap (λ y. y ∷ map cut (range_with_len 1 n)) first ∙ ap (λ l. x ∷ l) others

-- the pieces of pieces put together
pub pieces-flat_map : {X : Type 0} (f : X → List ℕ) (size : ℕ) (xs : List X) → ((k : ℕ) (d : X) → k < length xs → length (f (get_or xs k d)) ≡ size) → pieces size (length xs) (flat_map f xs) ≡ map f xs
pieces-flat_map f size [] each = refl
pieces-flat_map f size (x ∷ xs) each =
    pieces-cons size (length xs) (f x) (flat_map f xs) (each 0 x (omega arith))
    ∙ ap (λ l. f x ∷ l) (pieces-flat_map f size xs (λ k d lt. each (suc k) d (omega arith)))

-- the pieces of one byte
pub pieces-one : (b : List ℕ) → pieces 1 (length b) b ≡ map (λ x. x ∷ []) b
pieces-one [] = refl
pieces-one (x ∷ b) = pieces-cons 1 (length b) (x ∷ []) b refl ∙ ap (λ l. (x ∷ []) ∷ l) (pieces-one b)

-- the pieces of one that is repeated
pub pieces-repeat : (p : List ℕ) (n : ℕ) → pieces (length p) n (repeat n p) ≡ replicate n p
pieces-repeat p zero = refl
pieces-repeat p (suc n) = pieces-cons (length p) n p (repeat n p) refl ∙ ap (λ l. p ∷ l) (pieces-repeat p n)

pub length-repeat : (p : List ℕ) (n : ℕ) → length (repeat n p) ≡ n * length p
length-repeat p zero = omega arith
length-repeat p (suc n) = length-append p (repeat n p) ∙ omega (arith, length-repeat p n, suc-mul n (length p))

repeat_behind : (p : List ℕ) (n : ℕ) → repeat n p ++ p ≡ p ++ repeat n p
repeat_behind p zero = sym (append-nil p)
repeat_behind p (suc n) = append_assoc p (repeat n p) p ∙ ap (λ l. p ++ l) (repeat_behind p n)

-- one repetition more
pub repeat_more : (p : List ℕ) (n : ℕ) → repeat (n + 1) p ≡ repeat n p ++ p
repeat_more p n = let e : n + 1 ≡ suc n = omega arith in ap (λ m. repeat m p) e ∙ sym (repeat_behind p n)

-- the repetitions of two counts, one after the other
repeat_add : (p : List ℕ) (m n : ℕ) → repeat (m + n) p ≡ repeat m p ++ repeat n p
repeat_add p zero n = let e : zero + n ≡ n = omega arith in ap (λ k. repeat k p) e
repeat_add p (suc m) n =
    let e : suc m + n ≡ suc (m + n) = omega arith in
    ap (λ k. repeat k p) e ∙ ap (λ l. p ++ l) (repeat_add p m n) ∙ sym (append_assoc p (repeat m p) (repeat n p))

-- the front of what is repeated
take_repeated : (p : List ℕ) (m n : ℕ) → n ≤ m → take (n * length p) (repeat m p) ≡ repeat n p
take_repeated p m n le =
    let sum : m ≡ n + (m - n) = omega arith in
    ap (λ k. take (n * length p) (repeat k p)) sum
    ∙ ap (take (n * length p)) (repeat_add p n (m - n))
    ∙ take_at (repeat n p) (repeat (m - n) p) (n * length p) (length-repeat p n)

-- a few repetitions more, of those that stand
pub repeat_upto : (p made longer : List ℕ) (m more len n : ℕ) → made ≡ repeat m p → longer ≡ made ++ slice_range made 0 len → len ≡ more * length p → more ≤ m → n ≡ m + more → longer ≡ repeat n p
repeat_upto p made longer m more len n is added size few sum =
    let whole : len - 0 ≡ more * length p = omega (arith, size) in
    added
    ∙ ap (λ l. made ++ l) (ap (λ k. take k made) whole ∙ ap (take (more * length p)) is ∙ take_repeated p m more few)
    ∙ ap (λ l. l ++ repeat more p) is
    ∙ sym (repeat_add p m more)
    ∙ ap (λ k. repeat k p) (sym sum)

-- no bytes, again and again
repeat_empty : (n : ℕ) → repeat {A = ℕ} n [] ≡ []
repeat_empty zero = refl
repeat_empty (suc n) = repeat_empty n

pub repeat_none : (p : List ℕ) (n : ℕ) (made : List ℕ) → length p ≡ 0 → made ≡ [] → made ≡ repeat n p
repeat_none [] n made none is = is ∙ sym (repeat_empty n)
repeat_none (x ∷ p) n made none is = absurd (omega arith)

replicate_add : (x m n : ℕ) → replicate (m + n) x ≡ replicate m x ++ replicate n x
replicate_add x zero n = let e : zero + n ≡ n = omega arith in ap (λ k. replicate k x) e
replicate_add x (suc m) n =
    let e : suc m + n ≡ suc (m + n) = omega arith in
    ap (λ k. replicate k x) e ∙ ap (λ l. x ∷ l) (replicate_add x m n)

-- bytes that are all the same
all_same : (x : ℕ) (p : List ℕ) → list_all (λ b. b == x) p ≡ true → p ≡ replicate (length p) x
all_same x [] is = refl
all_same x (y ∷ p) is =
    let both = and_parts (y == x) (list_all (λ b. b == x) p) is in
    ap (λ z. z ∷ p) (eqb-true y x both.0) ∙ ap (λ l. x ∷ l) (all_same x p both.1)

-- and again and again
pub repeat_same : (x : ℕ) (p : List ℕ) (n : ℕ) → list_all (λ b. b == x) p ≡ true → replicate (n * length p) x ≡ repeat n p
repeat_same x p zero is = let e : zero * length p ≡ 0 = omega arith in ap (λ k. replicate k x) e
repeat_same x p (suc n) is =
    let e : suc n * length p ≡ length p + n * length p = omega (arith, suc-mul n (length p)) in
    ap (λ k. replicate k x) e
    ∙ replicate_add x (length p) (n * length p)
    ∙ ap (λ l. l ++ replicate (n * length p) x) (sym (all_same x p is))
    ∙ ap (λ l. p ++ l) (repeat_same x p n is)

and_true : (x : Bool) → (x && true) ≡ x
and_true true = refl
and_true false = refl

-- a test of the front, with one more byte
pub all-take_more : (test : ℕ → Bool) (xs : List ℕ) (i : ℕ) → i < length xs → list_all test (take (i + 1) xs) ≡ (list_all test (take i xs) && test (get_or xs i 0))
all-take_more test xs i lt =
    ap (list_all test) (take_more xs i 0 lt)
    ∙ list_all-append test (take i xs) (get_or xs i 0 ∷ [])
    ∙ ap (λ x. list_all test (take i xs) && x) (and_true (test (get_or xs i 0)))

-- ---- cells of one size, put one behind another

-- one more cell of one size
pub fixed_push : (out piece : List ℕ) (size i : ℕ) (f : ℕ → List ℕ) → length out ≡ i * size → length piece ≡ size → ((k : ℕ) → k < i → slice_range out (k * size) (k * size + size) ≡ f k) → piece ≡ f i → (k : ℕ) → k < i + 1 → slice_range (out ++ piece) (k * size) (k * size + size) ≡ f k
fixed_push out piece size i f len one below here =
    below_more (λ k. slice_range (out ++ piece) (k * size) (k * size + size) ≡ f k) i
    (λ k lt.
    let within = mul-le-mul_right {m = k + 1} {n = i} size (omega arith) in
    slice_range-front out piece (k * size) (k * size + size) (omega arith) (omega arith) ∙ below k lt)
    (slice_range-seam out piece (i * size) (i * size + size) (sym len) (omega arith) ∙ here)

-- a cell of one size has that size
pub length-fixed_cell : (bytes : List ℕ) (size n p : ℕ) → length bytes ≡ n * size → p < n → length (slice_range bytes (p * size) (p * size + size)) ≡ size
length-fixed_cell bytes size n p len lt =
    let within = mul-le-mul_right {m = p + 1} {n = n} size (omega arith) in
    length-take-le (p * size + size - p * size) (drop (p * size) bytes) (omega (arith, length-drop (p * size) bytes)) ∙ omega arith
