-- Codecs that make an array of an array, one after another.
use Rattle.std.proofs.Common.{◌≡◌, ℕ, zero, suc, ◌+◌, ◌-◌, ◌<◌, ◌≤◌, Bool, true, false, cond, ◌&&◌, List, [], ◌∷◌, ◌++◌}
use Rattle.std.proofs.Common.{length, take, drop, get_or, None, Some, refl, sym, ap, ◌∙◌, subst, arith, below_more}
use Rattle.std.specs.Prelude.{IfSome, option_and_then, Vec}
use Rattle.std.specs.List.{HoldsAt}
use Rattle.std.specs.declared.alloc.Global.{Global}
use Rattle.std.proofs.lemmas.Bool.{and_parts, and_from}
use Rattle.std.proofs.lemmas.List.{take_more, take_all, get_or_append_left, get_or_push, length_push}
use Rattle.zarrs_data_type.specs.ArrayData.{ArrayData}
use Rattle.zarrs_data_type.specs.Cell.{Cell}
use Rattle.zarrs_data_type.specs.Cells.{cells, HasCells}
use Rattle.zarrs_data_type.specs.Kind.{Kind}
use Rattle.zarrs_data_type_bytes.proofs.Cells.{HasCells-cells, HasCells-some}
use Rattle.zarrs_subset.specs.Boxes.{position_count}
use Rattle.zarrs_codec_array.specs.Arrays.{ArrayMeaning, and_then}
use Rattle.zarrs_codec_array.specs.ArrayCodecs.{array_meaning, arrays_meaning, AreMadeShapes, arrays-lawful, array-lawful}
use Rattle.zarrs_codec_array.specs.Gathered.{encoded_shape}
use Rattle.zarrs_codec_array.specs.declared.array.ArrayToArrayCodec.{ArrayToArrayCodec}

pub shape-cons : (a b : ArrayMeaning) (s : List ℕ) → encoded_shape (and_then a b) s ≡ option_and_then (encoded_shape b) (encoded_shape a s)
shape-cons a b s = go (a.fits s)
  where
    go : (x : Bool) → cond (x && b.fits (a.shape s)) (Some (b.shape (a.shape s))) None ≡ option_and_then (encoded_shape b) (cond x (Some (a.shape s)) None)
    go true = refl
    go false = refl

-- one codec more, behind the others
pub fits-snoc : (cs : List ArrayToArrayCodec) (c : ArrayToArrayCodec) (s : List ℕ) → (arrays_meaning (cs ++ c ∷ [])).fits s ≡ true → ((arrays_meaning cs).fits s ≡ true) × ((array_meaning c).fits ((arrays_meaning cs).shape s) ≡ true)
fits-snoc [] c s fit = (refl, (and_parts ((array_meaning c).fits s) true fit).0)
fits-snoc (x ∷ cs) c s fit =
    let p = and_parts ((array_meaning x).fits s) ((arrays_meaning (cs ++ c ∷ [])).fits ((array_meaning x).shape s)) fit in
    let q = fits-snoc cs c ((array_meaning x).shape s) p.1 in
    (and_from ((array_meaning x).fits s) ((arrays_meaning cs).fits ((array_meaning x).shape s)) p.0 q.0, q.1)

pub fits-front : (cs ds : List ArrayToArrayCodec) (s : List ℕ) → (arrays_meaning (cs ++ ds)).fits s ≡ true → (arrays_meaning cs).fits s ≡ true
fits-front [] ds s fit = refl
fits-front (x ∷ cs) ds s fit =
    let p = and_parts ((array_meaning x).fits s) ((arrays_meaning (cs ++ ds)).fits ((array_meaning x).shape s)) fit in
    and_from ((array_meaning x).fits s) ((arrays_meaning cs).fits ((array_meaning x).shape s)) p.0 (fits-front cs ds ((array_meaning x).shape s) p.1)

pub forward-snoc : (cs : List ArrayToArrayCodec) (c : ArrayToArrayCodec) (s : List ℕ) (xs : List Cell) → (arrays_meaning (cs ++ c ∷ [])).forward s xs ≡ (array_meaning c).forward ((arrays_meaning cs).shape s) ((arrays_meaning cs).forward s xs)
forward-snoc [] c s xs = refl
forward-snoc (x ∷ cs) c s xs = forward-snoc cs c ((array_meaning x).shape s) ((array_meaning x).forward s xs)

pub back-snoc : (cs : List ArrayToArrayCodec) (c : ArrayToArrayCodec) (s : List ℕ) (xs : List Cell) → (arrays_meaning (cs ++ c ∷ [])).back s xs ≡ (arrays_meaning cs).back s ((array_meaning c).back ((arrays_meaning cs).shape s) xs)
back-snoc [] c s xs = refl
back-snoc (x ∷ cs) c s xs = ap ((array_meaning x).back s) (back-snoc cs c ((array_meaning x).shape s) xs)

pub shape-snoc : (cs : List ArrayToArrayCodec) (c : ArrayToArrayCodec) (s : List ℕ) → (arrays_meaning (cs ++ c ∷ [])).shape s ≡ (array_meaning c).shape ((arrays_meaning cs).shape s)
shape-snoc [] c s = refl
shape-snoc (x ∷ cs) c s = shape-snoc cs c ((array_meaning x).shape s)

pub shape-fits : (m : ArrayMeaning) (s : List ℕ) → m.fits s ≡ true → encoded_shape m s ≡ Some (m.shape s)
shape-fits m s fit = ap (λ b. cond b (Some (m.shape s)) None) fit

append_take_drop : (cs : List ArrayToArrayCodec) (k : ℕ) → take k cs ++ drop k cs ≡ cs
append_take_drop cs zero = refl
append_take_drop [] (suc k) = refl
append_take_drop (c ∷ cs) (suc k) = ap (λ l. c ∷ l) (append_take_drop cs k)

pub fits-take : (cs : List ArrayToArrayCodec) (k : ℕ) (s : List ℕ) → (arrays_meaning cs).fits s ≡ true → (arrays_meaning (take k cs)).fits s ≡ true
fits-take cs k s fit = fits-front (take k cs) (drop k cs) s (ap (λ l. (arrays_meaning l).fits s) (append_take_drop cs k) ∙ fit)

-- the codec of number k
module _ (cs : List ArrayToArrayCodec) (k : ℕ) (c : ArrayToArrayCodec) (s : List ℕ) (lt : k < length cs) (is : c ≡ get_or cs k c) (fit : (arrays_meaning cs).fits s ≡ true) where
  one_more : take (k + 1) cs ≡ take k cs ++ c ∷ []
  one_more = take_more cs k c lt ∙ ap (λ x. take k cs ++ x ∷ []) (sym is)

  pub fits-at : (array_meaning c).fits ((arrays_meaning (take k cs)).shape s) ≡ true
  fits-at = (fits-snoc (take k cs) c s (ap (λ l. (arrays_meaning l).fits s) (sym one_more) ∙ fits-take cs (k + 1) s fit)).1

  pub shape-more : (arrays_meaning (take (k + 1) cs)).shape s ≡ (array_meaning c).shape ((arrays_meaning (take k cs)).shape s)
  shape-more = ap (λ l. (arrays_meaning l).shape s) one_more ∙ shape-snoc (take k cs) c s

  module _ (t : Kind) (d : ArrayData) (has : HasCells t d (position_count s)) where
    -- the array that comes to it
    pub encoded-has : (e : ArrayData) → IfSome (cells t d) (λ xs. cells t e ≡ Some ((arrays_meaning (take k cs)).forward s xs)) → HasCells t e (position_count ((arrays_meaning (take k cs)).shape s))
    encoded-has e made =
        let held = HasCells-cells t d (position_count s) has in
        let m = arrays_meaning (take k cs) in
        let law = arrays-lawful (take k cs) in
        let fit' = fits-take cs k s fit in
        let here : cells t e ≡ Some (m.forward s held.0) = subst (λ o. IfSome o (λ xs. cells t e ≡ Some (m.forward s xs))) held.1 made in
        subst (λ n. HasCells t e n) (law.forward_len s held.0 fit' held.2 ∙ sym (law.count s fit')) (HasCells-some t e (m.forward s held.0) here)

    pub encoded-more : (e f : ArrayData) → IfSome (cells t d) (λ xs. cells t e ≡ Some ((arrays_meaning (take k cs)).forward s xs))
        → IfSome (cells t e) (λ xs. cells t f ≡ Some ((array_meaning c).forward ((arrays_meaning (take k cs)).shape s) xs))
        → IfSome (cells t d) (λ xs. cells t f ≡ Some ((arrays_meaning (take (k + 1) cs)).forward s xs))
    encoded-more e f made next =
        let held = HasCells-cells t d (position_count s) has in
        let m = arrays_meaning (take k cs) in
        let here : cells t e ≡ Some (m.forward s held.0) = subst (λ o. IfSome o (λ xs. cells t e ≡ Some (m.forward s xs))) held.1 made in
        let there : cells t f ≡ Some ((array_meaning c).forward (m.shape s) (m.forward s held.0)) =
        subst (λ o. IfSome o (λ xs. cells t f ≡ Some ((array_meaning c).forward (m.shape s) xs))) here next in
        subst (λ o. IfSome o (λ xs. cells t f ≡ Some ((arrays_meaning (take (k + 1) cs)).forward s xs))) (sym held.1)
        (there ∙ ap Some (sym (forward-snoc (take k cs) c s held.0) ∙ ap (λ l. (arrays_meaning l).forward s held.0) (sym one_more)))

-- the shape that comes to the codec of number k, of those that were made
at-made : (cs : List ArrayToArrayCodec) (s : List ℕ) (made : List (Vec ℕ Global)) (k : ℕ) (now : List ℕ) → AreMadeShapes cs s made → k ≤ length made
    → (k ≡ 0 → now ≡ s) → (0 < k → HoldsAt (λ before. now ≡ before.items) made (k - 1)) → now ≡ (arrays_meaning (take k cs)).shape s
at-made cs s made zero now are le first later = first refl
at-made cs s [] (suc k) now are le first later = absurd (omega (arith, le))
at-made cs s (v ∷ vs) (suc k) now are le first later =
    let back : suc k - 1 ≡ k = omega arith in
    let next : k + 1 ≡ suc k = omega arith in
    later (omega arith) v ∙ ap (λ n. (get_or (v ∷ vs) n v).items) back ∙ are k v (omega (arith, le)) ∙ ap (λ n. (arrays_meaning (take n cs)).shape s) next

pub made-before : (cs : List ArrayToArrayCodec) (s : List ℕ) (made lent : List (Vec ℕ Global)) (k : ℕ) (now : List ℕ) → lent ≡ made → AreMadeShapes cs s made
    → k ≤ length made → (k ≡ 0 → now ≡ s) → (0 < k → HoldsAt (λ before. now ≡ before.items) lent (k - 1)) → now ≡ (arrays_meaning (take k cs)).shape s
made-before cs s made lent k now same are le first later =
    at-made cs s made k now are le first (subst (λ l. 0 < k → HoldsAt (λ before. now ≡ before.items) l (k - 1)) same later)

-- one shape more
pub made-more : (cs : List ArrayToArrayCodec) (s : List ℕ) (made : List (Vec ℕ Global)) (v : Vec ℕ Global) (k : ℕ) → length made ≡ k → AreMadeShapes cs s made
    → v.items ≡ (arrays_meaning (take (k + 1) cs)).shape s → AreMadeShapes cs s (made ++ v ∷ [])
made-more cs s made v k long are is i d lt =
    below_more (λ j. (get_or (made ++ v ∷ []) j d).items ≡ (arrays_meaning (take (j + 1) cs)).shape s) k
    (λ j below. ap (λ x. x.items) (get_or_append_left made (v ∷ []) d j (omega (arith, below, long))) ∙ are j d (omega (arith, below, long)))
    (ap (λ x. x.items) (get_or_push made v d k long) ∙ is) i (omega (arith, lt, length_push made v, long))

-- the codecs from number k on are undone: what is left of the others makes the decoded array
pub record IsUndone (cs : List ArrayToArrayCodec) (k : ℕ) (s : List ℕ) (t : Kind) (d e : ArrayData) : Type 0 where
  pub has : HasCells t e (position_count s)
  pub rest : IfSome (cells t d) (λ xs. IfSome (cells t e) (λ ys. (arrays_meaning (take k cs)).back s ys ≡ (arrays_meaning cs).back s xs))

module _ (cs : List ArrayToArrayCodec) (k : ℕ) (c : ArrayToArrayCodec) (s : List ℕ) (lt : k < length cs) (is : c ≡ get_or cs k c) (fit : (arrays_meaning cs).fits s ≡ true) where
  pub undone-has : (t : Kind) (e : ArrayData) → HasCells t e (position_count s) → HasCells t e (position_count ((arrays_meaning (take k cs)).shape s))
  undone-has t e has = subst (λ n. HasCells t e n) (sym ((arrays-lawful (take k cs)).count s (fits-take cs k s fit))) has

  pub undone-more : (t : Kind) (d e f : ArrayData) → HasCells t d (position_count s) → IsUndone cs (k + 1) s t d e
      → IfSome (cells t e) (λ ys. cells t f ≡ Some ((array_meaning c).back ((arrays_meaning (take k cs)).shape s) ys)) → IsUndone cs k s t d f
  undone-more t d e f has old next =
      let held = HasCells-cells t d (position_count s) has in
      let now = HasCells-cells t e (position_count s) old.has in
      let m = arrays_meaning (take k cs) in
      let law = arrays-lawful (take k cs) in
      let fit' = fits-take cs k s fit in
      let back = (array_meaning c).back (m.shape s) now.0 in
      let made : cells t f ≡ Some back = subst (λ o. IfSome o (λ ys. cells t f ≡ Some ((array_meaning c).back (m.shape s) ys))) now.1 next in
      let before : (arrays_meaning (take (k + 1) cs)).back s now.0 ≡ (arrays_meaning cs).back s held.0 =
      subst (λ o. IfSome o (λ ys. (arrays_meaning (take (k + 1) cs)).back s ys ≡ (arrays_meaning cs).back s held.0)) now.1
      (subst (λ o. IfSome o (λ xs. IfSome (cells t e) (λ ys. (arrays_meaning (take (k + 1) cs)).back s ys ≡ (arrays_meaning cs).back s xs))) held.1 old.rest) in
      let count = law.count s fit' in
      record {
        has = subst (λ n. HasCells t f n) ((array-lawful c).back_len (m.shape s) now.0 (fits-at cs k c s lt is fit) (now.2 ∙ sym count) ∙ count) (HasCells-some t f back made);
        rest = subst (λ o. IfSome o (λ xs. IfSome (cells t f) (λ ys. m.back s ys ≡ (arrays_meaning cs).back s xs))) (sym held.1)
            (subst (λ o. IfSome o (λ ys. m.back s ys ≡ (arrays_meaning cs).back s held.0)) (sym made)
            (sym (back-snoc (take k cs) c s now.0) ∙ ap (λ l. (arrays_meaning l).back s now.0) (sym (one_more cs k c s lt is fit)) ∙ before));
      }

pub undone-first : (cs : List ArrayToArrayCodec) (k : ℕ) (s : List ℕ) (t : Kind) (d : ArrayData) → length cs ≤ k → HasCells t d (position_count s) → IsUndone cs k s t d d
undone-first cs k s t d le has =
    let held = HasCells-cells t d (position_count s) has in
    record {
      has = has;
      rest = subst (λ o. IfSome o (λ xs. IfSome o (λ ys. (arrays_meaning (take k cs)).back s ys ≡ (arrays_meaning cs).back s xs))) (sym held.1)
          (ap (λ l. (arrays_meaning l).back s held.0) (take_all k cs le));
    }

pub undone-all : (cs : List ArrayToArrayCodec) (s : List ℕ) (t : Kind) (d e : ArrayData) → HasCells t d (position_count s) → IsUndone cs 0 s t d e → IfSome (cells t d) (λ xs. cells t e ≡ Some ((arrays_meaning cs).back s xs))
undone-all cs s t d e has undone =
    let held = HasCells-cells t d (position_count s) has in
    let now = HasCells-cells t e (position_count s) undone.has in
    let same : now.0 ≡ (arrays_meaning cs).back s held.0 =
    subst (λ o. IfSome o (λ ys. (arrays_meaning (take 0 cs)).back s ys ≡ (arrays_meaning cs).back s held.0)) now.1
    (subst (λ o. IfSome o (λ xs. IfSome (cells t e) (λ ys. (arrays_meaning (take 0 cs)).back s ys ≡ (arrays_meaning cs).back s xs))) held.1 undone.rest) in
    subst (λ o. IfSome o (λ xs. cells t e ≡ Some ((arrays_meaning cs).back s xs))) (sym held.1) (now.1 ∙ ap Some same)
