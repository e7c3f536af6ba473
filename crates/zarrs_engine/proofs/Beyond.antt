-- The cells of a chunk after those past a shape became fill, dimension by dimension.
use Rattle.std.proofs.Common.{◌≡◌, ◌≢◌, ◌==◌, ◌<◌, ◌≤◌, ◌+◌, ◌-◌, ◌⊎◌, ◌∙◌, ℕ, zero, suc, Bool, true, false, cond, List, length, replicate, Some, None, ap, inl, inr, refl, slice_index, subst, sym, arith}
use Rattle.std.specs.Prelude.{nat_lt}
use Rattle.std.proofs.lemmas.Bool.{cases_Bool, eq-eqb, eqb-true, false≢true, ltb-true, ltb-false}
use Rattle.std.proofs.Math.Nat.{mul-le-mul_right}
use Rattle.std.proofs.lemmas.List.{get_or-set_other, get_or-set_same, length-replicate, length-set}
use Rattle.zarrs_subset.specs.Boxes.{position_count}
use Rattle.zarrs_subset.specs.Regions.{Box, Holds, IsLong, LiesInBox, cell_in, in_box, place_in}
use Rattle.zarrs_subset.proofs.Bytes.{along_holds, holds_along, place_in_below}
use Rattle.zarrs_subset.proofs.Inside.{count_inside}
use Rattle.zarrs_chunk_grid.specs.Grids.{box_at}
use Rattle.zarrs_chunk_grid.proofs.Chunks.{box_dimensions, box_long}
use Rattle.zarrs_storage.specs.Store.{StoreState}
use Rattle.zarrs_data_type.specs.Cell.{Cell}
use Rattle.zarrs_data_type.specs.Kind.{cell_size}
use Rattle.zarrs_data_type.specs.ArrayData.{ArrayData}
use Rattle.zarrs_data_type.specs.Cells.{cells}
use Rattle.zarrs_data_type.specs.Parts.{TakesCells}
use Rattle.zarrs_engine_calls.specs.ArgumentRefusals.{size_refusal}
use Rattle.zarrs_engine_calls.specs.Changes.{RetrievesChunk}
use Rattle.zarrs_engine_calls.specs.Content.{value_at, content}
use Rattle.zarrs_engine_calls.specs.Cuts.{beyond_box, is_below}
use Rattle.zarrs_engine_calls.specs.Layout.{Layout}
use Rattle.zarrs_engine_calls.specs.Refusals as refusal
use Rattle.zarrs_engine_calls.specs.Refusals.{Refusal, RefusesBy, fill_refusal, is_too_large, refuse_if}
use Rattle.zarrs_engine_calls.specs.StateRefusals.{RefusesKeptCut}
use Rattle.zarrs_engine_calls.proofs.Below.{along_below, below_along}
use Rattle.zarrs_engine_calls.proofs.Contents.{fill_at, replicated}
use Rattle.zarrs_engine_calls.proofs.RefusalLemmas.{memory_or_said, not_large, second_refusal, small_size}
use Rattle.zarrs_engine_layout.specs.Steps.{filled_refusal}
use Rattle.zarrs_engine.specs.Resizes.{HasCutCells, HasFilled, RefusesFilling}

-- two numbers are the same, or not
same_number : (j k : ℕ) → (j ≡ k) ⊎ (j ≢ k)
same_number j k = elim (cases_Bool (j == k)) [
  | inl is ↦ inl (eqb-true j k is)
  | inr other ↦ inr (λ same. false≢true (sym other ∙ eq-eqb j k same))
]

-- one is below the other, or not
below_or_not : (a b : ℕ) → (a < b) ⊎ (b ≤ a)
below_or_not a b = elim (cases_Bool (nat_lt a b)) [ inl less ↦ inl (ltb-true a b less) | inr more ↦ inr (ltb-false a b more) ]

-- a position is below a shape along the first n dimensions, or not below it along one of them
first_past : (shape position : List ℕ) (n : ℕ)
    → ((k : ℕ) → k < n → slice_index position k < slice_index shape k) ⊎ ((k : ℕ) × (k < n) × (slice_index shape k ≤ slice_index position k))
first_past shape position zero = inl (λ k below. absurd (omega arith))
first_past shape position (suc n) = elim (first_past shape position n) [
  | inr past ↦ inr (past.0, (let b = past.1 in omega arith), past.2)
  | inl all ↦ elim (below_or_not (slice_index position n) (slice_index shape n)) [
    | inr past ↦ inr (n, omega arith, past)
    | inl low ↦ inl (λ k below. elim (same_number k n) [
      | inl is ↦ subst (λ j. slice_index position j < slice_index shape j) (sym is) low
      | inr apart ↦ all k (omega (arith, apart))
    ])
  ]
]

-- of a smaller shape the cells are fewer
smaller : (layout : Layout) (less more : List ℕ) → position_count less ≤ position_count more → is_too_large layout more ≡ false → is_too_large layout less ≡ false
smaller layout less more below fit =
    let size = cell_size layout.kind in
    let fits = not_large layout more fit in
    let product = mul-le-mul_right size below in
    small_size layout less (position_count less) size refl refl (omega arith)

only_size : (large : Bool) (r : Refusal) → refuse_if large refusal.size_overflow ≡ Some r → refusal.size_overflow ≡ r
only_size true r e = cc
only_size false r e = absurd (cc)

module _ (box : Box) (shape : List ℕ) (k : ℕ) (long : IsLong box) (same : length shape ≡ length box.start) (within : k < length shape)
    (low : slice_index box.start k < slice_index shape k) (high : slice_index shape k < slice_index box.start k + slice_index box.shape k) where
  abbrev gone : Box
  gone = beyond_box box shape k

  abbrev rest : ℕ
  rest = slice_index box.start k + slice_index box.shape k - slice_index shape k

  pub gone_long : IsLong gone
  gone_long = length-set box.start k (slice_index shape k) ∙ long ∙ sym (length-set box.shape k rest)

  start_here : slice_index gone.start k ≡ slice_index shape k
  start_here = get_or-set_same box.start k (slice_index shape k) 0 (omega (arith, same))

  shape_here : slice_index gone.shape k ≡ rest
  shape_here = get_or-set_same box.shape k rest 0 (omega (arith, same, long))

  start_there : (j : ℕ) → j ≢ k → slice_index gone.start j ≡ slice_index box.start j
  start_there j apart = get_or-set_other box.start k j (slice_index shape k) 0 apart

  shape_there : (j : ℕ) → j ≢ k → slice_index gone.shape j ≡ slice_index box.shape j
  shape_there j apart = get_or-set_other box.shape k j rest 0 apart

  -- it begins in the box, and ends where that does
  from : (j : ℕ) → slice_index box.start j ≤ slice_index gone.start j
  from j = elim (same_number j k) [
    | inl is ↦ subst (λ i. slice_index box.start i ≤ slice_index gone.start i) (sym is) (let a = start_here in omega arith)
    | inr apart ↦ (let a = start_there j apart in omega arith)
  ]

  to : (j : ℕ) → slice_index gone.start j + slice_index gone.shape j ≡ slice_index box.start j + slice_index box.shape j
  to j = elim (same_number j k) [
    | inl is ↦ subst (λ i. slice_index gone.start i + slice_index gone.shape i ≡ slice_index box.start i + slice_index box.shape i) (sym is)
        (let a = start_here in let b = shape_here in omega arith)
    | inr apart ↦ (let a = start_there j apart in let b = shape_there j apart in omega arith)
  ]

  pub gone_lies : LiesInBox gone box
  gone_lies = record {
    same_length = length-set box.start k (slice_index shape k);
    starts = λ j below. from j;
    ends = λ j below. let a = to j in omega arith;
  }

  -- it has the positions of the box that are not below the shape along this dimension
  past_in : (position : List ℕ) → Holds box position → slice_index shape k ≤ slice_index position k → in_box gone position ≡ true
  past_in position holds past =
      let inside = holds_along box position long holds in
      let starts = length-set box.start k (slice_index shape k) in
      along_holds gone position gone_long (record {
        same_length = inside.same_length ∙ sym starts;
        from = λ j below. elim (same_number j k) [
          | inl is ↦ subst (λ i. slice_index gone.start i ≤ slice_index position i) (sym is) (let a = start_here in omega arith)
          | inr apart ↦ (let a = start_there j apart in let b = inside.from j (omega (arith, starts)) in omega arith)
        ];
        below = λ j below. let a = to j in let b = inside.below j (omega (arith, starts)) in omega arith;
      })

  gone_past : (position : List ℕ) → Holds gone position → slice_index shape k ≤ slice_index position k
  gone_past position holds =
      let starts = length-set box.start k (slice_index shape k) in
      let inside = holds_along gone position gone_long holds in
      let a = inside.from k (omega (arith, starts, same)) in
      let b = start_here in
      omega arith

  low_out : (position : List ℕ) → slice_index position k < slice_index shape k → in_box gone position ≡ false
  low_out position less = elim (cases_Bool (in_box gone position)) [
    | inr out ↦ out
    | inl hit ↦ absurd (let past = gone_past position hit in omega arith)
  ]

  module _ (layout : Layout) (state : StoreState) where
    -- the fill is too large
    pub filling_fails : is_too_large layout box.shape ≡ false → (r : Refusal) → RefusesBy (filled_refusal layout gone.shape) r → RefusesFilling layout shape box r
    filling_fails fit r why = elim (memory_or_said _ r why) [
      | inl memory ↦ subst (RefusesFilling layout shape box) (sym memory) tt
      | inr said ↦
          let small = smaller layout gone.shape box.shape (count_inside gone box gone_long long gone_lies) fit in
          let none : size_refusal layout gone.shape ≡ None = ap (λ b. cond b (Some refusal.size_overflow) None) small in
          let fill : fill_refusal layout gone.shape ≡ Some r = sym (second_refusal (size_refusal layout gone.shape) _ none) ∙ said in
          let is = only_size _ r fill in
          subst (RefusesFilling layout shape box) is (k, within, fill ∙ ap Some (sym is))
    ]

    -- the fill was put into the cells
    pub filling_made : (held filled made : ArrayData) → HasFilled layout shape box state k held
        → cells layout.kind filled ≡ Some (replicate (position_count gone.shape) layout.fill)
        → TakesCells layout.kind box gone filled held made → HasFilled layout shape box state (k + 1) made
    filling_made held filled made h f t =
        let n = position_count gone.shape in
        let all = replicate n layout.fill in
        let one : Some t.given ≡ Some all = sym t.part_is ∙ f in
        let given_is : t.given ≡ all = cc in
        let two : Some t.held ≡ Some h.chunk = sym t.old_is ∙ h.is_chunk in
        let held_is : t.held ≡ h.chunk = cc in
        let count : length all ≡ n = length-replicate n layout.fill in
        let apart : (position : List ℕ) → Holds box position → slice_index position k < slice_index shape k → cell_in box t.made position ≡ cell_in box h.chunk position =
        λ position holds less.
        t.takes position holds ∙ ap (λ b. cond b (cell_in gone t.given position) (cell_in box t.held position)) (low_out position less)
        ∙ ap (λ (cs : List Cell). cell_in box cs position) held_is in
        let put : (position : List ℕ) → Holds box position → slice_index shape k ≤ slice_index position k → cell_in box t.made position ≡ Some layout.fill =
        λ position holds past.
        let here = past_in position holds past in
        let below = place_in_below gone position gone_long here in
        t.takes position holds ∙ ap (λ b. cond b (cell_in gone t.given position) (cell_in box t.held position)) here
        ∙ ap (λ (cs : List Cell). cell_in gone cs position) given_is
        ∙ fill_at layout.fill all (place_in gone position) (replicated layout.fill n) (omega (arith, count)) in
        record {
          chunk = t.made;
          is_chunk = t.new_is;
          count = t.count ∙ ap (λ (cs : List Cell). length cs) held_is ∙ h.count;
          kept = λ position holds less. apart position holds (less k (omega arith)) ∙ h.kept position holds (λ j below. less j (omega arith));
          gone = λ position holds j below past. elim (below_or_not (slice_index position k) (slice_index shape k)) [
            | inr here ↦ put position holds here
            | inl low ↦
                let other : j ≢ k = λ is. (let at = subst (λ i. slice_index shape i ≤ slice_index position i) is past in omega arith) in
                apart position holds low ∙ h.gone position holds j (omega (arith, other)) past
          ];
        }

-- no position of the box is past the shape along this dimension
pub none_past : (layout : Layout) (box : Box) (shape : List ℕ) (k : ℕ) (state : StoreState) (held : ArrayData) → IsLong box → k < length box.start
    → slice_index box.start k + slice_index box.shape k ≤ slice_index shape k → HasFilled layout shape box state k held → HasFilled layout shape box state (k + 1) held
none_past layout box shape k state held long within top h = record {
  chunk = h.chunk;
  is_chunk = h.is_chunk;
  count = h.count;
  kept = λ position holds less. h.kept position holds (λ j below. less j (omega arith));
  gone = λ position holds j below past.
      let inside = (holds_along box position long holds).below k within in
      let other : j ≢ k = λ is. (let at = subst (λ i. slice_index shape i ≤ slice_index position i) is past in omega arith) in
      h.gone position holds j (omega (arith, other)) past;
}

-- what is made of a chunk that was read
pub first_filled : (layout : Layout) (shape index : List ℕ) (state : StoreState) (held : ArrayData) → RetrievesChunk layout index held state
    → HasFilled layout shape (box_at layout.grid index) state 0 held
first_filled layout shape index state held r = record {
  chunk = r.chunk;
  is_chunk = r.is_chunk;
  count = r.reads.count;
  kept = λ position holds less. sym (r.reads.each position holds);
  gone = λ position holds k below past. absurd (omega arith);
}

-- after the last dimension the chunk is cut
all_filled : (layout : Layout) (shape index : List ℕ) (state : StoreState) (made : ArrayData) → length shape ≡ length (box_at layout.grid index).start → IsLong (box_at layout.grid index)
    → HasFilled layout shape (box_at layout.grid index) state (length shape) made → HasCutCells layout shape index state made
all_filled layout shape index state made same long h =
    let box = box_at layout.grid index in
    record {
      chunk = h.chunk;
      is_chunk = h.is_chunk;
      cut = record {
        count = h.count;
        each = λ position holds.
            let cell = content layout (value_at state) position in
            elim (first_past shape position (length shape)) [
              | inl all ↦
                  let inside = holds_along box position long holds in
                  let low = along_below shape position (record { same_length = inside.same_length ∙ sym same; below = all }) in
                  h.kept position holds all ∙ sym (ap (λ b. cond b cell (Some layout.fill)) low)
              | inr past ↦
                  let high : is_below shape position ≡ false = elim (cases_Bool (is_below shape position)) [
                    | inr out ↦ out
                    | inl below ↦ absurd (let less = (below_along shape position below).below past.0 past.1 in let more = past.2 in omega arith)
                  ] in
                  h.gone position holds past.0 past.1 past.2 ∙ sym (ap (λ b. cond b cell (Some layout.fill)) high)
            ];
      };
    }

-- why the fill is not made is why the chunk is not cut
pub filling_cut : (layout : Layout) (keep : Bool) (shape index : List ℕ) (state : StoreState) (r : Refusal) → RefusesFilling layout shape (box_at layout.grid index) r
    → RefusesKeptCut layout keep shape index 0 state r
filling_cut layout keep shape index state refusal.size_overflow large = (refl, inr (inl (inr (inr large))))
filling_cut layout keep shape index state refusal.out_of_memory why = tt
filling_cut layout keep shape index state r why = absurd why

-- the same of a chunk of this box, after as many dimensions as the shape has
pub cut_filled : (layout : Layout) (shape index : List ℕ) (state : StoreState) (box : Box) (made : ArrayData) (n : ℕ) → box ≡ box_at layout.grid index → n ≡ length shape → length shape ≡ layout.grid.dimensions
    → HasFilled layout shape box state n made → HasCutCells layout shape index state made
cut_filled layout shape index state box made n is all dimensions filled =
    let whole = subst (λ (m : ℕ). HasFilled layout shape box state m made) all filled in
    all_filled layout shape index state made (dimensions ∙ sym (box_dimensions layout.grid index)) (box_long layout.grid index) (subst (λ (b : Box). HasFilled layout shape b state (length shape) made) is whole)
