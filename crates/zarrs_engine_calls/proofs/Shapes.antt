-- What the three shapes of a write keep: some chunks took their part, some chunks are gone, or some chunks are cut.
use Rattle.std.proofs.Common.{◌≡◌, ◌≢◌, ◌⊎◌, ◌<◌, zero, suc, ℕ, Bool, true, false, List, [], ◌∷◌, length, take, Option}
use Rattle.std.proofs.Common.{Some, None, slice_get, Contains, refl, sym, ◌∙◌, ap, subst, inl, inr, arith}
use Rattle.std.specs.FinMap as map
use Rattle.std.proofs.lemmas.Bool.{cases_Bool}
use Rattle.std.proofs.lemmas.List.FromFn.{length-map-range_with_len}
use Rattle.zarrs_subset.specs.Regions.{Box, Holds, place_in, cell_in}
use Rattle.zarrs_subset.proofs.Bytes.{place_in_below, along_holds}
use Rattle.zarrs_chunk_grid.specs.Grids.{Grid, IsGrid, box_at, index_at, has_box, start_along, extent_along}
use Rattle.zarrs_chunk_grid.proofs.Chunks.{box_is_there, box_long, box_index, box_covered}
use Rattle.zarrs_chunk_grid.proofs.MetChunks.{at_dimension}
use Rattle.zarrs_keys.specs.Keys.{IsIndexList}
use Rattle.zarrs_storage.specs.Store.{StoreState}
use Rattle.zarrs_data_type.specs.Cell.{Cell}
use Rattle.zarrs_engine_calls.specs.Layout.{Layout, IsLawful}
use Rattle.zarrs_engine_calls.specs.Content.{value_at, content, Reads, decoded_cells, cell_at_place, chunk_cell}
use Rattle.zarrs_engine_calls.specs.Changes.{IsValueOf, ChangesKeysOf, HoldsValue, Stores, Erases}
use Rattle.zarrs_engine_calls.specs.Cuts.{Cuts, keeps_some}
use Rattle.zarrs_engine_calls.specs.Canon.{IsCanonicalValue, IsCanonical}
use Rattle.zarrs_engine_calls.specs.Laws.{EachDecodes}
use Rattle.zarrs_engine_calls.proofs.Contents.{fill_at, index_list, one_key, content_in_box, same_or_not}
use Rattle.zarrs_engine_calls.specs.Fronts.{Front}

not_among : (j i : List ℕ) (indices : List (List ℕ)) → j ≢ i → (Contains indices i → ⊥) → Contains (j ∷ indices) i → ⊥
not_among j i indices apart out (zero, below, at) = apart at
not_among j i indices apart out (suc k, below, at) = out (k, omega arith, at)

-- an index list is among the ones of a list or not
pub among_or_not : (indices : List (List ℕ)) (i : List ℕ) → Contains indices i ⊎ (Contains indices i → ⊥)
among_or_not [] i = inr (λ among. let below = among.1 in absurd (omega arith))
among_or_not (j ∷ indices) i =
    elim (same_or_not j i) [
      | inl is ↦ inl (0, omega arith, is)
      | inr apart ↦ elim (among_or_not indices i) [
        | inl among ↦ let below = among.1 in inl (suc among.0, omega arith, among.2)
        | inr out ↦ inr (not_among j i indices apart out)
      ]
    ]

-- a chunk has a position: its first one
pub first_held : (grid : Grid) → IsGrid grid → (index : List ℕ) → has_box grid index ≡ true → Holds (box_at grid index) (box_at grid index).start
unfolding box_at
first_held grid lawful index there =
    let has = box_is_there grid index there in
    let long = length-map-range_with_len (start_along grid index) 0 grid.dimensions in
    along_holds (box_at grid index) (box_at grid index).start (box_long grid index) (record {
      same_length = refl;
      from = λ k below. omega arith;
      below = λ k below.
          let inside : k < grid.dimensions = omega (arith, long) in
          let rises = (lawful k inside).ascends _ (has.numbered k inside) in
          rw (at_dimension grid.dimensions (start_along grid index) k inside, at_dimension grid.dimensions (extent_along grid index) k inside) (omega arith);
    })

-- a list has a cell at each number below its length
pub slice_there : (cells : List Cell) (k : ℕ) → k < length cells → (cell : Cell) × (slice_get cells k ≡ Some cell)
slice_there [] k h = absurd (omega arith)
slice_there (c ∷ cs) zero h = (c, refl)
slice_there (c ∷ cs) (suc k) h = slice_there cs k (omega arith)

module _ (layout : Layout) (lawful : IsLawful layout) where
  -- functions that agree over the box have the same canonical encoded
  canonical_same : (f g : List ℕ → Option Cell) (box : Box) (encoded : Option (List ℕ)) → ((position : List ℕ) → Holds box position → g position ≡ f position)
      → IsCanonicalValue layout f box encoded → IsCanonicalValue layout g box encoded
  canonical_same f g box None same is = λ position holds. same position holds ∙ is position holds
  canonical_same f g box (Some encoded) same is =
      (is.0, record { count = is.1.count; each = λ position holds. same position holds ∙ is.1.each position holds }, is.2, is.3)

  -- what is stored for the cells of a function is canonical for it
  canonical_value : (f : List ℕ → Option Cell) (index : List ℕ) (cells : List Cell) (encoded : Option (List ℕ)) → Reads f (box_at layout.grid index) cells
      → IsValueOf layout false (box_at layout.grid index) cells encoded → IsCanonicalValue layout f (box_at layout.grid index) encoded
  canonical_value f index cells None reads is = λ position holds.
      let below = place_in_below (box_at layout.grid index) position (box_long layout.grid index) holds in
      let count = reads.count in
      reads.each position holds ∙ fill_at layout.fill cells (place_in (box_at layout.grid index) position) is (omega arith)
  canonical_value f index cells (Some encoded) reads is = (cells, reads, is.0, is.1)

  -- the position's chunk is that of the box that holds it
  index_held : (i position : List ℕ) → has_box layout.grid i ≡ true → Holds (box_at layout.grid i) position → index_at layout.grid position ≡ i
  index_held i position has holds = box_index layout.grid lawful.grid i position (box_is_there layout.grid i has) holds

  module _ (indices : List (List ℕ)) (old new : StoreState) (long : (i : List ℕ) → Contains indices i → IsIndexList layout.grid.dimensions i) (keys : ChangesKeysOf layout indices old new) where
    -- a chunk that is not among those that changed has the bytes that it had
    pub others_keep : (i : List ℕ) → IsIndexList layout.grid.dimensions i → (Contains indices i → ⊥) → value_at new (layout.key i) ≡ value_at old (layout.key i)
    others_keep i i_long out =
        keys (layout.key i) (λ j among same. out (subst (Contains indices) (sym (one_key layout lawful i j i_long (long j among) same)) among))

    -- some chunks changed, and what is present at their keys is canonical
    some_changed : ((position : List ℕ) → (Contains indices (index_at layout.grid position) → ⊥) → content layout (value_at new) position ≡ content layout (value_at old) position)
        → ((i : List ℕ) → Contains indices i → has_box layout.grid i ≡ true → IsCanonicalValue layout (content layout (value_at new)) (box_at layout.grid i) (value_at new (layout.key i)))
        → ((i : List ℕ) → Contains indices i → has_box layout.grid i ≡ false → value_at new (layout.key i) ≡ None)
        → IsCanonical layout (value_at old) → IsCanonical layout (value_at new)
    some_changed outside boxed unboxed canon = record {
      boxed = λ i has. elim (among_or_not indices i) [
        | inl among ↦ boxed i among has
        | inr out ↦
            let same : (position : List ℕ) → Holds (box_at layout.grid i) position → content layout (value_at new) position ≡ content layout (value_at old) position =
            λ position holds. outside position (λ among. out (subst (Contains indices) (index_held i position has holds) among)) in
            subst (IsCanonicalValue layout (content layout (value_at new)) (box_at layout.grid i)) (sym (others_keep i (index_list layout lawful i has) out))
            (canonical_same _ _ (box_at layout.grid i) _ same (canon.boxed i has))
      ];
      unboxed = λ i i_long none. elim (among_or_not indices i) [
        | inl among ↦ unboxed i among none
        | inr out ↦ others_keep i i_long out ∙ canon.unboxed i i_long none
      ];
    }

    -- and what is present there decodes
    pub some_decode : ((i encoded : List ℕ) → Contains indices i → has_box layout.grid i ≡ true → value_at new (layout.key i) ≡ Some encoded → (cells : List Cell) × (decoded_cells layout (box_at layout.grid i) encoded ≡ Some cells))
        → EachDecodes layout old → EachDecodes layout new
    some_decode here each i encoded has at = elim (among_or_not indices i) [
      | inl among ↦ here i encoded among has at
      | inr out ↦ each i encoded has (sym (others_keep i (index_list layout lawful i has) out) ∙ at)
    ]

  found_cells : (found : Option (List Cell)) (n : ℕ) (cell : Cell) → cell_at_place found n ≡ Some cell → (cells : List Cell) × (found ≡ Some cells)
  found_cells None n cell is = absurd (cc)
  found_cells (Some cells) n cell is = (cells, refl)

  -- a chunk in which the content has a cell decodes
  pub known_decodes : (stored : List ℕ → Option (List ℕ)) (i encoded position : List ℕ) (cell : Cell) → has_box layout.grid i ≡ true → stored (layout.key i) ≡ Some encoded
      → Holds (box_at layout.grid i) position → content layout stored position ≡ Some cell → (cells : List Cell) × (decoded_cells layout (box_at layout.grid i) encoded ≡ Some cells)
  known_decodes stored i encoded position cell has at holds is =
      found_cells (decoded_cells layout (box_at layout.grid i) encoded) (place_in (box_at layout.grid i) position) cell
      (sym (content_in_box layout stored lawful i has position holds ∙ ap (λ t. chunk_cell layout t (box_at layout.grid i) position) at) ∙ is)

  cell_there : (box : Box) (cells : List Cell) (position : List ℕ) (n : ℕ) → place_in box position < n → length cells ≡ n → (cell : Cell) × (cell_in box cells position ≡ Some cell)
  cell_there box cells position n below count = slice_there cells (place_in box position) (omega arith)

  -- a cell of a list that is read over a box
  pub read_cell : (f : List ℕ → Option Cell) (i : List ℕ) (cells : List Cell) (position : List ℕ) → Reads f (box_at layout.grid i) cells → Holds (box_at layout.grid i) position → (cell : Cell) × (f position ≡ Some cell)
  read_cell f i cells position reads holds =
      let below = place_in_below (box_at layout.grid i) position (box_long layout.grid i) holds in
      let there = cell_there (box_at layout.grid i) cells position _ below reads.count in
      (there.0, reads.each position holds ∙ there.1)

  -- what is present at the key of a chunk that holds the bytes of its cells decodes
  value_decodes : (keep : Bool) (i encoded : List ℕ) (new : StoreState) → has_box layout.grid i ≡ true → HoldsValue layout keep i new → value_at new (layout.key i) ≡ Some encoded
      → (cells : List Cell) × (decoded_cells layout (box_at layout.grid i) encoded ≡ Some cells)
  value_decodes keep i encoded new has chunk at =
      let holds = first_held layout.grid lawful.grid i has in
      let cell = read_cell _ i chunk.0 (box_at layout.grid i).start chunk.1 holds in
      known_decodes (value_at new) i encoded (box_at layout.grid i).start cell.0 has at holds cell.1

  module _ (region : Box) (given : List Cell) (indices : List (List ℕ)) (old new : StoreState) where
    stored_long : (keep : Bool) → Stores layout keep region given indices old new → (i : List ℕ) → Contains indices i → IsIndexList layout.grid.dimensions i
    stored_long keep s i among = index_list layout lawful i (s.updates.boxed i among)

    pub stores_keep_canon : Stores layout false region given indices old new → IsCanonical layout (value_at old) → IsCanonical layout (value_at new)
    stores_keep_canon s =
        some_changed indices old new (stored_long false s) s.updates.keys
        (λ position out. s.updates.outside position (λ holds among. out among))
        (λ i among has. let chunk = s.held i among in canonical_value _ i chunk.0 _ chunk.1 chunk.2)
        (λ i among none. let clash : true ≡ false = sym (s.updates.boxed i among) ∙ none in absurd (cc))

    pub stores_keep_decoding : (keep : Bool) → Stores layout keep region given indices old new → EachDecodes layout old → EachDecodes layout new
    stores_keep_decoding keep s =
        some_decode indices old new (stored_long keep s) s.updates.keys (λ i encoded among has at. value_decodes keep i encoded new has (s.held i among) at)

  module _ (indices : List (List ℕ)) (old new : StoreState) (e : Erases layout indices old new) where
    pub erases_keep_canon : IsCanonical layout (value_at old) → IsCanonical layout (value_at new)
    erases_keep_canon =
        some_changed indices old new e.long e.keys
        (λ position out. e.outside position (λ covered among. out among))
        (λ i among has. subst (IsCanonicalValue layout (content layout (value_at new)) (box_at layout.grid i)) (sym (e.absent i among)) (λ position holds.
        e.inside position (box_covered layout.grid lawful.grid i position (box_is_there layout.grid i has) holds)
        (subst (Contains indices) (sym (index_held i position has holds)) among)))
        (λ i among none. e.absent i among)

    pub erases_keep_decoding : EachDecodes layout old → EachDecodes layout new
    erases_keep_decoding = some_decode indices old new e.long e.keys (λ i encoded among has at. let clash : None ≡ Some encoded = sym (e.absent i among) ∙ at in absurd (cc))

  module _ (shape : List ℕ) (indices : List (List ℕ)) (old new : StoreState) where
    cut_long : (keep : Bool) → Cuts layout keep shape indices old new → (i : List ℕ) → Contains indices i → IsIndexList layout.grid.dimensions i
    cut_long keep c i among = index_list layout lawful i (c.boxed i among)

    gone_fill : (i : List ℕ) → has_box layout.grid i ≡ true → value_at new (layout.key i) ≡ None → (position : List ℕ) → Holds (box_at layout.grid i) position → content layout (value_at new) position ≡ Some layout.fill
    gone_fill i has none position holds = content_in_box layout (value_at new) lawful i has position holds ∙ ap (λ t. chunk_cell layout t (box_at layout.grid i) position) none

    pub cuts_keep_canon : Cuts layout false shape indices old new → IsCanonical layout (value_at old) → IsCanonical layout (value_at new)
    cuts_keep_canon c =
        some_changed indices old new (cut_long false c) c.keys
        (λ position out. c.outside position (λ covered among past. out among))
        (λ i among has. elim (cases_Bool (keeps_some layout.grid shape i)) [
          | inl kept ↦ let chunk = c.held i among kept in canonical_value _ i chunk.0 _ chunk.1 chunk.2
          | inr past ↦
              let none = c.gone i among past in
              subst (IsCanonicalValue layout (content layout (value_at new)) (box_at layout.grid i)) (sym none) (gone_fill i has none)
        ])
        (λ i among none. let clash : true ≡ false = sym (c.boxed i among) ∙ none in absurd (cc))

    pub cuts_keep_decoding : (keep : Bool) → Cuts layout keep shape indices old new → EachDecodes layout old → EachDecodes layout new
    cuts_keep_decoding keep c =
        some_decode indices old new (cut_long keep c) c.keys (λ i encoded among has at. elim (cases_Bool (keeps_some layout.grid shape i)) [
          | inl kept ↦ value_decodes keep i encoded new has (c.held i among kept) at
          | inr past ↦ let clash : None ≡ Some encoded = sym (c.gone i among past) ∙ at in absurd (cc)
        ])

-- a front keeps what no change of values ends and each change of chunks keeps
pub front_keeps : {made : ℕ → ℕ → StoreState → StoreState → Type 0} → (changed : List (List ℕ) → Type 0) (chunks : List (List ℕ)) (done failed : ℕ) (old new : StoreState) (P : (List ℕ → Option (List ℕ)) → Type 0)
    → ((indices : List (List ℕ)) → changed indices → P (value_at old) → P (value_at new)) → Front made changed chunks done failed old new → P (value_at old) → P (value_at new)
front_keeps changed chunks zero failed old new P step f p = subst P (ap (λ values. map.get values) (sym (f.untouched refl))) p
front_keeps changed chunks (suc done) failed old new P step f p = step (take (suc done) chunks) (f.changes (omega arith)) p
