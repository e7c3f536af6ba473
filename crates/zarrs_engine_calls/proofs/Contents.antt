-- The content over one chunk.
use Rattle.std.proofs.lemmas.Slice.Eq.{bytes_eq-Decides}
use Rattle.std.proofs.lemmas.Bool.{cases_Bool}
use Rattle.std.proofs.Common.{◌≢◌, ◌⊎◌, bytes_eq, inl, inr, ◌≡◌, ℕ, suc, zero, ◌<◌, Bool, true, false, ◌&&◌, cond, List}
use Rattle.std.proofs.Common.{[], ◌∷◌, length, Option, Some, None, slice_get, Contains, replicate, refl, sym, ◌∙◌, ap}
use Rattle.std.proofs.Common.{subst, arith}
use Rattle.std.specs.Prelude.{IsSome}
use Rattle.std.specs.List.{list_all}
use Rattle.std.proofs.lemmas.List.{length-replicate}
use Rattle.zarrs_subset.specs.Boxes.{position_count}
use Rattle.zarrs_subset.specs.Regions.{Box, Holds, place_in}
use Rattle.zarrs_subset.proofs.Bytes.{place_in_below}
use Rattle.zarrs_chunk_grid.specs.Grids.{Grid, IsGrid, box_at, index_at, is_covered, has_box}
use Rattle.zarrs_chunk_grid.proofs.Chunks.{box_is_there, has_box_is, box_long, box_words, box_index, box_covered, covered_holds, covered_chunk, chunk_has_box}
use Rattle.zarrs_keys.specs.Keys.{IsIndexList, IsLawfulKey, IsMetadataName, v3_name, v2_array_name, v2_attributes_name}
use Rattle.zarrs_keys.specs.Paths.{path_key}
use Rattle.zarrs_keys.proofs.PathLemmas.{lawful_at}
use Rattle.zarrs_codec_chain.specs.Chain.{ChainMeaning, IsLawfulChain}
use Rattle.zarrs_data_type.specs.Kind.{Kind}
use Rattle.zarrs_data_type.specs.Cell.{Cell, cell_eq, fill_cell}
use Rattle.zarrs_data_type_kinds.proofs.Values.{fill-value}
use Rattle.zarrs_data_type_kinds.proofs.Same.{cell_eq-true, eq-cell_eq}
use Rattle.zarrs_engine_calls.specs.Layout.{Layout, IsLawful, layout_at, metadata_keys_at}
use Rattle.zarrs_engine_calls.specs.Content.{cell_at_place, chunk_cell, indexed_cell, decoded_cells, content, value_at, Reads}
use Rattle.zarrs_engine_calls.specs.Laws.{SameChunksHaveSameCells, over_grid}

-- each metadata key is that of a metadata name
named_key : (path key : List ℕ) → Contains (metadata_keys_at path) key → (name : List ℕ) × IsMetadataName name × (key ≡ path_key path name)
named_key path key (zero, below, at) = (v3_name, inl refl, sym at)
named_key path key (suc zero, below, at) = (v2_array_name, inr (inl refl), sym at)
named_key path key (suc (suc zero), below, at) = (v2_attributes_name, inr (inr refl), sym at)
named_key path key (suc (suc (suc k)), below, at) = absurd (omega arith)

-- the laws of the parts are those of their layout
pub lawful_at_parts : (grid : Grid) (path : List ℕ) (key : List ℕ → List ℕ) (chain : ChainMeaning) (kind : Kind) (fill : List ℕ)
    → IsGrid grid → IsLawfulKey key → IsLawfulChain chain → IsSome (fill_cell kind fill) → IsLawful (layout_at grid path key chain kind fill)
lawful_at_parts grid path key chain kind fill g k c there = record {
  grid = g;
  key = (lawful_at path key k).injective;
  apart = λ index long among.
      let named = named_key path (path_key path (key index)) among in
      (lawful_at path key k).no_metadata grid.dimensions index named.0 long named.1 named.2;
  chain = c;
  filled = fill-value kind fill there;
}

head_passes : (a b : Bool) → a && b ≡ true → a ≡ true
head_passes true b e = refl
head_passes false b e = e

tail_passes : (a b : Bool) → a && b ≡ true → b ≡ true
tail_passes true b e = e
tail_passes false b e = absurd (cc)

-- each cell of an all-fill list is the fill value
pub fill_at : (fill : Cell) (cells : List Cell) (k : ℕ) → list_all (λ cell. cell_eq cell fill) cells ≡ true → k < length cells → slice_get cells k ≡ Some fill
fill_at fill [] k e h = absurd (omega arith)
fill_at fill (cell ∷ cells) zero e h = ap Some (cell_eq-true cell fill (head_passes _ _ e))
fill_at fill (cell ∷ cells) (suc k) e h = fill_at fill cells k (tail_passes _ _ e) (omega arith)

-- copies of the fill value are all fill
pub replicated : (fill : Cell) (n : ℕ) → list_all (λ cell. cell_eq cell fill) (replicate n fill) ≡ true
replicated fill zero = refl
replicated fill (suc n) = ap (λ b. b && list_all (λ cell. cell_eq cell fill) (replicate n fill)) (eq-cell_eq fill fill refl) ∙ replicated fill n

module _ (layout : Layout) (stored : List ℕ → Option (List ℕ)) where
  -- the content at a covered position is that of its chunk
  pub content_covered : (position : List ℕ) → is_covered layout.grid position ≡ true → content layout stored position ≡ indexed_cell layout stored (index_at layout.grid position) position
  unfolding content
  content_covered position covered = ap (λ b. cond b (indexed_cell layout stored (index_at layout.grid position) position) None) covered

  pub content_uncovered : (position : List ℕ) → is_covered layout.grid position ≡ false → content layout stored position ≡ None
  unfolding content
  content_uncovered position uncovered = ap (λ b. cond b (indexed_cell layout stored (index_at layout.grid position) position) None) uncovered

  module _ (lawful : IsLawful layout) (index : List ℕ) (has : has_box layout.grid index ≡ true) where
    -- the content at a position of a chunk's box is that of the chunk
    pub content_in_box : (position : List ℕ) → Holds (box_at layout.grid index) position → content layout stored position ≡ indexed_cell layout stored index position
    content_in_box position holds =
        let there = box_is_there layout.grid index has in
        content_covered position (box_covered layout.grid lawful.grid index position there holds)
        ∙ ap (λ i. indexed_cell layout stored i position) (box_index layout.grid lawful.grid index position there holds)

    -- a chunk that decodes reads as its cells
    pub reads_decoded : (encoded : List ℕ) (cells : List Cell) → stored (layout.key index) ≡ Some encoded → decoded_cells layout (box_at layout.grid index) encoded ≡ Some cells → Reads (content layout stored) (box_at layout.grid index) cells
    reads_decoded encoded cells at decodes = record {
      count = lawful.chain.decoded_len _ _ _ _ cells decodes;
      each = λ position holds.
          content_in_box position holds
          ∙ ap (λ t. chunk_cell layout t (box_at layout.grid index) position) at
          ∙ ap (λ found. cell_at_place found (place_in (box_at layout.grid index) position)) decodes;
    }

    -- an absent chunk has the fill value
    pub absent_fill : stored (layout.key index) ≡ None → (position : List ℕ) → Holds (box_at layout.grid index) position → content layout stored position ≡ Some layout.fill
    absent_fill absent position holds =
        content_in_box position holds ∙ ap (λ t. chunk_cell layout t (box_at layout.grid index) position) absent

    -- and reads as copies of it
    pub reads_absent : stored (layout.key index) ≡ None → Reads (content layout stored) (box_at layout.grid index) (replicate (position_count (box_at layout.grid index).shape) layout.fill)
    reads_absent absent =
        let n = position_count (box_at layout.grid index).shape in
        let long : length (replicate n layout.fill) ≡ n = length-replicate {A = Cell} n layout.fill in
        record {
          count = long;
          each = λ position holds.
              let below = place_in_below (box_at layout.grid index) position (box_long layout.grid index) holds in
              absent_fill absent position holds ∙ sym (fill_at layout.fill (replicate n layout.fill) (place_in (box_at layout.grid index) position) (replicated layout.fill n) (omega arith));
        }

-- where the same bytes stand at each chunk key, the content is the same
pub content_same : (layout : Layout) → IsLawful layout → (a b : List ℕ → Option (List ℕ)) → ((index : List ℕ) → IsIndexList layout.grid.dimensions index → a (layout.key index) ≡ b (layout.key index)) → (position : List ℕ) → content layout a position ≡ content layout b position
unfolding content
content_same layout lawful a b same position =
    elim (is_covered layout.grid position) as (λ v. is_covered layout.grid position ≡ v → cond v (indexed_cell layout a (index_at layout.grid position) position) None ≡ cond v (indexed_cell layout b (index_at layout.grid position) position) None) [
      | true ↦ λ covered.
          let there = chunk_has_box layout.grid lawful.grid _ position (covered_chunk layout.grid lawful.grid position covered) in
          ap (λ t. chunk_cell layout t (box_at layout.grid (index_at layout.grid position)) position)
          (same (index_at layout.grid position) (record { long = there.long; words = box_words layout.grid lawful.grid _ there }))
      | false ↦ λ _. refl
    ] refl

-- a list of one has one member
pub only_member : (index i : List ℕ) → Contains (index ∷ []) i → i ≡ index
only_member index i (zero, below, at) = sym at
only_member index i (suc k, below, at) = absurd (omega arith)

pub member : (index : List ℕ) → Contains (index ∷ []) index
member index = (0, omega arith, refl)

module _ (layout : Layout) (lawful : IsLawful layout) where
  -- an index list that has a box has numbers of 64 bits
  pub index_list : (index : List ℕ) → has_box layout.grid index ≡ true → IsIndexList layout.grid.dimensions index
  index_list index has =
      let there = box_is_there layout.grid index has in
      record { long = there.long; words = box_words layout.grid lawful.grid index there }

  -- the index list of a covered position has a box
  pub covered_has_box : (position : List ℕ) → is_covered layout.grid position ≡ true → has_box layout.grid (index_at layout.grid position) ≡ true
  covered_has_box position covered =
      has_box_is layout.grid _ (chunk_has_box layout.grid lawful.grid _ position (covered_chunk layout.grid lawful.grid position covered))

  -- two index lists with one key are one
  pub one_key : (a b : List ℕ) → IsIndexList layout.grid.dimensions a → IsIndexList layout.grid.dimensions b → layout.key a ≡ layout.key b → a ≡ b
  one_key a b p q = lawful.key layout.grid.dimensions a b p q

  -- a covered position of which the chunk has these indices lies in its box
  pub in_chunk : (index position : List ℕ) → is_covered layout.grid position ≡ true → index_at layout.grid position ≡ index → Holds (box_at layout.grid index) position
  in_chunk index position covered is = subst (λ i. Holds (box_at layout.grid i) position) is (covered_holds layout.grid lawful.grid position covered)

-- an index list is another one or not
pub same_or_not : (a b : List ℕ) → (a ≡ b) ⊎ (a ≢ b)
same_or_not a b =
    elim (cases_Bool (bytes_eq a b)) [
      | inl is ↦ inl ((bytes_eq-Decides a b).0 is)
      | inr apart ↦ inr (λ is. let same : bytes_eq a b ≡ true = (bytes_eq-Decides a b).1 is in let clash : true ≡ false = sym same ∙ apart in cc)
    ]

-- the cell at a position is the same by two grids that have the same chunk there
pub same_chunk : SameChunksHaveSameCells
same_chunk layout grid state position same =
    let i = index_at layout.grid position in
    let stored = value_at state in
    content_covered (over_grid grid layout) stored position same.still_covered
    ∙ ap (λ j. indexed_cell (over_grid grid layout) stored j position) same.same_indices
    ∙ ap (λ (b : Box). chunk_cell layout (stored (layout.key i)) b position) same.same_box
    ∙ sym (content_covered layout stored position same.covered)
