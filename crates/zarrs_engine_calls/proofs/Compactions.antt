-- A compaction changes no cell.
use Rattle.std.proofs.Common.{◌≡◌, ℕ, true, false, List, Some, None, refl, sym, ◌∙◌, ap, subst, inl, inr}
use Rattle.std.proofs.lemmas.Bool.{cases_Bool}
use Rattle.zarrs_subset.specs.Regions.{place_in}
use Rattle.zarrs_chunk_grid.specs.Grids.{box_at, has_box, index_at, is_covered}
use Rattle.zarrs_storage.specs.Store.{StoreState}
use Rattle.zarrs_engine_calls.specs.Layout.{Layout, IsLawful}
use Rattle.zarrs_engine_calls.specs.Content.{value_at, content, decoded_cells, cell_at_place, chunk_cell}
use Rattle.zarrs_engine_calls.specs.Canon.{IsCanonical}
use Rattle.zarrs_engine_calls.specs.Compactions.{Compacts}
use Rattle.zarrs_engine_calls.specs.Laws.{CanonicalStoresAreCompact, CompactionsKeepContent, EachDecodes}
use Rattle.zarrs_engine_calls.proofs.Comparisons.{are_compact}
use Rattle.zarrs_engine_calls.proofs.Contents.{content_covered, content_uncovered, covered_has_box, index_list, one_key, same_or_not}

module _ (layout : Layout) (lawful : IsLawful layout) (index : List ℕ) (old new : StoreState) where
  -- the compaction decodes to the same cells
  same_cells : (c : Compacts layout index old new) → decoded_cells layout (box_at layout.grid index) c.less ≡ decoded_cells layout (box_at layout.grid index) c.encoded
  same_cells c = lawful.chain.compacted_same layout.kind layout.fill (box_at layout.grid index).shape c.encoded c.less c.compacts c.short

  -- another chunk has the bytes that it had
  others_stay : Compacts layout index old new → (i : List ℕ) → has_box layout.grid i ≡ true → (i ≡ index → ⊥) → value_at new (layout.key i) ≡ value_at old (layout.key i)
  others_stay c i has apart =
      c.put.others (layout.key i) (λ same. apart (one_key layout lawful i index (index_list layout lawful i has) (index_list layout lawful index c.boxed) same))

  -- each chunk has the cells that it had
  cell_stays : Compacts layout index old new → (i position : List ℕ) → has_box layout.grid i ≡ true
      → chunk_cell layout (value_at new (layout.key i)) (box_at layout.grid i) position ≡ chunk_cell layout (value_at old (layout.key i)) (box_at layout.grid i) position
  cell_stays c i position has = elim (same_or_not i index) [
    | inl is ↦
        let here : chunk_cell layout (value_at new (layout.key index)) (box_at layout.grid index) position ≡ chunk_cell layout (value_at old (layout.key index)) (box_at layout.grid index) position =
        ap (λ t. chunk_cell layout t (box_at layout.grid index) position) c.put.held
        ∙ ap (λ found. cell_at_place found (place_in (box_at layout.grid index) position)) (same_cells c)
        ∙ sym (ap (λ t. chunk_cell layout t (box_at layout.grid index) position) c.stands) in
        subst (λ i. chunk_cell layout (value_at new (layout.key i)) (box_at layout.grid i) position ≡ chunk_cell layout (value_at old (layout.key i)) (box_at layout.grid i) position) (sym is) here
    | inr apart ↦ ap (λ t. chunk_cell layout t (box_at layout.grid i) position) (others_stay c i has apart)
  ]

  pub content_stays : Compacts layout index old new → (position : List ℕ) → content layout (value_at new) position ≡ content layout (value_at old) position
  content_stays c position = elim (cases_Bool (is_covered layout.grid position)) [
    | inl covered ↦
        content_covered layout (value_at new) position covered
        ∙ cell_stays c (index_at layout.grid position) position (covered_has_box layout lawful position covered)
        ∙ sym (content_covered layout (value_at old) position covered)
    | inr uncovered ↦ content_uncovered layout (value_at new) position uncovered ∙ sym (content_uncovered layout (value_at old) position uncovered)
  ]

  -- each chunk decodes, if each did
  pub decoding_stays : Compacts layout index old new → EachDecodes layout old → EachDecodes layout new
  decoding_stays c each i encoded has at = elim (same_or_not i index) [
    | inl is ↦
        let found = each index c.encoded c.boxed c.stands in
        let now : Some c.less ≡ Some encoded = sym c.put.held ∙ ap (λ i. value_at new (layout.key i)) (sym is) ∙ at in
        let less : c.less ≡ encoded = cc in
        (found.0, ap (λ i. decoded_cells layout (box_at layout.grid i) encoded) is ∙ ap (decoded_cells layout (box_at layout.grid index)) (sym less) ∙ same_cells c ∙ found.1)
    | inr apart ↦ each i encoded has (sym (others_stay c i has apart) ∙ at)
  ]

  -- a canonical store has no chunk to compact
  pub canonical_stays : IsCanonical layout (value_at old) → Compacts layout index old new → ⊥
  canonical_stays canon c =
      let none = are_compact layout lawful old canon index c.encoded c.boxed c.stands in
      let clash : Some None ≡ Some (Some c.less) = sym none ∙ c.compacts in
      absurd (cc)

pub compactions_keep_content : CompactionsKeepContent
compactions_keep_content layout lawful index true old new c = content_stays layout lawful index old new c
compactions_keep_content layout lawful index false old new c = λ position. ap (λ (s : StoreState). content layout (value_at s) position) c.same

pub stores_are_compact : CanonicalStoresAreCompact
stores_are_compact layout lawful index true old new c canon = absurd (canonical_stays layout lawful index old new canon c)
stores_are_compact layout lawful index false old new c canon = (refl, c.same)
