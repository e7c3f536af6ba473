-- The map of a canonical store, and stores without a chunk.
use Rattle.std.proofs.Common.{◌≡◌, ◌≢◌, ◌⊎◌, ℕ, true, false, List, Option, Some, None, refl, sym, ◌∙◌, ap, subst, inl, inr}
use Rattle.std.proofs.lemmas.Bool.{cases_Bool}
use Rattle.std.proofs.lemmas.Cmp.{nat_list_cmp_total}
use Rattle.std.specs.FinMap as map
use Rattle.std.specs.FinMap.{same_map, slice_cmp-IsAntisymmetric, nat_cmp-IsAntisymmetric}
use Rattle.zarrs_chunk_grid.specs.Grids.{box_at, has_box, index_at, is_covered}
use Rattle.zarrs_chunk_grid.proofs.Chunks.{box_is_there, box_long, box_covered}
use Rattle.zarrs_storage.specs.Store.{StoreState, Values}
use Rattle.zarrs_data_type.specs.Cell.{Cell}
use Rattle.zarrs_engine_calls.specs.Layout.{Layout, IsLawful}
use Rattle.zarrs_engine_calls.specs.Content.{value_at, content, chunk_cell}
use Rattle.zarrs_engine_calls.specs.Canon.{IsCanonical, IsCanonicalMap, IsCanonicalValue, IsChunkPart}
use Rattle.zarrs_engine_calls.specs.Laws.{CanonicalMapsAreOne, CanonicalPartsAreMaps, CanonicalStoresAreTheirMap, EmptyStoresAreFill}
use Rattle.zarrs_engine_calls.proofs.Contents.{content_covered, covered_has_box, index_list, one_key, same_or_not}
use Rattle.zarrs_engine_calls.proofs.LawProofs.{one_value}

pub empty_stores_are_fill : EmptyStoresAreFill
empty_stores_are_fill layout lawful state none position covered =
    let index = index_at layout.grid position in
    let absent = none index (index_list layout lawful index (covered_has_box layout lawful position covered)) in
    content_covered layout (value_at state) position covered ∙ ap (λ t. chunk_cell layout t (box_at layout.grid index) position) absent

module _ (layout : Layout) (lawful : IsLawful layout) (state : StoreState) (values : Values) (part : IsChunkPart layout state values) where
  map_of_canon : IsCanonical layout (value_at state) → IsCanonicalMap layout (content layout (value_at state)) values
  map_of_canon canon = record {
    chunks = λ index has.
        subst (IsCanonicalValue layout (content layout (value_at state)) (box_at layout.grid index))
        (sym (part.chunks index (index_list layout lawful index has))) (canon.boxed index has);
    others = λ key apart. elim (map.get values key) as (λ found. map.get values key ≡ found → found ≡ None) [
      | None ↦ λ at. refl
      | Some stored ↦ λ at. sym at ∙ part.others key (λ index long is. elim (cases_Bool (has_box layout.grid index)) [
        | inl has ↦ apart index has is
        | inr boxless ↦
            let clash : Some stored ≡ None = sym at ∙ ap (map.get values) is ∙ part.chunks index long ∙ canon.unboxed index long boxless in
            absurd (cc)
      ])
    ] refl;
  }

  canon_of_map : IsCanonicalMap layout (content layout (value_at state)) values → IsCanonical layout (value_at state)
  canon_of_map m = record {
    boxed = λ index has.
        subst (IsCanonicalValue layout (content layout (value_at state)) (box_at layout.grid index))
        (part.chunks index (index_list layout lawful index has)) (m.chunks index has);
    unboxed = λ index long boxless.
        sym (part.chunks index long) ∙ m.others (layout.key index) (λ i has same.
        let one = one_key layout lawful index i long (index_list layout lawful i has) same in
        let clash : true ≡ false = sym has ∙ ap (has_box layout.grid) (sym one) ∙ boxless in
        absurd (cc));
  }

pub parts_are_maps : CanonicalPartsAreMaps
parts_are_maps layout lawful state values part = (map_of_canon layout lawful state values part, canon_of_map layout lawful state values part)

pub stores_are_their_map : CanonicalStoresAreTheirMap
stores_are_their_map layout lawful state canon alone =
    map_of_canon layout lawful state state.values (record { chunks = λ index long. refl; others = alone }) canon

some_is : (a b : List ℕ) → Some a ≡ Some b → a ≡ b
some_is a b is = cc

-- a value is another one or not
value_or_not : (a b : Option (List ℕ)) → (a ≡ b) ⊎ (a ≢ b)
value_or_not None None = inl refl
value_or_not None (Some b) = inr (λ is. absurd (cc))
value_or_not (Some a) None = inr (λ is. absurd (cc))
value_or_not (Some a) (Some b) = elim (same_or_not a b) [
  | inl is ↦ inl (ap Some is)
  | inr apart ↦ inr (λ is. apart (some_is a b is))
]

module _ (layout : Layout) (lawful : IsLawful layout) (f g : List ℕ → Option Cell)
    (same : (position : List ℕ) → is_covered layout.grid position ≡ true → f position ≡ g position)
    (m n : Values) (p : IsCanonicalMap layout f m) (q : IsCanonicalMap layout g n) where
  -- the key of a chunk has one value in both
  one_at_chunk : (index : List ℕ) → has_box layout.grid index ≡ true → map.get m (layout.key index) ≡ map.get n (layout.key index)
  one_at_chunk index has =
      one_value layout f g (box_at layout.grid index) (map.get m (layout.key index)) (map.get n (layout.key index)) (box_long layout.grid index)
      (λ position holds. same position (box_covered layout.grid lawful.grid index position (box_is_there layout.grid index has) holds))
      (p.chunks index has) (q.chunks index has)

  -- so does each key: if it had two, it were that of no chunk, and had none
  one_at_key : (key : List ℕ) → map.get m key ≡ map.get n key
  one_at_key key = elim (value_or_not (map.get m key) (map.get n key)) [
    | inl is ↦ is
    | inr differ ↦
        let apart : (index : List ℕ) → has_box layout.grid index ≡ true → key ≢ layout.key index =
        λ index has is. differ (ap (map.get m) is ∙ one_at_chunk index has ∙ sym (ap (map.get n) is)) in
        p.others key apart ∙ sym (q.others key apart)
  ]

pub maps_are_one : CanonicalMapsAreOne
maps_are_one layout lawful f g same m n p q =
    same_map nat_list_cmp_total (slice_cmp-IsAntisymmetric nat_cmp-IsAntisymmetric) m n (one_at_key layout lawful f g same m n p q)
