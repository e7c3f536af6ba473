-- Refusals of reads of regions.
use Rattle.std.proofs.Common.{◌≡◌, ◌<◌, ◌≤◌, ◌*◌, ◌^◌, nat_le, ◌==◌, ◌||◌, not, ℕ, zero, suc, Bool, true, false, cond, List, [], ◌∷◌, length}
use Rattle.std.proofs.Common.{slice_index, is_some, Some, None, Contains, refl, sym, ◌∙◌, ap, subst, inl, inr, arith}
use Rattle.std.specs.List.{list_any}
use Rattle.std.proofs.lemmas.Bool.{cases_Bool, eq-eqb, leb-true, ne_eqb}
use Rattle.std.proofs.lemmas.Option.{slice_get-get_or}
use Rattle.zarrs_subset.specs.Boxes.{position_count}
use Rattle.zarrs_subset.specs.Regions.{Box, IsLong, InBox, positions}
use Rattle.zarrs_subset.proofs.Bytes.{along_holds}
use Rattle.zarrs_chunk_grid.specs.Grids.{HasUncovered, IsMet, box_at, has_box, index_at, is_covered, met}
use Rattle.zarrs_chunk_grid.proofs.Chunks.{box_is_there, covered_chunk, has_box_is, met_contains, met_covered, met_has_box}
use Rattle.zarrs_storage.specs.Store.{StoreState}
use Rattle.zarrs_data_type.specs.ArrayData.{ArrayData}
use Rattle.zarrs_data_type.specs.Cell.{held_size}
use Rattle.zarrs_data_type.specs.Kind.{cell_size}
use Rattle.zarrs_codec_chain.specs.Refusals.{IsTooLargeToDecode}
use Rattle.zarrs_engine_calls.specs.Layout.{Layout, IsLawful}
use Rattle.zarrs_engine_calls.specs.Content.{value_at, decoded_cells}
use Rattle.zarrs_engine_calls.specs.ChunkBoxes.{CoversBox, chunk_part, is_covered_box, is_empty, last_of}
use Rattle.zarrs_engine_calls.specs.ArgumentRefusals.{size_refusal, region_refusal}
use Rattle.zarrs_engine_calls.specs.Reads.{ReadsRegion}
use Rattle.zarrs_engine_calls.specs.Refusals as refusal
use Rattle.std.specs.Option.{option_or}
use Rattle.zarrs_engine_calls.specs.Refusals.{Refusal, RefusesBy, refuse_if, box_refusal, fill_refusal, key_refusal, length_refusal, is_too_large}
use Rattle.zarrs_engine_calls.specs.StateRefusals.{IsPart, IsTooLargeWhole, RefusesRegionRead, RefusesSomeChunk}
use Rattle.zarrs_engine_calls.specs.Step.{RetrievesRegion, RefusesRetrieveRegion}
use Rattle.zarrs_engine_calls.proofs.Contents.{member, only_member}
use Rattle.zarrs_engine_calls.proofs.Covers.{covered_box, last_covers}
use Rattle.zarrs_engine_calls.proofs.RefusalLemmas.{memory_or_said, refused_first, refused_second, second_refusal, fit_chunk, large_chunk}
use Rattle.zarrs_engine_layout.specs.Covers.{CoverRegion}
use Rattle.zarrs_engine_layout.specs.Steps.{RefusesBytes}
use Rattle.zarrs_engine_layout.proofs.Chunks.{right_length}

-- ---- causes among the chunks

some_memory : (layout : Layout) (region : Box) (chunks : List (List ℕ)) (state : StoreState) (r : Refusal) → r ≡ refusal.out_of_memory → RefusesSomeChunk layout region chunks state r
some_memory layout region chunks state r is = subst (RefusesSomeChunk layout region chunks state) (sym is) tt

-- the fill of this shape is too large
fill_passes : (layout : Layout) (shape : List ℕ) → fill_refusal layout shape ≡ Some refusal.size_overflow → 2 ^ 64 ≤ position_count shape * held_size layout.kind layout.fill
fill_passes layout shape said = elim (cases_Bool (nat_le (2 ^ 64) (position_count shape * held_size layout.kind layout.fill))) [
  | inl large ↦ leb-true (2 ^ 64) (position_count shape * held_size layout.kind layout.fill) large
  | inr small ↦ absurd (let clash : None ≡ Some refusal.size_overflow = sym (ap (λ b. refuse_if b refusal.size_overflow) small) ∙ said in cc)
]

-- a cause at one chunk is one of all
pub some_wider : (layout : Layout) (region : Box) (chunks : List (List ℕ)) (index : List ℕ) (state : StoreState) → Contains chunks index
    → (r : Refusal) → RefusesSomeChunk layout region (index ∷ []) state r → RefusesSomeChunk layout region chunks state r
some_wider layout region chunks index state among refusal.storage (i, only, why) = (i, subst (Contains chunks) (sym (only_member index i only)) among, why)
some_wider layout region chunks index state among refusal.codec (i, only, why) = (i, subst (Contains chunks) (sym (only_member index i only)) among, why)
some_wider layout region chunks index state among refusal.size_overflow (inl (i, only, large)) = inl (i, subst (Contains chunks) (sym (only_member index i only)) among, large)
some_wider layout region chunks index state among refusal.size_overflow (inr why) = inr why
some_wider layout region chunks index state among refusal.out_of_memory why = tt
some_wider layout region chunks index state among _ why = absurd why

module _ (layout : Layout) (region : Box) (index : List ℕ) (state : StoreState) (has : has_box layout.grid index ≡ true) where
  -- the store refuses the key of a chunk
  pub some_key : (r : Refusal) → RefusesBy (option_or (length_refusal layout index) (key_refusal layout index state)) r → RefusesSomeChunk layout region (index ∷ []) state r
  some_key r h = elim (memory_or_said _ r h) [
    | inl memory ↦ some_memory layout region (index ∷ []) state r memory
    | inr said ↦
        let key : key_refusal layout index state ≡ Some r = sym (second_refusal (length_refusal layout index) _ (right_length layout index (box_is_there layout.grid index has).long)) ∙ said in
        elim (cases_Bool (state.refuses (layout.key index))) [
          | inl refuses ↦
              let is : Some refusal.storage ≡ Some r = sym (ap (λ b. cond b (Some refusal.storage) None) refuses) ∙ key in
              let same : refusal.storage ≡ r = cc in
              subst (RefusesSomeChunk layout region (index ∷ []) state) same (index, member index, refuses)
          | inr open_key ↦ absurd (let clash : None ≡ Some r = sym (ap (λ b. cond b (Some refusal.storage) None) open_key) ∙ key in cc)
        ]
  ]

  -- a part of a chunk that is present is not decoded, for a size
  pub some_large : (encoded : List ℕ) → value_at state (layout.key index) ≡ Some encoded → IsPart layout region index
      → IsTooLargeToDecode layout.chain layout.kind layout.fill (box_at layout.grid index).shape (chunk_part region (box_at layout.grid index)) encoded
      → RefusesSomeChunk layout region (index ∷ []) state refusal.size_overflow
  some_large encoded stands part large = inl (index, member index, record { encoded = encoded; stands = stands; large = inr (part, large) })

  module _ (covers : CoversBox region (box_at layout.grid index)) (encoded : List ℕ) (stands : value_at state (layout.key index) ≡ Some encoded) where
    -- a chunk that is present, and that the region covers, is too large
    some_whole : IsTooLargeWhole layout (box_at layout.grid index).shape encoded → RefusesSomeChunk layout region (index ∷ []) state refusal.size_overflow
    some_whole large = inl (index, member index, record { encoded = encoded; stands = stands; large = inl (covers, large) })

    pub some_size : (r : Refusal) → RefusesBy (box_refusal layout index) r → RefusesSomeChunk layout region (index ∷ []) state r
    some_size r h = elim (memory_or_said _ r h) [
      | inl memory ↦ some_memory layout region (index ∷ []) state r memory
      | inr said ↦ elim (cases_Bool (is_too_large layout (box_at layout.grid index).shape)) [
        | inl large ↦
            let is : Some refusal.size_overflow ≡ Some r = sym (large_chunk layout index has large) ∙ said in
            let same : refusal.size_overflow ≡ r = cc in
            subst (RefusesSomeChunk layout region (index ∷ []) state) same (some_whole (inl (leb-true (2 ^ 64) (position_count (box_at layout.grid index).shape * cell_size layout.kind) large)))
        | inr fit ↦ absurd (let clash : None ≡ Some r = sym (fit_chunk layout index has fit) ∙ said in cc)
      ]
    ]

    -- its fill is too large
    pub some_fill : layout.chain.leaves_out (box_at layout.grid index).shape encoded ≡ true → fill_refusal layout (box_at layout.grid index).shape ≡ Some refusal.size_overflow
        → RefusesSomeChunk layout region (index ∷ []) state refusal.size_overflow
    some_fill left_out large = some_whole (inr (left_out, fill_passes layout (box_at layout.grid index).shape large))

    -- it does not decode, or leaves out cells
    pub some_broken : box_refusal layout index ≡ None → (r : Refusal) → RefusesBytes layout index encoded r → RefusesSomeChunk layout region (index ∷ []) state r
    some_broken boxed r (inr (is, lack)) = subst (RefusesSomeChunk layout region (index ∷ []) state) (sym is) (some_fill lack.left_out lack.large)
    some_broken boxed r (inl h) = elim (memory_or_said _ r h) [
      | inl memory ↦ some_memory layout region (index ∷ []) state r memory
      | inr said ↦
          let decode : cond (is_some (decoded_cells layout (box_at layout.grid index) encoded)) None (Some refusal.codec) ≡ Some r = sym (second_refusal (box_refusal layout index) _ boxed) ∙ said in
          elim (decoded_cells layout (box_at layout.grid index) encoded) as (λ o. decoded_cells layout (box_at layout.grid index) encoded ≡ o → cond (is_some o) None (Some refusal.codec) ≡ Some r → RefusesSomeChunk layout region (index ∷ []) state r) [
            | None ↦ λ at is.
                let same : refusal.codec ≡ r = cc in
                subst (RefusesSomeChunk layout region (index ∷ []) state) same (index, member index, record { encoded = encoded; stands = stands; undecoded = at })
            | Some cells ↦ λ at is. absurd (let clash : None ≡ Some r = is in cc)
          ] refl decode
    ]

-- ---- what the arguments decide

or_right : (a b : Bool) → a ≡ false → a || b ≡ true → b ≡ true
or_right true b is h = absurd (cc)
or_right false b is h = h

-- an empty box has an extent 0
pub no_extent : (shape : List ℕ) → list_any (λ extent. extent == 0) shape ≡ true → (k : ℕ) × (k < length shape) × (slice_index shape k ≡ 0)
no_extent [] h = absurd (cc)
no_extent (zero ∷ shape) h = (0, omega arith, refl)
no_extent (suc e ∷ shape) h =
    let apart : (suc e == 0) ≡ false = ne_eqb (suc e) 0 (λ same. absurd (omega arith)) in
    let rest = no_extent shape (or_right (suc e == 0) (list_any (λ extent. extent == 0) shape) apart h) in
    let below = rest.1 in
    (suc rest.0, omega arith, rest.2)

none_inside : (region : Box) → IsLong region → is_empty region ≡ true → (position : List ℕ) → InBox region position → ⊥
none_inside region long empty position inside =
    let at = no_extent region.shape empty in
    let k = at.0 in
    let here = at.1 in
    let zero_here = at.2 in
    let f = inside.from k (omega (arith, long)) in
    let b = inside.below k (omega (arith, long)) in
    omega arith

module _ (layout : Layout) (lawful : IsLawful layout) (shape : List ℕ) (region : Box) (long : IsLong region) where
  -- chunks cover the region
  pub region_accepted : (chunks : Box) → IsLong chunks → length region.start ≡ layout.grid.dimensions → IsMet layout.grid region chunks → region_refusal layout shape region ≡ None
  region_accepted chunks chunks_long dimensions is_met =
      let one = ap (λ b. refuse_if (not b) (refusal.array_subset region shape)) (eq-eqb _ _ dimensions) in
      let covers : is_covered_box layout.grid region ≡ true =
      elim (cases_Bool (is_empty region)) [
        | inl empty ↦ ap (λ b. b || is_covered layout.grid (last_of region)) empty
        | inr some ↦
            ap (λ b. b || is_covered layout.grid (last_of region)) some
            ∙ (covered_box layout.grid lawful.grid region long some).1 (met_covered layout.grid lawful.grid region chunks long chunks_long is_met)
      ] in
      second_refusal _ _ one ∙ ap (λ b. refuse_if (not b) (refusal.array_subset region shape)) covers

  -- some position is in no chunk
  pub region_uncovered : length region.start ≡ layout.grid.dimensions → HasUncovered layout.grid region → region_refusal layout shape region ≡ Some (refusal.array_subset region shape)
  region_uncovered dimensions (position, inside, uncovered) =
      let one = ap (λ b. refuse_if (not b) (refusal.array_subset region shape)) (eq-eqb _ _ dimensions) in
      let empty : is_empty region ≡ false =
      elim (cases_Bool (is_empty region)) [
        | inl is ↦ absurd (none_inside region long is position inside)
        | inr some ↦ some
      ] in
      let last : is_covered layout.grid (last_of region) ≡ false =
      elim (cases_Bool (is_covered layout.grid (last_of region))) [
        | inl hit ↦
            let covered = last_covers layout.grid lawful.grid region long empty hit position (along_holds region position long inside) in
            absurd (uncovered (index_at layout.grid position, covered_chunk layout.grid lawful.grid position covered))
        | inr miss ↦ miss
      ] in
      second_refusal _ _ one
      ∙ ap (λ b. refuse_if (not (b || is_covered layout.grid (last_of region))) (refusal.array_subset region shape)) empty
      ∙ ap (λ b. refuse_if (not b) (refusal.array_subset region shape)) last

  -- the chunks that it meets cover it
  pub region_cover : (chunks : Box) → IsLong chunks → length region.start ≡ layout.grid.dimensions → IsMet layout.grid region chunks → CoverRegion layout.grid region (positions chunks)
  region_cover chunks chunks_long dimensions is_met = record {
    long = long;
    dimensions = dimensions;
    boxed = λ index among.
        has_box_is layout.grid index (met_has_box layout.grid lawful.grid region chunks long chunks_long is_met among.0 index
        (slice_get-get_or (positions chunks) among.0 index among.1 ∙ ap Some among.2));
    covered = met_covered layout.grid lawful.grid region chunks long chunks_long is_met;
    listed = met_contains layout.grid lawful.grid region chunks long chunks_long is_met;
  }

-- ---- the read of a region

pub region_refused_first : (layout : Layout) (shape : List ℕ) (region : Box) (state : StoreState) (r : Refusal) → RefusesBy (region_refusal layout shape region) r → RefusesRetrieveRegion layout shape region r state
region_refused_first layout shape region state r h = inl (refused_first (region_refusal layout shape region) (size_refusal layout region.shape) r h)

pub region_refused_then : (layout : Layout) (shape : List ℕ) (region chunks : Box) (state : StoreState) (r : Refusal) → region_refusal layout shape region ≡ None → chunks ≡ met layout.grid region
    → RefusesRegionRead layout (size_refusal layout region.shape) region (positions chunks) state r → RefusesRetrieveRegion layout shape region r state
region_refused_then layout shape region chunks state r none is (inl size) = inl (refused_second (region_refusal layout shape region) (size_refusal layout region.shape) r none size)
region_refused_then layout shape region chunks state r none is (inr (fits, why)) =
    inr (second_refusal (region_refusal layout shape region) _ none ∙ fits, subst (λ (b : Box). RefusesSomeChunk layout region (positions b) state r) is why)

-- an accepted one
pub region_read : (layout : Layout) (shape : List ℕ) (region chunks : Box) (held : ArrayData) (state : StoreState) → region_refusal layout shape region ≡ None → chunks ≡ met layout.grid region
    → size_refusal layout region.shape ≡ None → ReadsRegion layout region (positions chunks) held state → RetrievesRegion layout shape region held state
region_read layout shape region chunks held state none is fits r =
    (second_refusal (region_refusal layout shape region) _ none ∙ fits, subst (λ (b : Box). ReadsRegion layout region (positions b) held state) is r)
