-- Reads of regions, one chunk after another.
use Rattle.std.proofs.Common.{◌≡◌, ◌≢◌, ◌<◌, ◌≤◌, ◌+◌, ◌-◌, ◌||◌, ◌&&◌, ℕ, suc, Bool, true, false, cond, List, [], ◌∷◌, ◌++◌, length, replicate, slice_get, slice_index}
use Rattle.std.proofs.Common.{get_or, Option, Some, None, IfNone, Result, Ok, Err, Contains, refl, sym, ◌∙◌, ap, subst, inl, inr, arith}
use Rattle.std.specs.List.{list_any}
use Rattle.std.specs.Str.{bytes_eq}
use Rattle.std.proofs.lemmas.Bool.{cases_Bool, false≢true}
use Rattle.std.proofs.lemmas.List.Elements.{Contains-push_cases}
use Rattle.std.proofs.lemmas.List.Folds.{list_any-append, list_any_at}
use Rattle.std.proofs.lemmas.Slice.Eq.{bytes_eq-Decides}
use Rattle.zarrs_subset.specs.Boxes.{position_count, offset_from, place, zip_with}
use Rattle.zarrs_subset.specs.Regions.{Box, Holds, IsLong, cell_in, in_box, overlap_of, place_in, seen_from, shifted_box}
use Rattle.zarrs_subset.proofs.Bytes.{holds_along, place_in_below}
use Rattle.zarrs_subset.proofs.Overlaps.{in_box-overlap}
use Rattle.zarrs_subset.proofs.Positions.{offset_from-in}
use Rattle.zarrs_codec_shard.proofs.SubchunkBoxes.{place_in_chunk}
use Rattle.zarrs_codec_chain.proofs.SubchunkSteps.{holds_seen, seen_again}
use Rattle.zarrs_chunk_grid.specs.Grids.{box_at, index_at, is_covered, has_box, met}
use Rattle.zarrs_chunk_grid.proofs.Chunks.{box_is_there, box_index, box_covered, box_long}
use Rattle.zarrs_subset.proofs.Inside.{holds_inside}
use Rattle.zarrs_storage.specs.Store.{StoreState}
use Rattle.zarrs_data_type.specs.Cell.{Cell}
use Rattle.zarrs_data_type_bytes.specs.declared.array_bytes.ArrayBytes.{ArrayBytes}
use Rattle.zarrs_data_type.specs.ArrayData.{ArrayData, data_of}
use Rattle.zarrs_data_type.specs.Cells.{cells}
use Rattle.zarrs_data_type.specs.Parts.{TakesCells}
use Rattle.zarrs_engine_calls.specs.Layout.{Layout, IsLawful}
use Rattle.zarrs_engine_calls.specs.Content.{value_at, content, decoded_cells}
use Rattle.zarrs_engine_calls.specs.ArgumentRefusals.{region_refusal}
use Rattle.zarrs_engine_calls.specs.ChunkBoxes.{CoversBox, chunks_met}
use Rattle.zarrs_engine_calls.specs.Fronts.{is_in_chunks}
use Rattle.zarrs_engine_calls.specs.Reads.{IsBroken, ReadsRegion}
use Rattle.zarrs_engine_calls.specs.Refusals.{refusal_of}
use Rattle.zarrs_engine_calls.specs.StateRefusals.{IsPart}
use Rattle.zarrs_engine_calls.specs.Step.{RetrievesRegion, RefusesRetrieveRegion}
use Rattle.zarrs_engine_calls.specs.declared.error.ArrayError.{ArrayError}
use Rattle.zarrs_engine_calls.proofs.Contents.{absent_fill, fill_at, in_chunk, only_member, reads_decoded, replicated, same_or_not}
use Rattle.zarrs_engine_calls.proofs.Shapes.{known_decodes}
use Rattle.zarrs_engine_layout.specs.Covers.{CoverRegion}
use Rattle.zarrs_engine_layout.specs.Shared.{AreApart, AreShared, IsSharedIn}
use Rattle.zarrs_engine_layout.proofs.OneChunk.{first_held}
use Rattle.zarrs_engine_layout.proofs.RegionRefusals.{region_read, region_refused_then}
use Rattle.zarrs_engine.specs.Outcomes.{Reads}
use Rattle.zarrs_engine.specs.RegionReads.{DecodesStored, HasRead, ReadsOneMore, ReadsOver}

-- what was seen from a corner is moved back there
moved_back : (S R : List ℕ) → length S ≡ length R → ((k : ℕ) → k < length R → slice_index R k ≤ slice_index S k)
    → zip_with (λ s t. s + t) (zip_with (λ s t. s - t) S R) R ≡ S
moved_back [] [] same below = refl
moved_back [] (r ∷ R) same below = absurd (omega arith)
moved_back (s ∷ S) [] same below = absurd (omega arith)
moved_back (s ∷ S) (r ∷ R) same below =
    let low : r ≤ s = below 0 (omega arith) in
    let first : s - r + r ≡ s = omega arith in
    let rest = moved_back S R (omega arith) (λ k lt. below (suc k) (omega arith)) in
    ap (λ x. x ∷ zip_with (λ s t. s + t) (zip_with (λ s t. s - t) S R) R) first ∙ ap (λ l. s ∷ l) rest

-- what a region and a chunk share, as it lies in the region itself
pub own_shared : (region chunk made : Box) → IsSharedIn region region chunk made → made ≡ overlap_of region chunk
own_shared region chunk made is =
    let over = overlap_of region chunk in
    let lies = is.shared.in_region in
    let again : shifted_box (seen_from over region.start) region.start ≡ over =
    ap (λ (start : List ℕ). record { start = start; shape = over.shape }) (moved_back over.start region.start lies.same_length lies.starts) in
    is.made_is ∙ again

or_all : (b : Bool) → b || true ≡ true
or_all true = refl
or_all false = refl

or_none : (b : Bool) → b || false ≡ b
or_none true = refl
or_none false = refl

and_none : (b : Bool) → b && false ≡ false
and_none true = refl
and_none false = refl

and_over : (a b c : Bool) → a && (b || c) ≡ (a && b) || (a && c)
and_over true b c = refl
and_over false b c = refl

apart_bytes : (a b : List ℕ) → a ≢ b → bytes_eq a b ≡ false
apart_bytes a b apart = elim (cases_Bool (bytes_eq a b)) [
  | inl is ↦ absurd (apart ((bytes_eq-Decides a b).0 is))
  | inr not_is ↦ not_is
]

-- what follows if there is no value
pub none_then : {X P Q : Type 0} (found : Option X) → (P → Q) → IfNone found P → IfNone found Q
none_then None f holds = f holds
none_then (Some x) f holds = holds

-- a chunk of the list is found in it
pub any_of : (indices : List (List ℕ)) (i : List ℕ) → Contains indices i → list_any (bytes_eq i) indices ≡ true
any_of indices i among = list_any_at (bytes_eq i) indices among.0 i among.1 ((bytes_eq-Decides i (get_or indices among.0 i)).1 (sym among.2))

module _ (layout : Layout) (lawful : IsLawful layout) where
  -- a position is in the chunk of these indices exactly if the chunk's box holds it
  in_one : (index : List ℕ) → has_box layout.grid index ≡ true → (position : List ℕ)
      → is_covered layout.grid position && bytes_eq (index_at layout.grid position) index ≡ in_box (box_at layout.grid index) position
  in_one index has position =
      let there = box_is_there layout.grid index has in
      elim (cases_Bool (in_box (box_at layout.grid index) position)) [
        | inl holds ↦
            ap (λ b. b && bytes_eq (index_at layout.grid position) index) (box_covered layout.grid lawful.grid index position there holds)
            ∙ (bytes_eq-Decides (index_at layout.grid position) index).1 (box_index layout.grid lawful.grid index position there holds)
            ∙ sym holds
        | inr out ↦ elim (cases_Bool (is_covered layout.grid position)) [
          | inr miss ↦ ap (λ b. b && bytes_eq (index_at layout.grid position) index) miss ∙ sym out
          | inl hit ↦ elim (same_or_not (index_at layout.grid position) index) [
            | inl is ↦ absurd (false≢true (sym out ∙ in_chunk layout lawful index position hit is))
            | inr apart ↦
                ap (λ b. is_covered layout.grid position && b) (apart_bytes (index_at layout.grid position) index apart)
                ∙ and_none (is_covered layout.grid position) ∙ sym out
          ]
        ]
      ]

  pub in_more : (chunks : List (List ℕ)) (index : List ℕ) → has_box layout.grid index ≡ true → (position : List ℕ)
      → is_in_chunks layout (chunks ++ index ∷ []) position ≡ is_in_chunks layout chunks position || in_box (box_at layout.grid index) position
  in_more chunks index has position =
      let f = bytes_eq (index_at layout.grid position) in
      let c = is_covered layout.grid position in
      ap (λ b. c && b) (list_any-append f chunks (index ∷ []) ∙ ap (λ b. list_any f chunks || b) (or_none (f index)))
      ∙ and_over c (list_any f chunks) (f index)
      ∙ ap (λ b. (c && list_any f chunks) || b) (in_one index has position)

  -- no chunk was read yet
  pub read_none : (region : Box) (state : StoreState) (held : ArrayData) → IsLong region → cells layout.kind held ≡ Some (replicate (position_count region.shape) layout.fill)
      → length (replicate (position_count region.shape) layout.fill) ≡ position_count region.shape → HasRead layout region [] state held
  read_none region state held long is count = record {
    given = replicate (position_count region.shape) layout.fill;
    are_cells = is;
    count = count;
    each = λ position cell holds known.
        let below = place_in_below region position long holds in
        fill_at layout.fill (replicate (position_count region.shape) layout.fill) (place_in region position) (replicated layout.fill (position_count region.shape)) (omega (arith, count))
        ∙ sym (ap (λ b. cond b (content layout (value_at state) position) (Some layout.fill)) (and_none (is_covered layout.grid position)))
        ∙ known;
    whole = λ index among. let b = among.1 in absurd (omega arith);
  }

  module _ (region : Box) (index : List ℕ) (state : StoreState) (has : has_box layout.grid index ≡ true) where
    abbrev chunk : Box
    chunk = box_at layout.grid index

    more_whole : (chunks : List (List ℕ)) (held : ArrayData) → HasRead layout region chunks state held → (CoversBox region chunk → IsBroken layout index state → ⊥)
        → (i : List ℕ) → Contains (chunks ++ index ∷ []) i → CoversBox region (box_at layout.grid i) → IsBroken layout i state → ⊥
    more_whole chunks held r sound i among = elim (Contains-push_cases chunks index i among) [
      | inl early ↦ r.whole i early
      | inr is ↦ λ covers broken.
          sound (subst (λ j. CoversBox region (box_at layout.grid j)) (sym is) covers) (subst (λ j. IsBroken layout j state) (sym is) broken)
    ]

    -- what is known of a position of the chunk, and of one beside it
    known_in : (chunks : List (List ℕ)) (position : List ℕ) (cell : Cell) → in_box chunk position ≡ true
        → cond (is_in_chunks layout (chunks ++ index ∷ []) position) (content layout (value_at state) position) (Some layout.fill) ≡ Some cell
        → content layout (value_at state) position ≡ Some cell
    known_in chunks position cell here known =
        let before = is_in_chunks layout chunks position in
        let all : is_in_chunks layout (chunks ++ index ∷ []) position ≡ true = in_more chunks index has position ∙ ap (λ b. before || b) here ∙ or_all before in
        sym (ap (λ b. cond b (content layout (value_at state) position) (Some layout.fill)) all) ∙ known

    known_out : (chunks : List (List ℕ)) (position : List ℕ) (cell : Cell) → in_box chunk position ≡ false
        → cond (is_in_chunks layout (chunks ++ index ∷ []) position) (content layout (value_at state) position) (Some layout.fill) ≡ Some cell
        → cond (is_in_chunks layout chunks position) (content layout (value_at state) position) (Some layout.fill) ≡ Some cell
    known_out chunks position cell out known =
        let before = is_in_chunks layout chunks position in
        let same : is_in_chunks layout (chunks ++ index ∷ []) position ≡ before = in_more chunks index has position ∙ ap (λ b. before || b) out ∙ or_none before in
        sym (ap (λ b. cond b (content layout (value_at state) position) (Some layout.fill)) same) ∙ known

    -- One more chunk was read: what is known of it is in the new data, and the old data beside it.
    read_piece : (old new : ArrayData) (made : List Cell) → cells layout.kind new ≡ Some made
        → ((given : List Cell) → cells layout.kind old ≡ Some given → length made ≡ length given)
        → ((position : List ℕ) (cell : Cell) → Holds region position → Holds chunk position → content layout (value_at state) position ≡ Some cell → cell_in region made position ≡ Some cell)
        → ((given : List Cell) → cells layout.kind old ≡ Some given → (position : List ℕ) → Holds region position → in_box chunk position ≡ false → cell_in region made position ≡ cell_in region given position)
        → (CoversBox region chunk → IsBroken layout index state → ⊥) → ReadsOneMore layout region index state old new
    read_piece old new made is count here there sound = λ chunks r. record {
      given = made;
      are_cells = is;
      count = count r.given r.are_cells ∙ r.count;
      each = λ position cell holds known. elim (cases_Bool (in_box chunk position)) [
        | inl inside ↦ here position cell holds inside (known_in chunks position cell inside known)
        | inr out ↦ there r.given r.are_cells position holds out ∙ r.each position cell holds (known_out chunks position cell out known)
      ];
      whole = more_whole chunks old r sound;
    }

    same_cells : (held : ArrayData) (a b : List Cell) → cells layout.kind held ≡ Some a → cells layout.kind held ≡ Some b → a ≡ b
    same_cells held a b is other = let both : Some a ≡ Some b = sym is ∙ other in cc

    -- an absent chunk was read: its cells are fill already
    pub read_absent : (held : ArrayData) → value_at state (layout.key index) ≡ None → ReadsOneMore layout region index state held held
    read_absent held absent = λ chunks r.
        read_piece held held r.given r.are_cells
        (λ given is. ap (λ (cs : List Cell). length cs) (same_cells held r.given given r.are_cells is))
        (λ position cell holds inside known.
        let fill : content layout (value_at state) position ≡ Some layout.fill = absent_fill layout (value_at state) lawful index has absent position inside in
        r.each position cell holds (elim (cases_Bool (is_in_chunks layout chunks position)) [
          | inl is ↦ ap (λ b. cond b (content layout (value_at state) position) (Some layout.fill)) is ∙ known
          | inr is_not ↦ ap (λ b. cond b (content layout (value_at state) position) (Some layout.fill)) is_not ∙ sym fill ∙ known
        ]))
        (λ given is position holds out. ap (λ (cs : List Cell). cell_in region cs position) (same_cells held r.given given r.are_cells is))
        (λ covers broken. let clash : None ≡ Some broken.encoded = sym absent ∙ broken.stands in cc)
        chunks r

    -- a chunk without a position of the region was passed
    pub read_apart : (held : ArrayData) → AreApart region chunk → ReadsOneMore layout region index state held held
    read_apart held apart = λ chunks r.
        let corner = first_held layout.grid lawful.grid index has in
        read_piece held held r.given r.are_cells
        (λ given is. ap (λ (cs : List Cell). length cs) (same_cells held r.given given r.are_cells is))
        (λ position cell holds inside known. absurd (false≢true (sym (apart position holds) ∙ inside)))
        (λ given is position holds out. ap (λ (cs : List Cell). cell_in region cs position) (same_cells held r.given given r.are_cells is))
        (λ covers broken. absurd (false≢true (sym (apart chunk.start (covers chunk.start corner)) ∙ corner)))
        chunks r

    -- a chunk that is present was read: its cells were put into the data
    pub read_present : (old part new : ArrayData) (encoded : List ℕ) → value_at state (layout.key index) ≡ Some encoded → cells layout.kind part ≡ decoded_cells layout chunk encoded
        → TakesCells layout.kind region chunk part old new → ReadsOneMore layout region index state old new
    read_present old part new encoded stands decodes t =
        let found : decoded_cells layout chunk encoded ≡ Some t.given = sym decodes ∙ t.part_is in
        let read = reads_decoded layout (value_at state) lawful index has encoded t.given stands found in
        read_piece old new t.made t.new_is
        (λ given is. t.count ∙ ap (λ (cs : List Cell). length cs) (same_cells old t.held given t.old_is is))
        (λ position cell holds inside known.
        t.takes position holds
        ∙ ap (λ b. cond b (cell_in chunk t.given position) (cell_in region t.held position)) inside
        ∙ sym (read.each position inside) ∙ known)
        (λ given is position holds out.
        t.takes position holds
        ∙ ap (λ b. cond b (cell_in chunk t.given position) (cell_in region t.held position)) out
        ∙ ap (λ (cs : List Cell). cell_in region cs position) (same_cells old t.held given t.old_is is))
        (λ covers broken.
        let other : Some encoded ≡ Some broken.encoded = sym stands ∙ broken.stands in
        let is : encoded ≡ broken.encoded = cc in
        let clash : Some t.given ≡ None = sym found ∙ ap (decoded_cells layout chunk) is ∙ broken.undecoded in
        cc)

    module _ (long : IsLong region) (same : length region.start ≡ length chunk.start) (shared part : Box) (shared_long : IsLong shared) (s : AreShared region chunk shared part) where
      chunk_long : IsLong chunk
      chunk_long = box_long layout.grid index

      in_shared : (position : List ℕ) → in_box shared position ≡ in_box region position && in_box chunk position
      in_shared position =
          ap (λ b. in_box b position) s.shared_is ∙ in_box-overlap region.start region.shape chunk.start chunk.shape position long chunk_long same

      -- the cells of a part that was decoded are those that are known of the chunk
      pub part_known : (made : ArrayData) (d : DecodesStored layout index part state made) (position : List ℕ) (cell : Cell) → Holds shared position
          → content layout (value_at state) position ≡ Some cell → cell_in shared d.decodes.given position ≡ Some cell
      part_known made d position cell here known =
          let given = d.decodes.given in
          let corner = chunk.start in
          let p = offset_from corner position in
          let inside = holds_inside shared chunk position shared_long chunk_long s.in_chunk here in
          let found = known_decodes layout lawful (value_at state) index d.encoded position cell has d.stands inside known in
          let read = reads_decoded layout (value_at state) lawful index has d.encoded found.0 d.stands found.1 in
          let corner_len : length corner ≡ length shared.start = sym s.in_chunk.same_length in
          let above : (k : ℕ) → k < length shared.start → slice_index corner k ≤ slice_index shared.start k = λ k lt. s.in_chunk.starts k (omega (arith, corner_len)) in
          let long_p : length position ≡ length shared.start = (holds_along shared position shared_long here).same_length in
          let seen : Holds part p = subst (λ b. Holds b p) (sym s.part_is) (holds_seen shared corner position shared_long corner_len above here) in
          ap (λ q. slice_get given (place shared.shape q)) (sym (seen_again shared.start corner position corner_len long_p above))
          ∙ ap (λ b. cell_in b given p) (sym s.part_is)
          ∙ d.decodes.same found.0 found.1 p seen
          ∙ ap (slice_get found.0) (place_in_chunk chunk.shape p (offset_from-in chunk.start chunk.shape position chunk_long inside))
          ∙ sym (read.each position inside)
          ∙ known

      -- a part of a chunk was read: its cells were put into the data
      pub read_part : IsPart layout region index → (old made new : ArrayData) → DecodesStored layout index part state made
          → TakesCells layout.kind region shared made old new → ReadsOneMore layout region index state old new
      read_part proper old made new d t =
          read_piece old new t.made t.new_is
          (λ given is. t.count ∙ ap (λ (cs : List Cell). length cs) (same_cells old t.held given t.old_is is))
          (λ position cell holds inside known.
          let here : in_box shared position ≡ true = in_shared position ∙ ap (λ b. b && in_box chunk position) holds ∙ inside in
          t.takes position holds
          ∙ ap (λ b. cond b (cell_in shared t.given position) (cell_in region t.held position)) here
          ∙ ap (λ (cs : List Cell). cell_in shared cs position) (same_cells made t.given d.decodes.given t.part_is d.decodes.are_cells)
          ∙ part_known made d position cell here known)
          (λ given is position holds out.
          let apart : in_box shared position ≡ false = in_shared position ∙ ap (λ b. b && in_box chunk position) holds ∙ out in
          t.takes position holds
          ∙ ap (λ b. cond b (cell_in shared t.given position) (cell_in region t.held position)) apart
          ∙ ap (λ (cs : List Cell). cell_in region cs position) (same_cells old t.held given t.old_is is))
          (λ covers broken. proper covers)

      -- a part of a chunk was read that is all of the region
      pub read_alone : shared ≡ region → IsPart layout region index → (made : ArrayData) → DecodesStored layout index part state made → HasRead layout region (index ∷ []) state made
      read_alone all proper made d = record {
        given = d.decodes.given;
        are_cells = d.decodes.are_cells;
        count = d.decodes.count ∙ ap (λ (b : Box). position_count b.shape) s.part_is ∙ ap (λ (b : Box). position_count b.shape) all;
        each = λ position cell holds known.
            let here : in_box shared position ≡ true = ap (λ (b : Box). in_box b position) all ∙ holds in
            let inside = holds_inside shared chunk position shared_long chunk_long s.in_chunk here in
            ap (λ (b : Box). cell_in b d.decodes.given position) (sym all) ∙ part_known made d position cell here (known_in [] position cell inside known);
        whole = λ i among covers broken. proper (subst (λ (j : List ℕ). CoversBox region (box_at layout.grid j)) (only_member index i among) covers);
      }

  -- all chunks of the region were read
  pub read_all : (region : Box) (chunks : List (List ℕ)) (state : StoreState) (held : ArrayData) → CoverRegion layout.grid region chunks → HasRead layout region chunks state held → ReadsRegion layout region chunks held state
  read_all region chunks state held c r = record {
    given = r.given;
    are_cells = r.are_cells;
    reads = record {
      count = r.count;
      each = λ position cell holds is.
          let among : is_in_chunks layout chunks position ≡ true =
          ap (λ b. b && list_any (bytes_eq (index_at layout.grid position)) chunks) (c.covered position holds) ∙ any_of chunks (index_at layout.grid position) (c.listed position holds) in
          r.each position cell holds (ap (λ b. cond b (content layout (value_at state) position) (Some layout.fill)) among ∙ is);
    };
    long = c.long;
    covered = c.covered;
    whole = r.whole;
  }

-- the read of a region over the chunks that it meets answers the call
pub region_answered : (layout : Layout) (shape : List ℕ) (region : Box) (state : StoreState) (result : Result ArrayBytes ArrayError) → region_refusal layout shape region ≡ None
    → ReadsOver layout region (chunks_met layout.grid region) state result → Reads (λ held. RetrievesRegion layout shape region held state) (λ r. RefusesRetrieveRegion layout shape region r state) result
region_answered layout shape region state (Ok made) accepted r = record {
  cells = region_read layout shape region (met layout.grid region) (data_of made) state accepted refl r.accepted r.read;
  refused = tt;
}
region_answered layout shape region state (Err e) accepted r = record {
  cells = tt;
  refused = region_refused_then layout shape region (met layout.grid region) state (refusal_of e) accepted refl r.refused;
}
