-- Chunks of which parts are written by themselves, one after another.
use Rattle.std.proofs.Common.{◌≡◌, ◌≢◌, ◌⊎◌, ℕ, ◌+◌, ◌<◌, ◌≤◌, Bool, true, false, cond, List, [], ◌∷◌, ◌++◌, length, take, slice_get, Option, Some, None, Contains, refl, sym, ap, subst, ◌∙◌, ◌&&◌, inl, inr, add-zero, arith}
use Rattle.std.specs.FinMap as map
use Rattle.std.specs.Prelude.{IsSome, IsTrue, ◌↔◌}
use Rattle.std.proofs.lemmas.Bool.{and_parts, cases_Bool, false≢true}
use Rattle.std.proofs.lemmas.List.{take_all}
use Rattle.std.proofs.lemmas.List.Elements.{Contains-append_left, Contains-push, Contains-push_cases}
use Rattle.std.proofs.lemmas.Option.{slice_get_within}
use Rattle.zarrs_subset.specs.Boxes.{position_count}
use Rattle.zarrs_subset.specs.Regions.{Box, Holds, IsLong, LiesInShape, cell_in, in_box, positions}
use Rattle.zarrs_chunk_grid.specs.Grids.{box_at, has_box, index_at}
use Rattle.zarrs_chunk_grid.proofs.Chunks.{box_is_there, box_index, box_long}
use Rattle.zarrs_storage.specs.Store.{StoreState, last_call}
use Rattle.zarrs_data_type.specs.Cell.{Cell}
use Rattle.zarrs_data_type.specs.ArrayData.{ArrayData}
use Rattle.zarrs_codec_shard.specs.PartialShards.{after}
use Rattle.zarrs_codec_chain.specs.Chain.{chunk_cells}
use Rattle.zarrs_engine_calls.specs.Layout.{Layout, IsLawful}
use Rattle.zarrs_engine_calls.specs.Content.{value_at, content, chunk_cell}
use Rattle.zarrs_engine_calls.specs.Refusals as refusal
use Rattle.zarrs_engine_calls.specs.Refusals.{Refusal, RefusesBy, key_refusal}
use Rattle.zarrs_engine_calls.specs.Changes.{HoldsValue, IsValueOf, MakesParts, Stores}
use Rattle.zarrs_engine_calls.specs.Fronts.{Front, StoresAll, Takes}
use Rattle.zarrs_data_type.specs.Cells.{HasCells, cells}
use Rattle.zarrs_engine_calls.specs.ArgumentRefusals.{box_data_refusal, chunk_refusal, part_refusal, store_part_refusal, store_region_refusal}
use Rattle.zarrs_engine.proofs.PartStores.{accepted_part}
use Rattle.zarrs_engine_calls.specs.ChunkBoxes.{chunks_met, part_box}
use Rattle.zarrs_engine_calls.specs.Step.{RefusesStore, RefusesStorePart, RefusesStoreRegion, StoresPart, StoresRegion}
use Rattle.zarrs_engine_calls.specs.Patches.{EncodesPart, HoldsPart, IsEncoded, IsPatched, Patches, PatchesAll, PatchesPart, PatchesRegion, TakesPatches, known_cells, writes_parts}
use Rattle.zarrs_engine_calls.specs.Patches.{RefusesEncodePart, RefusesEncoding, RefusesItself, RefusesKey, RefusesPartly, RefusesPatches, RefusesPatchPart, RefusesPatchRegion}
use Rattle.zarrs_engine_calls.proofs.Contents.{content_in_box, index_list, member, one_key, only_member}
use Rattle.zarrs_engine_calls.proofs.Headline.{in_front}
use Rattle.zarrs_engine_calls.proofs.RefusalLemmas.{memory_or_said}
use Rattle.zarrs_engine.specs.Patches.{HasPatched, LeavesPartly, LeavesPatch, PatchesChunk}
use Rattle.zarrs_engine.specs.RegionWrites.{LeavesPart, StoresOneMore}
use Rattle.zarrs_engine.proofs.PatchRefusals.{partly_of}
use Rattle.zarrs_engine.proofs.PatchedChunks.{own_cells, own_part}
use Rattle.zarrs_engine_calls.proofs.PartCounts.{made_as, next_made, none_made, whole_made}
use Rattle.zarrs_engine.proofs.Ranges.{next_front}
use Rattle.zarrs_engine.proofs.RegionFronts.{may_ask_then, not_yet}
use Rattle.zarrs_engine.proofs.RegionSteps.{at_among}
use Rattle.zarrs_engine_layout.specs.Covers.{CoverRegion}
use Rattle.zarrs_engine_calls.specs.Reach.{MayAskChunk, MayAskParts}
use Rattle.zarrs_engine_calls.specs.ChunkBoxes.{chunk_part}
use Rattle.zarrs_engine_calls.specs.StateRefusals.{IsPart, RefusesPart}
use Rattle.zarrs_engine.proofs.Writes.{refused_before, refused_early}

-- which chunks take their part by themselves may be said in other words
takes_as : (layout : Layout) (keep : Bool) (a b : List ℕ → Type 0) (region : Box) (held : ArrayData) (chunks : List (List ℕ)) (old new : StoreState)
    → ((index : List ℕ) → Contains chunks index → a index → b index) → ((index : List ℕ) → Contains chunks index → b index → a index)
    → TakesPatches layout keep a region held chunks old new → TakesPatches layout keep b region held chunks old new
takes_as layout keep a b region held chunks old new to from t = record {
  given = t.given;
  are_cells = t.are_cells;
  count = t.count;
  patches = record {
    boxed = t.patches.boxed;
    keys = t.patches.keys;
    inside = λ i among known. t.patches.inside i among (λ is. known (to i among is));
    whole = λ i among not. t.patches.whole i among (λ is. not (to i among is));
    partly = λ i among is. t.patches.partly i among (from i among is);
  };
}

pub patches_as : (layout : Layout) (keep : Bool) (a b : List ℕ → Type 0) (region : Box) (held : ArrayData) (chunks : List (List ℕ)) (old new : StoreState)
    → ((index : List ℕ) → Contains chunks index → a index → b index) → ((index : List ℕ) → Contains chunks index → b index → a index)
    → PatchesAll layout keep a region held chunks old new → PatchesAll layout keep b region held chunks old new
patches_as layout keep a b region held chunks old new to from p = record {
  takes = takes_as layout keep a b region held chunks old new to from p.takes;
  makes = made_as a b chunks (length chunks) 0 old new to p.makes;
}

pub refuses_as : (layout : Layout) (keep : Bool) (a b : List ℕ → Type 0) (first : Option Refusal) (region : Box) (held : ArrayData) (chunks : List (List ℕ)) (r : Refusal) (old new : StoreState)
    → ((index : List ℕ) → a index → b index) → ((index : List ℕ) → b index → a index)
    → RefusesPatches layout keep a first region held chunks r old new → RefusesPatches layout keep b first region held chunks r old new
refuses_as layout keep a b first region held chunks r old new to from s = record {
  done = s.done;
  failed = s.failed;
  front = record {
    within = s.front.within;
    untouched = s.front.untouched;
    changes = λ some. takes_as layout keep a b region held (take s.done chunks) old new (λ i _. to i) (λ i _. from i) (s.front.changes some);
    makes = made_as a b chunks s.done s.failed old new (λ i _. to i) s.front.makes;
  };
  below = s.below;
  one = s.one;
  counted = s.counted;
  cause = elim s.cause [
    | inl early ↦ inl early
    | inr late ↦ inr (
      late.0,
      late.1,
      (
        late.2.0,
        record {
          whole = λ not. late.2.1.whole (λ is. not (to late.0 is));
          partly = λ is. late.2.1.partly (from late.0 is);
        },
      ),
    )
  ];
}

-- where the parts of chunks are written by themselves the chain can
pub supported_parts : (asked : Bool) (layout : Layout) (state : StoreState) → writes_parts asked layout state ≡ true → layout.chain.encodes_partly ≡ true
supported_parts asked layout state is =
    (and_parts layout.chain.encodes_partly state.sets_parts (and_parts asked (layout.chain.encodes_partly && state.sets_parts) is).1).0

module _ (layout : Layout) (lawful : IsLawful layout) where
  -- the same bytes at the key of a chunk are the same cells in its box
  same_cells : (a b : List ℕ → Option (List ℕ)) (index : List ℕ) → has_box layout.grid index ≡ true → a (layout.key index) ≡ b (layout.key index)
      → (position : List ℕ) → Holds (box_at layout.grid index) position → content layout a position ≡ content layout b position
  same_cells a b index has same position holds =
      content_in_box layout a lawful index has position holds
      ∙ ap (λ t. chunk_cell layout t (box_at layout.grid index) position) same
      ∙ sym (content_in_box layout b lawful index has position holds)

  -- chunks that are stored whole took their part, if none of them takes it by itself
  module _ (keep : Bool) (itself : List ℕ → Type 0) (region : Box) where
    abbrev NoneItself : List (List ℕ) → Type 0
    NoneItself indices = (index : List ℕ) → Contains indices index → itself index → ⊥

    pub stored_patches : (given : List Cell) (indices : List (List ℕ)) (old new : StoreState) → NoneItself indices
        → Stores layout keep region given indices old new → Patches layout keep itself region given indices old new
    stored_patches given indices old new none s = record {
      boxed = s.updates.boxed;
      keys = s.updates.keys;
      whole = λ i among not. s.held i among;
      partly = λ i among is. absurd (none i among is);
      inside = λ i among known position holds.
          let there = box_is_there layout.grid i (s.updates.boxed i among) in
          let at : index_at layout.grid position ≡ i = box_index layout.grid lawful.grid i position there holds in
          let listed : Contains indices (index_at layout.grid position) = subst (Contains indices) (sym at) among in
          elim (cases_Bool (in_box region position)) [
            | inl hit ↦
                s.updates.inside position hit listed
                ∙ sym (ap (λ b. cond b (cell_in region given position) (content layout (value_at old) position)) hit)
            | inr miss ↦
                s.updates.outside position (λ hit. let clash : true ≡ false = sym hit ∙ miss in absurd (cc))
                ∙ sym (ap (λ b. cond b (cell_in region given position) (content layout (value_at old) position)) miss)
          ];
    }

    takes_patches : (held : ArrayData) (indices : List (List ℕ)) (old new : StoreState) → NoneItself indices
        → Takes layout keep region held indices old new → TakesPatches layout keep itself region held indices old new
    takes_patches held indices old new none t =
        record { given = t.given; are_cells = t.are_cells; count = t.count; patches = stored_patches t.given indices old new none t.stores }

    pub stored_patched : (held : ArrayData) (index : List ℕ) (old new : StoreState) → (itself index → ⊥)
        → StoresOneMore layout keep region held index old new → PatchesAll layout keep itself region held (index ∷ []) old new
    stored_patched held index old new not s = record {
      takes = record {
        given = s.given;
        are_cells = s.are_cells;
        count = s.count;
        patches = stored_patches s.given (index ∷ []) old new (λ i among is. not (subst itself (only_member index i among) is)) s.stores;
      };
      makes = whole_made itself (index ∷ []) 1 0 old new s.makes;
    }

    -- a store of whole chunks is one that may write parts by themselves
    pub all_patched : (held : ArrayData) (chunks : List (List ℕ)) (old new : StoreState) → NoneItself chunks
        → StoresAll layout keep region held chunks old new → PatchesAll layout keep itself region held chunks old new
    all_patched held chunks old new none s =
        record { takes = takes_patches held chunks old new none s.takes; makes = whole_made itself chunks (length chunks) 0 old new s.front.makes }

    pub refused_patches : (first : Option Refusal) (held : ArrayData) (chunks : List (List ℕ)) (r : Refusal) (old new : StoreState) → (first ≡ None → NoneItself chunks)
        → RefusesStore layout keep first region held chunks r old new → RefusesPatches layout keep itself first region held chunks r old new
    refused_patches first held chunks r old new none s = record {
      done = s.done;
      failed = s.failed;
      front = record {
        within = s.front.within;
        untouched = s.front.untouched;
        changes = λ some. elim s.cause [
          | inl early ↦ absurd (let zero = early.1 in omega arith)
          | inr late ↦
              takes_patches held (take s.done chunks) old new (λ i among. none late.2.0 i (in_front s.done chunks i among)) (s.front.changes some)
        ];
        makes = whole_made itself chunks s.done s.failed old new s.front.makes;
      };
      below = s.below;
      one = s.one;
      counted = s.counted;
      cause = elim s.cause [
        | inl early ↦ inl early
        | inr late ↦
            inr (late.0, late.1, (late.2.0, record { whole = λ _. late.2.1; partly = λ is. absurd (none late.2.0 late.0 (at_among chunks s.done late.0 late.1) is) }))
      ];
    }

  -- the same of a part of a chunk, and of a region
  pub part_patched : (keep asked : Bool) (index : List ℕ) (part : Box) (held : ArrayData) (old new : StoreState)
      → (IsPatched layout asked (part_box (box_at layout.grid index) part) old index → ⊥)
      → StoresPart layout keep index part held old new → PatchesPart layout keep asked index part held old new
  part_patched keep asked index part held old new not s =
      let region = part_box (box_at layout.grid index) part in
      (s.0, all_patched keep (IsPatched layout asked region old) region held (index ∷ []) old new (λ i among is. not (subst (IsPatched layout asked region old) (only_member index i among) is)) s.1)

  pub part_refuses : (keep asked : Bool) (index : List ℕ) (part : Box) (held : ArrayData) (r : Refusal) (old new : StoreState)
      → (store_part_refusal layout index part held ≡ None → IsPatched layout asked (part_box (box_at layout.grid index) part) old index → ⊥)
      → RefusesStorePart layout keep index part held r old new → RefusesPatchPart layout keep asked index part held r old new
  part_refuses keep asked index part held r old new not s =
      let region = part_box (box_at layout.grid index) part in
      refused_patches keep (IsPatched layout asked region old) region (store_part_refusal layout index part held) held (index ∷ []) r old new
      (λ none i among is. not none (subst (IsPatched layout asked region old) (only_member index i among) is)) s

  pub region_patched : (keep asked : Bool) (shape : List ℕ) (region : Box) (held : ArrayData) (old new : StoreState) → writes_parts asked layout old ≡ false
      → StoresRegion layout keep shape region held old new → PatchesRegion layout keep asked shape region held old new
  region_patched keep asked shape region held old new off s =
      (s.0, all_patched keep (IsPatched layout asked region old) region held (chunks_met layout.grid region) old new (λ i among is. false≢true (sym off ∙ is.0)) s.1)

  pub region_refuses : (keep asked : Bool) (shape : List ℕ) (region : Box) (held : ArrayData) (r : Refusal) (old new : StoreState)
      → (store_region_refusal layout shape region held ≡ None → writes_parts asked layout old ≡ false)
      → RefusesStoreRegion layout keep shape region held r old new → RefusesPatchRegion layout keep asked shape region held r old new
  region_refuses keep asked shape region held r old new off s =
      refused_patches keep (IsPatched layout asked region old) region (store_region_refusal layout shape region held) held (chunks_met layout.grid region) r old new
      (λ none i among is. false≢true (sym (off none) ∙ is.0)) s

  -- one more chunk took its part
  patches_push : (keep : Bool) (itself : List ℕ → Type 0) (region : Box) (given : List Cell) (indices : List (List ℕ)) (index : List ℕ) (old mid new : StoreState)
      → (Contains indices index → ⊥) → Patches layout keep itself region given indices old mid → Patches layout keep itself region given (index ∷ []) mid new
      → Patches layout keep itself region given (indices ++ index ∷ []) old new
  patches_push keep itself region given indices index old mid new fresh a b =
      let has : has_box layout.grid index ≡ true = b.boxed index (member index) in
      let long = index_list layout lawful index has in
      let before : value_at mid (layout.key index) ≡ value_at old (layout.key index) =
      a.keys (layout.key index) (λ i among same. fresh (subst (Contains indices) (sym (one_key layout lawful index i long (index_list layout lawful i (a.boxed i among)) same)) among)) in
      record {
        boxed = λ i among. elim (Contains-push_cases indices index i among) [ inl first ↦ a.boxed i first | inr last ↦ subst (λ (j : List ℕ). has_box layout.grid j ≡ true) last has ];
        keys = λ key apart.
            b.keys key (λ i among. apart i (wider_last i (only_member index i among)))
            ∙ a.keys key (λ i among. apart i (wider_first i among));
        whole = λ i among not. elim (Contains-push_cases indices index i among) [
          | inl first ↦
              let i_has = a.boxed i first in
              let had = a.whole i first not in (
                had.0,
                record { count = had.1.count; each = λ position holds. same_cells (value_at new) (value_at mid) i i_has (beside i first) position holds ∙ had.1.each position holds },
                subst (IsValueOf layout keep (box_at layout.grid i) had.0) (sym (beside i first)) had.2,
              )
          | inr last ↦ subst (λ (j : List ℕ). HoldsValue layout keep j new) last (b.whole index (member index) (λ is. not (subst itself last is)))
        ];
        partly = λ i among is. elim (Contains-push_cases indices index i among) [
          | inl first ↦
              let h = a.partly i first is in
              record { taken = h.taken; reads = h.reads; change = h.change; encoded = h.encoded; held = beside i first ∙ h.held }
          | inr last ↦
              let h = b.partly index (member index) (subst itself (sym last) is) in
              let box = box_at layout.grid index in
              let now : HoldsPart layout keep region given index old new = record {
                taken = h.taken;
                reads = h.reads;
                change = h.change;
                encoded = subst (λ o. layout.chain.partly_encoded keep layout.kind layout.fill box.shape o (chunk_part region box) h.taken ≡ Some h.change) before h.encoded;
                held = h.held ∙ ap (after h.change) before;
              } in
              subst (λ (j : List ℕ). HoldsPart layout keep region given j old new) last now
        ];
        inside = λ i among known position holds. elim (Contains-push_cases indices index i among) [
          | inl first ↦
              same_cells (value_at new) (value_at mid) i (a.boxed i first) (beside i first) position holds ∙ a.inside i first known position holds
          | inr last ↦
              let here : Holds (box_at layout.grid index) position = subst (λ (j : List ℕ). Holds (box_at layout.grid j) position) (sym last) holds in
              let known_before : itself index → IsSome (known_cells layout index mid) = λ is.
              subst (λ o. IsSome (chunk_cells layout.chain layout.kind layout.fill (box_at layout.grid index).shape o)) (sym before)
              (subst (λ (j : List ℕ). IsSome (known_cells layout j old)) (sym last) (known (subst itself last is))) in
              b.inside index (member index) known_before position here
              ∙ ap (λ o. cond (in_box region position) (cell_in region given position) o)
              (same_cells (value_at mid) (value_at old) index has before position here)
        ];
      }
    where
      -- what the earlier chunks hold stays
      beside : (i : List ℕ) → Contains indices i → value_at new (layout.key i) ≡ value_at mid (layout.key i)
      beside i first =
          b.keys (layout.key i) (λ j last same. fresh (subst (Contains indices) (one_key layout lawful i j (index_list layout lawful i (a.boxed i first)) (index_list layout lawful j (b.boxed j last)) same ∙ only_member index j last) first))

      wider_first : (i : List ℕ) → Contains indices i → Contains (indices ++ index ∷ []) i
      wider_first i among = Contains-append_left indices (index ∷ []) i among

      wider_last : (i : List ℕ) → i ≡ index → Contains (indices ++ index ∷ []) i
      wider_last i is = subst (Contains (indices ++ index ∷ [])) (sym is) (Contains-push indices index)

  -- what a chunk took is what the values say
  patches_then : (keep : Bool) (itself : List ℕ → Type 0) (region : Box) (given : List Cell) (indices : List (List ℕ)) (old mid new : StoreState)
      → new.values ≡ mid.values → Patches layout keep itself region given indices old mid → Patches layout keep itself region given indices old new
  patches_then keep itself region given indices old mid new same p =
      let at : (key : List ℕ) → value_at new key ≡ value_at mid key = λ key. ap (λ values. map.get values key) same in
      let cell : (position : List ℕ) → content layout (value_at new) position ≡ content layout (value_at mid) position =
      λ position. ap (λ values. content layout (map.get values) position) same in
      record {
        boxed = p.boxed;
        keys = λ key apart. at key ∙ p.keys key apart;
        inside = λ i among known position holds. cell position ∙ p.inside i among known position holds;
        whole = λ i among not.
            let had = p.whole i among not in (
              had.0,
              record { count = had.1.count; each = λ position holds. cell position ∙ had.1.each position holds },
              subst (IsValueOf layout keep (box_at layout.grid i) had.0) (sym (at (layout.key i))) had.2,
            );
        partly = λ i among is.
            let h = p.partly i among is in
            record { taken = h.taken; reads = h.reads; change = h.change; encoded = h.encoded; held = at (layout.key i) ∙ h.held };
      }

  module _ (keep : Bool) (itself : List ℕ → Type 0) (region : Box) (held : ArrayData) (range : Box) (range_long : IsLong range) where
    abbrev chunks : List (List ℕ)
    chunks = positions range

    pub patched_none : (given : List Cell) (state : StoreState) → cells layout.kind held ≡ Some given → length given ≡ position_count region.shape
        → HasPatched layout keep itself region held chunks 0 state state
    patched_none given state are count = record {
      given = given;
      are_cells = are;
      count = count;
      patches = record {
        boxed = λ i among. let b = among.1 in absurd (omega arith);
        keys = λ key apart. refl;
        inside = λ i among known position holds. let b = among.1 in absurd (omega arith);
        whole = λ i among not. let b = among.1 in absurd (omega arith);
        partly = λ i among is. let b = among.1 in absurd (omega arith);
      };
      untouched = λ none. refl;
      makes = none_made itself chunks state;
    }

    pub patched_more : (done : ℕ) (index : List ℕ) (old mid new : StoreState) → HasPatched layout keep itself region held chunks done old mid → slice_get chunks done ≡ Some index
        → PatchesAll layout keep itself region held (index ∷ []) mid new → HasPatched layout keep itself region held chunks (done + 1) old new
    patched_more done index old mid new p at one =
        let cells_one : Some one.takes.given ≡ Some p.given = sym one.takes.are_cells ∙ p.are_cells in
        let same : one.takes.given ≡ p.given = cc in
        let next = subst (λ (cs : List Cell). Patches layout keep itself region cs (index ∷ []) mid new) same one.takes.patches in
        record {
          given = p.given;
          are_cells = p.are_cells;
          count = p.count;
          patches = subst (λ front. Patches layout keep itself region p.given front old new) (sym (next_front layout chunks done index at))
              (patches_push keep itself region p.given (take done chunks) index old mid new (not_yet range range_long done index at) p.patches next);
          untouched = λ none. absurd (omega arith);
          makes = next_made itself chunks done index 1 0 old mid new at (omega arith) p.makes one.makes;
        }

    pub patched_all : (done : ℕ) (old new : StoreState) → done ≡ length chunks → HasPatched layout keep itself region held chunks done old new → PatchesAll layout keep itself region held chunks old new
    patched_all done old new all p =
        let whole : take done chunks ≡ chunks = ap (λ n. take n chunks) all ∙ take_all (length chunks) chunks (omega arith) in
        record {
          takes = record { given = p.given; are_cells = p.are_cells; count = p.count; patches = subst (λ front. Patches layout keep itself region p.given front old new) whole p.patches };
          makes = subst (λ n. MakesParts itself chunks n 0 old new) all p.makes;
        }

    -- the next chunk is refused
    pub patched_fails : (first : Option Refusal) (done : ℕ) (index : List ℕ) (r : Refusal) (old mid new : StoreState) → first ≡ None
        → HasPatched layout keep itself region held chunks done old mid → slice_get chunks done ≡ Some index → LeavesPatch layout keep itself region held index r mid new
        → RefusesPatches layout keep itself first region held chunks r old new
    patched_fails first done index r old mid new none p at l =
        let within = slice_get_within chunks done index at in
        let made = next_made itself chunks done index 0 l.failed old mid new at (omega (arith, l.one)) p.makes l.makes in
        record {
          done = done;
          failed = l.failed;
          front = patched_front done l.failed old mid new (omega (arith, within)) p l.values (subst (λ n. MakesParts itself chunks n l.failed old new) (add-zero done) made);
          below = λ some. within;
          one = l.one;
          counted = l.counted;
          cause = inr (index, at, (none, l.cause));
        }
      where
        patched_front : (done failed : ℕ) (old mid new : StoreState) → done ≤ length chunks → HasPatched layout keep itself region held chunks done old mid → new.values ≡ mid.values → MakesParts itself chunks done failed old new
            → Front (MakesParts itself chunks) (λ indices. TakesPatches layout keep itself region held indices old new) chunks done failed old new
        patched_front done failed old mid new within p same makes =
            record {
              within = within;
              untouched = λ none. same ∙ p.untouched none;
              changes = λ some. record { given = p.given; are_cells = p.are_cells; count = p.count; patches = patches_then keep itself region p.given (take done chunks) old mid new same p.patches };
              makes = makes;
            }

    -- out of memory before the first chunk
    pub patched_short : (first : Option Refusal) (state : StoreState) → RefusesPatches layout keep itself first region held chunks refusal.out_of_memory state state
    patched_short first state = refused_before _ chunks _ _ state (none_made itself chunks state) tt

-- a chunk that is stored whole was refused
pub leaves_patch : (layout : Layout) (keep : Bool) (itself : List ℕ → Type 0) (region : Box) (held : ArrayData) (index : List ℕ) (r : Refusal) (old new : StoreState) → (itself index → ⊥)
    → LeavesPart layout keep region held index r old new → LeavesPatch layout keep itself region held index r old new
leaves_patch layout keep itself region held index r old new not l = record {
  failed = l.failed;
  one = l.one;
  counted = l.counted;
  values = l.values;
  makes = whole_made itself (index ∷ []) 0 l.failed old new l.makes;
  cause = record { whole = λ _. l.cause; partly = λ is. absurd (not is) };
}

-- the next chunk may be asked what it might be asked at first
pub patched_ask : (layout : Layout) → IsLawful layout → (keep : Bool) (itself : List ℕ → Type 0) (region : Box) (held : ArrayData) (range : Box) → IsLong range → CoverRegion layout.grid region (positions range)
    → (old mid : StoreState) → MayAskParts layout region (positions range) old
    → (done : ℕ) (index : List ℕ) → slice_get (positions range) done ≡ Some index → HasPatched layout keep itself region held (positions range) done old mid → MayAskParts layout region (index ∷ []) mid
patched_ask layout lawful keep itself region held range long cover old mid ask done index at p = λ other only part.
    let is = only_member index other only in
    let among = at_among (positions range) done index at in
    let mine = index_list layout lawful index (cover.boxed index among) in
    let same : value_at mid (layout.key index) ≡ value_at old (layout.key index) =
    p.patches.keys (layout.key index) (λ i early equal.
    let one = one_key layout lawful index i mine (index_list layout lawful i (p.patches.boxed i early)) equal in
    not_yet range long done index at (subst (Contains (take done (positions range))) (sym one) early)) in
    let here = may_ask_then layout index old mid p.makes.rules same (ask index among (subst (IsPart layout region) is part)) in
    subst (λ i. MayAskChunk layout i mid) (sym is) here

-- a part of one chunk, from what the steps of the call leave
module _ (layout : Layout) (lawful : IsLawful layout) (index : List ℕ) (part chunk region : Box) (part_long : IsLong part) (chunk_is : chunk ≡ box_at layout.grid index) (region_is : region ≡ part_box chunk part)
    (there : chunk_refusal layout index ≡ None) (inside : part_refusal layout index part ≡ None) (held : ArrayData) (whole : Bool) (test : IsTrue whole ↔ (region ≡ chunk))
    (fits : box_data_refusal layout whole region.shape held ≡ None) (old new : StoreState) where
  accepted : store_part_refusal layout index part held ≡ None
  accepted = accepted_part layout lawful index part chunk region part_long chunk_is region_is there inside held whole test fits

  -- the chunk takes the part by itself
  abbrev here : Box
  here = part_box (box_at layout.grid index) part

  module _ (keep : Bool) (itself : List ℕ → Type 0) (is : itself index) where
    patched_itself : PatchesChunk layout keep index part held old new → PatchesAll layout keep itself here held (index ∷ []) old new
    patched_itself p =
        patches_as layout keep (λ i. Unit {0}) itself here held (index ∷ []) old new
        (λ i among _. subst itself (sym (only_member index i among)) is) (λ i among _. tt) p

    made_itself : (failed : ℕ) → MakesParts (λ i. Unit {0}) (index ∷ []) 0 failed old new → MakesParts itself (index ∷ []) 0 failed old new
    made_itself failed m = made_as (λ i. Unit {0}) itself (index ∷ []) 0 failed old new (λ i among _. subst itself (sym (only_member index i among)) is) m

    partly_left : LiesInShape part (box_at layout.grid index).shape → HasCells layout.kind held (position_count part.shape)
        → (failed : ℕ) (state : StoreState) (r : Refusal) → RefusesPartly layout keep index part held failed state r → RefusesItself layout keep here held index failed state r
    partly_left lies given failed state r why =
        let box = box_at layout.grid index in
        let long = box_long layout.grid index in
        inr (partly_of layout keep itself here held index part held (own_part box part long part_long lies) (own_cells layout.kind box part long part_long lies held given) failed state r why)

  -- by a store
  module _ (keep asked : Bool) (is : IsPatched layout asked here old index) where
    pub patched_part : PatchesChunk layout keep index part held old new → PatchesPart layout keep asked index part held old new
    patched_part p = (accepted, patched_itself keep (IsPatched layout asked here old) is p)

    pub patched_left : LiesInShape part (box_at layout.grid index).shape → HasCells layout.kind held (position_count part.shape) → (r : Refusal)
        → LeavesPartly layout keep index part held r old new → RefusesPatchPart layout keep asked index part held r old new
    patched_left lies given r l = record {
      done = 0;
      failed = l.failed;
      front = record { within = omega arith; untouched = λ none. l.values; changes = λ some. absurd (omega arith); makes = made_itself keep (IsPatched layout asked here old) is l.failed l.makes };
      below = λ some. some;
      one = l.one;
      counted = l.counted;
      cause = inr (
        index,
        refl,
        (
          accepted,
          record {
            whole = λ not. absurd (not is);
            partly = λ _. partly_left keep (IsPatched layout asked here old) is lies given l.failed new r l.cause;
          },
        ),
      );
    }

  -- by an encoder
  module _ (keep : Bool) where
    pub encoded_part : IsEncoded layout old index → PatchesChunk layout keep index part held old new → EncodesPart layout keep index part held old new
    encoded_part is p = (accepted, patched_itself keep (IsEncoded layout old) is p)

    encoding_left : (failed : ℕ) (r : Refusal) → failed ≤ 1 → (0 < failed → new.calls ≢ last_call + 1) → new.values ≡ old.values → MakesParts (IsEncoded layout old) (index ∷ []) 0 failed old new
        → RefusesEncoding layout keep (IsEncoded layout old) here held index failed new r → RefusesEncodePart layout keep index part held r old new
    encoding_left failed r one counted values makes why = record {
      done = 0;
      failed = failed;
      front = record { within = omega arith; untouched = λ none. values; changes = λ some. absurd (omega arith); makes = makes };
      below = λ some. some;
      one = one;
      counted = counted;
      cause = inr (index, refl, (accepted, why));
    }

    pub encoded_left : IsEncoded layout old index → LiesInShape part (box_at layout.grid index).shape → HasCells layout.kind held (position_count part.shape) → (r : Refusal)
        → LeavesPartly layout keep index part held r old new → RefusesEncodePart layout keep index part held r old new
    encoded_left is lies given r l =
        encoding_left l.failed r l.one l.counted l.values (made_itself keep (IsEncoded layout old) is l.failed l.makes)
        (record { whole = λ not. absurd (not is); partly = λ _. partly_left keep (IsEncoded layout old) is lies given l.failed new r l.cause })

    -- which stores the chunk whole
    module _ (not : IsEncoded layout old index → ⊥) where
      pub encoded_whole : StoresPart layout keep index part held old new → EncodesPart layout keep index part held old new
      encoded_whole s =
          (s.0, all_patched layout lawful keep (IsEncoded layout old) here held (index ∷ []) old new (λ i among is. not is) s.1)

      pub whole_left : (r : Refusal) → LeavesPart layout keep here held index r old new → RefusesEncodePart layout keep index part held r old new
      whole_left r l =
          encoding_left l.failed r l.one l.counted l.values (whole_made (IsEncoded layout old) (index ∷ []) 0 l.failed old new l.makes)
          (record { whole = λ _. inl l.cause; partly = λ is. absurd (not is) })

-- the key of the chunk refuses to be read
module _ (layout : Layout) (keep : Bool) (index : List ℕ) (part : Box) (held : ArrayData) (state : StoreState) (accepted : store_part_refusal layout index part held ≡ None)
    (not : IsEncoded layout state index → ⊥) where
  pub key_left : (r : Refusal) → RefusesBy (key_refusal layout index state) r → RefusesEncodePart layout keep index part held r state state
  key_left r why = record {
    done = 0;
    failed = 0;
    front = record { within = omega arith; untouched = λ none. refl; changes = λ some. absurd (omega arith); makes = none_made (IsEncoded layout state) (index ∷ []) state };
    below = λ some. some;
    one = omega arith;
    counted = λ some. absurd (omega arith);
    cause = inr (index, refl, (accepted, record { whole = λ _. refuses_key; partly = λ is. absurd (not is) }));
  }
    where
      refuses_key : RefusesPart layout keep (part_box (box_at layout.grid index) part) held index 0 state r ⊎ ((r ≡ refusal.storage) × RefusesKey layout index 0 state)
      refuses_key = elim (memory_or_said _ r why) [
        | inl memory ↦ inl (subst (RefusesPart layout keep (part_box (box_at layout.grid index) part) held index 0 state) (sym memory) tt)
        | inr said ↦ elim (cases_Bool (state.refuses (layout.key index))) [
          | inl hit ↦
              let is : Some refusal.storage ≡ Some r = sym (ap (λ b. cond b (Some refusal.storage) None) hit) ∙ said in
              let same : refusal.storage ≡ r = cc in
              inr (sym same, (refl, hit))
          | inr miss ↦ absurd (let clash : None ≡ Some r = sym (ap (λ b. cond b (Some refusal.storage) None) miss) ∙ said in cc)
        ]
      ]

-- ---- what the arguments refuse

pub patch_early : (layout : Layout) (keep asked : Bool) (index : List ℕ) (part : Box) (held : ArrayData) (r : Refusal) (state : StoreState)
    → RefusesBy (store_part_refusal layout index part held) r → RefusesPatchPart layout keep asked index part held r state state
patch_early layout keep asked index part held r state why = refused_before _ _ _ _ state (none_made _ _ state) why

pub encode_early : (layout : Layout) (keep : Bool) (index : List ℕ) (part : Box) (held : ArrayData) (r : Refusal) (state : StoreState)
    → RefusesBy (store_part_refusal layout index part held) r → RefusesEncodePart layout keep index part held r state state
encode_early layout keep index part held r state why = refused_before _ _ _ _ state (none_made _ _ state) why

pub region_early : (layout : Layout) (keep : Bool) (shape : List ℕ) (region : Box) (held : ArrayData) (r : Refusal) (state : StoreState)
    → RefusesBy (store_region_refusal layout shape region held) r → RefusesStoreRegion layout keep shape region held r state state
region_early layout keep shape region held r state why = refused_early _ _ _ _ state why

pub region_patch_early : (layout : Layout) (keep asked : Bool) (shape : List ℕ) (region : Box) (held : ArrayData) (r : Refusal) (state : StoreState)
    → RefusesBy (store_region_refusal layout shape region held) r → RefusesPatchRegion layout keep asked shape region held r state state
region_patch_early layout keep asked shape region held r state why = refused_before _ _ _ _ state (none_made _ _ state) why
