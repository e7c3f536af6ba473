-- The loop of a region's read over its chunks.
use Rattle.std.proofs.Common.{◌≡◌, ◌+◌, ℕ, List, [], ◌∷◌, ◌++◌, length, take, Some, slice_get, Contains, sym, ◌∙◌, ap, subst, arith}
use Rattle.std.proofs.lemmas.List.{take_more, take_all}
use Rattle.std.proofs.lemmas.Option.{slice_get_within, get_or_from_slice_get}
use Rattle.zarrs_subset.specs.Boxes.{position_count}
use Rattle.zarrs_subset.specs.Regions.{Box}
use Rattle.zarrs_keys.specs.Keys.{IsIndexList}
use Rattle.zarrs_storage.specs.Store.{StoreState}
use Rattle.zarrs_data_type.specs.ArrayData.{ArrayData}
use Rattle.zarrs_data_type.specs.Cells.{HasCells}
use Rattle.zarrs_data_type_bytes.proofs.Cells.{HasCells-some}
use Rattle.zarrs_engine_calls.specs.Layout.{ArrayState, Layout}
use Rattle.zarrs_engine_calls.specs.Reach.{MayAsk, MayAskChunks}
use Rattle.zarrs_engine.specs.RegionReads.{HasRead, ReadsOneMore}

-- what stands at a number of a list is among it
pub at_among : (chunks : List (List ℕ)) (n : ℕ) (index : List ℕ) → slice_get chunks n ≡ Some index → Contains chunks index
at_among chunks n index at = (n, slice_get_within chunks n index at, get_or_from_slice_get chunks n index index at)

module _ (layout : Layout) (region : Box) (chunks : List (List ℕ)) (state : StoreState) where
  -- one more of the chunks
  pub read_more : (n : ℕ) (index : List ℕ) (old new : ArrayData) → slice_get chunks n ≡ Some index → HasRead layout region (take n chunks) state old → ReadsOneMore layout region index state old new → HasRead layout region (take (n + 1) chunks) state new
  read_more n index old new at r one =
      let next : take (n + 1) chunks ≡ take n chunks ++ index ∷ [] =
      take_more chunks n index (slice_get_within chunks n index at) ∙ ap (λ x. take n chunks ++ x ∷ []) (get_or_from_slice_get chunks n index index at) in
      subst (λ (done : List (List ℕ)). HasRead layout region done state new) (sym next) (one (take n chunks) r)

  pub read_next : (n m : ℕ) (index : List ℕ) (old new : ArrayData) → m ≡ n + 1 → slice_get chunks n ≡ Some index → HasRead layout region (take n chunks) state old → ReadsOneMore layout region index state old new → HasRead layout region (take m chunks) state new
  read_next n m index old new is at r one = subst (λ k. HasRead layout region (take k chunks) state new) (sym is) (read_more n index old new at r one)

  -- all of them
  pub read_last : (n : ℕ) (held : ArrayData) → n ≡ length chunks → HasRead layout region (take n chunks) state held → HasRead layout region chunks state held
  read_last n held all r =
      let whole : take n chunks ≡ chunks = ap (λ n. take n chunks) all ∙ take_all (length chunks) chunks (omega arith) in
      subst (λ (done : List (List ℕ)). HasRead layout region done state held) whole r

-- the data has the region's cells on the way
pub read_cells : (layout : Layout) (region : Box) (chunks : List (List ℕ)) (state : StoreState) (held : ArrayData) → HasRead layout region chunks state held → HasCells layout.kind held (position_count region.shape)
read_cells layout region chunks state held r = subst (HasCells layout.kind held) r.count (HasCells-some layout.kind held r.given r.are_cells)

-- the chunks that a call may ask
pub may_ask_chunks : (layout : Layout) (chunks : List (List ℕ)) (state : ArrayState) → ((index : List ℕ) → Contains chunks index → IsIndexList layout.grid.dimensions index → MayAsk layout index state) → MayAskChunks layout chunks state.store
may_ask_chunks layout chunks state may index among = record {
  key = λ long. (may index among long).key;
  places = λ long value place stands below. (may index among long).places place;
}
