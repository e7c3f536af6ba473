-- Canonical stores: compactions, and comparisons of two arrays.
use Rattle.std.proofs.Common.{◌≡◌, ℕ, false, List, Contains, sym, ◌∙◌, ap, subst, inl, inr}
use Rattle.std.proofs.lemmas.Bool.{cases_Bool}
use Rattle.zarrs_chunk_grid.specs.Grids.{box_at, has_box}
use Rattle.zarrs_chunk_grid.proofs.Chunks.{box_long}
use Rattle.zarrs_keys.specs.Keys.{IsIndexList}
use Rattle.zarrs_storage.specs.Store.{StoreState}
use Rattle.zarrs_engine_calls.specs.Layout.{Layout, IsLawful}
use Rattle.zarrs_engine_calls.specs.Content.{value_at, content, chunk_cell}
use Rattle.zarrs_engine_calls.specs.Canon.{IsCanonicalValue, IsCanonical}
use Rattle.zarrs_engine_calls.specs.Laws.{AgreeOver, CanonicalChunksAreCompact, ComparisonIsContent, DifferInKeys, HoldSameBytes}
use Rattle.zarrs_engine_calls.proofs.Contents.{content_in_box}
use Rattle.zarrs_engine_calls.proofs.LawProofs.{one_value}

pub are_compact : CanonicalChunksAreCompact
are_compact layout lawful state canon index encoded has at =
    let is = subst (IsCanonicalValue layout (content layout (value_at state)) (box_at layout.grid index)) at (canon.boxed index has) in
    lawful.chain.encoded_compact false layout.kind layout.fill (box_at layout.grid index).shape is.0 encoded is.1.count is.3

-- the layout with other keys
abbrev with_keys : Layout → (List ℕ → List ℕ) → List (List ℕ) → Layout
with_keys layout key names = record layout { key = key; metadata_keys = names }

is_with_keys : (a b : Layout) → DifferInKeys a b → with_keys a b.key b.metadata_keys ≡ b
is_with_keys a b d = λ t. record {
  grid = sym d.grid t;
  key = b.key;
  metadata_keys = b.metadata_keys;
  chain = sym d.chain t;
  kind = sym d.kind t;
  fill = sym d.fill t;
}

module _ (a : Layout) (key : List ℕ → List ℕ) (names : List (List ℕ)) (lawful : IsLawful a) (other : IsLawful (with_keys a key names)) (one two : StoreState)
    (p : IsCanonical a (value_at one)) (q : IsCanonical (with_keys a key names) (value_at two)) (chunks : List (List ℕ)) where
  bytes_agree : HoldSameBytes a (with_keys a key names) one two chunks → AgreeOver a.grid chunks (content a (value_at one)) (content (with_keys a key names) (value_at two))
  bytes_agree same index among has position holds =
      content_in_box a (value_at one) lawful index has position holds
      ∙ ap (λ t. chunk_cell a t (box_at a.grid index) position) (same index among)
      ∙ sym (content_in_box (with_keys a key names) (value_at two) other index has position holds)

  agree_bytes : ((index : List ℕ) → Contains chunks index → IsIndexList a.grid.dimensions index) → AgreeOver a.grid chunks (content a (value_at one)) (content (with_keys a key names) (value_at two)) → HoldSameBytes a (with_keys a key names) one two chunks
  agree_bytes long agree index among = elim (cases_Bool (has_box a.grid index)) [
    | inl has ↦ one_value a (content a (value_at one)) (content (with_keys a key names) (value_at two)) (box_at a.grid index) (value_at one (a.key index)) (value_at two (key index)) (box_long a.grid index) (agree index among has) (p.boxed index has) (q.boxed index has)
    | inr none ↦ p.unboxed index (long index among) none ∙ sym (q.unboxed index (long index among) none)
  ]

pub comparison_is_content : ComparisonIsContent
comparison_is_content a b lawful other d one two p q chunks long =
    let is = is_with_keys a b d in
    let shown = subst (λ (l : Layout). IsLawful l → IsCanonical l (value_at two)
    → (HoldSameBytes a l one two chunks → AgreeOver a.grid chunks (content a (value_at one)) (content l (value_at two)))
    × (AgreeOver a.grid chunks (content a (value_at one)) (content l (value_at two)) → HoldSameBytes a l one two chunks)) is
    (λ k r. (bytes_agree a b.key b.metadata_keys lawful k one two p r chunks, agree_bytes a b.key b.metadata_keys lawful k one two p r chunks long)) in
    shown other q
