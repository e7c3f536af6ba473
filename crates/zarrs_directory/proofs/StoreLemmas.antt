-- What the map and the keys of a store over a directory are after a read or a refused write.
use Rattle.std.proofs.Common.{◌≡◌, ℕ, List, Bool, true, false, cond, refl, sym, ap, ◌∙◌, inl, inr}
use Rattle.std.specs.Prelude.{if◌then◌else◌, Option, Some, None}
use Rattle.std.specs.Str.{bytes_eq}
use Rattle.std.specs.Ordering.{nat_cmp}
use Rattle.std.specs.Cmp.Lexicographic.{slice_cmp}
use Rattle.std.specs.BTreeMap.{BTreeMap}
use Rattle.std.specs.BTreeMap as tree
use Rattle.std.specs.BTreeSet.{BTreeSet}
use Rattle.std.specs.BTreeSet as sorted
use Rattle.std.specs.FinMap as map
use Rattle.std.specs.FinMap.{same_map, slice_cmp-IsAntisymmetric, nat_cmp-IsAntisymmetric}
use Rattle.std.proofs.lemmas.Bool.{cases_Bool, false≢true}
use Rattle.std.proofs.lemmas.Cmp.{nat_list_cmp_total}
use Rattle.std.proofs.lemmas.Map.Text.{is_eq-slice_cmp}
use Rattle.std.proofs.lemmas.Slice.Eq.{bytes_eq-Decides}
use Rattle.zarrs_storage.specs.Store.{Values}
use Rattle.zarrs_storage.specs.Memory.{values_of}
use Rattle.zarrs_storage.proofs.MemoryLemmas.{inserted}
use Rattle.zarrs_storage.proofs.ValuesLemmas.{get_inserted, get_removed}
use Rattle.zarrs_directory.specs.Directory.{has_key, KeepsKeys, KeepsOtherValues}

pub apart : (q k : List ℕ) → (q ≡ k → ⊥) → bytes_eq q k ≡ false
apart q k h = elim (cases_Bool (bytes_eq q k)) [ inl same ↦ absurd (h ((bytes_eq-Decides q k).0 same)) | inr other ↦ other ]

-- ---- values

-- an entry whose key and value are clones
pub entered : (m n : BTreeMap (List ℕ) (List ℕ)) (k v held value : List ℕ) → tree.Updates (slice_cmp nat_cmp) m n held (Some value) → held ≡ k → value ≡ v
    → values_of n ≡ map.insert (values_of m) k v
entered m n k v held value updates same_key same_value =
    inserted m n held value updates ∙ ap (λ (q : List ℕ). map.insert (values_of m) q value) same_key ∙ ap (map.insert (values_of m) k) same_value

twice : (b : Bool) (v : List ℕ) (o : Option (List ℕ)) → (b ≡ true → o ≡ None) → (if b then None else (if b then Some v else o)) ≡ o
twice true v o h = sym (h refl)
twice false v o h = refl

-- a value that is put at a key without one, and taken away again
pub taken_back : (m : Values) (k v : List ℕ) → map.get m k ≡ None → map.remove (map.insert m k v) k ≡ m
taken_back m k v absent = same_map nat_list_cmp_total (slice_cmp-IsAntisymmetric nat_cmp-IsAntisymmetric) _ _ (λ q.
    get_removed (map.insert m k v) k q
    ∙ ap (λ (o : Option (List ℕ)). if bytes_eq q k then None else o) (get_inserted m k v q)
    ∙ twice (bytes_eq q k) v (map.get m q) (λ same. ap (map.get m) ((bytes_eq-Decides q k).0 same) ∙ absent))

-- another key has the value that it had
pub other_inserted : (old new : Values) (k v : List ℕ) → new ≡ map.insert old k v → KeepsOtherValues old new k
other_inserted old new k v is q other =
    ap (λ (m : Values). map.get m q) is ∙ get_inserted old k v q ∙ ap (λ (b : Bool). if b then Some v else map.get old q) (apart q k other)

pub other_removed : (old new : Values) (k : List ℕ) → new ≡ map.remove old k → KeepsOtherValues old new k
other_removed old new k is q other =
    ap (λ (m : Values). map.get m q) is ∙ get_removed old k q ∙ ap (λ (b : Bool). if b then None else map.get old q) (apart q k other)

-- ---- keys

true_or : (b c : Bool) → c ≡ true → cond b true c ≡ true
true_or true c h = refl
true_or false c h = h

-- a key is added to a set
pub noted_keys : (old new : BTreeSet (List ℕ)) (k held : List ℕ) → sorted.Updates (slice_cmp nat_cmp) old new held true → held ≡ k → KeepsKeys old new k
noted_keys old new k held updates same = record {
  kept = λ q before. updates.0 q ∙ true_or (tree.is_at (slice_cmp nat_cmp held) q) (has_key old q) before;
  others = λ q other.
      updates.0 q
      ∙ ap (λ (b : Bool). cond b true (has_key old q)) (is_eq-slice_cmp held q ∙ apart held q (λ equal. other (sym equal ∙ same)));
}

-- a key that was not there is added, and taken away again
pub unnoted : (old noted new : BTreeSet (List ℕ)) (key : List ℕ) → has_key old key ≡ false → KeepsKeys old noted key → has_key new key ≡ false
    → ((other : List ℕ) → (other ≡ key → ⊥) → has_key new other ≡ has_key noted other) → (other : List ℕ) → has_key new other ≡ has_key old other
unnoted old noted new key absent keeps gone keys other =
    elim (cases_Bool (bytes_eq other key)) [
      | inl same ↦ let is : other ≡ key = (bytes_eq-Decides other key).0 same in ap (has_key new) is ∙ gone ∙ sym absent ∙ ap (has_key old) (sym is)
      | inr apart ↦
          let differs : other ≡ key → ⊥ = λ equal. false≢true (sym apart ∙ (bytes_eq-Decides other key).1 equal) in
          keys other differs ∙ keeps.others other differs
    ]

-- a key is taken away from a set
pub unnoted_keys : (old new : BTreeSet (List ℕ)) (k : List ℕ) → sorted.Updates (slice_cmp nat_cmp) old new k false
    → (q : List ℕ) → (q ≡ k → ⊥) → has_key new q ≡ has_key old q
unnoted_keys old new k updates q other =
    updates.0 q ∙ ap (λ (b : Bool). cond b false (has_key old q)) (is_eq-slice_cmp k q ∙ apart k q (λ equal. other (sym equal)))
