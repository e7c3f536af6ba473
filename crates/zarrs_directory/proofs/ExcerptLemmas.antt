-- What a part of a file says of the file, and what a store of such parts has at a key.
use Rattle.std.proofs.Common.{◌≡◌, ℕ, zero, suc, List, [], ◌∷◌, ◌++◌, ◌+◌, ◌-◌, ◌≤◌, ◌<◌, Bool, true, false, cond, length, take, drop, refl, sym, subst, ap, ◌∙◌, arith, append-nil, length-append}
use Rattle.std.specs.Prelude.{◌&&◌, ◌||◌, Option, Some, None, IfSome, MatchOption, map, nat_le, nat_lt, replicate}
use Rattle.std.specs.Borrow.{Bor}
use Rattle.std.specs.Option.{option_copied, option_map}
use Rattle.std.specs.Ordering.{nat_cmp}
use Rattle.std.specs.Cmp.Lexicographic.{slice_cmp}
use Rattle.std.specs.BTreeMap.{BTreeMap, is_at}
use Rattle.std.specs.BTreeMap as tree
use Rattle.std.specs.Map.{lookup}
use Rattle.std.specs.declared.cmp.Ordering.{Ordering}
use Rattle.std.specs.FinMap as finite
use Rattle.std.specs.FinMap.{find, get-from_entries}
use Rattle.std.proofs.Math.Seq.{drop-append-add}
use Rattle.std.proofs.lemmas.Bool.{and_parts, leb-true, lt-leb, ltb-true}
use Rattle.std.proofs.lemmas.Cmp.{nat_list_cmp_total}
use Rattle.std.proofs.lemmas.List.{drop-append-le, length-replicate, take-append-le, length-drop}
use Rattle.std.proofs.lemmas.Option.{none-some, same_Some}
use Rattle.std.proofs.lemmas.Map.Text.{is_eq-slice_cmp}
use Rattle.zarrs_directory.specs.Excerpts.{excerpt_at, excerpts_state, file_bytes, files_of, has_place, may_read_at, HasWanted, IsWanted, KeepsOtherExcerpts, MayReadWanted, ReadsExcerpt, ShowsExcerpt}
use Rattle.zarrs_directory.specs.declared.excerpt.Excerpt.{Excerpt}
use Rattle.zarrs_directory.specs.declared.excerpts.Excerpts.{Excerpts}
use Rattle.zarrs_directory.specs.declared.excerpt.Wanted.{Wanted}
use Rattle.zarrs_directory.specs.Directory.{has_key, KeepsKeys}
use Rattle.zarrs_directory.proofs.StoreLemmas.{apart}

-- ---- one file

abbrev zeros : ℕ → List ℕ
zeros n = replicate n 0

length-zeros : (n : ℕ) → length (zeros n) ≡ n
length-zeros n = length-replicate n 0

-- the bytes between these two lists
length_between : (before bytes after : List ℕ) → length (before ++ (bytes ++ after)) ≡ length before + (length bytes + length after)
length_between before bytes after = length-append before (bytes ++ after) ∙ ap (λ (n : ℕ). length before + n) (length-append bytes after)

alone : (before bytes after : List ℕ) → length before ≡ 0 → length after ≡ 0 → bytes ≡ before ++ (bytes ++ after)
alone [] bytes [] first last = sym (append-nil bytes)
alone [] bytes (b ∷ after) first last = absurd (omega (arith, last))
alone (b ∷ before) bytes after first last = absurd (omega (arith, first))

range_between : (before bytes after : List ℕ) (from count : ℕ) → from + count ≤ length bytes
    → take count (drop from bytes) ≡ take count (drop (length before + from) (before ++ (bytes ++ after)))
range_between before bytes after from count inside =
    let left : length (drop from bytes) ≡ length bytes - from = length-drop from bytes in
    sym (ap (take count) (drop-append-add before (bytes ++ after) from ∙ drop-append-le from bytes after (omega arith))
    ∙ take-append-le count (drop from bytes) after (omega arith))

module _ (held : Excerpt) where
  after : ℕ
  after = held.size - (held.start + length held.bytes)

  pub has_size : length (file_bytes held) ≡ held.size
  unfolding after
  has_size =
      let inside : held.start + length held.bytes ≤ held.size = held.inside in
      let first : length (zeros held.start) ≡ held.start = length-zeros held.start in
      let last : length (zeros after) ≡ after = length-zeros after in
      let all : length (file_bytes held) ≡ length (zeros held.start) + (length held.bytes + length (zeros after)) = length_between (zeros held.start) held.bytes (zeros after) in
      omega arith

  pub read_below : (place : ℕ) → place < held.size → has_place held place ≡ true → (held.start ≤ place) × (place < held.start + length held.bytes)
  read_below place below is =
      let within : Bool = nat_le held.start place && nat_lt place (held.start + length held.bytes) in
      let there : within ≡ true = subst (λ (b : Bool). (b || within) ≡ true) (lt-leb held.size place below) is in
      let parts = and_parts (nat_le held.start place) (nat_lt place (held.start + length held.bytes)) there in
      (leb-true held.start place parts.0, ltb-true place (held.start + length held.bytes) parts.1)

  ends : (n : ℕ) → n ≡ held.size → ((place : ℕ) → place < length (file_bytes held) → has_place held place ≡ true)
      → (held.start ≡ 0) × (length held.bytes ≡ held.size)
  ends zero is read = let inside : held.start + length held.bytes ≤ held.size = held.inside in (omega arith, omega arith)
  ends (suc n) is read =
      let inside : held.start + length held.bytes ≤ held.size = held.inside in
      let size : length (file_bytes held) ≡ held.size = has_size in
      let first : (held.start ≤ 0) × (0 < held.start + length held.bytes) = read_below 0 (omega arith) (read 0 (omega arith)) in
      let last : (held.start ≤ n) × (n < held.start + length held.bytes) = read_below n (omega arith) (read n (omega arith)) in
      (omega (arith, first.0), omega (arith, first.0, last.1))

  -- all of it was read
  pub all_read : ((place : ℕ) → place < length (file_bytes held) → has_place held place ≡ true) → held.bytes ≡ file_bytes held
  unfolding after
  all_read read =
      let both = ends held.size refl read in
      let start : held.start ≡ 0 = both.0 in
      let size : length held.bytes ≡ held.size = both.1 in
      alone (zeros held.start) held.bytes (zeros after) (length-zeros held.start ∙ start) (length-zeros after ∙ omega arith)

  -- a range of it that was read
  pub range_read : (offset count : ℕ) → held.start ≤ offset → offset + count ≤ held.start + length held.bytes
      → take count (drop (offset - held.start) held.bytes) ≡ take count (drop offset (file_bytes held))
  unfolding after
  range_read offset count from to =
      let is : held.start + (offset - held.start) ≡ offset = omega arith in
      range_between (zeros held.start) held.bytes (zeros after) (offset - held.start) count (omega arith)
      ∙ ap (λ (n : ℕ). take count (drop (n + (offset - held.start)) (file_bytes held))) (length-zeros held.start)
      ∙ ap (λ (n : ℕ). take count (drop n (file_bytes held))) is

-- ---- the store

abbrev by_bytes : List ℕ → List ℕ → Ordering
by_bytes = slice_cmp nat_cmp

found_file : (entries : List (List ℕ × Excerpt)) (key : List ℕ)
    → find by_bytes key (map (λ entry. (entry.0, file_bytes entry.1)) entries) ≡ option_map file_bytes (lookup (is_at (by_bytes key)) entries)
found_file [] key = refl
found_file (entry ∷ entries) key =
    elim (is_at (by_bytes key) entry.0) as (λ b. cond b (Some (file_bytes entry.1)) (find by_bytes key (map (λ e. (e.0, file_bytes e.1)) entries))
    ≡ option_map file_bytes (cond b (Some entry.1) (lookup (is_at (by_bytes key)) entries))) [
      | true ↦ refl
      | false ↦ found_file entries key
    ]

-- what its map has at a key
pub file_at : (found : BTreeMap (List ℕ) Excerpt) (key : List ℕ) → finite.get (files_of found) key ≡ option_map file_bytes (excerpt_at found key)
file_at found key = get-from_entries nat_list_cmp_total (map (λ entry. (entry.0, file_bytes entry.1)) found.entries) key ∙ found_file found.entries key

-- an entry that is put or removed leaves the others
pub others_updated : (old new : BTreeMap (List ℕ) Excerpt) (key held : List ℕ) (value : Option Excerpt) → tree.Updates by_bytes old new held value → held ≡ key
    → KeepsOtherExcerpts old new key
others_updated old new key held value updates same other differs =
    updates.2 other (is_eq-slice_cmp held other ∙ apart held other (λ equal. differs (sym equal ∙ same)))

-- what is lent at a key is what is shown there
pub shown : {R : Type 0} (store : Excerpts R) (key : List ℕ) (lent : Option (Bor Excerpt)) → option_copied lent ≡ excerpt_at store.found key
    → MatchOption lent (finite.get (excerpts_state store).values key ≡ None) (λ excerpt. ShowsExcerpt (excerpts_state store) key excerpt.now)
shown store key None is = file_at store.found key ∙ ap (option_map file_bytes) (sym is)
shown store key (Some excerpt) is = record {
  file = file_at store.found key ∙ ap (option_map file_bytes) (sym is);
  places = λ place. ap (λ (e : Option Excerpt). may_read_at e place) (sym is);
}

-- each place that is wanted of what was found may be read
wanted_read : {R : Type 0} (store : Excerpts R) (key : List ℕ) (wanted : Option Wanted) (found : Option Excerpt) → excerpt_at store.found key ≡ found
    → IfSome found (HasWanted wanted) → MayReadWanted (excerpts_state store) key wanted
wanted_read store key wanted None is has value place at want =
    absurd (none-some value (sym (file_at store.found key ∙ ap (option_map file_bytes) is) ∙ at))
wanted_read store key wanted (Some excerpt) is has value place at want =
    let same : file_bytes excerpt ≡ value = same_Some (file_bytes excerpt) value (sym (file_at store.found key ∙ ap (option_map file_bytes) is) ∙ at) in
    let size : length value ≡ excerpt.size = sym (ap length same) ∙ has_size excerpt in
    ap (λ (e : Option Excerpt). may_read_at e place) is
    ∙ has place (subst (λ (n : ℕ). IsWanted wanted n place) size want)

-- the file of a key was read, for what is wanted of it or, if it was read before, as a whole
pub read_one : {R : Type 0} (old new : Excerpts R) (key : List ℕ) (wanted asked : Option Wanted) (found : Option Excerpt)
    → (has_key old.read key ≡ false → asked ≡ wanted) → (has_key old.read key ≡ true → asked ≡ None)
    → IfSome found (HasWanted asked) → excerpt_at new.found key ≡ found → KeepsOtherExcerpts old.found new.found key
    → has_key new.read key ≡ true → KeepsKeys old.read new.read key → ReadsExcerpt (excerpts_state old) (excerpts_state new) key wanted
read_one old new key wanted asked found first again has here others noted keys = record {
  asked = noted;
  first = λ unread. subst (MayReadWanted (excerpts_state new) key) (first unread) (wanted_read new key asked found here has);
  again = λ read. subst (MayReadWanted (excerpts_state new) key) (again read) (wanted_read new key asked found here has);
  others = λ other differs. record {
    asked = keys.others other differs;
    value = file_at new.found other ∙ ap (option_map file_bytes) (others other differs) ∙ sym (file_at old.found other);
    places = λ place. ap (λ (e : Option Excerpt). may_read_at e place) (others other differs);
  };
}
