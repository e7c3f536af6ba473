use Rattle.std.proofs.Common.{◌≡◌, ℕ, ◌+◌, ◌*◌, ◌/◌, ◌<◌, List, [], ◌∷◌, ◌++◌, length, get_or, map, take, Option, None, sym, ap, ◌∙◌, subst, arith}
use Rattle.std.specs.Prelude.{IfSome, slice_range}
use Rattle.std.proofs.Math.Nat.{mul-div_cancel}
use Rattle.std.proofs.lemmas.Option.{IfSome_then}
use Rattle.std.proofs.lemmas.List.{get_or_default, get_or_push, get_or_append_left, length-map, length-take-le, map-append, take_all, take_more}
use borrow.Author.Count.{below_more}
use Rattle.zarrs_data_type_numbers.specs.Options.{option_flag}
use Rattle.zarrs_data_type_numbers.proofs.Chunks.{first_chunks-at}
use Rattle.zarrs_data_type_numbers.proofs.options.options_from_bytes.Goals as goal

-- one option more was read
number_more : {T : Type 0} (bytes_of : T → List ℕ) (cells : List (List ℕ)) (old new : List (Option T)) (i : ℕ) (option : Option T) (cell : List ℕ) → length old ≡ i → new ≡ old ++ option ∷ []
    → cell ≡ get_or cells i [] → IfSome option (λ x. bytes_of x ≡ cell) → ((k : ℕ) → k < i → IfSome (get_or old k None) (λ x. bytes_of x ≡ get_or cells k []))
    → (k : ℕ) → k < i + 1 → IfSome (get_or new k None) (λ x. bytes_of x ≡ get_or cells k [])
number_more bytes_of cells old new i option cell len pushed item here kept =
    below_more (λ k. IfSome (get_or new k None) (λ x. bytes_of x ≡ get_or cells k [])) i
    (λ k lt. subst (λ o. IfSome o (λ x. bytes_of x ≡ get_or cells k [])) (sym (ap (λ l. get_or l k None) pushed ∙ get_or_append_left old (option ∷ []) None k (omega arith))) (kept k lt))
    (subst (λ o. IfSome o (λ x. bytes_of x ≡ get_or cells i [])) (sym (ap (λ l. get_or l i None) pushed ∙ get_or_push old option None i len)) (IfSome_then option here (λ x same. same ∙ item)))

pub offset_bounds-cells-index : goal.offset_bounds-cells-index
offset_bounds-cells-index g c =
    omega (arith, c.as_chunks.ensures.front_len ∙ ap (λ n. n / g.row.N) c.requires.cells ∙ mul-div_cancel (length c.args.flags.now) c.requires.some)

pub bounds-cells-index : goal.bounds-cells-index
bounds-cells-index g c =
    omega (arith, c.as_chunks.ensures.front_len ∙ ap (λ n. n / g.row.N) c.requires.cells ∙ mul-div_cancel (length c.args.flags.now) c.requires.some)

pub loop-index-preserved : goal.loop-index-preserved
loop-index-preserved g c =
    let flags = c.args.flags.now in
    let i = c.loop-index.index in
    let old = c.loop-index.options.items in
    let cells = c.as_chunks.result.0.now in
    let count : length cells ≡ length flags = c.as_chunks.ensures.front_len ∙ ap (λ n. n / g.row.N) c.requires.cells ∙ mul-div_cancel (length flags) c.requires.some in
    let item : c.index-cells-index.result ≡ get_or cells i [] = c.index-cells-index.is ∙ get_or_default cells i c.index-cells-index.result [] (omega arith) in
    let len : length old ≡ i = sym (length-map old option_flag) ∙ ap length c.loop-index.invariant.flags ∙ length-take-le i flags (omega arith) in
    record {
      flags = ap (map option_flag) c.push_reserved.ensures.items
          ∙ map-append option_flag old (c.option_of.result ∷ [])
          ∙ ap (λ l. l ++ option_flag c.option_of.result ∷ []) c.loop-index.invariant.flags
          ∙ ap (λ x. take i flags ++ x ∷ []) c.option_of.ensures.flag
          ∙ sym (take_more flags i 0 (omega arith));
      numbers = number_more g.T.LittleEndian.le_bytes cells old c.push_reserved.new.self.items i c.option_of.result c.index-cells-index.result
          len c.push_reserved.ensures.items item c.option_of.ensures.number c.loop-index.invariant.numbers;
      room = c.push_reserved.ensures.capacity ∙ c.loop-index.invariant.room;
    }

pub returns-clause-numbers : goal.returns-clause-numbers
returns-clause-numbers g c = λ i lt.
    let n = g.row.N in
    let flags = c.args.flags.now in
    let bytes = c.args.bytes.now in
    let options = c.loop-index.options.items in
    let len : length options ≡ length (take c.loop-index.index flags) = sym (length-map options option_flag) ∙ ap length c.loop-index.invariant.flags in
    let all : length (take c.loop-index.index flags) ≡ length flags = ap length (take_all c.loop-index.index flags c.loop-index-test.false) in
    let count : length bytes / n ≡ length flags = ap (λ m. m / n) c.requires.cells ∙ mul-div_cancel (length flags) c.requires.some in
    let at : get_or c.as_chunks.result.0.now i [] ≡ slice_range bytes (i * n) (i * n + n) =
    ap (λ l. get_or l i []) c.as_chunks.ensures.front ∙ first_chunks-at n (length bytes / n) i bytes (omega arith) in
    IfSome_then (get_or options i None) (c.loop-index.invariant.numbers i (omega arith)) (λ x same. same ∙ at)
