use Rattle.std.proofs.Common.{rules, ◌≡◌, ℕ, true, List, [], ◌∷◌, length, refl, sym, ◌∙◌}
use Rattle.zarrs_codec_leaf.specs.BoxReads.{is_run}
use Rattle.zarrs_codec_leaf.proofs.rows.is_run.Goals as goal

-- no dimension is left
none_left : (outer rest : List ℕ) → length rest ≡ 0 → is_run outer rest ≡ true
none_left [] rest none = refl
none_left (n ∷ outer) [] none = refl
none_left (n ∷ outer) (e ∷ rest) none = cc

pub returns : goal.returns
returns c =
    let none : length c.loop-count.rest.now ≡ 0 = search rules in
    sym (none_left c.loop-count.outer.now c.loop-count.rest.now none) ∙ c.loop-count.invariant
