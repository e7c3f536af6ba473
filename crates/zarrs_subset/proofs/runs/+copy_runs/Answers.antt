use Rattle.std.proofs.Common.{arith, refl, ◌≡◌, ◌∷◌, rules}
use Rattle.zarrs_subset.proofs.RunLemmas.{runs_more}
use Rattle.zarrs_subset.proofs.runs.+copy_runs.Goals as goal

pub loop-index-preserved : goal.loop-index-preserved
loop-index-preserved g t c =
    let is : c.args.strides.now ≡ c.in-Some.outer.now ∷ c.in-Some.inner.now = search rules in
    let apart = rw is at c.requires.apart in
    runs_more _ _ _ _ _ _ _ _ _ _ _ _ _ refl refl apart.0.1 c.loop-index.invariant c.copy_runs.ensures

pub returns : goal.returns
returns g t c =
    let is : c.args.strides.now ≡ c.in-Some.outer.now ∷ c.in-Some.inner.now = search rules in
    let all : c.loop-index.index ≡ c.in-Some.outer.now.count = omega arith in
    rw is (rw all at c.loop-index.invariant)
