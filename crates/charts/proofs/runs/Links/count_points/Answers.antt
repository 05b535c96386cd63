use Rattle.std.proofs.Common.{ℕ, ◌+◌, ◌<◌, Ok, length, sym, ap, ◌∙◌, subst}
use Rattle.std.proofs.lemmas.Result.{err_from_is_err_and}
use Rattle.charts.proofs.Trails.{Comes, comes_more, comes_home, comes_nowhere, comes_round}
use Rattle.charts.proofs.runs.Links.count_points.Goals as goal

pub returns-in_err-before : goal.returns-in_err-before
returns-in_err-before g c =
    let p = err_from_is_err_and c.from_residual.result c.from_residual.ensures.1 in
    rw (p.1, p.2) (comes_nowhere _ _ _ _ _ _ c.index-self-place.result c.loop-count.invariant.1 c.loop-count.invariant.0 _ c.in_err-before.ensures)

pub returns-in-None : goal.returns-in-None
returns-in-None g c = comes_home _ _ _ _ _ _ c.index-self-place.result c.loop-count.invariant.1 c.loop-count.invariant.0 (sym (ap Ok c.in-None.is) ∙ c.in_ok-before.ensures)

pub loop-count-preserved : goal.loop-count-preserved
loop-count-preserved g c =
    subst (λ (k : ℕ). (k < length c.args.self.now.pairs.now) × Comes g.C.Class c.args.self.now.reel c.args.self.now.pairs.now c.args.first (c.loop-count.count + 1) k) (sym c.from-place.ensures)
    (comes_more _ _ _ _ _ _ c.index-self-place.result c.loop-count.invariant.1 c.loop-count.invariant.0 _ (sym (ap Ok c.in-Some.is) ∙ c.in_ok-before.ensures))

pub returns : goal.returns
returns g c = comes_round _ _ _ _ _ _ c.loop-count.invariant.1 c.loop-count-test.false
