use Rattle.std.proofs.Common.{rules}
use Rattle.std.proofs.lemmas.Result.{MatchResult-at_ok, MatchResult-at_err, err_from_is_err_and}
use Rattle.kinds.proofs.Priced.{stepped_on}
use Rattle.kinds.proofs.pricing.price.Goals as goal

pub returns-in_err-along : goal.returns-in_err-along
returns-in_err-along g c =
    let m = c.args.map.now in
    let q = err_from_is_err_and c.from_residual.result c.from_residual.ensures.1 in
    rw (q.1, q.2) (MatchResult-at_err _ _ _ c.in_err-along.was
    (stepped_on g.M.Map g.C.Class g.K.Cost m (g.met.M.Map.lanes m) g.met.C.Class.held c.args.from c.args.numbers.now c.loop-place.place-counter 0 c.loop-place-test.true
    c.loop-place.invariant.0 c.loop-place.along c.loop-place.invariant.1 c.go_on.result c.map_err.result _ c.go_on.ensures c.map_err.ensures.cases (λ h e k. search rules)))

pub loop-place-preserved : goal.loop-place-preserved
loop-place-preserved g c =
    let m = c.args.map.now in
    MatchResult-at_ok _ _ _ c.in_ok-along.was
    (stepped_on g.M.Map g.C.Class g.K.Cost m (g.met.M.Map.lanes m) g.met.C.Class.held c.args.from c.args.numbers.now c.loop-place.place-counter 0 c.loop-place-test.true
    c.loop-place.invariant.0 c.loop-place.along c.loop-place.invariant.1 c.go_on.result c.map_err.result _ c.go_on.ensures c.map_err.ensures.cases (λ h e k. search rules))
