use Rattle.std.proofs.Common.{ℕ, ◌≤◌, List, length, Err, sym, subst, rules}
use Rattle.std.proofs.lemmas.Result.{err_from_is_err_and}
use Rattle.plans.specs.Steps.{Read}
use Rattle.plans.proofs.Fronts.{front}
use Rattle.plans.proofs.reader.step.Goals as goal

pub returns-in_err-take-in-len1-up-clause-said : goal.returns-in_err-take-in-len1-up-clause-said
returns-in_err-take-in-len1-up-clause-said g c =
    let xs = c.args.left.now in
    let one : 1 ≤ length xs = search rules in
    let p = err_from_is_err_and c.from_residual.result c.from_residual.ensures.1 in
    let b = g.R.Reader.holds in
    rw (p.1, p.2)
    (subst (λ (ys : List ℕ). Read (g.R.Reader.head c.args.reader.now) (λ cs. b cs c.args.reader.now) (λ cs. b cs c.take.new.self) ys (Err c.in_err-take-in-len1-up.field-0.0)) (sym (front 1 xs one))
    c.in_err-take-in-len1-up.ensures.said)
