use Rattle.std.proofs.Common.{◌≤◌, ◌∷◌, length, get_or, refl, ap, inl, inr, arith, rules}
use Rattle.std.proofs.lemmas.Result.{err_from_is_err_and}
use Rattle.plans.specs.Plans.{block}
use Rattle.plans.specs.GridPlans.{head_of}
use Rattle.plans.proofs.Fronts.{rest, front, rest_shorter}
use Rattle.plans.proofs.Faults.{fault_short}
use Rattle.plans.proofs.GridFaults.{fault_range}
use Rattle.plans.proofs.GridWrites.{holds_block}
use Rattle.plans.proofs.grid_plan.GridReader.read_block.Goals as goal

pub returns-in_default-clause-said : goal.returns-in_default-clause-said
returns-in_default-clause-said c = rw c.into.ensures (omega arith, λ cs h. fault_short (head_of c.args.self.now.grid) cs 66 2 c.args.operands.now (inr (inl (refl, refl))) (search rules))

pub returns-in_err-place-clause-said : goal.returns-in_err-place-clause-said
returns-in_err-place-clause-said c =
    let xs = c.args.operands.now in
    let two : 2 ≤ length xs = search rules in
    let p = err_from_is_err_and c.from_residual.result c.from_residual.ensures.1 in
    let wrong = c.in_err-place.ensures in
    rw (p.1, p.2, wrong.0) (
      omega arith,
      λ cs h.
          fault_range (head_of c.args.self.now.grid) cs (block (get_or xs 0 0) (get_or xs 1 0)) (66 ∷ xs) (rest 2 xs) (ap (λ ys. 66 ∷ ys) (front 2 xs two)) tt wrong.1,
    )

pub returns-clause-said : goal.returns-clause-said
returns-clause-said c =
    let xs = c.args.operands.now in
    let two : 2 ≤ length xs = search rules in
    let found = c.in_ok-place.ensures in (
      rest_shorter 2 xs,
      λ cs h. record {
        command = block (get_or xs 0 0) (get_or xs 1 0);
        spelled = ap (λ ys. 66 ∷ ys) (front 2 xs two);
        good = (tt, found.0, tt, tt, tt);
        holds = holds_block cs c.args.self.now.grid c.args.self.now.memory.now (get_or xs 0 0) (get_or xs 1 0) c.in_ok-place.place found.1 h;
      },
    )
