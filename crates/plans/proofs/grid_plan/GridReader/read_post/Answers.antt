use Rattle.std.proofs.Common.{◌≤◌, ◌∷◌, length, get_or, refl, ap, inl, arith, rules}
use Rattle.std.proofs.lemmas.Result.{err_from_is_err_and}
use Rattle.plans.specs.Plans.{post}
use Rattle.plans.specs.GridPlans.{head_of}
use Rattle.plans.proofs.Fronts.{rest, front, rest_shorter}
use Rattle.plans.proofs.Faults.{fault_short}
use Rattle.plans.proofs.GridFaults.{fault_post}
use Rattle.plans.proofs.GridWrites.{holds_post}
use Rattle.plans.proofs.grid_plan.GridReader.read_post.Goals as goal

pub returns-in_default-clause-said : goal.returns-in_default-clause-said
returns-in_default-clause-said c = rw c.into.ensures (omega arith, λ cs h. fault_short (head_of c.args.self.now.grid) cs 82 2 c.args.operands.now (inl (refl, refl)) (search rules))

pub returns-in_err-add_post-clause-said : goal.returns-in_err-add_post-clause-said
returns-in_err-add_post-clause-said c =
    let xs = c.args.operands.now in
    let two : 2 ≤ length xs = search rules in
    let p = err_from_is_err_and c.from_residual.result c.from_residual.ensures.1 in
    rw (p.1, p.2) (
      omega arith,
      λ cs h.
          fault_post cs c.args.self.now.grid (get_or xs 0 0) (get_or xs 1 0) (82 ∷ xs) (rest 2 xs) c.in_err-add_post.field-0.0 h.posted (ap (λ ys. 82 ∷ ys) (front 2 xs two))
          c.in_err-add_post.ensures.added,
    )

pub returns-clause-said : goal.returns-clause-said
returns-clause-said c =
    let xs = c.args.operands.now in
    let two : 2 ≤ length xs = search rules in (
      rest_shorter 2 xs,
      λ cs h.
          let done = c.in_ok-add_post.ensures.added cs h.posted in
          record {
            command = post (get_or xs 0 0) (get_or xs 1 0);
            spelled = ap (λ ys. 82 ∷ ys) (front 2 xs two);
            good = done.0;
            holds = holds_post cs c.args.self.now.grid c.add_post.new.self.grid c.args.self.now.memory.now c.add_post.new.self.memory.now (get_or xs 0 0) (get_or xs 1 0) c.add_post.ensures.head c.add_post.ensures.kept h done.1;
          },
    )
