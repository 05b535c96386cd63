use Rattle.std.proofs.Common.{◌≡◌, ℕ, ◌+◌, ◌≤◌, ◌∷◌, List, length, get_or, Ok, Err, Result, sym, refl, subst, arith, rules}
use Rattle.std.proofs.lemmas.Result.{err_from_is_err_and}
use Rattle.plans.specs.declared.plan.Grid.{Grid}
use Rattle.plans.specs.declared.fault.Stop.{Stop}
use Rattle.plans.specs.Plans.{grid}
use Rattle.plans.specs.Faults.{fault_number}
use Rattle.plans.specs.Steps.{Run}
use Rattle.plans.specs.GridPlans.{Accepts}
use Rattle.plans.specs.GridSteps.{Holds}
use Rattle.plans.proofs.Fronts.{rest}
use Rattle.plans.proofs.Mapped.{mapped_err, mapped_ok}
use Rattle.plans.proofs.GridHeads.{spelled_grid, accepts_from_ends, refused_from_fails, refused_from_head, head_from_sized, sized_from_head}
use Rattle.plans.proofs.grid_plan.read_grid.Goals as goal

pub returns-then-not-is_sized : goal.returns-then-not-is_sized
returns-then-not-is_sized c =
    let xs = c.args.operands.now in
    let s = c.from_be_bytes.result in
    let four : 4 ≤ length xs = search rules in
    rw c.into-then-not-is_sized.ensures
    (refused_from_head (71 ∷ xs) (rest 4 xs) (grid (get_or xs 0 0) (get_or xs 1 0) s)
    (spelled_grid xs s four c.from_be_bytes.ensures (omega (arith, c.type_inv.operands 3)))
    (sized_from_head (get_or xs 0 0) (get_or xs 1 0) s (sym c.if-not-is_sized.ensures)))

along : {bytes m : List ℕ} {g : Grid} (n : List ℕ) → n ≡ m → Accepts bytes g m → Accepts bytes g n
along {bytes} {m} {g} n e a = subst (λ (k : List ℕ). Accepts bytes g k) (sym e) a

pub returns : goal.returns
returns c =
    let xs = c.args.operands.now in
    let s = c.from_be_bytes.result in
    let four : 4 ≤ length xs = search rules in
    let h = grid (get_or xs 0 0) (get_or xs 1 0) s in
    let g = c.read_commands.new.reader.grid in
    let m = c.read_commands.new.reader.memory.now in
    let was = mapped_ok _ c.map_err.result c.read_commands.result c.in_ok-map_err.field-0 c.map_err.ensures.cases c.in_ok-map_err.was in
    let said : Run h (rest 4 xs) (λ cs. Holds cs g m) (Ok c.in_ok-map_err.field-0) =
    subst (λ (r : Result (Unit {0}) Stop). Run h (rest 4 xs) (λ cs. Holds cs g m) r) was c.read_commands.ensures.said in
    let accepts = accepts_from_ends (71 ∷ xs) (rest 4 xs) h g m
    (spelled_grid xs s four c.from_be_bytes.ensures (omega (arith, c.type_inv.operands 3)))
    (head_from_sized (get_or xs 0 0) (get_or xs 1 0) s (sym c.if-not-is_sized.ensures))
    c.read_commands.ensures.head said in
    let same = c.read_commands.ensures.same_slices in
    along _ (search rules) accepts

pub returns-in_err-map_err : goal.returns-in_err-map_err
returns-in_err-map_err c =
    let xs = c.args.operands.now in
    let s = c.from_be_bytes.result in
    let four : 4 ≤ length xs = search rules in
    let p = err_from_is_err_and c.from_residual.result c.from_residual.ensures.1 in
    let stop = mapped_err _ c.map_err.result (λ (e d : Stop). d ≡ record { fault = e.fault; at = 5 + e.at }) (λ e d k. search rules) c.read_commands.result c.in_err-map_err.field-0.0 c.map_err.ensures.cases c.in_err-map_err.was in
    let h = grid (get_or xs 0 0) (get_or xs 1 0) s in
    let said : Run h (rest 4 xs) (λ cs. Holds cs c.read_commands.new.reader.grid c.read_commands.new.reader.memory.now) (Err stop.0) =
    subst (λ (r : Result (Unit {0}) Stop). Run h (rest 4 xs) (λ cs. Holds cs c.read_commands.new.reader.grid c.read_commands.new.reader.memory.now) r) stop.1 c.read_commands.ensures.said in
    let opened = refused_from_fails (71 ∷ xs) (rest 4 xs) h (fault_number stop.0.fault) stop.0.at (5 + stop.0.at)
    (spelled_grid xs s four c.from_be_bytes.ensures (omega (arith, c.type_inv.operands 3)))
    (head_from_sized (get_or xs 0 0) (get_or xs 1 0) s (sym c.if-not-is_sized.ensures))
    said.1 refl in
    rw (p.1, p.2, stop.2) opened
