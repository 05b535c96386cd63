use Rattle.std.proofs.Common.{◌≡◌, ◌≤◌, ◌∷◌, length, Some, Result, subst, arith, rules}
use Rattle.std.proofs.lemmas.Result.{err_from_is_err_and, MatchResult-at_ok, MatchResult-at_err}
use Rattle.kinds.specs.declared.refusal.Refusal.{Refusal}
use Rattle.kinds.specs.Refusals.{number_of, offset_of}
use Rattle.plans.specs.declared.plan.Grid.{Grid}
use Rattle.plans.specs.declared.fault.Stop.{Stop}
use Rattle.plans.specs.GridPlans.{Opened}
use Rattle.plans.specs.Faults.{fault_number}
use Rattle.plans.proofs.Fronts.{rest, front_letter}
use Rattle.plans.proofs.Mapped.{mapped_err, mapped_ok}
use Rattle.plans.proofs.PlanKinds.{grid_accepted, road_accepted, stop_refused}
use Rattle.plans.proofs.reading.read_kind.Goals as goal

-- a stop in reading is refused as it says
abbrev Refuses : Stop → Refusal → Type 0
Refuses e r = (number_of r ≡ fault_number e.fault) × (offset_of r ≡ Some e.at)

pub returns-in_err-map_err-in-G-clause-said : goal.returns-in_err-map_err-in-G-clause-said
returns-in_err-map_err-in-G-clause-said c =
    let xs = c.args.bytes.now in
    let one : 1 ≤ length xs = search rules in
    let p = err_from_is_err_and c.from_residual.result c.from_residual.ensures.1 in
    let r = c.in_err-map_err-in-G.field-0.0 in
    let stop = mapped_err _ c.map_err.result Refuses (λ e d k. search rules) c.read_grid.result r c.map_err.ensures.cases c.in_err-map_err-in-G.was in
    let reads = subst (λ (s : Result Grid Stop). Opened (71 ∷ rest 1 xs) c.read_grid.new.memory s) stop.1 c.read_grid.ensures in
    rw (p.1, p.2) (stop_refused xs (rest 1 xs) 71 (front_letter xs 71 one (omega arith)) stop.0 r reads stop.2.0 stop.2.1)

pub returns-in_err-map_err-in-M-clause-said : goal.returns-in_err-map_err-in-M-clause-said
returns-in_err-map_err-in-M-clause-said c =
    let xs = c.args.bytes.now in
    let one : 1 ≤ length xs = search rules in
    let p = err_from_is_err_and c.from_residual-in_err-map_err-in-M.result c.from_residual-in_err-map_err-in-M.ensures.1 in
    let r = c.in_err-map_err-in-M.field-0.0 in
    let stop = mapped_err _ c.map_err-in-M.result Refuses (λ e d k. search rules) c.read_road.result r c.map_err-in-M.ensures.cases c.in_err-map_err-in-M.was in
    rw (p.1, p.2) (stop_refused xs (rest 1 xs) 77 (front_letter xs 77 one (omega arith)) stop.0 r (MatchResult-at_err _ _ stop.0 stop.1 c.read_road.ensures.said) stop.2.0 stop.2.1)

pub returns-in_ok-map_err-in-G-clause-said : goal.returns-in_ok-map_err-in-G-clause-said
returns-in_ok-map_err-in-G-clause-said c =
    let xs = c.args.bytes.now in
    let one : 1 ≤ length xs = search rules in
    let g = c.in_ok-map_err-in-G.field-0 in
    let was = mapped_ok _ c.map_err.result c.read_grid.result g c.map_err.ensures.cases c.in_ok-map_err-in-G.was in
    let accepts = subst (λ (s : Result Grid Stop). Opened (71 ∷ rest 1 xs) c.read_grid.new.memory s) was c.read_grid.ensures in
    grid_accepted xs (rest 1 xs) 71 (front_letter xs 71 one (omega arith)) g c.read_grid.new.memory accepts

pub returns-in_ok-map_err-in-M-clause-said : goal.returns-in_ok-map_err-in-M-clause-said
returns-in_ok-map_err-in-M-clause-said c =
    let xs = c.args.bytes.now in
    let one : 1 ≤ length xs = search rules in
    let r = c.in_ok-map_err-in-M.field-0 in
    let was = mapped_ok _ c.map_err-in-M.result c.read_road.result r c.map_err-in-M.ensures.cases c.in_ok-map_err-in-M.was in
    road_accepted xs (rest 1 xs) 77 (front_letter xs 77 one (omega arith)) r c.read_road.new.memory (MatchResult-at_ok _ _ r was c.read_road.ensures.said)
