use Rattle.std.proofs.Common.{◌≡◌, ℕ, ◌+◌, List, ◌∷◌, Ok, Err, Result, sym, refl, subst, rules}
use Rattle.std.proofs.lemmas.Result.{err_from_is_err_and}
use Rattle.plans.specs.declared.plan.Road.{Road}
use Rattle.plans.specs.declared.fault.Stop.{Stop}
use Rattle.plans.specs.Faults.{fault_number}
use Rattle.plans.specs.Plans.{road}
use Rattle.plans.specs.Steps.{Run}
use Rattle.plans.specs.RoadPlans.{Accepts}
use Rattle.plans.specs.RoadSteps.{Holds}
use Rattle.plans.proofs.Mapped.{mapped_err, mapped_ok}
use Rattle.plans.proofs.GridHeads.{refused_from_fails}
use Rattle.plans.proofs.RoadHoldings.{holds_none}
use Rattle.plans.proofs.RoadCommands.{accepts_road}
use Rattle.plans.proofs.road_plan.read_road.Goals as goal

pub read_commands-answer-requires : goal.read_commands-answer-requires
read_commands-answer-requires c = holds_none c.args.memory.now c.args.slots.now c.requires.zeroed c.requires.vacant

pub returns-in_err-map_err-clause-said : goal.returns-in_err-map_err-clause-said
returns-in_err-map_err-clause-said c =
    let xs = c.args.operands.now in
    let p = err_from_is_err_and c.from_residual.result c.from_residual.ensures.1 in
    let stop = mapped_err _ c.map_err.result (λ (e d : Stop). d ≡ record { fault = e.fault; at = 1 + e.at }) (λ e d k. search rules) c.read_commands-answer.result c.in_err-map_err.field-0.0 c.map_err.ensures.cases c.in_err-map_err.was in
    let r = c.read_commands-answer.new.reader in
    let said : Run road xs (λ cs. Holds cs r.road r.memory.now r.slots.now) (Err stop.0) =
    subst (λ (s : Result (Unit {0}) Stop). Run road xs (λ cs. Holds cs r.road r.memory.now r.slots.now) s) stop.1 c.read_commands-answer.ensures.said in
    let opened = refused_from_fails (77 ∷ xs) xs road (fault_number stop.0.fault) stop.0.at (1 + stop.0.at) refl tt said.1 refl in
    rw (p.1, p.2, stop.2) opened

along : {bytes m : List ℕ} {r : Road} (n : List ℕ) → n ≡ m → Accepts bytes r m → Accepts bytes r n
along {bytes} {m} {r} n e a = subst (λ (k : List ℕ). Accepts bytes r k) (sym e) a

pub returns-clause-said : goal.returns-clause-said
returns-clause-said c =
    let xs = c.args.operands.now in
    let was = mapped_ok _ c.map_err.result c.read_commands-answer.result c.in_ok-map_err.field-0 c.map_err.ensures.cases c.in_ok-map_err.was in
    let r = c.read_commands-answer.new.reader in
    let said : Run road xs (λ cs. Holds cs r.road r.memory.now r.slots.now) (Ok c.in_ok-map_err.field-0) =
    subst (λ (s : Result (Unit {0}) Stop). Run road xs (λ cs. Holds cs r.road r.memory.now r.slots.now) s) was c.read_commands-answer.ensures.said in
    let same = c.read_commands-answer.ensures.same_slices in
    along _ (search rules) (accepts_road xs r.road r.memory.now r.slots.now said)
