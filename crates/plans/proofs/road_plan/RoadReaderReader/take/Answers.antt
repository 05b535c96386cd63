use Rattle.std.proofs.Common.{◌≡◌, ◌∷◌, ◌++◌, refl, ap, inl, inr, arith}
use Rattle.std.proofs.lemmas.Result.{err_from_is_err_and}
use Rattle.plans.specs.Faults.{fault_number}
use Rattle.plans.specs.Plans.{road, Command, point, join, spell}
use Rattle.plans.proofs.Faults.{fault_short, fault_judged}
use Rattle.plans.proofs.road_plan.RoadReaderReader.take.Goals as goal

pub returns-in_err-survey-in-80-clause-said : goal.returns-in_err-survey-in-80-clause-said
returns-in_err-survey-in-80-clause-said c =
    let p = err_from_is_err_and c.from_residual.result c.from_residual.ensures.1 in
    let wrong = c.in_err-survey-in-80.ensures in
    rw (p.1, p.2, wrong.0, c.in-80.is) (omega arith, λ cs h. fault_short road cs 80 4 c.args.operands.now (inl (refl, refl)) wrong.1)

pub returns-in_err-add_point-in-80-clause-said : goal.returns-in_err-add_point-in-80-clause-said
returns-in_err-add_point-in-80-clause-said c =
    let p = err_from_is_err_and c.from_residual-in_err-add_point-in-80.result c.from_residual-in_err-add_point-in-80.ensures.1 in
    let f = c.in_err-add_point-in-80.field-0.0 in
    let x : Command = point c.in_ok-survey-in-80.survey in
    let next = c.in_ok-survey-in-80.next.now in
    let spelled : 80 ∷ c.args.operands.now ≡ spell x ++ next = ap (λ ys. 80 ∷ ys) c.in_ok-survey-in-80.ensures in
    rw (p.1, p.2, c.in-80.is)
    (omega arith, λ cs h. fault_judged road cs (80 ∷ c.args.operands.now) x next (fault_number f) spelled tt (c.in_err-add_point-in-80.ensures.said cs h))

pub returns-in_err-join-in-65-clause-said : goal.returns-in_err-join-in-65-clause-said
returns-in_err-join-in-65-clause-said c =
    let p = err_from_is_err_and c.from_residual-in_err-join-in-65.result c.from_residual-in_err-join-in-65.ensures.1 in
    let wrong = c.in_err-join-in-65.ensures in
    rw (p.1, p.2, wrong.0, c.in-65.is) (omega arith, λ cs h. fault_short road cs 65 12 c.args.operands.now (inr (refl, refl)) wrong.1)

pub returns-in_err-add_lane-in-65-clause-said : goal.returns-in_err-add_lane-in-65-clause-said
returns-in_err-add_lane-in-65-clause-said c =
    let p = err_from_is_err_and c.from_residual-in_err-add_lane-in-65.result c.from_residual-in_err-add_lane-in-65.ensures.1 in
    let f = c.in_err-add_lane-in-65.field-0.0 in
    let a = c.in_ok-join-in-65.join in
    let x : Command = join a.first a.second a.length a.risk a.crossing in
    let next = c.in_ok-join-in-65.next.now in
    rw (p.1, p.2, c.in-65.is)
    (omega arith, λ cs h. fault_judged road cs (65 ∷ c.args.operands.now) x next (fault_number f) c.in_ok-join-in-65.ensures tt (c.in_err-add_lane-in-65.ensures.said cs h))
