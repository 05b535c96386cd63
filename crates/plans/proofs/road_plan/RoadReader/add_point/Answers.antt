use Rattle.std.proofs.Common.{◌≡◌, ℕ, ◌<◌, true, false, sym, refl, ◌∙◌, inl, inr, arith, rules}
use Rattle.plans.specs.Plans.{Surveyed}
use Rattle.plans.specs.Surveys.{survey_at}
use Rattle.plans.proofs.RoadSurveys.{length_surveys}
use Rattle.plans.proofs.RoadHoldings.{some_found, none_found, surveyed_found, unsurveyed_absent, holds_point}
use Rattle.plans.proofs.road_plan.RoadReader.add_point.Goals as goal

pub returns-then-is_some-clause-said : goal.returns-then-is_some-clause-said
returns-then-is_some-clause-said c cs h =
    let m = c.args.self.now.memory.now in
    let slots = c.args.self.now.slots.now in
    let counts = c.args.self.now.road in
    let n = c.args.survey in
    let found = some_found (survey_at m counts.points) slots n c.point_of.result c.point_of.ensures (sym c.is_some.ensures ∙ c.if-is_some.true) in
    inr (inl (tt, (λ fresh. fresh (surveyed_found cs counts m slots h found.0 n found.1)), refl))

pub returns-then-not-has_point_room-clause-said : goal.returns-then-not-has_point_room-clause-said
returns-then-not-has_point_room-clause-said c cs h =
    let m = c.args.self.now.memory.now in
    let slots = c.args.self.now.slots.now in
    let counts = c.args.self.now.road in
    let n = c.args.survey in
    let none = none_found (survey_at m counts.points) slots n c.point_of.result c.point_of.ensures (sym c.is_some.ensures ∙ c.if-is_some.false) in
    inr (inr (inr (
      tt,
      unsurveyed_absent cs counts m slots h n none,
      tt,
      (λ room.
          let few : counts.points < 512 = omega (arith, h.counted, length_surveys cs) in
          let z : false ≡ true = sym c.if-not-has_point_room.true ∙ c.has_point_room.ensures.1 few in
          let y : ◌≡◌ {A = ℕ} 0 1 = cc in omega arith),
      refl,
    )))

pub returns-clause-said : goal.returns-clause-said
returns-clause-said c cs h =
    let m = c.args.self.now.memory.now in
    let slots = c.args.self.now.slots.now in
    let counts = c.args.self.now.road in
    let n = c.args.survey in
    let to = c.enter_point.new.slots in
    let none = none_found (survey_at m counts.points) slots n c.point_of.result c.point_of.ensures (sym c.is_some.ensures ∙ c.if-is_some.false) in
    let fresh : Surveyed cs n → ⊥ = unsurveyed_absent cs counts m slots h n none in
    let few : counts.points < 512 = c.has_point_room.ensures.0 c.if-not-has_point_room.false in (
      (tt, tt, fresh, tt, omega (arith, h.counted, length_surveys cs)),
      holds_point cs counts m slots h n _ to (search rules) fresh few c.enter_point.ensures.placed c.enter_point.ensures.kept,
    )
