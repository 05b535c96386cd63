use Rattle.plans.proofs.road_plan.RoadReader.point_of.Goals as goal

pub returns-in_err-find : goal.returns-in_err-find
returns-in_err-find c = rw c.from_residual.ensures c.in_err-find.ensures.exact
