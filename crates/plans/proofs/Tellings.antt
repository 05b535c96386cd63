-- A plan's view answers as its commands say, at every point, lane number and aim.
use Rattle.std.proofs.Common.{◌≡◌, ℕ, List}
use Rattle.plans.specs.declared.plan.Plan.{Plan}
use Rattle.plans.specs.declared.plan.Plan.TheVariants as kind
use Rattle.plans.specs.Plans.{Command}
use Rattle.plans.specs.Meanings.{site_of}
use Rattle.plans.specs.Holdings.{head_of, Tells, plan_site}
use Rattle.plans.proofs.GridTellings.{grid_tells}
use Rattle.plans.proofs.RoadTellings.{road_tells}

pub plan_tells : (cs : List Command) (p : Plan) (m : List ℕ) → Tells cs p m → plan_site p m ≡ site_of (head_of p) cs
plan_tells cs (kind.Grid g) m t = grid_tells cs g m t
plan_tells cs (kind.Road r) m t = road_tells cs r m t
