-- The commands of an accepted roadmap.
use Rattle.std.proofs.Common.{ℕ, List, ◌∷◌, ap, ◌∙◌, arith}
use Rattle.plans.specs.declared.plan.Road.{Road}
use Rattle.plans.specs.RoadPlans.{Accepts}
use Rattle.plans.specs.Plans.{road}
use Rattle.plans.specs.Steps.{Ends}
use Rattle.plans.specs.RoadSteps.{Holds}
use Rattle.plans.proofs.RoadSurveys.{length_surveys}

-- the commands behind the letter of a roadmap
pub accepts_road : (xs : List ℕ) (p : Road) (m slots : List ℕ) → Ends road xs (λ cs. Holds cs p m slots) → Accepts (77 ∷ xs) p m
accepts_road xs p m slots ends = record {
  commands = ends.commands;
  reads = (ap (λ ys. 77 ∷ ys) ends.begins.spelled, tt, ends.begins.good);
  tells = record {
    counted = ends.holds.counted ∙ length_surveys ends.commands;
    joined = ends.holds.joined;
    few_points = omega (arith, ends.holds.few_points, length_surveys ends.commands);
    few_lanes = ends.holds.few_lanes;
    laid = ends.holds.laid;
  };
}
