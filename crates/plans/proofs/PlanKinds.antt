-- What reading answers of a whole plan, from what is read behind its first letter.
use Rattle.std.proofs.Common.{◌≡◌, ℕ, List, ◌∷◌, Some, sym, subst}
use Rattle.kinds.specs.declared.refusal.Refusal.{Refusal}
use Rattle.kinds.specs.Refusals.{number_of, offset_of}
use Rattle.plans.specs.declared.plan.Grid.{Grid}
use Rattle.plans.specs.declared.plan.Road.{Road}
use Rattle.plans.specs.declared.plan.Plan.TheVariants as kind
use Rattle.plans.specs.declared.fault.Stop.{Stop}
use Rattle.plans.specs.Plans.{Reads, accepted, refused, road}
use Rattle.plans.specs.Faults.{fault_number}
use Rattle.plans.specs.GridPlans.{head_of}
use Rattle.plans.specs.GridPlans as grids
use Rattle.plans.specs.RoadPlans as roads
use Rattle.plans.specs.Readings.{Accepted, RefusedAs}
use Rattle.plans.proofs.RoadReadings.{road_told}
use Rattle.plans.proofs.Tellings.{plan_tells}

module _ (xs ops : List ℕ) (b : ℕ) (front : xs ≡ b ∷ ops) where
  pub grid_accepted : (g : Grid) (m : List ℕ) → grids.Accepts (b ∷ ops) g m → Accepted xs (kind.Grid g) m
  grid_accepted g m a = record {
    commands = a.commands;
    reads = subst (λ ys. Reads ys (accepted (head_of g) a.commands)) (sym front) a.reads;
    tells = a.tells;
    maps = plan_tells a.commands (kind.Grid g) m a.tells;
  }

  pub road_accepted : (r : Road) (m : List ℕ) → roads.Accepts (b ∷ ops) r m → Accepted xs (kind.Road r) m
  road_accepted r m a =
      let told = road_told a.commands r m a.tells in
      record {
        commands = a.commands;
        reads = subst (λ ys. Reads ys (accepted road a.commands)) (sym front) a.reads;
        tells = told;
        maps = plan_tells a.commands (kind.Road r) m told;
      }

  pub stop_refused : (e : Stop) (r : Refusal) → Reads (b ∷ ops) (refused (fault_number e.fault) e.at) → number_of r ≡ fault_number e.fault → offset_of r ≡ Some e.at → RefusedAs xs r
  stop_refused e r h n o =
      (e.at, o, subst (λ ys. Reads ys (refused (number_of r) e.at)) (sym front) (subst (λ k. Reads (b ∷ ops) (refused k e.at)) (sym n) h))
