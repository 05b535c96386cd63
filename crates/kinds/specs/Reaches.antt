-- The runs from a reel within a cable. Assumes nothing.
--     RunsAt m G k reel p g c          some run from the reel ends at the point p with the class g, at the cost c
--     Cheapest m G k reel p g c        c is the cost of the cheapest run from the reel to p with the class g
--     tail m k aim p                   what is still to come at p: the cost of the estimate to the aim, with risk 0; zero without an aim
--     Within m k aim cable p c         a run to p at the cost c, with the tail at p, is within the cable
--     Reach m G k reel aim cable p g   the pair of p and g is in the reach: some run to it, with the tail at p, is within the cable
--     Lies m G k reel cable p g        some run from the reel to p within the cable has the class g
use Rattle.std.specs.Prelude.{◌≡◌, ℕ, List, Some, None, Option}
use Rattle.kinds.specs.declared.lane.Lane.{Lane}
use Rattle.kinds.specs.Orders.{Under}
use Rattle.kinds.specs.Maps.{Site}
use Rattle.kinds.specs.Classes.{ClassKind}
use Rattle.kinds.specs.Costs.{CostKind}
use Rattle.kinds.specs.Runs.{Run, class_of, cost_of}

abbrev pub RunsAt : {K : Type 0} → Site → (G : ClassKind) → CostKind K → ℕ → ℕ → G.Element → K → Type 0
RunsAt m G k reel p g c = (ns : List ℕ) × (ls : List Lane) × Run m reel ns ls p × (class_of G ls ≡ g) × (cost_of k ls ≡ c)

abbrev pub Cheapest : {K : Type 0} → Site → (G : ClassKind) → CostKind K → ℕ → ℕ → G.Element → K → Type 0
Cheapest {K} m G k reel p g c = RunsAt m G k reel p g c × ((d : K) → RunsAt m G k reel p g d → Under k.order c d)

abbrev pub tail : {K : Type 0} → Site → CostKind K → Option ℕ → ℕ → K
tail m k None p = k.zero
tail m k (Some a) p = k.of (m.estimate p a) 0

abbrev pub Within : {K : Type 0} → Site → CostKind K → Option ℕ → ℕ → ℕ → K → Type 0
Within m k aim cable p c = Under k.order (k.plus c (tail m k aim p)) (k.limit cable)

abbrev pub Reach : {K : Type 0} → Site → (G : ClassKind) → CostKind K → ℕ → Option ℕ → ℕ → ℕ → G.Element → Type 0
Reach {K} m G k reel aim cable p g = (c : K) × RunsAt m G k reel p g c × Within m k aim cable p c

abbrev pub Lies : {K : Type 0} → Site → (G : ClassKind) → CostKind K → ℕ → ℕ → ℕ → G.Element → Type 0
Lies {K} m G k reel cable p g = (c : K) × RunsAt m G k reel p g c × Under k.order c (k.limit cable)
