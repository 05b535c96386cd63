-- What a run that was written says of the map. Assumes nothing.
-- Here m is the map, G the kind of classes, k the kind of costs.
--     stops p ls                        the points of a run from p along the lanes ls: p, and the end of each lane
--     Laid m G k reel cable p g qs      some run from the reel to p through the points qs has the class g, is as cheap as any such, and lies within the cable
--     LaysTruly b c o xs p a to r       if the counted places of xs are a finished chart of any map, for its reel, its aim and any cable, then what was written is laid so for the class a;
--                                       and if no run was found, no run from the reel to p within the cable has that class
use Rattle.std.specs.Prelude.{◌≡◌, ℕ, List, ◌∷◌, map, take, Some, Ok, Err, Option, Result}
use Rattle.kinds.specs.declared.lane.Lane.{Lane}
use Rattle.kinds.specs.declared.refusal.Refusal.{Refusal}
use Rattle.kinds.specs.declared.refusal.Refusal.TheVariants.{NoRun}
use Rattle.kinds.specs.declared.class.Class.{Ghosts as Classes}
use Rattle.kinds.specs.declared.cost.Cost.{Ghosts as Costs}
use Rattle.kinds.specs.Orders.{Under}
use Rattle.kinds.specs.Maps.{Site, Lawful}
use Rattle.kinds.specs.Classes.{ClassKind}
use Rattle.kinds.specs.Costs.{CostKind}
use Rattle.kinds.specs.Runs.{Run, class_of, cost_of}
use Rattle.kinds.specs.Reaches.{Cheapest, Lies}
use Rattle.charts.specs.declared.chart.Pair.{Pair}
use Rattle.charts.specs.declared.chart.Chart.{Chart}
use Rattle.charts.specs.Charts.{Finished}

abbrev pub stops : ℕ → List Lane → List ℕ
stops p ls = p ∷ map (λ l. l.to) ls

abbrev pub Laid : {K : Type 0} → Site → (G : ClassKind) → CostKind K → ℕ → ℕ → ℕ → G.Element → List ℕ → Type 0
Laid m G k reel cable p g qs =
    (ns : List ℕ) × (ls : List Lane) × Run m reel ns ls p × (class_of G ls ≡ g) × (stops reel ls ≡ qs)
    × Cheapest m G k reel p g (cost_of k ls) × Under k.order (cost_of k ls) (k.limit cable)

abbrev pub LaysTruly : {C K : Type 0} → Classes C → Costs K → Option Chart → List (Pair C K) → ℕ → C → List ℕ → Result ℕ Refusal → Type 0
LaysTruly b c o xs p a to r =
    (m : Site) (h : Chart) (cable : ℕ) → Lawful m → o ≡ Some h → Finished m b.kind b.element c.costs h.reel h.aim cable (take h.pairs xs) →
    ((n : ℕ) → r ≡ Ok n → Laid m b.kind c.costs h.reel cable p (b.element a) (take n to))
    × (r ≡ Err NoRun → Lies m b.kind c.costs h.reel cable p (b.element a) → ⊥)
