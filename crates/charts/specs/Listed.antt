-- What a list says of the runs. Assumes nothing.
-- Here m is the map, G the kind of classes, el what a class value means, k the kind of costs.
--     Names zs g           one of the list has the class g
--     Before x y           x is cheaper than y, or as cheap and of an earlier class
--     Lists m reel cable p zs  zs has the classes of the runs from the reel to p within the cable, each once, at the cost of its cheapest run, by cost and then by class
--     ListsTruly b c o xs p to r   if the counted places of xs are a finished chart of any map, for its reel, its aim and any cable, then what was listed lists so
use Rattle.std.specs.Prelude.{◌≡◌, ℕ, ◌<◌, ◌⊎◌, List, length, take, Some, Ok, Option, Result, slice_index_or}
use Rattle.std.specs.declared.cmp.Ordering.TheVariants.{Less}
use Rattle.std.specs.List.{ContainsAt as Has, AllByRecursion}
use Rattle.kinds.specs.declared.refusal.Refusal.{Refusal}
use Rattle.kinds.specs.declared.class.Class.{Ghosts as Classes}
use Rattle.kinds.specs.declared.cost.Cost.{Ghosts as Costs}
use Rattle.kinds.specs.Maps.{Site, LawfulEstimates}
use Rattle.kinds.specs.Classes.{ClassKind}
use Rattle.kinds.specs.Costs.{CostKind}
use Rattle.kinds.specs.Reaches.{Cheapest, Lies}
use Rattle.charts.specs.declared.chart.Pair.{Pair}
use Rattle.charts.specs.declared.chart.Chart.{Chart}
use Rattle.charts.specs.declared.chart.Priced.{Priced}
use Rattle.charts.specs.Charts.{Finished}

module _ {C K : Type 0} (G : ClassKind) (el : C → G.Element) (k : CostKind K) where
  abbrev pub Names : List (Priced C K) → G.Element → Type 0
  Names zs g = (x : Priced C K) × Has zs x × (el x.class ≡ g)

  abbrev pub Before : Priced C K → Priced C K → Type 0
  Before x y = (k.order.cmp x.cost y.cost ≡ Less) ⊎ ((x.cost ≡ y.cost) × (G.order.cmp (el x.class) (el y.class) ≡ Less))

  pub record Lists (m : Site) (reel cable p : ℕ) (zs : List (Priced C K)) : Type 0 where
    pub sound : (g : G.Element) → Names zs g → Lies m G k reel cable p g
    pub complete : (g : G.Element) → Lies m G k reel cable p g → Names zs g
    pub sorted : (i j : ℕ) (d : Priced C K) → i < j → j < length zs → Before (slice_index_or zs i d) (slice_index_or zs j d)
    pub cheapest : AllByRecursion (λ x. Cheapest m G k reel p (el x.class) x.cost) zs

abbrev pub ListsTruly : {C K : Type 0} → Classes C → Costs K → Option Chart → List (Pair C K) → ℕ → List (Priced C K) → Result ℕ Refusal → Type 0
ListsTruly b c o xs p to r =
    (m : Site) (h : Chart) (cable n : ℕ) → LawfulEstimates m → o ≡ Some h → Finished m b.kind b.element c.costs h.reel h.aim cable (take h.pairs xs) → r ≡ Ok n →
    Lists b.kind b.element c.costs m h.reel cable p (take n to)
