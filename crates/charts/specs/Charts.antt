-- What a finished chart holds. Assumes nothing.
-- Here m is the map, G the kind of classes, el what a class value means, k the kind of costs; the chart was asked for with a reel, an aim or none, and a cable.
--     Stands xs i x        x stands at the place i of xs
--     Is x p g             x is the pair of the point p with the class g
--     Holds xs p g         some place of xs is that pair
--     Sound xs             every pair is in the reach, at the cost of its cheapest run, and none comes twice
--     Precedes y x         some lane leads from y to x, and x costs what y costs and that lane
--     Linked before x      x is the reel with the unit and has no link; or it links to one of the places before it, which precedes it
--     Finished xs          xs are the pairs of the reach, each once, cheapest and linked
--     Apart ps             no pair comes twice in ps
--     Crowded n            the reach has more than n pairs
--     Unheld               the reach has a class that is not held
use Rattle.std.specs.Prelude.{◌≡◌, ℕ, ◌<◌, ◌⊎◌, List, [], ◌∷◌, length, get_or, take, Some, None, Option, ◌≢◌, slice_index_or}
use Rattle.kinds.specs.declared.lane.Lane.{Lane}
use Rattle.kinds.specs.Maps.{Site}
use Rattle.kinds.specs.Classes.{ClassKind, crossed}
use Rattle.kinds.specs.Costs.{CostKind}
use Rattle.kinds.specs.Reaches.{Cheapest, Reach}
use Rattle.charts.specs.declared.chart.Pair.{Pair}

abbrev pub Stands : {X : Type 0} → List X → ℕ → X → Type 0
Stands {X} xs i x = (d : X) → slice_index_or xs i d ≡ x

module _ {C K : Type 0} (m : Site) (G : ClassKind) (el : C → G.Element) (k : CostKind K) (reel : ℕ) (aim : Option ℕ) (cable : ℕ) where
  abbrev pub Is : Pair C K → ℕ → G.Element → Type 0
  Is x p g = (x.point ≡ p) × (el x.class ≡ g)

  abbrev pub Holds : List (Pair C K) → ℕ → G.Element → Type 0
  Holds [] p g = ⊥
  Holds (x ∷ xs) p g = Is x p g ⊎ Holds xs p g

  abbrev pub Sound : List (Pair C K) → Type 0
  Sound [] = Unit {0}
  Sound (x ∷ xs) =
      (Reach m G k reel aim cable x.point (el x.class))
      × Cheapest m G k reel x.point (el x.class) x.cost
      × (Holds xs x.point (el x.class) → ⊥)
      × Sound xs

  abbrev pub Precedes : Pair C K → Pair C K → Type 0
  Precedes y x =
      (n : ℕ) × (l : Lane) × (m.lane y.point n ≡ Some l) × (l.to ≡ x.point)
      × (G.mul (el y.class) (crossed G l.crossing) ≡ el x.class)
      × (k.plus y.cost (k.of l.length l.risk) ≡ x.cost)

  abbrev pub Linked : List (Pair C K) → Pair C K → Type 0
  Linked before x =
      (Is x reel G.unit × (x.link ≡ None))
      ⊎ ((Is x reel G.unit → ⊥) × ((j : ℕ) × (x.link ≡ Some j) × (j < length before) × ((d : Pair C K) → Precedes (slice_index_or before j d) x)))

  pub record Finished (xs : List (Pair C K)) : Type 0 where
    pub complete : (p : ℕ) (g : G.Element) → Reach m G k reel aim cable p g → Holds xs p g
    pub sound : Sound xs
    pub linked : (i : ℕ) (d : Pair C K) → i < length xs → Linked (take i xs) (slice_index_or xs i d)

  abbrev pub Apart : List (ℕ × G.Element) → Type 0
  Apart ps = (i j : ℕ) (d : ℕ × G.Element) → i < j → j < length ps → slice_index_or ps i d ≢ slice_index_or ps j d

  abbrev pub Crowded : ℕ → Type 0
  Crowded n =
      (ps : List (ℕ × G.Element)) × (n < length ps) × Apart ps
      × ((i : ℕ) (d : ℕ × G.Element) → i < length ps → Reach m G k reel aim cable (get_or ps i d).0 (get_or ps i d).1)

  abbrev pub Unheld : Type 0
  Unheld = (p : ℕ) × (g : G.Element) × Reach m G k reel aim cable p g × (G.Held g → ⊥)
