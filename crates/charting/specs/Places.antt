-- The chart while it is made: the places of a list. Assumes nothing.
use Rattle.std.specs.Prelude.{◌≡◌, ℕ, ◌<◌, ◌≤◌, ◌⊎◌, List, length, Some, None, Option}
use Rattle.kinds.specs.Maps.{Site}
use Rattle.kinds.specs.Classes.{ClassKind}
use Rattle.kinds.specs.Costs.{CostKind}
use Rattle.charts.specs.declared.chart.Pair.{Pair}
use Rattle.charts.specs.Charts.{Stands, Is, Precedes}
use Rattle.charting.specs.Searching.{Pairs, Searched}

-- the pairs at the places from a to below b
abbrev pub Span : {C K : Type 0} (G : ClassKind) → (C → G.Element) → List (Pair C K) → ℕ → ℕ → Pairs G.Element K
Span {C} {K} G el xs a b p g c =
    (i : ℕ) × (x : Pair C K) × (a ≤ i) × (i < b) × Stands xs i x × (x.point ≡ p) × (el x.class ≡ g) × (x.cost ≡ c)

-- no pair stands at two places below n
abbrev pub Distinct : {C K : Type 0} (G : ClassKind) → (C → G.Element) → List (Pair C K) → ℕ → Type 0
Distinct {C} {K} G el xs n =
    (i j : ℕ) (x y : Pair C K) → i < n → j < n → Stands xs i x → Stands xs j y → x.point ≡ y.point → el x.class ≡ el y.class → i ≡ j

module _ {C K : Type 0} (m : Site) (G : ClassKind) (el : C → G.Element) (k : CostKind K) (reel : ℕ) (aim : Option ℕ) (cable : ℕ) where
  -- the pair at the place j is the reel with the unit and has no link, or links to a settled place before it, which precedes it
  abbrev pub Links : List (Pair C K) → ℕ → ℕ → Pair C K → Type 0
  Links xs t j x =
      (Is m G el k reel aim cable x reel G.unit × (x.link ≡ None))
      ⊎ ((Is m G el k reel aim cable x reel G.unit → ⊥)
      × ((h : ℕ) × (y : Pair C K) × (x.link ≡ Some h) × (h < j) × (h < t) × Stands xs h y × Precedes m G el k reel aim cable y x))

  -- below s the pairs are settled and closed, from s to t settled and closed below the lane number i, from t to n open
  pub record Progress (xs : List (Pair C K)) (s t i n : ℕ) : Type 0 where
    pub settled : s ≤ t
    pub found : t ≤ n
    pub room : n ≤ length xs
    pub searched : Searched m G k reel aim cable (Span G el xs 0 s) (Span G el xs s t) i (Span G el xs t n)
    pub distinct : Distinct G el xs n
    pub linked : (j : ℕ) (x : Pair C K) → j < n → Stands xs j x → Links xs t j x
