-- Looking a pair up. Assumes nothing.
-- Here b is what classes mean.
--     IsPair b p g x       x is the pair of the point p with the class g
--     is_pair b p g x      the test whether it is
--     Matches b p c x      x is the pair of the point p with the class that c means
--     matches b p c x      the test whether it is
--     Nowhere b xs p c     no place of xs has that pair
--     FirstAt b xs p c i   the place i of xs is the first that has it
--     Finds b xs p c o     o is the first place of xs that has it, or none if no place has
use Rattle.std.specs.Prelude.{◌≡◌, ℕ, ◌<◌, Bool, false, cond, List, length, Some, None, Option, ◌==◌}
use Rattle.std.specs.Ordering.{is_eq}
use Rattle.kinds.specs.declared.class.Class.{Ghosts as Classes}
use Rattle.charts.specs.declared.chart.Pair.{Pair}
use Rattle.charts.specs.Charts.{Stands}

module _ {C K : Type 0} (b : Classes C) where
  abbrev pub IsPair : ℕ → b.kind.Element → Pair C K → Type 0
  IsPair p g x = (x.point ≡ p) × (b.element x.class ≡ g)

  abbrev pub is_pair : ℕ → b.kind.Element → Pair C K → Bool
  is_pair p g x = cond (x.point == p) (is_eq (b.kind.order.cmp (b.element x.class) g)) false

  abbrev pub Matches : ℕ → C → Pair C K → Type 0
  Matches p c = IsPair p (b.element c)

  abbrev pub matches : ℕ → C → Pair C K → Bool
  matches p c = is_pair p (b.element c)

  abbrev pub Nowhere : List (Pair C K) → ℕ → C → Type 0
  Nowhere xs p c = (j : ℕ) (x : Pair C K) → j < length xs → Stands xs j x → Matches p c x → ⊥

  pub record FirstAt (xs : List (Pair C K)) (p : ℕ) (c : C) (i : ℕ) : Type 0 where
    pub below : i < length xs
    pub holds : (x : Pair C K) → Stands xs i x → Matches p c x
    pub first : (j : ℕ) (x : Pair C K) → j < i → Stands xs j x → Matches p c x → ⊥

  abbrev pub Finds : List (Pair C K) → ℕ → C → Option ℕ → Type 0
  Finds xs p c None = Nowhere xs p c
  Finds xs p c (Some i) = FirstAt xs p c i
