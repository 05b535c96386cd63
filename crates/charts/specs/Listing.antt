-- The list at a point. Assumes nothing.
-- Here b is what classes mean and c what costs are.
--     is_at p x            the test whether the pair x is at the point p
--     priced x             the class of the pair x, with its cost
--     priced_at p xs       those of the pairs of xs at p, in their order
--     Filled b c xs p from to n    the list, which was `from`, is `to`: its first n places hold what is at p in xs, by cost and then by class, and the others are as they were
--     ListsIn b c xs p from to r   r is how many were listed; or the list is too short for them, and as it was
--     ListsAt b c o xs p from to r  r is that of the counted places of xs, if the chart with the head o may be asked at p; or why it may not, and the list is as it was
use Rattle.std.specs.Prelude.{◌≡◌, ℕ, ◌<◌, Bool, List, map, length, take, drop, Ok, Err, filter, Option, Result, MatchResult, ◌==◌}
use Rattle.std.specs.List.Sorted.{IsPermutation}
use Rattle.kinds.specs.declared.refusal.Refusal.{Refusal}
use Rattle.kinds.specs.declared.refusal.Refusal.TheVariants.{TooShort}
use Rattle.kinds.specs.declared.class.Class.{Ghosts as Classes}
use Rattle.kinds.specs.declared.cost.Cost.{Ghosts as Costs}
use Rattle.tables.specs.Queues.{Ascending}
use Rattle.charts.specs.declared.chart.Pair.{Pair}
use Rattle.charts.specs.declared.chart.Chart.{Chart}
use Rattle.charts.specs.declared.chart.Priced.{Priced}
use Rattle.charts.specs.Asking.{asked_at}
use Rattle.charts.specs.Ranks.{by_cost}

abbrev pub is_at : {C K : Type 0} → ℕ → Pair C K → Bool
is_at p x = x.point == p

abbrev pub priced : {C K : Type 0} → Pair C K → Priced C K
priced x = record { class = x.class; cost = x.cost }

abbrev pub priced_at : {C K : Type 0} → ℕ → List (Pair C K) → List (Priced C K)
priced_at p xs = map priced (filter (is_at p) xs)

module _ {C K : Type 0} (b : Classes C) (c : Costs K) where
  pub record Filled (xs : List (Pair C K)) (p : ℕ) (from to : List (Priced C K)) (n : ℕ) : Type 0 where
    pub count : n ≡ length (priced_at p xs)
    pub items : IsPermutation (priced_at p xs) (take n to)
    pub ascends : Ascending (by_cost b c) (take n to)
    pub rest : drop n to ≡ drop n from

  abbrev pub ListsIn : List (Pair C K) → ℕ → List (Priced C K) → List (Priced C K) → Result ℕ Refusal → Type 0
  ListsIn xs p from to (Ok n) = Filled xs p from to n
  ListsIn xs p from to (Err e) = (e ≡ TooShort) × (length from < length (priced_at p xs)) × (to ≡ from)

  abbrev pub ListsAt : Option Chart → List (Pair C K) → ℕ → List (Priced C K) → List (Priced C K) → Result ℕ Refusal → Type 0
  ListsAt o xs p from to r =
      MatchResult (asked_at o (length xs) p) (λ h. ListsIn (take h.pairs xs) p from to r) (λ e. (r ≡ Err e) × (to ≡ from))
