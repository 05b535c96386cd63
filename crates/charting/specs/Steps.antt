-- What the steps of a search do to its memory. Assumes nothing.
--     Swaps xs ys i j             ys is xs with the places i and j swapped
--     Adds .. n v bound xs slots ws ys slots' vs   the pair v stands at the place n, a slot that was vacant names it, and it waits at its cost with that bound
--     Lowers .. s x ws vs         the record x waits in the place of one with the slot s
use Rattle.std.specs.Prelude.{◌≡◌, ℕ, ◌<◌, List, length, Ok, ◌≢◌, slice_index_or, slice_set}
use Rattle.kinds.specs.declared.class.Class.{Ghosts as Classes}
use Rattle.kinds.specs.declared.cost.Cost.{Ghosts as Costs}
use Rattle.tables.specs.Indexes.{Inserts, Keeps}
use Rattle.tables.specs.Queues.{Pushed, Lowered}
use Rattle.charts.specs.declared.chart.Pair.{Pair}
use Rattle.charts.specs.Charts.{Stands}
use Rattle.steps.specs.declared.open.Open.{Open}
use Rattle.steps.specs.Opens.{by_bound}
use Rattle.steps.specs.Keys.{pair_keys, pair_of}

pub record Swaps {X : Type 0} (xs ys : List X) (i j : ℕ) : Type 0 where
  pub long : length ys ≡ length xs
  pub first : (d : X) → slice_index_or ys i d ≡ slice_index_or xs j d
  pub second : (d : X) → slice_index_or ys j d ≡ slice_index_or xs i d
  pub others : (e : ℕ) (d : X) → (e ≢ i) → (e ≢ j) → slice_index_or ys e d ≡ slice_index_or xs e d

module _ {C K : Type 0} (b : Classes C) (c : Costs K) where
  pub record Adds (n : ℕ) (v : Pair C K) (bound : K) (xs : List (Pair C K)) (slots : List ℕ) (ws : List (Open K)) (ys : List (Pair C K)) (slots' : List ℕ) (vs : List (Open K)) : Type 0 where
    pub places : ys ≡ slice_set xs n v
    pub slot : ℕ
    pub inserts : Inserts ((pair_keys b).hash (pair_of b v)) n slots slots' (Ok slot)
    pub keeps : Keeps (pair_keys b) (pair_of b v) n slots slots'
    pub waits : Pushed (by_bound c.costs) ws (record { bound = bound; cost = v.cost; slot = slot }) vs

module _ {K : Type 0} (c : Costs K) where
  pub record Lowers (s : ℕ) (x : Open K) (ws vs : List (Open K)) : Type 0 where
    pub at : ℕ
    pub old : Open K
    pub within : at < length ws
    pub stands : Stands ws at old
    pub slot : old.slot ≡ s
    pub lowered : Lowered (by_bound c.costs) ws at x vs
