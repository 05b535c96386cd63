-- How the open pairs wait. Assumes nothing.
-- Open are the pairs at the places from t to below n of xs; the slots name places; ws are the records that wait.
--     waiting_at s ws            how many of ws have the slot s
--     Serves .. xs slots w e     the record w stands for the place e: its slot names e, and it has the present cost and bound of the pair there
--     Waits .. xs slots ws t n   each open pair waits, in one record that serves it, and nothing else does
use Rattle.std.specs.Prelude.{◌≡◌, ℕ, ◌+◌, ◌<◌, ◌≤◌, List, length, count_by, Option, nat_eq}
use Rattle.std.specs.List.{ContainsAt as Has, AllByRecursion}
use Rattle.kinds.specs.Maps.{Site}
use Rattle.kinds.specs.Costs.{CostKind}
use Rattle.kinds.specs.Reaches.{tail}
use Rattle.tables.specs.Indexes.{Names}
use Rattle.charts.specs.declared.chart.Pair.{Pair}
use Rattle.charts.specs.Charts.{Stands}
use Rattle.steps.specs.declared.open.Open.{Open}

abbrev pub waiting_at : {K : Type 0} → ℕ → List (Open K) → ℕ
waiting_at s ws = count_by (λ w. nat_eq w.slot s) ws

module _ {C K : Type 0} (m : Site) (k : CostKind K) (aim : Option ℕ) (xs : List (Pair C K)) (slots : List ℕ) where
  pub record Serves (w : Open K) (e : ℕ) : Type 0 where
    pub names : Names slots w.slot e
    pub priced : (x : Pair C K) → Stands xs e x → (w.cost ≡ x.cost) × (w.bound ≡ k.plus x.cost (tail m k aim x.point))

  pub record Waits (ws : List (Open K)) (t n : ℕ) : Type 0 where
    pub each : AllByRecursion (λ w. (e : ℕ) × (t ≤ e) × (e < n) × Serves w e) ws
    pub once : (s : ℕ) → waiting_at s ws ≤ 1
    pub all : (e : ℕ) → t ≤ e → e < n → (w : Open K) × Has ws w × Names slots w.slot e
    pub count : t + length ws ≡ n
