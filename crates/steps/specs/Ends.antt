-- What charting refuses before any search, and what it leaves when it ends. Assumes nothing.
--     NoAim m a                there is an aim, and it is no point of the map m
--     Pointless m q            the reel or the aim is no point of the map
--     Judged m q r             r refuses q for what is wrong with it, before any search: with 12, then 13; or nothing is wrong
--     headed m q n             the head of a chart of n pairs
--     or_too_large o           what is in o, or refusal 14
--     kept_by r, head_of m q r  how many places a chart keeps, and its head: none where it is refused
--     VacantPlace b c x        x is a vacant place: point 0, the unit, zero, no link
--     VacantRecord c w         w is a vacant queue place: zero and zero, slot 0
use Rattle.std.specs.Prelude.{◌≡◌, ℕ, ◌<◌, ◌≤◌, ◌⊎◌, Some, None, Ok, Err, Option, Result, ok_or}
use Rattle.std.specs.Result.{result_unwrap_or}
use Rattle.kinds.specs.declared.refusal.Refusal.{Refusal}
use Rattle.kinds.specs.declared.refusal.Refusal.TheVariants.{NoSuchPoint, CableTooLong, ReachTooLarge}
use Rattle.kinds.specs.Maps.{Site}
use Rattle.kinds.specs.declared.class.Class.{Ghosts as Classes}
use Rattle.kinds.specs.declared.cost.Cost.{Ghosts as Costs}
use Rattle.charts.specs.declared.chart.Pair.{Pair}
use Rattle.charts.specs.declared.chart.Chart.{Chart}
use Rattle.steps.specs.declared.asked.Asked.{Asked}
use Rattle.steps.specs.declared.open.Open.{Open}

abbrev pub NoAim : Site → Option ℕ → Type 0
NoAim m None = ⊥
NoAim m (Some p) = m.points ≤ p

abbrev pub Pointless : Site → Asked → Type 0
Pointless m q = (m.points ≤ q.reel) ⊎ NoAim m q.aim

-- what is wrong with q, before any search
pub data Judged (m : Site) (q : Asked) : Result (Unit {0}) Refusal → Type 0 where
  pointless : Pointless m q → Judged m q (Err NoSuchPoint)
  long : (Pointless m q → ⊥) → 1000000 < q.cable → Judged m q (Err CableTooLong)
  lawful : (Pointless m q → ⊥) → q.cable ≤ 1000000 → Judged m q (Ok tt)

abbrev pub headed : Site → Asked → ℕ → Chart
headed m q n = record { reel = q.reel; aim = q.aim; pairs = n; points = m.points }

abbrev pub or_too_large : {A : Type 0} → Option A → Result A Refusal
or_too_large o = ok_or o ReachTooLarge

abbrev pub kept_by : Result ℕ Refusal → ℕ
kept_by r = result_unwrap_or r 0

abbrev pub head_of : Site → Asked → Result ℕ Refusal → Option Chart
head_of m q (Ok n) = Some (headed m q n)
head_of m q (Err e) = None

module _ {C K : Type 0} (b : Classes C) (c : Costs K) where
  pub record VacantPlace (x : Pair C K) : Type 0 where
    pub point : x.point ≡ 0
    pub class : b.element x.class ≡ b.kind.unit
    pub cost : x.cost ≡ c.costs.zero
    pub link : x.link ≡ None

module _ {K : Type 0} (c : Costs K) where
  pub record VacantRecord (w : Open K) : Type 0 where
    pub bound : w.bound ≡ c.costs.zero
    pub cost : w.cost ≡ c.costs.zero
    pub slot : w.slot ≡ 0
