-- The refusals that come before a chart is read. Assumes nothing.
-- Here o is the head of the chart or none, and n the number of places.
--     covering a p          the test whether a chart with the aim a covers the point p
--     on_ok r f             what f answers to the value in r; a refusal stays
--     standing_of o n       the head, unless no chart stands or it counts more than n pairs
--     whole_of o n          the same, if the chart is not aimed
--     asked_at o n p        the same, if p is a point and the chart covers it
use Rattle.std.specs.Prelude.{ℕ, Bool, true, cond, is_some, Some, None, Ok, Err, Option, Result, ◌==◌, nat_le, nat_lt}
use Rattle.kinds.specs.declared.refusal.Refusal.{Refusal}
use Rattle.kinds.specs.declared.refusal.Refusal.TheVariants.{NoChart, NoSuchPoint, NotCovered}
use Rattle.charts.specs.declared.chart.Chart.{Chart}

abbrev pub covering : Option ℕ → ℕ → Bool
covering None p = true
covering (Some a) p = a == p

abbrev pub on_ok : {X Y : Type 0} → Result X Refusal → (X → Result Y Refusal) → Result Y Refusal
on_ok (Ok x) f = f x
on_ok (Err e) f = Err e

abbrev pub standing_of : Option Chart → ℕ → Result Chart Refusal
standing_of None n = Err NoChart
standing_of (Some h) n = cond (nat_lt n h.pairs) (Err NoChart) (Ok h)

abbrev pub whole_of : Option Chart → ℕ → Result Chart Refusal
whole_of o n = on_ok (standing_of o n) (λ h. cond (is_some h.aim) (Err NotCovered) (Ok h))

abbrev pub asked_at : Option Chart → ℕ → ℕ → Result Chart Refusal
asked_at o n p = on_ok (standing_of o n) (λ h. cond (nat_le h.points p) (Err NoSuchPoint) (cond (covering h.aim p) (Ok h) (Err NotCovered)))
