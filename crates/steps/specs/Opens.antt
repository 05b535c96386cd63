-- Open pairs as they wait. Assumes nothing.
--     by_bound k      open pairs by bound, then by cost
use Rattle.kinds.specs.Comparisons.{pairs}
use Rattle.kinds.specs.Costs.{CostKind}
use Rattle.tables.specs.Orders.{Order}
use Rattle.charts.specs.Ranks.{by_key}
use Rattle.steps.specs.declared.open.Open.{Open}

abbrev pub by_bound : {K : Type 0} → CostKind K → Order (Open K)
by_bound k = by_key (λ w. (w.bound, w.cost)) (pairs k.order k.order)
