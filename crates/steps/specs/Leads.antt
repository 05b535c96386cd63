-- Where a lane leads from a pair. Assumes nothing.
--     onward k c l         what it costs to go on by the lane l, where it cost c to get there
--     Leads b x l s k o    o is the pair that the lane l leads to from x, at the cost k and linked to the place s; or none and its class is not held
use Rattle.std.specs.Prelude.{◌≡◌, ℕ, Some, None, Option}
use Rattle.kinds.specs.declared.lane.Lane.{Lane}
use Rattle.kinds.specs.declared.class.Class.{Ghosts as Classes}
use Rattle.kinds.specs.Classes.{crossed}
use Rattle.kinds.specs.Costs.{CostKind}
use Rattle.charts.specs.declared.chart.Pair.{Pair}

abbrev pub onward : {K : Type 0} → CostKind K → K → Lane → K
onward k c l = k.plus c (k.of l.length l.risk)

abbrev pub Leads : {C K : Type 0} → Classes C → Pair C K → Lane → ℕ → K → Option (Pair C K) → Type 0
Leads b x l s k None = b.kind.Held (b.kind.mul (b.element x.class) (crossed b.kind l.crossing)) → ⊥
Leads b x l s k (Some v) =
    (v.point ≡ l.to) × (b.element v.class ≡ b.kind.mul (b.element x.class) (crossed b.kind l.crossing)) × (v.cost ≡ k) × (v.link ≡ Some s)
