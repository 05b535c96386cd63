-- Orders by a key. Assumes nothing.
--     by_key f o        the order of values by their keys, f gives the key and o orders the keys; values of one key compare as equal
--     by_cost b c       classes with their costs, by the cost, then by the class
use Rattle.std.specs.Prelude.{◌≡◌}
use Rattle.std.specs.declared.cmp.Ordering.TheVariants.{Equal}
use Rattle.std.proofs.Common.{ap}
use Rattle.kinds.specs.declared.class.Class.{Ghosts as Classes}
use Rattle.kinds.specs.declared.cost.Cost.{Ghosts as Costs}
use Rattle.kinds.specs.Orders.{Ordered}
use Rattle.kinds.specs.Comparisons.{pairs}
use Rattle.tables.specs.Orders.{Order}
use Rattle.charts.specs.declared.chart.Priced.{Priced}

module _ {X Y : Type 0} (f : X → Y) (o : Ordered Y) where
  pub key_alike : (x y z : X) → o.cmp (f x) (f y) ≡ Equal → o.cmp (f x) (f z) ≡ o.cmp (f y) (f z)
  key_alike x y z e = ap (λ (k : Y). o.cmp k (f z)) (o.same (f x) (f y) e)

  abbrev pub by_key : Order X
  by_key = record {
    cmp = λ x y. o.cmp (f x) (f y);
    flip = λ x y. o.flip (f x) (f y);
    trans = λ x y z. o.trans (f x) (f y) (f z);
    alike = key_alike;
  }

abbrev pub by_cost : {C K : Type 0} → Classes C → Costs K → Order (Priced C K)
by_cost b c = by_key (λ x. (x.cost, b.element x.class)) (pairs c.costs.order b.kind.order)
