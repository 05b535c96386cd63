use Rattle.std.proofs.Common.{◌≡◌, ◌-◌}
use Rattle.charting.specs.Searches.{Lent, AtHand}
use Rattle.charting.proofs.memory.Search.expand.Given as goal

abbrev pub invariant-loop-number : goal.invariant-loop-number
invariant-loop-number g l =
    record { hand : AtHand g.M.Map.site g.C.Class g.K.Cost l.self l.from; lent : Lent l.fn.self l.self; settled : l.self.settled ≡ l.fn.self.settled }

abbrev pub decreases-loop-number : goal.decreases-loop-number
decreases-loop-number g l = (g.M.Map.site l.self.task.now.map.now).limit - l.from
