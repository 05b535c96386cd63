use Rattle.std.proofs.Common.{◌-◌, length}
use Rattle.charting.specs.Searches.{Lent, Rests}
use Rattle.charting.proofs.memory.Search.finish.Given as goal

abbrev pub invariant-loop-self : goal.invariant-loop-self
invariant-loop-self g l = record { rests : Rests g.M.Map.site g.C.Class g.K.Cost l.self; lent : Lent l.fn.self l.self }

abbrev pub decreases-loop-self : goal.decreases-loop-self
decreases-loop-self g l = length l.self.places.now - l.self.settled
