use Rattle.std.proofs.Common.{List, take}
use Rattle.kinds.specs.declared.lane.Lane.{Lane}
use Rattle.kinds.specs.Pricing.{At}
use Rattle.kinds.proofs.pricing.price.Given as goal

-- the numbers so far name a run that has come this far
abbrev pub invariant-loop-place : goal.invariant-loop-place
invariant-loop-place g l = (ls : List Lane) × At g.M.Map g.C.Class g.K.Cost l.map l.from (take l.place-counter l.numbers) ls l.along
