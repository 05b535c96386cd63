use Rattle.std.proofs.Common.{rules, arith}
use Rattle.charts.proofs.Trails.{written_none, written_more}
use Rattle.charts.proofs.runs.Links.write_back.Goals as goal

pub loop-slot-init : goal.loop-slot-init
loop-slot-init g c = written_none g.C.Class _ _ _ _ c.requires

pub loop-slot-preserved : goal.loop-slot-preserved
loop-slot-preserved g c = written_more _ _ _ _ _ _ _ c.index-self-place.result c.loop-slot.invariant (omega arith) _ (search rules)
