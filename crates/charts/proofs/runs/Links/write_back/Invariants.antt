use Rattle.charts.proofs.Trails.{Written}
use Rattle.charts.proofs.runs.Links.write_back.Given as goal

-- so many points are written, and the others begin at this place
abbrev pub invariant-loop-slot : goal.invariant-loop-slot
invariant-loop-slot g l = Written g.C.Class l.self.reel l.self.pairs.now l.first l.slot-index l.place l.buffer
