use Rattle.std.proofs.Common.{◌<◌, length}
use Rattle.charts.proofs.Trails.{Comes}
use Rattle.charts.proofs.runs.Links.count_points.Given as goal

-- so many links lead from the first place to this one
abbrev pub invariant-loop-count : goal.invariant-loop-count
invariant-loop-count g l = (l.place < length l.self.pairs.now) × Comes g.C.Class l.self.reel l.self.pairs.now l.first l.count l.place
