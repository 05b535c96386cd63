use Rattle.std.proofs.Common.{sym, arith}
use Rattle.plans.specs.Grids.{terrain_of}
use Rattle.plans.specs.GridsLemmas.{lane_off_map}
use Rattle.plans.proofs.grid.GridMapMap.lane.Goals as goal

pub returns-then-point-points : goal.returns-then-point-points
returns-then-point-points g c = sym (lane_off_map (terrain_of g.B.Memory.bytes c.args.self.now) c.args.point c.args.number (omega arith))
