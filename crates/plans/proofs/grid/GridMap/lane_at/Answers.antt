use Rattle.std.proofs.Common.{sym, ◌∙◌}
use Rattle.plans.specs.Grids.{terrain_of}
use Rattle.plans.proofs.Neighbours.{lane_free}
use Rattle.plans.proofs.grid.GridMap.lane_at.Goals as goal

pub returns-then-are_free : goal.returns-then-are_free
returns-then-are_free g c =
    lane_free (terrain_of g.B.Memory.bytes c.args.self.now) c.args.spot.column c.args.spot.row c.args.number c.in_ok-next.next c.lane_to.result
    (sym c.beside.ensures ∙ c.in_ok-next.was) (sym c.are_free.ensures ∙ c.if-are_free.true) c.lane_to.ensures
