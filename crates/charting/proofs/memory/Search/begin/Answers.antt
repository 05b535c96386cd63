use Rattle.std.proofs.Common.{refl}
use Rattle.charting.proofs.Searches.{searching_started}
use Rattle.charting.proofs.memory.Search.begin.Goals as goal

pub returns-clause-begun : goal.returns-clause-begun
returns-clause-begun g c =
    let s = c.args.self.now in
    let map = s.task.now.map.now in
    let e = c.add.ensures in
    rw (e.lent.task, e.settled, c.requires.none.1, e.found, c.requires.none.0)
    (searching_started (g.met.M.Map.lanes map) (g.met.M.Map.estimates map) c.requires.here c.requires.sized c.requires.idle c.requires.vacant
    (rw c.zero-zero.ensures at (c.is_within.ensures.0 c.if-not-is_within.false)) c.requires.some refl c.unit.ensures c.zero-zero.ensures refl
    c.add.new.self.queue.now e.lent.queued c.bound_at-bound.ensures (rw c.requires.none.0 at e.added))
