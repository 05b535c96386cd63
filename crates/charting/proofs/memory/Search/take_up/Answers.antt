use Rattle.std.proofs.Common.{refl, arith}
use Rattle.charting.proofs.Searches.{taken_reads, searching_taken, complete}
use Rattle.charting.proofs.memory.Search.take_up.Goals as goal

pub returns-in_default-clause-taken : goal.returns-in_default-clause-taken
returns-in_default-clause-taken g c =
    let map = c.args.self.now.task.now.map.now in
    complete (g.met.M.Map.lanes map) (g.met.M.Map.estimates map) g.met.C.Class.held c.requires (omega (arith, c.in_default.ensures.popped.0))

pub returns-clause-taken : goal.returns-clause-taken
returns-clause-taken g c =
    let map = c.args.self.now.task.now.map.now in
    let popped = c.in-Some.ensures.popped.0 in
    let reads = taken_reads (g.met.M.Map.lanes map) (g.met.M.Map.estimates map) c.requires popped in
    let e = rw c.from-slot.ensures at c.exchange.ensures in
    rw (e.lent.task, e.settled, e.found, e.queue)
    (searching_taken (g.met.M.Map.lanes map) (g.met.M.Map.estimates map) c.requires popped reads.4 e.places e.slots.0 e.slots.1 c.pop.new.self refl c.pop.ensures.capacity e.slots.2)
