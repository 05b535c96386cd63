use Rattle.std.proofs.Common.{arith}
use Rattle.charting.proofs.Indexing.{indexed_next}
use Rattle.charting.proofs.memory.Search.add.Goals as goal

pub name_next-slot-requires-clause-indexed : goal.name_next-slot-requires-clause-indexed
name_next-slot-requires-clause-indexed g c =
    let s = c.args.self.now in
    rw c.from.ensures (indexed_next g.C.Class s.places.now s.slots.now s.found (omega arith) c.requires.indexed c.args.pair c.requires.room)
