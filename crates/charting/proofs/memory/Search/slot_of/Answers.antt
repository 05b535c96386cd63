use Rattle.std.proofs.Common.{get_or, arith}
use Rattle.charting.proofs.Elements.{stands_got}
use Rattle.charting.proofs.Indexing.{look_up_finds, look_up_names}
use Rattle.charting.proofs.memory.Search.slot_of.Goals as goal

pub returns-in-Some : goal.returns-in-Some
returns-in-Some g c =
    let s = c.args.self.now in
    let named = c.requires.named in
    let answer = c.in-Some.ensures named.indexed in
    look_up_names g.C.Class s.places.now s.slots.now s.found named.room named.indexed named.covers c.args.place c.requires.within
    (get_or s.places.now c.from.result c.index-self-from.result) (stands_got s.places.now c.args.place c.from.result c.index-self-from.result (omega arith) c.from.ensures)
    c.in-Some.at answer.0 answer.1

pub returns-in-None : goal.returns-in-None
returns-in-None g c =
    let s = c.args.self.now in
    let named = c.requires.named in
    absurd (look_up_finds g.C.Class s.places.now s.slots.now s.found named.room named.indexed named.covers c.args.place c.requires.within
    (get_or s.places.now c.from.result c.index-self-from.result) (stands_got s.places.now c.args.place c.from.result c.index-self-from.result (omega arith) c.from.ensures)
    (c.in-None.ensures named.indexed))
