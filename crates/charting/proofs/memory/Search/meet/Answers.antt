use Rattle.std.proofs.Common.{◌<◌, length, sym, refl, true≢false, arith, rules}
use Rattle.steps.proofs.Tests.{room_from_test}
use Rattle.charting.proofs.Searches.{met_within, met_slot, met_stands, met_crowded, met_new, met_no_cheaper, met_waits, met_less, met_lowered}
use Rattle.charting.proofs.memory.Search.meet.Goals as goal

pub bounds-self-from : goal.bounds-self-from
bounds-self-from g c =
    let map = c.args.self.now.task.now.map.now in
    omega (arith, met_within (g.met.M.Map.lanes map) (g.met.M.Map.estimates map) c.requires.1 c.in-Some.at.place c.in-Some.at.slot c.in-Some.ensures)

pub offset_bounds-self-from : goal.offset_bounds-self-from
offset_bounds-self-from g c =
    let map = c.args.self.now.task.now.map.now in
    let h : c.from.result < length c.args.self.now.places.now = omega (arith, met_within (g.met.M.Map.lanes map) (g.met.M.Map.estimates map) c.requires.1 c.in-Some.at.place c.in-Some.at.slot c.in-Some.ensures) in
    search rules

pub overflow_cast-at : goal.overflow_cast-at
overflow_cast-at g c =
    let map = c.args.self.now.task.now.map.now in
    let h : c.in-Some.at.slot < 65536 = met_slot (g.met.M.Map.lanes map) (g.met.M.Map.estimates map) c.requires.1 c.in-Some.at.place c.in-Some.at.slot c.in-Some.ensures in
    search rules

pub lower-requires : goal.lower-requires
lower-requires g c =
    let map = c.args.self.now.task.now.map.now in
    let f = c.requires.1 in
    let at = met_stands (g.met.M.Map.lanes map) (g.met.M.Map.estimates map) f c.in-Some.at.place c.in-Some.at.slot c.in-Some.ensures c.from.result c.index-self-from.result c.from.ensures in
    let less = c.is_cheaper.ensures.0 c.if-is_cheaper.true in record {
      room = met_within (g.met.M.Map.lanes map) (g.met.M.Map.estimates map) f c.in-Some.at.place c.in-Some.at.slot c.in-Some.ensures;
      waits = met_waits (g.met.M.Map.lanes map) (g.met.M.Map.estimates map) f c.in-Some.at.place c.in-Some.at.slot c.in-Some.ensures at less;
      less = met_less (g.met.M.Map.lanes map) (g.met.M.Map.estimates map) f c.in-Some.at.place c.in-Some.at.slot c.in-Some.ensures at less c.bound_at-bound.ensures;
    }

pub returns-then-is_cheaper-clause-met : goal.returns-then-is_cheaper-clause-met
returns-then-is_cheaper-clause-met g c i f =
    let map = c.args.self.now.task.now.map.now in
    let at = met_stands (g.met.M.Map.lanes map) (g.met.M.Map.estimates map) f c.in-Some.at.place c.in-Some.at.slot c.in-Some.ensures c.from.result c.index-self-from.result c.from.ensures in
    let e = c.lower.ensures in
    rw (e.lent.task, e.settled, e.found, e.slots, e.places)
    (met_lowered (g.met.M.Map.lanes map) (g.met.M.Map.estimates map) f c.in-Some.at.place c.in-Some.at.slot c.in-Some.ensures at (c.if-is_cheaper.ensures.0 refl) c.bound_at-bound.ensures c.lower.new.self.queue.now e.lent.queued e.lowers)

pub returns-else-is_cheaper-clause-met : goal.returns-else-is_cheaper-clause-met
returns-else-is_cheaper-clause-met g c i f =
    let map = c.args.self.now.task.now.map.now in
    let at = met_stands (g.met.M.Map.lanes map) (g.met.M.Map.estimates map) f c.in-Some.at.place c.in-Some.at.slot c.in-Some.ensures c.from.result c.index-self-from.result c.from.ensures in
    met_no_cheaper (g.met.M.Map.lanes map) (g.met.M.Map.estimates map) f c.in-Some.at.place c.in-Some.at.slot c.in-Some.ensures at (λ e. true≢false (sym (c.if-is_cheaper.ensures.1 e)))

pub returns-in-None-clause-met : goal.returns-in-None-clause-met
returns-in-None-clause-met g c i f =
    let map = c.args.self.now.task.now.map.now in
    let e = c.add.ensures in
    rw (e.lent.task, e.settled, e.found)
    (met_new (g.met.M.Map.lanes map) (g.met.M.Map.estimates map) f (c.in-None.ensures f.searching.indexed) (c.has_room.ensures.0 c.if-has_room.true) c.add.new.self.queue.now e.lent.queued c.bound_at-bound.ensures e.added)

pub returns-in-None-2-clause-met : goal.returns-in-None-2-clause-met
returns-in-None-2-clause-met g c =
    let s = c.args.self.now in
    let map = s.task.now.map.now in
    let f = c.requires.1 in (
      refl,
      met_crowded (g.met.M.Map.lanes map) (g.met.M.Map.estimates map) f (c.in-None-2.ensures f.searching.indexed)
          (room_from_test c.has_room.result s.found (length s.places.now) c.has_room.ensures c.if-has_room.false),
    )
