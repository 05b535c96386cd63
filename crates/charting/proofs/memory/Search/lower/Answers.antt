use Rattle.std.proofs.Common.{Some, None}
use Rattle.tables.specs.Queues.{waiting}
use Rattle.steps.specs.Opens.{by_bound}
use Rattle.charting.proofs.Queues.{lowers_so, slot_waits}
use Rattle.charting.proofs.memory.Search.lower.Goals as goal

pub returns-in-Some-clause-lowers : goal.returns-in-Some-clause-lowers
returns-in-Some-clause-lowers g c =
    let s = c.args.self.now in
    let (old, lt, at, slot) = slot_waits c.args.slot (waiting s.queue.now) (Some c.in-Some.waits) c.in-Some.ensures in record {
      at = c.in-Some.waits;
      old = old;
      within = lt;
      stands = at;
      slot = slot;
      lowered =
          lowers_so (by_bound g.K.Cost.costs) (waiting s.queue.now) (waiting c.lower.new.self) c.in-Some.waits
          (record { bound = c.args.bound; cost = c.args.pair.cost; slot = c.args.slot }) old c.lower.result lt at
          (c.requires.less old (c.in-Some.waits, lt, at) slot) c.lower.ensures.answer c.lower.ensures.lowered;
    }

pub returns-in_default : goal.returns-in_default
returns-in_default g c = absurd (c.requires.waits (slot_waits c.args.slot (waiting c.args.self.now.queue.now) None c.in_default.ensures))
