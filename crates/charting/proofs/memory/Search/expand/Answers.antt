use Rattle.std.proofs.Common.{◌+◌, ap, ◌∙◌, arith}
use Rattle.charting.proofs.Searches.{lent_on, hand_stands, searching_to, searching_past, next_low}
use Rattle.charting.proofs.memory.Search.expand.Goals as goal

pub follow-requires : goal.follow-requires
follow-requires g c =
    let map = c.loop-number.self.task.now.map.now in
    let h = c.loop-number.invariant.hand in
    let at = hand_stands (g.met.M.Map.lanes map) (g.met.M.Map.estimates map) h c.from.result c.index-self-from.result c.from.ensures in
    searching_to (g.met.M.Map.lanes map) (g.met.M.Map.estimates map) h at c.in-Some.ensures

pub loop-number-smaller : goal.loop-number-smaller
loop-number-smaller g c =
    let low = next_low (g.met.M.Map.lanes c.loop-number.self.task.now.map.now) c.in-Some.ensures in
    let next = c.following-from.ensures.next (omega (arith, low.2)) in
    rw c.follow.ensures.lent.task (omega (arith, low.0, low.1, next))

pub loop-number-preserved : goal.loop-number-preserved
loop-number-preserved g c =
    let low = next_low (g.met.M.Map.lanes c.loop-number.self.task.now.map.now) c.in-Some.ensures in record {
      hand = rw (c.following-from.ensures.next (omega (arith, low.2))) c.in_ok-follow.ensures.followed;
      lent = lent_on c.loop-number.invariant.lent c.follow.ensures.lent;
      settled = c.follow.ensures.settled ∙ c.loop-number.invariant.settled;
    }

pub returns-clause-expanded : goal.returns-clause-expanded
returns-clause-expanded g c =
    let map = c.loop-number.self.task.now.map.now in
    let h = c.loop-number.invariant.hand in
    let at = hand_stands (g.met.M.Map.lanes map) (g.met.M.Map.estimates map) h c.from.result c.index-self-from.result c.from.ensures in
    (searching_past (g.met.M.Map.lanes map) (g.met.M.Map.estimates map) h at c.in_default.ensures, ap (λ a. a + 1) c.loop-number.invariant.settled)
