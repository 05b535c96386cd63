use Rattle.charting.proofs.Searches.{lent_on}
use Rattle.charting.proofs.memory.Search.finish.Goals as goal

pub loop-self-preserved : goal.loop-self-preserved
loop-self-preserved g c = record {
  rests = c.in_ok-expand.ensures.expanded.0;
  lent = lent_on (lent_on c.loop-self.invariant.lent c.take_up.ensures.lent) c.expand.ensures.lent;
}
