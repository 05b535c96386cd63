use Rattle.charts.proofs.Joining.{lists_truly}
use Rattle.charts.proofs.chart.Charted.list.Goals as goal

pub returns-clause-exact : goal.returns-clause-exact
returns-clause-exact g c = lists_truly g.C.Class g.K.Cost _ _ _ _ _ _ c.list_asked.ensures
