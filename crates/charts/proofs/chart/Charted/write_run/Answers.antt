use Rattle.charts.proofs.Laying.{lays_truly}
use Rattle.charts.proofs.chart.Charted.write_run.Goals as goal

pub returns-clause-exact : goal.returns-clause-exact
returns-clause-exact g c = lays_truly g.C.Class g.K.Cost _ _ _ _ _ _ _ c.write_asked.ensures
