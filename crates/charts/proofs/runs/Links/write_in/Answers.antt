use Rattle.std.proofs.lemmas.Result.{err_from_is_err_and}
use Rattle.charts.proofs.Trails.{nowhere_runs, lost_runs}
use Rattle.charts.proofs.runs.Links.write_in.Goals as goal

pub returns-in_err-first : goal.returns-in_err-first
returns-in_err-first g c =
    let p = err_from_is_err_and c.from_residual.result c.from_residual.ensures.1 in
    rw (p.1, p.2)
    (nowhere_runs g.C.Class c.args.self.now.reel c.args.self.now.pairs.now c.args.point c.args.class.now c.args.buffer.now c.first_place.result c.in_err-first.field-0.0 c.first_place.ensures
    c.in_err-first.ensures.value)

pub returns-in_err-count : goal.returns-in_err-count
returns-in_err-count g c =
    let p = err_from_is_err_and c.from_residual-in_err-count.result c.from_residual-in_err-count.ensures.1 in
    rw (p.1, p.2)
    (lost_runs g.C.Class c.args.self.now.reel c.args.self.now.pairs.now c.args.point c.args.class.now c.args.buffer.now c.first_place.result c.in_ok-first.first c.in_err-count.field-0.0
    c.first_place.ensures c.in_ok-first.ensures.value c.in_err-count.ensures)
