use Rattle.std.proofs.Common.{◌≡◌, length, Ok, Err, arith}
use Rattle.std.proofs.lemmas.Result.{err_from_is_err_and}
use Rattle.charting.proofs.Charts.{judged_lawful, judged_wrong, reel_here, search_answers}
use Rattle.charting.proofs.charting.answer.Goals as goal

pub returns-in_err-judge : goal.returns-in_err-judge
returns-in_err-judge g c =
    let p = err_from_is_err_and c.from_residual.result c.from_residual.ensures.1 in
    rw (p.1, p.2)
    (judged_wrong (g.M.Map.site c.args.task.now.map.now) g.C.Class g.K.Cost c.args.task.now.asked (length c.args.places.now) c.args.places.now (Err c.in_err-judge.field-0.0) c.in_err-judge.ensures)

pub search_reach-requires : goal.search_reach-requires
search_reach-requires g c =
    let m = g.M.Map.site c.args.task.now.map.now in record {
      here = reel_here m c.args.task.now.asked (judged_lawful m c.args.task.now.asked (Ok c.in_ok-judge.field-0) c.in_ok-judge.ensures).0;
      fits = c.requires;
    }

pub returns : goal.returns
returns g c =
    let m = g.M.Map.site c.args.task.now.map.now in
    let (np, le) = judged_lawful m c.args.task.now.asked (Ok c.in_ok-judge.field-0) c.in_ok-judge.ensures in
    let same : length c.search_reach.new.places ≡ length c.args.places.now = omega (arith, c.search_reach.auto.places) in
    search_answers m g.C.Class g.K.Cost c.args.task.now.asked (length c.args.places.now) c.search_reach.new.places c.search_reach.result np le same c.search_reach.ensures
