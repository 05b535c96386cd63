use Rattle.std.proofs.Common.{◌≡◌, Some, None, arith, sym, ◌∙◌, true≢false}
use Rattle.std.proofs.lemmas.Result.{MatchResult-weaker, err_from_is_err_and}
use Rattle.charting.proofs.Searches.{hand_stands, searching_no_lane, searching_too_far, searching_unheld, searching_follows}
use Rattle.charting.proofs.memory.Search.follow.Goals as goal

pub returns-in_default-clause-followed : goal.returns-in_default-clause-followed
returns-in_default-clause-followed g c =
    let map = c.args.self.now.task.now.map.now in
    let at = hand_stands (g.met.M.Map.lanes map) (g.met.M.Map.estimates map) c.requires c.from.result c.index-self-from.result c.from.ensures in
    searching_no_lane (g.met.M.Map.lanes map) (g.met.M.Map.estimates map) c.requires at (sym c.in_default.ensures)

pub returns-then-not-is_within-clause-followed : goal.returns-then-not-is_within-clause-followed
returns-then-not-is_within-clause-followed g c =
    let map = c.args.self.now.task.now.map.now in
    let at = hand_stands (g.met.M.Map.lanes map) (g.met.M.Map.estimates map) c.requires c.from.result c.index-self-from.result c.from.ensures in
    searching_too_far (g.met.M.Map.lanes map) (g.met.M.Map.estimates map) c.requires at (sym c.in-Some.ensures) c.cost_on-cost.ensures (λ w. true≢false (sym (c.is_within.ensures.1 w) ∙ c.if-not-is_within.true))

pub returns-in_err-pair-clause-followed : goal.returns-in_err-pair-clause-followed
returns-in_err-pair-clause-followed g c =
    let map = c.args.self.now.task.now.map.now in
    let at = hand_stands (g.met.M.Map.lanes map) (g.met.M.Map.estimates map) c.requires c.from.result c.index-self-from.result c.from.ensures in
    let is : c.led.result ≡ None = grind arith in
    let p = err_from_is_err_and c.from_residual.result c.from_residual.ensures.1 in
    let v = rw is at c.in_err-pair.ensures in
    rw (p.1, p.2) ((cc), searching_unheld (g.met.M.Map.lanes map) (g.met.M.Map.estimates map) c.requires at (sym c.in-Some.ensures) c.cost_on-cost.ensures (c.is_within.ensures.0 c.if-not-is_within.false) (rw is at c.led.ensures))

pub meet-requires : goal.meet-requires
meet-requires g c =
    let map = c.args.self.now.task.now.map.now in
    let at = hand_stands (g.met.M.Map.lanes map) (g.met.M.Map.estimates map) c.requires c.from.result c.index-self-from.result c.from.ensures in
    let is : c.led.result ≡ Some c.in_ok-pair.pair = grind arith in
    (c.args.number, searching_follows (g.met.M.Map.lanes map) (g.met.M.Map.estimates map) c.requires at (sym c.in-Some.ensures) c.cost_on-cost.ensures (c.is_within.ensures.0 c.if-not-is_within.false) (rw is at c.led.ensures))

pub returns-clause-followed : goal.returns-clause-followed
returns-clause-followed g c =
    let map = c.args.self.now.task.now.map.now in
    let at = hand_stands (g.met.M.Map.lanes map) (g.met.M.Map.estimates map) c.requires c.from.result c.index-self-from.result c.from.ensures in
    let is : c.led.result ≡ Some c.in_ok-pair.pair = grind arith in
    let comes = searching_follows (g.met.M.Map.lanes map) (g.met.M.Map.estimates map) c.requires at (sym c.in-Some.ensures) c.cost_on-cost.ensures (c.is_within.ensures.0 c.if-not-is_within.false) (rw is at c.led.ensures) in
    MatchResult-weaker c.meet.result c.meet.ensures.met (λ _ met. met c.args.number comes) (λ _ refused. refused)
