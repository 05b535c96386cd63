use Rattle.std.proofs.Common.{rules}
use Rattle.steps.proofs.Keys.{item_decides}
use Rattle.steps.proofs.pairs.PairsKeys.holds.Goals as goal

pub returns : goal.returns
returns g c =
    item_decides g.C.Class c.args.self.now.found.now c.args.place c.args.key.now.point (g.C.Class.element c.args.key.now.class) c.get.result c.is_some_and.result (search rules) (search rules)
