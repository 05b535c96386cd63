use Rattle.std.proofs.Common.{◌<◌, refl, arith}
use Rattle.plans.specs.Plans.{posts}
use Rattle.plans.proofs.GridPosts.{fresh_from_free, placed_push}
use Rattle.plans.proofs.grid_plan.GridReader.add_post.Goals as goal

pub returns-clause-added : goal.returns-clause-added
returns-clause-added c cs h =
    let g = c.args.self.now.grid in
    let fine = c.in_ok-judge_post.ensures in
    let room : posts cs < 7 = omega (arith, h.counted, fine.2) in (
      (tt, fine.0, fresh_from_free cs g c.args.post.column h fine.1, tt, room),
      rw c.from.ensures (placed_push cs g c.args.post.column c.args.post.row c.args.post refl h room),
    )
