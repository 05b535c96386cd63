use Rattle.std.proofs.Common.{◌≡◌, ◌+◌, List, take, sym, ap, ◌∙◌, rules, tests, arith}
use Rattle.std.specs.List.{position}
use Rattle.std.proofs.lemmas.Iterator.{YieldsList-from_slice}
use Rattle.std.proofs.lemmas.Iterator.Search.{position_from_yields_List}
use Rattle.plans.specs.declared.plan.Post.{Post}
use Rattle.plans.specs.Rays.{ahead}
use Rattle.plans.specs.Grids.{over}
use Rattle.plans.specs.RaysLemmas.{ray_at, eastward_first}
use Rattle.plans.proofs.plan.Grid.eastward.Goals as goal

pub returns-in-Some : goal.returns-in-Some
returns-in-Some c =
    let ps : List Post = take c.args.self.now.count c.args.self.now.posts in
    let e : c.position-crossed.result ≡ position (λ p. over p c.args.spot.column c.args.spot.row) ps =
    position_from_yields_List (λ p. over p c.args.spot.column c.args.spot.row) _ _ c.position-crossed.result c.position-crossed.ensures.ran (YieldsList-from_slice ps cc) (λ x b q k. search (rules, tests)) in
    let n : c.in-Some.place + 1 ≡ 1 + c.in-Some.place = omega arith in
    c.forwards.ensures ∙ (ap ahead n ∙ sym (eastward_first 1 ps c.args.spot.column c.args.spot.row ∙ ap (ray_at 1) (sym e ∙ c.in-Some.is)))

pub returns-in-None : goal.returns-in-None
returns-in-None c =
    let ps : List Post = take c.args.self.now.count c.args.self.now.posts in
    let e : c.position-crossed.result ≡ position (λ p. over p c.args.spot.column c.args.spot.row) ps =
    position_from_yields_List (λ p. over p c.args.spot.column c.args.spot.row) _ _ c.position-crossed.result c.position-crossed.ensures.ran (YieldsList-from_slice ps cc) (λ x b q k. search (rules, tests)) in
    sym (eastward_first 1 ps c.args.spot.column c.args.spot.row ∙ ap (ray_at 1) (sym e ∙ c.in-None.is))
