use Rattle.std.proofs.Common.{◌<◌, ◌≤◌, ◌∷◌, ◌++◌, length, get_or, ap, ◌∙◌, rules}
use Rattle.plans.specs.Plans.{four}
use Rattle.plans.proofs.Fronts.{rest, front}
use Rattle.plans.proofs.ByteNumbers.{two_bytes}
use Rattle.plans.proofs.road_plan.take_join.Goals as goal

pub returns : goal.returns
returns c =
    let s = c.in_ok-first.first in
    let t = c.in_ok-second.second in
    let ys = c.in_ok-second.bytes.now in
    let enough : 4 ≤ length ys = search rules in
    let low : get_or ys 1 0 < 256 = search rules in
    ap (λ xs. 65 ∷ xs) c.in_ok-first.ensures
    ∙ ap (λ xs. 65 ∷ (four s ++ xs)) c.in_ok-second.ensures
    ∙ ap (λ xs. 65 ∷ (four s ++ (four t ++ xs))) (front 4 ys enough ∙ two_bytes (get_or ys 0 0) (get_or ys 1 0) c.from_be_bytes.result (get_or ys 2 0 ∷ (get_or ys 3 0 ∷ rest 4 ys)) c.from_be_bytes.ensures low)
