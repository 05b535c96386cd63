use Rattle.std.proofs.Common.{rules, tests, set, ap, ◌∙◌, arith}
use Rattle.charts.specs.Listing.{is_at}
use Rattle.charts.proofs.Gathering.{left_found, gathered_more, gathered_next}
use Rattle.charts.proofs.listing.write_at.Goals as goal
use Rattle.charts.proofs.listing.write_at.Goals.{in-Some, in_default}

pub loop-item-preserved : goal.loop-item-preserved
loop-item-preserved g c =
    let found = left_found _ (is_at c.args.point) _ (λ x b q k. search (rules, tests)) c.loop-item.rest c.find.new.self c.find.result c.find.ensures.ran in
    elim c.match-find.branch [
      | in-Some w ↦
          gathered_more _ _ _ _ _ _ _ c.loop-item.invariant (omega arith) (omega arith) found w.in-Some.pair c.match-find.list w.in-Some.is
          (w.list-is ∙ ap (set c.loop-item.list c.loop-item.item-index) w.price_of.ensures)
      | in_default w ↦ absurd (gathered_next _ _ _ _ _ _ _ c.loop-item.invariant (omega arith) (omega arith) found w.in_default.is)
    ]
