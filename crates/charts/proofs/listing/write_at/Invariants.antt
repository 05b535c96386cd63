use Rattle.std.specs.Slice.Iter.{iter_rest}
use Rattle.charts.proofs.Gathering.{Gathered}
use Rattle.charts.proofs.listing.write_at.Given as goal

-- so many places hold what is at the point, and what is still to come is among the pairs that are left
abbrev pub invariant-loop-item : goal.invariant-loop-item
invariant-loop-item g l = Gathered l.point l.pairs l.item-index (iter_rest l.rest) l.list
