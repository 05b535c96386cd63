use Rattle.std.proofs.Common.{◌≡◌, List, length}
use Rattle.plans.specs.Plans.{Command}
use Rattle.plans.specs.Steps.{Begins}
use Rattle.plans.proofs.reader.read_commands.Given as goal

-- some good commands stand before what is left, and the reader is as they leave it
abbrev pub invariant-loop-next : goal.invariant-loop-next
invariant-loop-next g l =
    (g.R.Reader.head l.reader ≡ g.R.Reader.head l.initial.reader)
    × (g.R.Reader.lent l.reader ≡ g.R.Reader.lent l.initial.reader)
    × ((cs : List Command) × Begins (g.R.Reader.head l.initial.reader) l.commands cs l.left × g.R.Reader.holds cs l.reader)

abbrev pub decreases-loop-next : goal.decreases-loop-next
decreases-loop-next g l = length l.left
