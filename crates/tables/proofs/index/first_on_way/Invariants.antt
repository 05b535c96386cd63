use Rattle.std.proofs.Common.{◌≡◌, ◌<◌, length}
use Rattle.tables.specs.Probes.{way_at}
use Rattle.tables.specs.Indexes.{Passed}
use Rattle.tables.proofs.index.first_on_way.Given as goal

-- the slot is that of the step, and the slots so far are taken, by places that do not have the key
abbrev pub invariant-loop-step : goal.invariant-loop-step
invariant-loop-step g l =
    (0 < length l.slots → (l.slot < length l.slots) × (l.slot ≡ way_at (length l.slots) (g.K.Keys.kind.hash (g.K.Keys.means l.key)) l._step))
    × Passed (g.K.Keys.at l.keys) l.slots (g.K.Keys.kind.hash (g.K.Keys.means l.key)) (g.K.Keys.means l.key) l._step
