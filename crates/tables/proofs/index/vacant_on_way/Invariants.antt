use Rattle.std.proofs.Common.{◌≡◌, ◌<◌, length}
use Rattle.tables.specs.Probes.{way_at}
use Rattle.tables.specs.Indexes.{Taken}
use Rattle.tables.proofs.index.vacant_on_way.Given as goal

-- the slot is that of the step, and the slots so far are taken
abbrev pub invariant-loop-step : goal.invariant-loop-step
invariant-loop-step l =
    (0 < length l.slots → (l.slot < length l.slots) × (l.slot ≡ way_at (length l.slots) l.hash l._step))
    × Taken l.slots l.hash l._step
