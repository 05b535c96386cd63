use Rattle.std.proofs.Common.{◌<◌, length, get_or, subst, inl, inr, arith, below_more}
use Rattle.std.proofs.lemmas.Bool.{false≢true}
use Rattle.tables.specs.Probes.{on_way}
use Rattle.tables.specs.Indexes.{NamesOther}
use Rattle.tables.proofs.Probing.{way_steps}
use Rattle.tables.proofs.index.first_on_way.Goals as goal

pub loop-step-preserved : goal.loop-step-preserved
loop-step-preserved g c =
    let K = g.K.Keys.kind in
    let at = g.K.Keys.at c.args.keys.now in
    let m = g.K.Keys.means c.args.key.now in
    let slots = c.args.slots.now in
    let some : 0 < length slots = search arith in
    let here = c.loop-step.invariant.0 some in
    let other : NamesOther at m (get_or slots c.loop-step.slot 0) = elim c.in_default.ensures [ inl vacant ↦ absurd (false≢true (c.if-is_vacant.ensures.1 vacant)) | inr names ↦ names ] in (
      λ lt. way_steps (length slots) (K.hash m) c.loop-step._step _ _ lt here.1 c.next_slot-slot.ensures,
      below_more (λ q. NamesOther at m (on_way slots (K.hash m) q)) c.loop-step._step c.loop-step.invariant.1 (subst (λ i. NamesOther at m (get_or slots i 0)) here.1 other),
    )
