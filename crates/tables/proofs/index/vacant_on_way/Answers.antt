use Rattle.std.proofs.Common.{◌≡◌, ◌<◌, length, get_or, subst, arith, below_more}
use Rattle.std.proofs.lemmas.Bool.{false≢true}
use Rattle.tables.specs.Probes.{on_way}
use Rattle.tables.proofs.Probing.{way_steps}
use Rattle.tables.proofs.index.vacant_on_way.Goals as goal

pub loop-step-preserved : goal.loop-step-preserved
loop-step-preserved c =
    let slots = c.args.slots.now in
    let some : 0 < length slots = search arith in
    let at = c.loop-step.invariant.0 some in (
      λ lt. way_steps (length slots) c.args.hash c.loop-step._step _ _ lt at.1 c.next_slot-slot.ensures,
      below_more (λ q. on_way slots c.args.hash q ≡ 0 → ⊥) c.loop-step._step c.loop-step.invariant.1
          (subst (λ i. get_or slots i 0 ≡ 0 → ⊥) at.1 (λ z. false≢true (c.if-is_vacant.ensures.1 z))),
    )
