use Rattle.std.proofs.Common.{ℕ, List, [], ◌∷◌, ◌++◌, Err, sym, ◌∙◌, subst, arith, Bor}
use Rattle.plans.specs.declared.fault.Stop.{Stop}
use Rattle.plans.specs.Plans.{Head, Command, Good, Fault}
use Rattle.plans.specs.Faults.{fault_number}
use Rattle.plans.specs.Steps.{Begins, Goes, Run}
use Rattle.plans.proofs.Commands.{begins_push, length_begins, goes_at_some}
use Rattle.plans.proofs.reader.read_commands.Goals as goal

pub loop-next-preserved : goal.loop-next-preserved
loop-next-preserved g c =
    let inv = c.loop-next.invariant in
    let cs = inv.2.0 in
    let h = g.R.Reader.head c.args.reader.now in
    let left = c.loop-next.left.now in
    let next = c.in-Ok-Some.next in
    let before : List Command → Type 0 = λ ds. g.R.Reader.holds ds c.loop-next.reader in
    let after : List Command → Type 0 = λ ds. g.R.Reader.holds ds c.step.new.reader in
    let more : Goes (g.R.Reader.head c.loop-next.reader) after cs left next.now =
    goes_at_some (g.R.Reader.head c.loop-next.reader) before after left c.in-Ok-Some.field-0 next cs c.in-Ok-Some.field-0-is c.in-Ok-Some.ensures.said inv.2.2 in
    let good : Good h cs more.command = subst (λ (k : Head). Good k cs more.command) inv.0 more.good in
    let begins = begins_push h c.args.commands.now cs left more.command next.now inv.2.1 more.spelled good in (
      c.step.ensures.head ∙ inv.0,
      c.step.ensures.same_slices ∙ inv.1,
      (
        cs ++ (more.command ∷ []),
        subst (λ (left : Bor (List ℕ)). Begins h c.args.commands.now (cs ++ (more.command ∷ [])) left.now) (sym c.in-Ok-Some.next-is) begins,
        more.holds,
      ),
    )

pub returns-in-Err-clause-said : goal.returns-in-Err-clause-said
returns-in-Err-clause-said g c =
    let inv = c.loop-next.invariant in
    let stop = c.in-Err.stop in
    let said = c.in-Err.ensures.said in
    let h = g.R.Reader.head c.args.reader.now in
    let left = c.loop-next.left.now in
    let all = length_begins h c.args.commands.now inv.2.0 left inv.2.1 in
    let fault : Fault h inv.2.0 left (fault_number stop.fault) stop.at = subst (λ (k : Head). Fault k inv.2.0 left (fault_number stop.fault) stop.at) inv.0 (said.1 inv.2.0 inv.2.2) in
    subst (λ (s : Stop). Run h c.args.commands.now (λ cs. g.R.Reader.holds cs c.step.new.reader) (Err s)) (sym c.after.ensures)
    (omega (arith, all, said.0), record { commands = inv.2.0; left = left; at = stop.at; begins = inv.2.1; fault = fault; offset = omega (arith, all) })
