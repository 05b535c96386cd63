use Rattle.std.proofs.Common.{arith}
use Rattle.steps.specs.Ends.{Judged}
use Rattle.steps.proofs.task.Task.judge.Goals as goal

pub returns-then-is_pointless : goal.returns-then-is_pointless
returns-then-is_pointless g c = Judged.pointless (grind arith)

pub returns-then-is_too_long : goal.returns-then-is_too_long
returns-then-is_too_long g c = Judged.long (grind arith) (grind arith)

pub returns : goal.returns
returns g c = Judged.lawful (grind arith) (grind arith)
