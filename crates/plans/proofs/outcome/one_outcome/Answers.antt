use Rattle.plans.proofs.Openings.{same_outcome}
use Rattle.plans.proofs.outcome.one_outcome.Goals as goal

pub returns : goal.returns
returns c = same_outcome
