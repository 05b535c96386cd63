use Rattle.plans.proofs.grid_plan.GridReaderReader.take.Goals as goal

pub returns-in-82-clause-said : goal.returns-in-82-clause-said
returns-in-82-clause-said c = rw c.in-82.is c.read_post.ensures.said

pub returns-in-66-clause-said : goal.returns-in-66-clause-said
returns-in-66-clause-said c = rw c.in-66.is c.read_block.ensures.said

pub returns-in-87-clause-said : goal.returns-in-87-clause-said
returns-in-87-clause-said c = rw c.in-87.is c.read_weigh.ensures.said
