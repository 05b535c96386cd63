-- What the record and the memory of a grid plan hold. Assumes nothing.
--     head_of g           the opening command that the record is of
--     post_at c r         the record of a post in the column c and the row r
--     Inside g c r        the point lies in the grid
--     Accepts bytes g m   the bytes are an accepted plan, and the record and the memory tell its commands
--     Opened bytes m r    what reading answers: a record so, or the refusal that the bytes read as
use Rattle.std.specs.Prelude.{ℕ, ◌<◌, List, Ok, Err, Result}
use Rattle.plans.specs.declared.plan.Grid.{Grid}
use Rattle.plans.specs.declared.plan.Post.{Post}
use Rattle.plans.specs.declared.fault.Stop.{Stop}
use Rattle.plans.specs.Plans.{Head, grid, Command, Reads, accepted, refused}
use Rattle.plans.specs.Faults.{fault_number}
use Rattle.plans.specs.Holdings.{GridTells}

abbrev pub head_of : Grid → Head
head_of g = grid g.width g.height g.spacing

abbrev pub post_at : ℕ → ℕ → Post
post_at c r = record { column = c; row = r }

abbrev pub Inside : Grid → ℕ → ℕ → Type 0
Inside g c r = (c < g.width) × (r < g.height)

pub record Accepts (bytes : List ℕ) (g : Grid) (m : List ℕ) : Type 0 where
  pub commands : List Command
  pub reads : Reads bytes (accepted (head_of g) commands)
  pub tells : GridTells commands g m

abbrev pub Opened : List ℕ → List ℕ → Result Grid Stop → Type 0
Opened bytes m (Ok g) = Accepts bytes g m
Opened bytes m (Err e) = Reads bytes (refused (fault_number e.fault) e.at)
