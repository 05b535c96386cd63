-- What the reader of a grid plan does at each step. Assumes nothing.
--     Squared g c r            the square with this south-west corner lies in the grid
--     Taken g c                one of the record's posts stands in the column
--     PostFault g c r e        e is the first thing wrong with a post there
--     PostJudged g c r j       one more post may stand there, or j has its fault
--     PostAdded g c r g' j     it was added, to commands after which it is good, or j has its fault
--     written w m cs           the memory m after the commands wrote to it
--     Holds cs g m             the record and the memory are as the commands wrote them
--     GridRead                 what reading one command leaves and answers
use Rattle.std.specs.Prelude.{◌≡◌, ℕ, ◌+◌, ◌<◌, ◌≤◌, List, [], ◌∷◌, ◌++◌, Ok, Err, Result, slice_index_or, slice_set}
use Rattle.std.specs.Borrow.{Bor}
use Rattle.plans.specs.declared.plan.Grid.{Grid}
use Rattle.plans.specs.declared.fault.Stop.{Stop}
use Rattle.plans.specs.declared.fault.Fault.{Fault}
use Rattle.plans.specs.declared.fault.Fault.TheVariants.{UnknownCommand, CutShort, OutOfRange, GivenTwice, BadEnds, TooMany, AfterEnd}
use Rattle.plans.specs.Steps.{Read}
use Rattle.plans.specs.Plans.{Command, post, block, weigh, point, join, Good}
use Rattle.plans.specs.GridPlans.{head_of}
use Rattle.plans.specs.Holdings.{blank}
use Rattle.plans.specs.Holdings.{nowhere, Placed}
use Rattle.plans.specs.Grids.{place}

abbrev pub Squared : Grid → ℕ → ℕ → Type 0
Squared g c r = (c + 2 ≤ g.width) × (r + 2 ≤ g.height)

abbrev pub Taken : Grid → ℕ → Type 0
Taken g c = (k : ℕ) × (k < g.count) × ((slice_index_or g.posts k nowhere).column ≡ c)

-- checked in this order: in range, given before, one too many
abbrev pub PostFault : Grid → ℕ → ℕ → Fault → Type 0
PostFault g c r UnknownCommand = ⊥
PostFault g c r CutShort = ⊥
PostFault g c r OutOfRange = Squared g c r → ⊥
PostFault g c r GivenTwice = Squared g c r × Taken g c
PostFault g c r BadEnds = ⊥
PostFault g c r TooMany = Squared g c r × (Taken g c → ⊥) × (7 ≤ g.count)
PostFault g c r AfterEnd = ⊥

abbrev pub PostJudged : Grid → ℕ → ℕ → Result Unit Fault → Type 0
PostJudged g c r (Ok x) = Squared g c r × (Taken g c → ⊥) × (g.count < 7)
PostJudged g c r (Err e) = PostFault g c r e

abbrev pub PostAdded : Grid → ℕ → ℕ → Grid → Result Unit Fault → Type 0
PostAdded g c r g' (Ok x) = (cs : List Command) → Placed cs g → Good (head_of g) cs (post c r) × Placed (cs ++ (post c r ∷ [])) g'
PostAdded g c r g' (Err e) = PostFault g c r e

-- what one command writes
abbrev pub write : ℕ → List ℕ → Command → List ℕ
write w m (post c r) = m
write w m (block c r) = slice_set m (4096 + place w c r) 1
write w m (weigh c r k) = slice_set m (place w c r) k
write w m (point s) = m
write w m (join a b l k x) = m

abbrev pub written : ℕ → List ℕ → List Command → List ℕ
written w m [] = m
written w m (c ∷ cs) = written w (write w m c) cs

pub record Holds (cs : List Command) (g : Grid) (m : List ℕ) : Type 0 where
  pub posted : Placed cs g
  pub wrote : m ≡ written g.width blank cs

-- reading the command at the front of what is left, whatever commands the record and the memory hold
abbrev pub GridRead : Grid → List ℕ → List ℕ → Grid → List ℕ → Result (Bor (List ℕ)) Stop → Type 0
GridRead g m left g' m' r = Read (head_of g) (λ cs. Holds cs g m) (λ cs. Holds cs g' m') left r
