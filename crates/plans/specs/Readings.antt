-- What reading a plan answers, and what it leaves in the lent memory. Assumes nothing.
--     vacant                   the index slots with none taken
--     Accepted bytes p m       the bytes are an accepted plan: the record p and the memory m hold what its commands say, and their map answers so
--     Fits bytes m s           the plan is not too long, and the memory and the slots have their sizes
--     RefusedAs bytes e        the bytes are refused with the number of e at its offset
--     ReadAs bytes m s n t r   reading answers r and leaves the memory n and the slots t, where they held m and s
use Rattle.std.specs.Prelude.{◌≡◌, ℕ, ◌<◌, ◌≤◌, ◌⊎◌, List, length, replicate, Some, Ok, Err, Result}
use Rattle.kinds.specs.declared.refusal.Refusal.{Refusal}
use Rattle.kinds.specs.declared.refusal.Refusal.TheVariants.{PlanTooLong, MemorySize}
use Rattle.kinds.specs.Refusals.{number_of, offset_of}
use Rattle.plans.specs.declared.plan.Plan.{Plan}
use Rattle.plans.specs.Plans.{Command, Reads, accepted, refused}
use Rattle.plans.specs.Meanings.{site_of}
use Rattle.plans.specs.Holdings.{head_of, Tells, plan_site, blank}

abbrev pub vacant : List ℕ
vacant = replicate 1024 0

pub record Accepted (bytes : List ℕ) (p : Plan) (m : List ℕ) : Type 0 where
  pub commands : List Command
  pub reads : Reads bytes (accepted (head_of p) commands)
  pub tells : Tells commands p m
  pub maps : plan_site p m ≡ site_of (head_of p) commands

abbrev pub Fits : List ℕ → List ℕ → List ℕ → Type 0
Fits bytes m s = (length bytes ≤ 65535) × (length m ≡ 10240) × (length s ≡ 1024)

abbrev pub RefusedAs : List ℕ → Refusal → Type 0
RefusedAs bytes e = (o : ℕ) × (offset_of e ≡ Some o) × Reads bytes (refused (number_of e) o)

-- what is read, and what memory it leaves
abbrev pub Outcome : List ℕ → List ℕ → Result Plan Refusal → Type 0
Outcome bytes n (Ok p) = Accepted bytes p n
Outcome bytes n (Err e) = RefusedAs bytes e × (n ≡ blank)

abbrev pub ReadAs : List ℕ → List ℕ → List ℕ → List ℕ → List ℕ → Result Plan Refusal → Type 0
ReadAs bytes m s n t r =
    ((r ≡ Err PlanTooLong) × (65535 < length bytes) × (n ≡ m) × (t ≡ s))
    ⊎ (((r ≡ Err MemorySize) × (length bytes ≤ 65535) × (Fits bytes m s → ⊥) × (n ≡ m) × (t ≡ s))
    ⊎ (Fits bytes m s × Outcome bytes n r × (t ≡ vacant)))
