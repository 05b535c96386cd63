-- What is wrong with a command of a grid, said of the bytes that it stands in front of.
use Rattle.std.proofs.Common.{◌≡◌, ℕ, List, ◌++◌, refl, inl, inr, arith}
use Rattle.plans.specs.declared.plan.Grid.{Grid}
use Rattle.plans.specs.declared.fault.Fault.{Fault}
use Rattle.plans.specs.declared.fault.Fault.TheVariants.{UnknownCommand, CutShort, OutOfRange, GivenTwice, BadEnds, TooMany, AfterEnd}
use Rattle.plans.specs.Plans.{Head, Command, post, spell, Belongs, InRange}
use Rattle.plans.specs.Plans.{Fault as Faulty}
use Rattle.plans.specs.Faults.{fault_number}
use Rattle.plans.specs.GridPlans.{head_of}
use Rattle.plans.specs.Holdings.{Placed}
use Rattle.plans.specs.GridSteps.{PostFault}
use Rattle.plans.proofs.GridPosts.{posted_from_taken, fresh_from_free}

-- an operand is out of range
pub fault_range : (h : Head) (cs : List Command) (c : Command) (left next : List ℕ) → left ≡ spell c ++ next → Belongs h c → (InRange h c → ⊥) → Faulty h cs left 6 0
fault_range h cs c left next e b n = inr (inr (inr (inr (c, next, e, b, refl, inl (n, refl)))))

-- what the record says is wrong with a post is wrong after the commands that it holds
pub fault_post : (cs : List Command) (g : Grid) (c r : ℕ) (left next : List ℕ) (f : Fault) → Placed cs g → left ≡ spell (post c r) ++ next → PostFault g c r f
    → Faulty (head_of g) cs left (fault_number f) 0
fault_post cs g c r left next UnknownCommand p e w = absurd w
fault_post cs g c r left next CutShort p e w = absurd w
fault_post cs g c r left next OutOfRange p e w = fault_range (head_of g) cs (post c r) left next e tt w
fault_post cs g c r left next GivenTwice p e w =
    inr (inr (inr (inr (post c r, next, e, tt, refl, inr (inl (w.0, (λ fresh. fresh (posted_from_taken cs g c p w.1)), refl))))))
fault_post cs g c r left next BadEnds p e w = absurd w
fault_post cs g c r left next TooMany p e w =
    inr (inr (inr (inr (post c r, next, e, tt, refl, inr (inr (inr (w.0, fresh_from_free cs g c p w.1, tt, (λ room. omega (arith, p.counted, w.2)), refl)))))))
fault_post cs g c r left next AfterEnd p e w = absurd w
