-- The opening command of a grid before the others: an accepted plan, and a refused one.
use Rattle.std.proofs.Common.{◌≡◌, ℕ, ◌+◌, ◌*◌, ◌/◌, ◌%◌, ◌<◌, ◌≤◌, true, false, List, [], ◌∷◌, ◌++◌, length, get_or, sym, refl, ap, ◌∙◌, subst, inl, inr, arith}
use Rattle.std.proofs.lemmas.Bool.Decides.{nat_tests}
use Rattle.plans.specs.declared.plan.Grid.{Grid}
use Rattle.plans.specs.Plans.{Head, grid, spell_head, spell_all, HeadInRange, AllGood, Reads, refused}
use Rattle.plans.specs.GridPlans.{head_of, Accepts}
use Rattle.plans.specs.GridSteps.{Holds}
use Rattle.plans.specs.Steps.{Ends, Fails}
use Rattle.plans.specs.Grids.{sized}
use Rattle.plans.specs.Places.{sized_parts}
use Rattle.plans.proofs.Fronts.{rest, front}
use Rattle.plans.proofs.GridMemory.{tells_from_holds}

-- four operands behind the letter spell the opening command
pub spelled_grid : (xs : List ℕ) (s : ℕ) → 4 ≤ length xs → s ≡ get_or xs 2 0 * 256 + get_or xs 3 0 → get_or xs 3 0 < 256
    → 71 ∷ xs ≡ spell_head (grid (get_or xs 0 0) (get_or xs 1 0) s) ++ rest 4 xs
spelled_grid xs s l e low =
    let high_is : get_or xs 2 0 ≡ s / 256 = omega arith in
    let low_is : get_or xs 3 0 ≡ s % 256 = omega arith in
    ap (λ ys. 71 ∷ ys) (front 4 xs l)
    ∙ (ap (λ b. 71 ∷ (get_or xs 0 0 ∷ (get_or xs 1 0 ∷ (b ∷ (get_or xs 3 0 ∷ rest 4 xs))))) high_is
    ∙ ap (λ b. 71 ∷ (get_or xs 0 0 ∷ (get_or xs 1 0 ∷ (s / 256 ∷ (b ∷ rest 4 xs))))) low_is)

-- the test of the sizes and the spacing
pub head_from_sized : (w h s : ℕ) → sized w h s ≡ true → HeadInRange (grid w h s)
head_from_sized w h s e = let z = sized_parts w h s e in (z.wide, z.narrow, z.high, z.low, z.long, z.short)

pub sized_from_head : (w h s : ℕ) → sized w h s ≡ false → HeadInRange (grid w h s) → ⊥
sized_from_head w h s e (wide, narrow, high, low, long, short) = grind (arith, nat_tests)

-- good commands up to the end command: the plan is accepted
pub accepts_from_ends : (bytes xs : List ℕ) (h : Head) (g : Grid) (m : List ℕ) → bytes ≡ spell_head h ++ xs → HeadInRange h → head_of g ≡ h → Ends h xs (λ cs. Holds cs g m) → Accepts bytes g m
accepts_from_ends bytes xs h g m e range same ends =
    let good : AllGood (head_of g) [] ends.commands = subst (λ (k : Head). AllGood k [] ends.commands) (sym same) ends.begins.good in
    let size : HeadInRange (head_of g) = subst (λ (k : Head). HeadInRange k) (sym same) range in
    let all : bytes ≡ spell_head h ++ (spell_all ends.commands ++ (69 ∷ [])) = e ∙ ap (λ ys. spell_head h ++ ys) ends.begins.spelled in
    record {
      commands = ends.commands;
      reads = (subst (λ (k : Head). bytes ≡ spell_head k ++ (spell_all ends.commands ++ (69 ∷ []))) (sym same) all, size, good);
      tells = tells_from_holds ends.commands g m size good ends.holds;
    }

-- good commands up to a fault: the plan is refused
pub refused_from_fails : (bytes xs : List ℕ) (h : Head) (n o at : ℕ) → bytes ≡ spell_head h ++ xs → HeadInRange h → Fails h xs n o → at ≡ length (spell_head h) + o → Reads bytes (refused n at)
refused_from_fails bytes xs h n o at e range fails far =
    inr (inr (inr (inr (
      h,
      fails.commands,
      fails.left,
      fails.at,
      e ∙ ap (λ ys. spell_head h ++ ys) fails.begins.spelled,
      range,
      fails.begins.good,
      fails.fault,
      far ∙ ap (λ k. length (spell_head h) + k) fails.offset,
    ))))

-- an opening command out of range
pub refused_from_head : (bytes xs : List ℕ) (h : Head) → bytes ≡ spell_head h ++ xs → (HeadInRange h → ⊥) → Reads bytes (refused 6 0)
refused_from_head bytes xs h e none = inr (inr (inr (inl (h, xs, e, none, refl, refl))))
