-- One more command of a grid: the record and the memory hold what the longer list says.
use Rattle.std.proofs.Common.{◌≡◌, ℕ, ◌+◌, ◌*◌, List, [], ◌∷◌, ◌++◌, set, sym, refl, ap, ◌∙◌}
use Rattle.plans.specs.declared.plan.Grid.{Grid}
use Rattle.plans.specs.Plans.{Command, post, block, weigh}
use Rattle.plans.specs.GridPlans.{head_of}
use Rattle.plans.specs.Holdings.{blank}
use Rattle.plans.specs.Grids.{place}
use Rattle.plans.specs.Holdings.{Placed}
use Rattle.plans.specs.GridSteps.{write, written, Holds}
use Rattle.plans.proofs.GridPosts.{placed_same}

written-push : (w : ℕ) (m : List ℕ) (cs : List Command) (x : Command) → written w m (cs ++ (x ∷ [])) ≡ write w (written w m cs) x
written-push w m [] x = refl
written-push w m (c ∷ cs) x = written-push w (write w m c) cs x

same_width : (g g' : Grid) → head_of g ≡ head_of g' → g.width ≡ g'.width
same_width g g' e = cc

-- a post writes nothing to the memory
pub holds_post : (cs : List Command) (g g' : Grid) (m m' : List ℕ) (c r : ℕ) → head_of g' ≡ head_of g → m' ≡ m → Holds cs g m → Placed (cs ++ (post c r ∷ [])) g' → Holds (cs ++ (post c r ∷ [])) g' m'
holds_post cs g g' m m' c r e kept h placed = record {
  posted = placed;
  wrote = kept ∙ h.wrote ∙ (sym (written-push g.width blank cs (post c r)) ∙ ap (λ w. written w blank (cs ++ (post c r ∷ []))) (sym (same_width g' g e)));
}

-- a blocked point
pub holds_block : (cs : List Command) (g : Grid) (m : List ℕ) (c r i : ℕ) → i ≡ place g.width c r → Holds cs g m → Holds (cs ++ (block c r ∷ [])) g (set m (4096 + i) 1)
holds_block cs g m c r i e h = record {
  posted = placed_same cs (block c r) g refl refl h.posted;
  wrote = ap (λ j. set m (4096 + j) 1) e ∙ (ap (λ ys. set ys (4096 + (r * g.width + c)) 1) h.wrote ∙ sym (written-push g.width blank cs (block c r)));
}

-- a risk
pub holds_weigh : (cs : List Command) (g : Grid) (m : List ℕ) (c r k i : ℕ) → i ≡ place g.width c r → Holds cs g m → Holds (cs ++ (weigh c r k ∷ [])) g (set m i k)
holds_weigh cs g m c r k i e h = record {
  posted = placed_same cs (weigh c r k) g refl refl h.posted;
  wrote = ap (λ j. set m j k) e ∙ (ap (λ ys. set ys (r * g.width + c) k) h.wrote ∙ sym (written-push g.width blank cs (weigh c r k)));
}
