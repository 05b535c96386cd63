-- The faults that stand at the front of what is left.
use Rattle.std.proofs.Common.{◌≡◌, ℕ, ◌<◌, ◌≤◌, List, ◌∷◌, ◌++◌, length, get_or, refl, ap, ◌∙◌, inl, inr}
use Rattle.plans.specs.Plans.{Head, Command, Letter, spell, Belongs, Fault}
use Rattle.plans.specs.RoadSteps.{Judged}
use Rattle.plans.proofs.Fronts.{rest, front, front_letter}

pub fault_more : (h : Head) (cs : List Command) (xs : List ℕ) → 1 ≤ length xs → get_or xs 0 0 ≡ 69 → 1 ≤ length (rest 1 xs) → Fault h cs xs 10 1
fault_more h cs xs l e m =
    inr (inl (get_or (rest 1 xs) 0 0, rest 1 (rest 1 xs), front_letter xs 69 l e ∙ ap (λ ys. 69 ∷ ys) (front 1 (rest 1 xs) m), refl, refl))

-- fewer bytes follow the letter than its operands take
pub fault_short : (h : Head) (cs : List Command) (b w : ℕ) (xs : List ℕ) → Letter h b w → length xs < w → Fault h cs (b ∷ xs) 5 0
fault_short h cs b w xs a m = inr (inr (inr (inl (b, xs, w, refl, a, m, refl, refl))))

pub fault_judged : (h : Head) (cs : List Command) (xs : List ℕ) (c : Command) (ys : List ℕ) (n : ℕ) → xs ≡ spell c ++ ys → Belongs h c → Judged h cs c n → Fault h cs xs n 0
fault_judged h cs xs c ys n e b j = inr (inr (inr (inr (c, ys, e, b, refl, j))))
