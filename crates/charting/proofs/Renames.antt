-- A slot that names a place can be rewritten.
use Rattle.std.proofs.Common.{◌≡◌, ℕ, ◌+◌, ◌<◌, Bool, true, false, List, set, sym, ◌∙◌, subst, inl, inr, arith, get_or-set_other, get_or-set_same}
use Rattle.std.proofs.lemmas.Bool.{cases_eq}
use Rattle.tables.specs.Indexes.{Names, Rewrites}
use Rattle.tables.proofs.Meeting.{names_within}

pub renamed : (from to : List ℕ) (i k : ℕ) (r : Bool) → k < 65535 → (p : ℕ) × Names from i p → Rewrites i k from to r → to ≡ set from i (k + 1)
renamed from to i k true low taken (_, _, _, e) = e
renamed from to i k false low (p, names) (inl high, e) = absurd (omega arith)
renamed from to i k false low (p, names) (inr (inl past), e) = absurd (omega (arith, names_within from i p names))
renamed from to i k false low (p, names) (inr (inr vacant), e) = absurd (let z : p + 1 ≡ 0 = sym names ∙ vacant in omega arith)

-- a slot that names a place does so still when another is made to name that place
pub still_taken : (slots slots' : List ℕ) (s u p q : ℕ) → slots' ≡ set slots s (q + 1) → Names slots s p → Names slots u q → (k : ℕ) × Names slots' u k
still_taken slots slots' s u p q e names names' = (
  q,
  subst (λ (l : List ℕ). Names l u q) (sym e) (elim (cases_eq u s) [
    | inl e ↦ subst (λ a. Names (set slots s (q + 1)) a q) (sym e) (get_or-set_same slots s (q + 1) 0 (names_within slots s p names))
    | inr ne ↦ get_or-set_other slots s u (q + 1) 0 ne ∙ names'
  ]),
)
