-- The elements of a list and one more, and an element taken out of a list.
use Rattle.std.proofs.Common.{◌≡◌, ℕ, zero, suc, ◌<◌, ◌⊎◌, List, [], ◌∷◌, length, get_or, set, sym, refl, ap, ◌∙◌, subst, inl, inr, suc-le-suc, arith}
use Rattle.std.specs.List.Sorted.{IsPermutation}
use Rattle.std.specs.List.{ContainsAt as Has}
use Rattle.std.proofs.lemmas.List.Sorted.{IsPermutation-refl, IsPermutation-cons, IsPermutation-trans, IsPermutation-swap}
use Rattle.charts.specs.Charts.{Stands}
use Rattle.charts.proofs.Stands.{stands_some}

module _ {X : Type 0} where
  pub has_first : (x : X) (xs : List X) → Has (x ∷ xs) x
  has_first x xs = (0, omega arith, λ d. refl)

  pub has_later : (y x : X) (xs : List X) → Has xs x → Has (y ∷ xs) x
  has_later y x xs (k, lt, at) = (suc k, suc-le-suc lt, at)

  pub has_cases : (y x : X) (xs : List X) → Has (y ∷ xs) x → (y ≡ x) ⊎ Has xs x
  has_cases y x xs (zero, lt, at) = inl (at x)
  has_cases y x xs (suc k, lt, at) = inr (k, omega arith, at)

  pub swap_first : (x y : X) (xs : List X) → IsPermutation (x ∷ y ∷ xs) (y ∷ x ∷ xs)
  swap_first x y xs = IsPermutation-swap (x ∷ y ∷ xs) (y ∷ x ∷ xs) 0 1 (omega arith) (omega arith) refl

  -- with the element y at the place p taken out, others are left, and x put there stands beside the same ones
  pub taken_out : (ws : List X) (p : ℕ) (x y : X) → p < length ws → Stands ws p y →
      (rest : List X) × IsPermutation ws (y ∷ rest) × IsPermutation (set ws p x) (x ∷ rest)
  taken_out [] p x y lt at = absurd (never p lt)
    where
      never : (p : ℕ) → p < 0 → ⊥
      never p lt = omega arith
  taken_out (w ∷ ws) zero x y lt at =
      (ws, subst (λ (z : X). IsPermutation (w ∷ ws) (z ∷ ws)) (at w) (IsPermutation-refl (w ∷ ws)), IsPermutation-refl (x ∷ ws))
  taken_out (w ∷ ws) (suc p) x y lt at =
      let (rest, a, b) = taken_out ws p x y (omega arith) at in (
        w ∷ rest,
        IsPermutation-trans (w ∷ ws) (w ∷ y ∷ rest) (y ∷ w ∷ rest) (IsPermutation-cons w ws (y ∷ rest) a) (swap_first w y rest),
        IsPermutation-trans (w ∷ set ws p x) (w ∷ x ∷ rest) (x ∷ w ∷ rest) (IsPermutation-cons w (set ws p x) (x ∷ rest) b) (swap_first w x rest),
      )

pub nil_from_length : {X : Type 0} (xs : List X) → length xs ≡ 0 → xs ≡ []
nil_from_length [] e = refl
nil_from_length (x ∷ xs) e = absurd (never (length xs) e)
  where
    never : (n : ℕ) → suc n ≡ 0 → ⊥
    never n e = omega arith

-- what a read at the place gives stands there
pub stands_got : {X : Type 0} (xs : List X) (i j : ℕ) (d : X) → i < length xs → j ≡ i → Stands xs i (get_or xs j d)
stands_got xs i j d lt e = let (x, at) = stands_some xs i lt in subst (Stands xs i) (sym (ap (λ a. get_or xs a d) e ∙ at d)) at
