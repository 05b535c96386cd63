-- The order of numbers, and what it says of at most.
use Rattle.std.proofs.Common.{◌≡◌, ℕ, ◌<◌, ◌≤◌, ◌⊎◌, Ordering, Less, Equal, Greater, refl, subst, inl, inr, arith}
use Rattle.std.specs.Ordering.{MatchOrdering, nat_cmp}
use Rattle.std.specs.Cmp.{ranks}
use Rattle.kinds.specs.Orders.{Under}
use Rattle.kinds.specs.Comparisons.{numbers}

pub under_from_le : (m n : ℕ) → m ≤ n → Under numbers m n
under_from_le m n h = go (nat_cmp m n) (ranks m n)
  where
    go : (r : Ordering) → MatchOrdering r (m < n) (m ≡ n) (n < m) → (r ≡ Less) ⊎ (r ≡ Equal)
    go Less k = inl refl
    go Equal k = inr refl
    go Greater k = absurd (omega arith)

pub le_from_under : (m n : ℕ) → Under numbers m n → m ≤ n
le_from_under m n (inl e) = let h : m < n = subst (λ r. MatchOrdering r (m < n) (m ≡ n) (n < m)) e (ranks m n) in omega arith
le_from_under m n (inr e) = let h : m ≡ n = subst (λ r. MatchOrdering r (m < n) (m ≡ n) (n < m)) e (ranks m n) in omega arith
