-- What a cost kind is. Assumes nothing.
--     CostKind K       a total order of the costs K, zero, the sum, the cost of a length and a risk, the limit of a cable number, and their laws
use Rattle.std.specs.Prelude.{◌≡◌, ℕ, ◌+◌, ◌≤◌}
use Rattle.kinds.specs.Orders.{Ordered, Under}

pub record CostKind (K : Type 0) : Type 0 where
  pub order : Ordered K
  pub zero : K
  pub plus : K → K → K
  pub of : ℕ → ℕ → K
  pub limit : ℕ → K
  pub assoc : (x y z : K) → plus (plus x y) z ≡ plus x (plus y z)
  pub left : (x : K) → plus zero x ≡ x
  pub right : (x : K) → plus x zero ≡ x
  pub least : (x : K) → Under order zero x
  pub mono_left : (x y z : K) → Under order x y → Under order (plus x z) (plus y z)
  pub mono_right : (x y z : K) → Under order x y → Under order (plus z x) (plus z y)
  pub longer : (m n : ℕ) → m ≤ n → Under order (limit m) (limit n)
  pub nothing : of 0 0 ≡ zero
  pub shorter : (a l b r : ℕ) → a ≤ l + b → Under order (of a 0) (plus (of l r) (of b 0))
