-- Bytes read as a number are its spelling.
use Rattle.std.proofs.Common.{◌≡◌, ℕ, ◌+◌, ◌*◌, ◌/◌, ◌%◌, ◌<◌, List, ◌∷◌, ◌++◌, arith}
use Rattle.plans.specs.Plans.{two}

pub two_bytes : (a b n : ℕ) (xs : List ℕ) → n ≡ a * 256 + b → b < 256 → a ∷ (b ∷ xs) ≡ two n ++ xs
two_bytes a b n xs e bl =
    let a_is : a ≡ n / 256 = omega arith in
    let b_is : b ≡ n % 256 = omega arith in
    cc
