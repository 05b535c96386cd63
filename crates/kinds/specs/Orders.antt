-- Total orders. Assumes nothing.
--     Ordered X        a total order on X that says Equal exactly for equal elements
--     Under o x y      x is not above y in the order o
use Rattle.std.specs.Prelude.{◌≡◌, ◌⊎◌}
use Rattle.std.specs.declared.cmp.Ordering.TheVariants.{Less, Equal}
use Rattle.std.specs.declared.cmp.Ordering.{Ordering}
use Rattle.std.specs.Ordering.{ordering_reverse}

pub record Ordered (X : Type 0) : Type 0 where
  pub cmp : X → X → Ordering
  pub same : (x y : X) → cmp x y ≡ Equal → x ≡ y
  pub itself : (x : X) → cmp x x ≡ Equal
  pub flip : (x y : X) → cmp x y ≡ ordering_reverse (cmp y x)
  pub trans : (x y z : X) → cmp x y ≡ Less → cmp y z ≡ Less → cmp x z ≡ Less

abbrev pub Under : {X : Type 0} → Ordered X → X → X → Type 0
Under o x y = (o.cmp x y ≡ Less) ⊎ (o.cmp x y ≡ Equal)
