-- The cost kind of lengths. Assumes nothing.
--     stopped n        n centimetres, or the largest length where n is above it
--     lengths          the cost kind: the sum stops at the largest length, a lane costs its length, the limit of n is n
use Rattle.std.specs.Prelude.{◌≡◌, ℕ, ◌+◌, ◌≤◌, min, refl}
use Rattle.std.proofs.Common.{arith}
use mathlib.Core.HLevel.{is_prop→PathP}
use Rattle.std.proofs.Math.Bridge.{le_prop}
use Rattle.kinds.specs.Orders.{Ordered, Under}
use Rattle.kinds.specs.Comparisons.{numbers, keyed}
use Rattle.kinds.specs.Costs.{CostKind}
use Rattle.kinds.proofs.Numbers.{under_from_le, le_from_under}
use Rattle.costs.specs.declared.length.Length.{Length}
use Rattle.costs.specs.Limits.{most}

-- lengths of the same number of centimetres are the same
pub length_same : (x y : Length) → x.centimetres ≡ y.centimetres → x ≡ y
length_same x y e = λ i. record { centimetres = e i; top = is_prop→PathP (λ j. e j ≤ most) (λ j. le_prop) x.top y.top i }

pub min_most : (n : ℕ) → min n most ≤ most
min_most n = omega arith

abbrev pub stopped : ℕ → Length
stopped n = record { centimetres = min n most; top = min_most n }

abbrev pub plus : Length → Length → Length
plus x y = stopped (x.centimetres + y.centimetres)

abbrev pub shortest : Ordered Length
shortest = keyed (λ x. x.centimetres) length_same numbers

pub plus_assoc : (x y z : Length) → plus (plus x y) z ≡ plus x (plus y z)
plus_assoc x y z = length_same (plus (plus x y) z) (plus x (plus y z)) (omega arith)

pub zero_plus : (x : Length) → plus (stopped 0) x ≡ x
zero_plus x = length_same (plus (stopped 0) x) x (omega (arith, x.top))

pub plus_zero : (x : Length) → plus x (stopped 0) ≡ x
plus_zero x = length_same (plus x (stopped 0)) x (omega (arith, x.top))

pub plus_left : (x y z : Length) → Under shortest x y → Under shortest (plus x z) (plus y z)
plus_left x y z h = under_from_le (plus x z).centimetres (plus y z).centimetres (omega (arith, le_from_under x.centimetres y.centimetres h))

pub plus_right : (x y z : Length) → Under shortest x y → Under shortest (plus z x) (plus z y)
plus_right x y z h = under_from_le (plus z x).centimetres (plus z y).centimetres (omega (arith, le_from_under x.centimetres y.centimetres h))

abbrev pub lengths : CostKind Length
lengths = record {
  order = shortest;
  zero = stopped 0;
  plus = plus;
  of = λ l r. stopped l;
  limit = stopped;
  assoc = plus_assoc;
  left = zero_plus;
  right = plus_zero;
  least = λ x. under_from_le 0 x.centimetres (omega arith);
  mono_left = plus_left;
  mono_right = plus_right;
  longer = λ m n h. under_from_le (min m most) (min n most) (omega arith);
  nothing = refl;
  shorter = λ a l b r h. under_from_le (min a most) (min (min l most + min b most) most) (omega arith);
}
