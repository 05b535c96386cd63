-- The cost kind of slopes. Assumes nothing.
--     steep n          the slope n
--     slopes           the cost kind: the sum is the larger slope, a lane costs its risk, the limit of n is the smaller of n and the steepest
use Rattle.std.specs.Prelude.{◌≡◌, ℕ, min, max, refl}
use Rattle.std.proofs.Common.{arith}
use Rattle.kinds.specs.Orders.{Ordered, Under}
use Rattle.kinds.specs.Comparisons.{numbers, keyed}
use Rattle.kinds.specs.Costs.{CostKind}
use Rattle.kinds.proofs.Numbers.{under_from_le, le_from_under}
use Rattle.costs.specs.declared.slope.Slope.{Slope}
use Rattle.costs.specs.Limits.{steepest}

abbrev pub steep : ℕ → Slope
steep n = record { grade = n }

pub slope_same : (x y : Slope) → x.grade ≡ y.grade → x ≡ y
slope_same x y e = λ i. steep (e i)

abbrev pub plus : Slope → Slope → Slope
plus x y = steep (max x.grade y.grade)

abbrev pub flattest : Ordered Slope
flattest = keyed (λ x. x.grade) slope_same numbers

pub plus_assoc : (x y z : Slope) → plus (plus x y) z ≡ plus x (plus y z)
plus_assoc x y z = slope_same (plus (plus x y) z) (plus x (plus y z)) (omega arith)

pub zero_plus : (x : Slope) → plus (steep 0) x ≡ x
zero_plus x = slope_same (plus (steep 0) x) x (omega arith)

pub plus_zero : (x : Slope) → plus x (steep 0) ≡ x
plus_zero x = slope_same (plus x (steep 0)) x (omega arith)

pub plus_left : (x y z : Slope) → Under flattest x y → Under flattest (plus x z) (plus y z)
plus_left x y z h = under_from_le (plus x z).grade (plus y z).grade (omega (arith, le_from_under x.grade y.grade h))

pub plus_right : (x y z : Slope) → Under flattest x y → Under flattest (plus z x) (plus z y)
plus_right x y z h = under_from_le (plus z x).grade (plus z y).grade (omega (arith, le_from_under x.grade y.grade h))

abbrev pub slopes : CostKind Slope
slopes = record {
  order = flattest;
  zero = steep 0;
  plus = plus;
  of = λ l r. steep r;
  limit = λ n. steep (min n steepest);
  assoc = plus_assoc;
  left = zero_plus;
  right = plus_zero;
  least = λ x. under_from_le 0 x.grade (omega arith);
  mono_left = plus_left;
  mono_right = plus_right;
  longer = λ m n h. under_from_le (min m steepest) (min n steepest) (omega arith);
  nothing = refl;
  shorter = λ a l b r h. under_from_le 0 (max r 0) (omega arith);
}
