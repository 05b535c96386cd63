use Rattle.std.proofs.Common.{ℕ, List, [], ◌∷◌, refl, arith, lit<, lit≤}
use Rattle.kinds.specs.declared.crossing.Ray.TheVariants.{One}
use Rattle.kinds.specs.declared.crossing.Crossing.{Crossing}
use Rattle.kinds.specs.declared.crossing.Crossing.TheVariants as cross
use Rattle.kinds.specs.declared.lane.Lane.{Lane}
use Rattle.kinds.specs.Runs.{cost_of}
use Rattle.costs.specs.Lengths.{lengths, stopped, length_same}
use Rattle.worked.proofs.worked_examples.Goals as goal

-- a metre without risk
lane : ℕ → Crossing → Lane
lane p x = record { to = p; length = 100; risk = 0; crossing = x }

north_lanes : List Lane
unfolding lane
north_lanes = lane 3 cross.None ∷ lane 6 cross.None ∷ lane 7 cross.None ∷ lane 8 (cross.Forwards One) ∷ []

south_lanes : List Lane
unfolding lane
south_lanes = lane 1 cross.None ∷ lane 2 cross.None ∷ lane 5 cross.None ∷ lane 8 cross.None ∷ []

pub returns : goal.returns
unfolding lane north_lanes south_lanes
returns c = record {
  opposites = refl;
  inner = refl;
  conjugate = refl;
  parities = refl;
  slope = refl;
  longest = lit≤ tt;
  too_long = λ h. omega arith;
  back = refl;
  east = (refl, (lit≤ tt, lit≤ tt, lit≤ tt, lit≤ tt, lit≤ tt, lit≤ tt), ((tt, (lit≤ tt, lit≤ tt), (λ x. x), tt, lit< tt), ((tt, (lit< tt, lit< tt), tt, tt, tt), tt)));
  north_about = (north_lanes, (refl, (refl, (refl, (refl, (lit< tt, refl))))), refl, length_same (cost_of lengths north_lanes) (stopped 400) refl);
  south_about = (south_lanes, (refl, (refl, (refl, (refl, (lit< tt, refl))))), refl, length_same (cost_of lengths south_lanes) (stopped 400) refl);
}
