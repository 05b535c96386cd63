-- What a map is. Assumes nothing.
--     Site               the points of a map, its limit on lane numbers, the lane that a number names at a point, and the estimate for a point and an aim
--     back n             the number of the lane back: n with its lowest bit flipped
--     LawfulLanes m      the laws of points and lanes
--     LawfulEstimates m  the laws of estimates
--     Lawful m           both
--     Next m p n o       o is the first lane number from n on that names a lane at p, or none if no such number does
use Rattle.std.specs.Prelude.{◌≡◌, ℕ, ◌+◌, ◌-◌, ◌*◌, ◌%◌, ◌<◌, ◌≤◌, ◌⊎◌, Some, None, Option}
use Rattle.kinds.specs.declared.lane.Lane.{Lane}
use Rattle.kinds.specs.Crossings.{other_way}

pub record Site : Type 0 where
  pub points : ℕ
  pub limit : ℕ
  pub lane : ℕ → ℕ → Option Lane
  pub estimate : ℕ → ℕ → ℕ

abbrev pub back : ℕ → ℕ
back n = (n + 1) - 2 * (n % 2)

pub record LawfulLanes (m : Site) : Type 0 where
  pub few_points : m.points ≤ 4096
  pub few_lanes : m.limit ≤ 16384
  pub starts : (p n : ℕ) (l : Lane) → m.lane p n ≡ Some l → (p < m.points) × (n < m.limit)
  pub sized : (p n : ℕ) (l : Lane) → m.lane p n ≡ Some l → (1 ≤ l.length) × (l.length ≤ 65535) × (l.risk ≤ 255)
  pub returns : (p n : ℕ) (l : Lane) → m.lane p n ≡ Some l → m.lane l.to (back n) ≡ Some (record { to = p; length = l.length; risk = l.risk; crossing = other_way l.crossing })

pub record LawfulEstimates (m : Site) : Type 0 where
  pub near : (p a : ℕ) → m.estimate p a ≤ 1000000
  pub at_aim : (a : ℕ) → m.estimate a a ≡ 0
  pub nowhere : (p a : ℕ) → (m.points ≤ p) ⊎ (m.points ≤ a) → m.estimate p a ≡ 0
  pub consistent : (p n a : ℕ) (l : Lane) → m.lane p n ≡ Some l → m.estimate p a ≤ l.length + m.estimate l.to a

pub record Lawful (m : Site) : Type 0 where
  pub lanes : LawfulLanes m
  pub estimates : LawfulEstimates m

abbrev pub Next : Site → ℕ → ℕ → Option ℕ → Type 0
Next m p n None = (k : ℕ) → n ≤ k → m.lane p k ≡ None
Next m p n (Some k) = (n ≤ k) × ((l : Lane) × (m.lane p k ≡ Some l)) × ((j : ℕ) → n ≤ j → j < k → m.lane p j ≡ None)
