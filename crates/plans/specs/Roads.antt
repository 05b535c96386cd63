-- What a roadmap is, and the map that it means. Assumes nothing.
--     Net              how many points and how many links there are, and each link by its place
--     few n            n points if a roadmap may have so many, else none
--     sound n k        the link k may stand between n points: its ends are points and differ, it has a length, and its crossing byte stands for a crossing
--     onward k         the lane along the link k from its first end to its second
--     backward k       the lane from its second end back to its first
--     leg k p s        the lane along the link k that starts at p: onward if s is 0, else backward
--     stands t n       the number n names a lane of the net t: link n / 2
--     road_site t      the map of the net t
--     two_at m i       the number in the two bytes from i on, high byte first
--     link_at m a      the link in the eight bytes from 8 a on: first end, second end, length, risk, crossing byte
--     net_in r m       the net that the record r and the memory m hold
--     net_of f v       the net that the view v holds, where f says which bytes its memory holds
use Rattle.std.specs.Prelude.{ℕ, ◌+◌, ◌*◌, ◌/◌, ◌%◌, min, Bool, cond, not, ◌&&◌, List, Some, None, Option, ◌==◌, nat_le, nat_lt, slice_index}
use Rattle.kinds.specs.declared.lane.Lane.{Lane}
use Rattle.kinds.specs.Crossings.{other_way}
use Rattle.kinds.specs.Maps.{Site}
use Rattle.plans.specs.declared.plan.Road.{Road}
use Rattle.plans.specs.declared.road.Link.{Link}
use Rattle.plans.specs.declared.road.RoadMap.{RoadMap}
use Rattle.plans.specs.Rays.{is_crossing, crossing_of}

pub record Net : Type 0 where
  pub points : ℕ
  pub lanes : ℕ
  pub link : ℕ → Link

abbrev pub few : ℕ → ℕ
few n = cond (nat_le n 512) n 0

abbrev pub sound : ℕ → Link → Bool
sound n k = nat_lt k.first n && (nat_lt k.second n && (not (k.first == k.second) && (nat_le 1 k.length && is_crossing k.crossing)))

-- a length is two bytes, and a risk is one
abbrev pub onward : Link → Lane
onward k = record { to = k.second; length = min k.length 65535; risk = min k.risk 255; crossing = crossing_of k.crossing }

abbrev pub backward : Link → Lane
backward k = record { to = k.first; length = min k.length 65535; risk = min k.risk 255; crossing = other_way (crossing_of k.crossing) }

abbrev pub leg : Link → ℕ → ℕ → Option Lane
leg k p s = cond (s == 0) (cond (p == k.first) (Some (onward k)) None) (cond (p == k.second) (Some (backward k)) None)

abbrev pub stands : Net → ℕ → Bool
stands t n = nat_lt n 2048 && (nat_lt (n / 2) t.lanes && sound (few t.points) (t.link (n / 2)))

abbrev pub road_site : Net → Site
road_site t = record {
  points = few t.points;
  limit = 2048;
  lane = λ p n. cond (stands t n) (leg (t.link (n / 2)) p (n % 2)) None;
  estimate = λ p a. 0;
}

abbrev pub two_at : List ℕ → ℕ → ℕ
two_at m i = 256 * slice_index m i + slice_index m (i + 1)

abbrev pub link_at : List ℕ → ℕ → Link
link_at m a = record { first = two_at m (8 * a); second = two_at m (8 * a + 2); length = two_at m (8 * a + 4); risk = slice_index m (8 * a + 6); crossing = slice_index m (8 * a + 7) }

abbrev pub net_in : Road → List ℕ → Net
net_in r m = record { points = r.points; lanes = r.lanes; link = link_at m }

abbrev pub net_of : {B : Type 0} → (B → List ℕ) → RoadMap B → Net
net_of f v = net_in v.road (f v.memory)
