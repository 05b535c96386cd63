-- What a grid is, and the map that it means. Assumes nothing.
--     Terrain          columns, rows, spacing, posts in order, and what is blocked and the risk at a column and a row
--     sized w h s      these columns, rows and spacing are in range
--     points_of w h s  how many points there are: none if a size is out of range
--     Inside w h c r   the column c and the row r are on a grid with w columns and h rows, each at most 64
--     place w c r      the number of the point at the column c and the row r, where a row has w points
--     over p c y       the lane between the columns c and c + 1 on the row y crosses the ray of the post p
--     eastward k ps c y  what that lane crosses going east, where the rays of the posts ps are numbered from k on
--     crossed ps c r d q    what the lane between neighbours, from (c, r) to (d, q), crosses where the posts ps stand
--     beside w h c r n      where the neighbour with the number n of (c, r) lies, if it is on the grid
--     lane_to t c r d q x   the lane from (c, r) to (d, q) that crosses x: as long as the spacing, with the larger risk of its ends
--     way t e c r d q x  that lane, if it stays on the grid, as e says, and neither end is blocked
--     lane_at t c r n  the lane with the number n at (c, r)
--     apart a b        the difference of two numbers
--     grid_site t      the map of the grid t
--     viewed g m       the grid that the record g and the memory m hold: byte p is the risk of the point p, byte 4096 + p not 0 if it is blocked
--     terrain_of f v   the grid that the view v holds, where f says which bytes its memory holds
use Rattle.std.specs.Prelude.{ℕ, ◌+◌, ◌-◌, ◌*◌, ◌/◌, ◌%◌, ◌<◌, ◌≤◌, min, max, Bool, cond, not, ◌&&◌, ◌||◌, List, [], ◌∷◌, length, take, Some, None, Option, ◌==◌, nat_le, nat_lt, slice_index}
use Rattle.kinds.specs.declared.lane.Lane.{Lane}
use Rattle.kinds.specs.declared.crossing.Crossing.{Crossing}
use Rattle.kinds.specs.declared.crossing.Crossing.TheVariants as cross
use Rattle.kinds.specs.Crossings.{other_way}
use Rattle.kinds.specs.Maps.{Site}
use Rattle.plans.specs.declared.plan.Post.{Post}
use Rattle.plans.specs.declared.plan.Grid.{Grid}
use Rattle.plans.specs.declared.grid.GridMap.{GridMap}
use Rattle.plans.specs.declared.grid.Spot.{Spot}
use Rattle.plans.specs.Rays.{ahead}

pub record Terrain : Type 0 where
  pub width : ℕ
  pub height : ℕ
  pub spacing : ℕ
  pub posts : List Post
  pub blocked : ℕ → ℕ → Bool
  pub risk : ℕ → ℕ → ℕ

abbrev pub sized : ℕ → ℕ → ℕ → Bool
sized w h s = nat_le 2 w && nat_le w 64 && nat_le 2 h && nat_le h 64 && nat_le 1 s && nat_le s 1000

abbrev pub points_of : ℕ → ℕ → ℕ → ℕ
points_of w h s = cond (sized w h s) (w * h) 0

pub record Inside (w h c r : ℕ) : Type 0 where
  pub narrow : w ≤ 64
  pub low : h ≤ 64
  pub column : c < w
  pub row : r < h

abbrev pub place : ℕ → ℕ → ℕ → ℕ
place w c r = r * w + c

abbrev pub over : Post → ℕ → ℕ → Bool
over p c y = p.column == c && nat_le (p.row + 1) y

abbrev pub eastward : ℕ → List Post → ℕ → ℕ → Crossing
eastward k [] c y = cross.None
eastward k (p ∷ ps) c y = cond (over p c y) (ahead k) (eastward (k + 1) ps c y)

abbrev pub crossed : List Post → ℕ → ℕ → ℕ → ℕ → Crossing
crossed ps c r d q = cond (nat_lt c d) (eastward 1 ps c r) (cond (nat_lt d c) (other_way (eastward 1 ps d q)) cross.None)

-- 0 east, 1 west, 2 north, 3 south
abbrev pub beside : ℕ → ℕ → ℕ → ℕ → ℕ → Option Spot
beside w h c r n =
    cond (n == 0) (cond (nat_lt (c + 1) w) (Some (record { column = c + 1; row = r })) None)
    (cond (n == 1) (cond (nat_lt 0 c) (Some (record { column = c - 1; row = r })) None)
    (cond (n == 2) (cond (nat_lt (r + 1) h) (Some (record { column = c; row = r + 1 })) None)
    (cond (n == 3) (cond (nat_lt 0 r) (Some (record { column = c; row = r - 1 })) None)
    None)))

-- a risk is a byte
abbrev pub lane_to : Terrain → ℕ → ℕ → ℕ → ℕ → Crossing → Lane
lane_to t c r d q x = record { to = place t.width d q; length = t.spacing; risk = min (max (t.risk c r) (t.risk d q)) 255; crossing = x }

abbrev pub way : Terrain → Bool → ℕ → ℕ → ℕ → ℕ → Crossing → Option Lane
way t e c r d q x = cond (e && (not (t.blocked c r) && not (t.blocked d q))) (Some (lane_to t c r d q x)) None

-- 0 east, 1 west, 2 north, 3 south
abbrev pub lane_at : Terrain → ℕ → ℕ → ℕ → Option Lane
lane_at t c r n =
    cond (n == 0) (way t (nat_lt (c + 1) t.width) c r (c + 1) r (eastward 1 t.posts c r))
    (cond (n == 1) (way t (nat_lt 0 c) c r (c - 1) r (other_way (eastward 1 t.posts (c - 1) r)))
    (cond (n == 2) (way t (nat_lt (r + 1) t.height) c r c (r + 1) cross.None)
    (cond (n == 3) (way t (nat_lt 0 r) c r c (r - 1) cross.None)
    None)))

abbrev pub apart : ℕ → ℕ → ℕ
apart a b = (a - b) + (b - a)

abbrev pub grid_site : Terrain → Site
grid_site t = record {
  points = points_of t.width t.height t.spacing;
  limit = 4;
  lane = λ p n. cond (nat_lt p (points_of t.width t.height t.spacing)) (lane_at t (p % t.width) (p / t.width) n) None;
  estimate = λ p a. cond (nat_lt p (points_of t.width t.height t.spacing) && nat_lt a (points_of t.width t.height t.spacing)) ((apart (p % t.width) (a % t.width) + apart (p / t.width) (a / t.width)) * t.spacing) 0;
}

-- a point past the end of the memory is blocked
abbrev pub viewed : Grid → List ℕ → Terrain
viewed g m = record {
  width = g.width;
  height = g.height;
  spacing = g.spacing;
  posts = take g.count g.posts;
  blocked = λ c r. nat_le (length m) (4096 + place g.width c r) || not (slice_index m (4096 + place g.width c r) == 0);
  risk = λ c r. slice_index m (place g.width c r);
}

abbrev pub terrain_of : {B : Type 0} → (B → List ℕ) → GridMap B → Terrain
terrain_of f v = viewed v.grid (f v.memory)
