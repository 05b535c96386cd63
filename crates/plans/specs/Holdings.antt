-- How a plan lies in its record and its memory of 10,240 bytes, every byte of it. Assumes nothing.
--     head_of p          the opening command that the record p is of
--     nowhere            the post in the places of the record that no post has
--     Placed cs g        the record's posts are those of the commands
--     GridTells cs g m   the record g and the memory m hold what the commands of a grid say
--     laid k             the eight bytes of a lane command
--     RoadTells cs r m   the record r and the memory m hold what the commands of a roadmap say
--     Tells cs p m       the record p of either kind and the memory m hold what the commands say
--     plan_site p m      the map that the record p and the memory m make
--     blank              the memory before reading: every byte 0
use Rattle.std.specs.Prelude.{◌≡◌, ℕ, ◌+◌, ◌-◌, ◌*◌, ◌<◌, ◌≤◌, List, [], ◌∷◌, ◌++◌, length, replicate, slice_index, slice_index_or}
use Rattle.kinds.specs.Maps.{Site}
use Rattle.plans.specs.declared.plan.Post.{Post}
use Rattle.plans.specs.declared.plan.Grid.{Grid}
use Rattle.plans.specs.declared.plan.Road.{Road}
use Rattle.plans.specs.declared.plan.Plan.{Plan}
use Rattle.plans.specs.declared.plan.Plan.TheVariants as kind
use Rattle.plans.specs.declared.road.Link.{Link}
use Rattle.plans.specs.Plans.{Head, grid, road, Command, two, four, posts, points, joins}
use Rattle.plans.specs.Grids.{place, grid_site, viewed}
use Rattle.plans.specs.Roads.{road_site, net_in}
use Rattle.plans.specs.Meanings.{posts_of, Blocked, risk_after, surveys_of, links_of, no_link}

abbrev pub head_of : Plan → Head
head_of (kind.Grid g) = grid g.width g.height g.spacing
head_of (kind.Road r) = road

abbrev pub nowhere : Post
nowhere = record { column = 0; row = 0 }

pub record Placed (cs : List Command) (g : Grid) : Type 0 where
  pub counted : g.count ≡ posts cs
  pub few : posts cs ≤ 7
  pub placed : g.posts ≡ posts_of cs ++ replicate (7 - posts cs) nowhere

-- byte p is the risk of the point p, byte 4096 + p is 1 if it is blocked, and all else is 0
pub record GridTells (cs : List Command) (g : Grid) (m : List ℕ) : Type 0 where
  pub posted : Placed cs g
  pub long : length m ≡ 10240
  pub risks : (c r : ℕ) → c < g.width → r < g.height → slice_index m (place g.width c r) ≡ risk_after 0 cs c r
  pub blocked : (c r : ℕ) → c < g.width → r < g.height → Blocked cs c r → slice_index m (4096 + place g.width c r) ≡ 1
  pub free : (c r : ℕ) → c < g.width → r < g.height → (Blocked cs c r → ⊥) → slice_index m (4096 + place g.width c r) ≡ 0
  pub beyond : (i : ℕ) → g.height * g.width ≤ i → i < 4096 → slice_index m i ≡ 0
  pub after : (i : ℕ) → 4096 + g.height * g.width ≤ i → slice_index m i ≡ 0

-- both ends and the length, high byte first, then the risk and the crossing byte
abbrev pub laid : Link → List ℕ
laid k = two k.first ++ (two k.second ++ (two k.length ++ (k.risk ∷ k.crossing ∷ [])))

-- the a-th lane command stands at 8 a, the i-th survey number at 8192 + 4 i, and all else is 0
pub record RoadTells (cs : List Command) (r : Road) (m : List ℕ) : Type 0 where
  pub pointed : r.points ≡ points cs
  pub joined : r.lanes ≡ joins cs
  pub long : length m ≡ 10240
  pub lanes : (a j : ℕ) → a < joins cs → j < 8 → slice_index m (8 * a + j) ≡ slice_index (laid (slice_index_or (links_of cs) a no_link)) j
  pub beyond : (i : ℕ) → 8 * joins cs ≤ i → i < 8192 → slice_index m i ≡ 0
  pub surveys : (i j : ℕ) → i < points cs → j < 4 → slice_index m (8192 + 4 * i + j) ≡ slice_index (four (slice_index (surveys_of cs) i)) j
  pub after : (i : ℕ) → 8192 + 4 * points cs ≤ i → slice_index m i ≡ 0

abbrev pub Tells : List Command → Plan → List ℕ → Type 0
Tells cs (kind.Grid g) m = GridTells cs g m
Tells cs (kind.Road r) m = RoadTells cs r m

abbrev pub plan_site : Plan → List ℕ → Site
plan_site (kind.Grid g) m = grid_site (viewed g m)
plan_site (kind.Road r) m = road_site (net_in r m)

abbrev pub blank : List ℕ
blank = replicate 10240 0
