-- The map that a list of commands means. Assumes nothing.
--     posts_of cs         the posts of the commands, in order: the k-th casts ray k
--     Blocked cs c r      some block command names the point at the column c and the row r; is_blocked tests it
--     risk_after k cs c r the risk of that point: that of the last weigh command for it, or else k
--     told_grid w h s cs  the grid of the commands
--     surveys_of cs       the survey numbers of the points, in order: the i-th is that of point i
--     index_of ss s       where s first stands among ss, and as many as there are if it does not
--     links_of cs         the lane commands in order, with the points at their ends
--     no_link             no lane command
--     told_road cs        the roadmap of the commands
--     site_of h cs        the map that the opening command h and the commands cs mean
use Rattle.std.specs.Prelude.{◌≡◌, ℕ, suc, Bool, false, cond, ◌&&◌, ◌||◌, ◌⊎◌, List, [], ◌∷◌, ◌==◌, slice_index_or}
use Rattle.kinds.specs.Maps.{Site}
use Rattle.plans.specs.declared.plan.Post.{Post}
use Rattle.plans.specs.declared.road.Link.{Link}
use Rattle.plans.specs.Plans.{Head, grid, road, Command, post, block, weigh, point, join, points, joins}
use Rattle.plans.specs.Grids.{Terrain, grid_site}
use Rattle.plans.specs.Roads.{Net, road_site}

abbrev pub posts_of : List Command → List Post
posts_of [] = []
posts_of (post c r ∷ cs) = record { column = c; row = r } ∷ posts_of cs
posts_of (block c r ∷ cs) = posts_of cs
posts_of (weigh c r k ∷ cs) = posts_of cs
posts_of (point s ∷ cs) = posts_of cs
posts_of (join a b l k x ∷ cs) = posts_of cs

abbrev pub Blocked : List Command → ℕ → ℕ → Type 0
Blocked [] c r = ⊥
Blocked (post d q ∷ cs) c r = Blocked cs c r
Blocked (block d q ∷ cs) c r = ((d ≡ c) × (q ≡ r)) ⊎ Blocked cs c r
Blocked (weigh d q x ∷ cs) c r = Blocked cs c r
Blocked (point s ∷ cs) c r = Blocked cs c r
Blocked (join a b l x y ∷ cs) c r = Blocked cs c r

abbrev pub is_blocked : List Command → ℕ → ℕ → Bool
is_blocked [] c r = false
is_blocked (post d q ∷ cs) c r = is_blocked cs c r
is_blocked (block d q ∷ cs) c r = (d == c && q == r) || is_blocked cs c r
is_blocked (weigh d q x ∷ cs) c r = is_blocked cs c r
is_blocked (point s ∷ cs) c r = is_blocked cs c r
is_blocked (join a b l x y ∷ cs) c r = is_blocked cs c r

abbrev pub risk_after : ℕ → List Command → ℕ → ℕ → ℕ
risk_after k [] c r = k
risk_after k (post d q ∷ cs) c r = risk_after k cs c r
risk_after k (block d q ∷ cs) c r = risk_after k cs c r
risk_after k (weigh d q x ∷ cs) c r = risk_after (cond (d == c && q == r) x k) cs c r
risk_after k (point s ∷ cs) c r = risk_after k cs c r
risk_after k (join a b l x y ∷ cs) c r = risk_after k cs c r

abbrev pub told_grid : ℕ → ℕ → ℕ → List Command → Terrain
told_grid w h s cs = record { width = w; height = h; spacing = s; posts = posts_of cs; blocked = is_blocked cs; risk = risk_after 0 cs }

abbrev pub surveys_of : List Command → List ℕ
surveys_of [] = []
surveys_of (post c r ∷ cs) = surveys_of cs
surveys_of (block c r ∷ cs) = surveys_of cs
surveys_of (weigh c r k ∷ cs) = surveys_of cs
surveys_of (point s ∷ cs) = s ∷ surveys_of cs
surveys_of (join a b l k x ∷ cs) = surveys_of cs

abbrev pub index_of : List ℕ → ℕ → ℕ
index_of [] s = 0
index_of (x ∷ xs) s = cond (x == s) 0 (suc (index_of xs s))

-- the lane commands, where ss are the survey numbers of all points
abbrev pub links_in : List ℕ → List Command → List Link
links_in ss [] = []
links_in ss (post c r ∷ cs) = links_in ss cs
links_in ss (block c r ∷ cs) = links_in ss cs
links_in ss (weigh c r k ∷ cs) = links_in ss cs
links_in ss (point s ∷ cs) = links_in ss cs
links_in ss (join a b l k x ∷ cs) = record { first = index_of ss a; second = index_of ss b; length = l; risk = k; crossing = x } ∷ links_in ss cs

abbrev pub links_of : List Command → List Link
links_of cs = links_in (surveys_of cs) cs

abbrev pub no_link : Link
no_link = record { first = 0; second = 0; length = 0; risk = 0; crossing = 0 }

abbrev pub told_road : List Command → Net
told_road cs = record { points = points cs; lanes = joins cs; link = λ a. slice_index_or (links_of cs) a no_link }

abbrev pub site_of : Head → List Command → Site
site_of (grid w h s) cs = grid_site (told_grid w h s cs)
site_of road cs = road_site (told_road cs)
