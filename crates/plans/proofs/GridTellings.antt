-- A grid's view answers as the commands say.
use Rattle.std.proofs.Common.{◌≡◌, ℕ, ◌+◌, ◌-◌, ◌/◌, ◌%◌, ◌<◌, min, max, Bool, true, false, cond, not, ◌&&◌, ◌||◌, eqb, ltb, leb, List, [], ◌∷◌, length, get_or, take, replicate, Some, None, Decides, sym, refl, ap, ◌∙◌, inl, inr, true≢false, arith}
use Rattle.std.proofs.lemmas.List.{take_at}
use Rattle.std.proofs.lemmas.Bool.{ltb-true, lt-leb, cases_Bool}
use Rattle.std.proofs.lemmas.Bool.Decides.{Decides-or, Decides-and, Decides-eqb, not_from_Decides}
use Rattle.kinds.specs.declared.crossing.Crossing.{Crossing}
use Rattle.kinds.specs.declared.crossing.Crossing.TheVariants as cross
use Rattle.kinds.specs.Crossings.{other_way}
use Rattle.plans.specs.declared.plan.Post.{Post}
use Rattle.plans.specs.declared.plan.Grid.{Grid}
use Rattle.plans.specs.Plans.{Command, post, block, weigh, point, join, posts}
use Rattle.plans.specs.Grids.{Terrain, sized, points_of, place, eastward, way, lane_at, grid_site, viewed}
use Rattle.plans.specs.Meanings.{posts_of, Blocked, is_blocked, risk_after, told_grid}
use Rattle.plans.specs.Holdings.{nowhere, Placed, GridTells}
use Rattle.plans.specs.Places.{sized_from_point, inside, place_below, few_points}

pub decides_blocked : (cs : List Command) (c r : ℕ) → Decides (is_blocked cs c r) (Blocked cs c r)
decides_blocked [] c r = (λ e. absurd (true≢false (sym e)), λ h. absurd h)
decides_blocked (post d q ∷ cs) c r = decides_blocked cs c r
decides_blocked (block d q ∷ cs) c r = Decides-or (eqb d c && eqb q r) (is_blocked cs c r) (Decides-and (eqb d c) (eqb q r) (Decides-eqb d c) (Decides-eqb q r)) (decides_blocked cs c r)
decides_blocked (weigh d q x ∷ cs) c r = decides_blocked cs c r
decides_blocked (point s ∷ cs) c r = decides_blocked cs c r
decides_blocked (join a b l x y ∷ cs) c r = decides_blocked cs c r

pub length-posts_of : (cs : List Command) → length (posts_of cs) ≡ posts cs
length-posts_of [] = refl
length-posts_of (post c r ∷ cs) = omega (arith, length-posts_of cs)
length-posts_of (block c r ∷ cs) = length-posts_of cs
length-posts_of (weigh c r k ∷ cs) = length-posts_of cs
length-posts_of (point s ∷ cs) = length-posts_of cs
length-posts_of (join a b l k x ∷ cs) = length-posts_of cs

-- the posts that count are those of the commands
pub take_posts : (cs : List Command) (g : Grid) → Placed cs g → take g.count g.posts ≡ posts_of cs
take_posts cs g h =
    let rest = replicate (7 - posts cs) nowhere in
    ap (take g.count) h.placed ∙ take_at (posts_of cs) rest g.count (length-posts_of cs ∙ sym h.counted)

-- what a byte of the memory's second part tells
flag_tells : (m : List ℕ) (i n : ℕ) → i < length m → get_or m i 0 ≡ n → (leb (length m) i || not (eqb (get_or m i 0) 0)) ≡ not (eqb n 0)
flag_tells m i n h e = ap (λ b. b || not (eqb (get_or m i 0) 0)) (lt-leb (length m) i h) ∙ ap (λ k. not (eqb k 0)) e

-- two grids that differ at most off the grid have the same map
module _ (w h s : ℕ) (ps : List Post) (b d : ℕ → ℕ → Bool) (k j : ℕ → ℕ → ℕ)
    (same_block : sized w h s ≡ true → (c r : ℕ) → c < w → r < h → b c r ≡ d c r) (same-risk : (c r : ℕ) → c < w → r < h → k c r ≡ j c r) where
  abbrev one : Terrain
  one = record { width = w; height = h; spacing = s; posts = ps; blocked = b; risk = k }

  abbrev other : Terrain
  other = record { width = w; height = h; spacing = s; posts = ps; blocked = d; risk = j }

  way_same : (e : Bool) (c r c' r' : ℕ) (x : Crossing) → sized w h s ≡ true → c < w → r < h → (e ≡ true → (c' < w) × (r' < h)) → way one e c r c' r' x ≡ way other e c r c' r' x
  way_same false c r c' r' x z l m f = refl
  way_same true c r c' r' x z l m f =
      let on = f refl in
      λ i. cond (not (same_block z c r l m i) && not (same_block z c' r' on.0 on.1 i))
      (Some (record { to = place w c' r'; length = s; risk = min (max (same-risk c r l m i) (same-risk c' r' on.0 on.1 i)) 255; crossing = x })) None

  lane_same : (c r n : ℕ) → sized w h s ≡ true → c < w → r < h → lane_at one c r n ≡ lane_at other c r n
  lane_same c r n z l m =
      let x = eastward 1 ps c r in
      let y = other_way (eastward 1 ps (c - 1) r) in
      let east = way_same (ltb (c + 1) w) c r (c + 1) r x z l m (λ e. (ltb-true (c + 1) w e, m)) in
      let west = way_same (ltb 0 c) c r (c - 1) r y z l m (λ e. (omega arith, m)) in
      let north = way_same (ltb (r + 1) h) c r c (r + 1) cross.None z l m (λ e. (l, ltb-true (r + 1) h e)) in
      let south = way_same (ltb 0 r) c r c (r - 1) cross.None z l m (λ e. (l, omega arith)) in
      λ i. cond (eqb n 0) (east i) (cond (eqb n 1) (west i) (cond (eqb n 2) (north i) (cond (eqb n 3) (south i) None)))

  at_point : (p n : ℕ) (t : Bool) → (t ≡ true → p < points_of w h s) → cond t (lane_at one (p % w) (p / w) n) None ≡ cond t (lane_at other (p % w) (p / w) n) None
  at_point p n false f = refl
  at_point p n true f =
      let on = inside w h s p (f refl) in
      lane_same (p % w) (p / w) n (sized_from_point w h s p (f refl)) on.column on.row

  pub site_same : grid_site one ≡ grid_site other
  site_same = λ i. record {
    points = points_of w h s;
    limit = 4;
    lane = λ p n. at_point p n (ltb p (points_of w h s)) (ltb-true p (points_of w h s)) i;
    estimate = (grid_site one).estimate;
  }

-- the view of a grid answers as the commands say
pub grid_tells : (cs : List Command) (g : Grid) (m : List ℕ) → GridTells cs g m → grid_site (viewed g m) ≡ grid_site (told_grid g.width g.height g.spacing cs)
grid_tells cs g m t =
    let w = g.width in
    let h = g.height in
    let s = g.spacing in
    let flag : ℕ → ℕ → ℕ = λ c r. 4096 + place w c r in
    let blocked : ℕ → ℕ → Bool = (viewed g m).blocked in
    let risk : ℕ → ℕ → ℕ = (viewed g m).risk in
    let within : sized w h s ≡ true → (c r : ℕ) → c < w → r < h → flag c r < length m =
    λ z c r l k. omega (arith, place_below w h s c r z l k, few_points w h s, t.long) in
    let same : sized w h s ≡ true → (c r : ℕ) → c < w → r < h → blocked c r ≡ is_blocked cs c r = λ z c r l k.
    elim (cases_Bool (is_blocked cs c r)) [
      | inl e ↦ flag_tells m (flag c r) 1 (within z c r l k) (t.blocked c r l k ((decides_blocked cs c r).0 e)) ∙ sym e
      | inr e ↦ flag_tells m (flag c r) 0 (within z c r l k) (t.free c r l k (not_from_Decides (is_blocked cs c r) (decides_blocked cs c r) e)) ∙ sym e
    ] in
    (λ i. grid_site (record { width = w; height = h; spacing = s; posts = take_posts cs g t.posted i; blocked = blocked; risk = risk }))
    ∙ site_same w h s (posts_of cs) blocked (is_blocked cs) risk (risk_after 0 cs) same t.risks
