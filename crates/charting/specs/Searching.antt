-- What holds while the search goes on. Assumes nothing.
use Rattle.std.specs.Prelude.{◌≡◌, ℕ, ◌<◌, ◌⊎◌, Some, Option}
use Rattle.std.specs.declared.cmp.Ordering.TheVariants.{Less}
use Rattle.kinds.specs.declared.lane.Lane.{Lane}
use Rattle.kinds.specs.Orders.{Under}
use Rattle.kinds.specs.Maps.{Site}
use Rattle.kinds.specs.Classes.{ClassKind, crossed}
use Rattle.kinds.specs.Costs.{CostKind}
pub use Rattle.steps.specs.Leads.{onward}
use Rattle.kinds.specs.Reaches.{RunsAt, Cheapest, tail, Within}

-- some of the pairs: `F p g c` says that the point p with class g is one of them, at the cost c
abbrev pub Pairs : (E K : Type 0) → Type 1
Pairs E K = ℕ → E → K → Type 0

abbrev pub Nothing : {E K : Type 0} → Pairs E K
Nothing p g c = ⊥

-- all that is found: the closed, the one at hand, the open
abbrev pub Known : {E K : Type 0} → Pairs E K → Pairs E K → Pairs E K → Pairs E K
Known S X O p g c = S p g c ⊎ (X p g c ⊎ O p g c)

-- the one pair p g at the cost c
abbrev pub Only : {E K : Type 0} → ℕ → E → K → Pairs E K
Only p g c q h b = (q ≡ p) × (h ≡ g) × (b ≡ c)

-- the pair is among F, at no more than the cost c
abbrev pub NoDearer : {E K : Type 0} → CostKind K → Pairs E K → Pairs E K
NoDearer {K = K} k F p g c = (b : K) × F p g b × Under k.order b c

-- from p g at the cost c, if the number n names a lane there that does not lead out of the limit, it leads to a pair among F, at no more than what it costs this way
abbrev pub Closed : {K : Type 0} → Site → (G : ClassKind) → CostKind K → Option ℕ → ℕ → Pairs G.Element K → ℕ → G.Element → K → ℕ → Type 0
Closed m G k aim cable F p g c n =
    (l : Lane) → m.lane p n ≡ Some l → Within m k aim cable l.to (onward k c l) →
    NoDearer k F l.to (G.mul g (crossed G l.crossing)) (onward k c l)

-- p at the cost c comes no later than q at the cost b: by bound, then by cost
abbrev pub NoLater : {K : Type 0} → Site → CostKind K → Option ℕ → ℕ → K → ℕ → K → Type 0
NoLater m k aim p c q b =
    (k.order.cmp (k.plus c (tail m k aim p)) (k.plus b (tail m k aim q)) ≡ Less)
    ⊎ ((k.plus c (tail m k aim p) ≡ k.plus b (tail m k aim q)) × Under k.order c b)

-- nor later than any of O
abbrev pub Soonest : {E K : Type 0} → Site → CostKind K → Option ℕ → Pairs E K → ℕ → K → Type 0
Soonest {E} {K} m k aim O p c = (q : ℕ) (h : E) (b : K) → O q h b → NoLater m k aim p c q b

-- S are settled and closed, X is settled and closed below the lane number i, O are open
pub record Searched {K : Type 0} (m : Site) (G : ClassKind) (k : CostKind K) (reel : ℕ) (aim : Option ℕ) (cable : ℕ) (S X : Pairs G.Element K) (i : ℕ) (O : Pairs G.Element K) : Type 0 where
  pub cheapest : (p : ℕ) (g : G.Element) (c : K) → S p g c ⊎ X p g c → Cheapest m G k reel p g c
  pub runs : (p : ℕ) (g : G.Element) (c : K) → O p g c → RunsAt m G k reel p g c
  pub within : (p : ℕ) (g : G.Element) (c : K) → Known S X O p g c → Within m k aim cable p c
  pub apart : (p : ℕ) (g : G.Element) (b c : K) → S p g b ⊎ X p g b → O p g c → ⊥
  pub start : Within m k aim cable reel k.zero → NoDearer k (Known S X O) reel G.unit k.zero
  pub closed : (p : ℕ) (g : G.Element) (c : K) (n : ℕ) → S p g c → Closed m G k aim cable (Known S X O) p g c n
  pub partly : (p : ℕ) (g : G.Element) (c : K) (n : ℕ) → X p g c → n < i → Closed m G k aim cable (Known S X O) p g c n
