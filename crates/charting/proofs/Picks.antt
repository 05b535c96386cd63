-- Why the least open pair is at its cheapest, and why nothing is missed once none is open.
use Rattle.std.proofs.Common.{ℕ, ◌⊎◌, List, [], ◌∷◌, Option, sym, ◌∙◌, subst, inl, inr}
use Rattle.kinds.specs.declared.lane.Lane.{Lane}
use Rattle.kinds.specs.Orders.{Under}
use Rattle.kinds.specs.Maps.{Site, Lawful}
use Rattle.kinds.specs.Classes.{ClassKind, crossed}
use Rattle.kinds.specs.Costs.{CostKind}
use Rattle.kinds.specs.Runs.{Run, class_of, cost_of}
use Rattle.kinds.specs.Reaches.{RunsAt, Cheapest, Reach, tail, Within}
use Rattle.charting.specs.Searching.{Pairs, Nothing, Known, NoDearer, Searched, NoLater, Soonest}
use Rattle.kinds.proofs.Orders.{under_trans, under_or_above, less_not_under}
use Rattle.kinds.proofs.Limits.{run_bound, cost_grows}

module _ {K : Type 0} (m : Site) (law : Lawful m) (G : ClassKind) (k : CostKind K) (reel : ℕ) (aim : Option ℕ) (cable : ℕ) where
  -- a run to p with class g at the cost c comes to a settled pair, or through an open one
  abbrev pub Arrives : Pairs G.Element K → Pairs G.Element K → Pairs G.Element K
  Arrives S O p g c =
      NoDearer k S p g c
      ⊎ ((q : ℕ) × (h : G.Element) × (b : K) × O q h b × Under k.order (k.plus b (tail m k aim q)) (k.plus c (tail m k aim p)) × Under k.order b c)

  module _ (S O : Pairs G.Element K) (i : ℕ) (inv : Searched m G k reel aim cable S Nothing i O) where
    through : (ns : List ℕ) (ls : List Lane) (q : ℕ) (h : G.Element) (b c : K) (p : ℕ) (g : G.Element) → Run m q ns ls p → O q h b → Under k.order b c →
        Arrives S O p g (k.plus c (cost_of k ls))
    through ns ls q h b c p g r o u =
        inr (
          q,
          h,
          b,
          o,
          under_trans k.order _ _ _ (k.mono_left _ _ _ u) (run_bound m law.estimates k aim c q ns ls p r),
          under_trans k.order _ _ _ u (cost_grows m law.estimates k c (cost_of k ls)),
        )

    -- from a found pair, along a run within the limit
    pub walk : (ns : List ℕ) (ls : List Lane) (q : ℕ) (h : G.Element) (b c : K) (p : ℕ) →
        Run m q ns ls p → Known S Nothing O q h b → Under k.order b c → Within m k aim cable p (k.plus c (cost_of k ls)) →
        Arrives S O p (G.mul h (class_of G ls)) (k.plus c (cost_of k ls))
    walk [] [] q h b c p r f u w =
        elim f [
          | inl s ↦
              inl (
                b,
                subst (λ (x : ℕ). S x (G.mul h G.unit) b) r.1 (subst (λ (x : G.Element). S q x b) (sym (G.right h)) s),
                subst (λ (x : K). Under k.order b x) (sym (k.right c)) u,
              )
          | inr (inl x) ↦ absurd x
          | inr (inr o) ↦ through [] [] q h b c p (G.mul h G.unit) r o u
        ]
    walk [] (l ∷ ls) q h b c p r f u w = absurd r
    walk (n ∷ ns) [] q h b c p r f u w = absurd r
    walk (n ∷ ns) (l ∷ ls) q h b c p r f u w =
        elim f [
          | inl s ↦
              let v : Under k.order (k.plus b d) (k.plus c d) = k.mono_left _ _ _ u in
              let w' : Within m k aim cable p (k.plus (k.plus c d) (cost_of k ls)) =
              subst (λ (x : K). Within m k aim cable p x) (sym (k.assoc c d (cost_of k ls))) w in
              let near : Within m k aim cable l.to (k.plus b d) =
              under_trans k.order _ _ _ (k.mono_left _ _ _ v)
              (under_trans k.order _ _ _ (run_bound m law.estimates k aim (k.plus c d) l.to ns ls p r.1) w') in
              let (b', f', u') = inv.closed q h b n s l r.0 near in
              subst (λ (x : G.Element). Arrives S O p x (k.plus c (k.plus d (cost_of k ls)))) (G.assoc _ _ _)
              (subst (λ (x : K). Arrives S O p (G.mul (G.mul h (crossed G l.crossing)) (class_of G ls)) x) (k.assoc c d (cost_of k ls))
              (walk ns ls l.to (G.mul h (crossed G l.crossing)) b' (k.plus c d) p r.1 f' (under_trans k.order _ _ _ u' v) w'))
          | inr (inl x) ↦ absurd x
          | inr (inr o) ↦ through (n ∷ ns) (l ∷ ls) q h b c p (G.mul h (class_of G (l ∷ ls))) r o u
        ]
      where
        d : K
        d = k.of l.length l.risk

    -- every run within the limit
    pub arrives : (p : ℕ) (g : G.Element) (c : K) → RunsAt m G k reel p g c → Within m k aim cable p c → Arrives S O p g c
    arrives p g c (ns, ls, r, e, f) w =
        let w' : Within m k aim cable p (k.plus k.zero (cost_of k ls)) = subst (λ (x : K). Within m k aim cable p x) (sym (k.left _ ∙ f)) w in
        let near : Within m k aim cable reel k.zero = under_trans k.order _ _ _ (run_bound m law.estimates k aim k.zero reel ns ls p r) w' in
        let (b, a, u) = inv.start near in
        subst (λ (x : G.Element). Arrives S O p x c) (G.left _ ∙ e)
        (subst (λ (x : K). Arrives S O p (G.mul G.unit (class_of G ls)) x) (k.left _ ∙ f)
        (walk ns ls reel G.unit b k.zero p r a u w'))

    -- the least open pair is at the cost of its cheapest run
    pub pick : (p : ℕ) (g : G.Element) (c : K) → O p g c → Soonest m k aim O p c → Cheapest m G k reel p g c
    pick p g c o least = (inv.runs p g c o, under)
      where
        by_open : (d : K) (q : ℕ) (h : G.Element) (b : K) → O q h b →
            Under k.order (k.plus b (tail m k aim q)) (k.plus d (tail m k aim p)) → Under k.order b d → NoLater m k aim p c q b → Under k.order c d
        by_open d q h b o' v u (inr e) = under_trans k.order _ _ _ e.1 u
        by_open d q h b o' v u (inl e) =
            elim (under_or_above k.order c d) [
              | inl a ↦ a
              | inr a ↦ absurd (less_not_under k.order _ _ e (under_trans k.order _ _ _ v (k.mono_left _ _ _ (inl a))))
            ]

        by_arrival : (d : K) → Arrives S O p g d → Under k.order c d
        by_arrival d (inl s) = absurd (inv.apart p g s.0 c (inl s.1) o)
        by_arrival d (inr (q, h, b, o', v, u)) = by_open d q h b o' v u (least q h b o')

        under : (d : K) → RunsAt m G k reel p g d → Under k.order c d
        under d r =
            elim (under_or_above k.order c d) [
              | inl a ↦ a
              | inr a ↦ by_arrival d (arrives p g d r (under_trans k.order _ _ _ (k.mono_left _ _ _ (inl a)) (inv.within p g c (inr (inr o)))))
            ]

    -- with nothing open, all of the reach is settled
    pub done : ((p : ℕ) (g : G.Element) (c : K) → O p g c → ⊥) → (p : ℕ) (g : G.Element) → Reach m G k reel aim cable p g → (c : K) × S p g c
    done none p g (c, r, w) =
        elim (arrives p g c r w) [
          | inl s ↦ (s.0, s.1)
          | inr s ↦ absurd (none s.0 s.1 s.2 s.3)
        ]
