-- What a run within the limit says of its beginnings.
use Rattle.std.proofs.Common.{◌≡◌, ℕ, List, [], ◌∷◌, ◌++◌, Some, None, Option, sym, refl, ap, ◌∙◌, subst}
use Rattle.kinds.specs.declared.lane.Lane.{Lane}
use Rattle.kinds.specs.Orders.{Under}
use Rattle.kinds.specs.Maps.{Site, LawfulEstimates}
use Rattle.kinds.specs.Classes.{ClassKind}
use Rattle.kinds.specs.Costs.{CostKind}
use Rattle.kinds.specs.Runs.{Run, cost_of}
use Rattle.kinds.specs.Reaches.{tail, Reach, Lies}
use Rattle.kinds.proofs.Orders.{under_of_eq, under_trans}
use Rattle.kinds.proofs.Runs.{cost_append}

module _ {K : Type 0} (m : Site) (law : LawfulEstimates m) (k : CostKind K) where
  -- the tail falls by no more than a lane costs
  pub lane_tail : (aim : Option ℕ) (p n : ℕ) (l : Lane) → m.lane p n ≡ Some l →
      Under k.order (tail m k aim p) (k.plus (k.of l.length l.risk) (tail m k aim l.to))
  lane_tail None p n l e = k.least _
  lane_tail (Some a) p n l e = k.shorter _ _ _ _ (law.consistent p n a l e)

  -- nor by more than a run costs
  pub run_tail : (aim : Option ℕ) (p : ℕ) (ns : List ℕ) (ls : List Lane) (q : ℕ) → Run m p ns ls q →
      Under k.order (tail m k aim p) (k.plus (cost_of k ls) (tail m k aim q))
  run_tail aim p [] [] q r = under_of_eq k.order _ _ (ap (tail m k aim) r.1 ∙ sym (k.left _))
  run_tail aim p [] (l ∷ ls) q r = absurd r
  run_tail aim p (n ∷ ns) [] q r = absurd r
  run_tail aim p (n ∷ ns) (l ∷ ls) q r =
      under_trans k.order _ _ _ (lane_tail aim p n l r.0)
      (under_trans k.order _ _ _ (k.mono_right _ _ _ (run_tail aim l.to ns ls q r.1))
      (under_of_eq k.order _ _ (sym (k.assoc _ _ _))))

  -- the bound never falls along a run: c is what it cost to get to p
  pub run_bound : (aim : Option ℕ) (c : K) (p : ℕ) (ns : List ℕ) (ls : List Lane) (q : ℕ) → Run m p ns ls q →
      Under k.order (k.plus c (tail m k aim p)) (k.plus (k.plus c (cost_of k ls)) (tail m k aim q))
  run_bound aim c p ns ls q r =
      under_trans k.order _ _ _ (k.mono_right _ _ _ (run_tail aim p ns ls q r)) (under_of_eq k.order _ _ (sym (k.assoc _ _ _)))

  -- nor does the cost
  pub cost_grows : (c d : K) → Under k.order c (k.plus c d)
  cost_grows c d = subst (λ (x : K). Under k.order x (k.plus c d)) (k.right c) (k.mono_right _ _ _ (k.least d))

  -- a beginning of a run within the limit is within it
  pub prefix_within : (aim : Option ℕ) (top : K) (p : ℕ) (ns more : List ℕ) (ls lanes : List Lane) (q t : ℕ) → Run m p ns ls q → Run m q more lanes t →
      Under k.order (k.plus (cost_of k (ls ++ lanes)) (tail m k aim t)) top → Under k.order (k.plus (cost_of k ls) (tail m k aim q)) top
  prefix_within aim top p ns more ls lanes q t r s h =
      under_trans k.order _ _ _ (run_bound aim (cost_of k ls) q more lanes t s)
      (under_trans k.order _ _ _ (under_of_eq k.order _ _ (ap (λ (x : K). k.plus x (tail m k aim t)) (sym (cost_append k ls lanes)))) h)

  -- a lower cost has a lower bound
  pub bound_mono : (aim : Option ℕ) (c d : K) (p : ℕ) → Under k.order c d → Under k.order (k.plus c (tail m k aim p)) (k.plus d (tail m k aim p))
  bound_mono aim c d p h = k.mono_left _ _ _ h

  -- no tail is left where there is no aim, and at the aim
  pub tail_no_aim : (p : ℕ) → tail m k None p ≡ k.zero
  tail_no_aim p = refl

  pub tail_at_aim : (a : ℕ) → tail m k (Some a) a ≡ k.zero
  tail_at_aim a = ap (λ (x : ℕ). k.of x 0) (law.at_aim a) ∙ k.nothing

  -- so there the reach is what lies within the cable; elsewhere it is part of it
  pub lies_of_reach : (G : ClassKind) (reel : ℕ) (aim : Option ℕ) (cable p : ℕ) (g : G.Element) → Reach m G k reel aim cable p g → Lies m G k reel cable p g
  lies_of_reach G reel aim cable p g (c, r, u) = (c, r, under_trans k.order _ _ _ (cost_grows c (tail m k aim p)) u)

  pub reach_of_lies : (G : ClassKind) (reel : ℕ) (aim : Option ℕ) (cable p : ℕ) (g : G.Element) → tail m k aim p ≡ k.zero → Lies m G k reel cable p g → Reach m G k reel aim cable p g
  reach_of_lies G reel aim cable p g e (c, r, u) =
      (c, r, under_trans k.order _ _ _ (under_of_eq k.order _ _ (ap (k.plus c) e ∙ k.right c)) u)
