-- Runs put together, with their class and cost.
use Rattle.std.proofs.Common.{◌≡◌, ℕ, ◌<◌, List, [], ◌∷◌, ◌++◌, map, Some, sym, refl, ap, ◌∙◌, subst}
use Rattle.std.proofs.lemmas.List.{map_push}
use Rattle.kinds.specs.declared.lane.Lane.{Lane}
use Rattle.kinds.specs.Maps.{Site, LawfulLanes, back}
use Rattle.kinds.specs.Classes.{ClassKind, crossed, product}
use Rattle.kinds.specs.Costs.{CostKind}
use Rattle.kinds.specs.Runs.{Run, class_of, cost_of}
use Rattle.kinds.specs.Reaches.{RunsAt}
use Rattle.kinds.proofs.Products.{product-push}

module _ (m : Site) where
  pub run_end : (p : ℕ) (ns : List ℕ) (ls : List Lane) (q : ℕ) → Run m p ns ls q → q < m.points
  run_end p [] [] q r = subst (λ (x : ℕ). x < m.points) r.1 r.0
  run_end p [] (l ∷ ls) q r = absurd r
  run_end p (n ∷ ns) [] q r = absurd r
  run_end p (n ∷ ns) (l ∷ ls) q r = run_end l.to ns ls q r.1

  -- the lane numbers name the lanes and the end
  pub run_unique : (p : ℕ) (ns : List ℕ) (ls ks : List Lane) (q t : ℕ) → Run m p ns ls q → Run m p ns ks t → (ls ≡ ks) × (q ≡ t)
  run_unique p [] [] [] q t r s = (refl, sym r.1 ∙ s.1)
  run_unique p [] [] (k ∷ ks) q t r s = absurd s
  run_unique p [] (l ∷ ls) [] q t r s = absurd r
  run_unique p [] (l ∷ ls) (k ∷ ks) q t r s = absurd r
  run_unique p (n ∷ ns) [] [] q t r s = absurd r
  run_unique p (n ∷ ns) [] (k ∷ ks) q t r s = absurd r
  run_unique p (n ∷ ns) (l ∷ ls) [] q t r s = absurd s
  run_unique p (n ∷ ns) (l ∷ ls) (k ∷ ks) q t r s =
      let e : l ≡ k = cc (r.0, s.0) in
      let u = run_unique k.to ns ls ks q t (subst (λ (x : Lane). Run m x.to ns ls q) e r.1) s.1 in
      ((cc (e, u.0)), u.1)

  -- a run cut after the lane numbers ns
  pub run_split : (p : ℕ) (ns more : List ℕ) (all : List Lane) (t : ℕ) → p < m.points → ((q n : ℕ) (l : Lane) → m.lane q n ≡ Some l → l.to < m.points) →
      Run m p (ns ++ more) all t →
      (ls : List Lane) × (lanes : List Lane) × (q : ℕ) × (all ≡ ls ++ lanes) × Run m p ns ls q × Run m q more lanes t
  run_split p [] more all t here ends r = ([], all, p, refl, (here, refl), r)
  run_split p (n ∷ ns) more [] t here ends r = absurd r
  run_split p (n ∷ ns) more (l ∷ all) t here ends r =
      let (ls, lanes, q, e, a, b) = run_split l.to ns more all t (ends p n l r.0) ends r.1 in
      (l ∷ ls, lanes, q, ap (λ (x : List Lane). l ∷ x) e, (r.0, a), b)

  pub run_append : (p : ℕ) (ns : List ℕ) (ls : List Lane) (q : ℕ) (more : List ℕ) (lanes : List Lane) (t : ℕ) →
      Run m p ns ls q → Run m q more lanes t → Run m p (ns ++ more) (ls ++ lanes) t
  run_append p [] [] q more lanes t r s = subst (λ x. Run m x more lanes t) (sym r.1) s
  run_append p [] (l ∷ ls) q more lanes t r s = absurd r
  run_append p (n ∷ ns) [] q more lanes t r s = absurd r
  run_append p (n ∷ ns) (l ∷ ls) q more lanes t r s = (r.0, run_append l.to ns ls q more lanes t r.1 s)

module _ (m : Site) (w : LawfulLanes m) where
  -- a lane ends at a point of the map, for a lane leads back from there
  pub lane_ends : (p n : ℕ) (l : Lane) → m.lane p n ≡ Some l → l.to < m.points
  lane_ends p n l e = (w.starts l.to (back n) _ (w.returns p n l e)).0

  -- one lane more at the end
  pub run_push : (p : ℕ) (ns : List ℕ) (ls : List Lane) (q n : ℕ) (l : Lane) → Run m p ns ls q → m.lane q n ≡ Some l → Run m p (ns ++ (n ∷ [])) (ls ++ (l ∷ [])) l.to
  run_push p ns ls q n l r e = run_append m p ns ls q (n ∷ []) (l ∷ []) l.to r (e, (lane_ends q n l e, refl))

  -- a run with its last lane taken off
  pub run_pop : (p : ℕ) (ns : List ℕ) (n : ℕ) (all : List Lane) (t : ℕ) → p < m.points → Run m p (ns ++ (n ∷ [])) all t →
      (ls : List Lane) × (l : Lane) × (q : ℕ) × (all ≡ ls ++ (l ∷ [])) × Run m p ns ls q × (m.lane q n ≡ Some l) × (l.to ≡ t)
  run_pop p ns n all t here r =
      let (ls, lanes, q, e, a, b) = run_split m p ns (n ∷ []) all t here lane_ends r in
      last ls lanes q e a b
    where
      last : (ls lanes : List Lane) (q : ℕ) → all ≡ ls ++ lanes → Run m p ns ls q → Run m q (n ∷ []) lanes t →
          (ls : List Lane) × (l : Lane) × (q : ℕ) × (all ≡ ls ++ (l ∷ [])) × Run m p ns ls q × (m.lane q n ≡ Some l) × (l.to ≡ t)
      last ls [] q e a b = absurd b
      last ls (l ∷ []) q e a b = (ls, l, q, e, a, b.0, b.1.1)
      last ls (l ∷ k ∷ ks) q e a b = absurd b.1

pub class_push : (G : ClassKind) (ls : List Lane) (l : Lane) → class_of G (ls ++ (l ∷ [])) ≡ G.mul (class_of G ls) (crossed G l.crossing)
class_push G ls l = ap (product G) (map_push (λ k. k.crossing) ls l) ∙ product-push G (map (λ k. k.crossing) ls) l.crossing

pub cost_push : {K : Type 0} (k : CostKind K) (ls : List Lane) (l : Lane) → cost_of k (ls ++ (l ∷ [])) ≡ k.plus (cost_of k ls) (k.of l.length l.risk)
cost_push k [] l = k.right (k.of l.length l.risk) ∙ sym (k.left (k.of l.length l.risk))
cost_push k (j ∷ ls) l = ap (k.plus (k.of j.length j.risk)) (cost_push k ls l) ∙ sym (k.assoc (k.of j.length j.risk) (cost_of k ls) (k.of l.length l.risk))

pub cost_append : {K : Type 0} (k : CostKind K) (ls ks : List Lane) → cost_of k (ls ++ ks) ≡ k.plus (cost_of k ls) (cost_of k ks)
cost_append k [] ks = sym (k.left (cost_of k ks))
cost_append k (l ∷ ls) ks = ap (k.plus (k.of l.length l.risk)) (cost_append k ls ks) ∙ sym (k.assoc _ _ _)

module _ {K : Type 0} (m : Site) (w : LawfulLanes m) (G : ClassKind) (k : CostKind K) (reel : ℕ) where
  -- the run with no lane
  pub runs_at_reel : reel < m.points → RunsAt m G k reel reel G.unit k.zero
  runs_at_reel h = ([], [], (h, refl), refl, refl)

  -- one lane more
  pub runs_at_lane : (p : ℕ) (g : G.Element) (c : K) (n : ℕ) (l : Lane) → RunsAt m G k reel p g c → m.lane p n ≡ Some l →
      RunsAt m G k reel l.to (G.mul g (crossed G l.crossing)) (k.plus c (k.of l.length l.risk))
  runs_at_lane p g c n l (ns, ls, r, e, f) a = (
    ns ++ (n ∷ []),
    ls ++ (l ∷ []),
    run_push m w reel ns ls p n l r a,
    class_push G ls l ∙ ap (λ (x : G.Element). G.mul x (crossed G l.crossing)) e,
    cost_push k ls l ∙ ap (λ (x : K). k.plus x (k.of l.length l.risk)) f,
  )
