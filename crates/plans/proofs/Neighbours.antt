-- The lanes of a grid, by the neighbour that each leads to.
use Rattle.std.proofs.Common.{◌≡◌, ℕ, ◌+◌, ◌-◌, ◌<◌, Bool, true, false, cond, not, ◌&&◌, eqb, ltb, Some, None, Option, refl, sym, ap, ◌∙◌, arith}
use Rattle.std.proofs.lemmas.Bool.{ltb-true, lt-ltb, le-ltb, cond-true, cond-false}
use Rattle.kinds.specs.declared.lane.Lane.{Lane}
use Rattle.kinds.specs.declared.crossing.Crossing.{Crossing}
use Rattle.kinds.specs.declared.crossing.Crossing.TheVariants as cross
use Rattle.kinds.specs.Crossings.{other_way}
use Rattle.plans.specs.declared.grid.Spot.{Spot}
use Rattle.plans.specs.Grids.{Terrain, eastward, crossed, beside, lane_to, way, lane_at}

module _ (t : Terrain) (c r : ℕ) where
  -- the lane to a neighbour, if there is one
  abbrev towards : Option Spot → Option Lane
  towards None = None
  towards (Some s) = cond (not (t.blocked c r) && not (t.blocked s.column s.row)) (Some (lane_to t c r s.column s.row (crossed t.posts c r s.column s.row))) None

  way_towards : (e : Bool) (d q : ℕ) (x : Crossing) → (e ≡ true → x ≡ crossed t.posts c r d q) → way t e c r d q x ≡ towards (cond e (Some (record { column = d; row = q })) None)
  way_towards false d q x f = refl
  way_towards true d q x f = ap (λ y. cond (not (t.blocked c r) && not (t.blocked d q)) (Some (lane_to t c r d q y)) None) (f refl)

  crossed_east : eastward 1 t.posts c r ≡ crossed t.posts c r (c + 1) r
  crossed_east = sym (cond-true (ltb c (c + 1)) _ _ (lt-ltb c (c + 1) (omega arith)))

  crossed_west : 0 < c → other_way (eastward 1 t.posts (c - 1) r) ≡ crossed t.posts c r (c - 1) r
  crossed_west h = sym (cond-false (ltb c (c - 1)) _ _ (le-ltb c (c - 1) (omega arith)) ∙ cond-true (ltb (c - 1) c) _ _ (lt-ltb (c - 1) c (omega arith)))

  crossed_along : (q : ℕ) → cross.None ≡ crossed t.posts c r c q
  crossed_along q = sym (cond-false (ltb c c) _ _ (le-ltb c c (omega arith)) ∙ cond-false (ltb c c) _ _ (le-ltb c c (omega arith)))

  -- each test of a number chooses the same on both sides
  chosen : (b : Bool) (x y : Option Lane) (o p : Option Spot) → x ≡ towards o → y ≡ towards p → cond b x y ≡ towards (cond b o p)
  chosen true x y o p e f = e
  chosen false x y o p e f = f

  lane_towards : (n : ℕ) → lane_at t c r n ≡ towards (beside t.width t.height c r n)
  lane_towards n =
      let east = way_towards (ltb (c + 1) t.width) (c + 1) r (eastward 1 t.posts c r) (λ e. crossed_east) in
      let west = way_towards (ltb 0 c) (c - 1) r (other_way (eastward 1 t.posts (c - 1) r)) (λ e. crossed_west (ltb-true 0 c e)) in
      let north = way_towards (ltb (r + 1) t.height) c (r + 1) cross.None (λ e. crossed_along (r + 1)) in
      let south = way_towards (ltb 0 r) c (r - 1) cross.None (λ e. crossed_along (r - 1)) in
      chosen (eqb n 0) _ _ _ _ east (chosen (eqb n 1) _ _ _ _ west (chosen (eqb n 2) _ _ _ _ north (chosen (eqb n 3) _ _ _ _ south refl)))

  -- a lane between two points that are free
  pub lane_free : (n : ℕ) (s : Spot) (l : Lane) → beside t.width t.height c r n ≡ Some s → (not (t.blocked c r) && not (t.blocked s.column s.row)) ≡ true
      → l ≡ lane_to t c r s.column s.row (crossed t.posts c r s.column s.row) → Some l ≡ lane_at t c r n
  lane_free n s l e f is =
      let free = cond-true (not (t.blocked c r) && not (t.blocked s.column s.row)) (Some (lane_to t c r s.column s.row (crossed t.posts c r s.column s.row))) None f in
      ap Some is ∙ sym (lane_towards n ∙ (ap towards e ∙ free))
