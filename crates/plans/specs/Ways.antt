-- A lane of a grid: where it leads, and the lane back.
use Rattle.std.specs.Prelude.{◌≡◌, ℕ, ◌+◌, ◌-◌, ◌<◌, ◌≤◌, Bool, true, false, cond, not, ◌&&◌, Some, None, ◌≢◌, nat_lt, refl}
use Rattle.std.proofs.Common.{sym, subst, ◌∙◌, inl, inr, arith}
use Rattle.std.proofs.lemmas.Bool.{ltb-true, lt-ltb, cases_eq, ne_eqb}
use Rattle.kinds.specs.declared.lane.Lane.{Lane}
use Rattle.kinds.specs.declared.crossing.Crossing.{Crossing}
use Rattle.kinds.specs.declared.crossing.Crossing.TheVariants as cross
use Rattle.kinds.specs.Crossings.{other_way}
use Rattle.kinds.specs.Maps.{back}
use Rattle.plans.specs.Options.{none≢some}
use Rattle.plans.specs.RaysLemmas.{other_way-other_way}
use Rattle.plans.specs.Grids.{Terrain, apart, eastward, lane_to, way, lane_at}

-- what three tests that let something through say
pub cond_some : {X : Type 0} (a b c : Bool) (x y : X) → cond (a && (not b && not c)) (Some x) None ≡ Some y → (a ≡ true) × (b ≡ false) × (c ≡ false) × (y ≡ x)
cond_some false b c x y e = absurd (none≢some y e)
cond_some true true c x y e = absurd (none≢some y e)
cond_some true false true x y e = absurd (none≢some y e)
cond_some true false false x y e = (refl, refl, refl, cc)

some_cond : {X : Type 0} (a b c : Bool) (x : X) → a ≡ true → b ≡ false → c ≡ false → cond (a && (not b && not c)) (Some x) None ≡ Some x
some_cond a b c x p q r = λ i. cond (p i && (not (q i) && not (r i))) (Some x) None

-- the lane l with the number n at (c, r): where it leads, and that the lane back is there
pub record Goes (t : Terrain) (c r n : ℕ) (l : Lane) : Type 0 where
  pub column : ℕ
  pub row : ℕ
  pub crossing : Crossing
  pub east_of : column < t.width
  pub north_of : row < t.height
  pub few : n < 4
  pub is : l ≡ lane_to t c r column row crossing
  pub returns : lane_at t column row (back n) ≡ Some (lane_to t column row c r (other_way crossing))
  pub near : (a b : ℕ) → apart c a + apart r b ≤ 1 + (apart column a + apart row b)

module _ (t : Terrain) (c r : ℕ) (l : Lane) (in_column : c < t.width) (in_row : r < t.height) where
  east : lane_at t c r 0 ≡ Some l → Goes t c r 0 l
  east e =
      let x = eastward 1 t.posts c r in
      let s = cond_some (nat_lt (c + 1) t.width) (t.blocked c r) (t.blocked (c + 1) r) (lane_to t c r (c + 1) r x) l e in
      let same : c ≡ (c + 1) - 1 = omega arith in
      record {
        column = c + 1;
        row = r;
        crossing = x;
        east_of = ltb-true (c + 1) t.width s.0;
        north_of = in_row;
        few = omega arith;
        is = s.3;
        returns = subst (λ k. way t (nat_lt 0 (c + 1)) (c + 1) r k r (other_way (eastward 1 t.posts k r)) ≡ Some (lane_to t (c + 1) r c r (other_way x))) same
            (some_cond (nat_lt 0 (c + 1)) (t.blocked (c + 1) r) (t.blocked c r) (lane_to t (c + 1) r c r (other_way x)) (lt-ltb 0 (c + 1) (omega arith)) s.2 s.1);
        near = λ a b. omega arith;
      }

  west : lane_at t c r 1 ≡ Some l → Goes t c r 1 l
  west e =
      let y = eastward 1 t.posts (c - 1) r in
      let s = cond_some (nat_lt 0 c) (t.blocked c r) (t.blocked (c - 1) r) (lane_to t c r (c - 1) r (other_way y)) l e in
      let positive : 0 < c = ltb-true 0 c s.0 in
      let same : c ≡ (c - 1) + 1 = omega arith in
      record {
        column = c - 1;
        row = r;
        crossing = other_way y;
        east_of = omega arith;
        north_of = in_row;
        few = omega arith;
        is = s.3;
        returns = subst (λ k. way t (nat_lt k t.width) (c - 1) r k r y ≡ Some (lane_to t (c - 1) r c r (other_way (other_way y)))) same
            (subst (λ z. way t (nat_lt c t.width) (c - 1) r c r y ≡ Some (lane_to t (c - 1) r c r z)) (sym (other_way-other_way y))
            (some_cond (nat_lt c t.width) (t.blocked (c - 1) r) (t.blocked c r) (lane_to t (c - 1) r c r y) (lt-ltb c t.width in_column) s.2 s.1));
        near = λ a b. omega arith;
      }

  north : lane_at t c r 2 ≡ Some l → Goes t c r 2 l
  north e =
      let s = cond_some (nat_lt (r + 1) t.height) (t.blocked c r) (t.blocked c (r + 1)) (lane_to t c r c (r + 1) cross.None) l e in
      let same : r ≡ (r + 1) - 1 = omega arith in
      record {
        column = c;
        row = r + 1;
        crossing = cross.None;
        east_of = in_column;
        north_of = ltb-true (r + 1) t.height s.0;
        few = omega arith;
        is = s.3;
        returns = subst (λ k. way t (nat_lt 0 (r + 1)) c (r + 1) c k cross.None ≡ Some (lane_to t c (r + 1) c r cross.None)) same
            (some_cond (nat_lt 0 (r + 1)) (t.blocked c (r + 1)) (t.blocked c r) (lane_to t c (r + 1) c r cross.None) (lt-ltb 0 (r + 1) (omega arith)) s.2 s.1);
        near = λ a b. omega arith;
      }

  south : lane_at t c r 3 ≡ Some l → Goes t c r 3 l
  south e =
      let s = cond_some (nat_lt 0 r) (t.blocked c r) (t.blocked c (r - 1)) (lane_to t c r c (r - 1) cross.None) l e in
      let positive : 0 < r = ltb-true 0 r s.0 in
      let same : r ≡ (r - 1) + 1 = omega arith in
      record {
        column = c;
        row = r - 1;
        crossing = cross.None;
        east_of = in_column;
        north_of = omega arith;
        few = omega arith;
        is = s.3;
        returns = subst (λ k. way t (nat_lt k t.height) c (r - 1) c k cross.None ≡ Some (lane_to t c (r - 1) c r cross.None)) same
            (some_cond (nat_lt r t.height) (t.blocked c (r - 1)) (t.blocked c r) (lane_to t c (r - 1) c r cross.None) (lt-ltb r t.height in_row) s.2 s.1);
        near = λ a b. omega arith;
      }

  -- from four on, no number names a lane
  beyond : (n : ℕ) → (n ≢ 0) → (n ≢ 1) → (n ≢ 2) → (n ≢ 3) → lane_at t c r n ≡ None
  beyond n a b d e =
      let p = ne_eqb n 0 a in
      let q = ne_eqb n 1 b in
      let v = ne_eqb n 2 d in
      let w = ne_eqb n 3 e in
      simp (p, q, v, w)

  pub goes : (n : ℕ) → lane_at t c r n ≡ Some l → Goes t c r n l
  goes n e =
      let at : (k : ℕ) → n ≡ k → lane_at t c r k ≡ Some l = λ k f. subst (λ j. lane_at t c r j ≡ Some l) f e in
      elim (cases_eq n 0) [
        | inl f ↦ subst (λ k. Goes t c r k l) (sym f) (east (at 0 f))
        | inr f ↦ elim (cases_eq n 1) [
          | inl g ↦ subst (λ k. Goes t c r k l) (sym g) (west (at 1 g))
          | inr g ↦ elim (cases_eq n 2) [
            | inl h ↦ subst (λ k. Goes t c r k l) (sym h) (north (at 2 h))
            | inr h ↦ elim (cases_eq n 3) [
              | inl i ↦ subst (λ k. Goes t c r k l) (sym i) (south (at 3 i))
              | inr i ↦ absurd (none≢some l (sym (beyond n f g h i) ∙ e))
            ]
          ]
        ]
      ]
