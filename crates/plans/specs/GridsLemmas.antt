-- The map of a grid is lawful, whatever the grid.
use Rattle.std.specs.Prelude.{◌≡◌, ℕ, ◌+◌, ◌*◌, ◌/◌, ◌%◌, ◌<◌, ◌≤◌, min, true, ◌&&◌, ◌⊎◌, Some, None, nat_lt}
use Rattle.std.proofs.Common.{sym, ap, subst, ◌∙◌, inl, inr, arith, mul-le-mul_right, add-mul, one-mul, zero-mul}
use Rattle.std.proofs.Math.Nat.{max_comm}
use Rattle.std.proofs.lemmas.Nat.{div-add-mod', div-mul-add, mod-mul-add, mul-le}
use Rattle.std.proofs.lemmas.Bool.{ltb-true, lt-ltb, le-ltb, cases_lt, cond-true, cond-false, and_left, and_right, and_from}
use Rattle.kinds.specs.declared.lane.Lane.{Lane}
use Rattle.kinds.specs.Crossings.{other_way}
use Rattle.kinds.specs.Maps.{back, LawfulLanes, LawfulEstimates}
use Rattle.plans.specs.Grids.{Terrain, sized, points_of, place, apart, lane_to, lane_at, grid_site}
use Rattle.plans.specs.Places.{sized_parts, sized_from_point, inside, place_below, few_points}
use Rattle.plans.specs.Ways.{Goes, goes}
use Rattle.plans.specs.Options.{passed}

module _ (t : Terrain) where
  abbrev all : ℕ
  all = points_of t.width t.height t.spacing

  -- a lane starts on the map and goes to a neighbour
  pub on_map : (p n : ℕ) (l : Lane) → (grid_site t).lane p n ≡ Some l → p < all
  on_map p n l e = ltb-true p all (passed (nat_lt p all) (lane_at t (p % t.width) (p / t.width) n) l e).0

  pub goes_on : (p n : ℕ) (l : Lane) → (grid_site t).lane p n ≡ Some l → Goes t (p % t.width) (p / t.width) n l
  goes_on p n l e =
      let at = inside t.width t.height t.spacing p (on_map p n l e) in
      goes t (p % t.width) (p / t.width) l at.column at.row n (passed (nat_lt p all) (lane_at t (p % t.width) (p / t.width) n) l e).1

  pub lane_on_map : (p n : ℕ) → p < all → (grid_site t).lane p n ≡ lane_at t (p % t.width) (p / t.width) n
  lane_on_map p n h = cond-true (nat_lt p all) (lane_at t (p % t.width) (p / t.width) n) None (lt-ltb p all h)

  pub lane_off_map : (p n : ℕ) → all ≤ p → (grid_site t).lane p n ≡ None
  lane_off_map p n h = cond-false (nat_lt p all) (lane_at t (p % t.width) (p / t.width) n) None (le-ltb p all h)

  -- the lane at a column and a row
  grid_site-lane_at : (c r n : ℕ) → sized t.width t.height t.spacing ≡ true → c < t.width → r < t.height → (grid_site t).lane (place t.width c r) n ≡ lane_at t c r n
  grid_site-lane_at c r n e h k =
      let w = t.width in
      lane_on_map (place w c r) n (place_below w t.height t.spacing c r e h k)
      ∙ (ap (λ x. lane_at t x (place w c r / w) n) (mod-mul-add r w c h) ∙ ap (λ y. lane_at t c y n) (div-mul-add r w c h))

  turned : (c r d q : ℕ) (p : ℕ) (x : _) → place t.width c r ≡ p → lane_to t d q c r (other_way x) ≡ record { to = p; length = (lane_to t c r d q x).length; risk = (lane_to t c r d q x).risk; crossing = other_way (lane_to t c r d q x).crossing }
  turned c r d q p x e = λ i. record { to = e i; length = t.spacing; risk = min (max_comm (t.risk d q) (t.risk c r) i) 255; crossing = other_way x }

  returns : (p n : ℕ) (l : Lane) → (grid_site t).lane p n ≡ Some l → (grid_site t).lane l.to (back n) ≡ Some (record { to = p; length = l.length; risk = l.risk; crossing = other_way l.crossing })
  returns p n l e =
      let w = t.width in
      let g = goes_on p n l e in
      let size = sized_from_point w t.height t.spacing p (on_map p n l e) in
      let G : Lane → Type 0 = λ m. (grid_site t).lane m.to (back n) ≡ Some (record { to = p; length = m.length; risk = m.risk; crossing = other_way m.crossing }) in
      subst G (sym g.is)
      (grid_site-lane_at g.column g.row (back n) size g.east_of g.north_of
      ∙ (g.returns ∙ ap Some (turned (p % w) (p / w) g.column g.row p g.crossing (div-add-mod' p w))))

  measured : (p n : ℕ) (l : Lane) → (grid_site t).lane p n ≡ Some l → (1 ≤ l.length) × (l.length ≤ 65535) × (l.risk ≤ 255)
  measured p n l e =
      let g = goes_on p n l e in
      let z = sized_parts t.width t.height t.spacing (sized_from_point t.width t.height t.spacing p (on_map p n l e)) in
      let F : Lane → Type 0 = λ m. (1 ≤ m.length) × (m.length ≤ 65535) × (m.risk ≤ 255) in
      subst F (sym g.is) (omega arith, omega arith, omega arith)

  pub lawful_lanes : LawfulLanes (grid_site t)
  lawful_lanes = record {
    few_points = few_points t.width t.height t.spacing;
    few_lanes = omega arith;
    starts = λ p n l e. (on_map p n l e, (goes_on p n l e).few);
    sized = measured;
    returns = returns;
  }

  -- how many lanes lie between two points at least
  abbrev steps : ℕ → ℕ → ℕ
  steps p a = apart (p % t.width) (a % t.width) + apart (p / t.width) (a / t.width)

  both : (p a : ℕ) → p < all → a < all → (grid_site t).estimate p a ≡ steps p a * t.spacing
  both p a h k = cond-true (nat_lt p all && nat_lt a all) (steps p a * t.spacing) 0 (and_from (nat_lt p all) (nat_lt a all) (lt-ltb p all h) (lt-ltb a all k))

  nowhere : (p a : ℕ) → (all ≤ p) ⊎ (all ≤ a) → (grid_site t).estimate p a ≡ 0
  nowhere p a (inl h) = cond-false (nat_lt p all && nat_lt a all) (steps p a * t.spacing) 0 (and_left (nat_lt p all) (nat_lt a all) (le-ltb p all h))
  nowhere p a (inr h) = cond-false (nat_lt p all && nat_lt a all) (steps p a * t.spacing) 0 (and_right (nat_lt p all) (nat_lt a all) (le-ltb a all h))

  near : (p a : ℕ) → (grid_site t).estimate p a ≤ 1000000
  near p a =
      elim (cases_lt p all) [
        | inr h ↦ omega (arith, nowhere p a (inl h))
        | inl h ↦ elim (cases_lt a all) [
          | inr k ↦ omega (arith, nowhere p a (inr k))
          | inl k ↦
              let here = inside t.width t.height t.spacing p h in
              let there = inside t.width t.height t.spacing a k in
              let z = sized_parts t.width t.height t.spacing (sized_from_point t.width t.height t.spacing p h) in
              let far : steps p a ≤ 128 = omega (arith, here.column, here.row, there.column, there.row, here.narrow, here.low) in
              omega (arith, both p a h k, mul-le (steps p a) t.spacing 128 1000 far z.short)
        ]
      ]

  at_aim : (a : ℕ) → (grid_site t).estimate a a ≡ 0
  at_aim a =
      elim (cases_lt a all) [
        | inr h ↦ nowhere a a (inl h)
        | inl h ↦ let none : steps a a ≡ 0 = omega arith in both a a h h ∙ (ap (λ n. n * t.spacing) none ∙ zero-mul t.spacing)
      ]

  consistent : (p n a : ℕ) (l : Lane) → (grid_site t).lane p n ≡ Some l → (grid_site t).estimate p a ≤ l.length + (grid_site t).estimate l.to a
  consistent p n a l e =
      let w = t.width in
      let g = goes_on p n l e in
      let h = on_map p n l e in
      let size = sized_from_point w t.height t.spacing p h in
      let F : Lane → Type 0 = λ m. (grid_site t).estimate p a ≤ m.length + (grid_site t).estimate m.to a in
      let q = place w g.column g.row in
      let on : q < all = place_below w t.height t.spacing g.column g.row size g.east_of g.north_of in
      elim (cases_lt a all) [
        | inr k ↦ omega (arith, nowhere p a (inr k))
        | inl k ↦
            let close : steps p a ≤ 1 + steps q a =
            subst (λ c. steps p a ≤ 1 + (apart c (a % w) + apart (q / w) (a / w))) (sym (mod-mul-add g.row w g.column g.east_of))
            (subst (λ r. steps p a ≤ 1 + (apart g.column (a % w) + apart r (a / w))) (sym (div-mul-add g.row w g.column g.east_of)) (g.near (a % w) (a / w))) in
            let more : steps p a * t.spacing ≤ (1 + steps q a) * t.spacing = mul-le-mul_right t.spacing close in
            subst F (sym g.is) (omega (arith, both p a h k, both q a on k, more, add-mul 1 (steps q a) t.spacing, one-mul t.spacing))
      ]

  pub lawful_estimates : LawfulEstimates (grid_site t)
  lawful_estimates = record { near = near; at_aim = at_aim; nowhere = nowhere; consistent = consistent }
