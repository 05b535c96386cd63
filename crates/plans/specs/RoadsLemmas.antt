-- The map of a roadmap is lawful, whatever the roadmap.
use Rattle.std.specs.Prelude.{◌≡◌, ℕ, ◌/◌, ◌%◌, ◌<◌, ◌≤◌, min, Bool, true, cond, ◌&&◌, ◌⊎◌, Some, None, ◌==◌, ◌≢◌, nat_le, nat_lt, refl}
use Rattle.std.proofs.Common.{sym, ap, subst, ◌∙◌, inl, inr, arith}
use Rattle.std.proofs.lemmas.Bool.{ltb-true, lt-ltb, leb-true, eqb-true, eqb-false, eq-eqb, cases_Bool, cond-true, cond-false, and_parts, and_from}
use Rattle.std.proofs.lemmas.Bool.Decides.{nat_tests}
use Rattle.kinds.specs.declared.lane.Lane.{Lane}
use Rattle.kinds.specs.Crossings.{other_way}
use Rattle.kinds.specs.Maps.{back, LawfulLanes, LawfulEstimates}
use Rattle.plans.specs.declared.road.Link.{Link}
use Rattle.plans.specs.Rays.{crossing_of}
use Rattle.plans.specs.Roads.{Net, few, sound, onward, backward, leg, stands, road_site}
use Rattle.plans.specs.Options.{passed}
use Rattle.plans.specs.RaysLemmas.{other_way-other_way}

-- the number of the lane back belongs to the same link, and to its other end
back_half : (n : ℕ) → back n / 2 ≡ n / 2
back_half n = omega arith

back_odd : (n : ℕ) → n % 2 ≡ 0 → back n % 2 ≡ 1
back_odd n e = omega arith

back_even : (n : ℕ) → (n % 2 ≢ 0) → back n % 2 ≡ 0
back_even n e = omega arith

back_below : (n : ℕ) → n < 2048 → back n < 2048
back_below n h = omega arith

few_points : (n : ℕ) → few n ≤ 4096
few_points n =
    elim (cases_Bool (nat_le n 512)) [
      | inl e ↦ omega (arith, leb-true n 512 e, cond-true (nat_le n 512) n 0 e)
      | inr e ↦ omega (arith, cond-false (nat_le n 512) n 0 e)
    ]

module _ (k : Link) where
  pub record Sound (n : ℕ) : Type 0 where
    pub from : k.first < n
    pub to : k.second < n
    pub long : 1 ≤ k.length

  pub sound_parts : (n : ℕ) → sound n k ≡ true → Sound n
  sound_parts n e = record { from = grind (arith, nat_tests); to = grind (arith, nat_tests); long = grind (arith, nat_tests) }

  leg_onward : leg k k.first 0 ≡ Some (onward k)
  leg_onward = cond-true (k.first == k.first) (Some (onward k)) None (eq-eqb k.first k.first refl)

  leg_backward : leg k k.second 1 ≡ Some (backward k)
  leg_backward = cond-true (k.second == k.second) (Some (backward k)) None (eq-eqb k.second k.second refl)

  -- a lane along a link goes one way or the other
  abbrev Ways : ℕ → ℕ → Lane → Type 0
  Ways p s l = ((s ≡ 0) × (p ≡ k.first) × (l ≡ onward k)) ⊎ ((s ≢ 0) × (p ≡ k.second) × (l ≡ backward k))

  ways : (p s : ℕ) (l : Lane) → leg k p s ≡ Some l → Ways p s l
  ways p s l e =
      let one = cond (p == k.first) (Some (onward k)) None in
      let two = cond (p == k.second) (Some (backward k)) None in
      elim (cases_Bool (s == 0)) [
        | inl z ↦
            let h = passed (p == k.first) (Some (onward k)) l (sym (cond-true (s == 0) one two z) ∙ e) in
            let i = h.1 in
            inl (eqb-true s 0 z, eqb-true p k.first h.0, (cc))
        | inr z ↦
            let h = passed (p == k.second) (Some (backward k)) l (sym (cond-false (s == 0) one two z) ∙ e) in
            let i = h.1 in
            inr (eqb-false s 0 z, eqb-true p k.second h.0, (cc))
      ]

module _ (t : Net) where
  -- the rest of what stands says, apart from the limit
  abbrev holds : ℕ → Bool
  holds a = nat_lt a t.lanes && sound (few t.points) (t.link a)

  parts : (n : ℕ) → stands t n ≡ true → (n < 2048) × (holds (n / 2) ≡ true)
  parts n e = let h = and_parts (nat_lt n 2048) (holds (n / 2)) e in (ltb-true n 2048 h.0, h.1)

  link_sound : (n : ℕ) → stands t n ≡ true → Sound (t.link (n / 2)) (few t.points)
  link_sound n e =
      sound_parts (t.link (n / 2)) (few t.points) (and_parts (nat_lt (n / 2) t.lanes) (sound (few t.points) (t.link (n / 2))) (parts n e).1).1

  stands_back : (n : ℕ) → stands t n ≡ true → stands t (back n) ≡ true
  stands_back n e =
      let h = parts n e in
      and_from (nat_lt (back n) 2048) (holds (back n / 2)) (lt-ltb (back n) 2048 (back_below n h.0)) (subst (λ a. holds a ≡ true) (sym (back_half n)) h.1)

  -- a lane belongs to a link that stands
  goes : (p n : ℕ) (l : Lane) → (road_site t).lane p n ≡ Some l → (stands t n ≡ true) × Ways (t.link (n / 2)) p (n % 2) l
  goes p n l e =
      let h = passed (stands t n) (leg (t.link (n / 2)) p (n % 2)) l e in
      (h.0, ways (t.link (n / 2)) p (n % 2) l h.1)

  -- the lane with the number of the lane back
  lane_back : (p n s : ℕ) → stands t n ≡ true → back n % 2 ≡ s → (road_site t).lane p (back n) ≡ leg (t.link (n / 2)) p s
  lane_back p n s e f =
      cond-true (stands t (back n)) (leg (t.link (back n / 2)) p (back n % 2)) None (stands_back n e)
      ∙ (ap (λ a. leg (t.link a) p (back n % 2)) (back_half n) ∙ ap (leg (t.link (n / 2)) p) f)

  abbrev Returns : ℕ → ℕ → Lane → Type 0
  Returns p n l = (road_site t).lane l.to (back n) ≡ Some (record { to = p; length = l.length; risk = l.risk; crossing = other_way l.crossing })

  returns : (p n : ℕ) (l : Lane) → (road_site t).lane p n ≡ Some l → Returns p n l
  returns p n l e =
      let h = goes p n l e in
      let k = t.link (n / 2) in
      elim h.1 [
        | inl w ↦
            subst (Returns p n) (sym w.2)
            (lane_back k.second n 1 h.0 (back_odd n w.0)
            ∙ (leg_backward k ∙ ap (λ q. Some (record { to = q; length = min k.length 65535; risk = min k.risk 255; crossing = other_way (crossing_of k.crossing) })) (sym w.1)))
        | inr w ↦
            subst (Returns p n) (sym w.2)
            (lane_back k.first n 0 h.0 (back_even n w.0)
            ∙ (leg_onward k
            ∙ (λ i. Some (record { to = sym w.1 i; length = min k.length 65535; risk = min k.risk 255; crossing = sym (other_way-other_way (crossing_of k.crossing)) i }))))
      ]

  starts : (p n : ℕ) (l : Lane) → (road_site t).lane p n ≡ Some l → (p < few t.points) × (n < 2048)
  starts p n l e =
      let h = goes p n l e in
      let s = link_sound n h.0 in
      let limit = (parts n h.0).0 in
      elim h.1 [ inl w ↦ (omega (arith, w.1, s.from), limit) | inr w ↦ (omega (arith, w.1, s.to), limit) ]

  abbrev Measured : Lane → Type 0
  Measured l = (1 ≤ l.length) × (l.length ≤ 65535) × (l.risk ≤ 255)

  measured : (p n : ℕ) (l : Lane) → (road_site t).lane p n ≡ Some l → Measured l
  measured p n l e =
      let h = goes p n l e in
      let s = link_sound n h.0 in
      elim h.1 [ inl w ↦ subst Measured (sym w.2) (omega arith, omega arith, omega arith) | inr w ↦ subst Measured (sym w.2) (omega arith, omega arith, omega arith) ]

  pub lawful_lanes : LawfulLanes (road_site t)
  lawful_lanes = record { few_points = few_points t.points; few_lanes = omega arith; starts = starts; sized = measured; returns = returns }

  pub lawful_estimates : LawfulEstimates (road_site t)
  lawful_estimates = record { near = λ p a. omega arith; at_aim = λ a. refl; nowhere = λ p a h. refl; consistent = λ p n a l e. omega arith }
