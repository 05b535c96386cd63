-- The search over the places of a list: each step keeps `Progress`, and a chart with nothing open is finished.
use Rattle.std.proofs.Common.{◌≡◌, ℕ, ◌+◌, ◌<◌, ◌≤◌, ◌⊎◌, List, length, get_or, take, set, Some, None, Option, Less, sym, refl, ap, ◌∙◌, subst, inl, inr, arith, length-set, length-take-le}
use Rattle.std.proofs.lemmas.Bool.{cases_eq, cases_lt}
use Rattle.kinds.specs.declared.lane.Lane.{Lane}
use Rattle.kinds.specs.Orders.{Under}
use Rattle.kinds.specs.Maps.{Site, Lawful}
use Rattle.kinds.specs.Classes.{ClassKind, crossed}
use Rattle.kinds.specs.Costs.{CostKind}
use Rattle.kinds.specs.Reaches.{Cheapest, Reach, tail, Within}
use Rattle.charting.specs.Searching.{Pairs, Nothing, Only, Known, NoDearer, onward, Searched, NoLater, Soonest}
use Rattle.charts.specs.declared.chart.Pair.{Pair}
use Rattle.charts.specs.Charts.{Stands, Is, Holds, Precedes, Linked, Finished, Crowded, Unheld}
use Rattle.charting.specs.Places.{Span, Distinct, Links, Progress}
use Rattle.kinds.proofs.Orders.{under_of_eq, under_trans, less_not_under}
use Rattle.kinds.proofs.Limits.{run_bound}
use Rattle.charts.proofs.Stands.{stands_some, stands_unique, stands_set_same, stands_set_other, stands_unset, stands_take, stands_untake}
use Rattle.charting.proofs.Picks.{done}
use Rattle.charting.proofs.Settles.{started, found_runs, found_reach, lane_reach, settled_no_dearer, resaid, finished, no_lane, too_far, no_cheaper, opened, taken}
use Rattle.charting.proofs.Pigeons.{not_crowded, holds_at, at_holds, sound_at, crowded}

-- with the places s and j swapped, what stands at e stood at f
abbrev pub Moved : ℕ → ℕ → ℕ → ℕ → Type 0
Moved s j e f = ((e ≡ s) × (f ≡ j)) ⊎ (((e ≡ j) × (f ≡ s)) ⊎ ((e ≡ s → ⊥) × (e ≡ j → ⊥) × (f ≡ e)))

moved : (s j e : ℕ) → (f : ℕ) × Moved s j e f
moved s j e =
    elim (cases_eq e s) [
      | inl a ↦ (j, inl (a, refl))
      | inr a ↦ elim (cases_eq e j) [ inl b ↦ (s, inr (inl (b, refl))) | inr b ↦ (e, inr (inr (a, b, refl))) ]
    ]

moved_back : (s j e f : ℕ) → Moved s j e f → Moved s j f e
moved_back s j e f (inl (a, b)) = inr (inl (b, a))
moved_back s j e f (inr (inl (a, b))) = inl (b, a)
moved_back s j e f (inr (inr (a, b, c))) = inr (inr ((λ d. a (sym c ∙ d)), (λ d. b (sym c ∙ d)), sym c))

-- the pairs of some places
module _ {C K : Type 0} (G : ClassKind) (el : C → G.Element) where
  pub span_here : (xs : List (Pair C K)) (a b i : ℕ) (x : Pair C K) → a ≤ i → i < b → Stands xs i x → Span G el xs a b x.point (el x.class) x.cost
  span_here xs a b i x le lt at = (i, x, le, lt, at, refl, refl, refl)

  -- the pairs at one place
  pub span_one : (xs : List (Pair C K)) (s : ℕ) (x : Pair C K) → Stands xs s x → (q : ℕ) (h : G.Element) (b : K) → Span G el xs s (s + 1) q h b →
      Only x.point (el x.class) x.cost q h b
  span_one xs s x at q h b (i, y, le, lt, at', e, f, d) =
      let z : i ≡ s = omega arith in
      let same : y ≡ x = stands_unique xs s y x (subst (λ (n : ℕ). Stands xs n y) z at') at in (
        sym e ∙ ap (λ (w : Pair C K). w.point) same,
        sym f ∙ ap (λ (w : Pair C K). el w.class) same,
        sym d ∙ ap (λ (w : Pair C K). w.cost) same,
      )

  pub span_none : (xs : List (Pair C K)) (s : ℕ) (q : ℕ) (h : G.Element) (b : K) → Span G el xs s s q h b → ⊥
  span_none xs s q h b (i, y, le, lt, at, e, f, d) = omega arith

  -- places that stay
  pub span_same : (xs ys : List (Pair C K)) (a b : ℕ) → ((i : ℕ) (x : Pair C K) → a ≤ i → i < b → Stands xs i x → Stands ys i x) →
      (q : ℕ) (h : G.Element) (c : K) → Span G el xs a b q h c → Span G el ys a b q h c
  span_same xs ys a b keep q h c (i, x, le, lt, at, e, f, d) = (i, x, le, lt, keep i x le lt at, e, f, d)

  -- a place below n is one of the three parts
  pub found_place : (xs : List (Pair C K)) (s t n j : ℕ) (y : Pair C K) (p : ℕ) (g : G.Element) → j < n → Stands xs j y → y.point ≡ p → el y.class ≡ g →
      Known (Span G el xs 0 s) (Span G el xs s t) (Span G el xs t n) p g y.cost
  found_place xs s t n j y p g lt at e f =
      elim (cases_lt j s) [
        | inl h ↦ inl (j, y, omega arith, h, at, e, f, refl)
        | inr h ↦ elim (cases_lt j t) [ inl h' ↦ inr (inl (j, y, h, h', at, e, f, refl)) | inr h' ↦ inr (inr (j, y, h', lt, at, e, f, refl)) ]
      ]

  pub place_found : (xs : List (Pair C K)) (s t n : ℕ) (p : ℕ) (g : G.Element) (c : K) → s ≤ t → t ≤ n →
      Known (Span G el xs 0 s) (Span G el xs s t) (Span G el xs t n) p g c → Span G el xs 0 n p g c
  place_found xs s t n p g c st tn (inl (i, x, le, lt, at, e, f, d)) = (i, x, le, omega arith, at, e, f, d)
  place_found xs s t n p g c st tn (inr (inl (i, x, le, lt, at, e, f, d))) = (i, x, omega arith, omega arith, at, e, f, d)
  place_found xs s t n p g c st tn (inr (inr (i, x, le, lt, at, e, f, d))) = (i, x, omega arith, lt, at, e, f, d)

module _ {C K : Type 0} (m : Site) (law : Lawful m) (G : ClassKind) (el : C → G.Element) (k : CostKind K) (reel : ℕ) (aim : Option ℕ) (cable : ℕ) where
  -- what is found shows that the reel is within the limit
  start_within : (S X : Pairs G.Element K) (i : ℕ) (O : Pairs G.Element K) → Searched m G k reel aim cable S X i O →
      (p : ℕ) (g : G.Element) (c : K) → Known S X O p g c → Within m k aim cable reel k.zero
  start_within S X i O inv p g c f =
      let (ns, ls, r, e, d) = found_runs law inv p g c f in
      under_trans k.order _ _ _ (run_bound m law.estimates k aim k.zero reel ns ls p r)
      (subst (λ (z : K). Under k.order (k.plus z (tail m k aim p)) (k.limit cable)) (sym (k.left _ ∙ d)) (inv.within p g c f))

  -- the reel has a place, at no cost
  reel_place : (xs : List (Pair C K)) (s t i n j : ℕ) (x : Pair C K) → Progress m G el k reel aim cable xs s t i n → j < n → Stands xs j x →
      NoDearer k (Span G el xs 0 n) reel G.unit k.zero
  reel_place xs s t i n j x chart lt at =
      let f = found_place G el xs s t n j x x.point (el x.class) lt at refl refl in
      let (b, f', u) = chart.searched.start (start_within _ _ i _ chart.searched x.point (el x.class) x.cost f) in
      (b, place_found G el xs s t n reel G.unit b chart.settled chart.found f', u)

module _ {C K : Type 0} {m : Site} (law : Lawful m) {G : ClassKind} {el : C → G.Element} {k : CostKind K} {reel : ℕ} {aim : Option ℕ} {cable : ℕ} where
  module _ {xs : List (Pair C K)} {s i n : ℕ} (chart : Progress m G el k reel aim cable xs s (s + 1) i n) where
    next : Searched m G k reel aim cable (Span G el xs 0 s) (Span G el xs s (s + 1)) (i + 1) (Span G el xs (s + 1) n) → Progress m G el k reel aim cable xs s (s + 1) (i + 1) n
    next inv =
        record {
          settled = chart.settled;
          found = chart.found;
          room = chart.room;
          searched = inv;
          distinct = chart.distinct;
          linked = chart.linked;
        }

    -- the pair at hand is x, at the place s
    module _ {x : Pair C K} (at : Stands xs s x) where
      pub progress_no_lane : m.lane x.point i ≡ None → Progress m G el k reel aim cable xs s (s + 1) (i + 1) n
      progress_no_lane e = next (no_lane law chart.searched x.point (el x.class) x.cost (span_one G el xs s x at) e)

      pub progress_too_far : {l : Lane} → m.lane x.point i ≡ Some l → (Within m k aim cable l.to (onward k x.cost l) → ⊥) → Progress m G el k reel aim cable xs s (s + 1) (i + 1) n
      progress_too_far {l} e far = next (too_far law chart.searched x.point (el x.class) x.cost (span_one G el xs s x at) l e far)

      -- the lane leads to a pair y that costs no more
      pub progress_no_cheaper : {l : Lane} (j : ℕ) {y : Pair C K} → m.lane x.point i ≡ Some l → j < n → Stands xs j y → y.point ≡ l.to → el y.class ≡ G.mul (el x.class) (crossed G l.crossing) →
          Under k.order y.cost (onward k x.cost l) → Progress m G el k reel aim cable xs s (s + 1) (i + 1) n
      progress_no_cheaper {l} j {y} e lt there f f' u =
          next (no_cheaper law chart.searched x.point (el x.class) x.cost (span_one G el xs s x at) l e (y.cost, found_place G el xs s (s + 1) n j y _ _ lt there f f', u))

      -- the lane leads to a pair that has no other place than j, where it is new or dearer; v is written there. The places below n' are those below n, and j
      written : (l : Lane) (j n' : ℕ) (v : Pair C K) → m.lane x.point i ≡ Some l → Within m k aim cable l.to (onward k x.cost l) →
          s + 1 ≤ j → j < n' → n ≤ n' → n' ≤ length xs → ((e : ℕ) → e < n' → (e ≡ j → ⊥) → e < n) →
          v.point ≡ l.to → el v.class ≡ G.mul (el x.class) (crossed G l.crossing) → v.cost ≡ onward k x.cost l → v.link ≡ Some s →
          ((e : ℕ) (z : Pair C K) → (e ≡ j → ⊥) → e < n → Stands xs e z → z.point ≡ l.to → el z.class ≡ G.mul (el x.class) (crossed G l.crossing) → ⊥) →
          ((y : Pair C K) → j < n → Stands xs j y → (y.point ≡ l.to) × (el y.class ≡ G.mul (el x.class) (crossed G l.crossing)) × Under k.order (onward k x.cost l) y.cost) →
          (Is m G el k reel aim cable v reel G.unit → ⊥) →
          Progress m G el k reel aim cable (set xs j v) s (s + 1) (i + 1) n'
      written l j n' v e w sj jn more room only vp vc vk vl new dearer not_reel =
          record {
            settled = chart.settled;
            found = found;
            room = subst (λ (z : ℕ). n' ≤ z) (sym (length-set xs j v)) room;
            searched =
                resaid law inv (Span G el ys 0 s) (Span G el ys s (s + 1)) (Span G el ys (s + 1) n')
                (span_same G el ys xs 0 s (λ a z le lt. stands_unset xs j a v z (low a (lt_more a lt))))
                (span_same G el xs ys 0 s (λ a z le lt. stands_set_other xs j a v z (low a (lt_more a lt))))
                (span_same G el ys xs s (s + 1) (λ a z le lt. stands_unset xs j a v z (low a lt)))
                (span_same G el xs ys s (s + 1) (λ a z le lt. stands_set_other xs j a v z (low a lt)))
                (λ q h b a. a)
                (λ q h b a. a);
            distinct = distinct;
            linked = linked;
          }
        where
          ys : List (Pair C K)
          ys = set xs j v

          found : s + 1 ≤ n'
          found = omega arith

          lt_more : (a : ℕ) → a < s → a < s + 1
          lt_more a lt = omega arith

          low : (a : ℕ) → a < s + 1 → a ≡ j → ⊥
          low a lt e = omega arith

          at_v : Stands ys j v
          at_v = stands_set_same xs j v (omega arith)

          is_v : (a : ℕ) (z : Pair C K) → a ≡ j → Stands ys a z → z ≡ v
          is_v a z eq at = stands_unique ys j z v (subst (λ (b : ℕ). Stands ys b z) eq at) at_v

          y : G.Element
          y = G.mul (el x.class) (crossed G l.crossing)

          free : (b : K) → Span G el xs 0 s l.to (G.mul (el x.class) (crossed G l.crossing)) b ⊎ Span G el xs s (s + 1) l.to (G.mul (el x.class) (crossed G l.crossing)) b → ⊥
          free b (inl (a, z, le, lt, at, f, f', d)) = new a z (low a (lt_more a lt)) (omega (arith, chart.found)) at f f'
          free b (inr (a, z, le, lt, at, f, f', d)) = new a z (low a lt) (omega (arith, chart.found)) at f f'

          grown : (q : ℕ) (h : G.Element) (b : K) → Span G el ys (s + 1) n' q h b → Span G el xs (s + 1) n q h b ⊎ Only l.to (G.mul (el x.class) (crossed G l.crossing)) (onward k x.cost l) q h b
          grown q h b (a, z, le, lt, at, f, f', d) =
              elim (cases_eq a j) [
                | inl eq ↦
                    let same : z ≡ v = is_v a z eq at in
                    inr (
                      sym f ∙ ap (λ (w : Pair C K). w.point) same ∙ vp,
                      sym f' ∙ ap (λ (w : Pair C K). el w.class) same ∙ vc,
                      sym d ∙ ap (λ (w : Pair C K). w.cost) same ∙ vk,
                    )
                | inr ne ↦ inl (a, z, le, only a lt ne, stands_unset xs j a v z ne at, f, f', d)
              ]

          kept : (q : ℕ) (h : G.Element) (b : K) → Span G el xs (s + 1) n q h b →
              Span G el ys (s + 1) n' q h b ⊎ ((q ≡ l.to) × (h ≡ G.mul (el x.class) (crossed G l.crossing)) × Under k.order (onward k x.cost l) b)
          kept q h b (a, z, le, lt, at, f, f', d) =
              elim (cases_eq a j) [
                | inl eq ↦
                    let t = dearer z (subst (λ (c : ℕ). c < n) eq lt) (subst (λ (c : ℕ). Stands xs c z) eq at) in
                    inr (sym f ∙ t.0, sym f' ∙ t.1, subst (λ (c : K). Under k.order (onward k x.cost l) c) d t.2)
                | inr ne ↦ inl (a, z, le, omega arith, stands_set_other xs j a v z ne at, f, f', d)
              ]

          inv : Searched m G k reel aim cable (Span G el xs 0 s) (Span G el xs s (s + 1)) (i + 1) (Span G el ys (s + 1) n')
          inv =
              opened law chart.searched x.point (el x.class) x.cost (span_one G el xs s x at)
              l (Span G el ys (s + 1) n') (span_here G el xs s (s + 1) s x (omega arith) (omega arith) at) e w free
              (j, v, sj, jn, at_v, vp, vc, vk) grown kept

          distinct : Distinct G el ys n'
          distinct a b z z' la lb ata atb f f' =
              elim (cases_eq a j) [
                | inl eq ↦
                    elim (cases_eq b j) [
                      | inl eq' ↦ eq ∙ sym eq'
                      | inr ne' ↦
                          let same : z ≡ v = is_v a z eq ata in
                          absurd
                          (new b z' ne' (only b lb ne') (stands_unset xs j b v z' ne' atb) (sym f ∙ ap (λ (w : Pair C K). w.point) same ∙ vp) (sym f' ∙ ap (λ (w : Pair C K). el w.class) same ∙ vc))
                    ]
                | inr ne ↦
                    elim (cases_eq b j) [
                      | inl eq' ↦
                          let same : z' ≡ v = is_v b z' eq' atb in
                          absurd
                          (new a z ne (only a la ne) (stands_unset xs j a v z ne ata) (f ∙ ap (λ (w : Pair C K). w.point) same ∙ vp) (f' ∙ ap (λ (w : Pair C K). el w.class) same ∙ vc))
                      | inr ne' ↦ chart.distinct a b z z' (only a la ne) (only b lb ne') (stands_unset xs j a v z ne ata) (stands_unset xs j b v z' ne' atb) f f'
                    ]
              ]

          at_x : Stands ys s x
          at_x = stands_set_other xs j s v x (low s (omega arith)) at

          moved : (a : ℕ) (z : Pair C K) → Links m G el k reel aim cable xs (s + 1) a z → Links m G el k reel aim cable ys (s + 1) a z
          moved a z (inl r) = inl r
          moved a z (inr (no-reel, (h, z', lk, ha, hs, ath, pre))) = inr (no-reel, (h, z', lk, ha, hs, stands_set_other xs j h v z' (low h hs) ath, pre))

          linked : (a : ℕ) (z : Pair C K) → a < n' → Stands ys a z → Links m G el k reel aim cable ys (s + 1) a z
          linked a z la ata =
              elim (cases_eq a j) [
                | inl eq ↦
                    subst (λ (u : Pair C K). Links m G el k reel aim cable ys (s + 1) a u) (sym (is_v a z eq ata))
                    (inr (not_reel, (s, x, vl, omega arith, omega arith, at_x, (i, l, e, sym vp, sym vc, sym vk))))
                | inr ne ↦ moved a z (chart.linked a z (only a la ne) (stands_unset xs j a v z ne ata))
              ]

      -- a pair that this lane makes cheaper is open: a settled pair would cost no more
      pub progress_open : {l : Lane} (j : ℕ) {y : Pair C K} → m.lane x.point i ≡ Some l → Stands xs j y → y.point ≡ l.to → el y.class ≡ G.mul (el x.class) (crossed G l.crossing) →
          k.order.cmp (onward k x.cost l) y.cost ≡ Less → s + 1 ≤ j
      progress_open {l} j {y} e aty yp yc less = open_place (cases_lt j (s + 1))
        where
          open_place : (j < s + 1) ⊎ (s + 1 ≤ j) → s + 1 ≤ j
          open_place (inr h) = h
          open_place (inl h) =
              absurd
              (less_not_under k.order _ _ less
              (settled_no_dearer law chart.searched x.point (el x.class) x.cost i l y.cost
              (inr (inl (span_here G el xs s (s + 1) s x (omega arith) (omega arith) at))) e (settled (cases_lt j s))))
            where
              settled : (j < s) ⊎ (s ≤ j) →
                  Span G el xs 0 s l.to (G.mul (el x.class) (crossed G l.crossing)) y.cost ⊎ Span G el xs s (s + 1) l.to (G.mul (el x.class) (crossed G l.crossing)) y.cost
              settled (inl b) = inl (j, y, omega arith, b, aty, yp, yc, refl)
              settled (inr b) = inr (j, y, b, h, aty, yp, yc, refl)

      -- the lane leads to an open pair, at the place j, that is dearer
      pub progress_lowered : {l : Lane} (j : ℕ) {y : Pair C K} (v : Pair C K) → m.lane x.point i ≡ Some l → Within m k aim cable l.to (onward k x.cost l) →
          j < n → Stands xs j y → y.point ≡ l.to → el y.class ≡ G.mul (el x.class) (crossed G l.crossing) →
          k.order.cmp (onward k x.cost l) y.cost ≡ Less →
          v.point ≡ l.to → el v.class ≡ G.mul (el x.class) (crossed G l.crossing) → v.cost ≡ onward k x.cost l → v.link ≡ Some s →
          Progress m G el k reel aim cable (set xs j v) s (s + 1) (i + 1) n
      progress_lowered {l} j {y} v e w jn aty yp yc less vp vc vk vl =
          written l j n v e w high jn (omega arith) chart.room (λ a lt ne. lt) vp vc vk vl new dearer not_reel
        where
          is_y : (z : Pair C K) → Stands xs j z → z ≡ y
          is_y z atz = stands_unique xs j z y atz aty

          high : s + 1 ≤ j
          high = progress_open j e aty yp yc less

          new : (a : ℕ) (z : Pair C K) → (a ≡ j → ⊥) → a < n → Stands xs a z → z.point ≡ l.to → el z.class ≡ G.mul (el x.class) (crossed G l.crossing) → ⊥
          new a z ne la ata f f' = ne (chart.distinct a j z y la jn ata aty (f ∙ sym yp) (f' ∙ sym yc))

          dearer : (z : Pair C K) → j < n → Stands xs j z → (z.point ≡ l.to) × (el z.class ≡ G.mul (el x.class) (crossed G l.crossing)) × Under k.order (onward k x.cost l) z.cost
          dearer z _ atz =
              subst (λ (z : Pair C K). (z.point ≡ l.to) × (el z.class ≡ G.mul (el x.class) (crossed G l.crossing)) × Under k.order (onward k x.cost l) z.cost) (sym (is_y z atz))
              (yp, yc, inl less)

          not_reel : Is m G el k reel aim cable v reel G.unit → ⊥
          not_reel is =
              let (b, (a, z, le, lt, ata, f, f', d), u) = reel_place m law G el k reel aim cable xs s (s + 1) i n j y chart jn aty in
              let same : a ≡ j = chart.distinct a j z y lt jn ata aty (f ∙ sym is.0 ∙ vp ∙ sym yp) (f' ∙ sym is.1 ∙ vc ∙ sym yc) in
              let eq : y.cost ≡ b = ap (λ (w : Pair C K). w.cost) (sym (is_y z (subst (λ (c : ℕ). Stands xs c z) same ata))) ∙ d in
              less_not_under k.order _ _ less
              (under_trans k.order _ _ _ (under_of_eq k.order _ _ eq)
              (under_trans k.order _ _ _ u (k.least _)))

      -- the lane leads to a pair that has no place yet
      pub progress_added : {l : Lane} (v : Pair C K) → m.lane x.point i ≡ Some l → Within m k aim cable l.to (onward k x.cost l) → n < length xs →
          ((a : ℕ) (z : Pair C K) → a < n → Stands xs a z → z.point ≡ l.to → el z.class ≡ G.mul (el x.class) (crossed G l.crossing) → ⊥) →
          v.point ≡ l.to → el v.class ≡ G.mul (el x.class) (crossed G l.crossing) → v.cost ≡ onward k x.cost l → v.link ≡ Some s →
          Progress m G el k reel aim cable (set xs n v) s (s + 1) (i + 1) (n + 1)
      progress_added {l} v e w room absent vp vc vk vl =
          written l n (n + 1) v e w chart.found (omega arith) (omega arith) (omega arith) (λ a lt ne. omega arith) vp vc vk vl
          (λ a z ne la. absent a z la) (λ z lt. absurd (never lt)) not_reel
        where
          never : n < n → ⊥
          never lt = omega arith

          not_reel : Is m G el k reel aim cable v reel G.unit → ⊥
          not_reel is =
              let (b, (a, z, le, lt, ata, f, f', d), u) = reel_place m law G el k reel aim cable xs s (s + 1) i n s x chart (omega (arith, chart.found)) at in
              absent a z lt ata (f ∙ sym is.0 ∙ vp) (f' ∙ sym is.1 ∙ vc)

      -- where there is no place for such a pair, there are more pairs than places
      pub progress_crowded : {l : Lane} → m.lane x.point i ≡ Some l → Within m k aim cable l.to (onward k x.cost l) → n ≡ length xs →
          ((a : ℕ) (z : Pair C K) → a < n → Stands xs a z → z.point ≡ l.to → el z.class ≡ G.mul (el x.class) (crossed G l.crossing) → ⊥) →
          Crowded {C = C} m G el k reel aim cable (length xs)
      progress_crowded {l} e w full absent =
          crowded m G el k reel aim cable xs l.to (G.mul (el x.class) (crossed G l.crossing))
          (subst (λ (z : ℕ). Distinct G el xs z) full chart.distinct)
          (λ a z lt ata.
          found_reach law chart.searched z.point (el z.class) z.cost
          (found_place G el xs s (s + 1) n a z _ _ (below a lt) ata refl refl))
          (progress_lane_reach l e w)
          (λ has. let (a, z, lt, ata, is) = at_holds m G el k reel aim cable xs _ _ has in absent a z (below a lt) ata is.0 is.1)
        where
          below : (a : ℕ) → a < length xs → a < n
          below a lt = omega arith

          progress_lane_reach : (l : Lane) → m.lane x.point i ≡ Some l → Within m k aim cable l.to (onward k x.cost l) →
              Reach m G k reel aim cable l.to (G.mul (el x.class) (crossed G l.crossing))
          progress_lane_reach l e w =
              lane_reach law chart.searched x.point (el x.class) x.cost i l
              (inr (inl (span_here G el xs s (s + 1) s x (omega arith) (omega arith) at))) e w

      -- where the class is not held, it is one of the reach
      pub progress_unheld : {l : Lane} → m.lane x.point i ≡ Some l → Within m k aim cable l.to (onward k x.cost l) →
          (G.Held (G.mul (el x.class) (crossed G l.crossing)) → ⊥) → Unheld {C = C} m G el k reel aim cable
      progress_unheld {l} e w not = (
        l.to,
        G.mul (el x.class) (crossed G l.crossing),
        lane_reach law chart.searched x.point (el x.class) x.cost i l
            (inr (inl (span_here G el xs s (s + 1) s x (omega arith) (omega arith) at))) e w,
        not,
      )

  -- all lanes of the pair at hand are followed
  pub progress_closed : {xs : List (Pair C K)} {s i n : ℕ} (j : ℕ) → Progress m G el k reel aim cable xs s (s + 1) i n → m.limit ≤ i → Progress m G el k reel aim cable xs (s + 1) (s + 1) j n
  progress_closed {xs} {s} {i} {n} j chart all =
      record {
        settled = omega arith;
        found = chart.found;
        room = chart.room;
        searched =
            resaid law
            (finished law chart.searched (Span G el xs 0 (s + 1)) j all parts whole)
            (Span G el xs 0 (s + 1)) (Span G el xs (s + 1) (s + 1)) (Span G el xs (s + 1) n)
            (λ q h b a. a) (λ q h b a. a) (span_none G el xs (s + 1)) (λ q h b a. absurd a) (λ q h b a. a) (λ q h b a. a);
        distinct = chart.distinct;
        linked = chart.linked;
      }
    where
      parts : (q : ℕ) (h : G.Element) (b : K) → Span G el xs 0 (s + 1) q h b → Span G el xs 0 s q h b ⊎ Span G el xs s (s + 1) q h b
      parts q h b (a, z, le, lt, at, f, f', d) = elim (cases_lt a s) [ inl c ↦ inl (a, z, le, c, at, f, f', d) | inr c ↦ inr (a, z, c, lt, at, f, f', d) ]

      whole : (q : ℕ) (h : G.Element) (b : K) → Span G el xs 0 s q h b ⊎ Span G el xs s (s + 1) q h b → Span G el xs 0 (s + 1) q h b
      whole q h b (inl (a, z, le, lt, at, f, f', d)) = (a, z, le, omega arith, at, f, f', d)
      whole q h b (inr (a, z, le, lt, at, f, f', d)) = (a, z, omega arith, lt, at, f, f', d)

  -- nothing at hand
  module _ {xs : List (Pair C K)} {s i n : ℕ} (chart : Progress m G el k reel aim cable xs s s i n) where
    idle : Searched m G k reel aim cable (Span G el xs 0 s) Nothing i (Span G el xs s n)
    idle =
        resaid law chart.searched (Span G el xs 0 s) Nothing (Span G el xs s n)
        (λ q h b a. a) (λ q h b a. a) (λ q h b a. absurd a) (span_none G el xs s) (λ q h b a. a) (λ q h b a. a)

    -- the least open pair, at the place j, is swapped to the place s
    pub progress_taken : (ys : List (Pair C K)) (j : ℕ) {x : Pair C K} → s ≤ j → j < n → Stands xs j x →
        ((e : ℕ) (y : Pair C K) → s ≤ e → e < n → Stands xs e y → NoLater m k aim x.point x.cost y.point y.cost) →
        length ys ≡ length xs →
        ((d : Pair C K) → get_or ys s d ≡ get_or xs j d) → ((d : Pair C K) → get_or ys j d ≡ get_or xs s d) →
        ((e : ℕ) (d : Pair C K) → (e ≡ s → ⊥) → (e ≡ j → ⊥) → get_or ys e d ≡ get_or xs e d) →
        Progress m G el k reel aim cable ys s (s + 1) 0 n
    progress_taken ys j {x} sj jn at least len first second others =
        record {
          settled = omega arith;
          found = omega arith;
          room = subst (λ (z : ℕ). n ≤ z) (sym len) chart.room;
          searched =
              resaid law
              (taken law idle x.point (el x.class) x.cost
              (span_here G el xs s n j x sj jn at) least' (Span G el ys s (s + 1)) (Span G el ys (s + 1) n) (span_one G el ys s x at_x) less all gone)
              (Span G el ys 0 s) (Span G el ys s (s + 1)) (Span G el ys (s + 1) n)
              (span_same G el ys xs 0 s (λ e y le lt a. from e e y (low e lt) a))
              (span_same G el xs ys 0 s (λ e y le lt a. to e e y (low e lt) a))
              (λ q h b a. a) (λ q h b a. a) (λ q h b a. a) (λ q h b a. a);
          distinct = distinct;
          linked = linked;
        }
      where
        to : (e f : ℕ) (y : Pair C K) → Moved s j e f → Stands xs f y → Stands ys e y
        to e f y (inl (a, b)) atf d = ap (λ (z : ℕ). get_or ys z d) a ∙ first d ∙ ap (λ (z : ℕ). get_or xs z d) (sym b) ∙ atf d
        to e f y (inr (inl (a, b))) atf d = ap (λ (z : ℕ). get_or ys z d) a ∙ second d ∙ ap (λ (z : ℕ). get_or xs z d) (sym b) ∙ atf d
        to e f y (inr (inr (a, b, c))) atf d = others e d a b ∙ ap (λ (z : ℕ). get_or xs z d) (sym c) ∙ atf d

        from : (e f : ℕ) (y : Pair C K) → Moved s j e f → Stands ys e y → Stands xs f y
        from e f y (inl (a, b)) ate d = ap (λ (z : ℕ). get_or xs z d) b ∙ sym (first d) ∙ ap (λ (z : ℕ). get_or ys z d) (sym a) ∙ ate d
        from e f y (inr (inl (a, b))) ate d = ap (λ (z : ℕ). get_or xs z d) b ∙ sym (second d) ∙ ap (λ (z : ℕ). get_or ys z d) (sym a) ∙ ate d
        from e f y (inr (inr (a, b, c))) ate d = ap (λ (z : ℕ). get_or xs z d) c ∙ sym (others e d a b) ∙ ate d

        low : (e : ℕ) → e < s → Moved s j e e
        low e lt = inr (inr ((λ a. omega arith), (λ a. omega arith), refl))

        at_x : Stands ys s x
        at_x d = first d ∙ at d

        below : (e f : ℕ) → Moved s j e f → e < n → f < n
        below e f mv lt = omega arith

        above : (e f : ℕ) → Moved s j e f → s ≤ e → s ≤ f
        above e f mv lt = omega arith

        least' : Soonest m k aim (Span G el xs s n) x.point x.cost
        least' q h b (e, y, le, lt, ate, f, f', d) =
            subst (λ (z : ℕ). NoLater m k aim x.point x.cost z b) f
            (subst (λ (z : K). NoLater m k aim x.point x.cost y.point z) d (least e y le lt ate))

        less : (q : ℕ) (h : G.Element) (b : K) → Span G el ys (s + 1) n q h b → Span G el xs s n q h b
        less q h b (e, y, le, lt, ate, f, f', d) =
            let (e', mv) = moved s j e in
            (e', y, above e e' mv (omega arith), below e e' mv lt, from e e' y mv ate, f, f', d)

        all : (q : ℕ) (h : G.Element) (b : K) → Span G el xs s n q h b → Span G el ys s (s + 1) q h b ⊎ Span G el ys (s + 1) n q h b
        all q h b (e, y, le, lt, ate, f, f', d) =
            let (e', mv) = moved s j e in
            let at' : Stands ys e' y = to e' e y (moved_back s j e e' mv) ate in
            let up : s ≤ e' = above e e' mv le in
            let down : e' < n = below e e' mv lt in
            elim (cases_lt e' (s + 1)) [ inl c ↦ inl (e', y, up, c, at', f, f', d) | inr c ↦ inr (e', y, c, down, at', f, f', d) ]

        distinct : Distinct G el ys n
        distinct a b y z la lb ata atb f f' =
            let (a', ma) = moved s j a in
            let (b', mb) = moved s j b in
            same a a' b b' ma mb (chart.distinct a' b' y z (below a a' ma la) (below b b' mb lb) (from a a' y ma ata) (from b b' z mb atb) f f')
          where
            same : (a a' b b' : ℕ) → Moved s j a a' → Moved s j b b' → a' ≡ b' → a ≡ b
            same a a' b b' ma mb e = omega arith

        gone : (b : K) → Span G el ys (s + 1) n x.point (el x.class) b → ⊥
        gone b (e, y, le, lt, ate, f, f', d) =
            let same : e ≡ s = distinct e s y x lt (omega arith) ate at_x f f' in omega arith

        relinked : (a a' : ℕ) (y : Pair C K) → Moved s j a a' → Links m G el k reel aim cable xs s a' y → Links m G el k reel aim cable ys (s + 1) a y
        relinked a a' y mv (inl r) = inl r
        relinked a a' y mv (inr (no-reel, (h, z, lk, ha, hs, ath, pre))) =
            inr (no-reel, (h, z, lk, before a a' h mv ha hs, omega arith, to h h z (low h hs) ath, pre))
          where
            before : (a a' h : ℕ) → Moved s j a a' → h < a' → h < s → h < a
            before a a' h mv ha hs = omega arith

        linked : (a : ℕ) (y : Pair C K) → a < n → Stands ys a y → Links m G el k reel aim cable ys (s + 1) a y
        linked a y la ata =
            let (a', ma) = moved s j a in
            relinked a a' y ma (chart.linked a' y (below a a' ma la) (from a a' y ma ata))

module _ {C K : Type 0} (m : Site) (law : Lawful m) (G : ClassKind) (el : C → G.Element) (k : CostKind K) (reel : ℕ) (aim : Option ℕ) (cable : ℕ) where
  -- at the start the reel with the unit is open, if it is within the limit
  pub progress_started : (xs : List (Pair C K)) (v : Pair C K) → reel < m.points → Within m k aim cable reel k.zero → 0 < length xs → Stands xs 0 v →
      v.point ≡ reel → el v.class ≡ G.unit → v.cost ≡ k.zero → v.link ≡ None → Progress m G el k reel aim cable xs 0 0 0 1
  progress_started xs v here w some at vp vc vk vl =
      record {
        settled = omega arith;
        found = omega arith;
        room = some;
        searched =
            resaid law (started m law G k reel aim cable (Span G el xs 0 1) here (λ q h b a. (only q h b a, w)) (λ _. (0, v, omega arith, omega arith, at, vp, vc, vk)))
            (Span G el xs 0 0) (Span G el xs 0 0) (Span G el xs 0 1)
            (span_none G el xs 0) (λ q h b a. absurd a) (span_none G el xs 0) (λ q h b a. absurd a) (λ q h b a. a) (λ q h b a. a);
        distinct = λ i j x y hi hj _ _ _ _. omega arith;
        linked = linked;
      }
    where
      is_v : (i : ℕ) (y : Pair C K) → i < 1 → Stands xs i y → y ≡ v
      is_v i y lt aty = let z : i ≡ 0 = omega arith in stands_unique xs 0 y v (subst (λ (c : ℕ). Stands xs c y) z aty) at

      only : (q : ℕ) (h : G.Element) (b : K) → Span G el xs 0 1 q h b → Only reel G.unit k.zero q h b
      only q h b (i, y, le, lt, aty, f, f', d) =
          let same : y ≡ v = is_v i y lt aty in
          (sym f ∙ ap (λ (w : Pair C K). w.point) same ∙ vp, sym f' ∙ ap (λ (w : Pair C K). el w.class) same ∙ vc, sym d ∙ ap (λ (w : Pair C K). w.cost) same ∙ vk)

      linked : (j : ℕ) (x : Pair C K) → j < 1 → Stands xs j x → Links m G el k reel aim cable xs 0 j x
      linked j x lt atx = subst (λ (u : Pair C K). Links m G el k reel aim cable xs 0 j u) (sym (is_v j x lt atx)) (inl ((vp, vc), vl))

module _ {C K : Type 0} {m : Site} (law : Lawful m) {G : ClassKind} {el : C → G.Element} {k : CostKind K} {reel : ℕ} {aim : Option ℕ} {cable : ℕ} where
  -- with nothing open the chart is finished
  module _ {xs : List (Pair C K)} {i n : ℕ} (chart : Progress m G el k reel aim cable xs n n i n) where
    long : length (take n xs) ≡ n
    long = length-take-le n xs chart.room

    pub progress_complete : (p : ℕ) (g : G.Element) → Reach m G k reel aim cable p g → Holds m G el k reel aim cable (take n xs) p g
    progress_complete p g r =
        let (c, (e, y, le, lt, at, f, f', d)) = done m law G k reel aim cable _ _ i (idle law chart) (span_none G el xs n) p g r in
        holds_at m G el k reel aim cable (take n xs) e y p g (subst (λ (z : ℕ). e < z) (sym long) lt) (stands_take xs n e y lt at) (f, f')

    pub progress_finished : Finished m G el k reel aim cable (take n xs)
    progress_finished =
        record {
          complete = progress_complete;
          sound = sound_at m G el k reel aim cable (take n xs) each distinct;
          linked = linked;
        }
      where
        short : (e : ℕ) → e < length (take n xs) → e < n
        short e lt = subst (λ (z : ℕ). e < z) long lt

        each : (e : ℕ) (y : Pair C K) → e < length (take n xs) → Stands (take n xs) e y →
            Reach m G k reel aim cable y.point (el y.class) × Cheapest m G k reel y.point (el y.class) y.cost
        each e y lt at =
            let s = span_here G el xs 0 n e y (omega arith) (short e lt) (stands_untake xs n e y (short e lt) at) in (
              found_reach law chart.searched y.point (el y.class) y.cost (inl s),
              chart.searched.cheapest y.point (el y.class) y.cost (inl s),
            )

        distinct : Distinct G el (take n xs) (length (take n xs))
        distinct a b y z la lb ata atb f f' =
            chart.distinct a b y z (short a la) (short b lb) (stands_untake xs n a y (short a la) ata) (stands_untake xs n b z (short b lb) atb) f f'

        over : (a : ℕ) (y : Pair C K) → a < n → Links m G el k reel aim cable xs n a y → Linked m G el k reel aim cable (take a (take n xs)) y
        over a y la (inl r) = inl r
        over a y la (inr (no-reel, (h, z, lk, ha, hn, ath, pre))) =
            inr (
              no-reel,
              (
                h,
                lk,
                subst (λ (c : ℕ). h < c) (sym (length-take-le a (take n xs) (subst (λ (c : ℕ). a ≤ c) (sym long) (omega arith)))) ha,
                λ d.
                    subst (λ (u : Pair C K). Precedes m G el k reel aim cable u y) (sym (stands_take (take n xs) a h z ha (stands_take xs n h z hn ath) d)) pre,
              ),
            )

        linked : (a : ℕ) (d : Pair C K) → a < length (take n xs) → Linked m G el k reel aim cable (take a (take n xs)) (get_or (take n xs) a d)
        linked a d la =
            let (y, at) = stands_some (take n xs) a la in
            subst (λ (u : Pair C K). Linked m G el k reel aim cable (take a (take n xs)) u) (sym (at d))
            (over a y (short a la) (chart.linked a y (short a la) (stands_untake xs n a y (short a la) at)))

    -- and nothing was to be refused
    pub progress_exact : ((c : C) → G.Held (el c)) →
        Crowded {C = C} m G el k reel aim cable (length xs) ⊎ Unheld {C = C} m G el k reel aim cable → ⊥
    progress_exact held (inl many) =
        not_crowded m G el k reel aim cable (length xs) (take n xs) (subst (λ (z : ℕ). z ≤ length xs) (sym long) chart.room) progress_complete many
    progress_exact held (inr (p, g, r, not)) =
        let (e, y, lt, at, is) = at_holds m G el k reel aim cable (take n xs) p g (progress_complete p g r) in
        not (subst G.Held is.1 (held y.class))
