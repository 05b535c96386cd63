-- How the search goes on: it starts at the reel, takes up the least open pair, and follows that pair's lanes one by one.
use Rattle.std.proofs.Common.{◌≡◌, ℕ, ◌+◌, ◌<◌, ◌≤◌, ◌⊎◌, Some, None, Option, sym, refl, subst, inl, inr, arith, below_more}
use Rattle.kinds.specs.declared.lane.Lane.{Lane}
use Rattle.kinds.specs.Orders.{Under}
use Rattle.kinds.specs.Maps.{Site, Lawful}
use Rattle.kinds.specs.Classes.{ClassKind, crossed}
use Rattle.kinds.specs.Costs.{CostKind}
use Rattle.kinds.specs.Reaches.{RunsAt, Cheapest, Reach, Within}
use Rattle.charting.specs.Searching.{Pairs, Nothing, Only, Known, NoDearer, onward, Closed, Searched, Soonest}
use Rattle.kinds.proofs.Orders.{under_refl, under_trans}
use Rattle.kinds.proofs.Runs.{runs_at_reel, runs_at_lane}
use Rattle.charting.proofs.Picks.{pick}

-- a fact of the one pair is a fact of each of F, if F has no other
pub by_only : {E K : Type 0} (P : ℕ → E → K → Type 0) (p : ℕ) (g : E) (c : K) (q : ℕ) (h : E) (b : K) → Only p g c q h b → P p g c → P q h b
by_only P p g c q h b (e, f, d) t = subst (λ x. P x h b) (sym e) (subst (λ x. P p x b) (sym f) (subst (λ x. P p g x) (sym d) t))

module _ {K : Type 0} (m : Site) (law : Lawful m) (G : ClassKind) (k : CostKind K) (reel : ℕ) (aim : Option ℕ) (cable : ℕ) where
  no_dearer_trans : (F H : Pairs G.Element K) → ((q : ℕ) (h : G.Element) (b : K) → F q h b → NoDearer k H q h b) →
      (p : ℕ) (g : G.Element) (c : K) → NoDearer k F p g c → NoDearer k H p g c
  no_dearer_trans F H f p g c (b, a, u) = let (b', a', u') = f p g b a in (b', a', under_trans k.order _ _ _ u' u)

  -- as much or more is found
  pub no_dearer_found : (S X O S' X' O' : Pairs G.Element K) →
      ((q : ℕ) (h : G.Element) (b : K) → S q h b → S' q h b ⊎ X' q h b) →
      ((q : ℕ) (h : G.Element) (b : K) → X q h b → S' q h b ⊎ X' q h b) →
      ((q : ℕ) (h : G.Element) (b : K) → O q h b → NoDearer k (Known S' X' O') q h b) →
      (p : ℕ) (g : G.Element) (c : K) → NoDearer k (Known S X O) p g c → NoDearer k (Known S' X' O') p g c
  no_dearer_found S X O S' X' O' s x o = no_dearer_trans (Known S X O) (Known S' X' O') each
    where
      settled : (q : ℕ) (h : G.Element) (b : K) → S' q h b ⊎ X' q h b → NoDearer k (Known S' X' O') q h b
      settled q h b (inl a) = (b, inl a, under_refl k.order b)
      settled q h b (inr a) = (b, inr (inl a), under_refl k.order b)

      each : (q : ℕ) (h : G.Element) (b : K) → Known S X O q h b → NoDearer k (Known S' X' O') q h b
      each q h b (inl a) = settled q h b (s q h b a)
      each q h b (inr (inl a)) = settled q h b (x q h b a)
      each q h b (inr (inr a)) = o q h b a

  -- the reel with the unit, if it is within the limit, is all that is open at the start
  pub started : (O : Pairs G.Element K) → reel < m.points →
      ((q : ℕ) (h : G.Element) (b : K) → O q h b → Only reel G.unit k.zero q h b × Within m k aim cable reel k.zero) →
      (Within m k aim cable reel k.zero → O reel G.unit k.zero) →
      Searched m G k reel aim cable Nothing Nothing 0 O
  started O here only there =
      record {
        cheapest = λ p g c e. elim e [ inl a ↦ absurd a | inr a ↦ absurd a ];
        runs = λ p g c o. by_only (RunsAt m G k reel) reel G.unit k.zero p g c (only p g c o).0 (runs_at_reel m law.lanes G k reel here);
        within = within;
        apart = λ p g b c e o. elim e [ inl a ↦ a | inr a ↦ a ];
        start = λ w. (k.zero, inr (inr (there w)), under_refl k.order k.zero);
        closed = λ p g c n s. absurd s;
        partly = λ p g c n s. absurd s;
      }
    where
      within : (p : ℕ) (g : G.Element) (c : K) → Known Nothing Nothing O p g c → Within m k aim cable p c
      within p g c (inl a) = absurd a
      within p g c (inr (inl a)) = absurd a
      within p g c (inr (inr o)) = by_only (λ q h b. Within m k aim cable q b) reel G.unit k.zero p g c (only p g c o).0 (only p g c o).1

module _ {K : Type 0} {m : Site} (law : Lawful m) {G : ClassKind} {k : CostKind K} {reel : ℕ} {aim : Option ℕ} {cable : ℕ} where
  module _ {S X : Pairs G.Element K} {i : ℕ} {O : Pairs G.Element K} (inv : Searched m G k reel aim cable S X i O) where
    pub found_runs : (p : ℕ) (g : G.Element) (c : K) → Known S X O p g c → RunsAt m G k reel p g c
    found_runs p g c (inl a) = (inv.cheapest p g c (inl a)).0
    found_runs p g c (inr (inl a)) = (inv.cheapest p g c (inr a)).0
    found_runs p g c (inr (inr a)) = inv.runs p g c a

    pub found_reach : (p : ℕ) (g : G.Element) (c : K) → Known S X O p g c → Reach m G k reel aim cable p g
    found_reach p g c f = (c, found_runs p g c f, inv.within p g c f)

    -- a lane within the limit leads into the reach
    pub lane_reach : (p : ℕ) (g : G.Element) (c : K) (n : ℕ) (l : Lane) → Known S X O p g c → m.lane p n ≡ Some l → Within m k aim cable l.to (onward k c l) →
        Reach m G k reel aim cable l.to (G.mul g (crossed G l.crossing))
    lane_reach p g c n l f e w = (onward k c l, runs_at_lane m law.lanes G k reel p g c n l (found_runs p g c f) e, w)

    -- no lane makes a settled pair cheaper
    pub settled_no_dearer : (p : ℕ) (g : G.Element) (c : K) (n : ℕ) (l : Lane) (b : K) → Known S X O p g c → m.lane p n ≡ Some l →
        S l.to (G.mul g (crossed G l.crossing)) b ⊎ X l.to (G.mul g (crossed G l.crossing)) b → Under k.order b (onward k c l)
    settled_no_dearer p g c n l b f e s = (inv.cheapest l.to _ b s).1 (onward k c l) (runs_at_lane m law.lanes G k reel p g c n l (found_runs p g c f) e)

    -- the same pairs, said otherwise
    pub resaid : (S' X' O' : Pairs G.Element K) →
        ((q : ℕ) (h : G.Element) (b : K) → S' q h b → S q h b) → ((q : ℕ) (h : G.Element) (b : K) → S q h b → S' q h b) →
        ((q : ℕ) (h : G.Element) (b : K) → X' q h b → X q h b) → ((q : ℕ) (h : G.Element) (b : K) → X q h b → X' q h b) →
        ((q : ℕ) (h : G.Element) (b : K) → O' q h b → O q h b) → ((q : ℕ) (h : G.Element) (b : K) → O q h b → O' q h b) →
        Searched m G k reel aim cable S' X' i O'
    resaid S' X' O' s s' x x' o o' =
        record {
          cheapest = λ p g c e. inv.cheapest p g c (back p g c e);
          runs = λ p g c a. inv.runs p g c (o p g c a);
          within = λ p g c f. inv.within p g c (found p g c f);
          apart = λ p g b c e a. inv.apart p g b c (back p g b e) (o p g c a);
          start = λ w. carry reel G.unit k.zero (inv.start w);
          closed = λ p g c n a l e w. carry l.to _ _ (inv.closed p g c n (s p g c a) l e w);
          partly = λ p g c n a lt l e w. carry l.to _ _ (inv.partly p g c n (x p g c a) lt l e w);
        }
      where
        back : (p : ℕ) (g : G.Element) (c : K) → S' p g c ⊎ X' p g c → S p g c ⊎ X p g c
        back p g c (inl a) = inl (s p g c a)
        back p g c (inr a) = inr (x p g c a)

        found : (p : ℕ) (g : G.Element) (c : K) → Known S' X' O' p g c → Known S X O p g c
        found p g c (inl a) = inl (s p g c a)
        found p g c (inr (inl a)) = inr (inl (x p g c a))
        found p g c (inr (inr a)) = inr (inr (o p g c a))

        carry : (p : ℕ) (g : G.Element) (c : K) → NoDearer k (Known S X O) p g c → NoDearer k (Known S' X' O') p g c
        carry = no_dearer_found m law G k reel aim cable S X O S' X' O' (λ q h b a. inl (s' q h b a)) (λ q h b a. inr (x' q h b a)) (λ q h b a. (b, inr (inr (o' q h b a)), under_refl k.order b))

    -- all lanes followed: the pair at hand is closed too
    pub finished : (S' : Pairs G.Element K) (j : ℕ) → m.limit ≤ i →
        ((q : ℕ) (h : G.Element) (b : K) → S' q h b → S q h b ⊎ X q h b) →
        ((q : ℕ) (h : G.Element) (b : K) → S q h b ⊎ X q h b → S' q h b) →
        Searched m G k reel aim cable S' Nothing j O
    finished S' j all s s' =
        record {
          cheapest = λ p g c e. inv.cheapest p g c (back p g c e);
          runs = inv.runs;
          within = λ p g c f. inv.within p g c (found p g c f);
          apart = λ p g b c e a. inv.apart p g b c (back p g b e) a;
          start = λ w. carry reel G.unit k.zero (inv.start w);
          closed = λ p g c n a l e w. carry l.to _ _ (closed p g c n l (s p g c a) e w);
          partly = λ p g c n a. absurd a;
        }
      where
        back : (p : ℕ) (g : G.Element) (c : K) → S' p g c ⊎ Nothing p g c → S p g c ⊎ X p g c
        back p g c (inl a) = s p g c a
        back p g c (inr a) = absurd a

        found : (p : ℕ) (g : G.Element) (c : K) → Known S' Nothing O p g c → Known S X O p g c
        found p g c (inl a) = elim (s p g c a) [ inl x ↦ inl x | inr x ↦ inr (inl x) ]
        found p g c (inr (inl a)) = absurd a
        found p g c (inr (inr a)) = inr (inr a)

        carry : (p : ℕ) (g : G.Element) (c : K) → NoDearer k (Known S X O) p g c → NoDearer k (Known S' Nothing O) p g c
        carry = no_dearer_found m law G k reel aim cable S X O S' Nothing O (λ q h b a. inl (s' q h b (inl a))) (λ q h b a. inl (s' q h b (inr a))) (λ q h b a. (b, inr (inr a), under_refl k.order b))

        closed : (p : ℕ) (g : G.Element) (c : K) (n : ℕ) (l : Lane) → S p g c ⊎ X p g c → m.lane p n ≡ Some l → Within m k aim cable l.to (onward k c l) →
            NoDearer k (Known S X O) l.to (G.mul g (crossed G l.crossing)) (onward k c l)
        closed p g c n l (inl a) e w = inv.closed p g c n a l e w
        closed p g c n l (inr a) e w = inv.partly p g c n a (below n (law.lanes.starts p n l e).1) l e w
          where
            below : (n : ℕ) → n < m.limit → n < i
            below n h = omega arith

    -- one lane number more. What is open now was open, or is the end of a run within the limit; what was open is so at no more
    pub followed : (O' : Pairs G.Element K) →
        ((q : ℕ) (h : G.Element) (b : K) → O' q h b → O q h b ⊎ (RunsAt m G k reel q h b × Within m k aim cable q b)) →
        ((q : ℕ) (h : G.Element) (b : K) → O q h b → NoDearer k O' q h b) →
        ((q : ℕ) (h : G.Element) (b d : K) → S q h b ⊎ X q h b → O' q h d → ⊥) →
        ((p : ℕ) (g : G.Element) (c : K) → X p g c → Closed m G k aim cable (Known S X O') p g c i) →
        Searched m G k reel aim cable S X (i + 1) O'
    followed O' grown kept apart here =
        record {
          cheapest = inv.cheapest;
          runs = λ p g c a. elim (grown p g c a) [ inl o ↦ inv.runs p g c o | inr r ↦ r.0 ];
          within = within;
          apart = apart;
          start = λ w. carry reel G.unit k.zero (inv.start w);
          closed = λ p g c n a l e w. carry l.to _ _ (inv.closed p g c n a l e w);
          partly = λ p g c n a lt. below_more (λ j. Closed m G k aim cable (Known S X O') p g c j) i (λ j below l e w. carry l.to _ _ (inv.partly p g c j a below l e w)) (here p g c a) n lt;
        }
      where
        within : (p : ℕ) (g : G.Element) (c : K) → Known S X O' p g c → Within m k aim cable p c
        within p g c (inl a) = inv.within p g c (inl a)
        within p g c (inr (inl a)) = inv.within p g c (inr (inl a))
        within p g c (inr (inr a)) = elim (grown p g c a) [ inl o ↦ inv.within p g c (inr (inr o)) | inr r ↦ r.1 ]

        carry : (p : ℕ) (g : G.Element) (c : K) → NoDearer k (Known S X O) p g c → NoDearer k (Known S X O') p g c
        carry =
            no_dearer_found m law G k reel aim cable S X O S X O' (λ q h b a. inl a) (λ q h b a. inr a)
            (λ q h b a. let (d, o, u) = kept q h b a in (d, inr (inr o), u))

    -- the same with nothing new
    unchanged : ((p : ℕ) (g : G.Element) (c : K) → X p g c → Closed m G k aim cable (Known S X O) p g c i) → Searched m G k reel aim cable S X (i + 1) O
    unchanged here = followed O (λ q h b a. inl a) (λ q h b a. (b, a, under_refl k.order b)) (λ q h b d e a. inv.apart q h b d e a) here

    module _ (p : ℕ) (g : G.Element) (c : K) (only : (q : ℕ) (h : G.Element) (b : K) → X q h b → Only p g c q h b) where
      here_only : (O' : Pairs G.Element K) → Closed m G k aim cable (Known S X O') p g c i →
          (q : ℕ) (h : G.Element) (b : K) → X q h b → Closed m G k aim cable (Known S X O') q h b i
      here_only O' t q h b a = by_only (λ q h b. Closed m G k aim cable (Known S X O') q h b i) p g c q h b (only q h b a) t

      -- the number i names no lane
      pub no_lane : m.lane p i ≡ None → Searched m G k reel aim cable S X (i + 1) O
      no_lane e = unchanged (here_only O (λ l f w. let z : ◌≡◌ {A = ℕ} 0 1 = cc (e, f) in absurd (not z)))
        where
          not : ◌≡◌ {A = ℕ} 0 1 → ⊥
          not z = omega arith

      -- it leads out of the limit
      pub too_far : (l : Lane) → m.lane p i ≡ Some l → (Within m k aim cable l.to (onward k c l) → ⊥) → Searched m G k reel aim cable S X (i + 1) O
      too_far l e far =
          unchanged (here_only O (λ l' f w. absurd (far (subst (λ (x : Lane). Within m k aim cable x.to (onward k c x)) (same_lane l l' e f) w))))
        where
          same_lane : (l l' : Lane) → m.lane p i ≡ Some l → m.lane p i ≡ Some l' → l' ≡ l
          same_lane l l' e f = cc (e, f)

      -- it leads to a pair that costs no more already
      pub no_cheaper : (l : Lane) → m.lane p i ≡ Some l → NoDearer k (Known S X O) l.to (G.mul g (crossed G l.crossing)) (onward k c l) →
          Searched m G k reel aim cable S X (i + 1) O
      no_cheaper l e t = unchanged (here_only O (λ l' f w. subst (λ (x : Lane). NoDearer k (Known S X O) x.to (G.mul g (crossed G x.crossing)) (onward k c x)) (same_lane l l' e f) t))
        where
          same_lane : (l l' : Lane) → m.lane p i ≡ Some l → m.lane p i ≡ Some l' → l ≡ l'
          same_lane l l' e f = cc (e, f)

      -- it leads to a pair that is new, or open and dearer: now that pair is open at what it costs this way
      pub opened : (l : Lane) (O' : Pairs G.Element K) → X p g c → m.lane p i ≡ Some l → Within m k aim cable l.to (onward k c l) →
          ((b : K) → S l.to (G.mul g (crossed G l.crossing)) b ⊎ X l.to (G.mul g (crossed G l.crossing)) b → ⊥) →
          O' l.to (G.mul g (crossed G l.crossing)) (onward k c l) →
          ((q : ℕ) (h : G.Element) (b : K) → O' q h b → O q h b ⊎ Only l.to (G.mul g (crossed G l.crossing)) (onward k c l) q h b) →
          ((q : ℕ) (h : G.Element) (b : K) → O q h b → O' q h b ⊎ ((q ≡ l.to) × (h ≡ G.mul g (crossed G l.crossing)) × Under k.order (onward k c l) b)) →
          Searched m G k reel aim cable S X (i + 1) O'
      opened l O' x e w free new grown kept =
          followed O' grown' kept' apart (here_only O' (λ l' f w'. subst (λ (x : Lane). NoDearer k (Known S X O') x.to (G.mul g (crossed G x.crossing)) (onward k c x)) (same_lane l l' e f) (onward k c l, inr (inr new), under_refl k.order _)))
        where
          same_lane : (l l' : Lane) → m.lane p i ≡ Some l → m.lane p i ≡ Some l' → l ≡ l'
          same_lane l l' e f = cc (e, f)

          t : ℕ
          t = l.to

          y : G.Element
          y = G.mul g (crossed G l.crossing)

          reached : RunsAt m G k reel l.to y (onward k c l)
          reached = runs_at_lane m law.lanes G k reel p g c i l (inv.cheapest p g c (inr x)).0 e

          grown' : (q : ℕ) (h : G.Element) (b : K) → O' q h b → O q h b ⊎ (RunsAt m G k reel q h b × Within m k aim cable q b)
          grown' q h b a = elim (grown q h b a) [ inl o ↦ inl o | inr s ↦ inr (by_only (λ q h b. RunsAt m G k reel q h b × Within m k aim cable q b) l.to y (onward k c l) q h b s (reached, w)) ]

          kept' : (q : ℕ) (h : G.Element) (b : K) → O q h b → NoDearer k O' q h b
          kept' q h b a =
              elim (kept q h b a) [
                | inl o ↦ (b, o, under_refl k.order b)
                | inr s ↦ (onward k c l, by_only (λ q h b. O' q h b) l.to y (onward k c l) q h (onward k c l) (s.0, s.1, refl) new, s.2)
              ]

          apart : (q : ℕ) (h : G.Element) (b d : K) → S q h b ⊎ X q h b → O' q h d → ⊥
          apart q h b d s a =
              elim (grown q h d a) [
                | inl o ↦ inv.apart q h b d s o
                | inr r ↦ free b (subst (λ (v : ℕ). S v y b ⊎ X v y b) r.0 (subst (λ (v : G.Element). S q v b ⊎ X q v b) r.1 s))
              ]

module _ {K : Type 0} {m : Site} (law : Lawful m) {G : ClassKind} {k : CostKind K} {reel : ℕ} {aim : Option ℕ} {cable : ℕ} where
  -- the least open pair is taken up
  pub taken : {S : Pairs G.Element K} {j : ℕ} {O : Pairs G.Element K} → Searched m G k reel aim cable S Nothing j O →
      (p : ℕ) (g : G.Element) (c : K) → O p g c → Soonest m k aim O p c → (X O' : Pairs G.Element K) →
      ((q : ℕ) (h : G.Element) (b : K) → X q h b → Only p g c q h b) →
      ((q : ℕ) (h : G.Element) (b : K) → O' q h b → O q h b) →
      ((q : ℕ) (h : G.Element) (b : K) → O q h b → X q h b ⊎ O' q h b) →
      ((b : K) → O' p g b → ⊥) →
      Searched m G k reel aim cable S X 0 O'
  taken {S} {j} {O} inv p g c o least X O' only less all gone =
      record {
        cheapest = cheapest;
        runs = λ q h b a. inv.runs q h b (less q h b a);
        within = within;
        apart = apart;
        start = λ w. carry reel G.unit k.zero (inv.start w);
        closed = λ q h b n a l e w. carry l.to _ _ (inv.closed q h b n a l e w);
        partly = λ q h b n a lt. absurd (never n lt);
      }
    where
      never : (n : ℕ) → n < 0 → ⊥
      never n lt = omega arith

      cheapest : (q : ℕ) (h : G.Element) (b : K) → S q h b ⊎ X q h b → Cheapest m G k reel q h b
      cheapest q h b (inl s) = inv.cheapest q h b (inl s)
      cheapest q h b (inr x) = by_only (λ q h b. Cheapest m G k reel q h b) p g c q h b (only q h b x) (pick m law G k reel aim cable S O j inv p g c o least)

      within : (q : ℕ) (h : G.Element) (b : K) → Known S X O' q h b → Within m k aim cable q b
      within q h b (inl a) = inv.within q h b (inl a)
      within q h b (inr (inl x)) = by_only (λ q h b. Within m k aim cable q b) p g c q h b (only q h b x) (inv.within p g c (inr (inr o)))
      within q h b (inr (inr a)) = inv.within q h b (inr (inr (less q h b a)))

      apart : (q : ℕ) (h : G.Element) (b d : K) → S q h b ⊎ X q h b → O' q h d → ⊥
      apart q h b d (inl s) a = inv.apart q h b d (inl s) (less q h d a)
      apart q h b d (inr x) a = gone d (subst (λ (v : ℕ). O' v g d) (only q h b x).0 (subst (λ (v : G.Element). O' q v d) (only q h b x).1 a))

      open_found : (q : ℕ) (h : G.Element) (b : K) → X q h b ⊎ O' q h b → NoDearer k (Known S X O') q h b
      open_found q h b (inl x) = (b, inr (inl x), under_refl k.order b)
      open_found q h b (inr a) = (b, inr (inr a), under_refl k.order b)

      carry : (q : ℕ) (h : G.Element) (b : K) → NoDearer k (Known S Nothing O) q h b → NoDearer k (Known S X O') q h b
      carry = no_dearer_found m law G k reel aim cable S Nothing O S X O' (λ q h b a. inl a) (λ q h b a. absurd a) (λ q h b a. open_found q h b (all q h b a))
