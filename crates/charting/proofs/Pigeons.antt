-- More pairs than places cannot all have one; and what a list of pairs, place by place, says of the chart.
use Rattle.std.proofs.Common.{◌≡◌, ℕ, zero, suc, ◌<◌, ◌≤◌, ◌⊎◌, List, [], ◌∷◌, map, length, get_or, Option, sym, refl, ap, ◌∙◌, subst, inl, inr, suc-le-suc, zero-le, arith}
use lib.ListN.{length-map}
use Rattle.std.proofs.lemmas.List.{get_or-map}
use Rattle.kinds.specs.Maps.{Site}
use Rattle.kinds.specs.Classes.{ClassKind}
use Rattle.kinds.specs.Costs.{CostKind}
use Rattle.kinds.specs.Reaches.{Cheapest, Reach}
use Rattle.charts.specs.declared.chart.Pair.{Pair}
use Rattle.charts.specs.Charts.{Stands, Is, Holds, Sound, Apart, Crowded}
use Rattle.charting.specs.Places.{Distinct}
use Rattle.charts.proofs.Stands.{stands_some}

module _ {C K : Type 0} (m : Site) (G : ClassKind) (el : C → G.Element) (k : CostKind K) (reel : ℕ) (aim : Option ℕ) (cable : ℕ) where
  -- a list without one place that has the pair: it has all other pairs still
  without : (xs : List (Pair C K)) (p : ℕ) (g : G.Element) → Holds m G el k reel aim cable xs p g →
      (x : Pair C K) × (rest : List (Pair C K)) × Is m G el k reel aim cable x p g × (length xs ≡ suc (length rest))
      × ((q : ℕ) (h : G.Element) → Holds m G el k reel aim cable xs q h → Is m G el k reel aim cable x q h ⊎ Holds m G el k reel aim cable rest q h)
  without [] p g a = absurd a
  without (x ∷ xs) p g (inl a) = (x, xs, a, refl, λ q h b. b)
  without (x ∷ xs) p g (inr a) =
      let (y, rest, is, e, f) = without xs p g a in (
        y,
        x ∷ rest,
        is,
        ap suc e,
        λ q h b. elim b [ inl c ↦ inr (inl c) | inr c ↦ elim (f q h c) [ inl d ↦ inl d | inr d ↦ inr (inr d) ] ],
      )

  -- distinct pairs that a list has are no more than its places
  pub pigeons : (ps : List (ℕ × G.Element)) (xs : List (Pair C K)) → Apart {C = C} m G el k reel aim cable ps →
      ((i : ℕ) (d : ℕ × G.Element) → i < length ps → Holds m G el k reel aim cable xs (get_or ps i d).0 (get_or ps i d).1) → length ps ≤ length xs
  pigeons [] xs apart has = zero-le
  pigeons (a ∷ ps) xs apart has =
      let (x, rest, is, e, f) = without xs a.0 a.1 (has 0 a (first (length ps))) in
      let others : (i : ℕ) (d : ℕ × G.Element) → i < length ps → Holds m G el k reel aim cable rest (get_or ps i d).0 (get_or ps i d).1 =
      λ i d h.
      elim (f (get_or ps i d).0 (get_or ps i d).1 (has (suc i) d (next i (length ps) h))) [
        | inl is' ↦ absurd (apart 0 (suc i) d (first i) (next i (length ps) h) (λ j. ((sym is.0 ∙ is'.0) j, (sym is.1 ∙ is'.1) j)))
        | inr a ↦ a
      ] in
      le_of (length ps) (length xs) (length rest) (pigeons ps rest (λ i j d lt h. apart (suc i) (suc j) d (next i j lt) (next j (length ps) h)) others) e
    where
      first : (n : ℕ) → 0 < suc n
      first n = omega arith

      next : (i n : ℕ) → i < n → suc i < suc n
      next i n h = omega arith

      le_of : (n l r : ℕ) → n ≤ r → l ≡ suc r → suc n ≤ l
      le_of n l r h e = omega arith

  -- so a list that has all of the reach has a place for each
  pub not_crowded : (n : ℕ) (xs : List (Pair C K)) → length xs ≤ n →
      ((p : ℕ) (g : G.Element) → Reach m G k reel aim cable p g → Holds m G el k reel aim cable xs p g) → Crowded {C = C} m G el k reel aim cable n → ⊥
  not_crowded n xs le complete (ps, more, apart, reached) =
      never (length ps) (length xs) (pigeons ps xs apart (λ i d h. complete _ _ (reached i d h))) more le
    where
      never : (a b : ℕ) → a ≤ b → n < a → b ≤ n → ⊥
      never a b h more le = omega arith

  pub holds_at : (xs : List (Pair C K)) (i : ℕ) (x : Pair C K) (p : ℕ) (g : G.Element) → i < length xs → Stands xs i x → Is m G el k reel aim cable x p g →
      Holds m G el k reel aim cable xs p g
  holds_at [] i x p g h a is = absurd (never i h)
    where
      never : (i : ℕ) → i < 0 → ⊥
      never i h = omega arith
  holds_at (y ∷ xs) zero x p g h a is = inl (subst (λ (z : Pair C K). Is m G el k reel aim cable z p g) (sym (a x)) is)
  holds_at (y ∷ xs) (suc i) x p g h a is = inr (holds_at xs i x p g (omega arith) a is)

  pub at_holds : (xs : List (Pair C K)) (p : ℕ) (g : G.Element) → Holds m G el k reel aim cable xs p g →
      (i : ℕ) × (x : Pair C K) × (i < length xs) × Stands xs i x × Is m G el k reel aim cable x p g
  at_holds [] p g a = absurd a
  at_holds (y ∷ xs) p g (inl is) = (0, y, omega arith, λ d. refl, is)
  at_holds (y ∷ xs) p g (inr a) = let (i, x, h, at, is) = at_holds xs p g a in (suc i, x, suc-le-suc h, at, is)

  pub sound_at : (xs : List (Pair C K)) →
      ((i : ℕ) (x : Pair C K) → i < length xs → Stands xs i x →
      Reach m G k reel aim cable x.point (el x.class) × Cheapest m G k reel x.point (el x.class) x.cost) →
      Distinct G el xs (length xs) → Sound m G el k reel aim cable xs
  sound_at [] each distinct = tt
  sound_at (x ∷ xs) each distinct =
      let here = each 0 x (first (length xs)) (λ d. refl) in (
        here.0,
        here.1,
        λ a.
            let (i, y, h, at, is) = at_holds xs x.point (el x.class) a in
            never i (distinct 0 (suc i) x y (first (length xs)) (suc-le-suc h) (λ d. refl) at (sym is.0) (sym is.1)),
        sound_at xs (λ i y h at. each (suc i) y (suc-le-suc h) at)
            (λ i j y z h h' at at' e e'. back i j (distinct (suc i) (suc j) y z (suc-le-suc h) (suc-le-suc h') at at' e e')),
      )
    where
      first : (n : ℕ) → 0 < suc n
      first n = omega arith

      never : (i : ℕ) → 0 ≡ suc i → ⊥
      never i e = omega arith

      back : (i j : ℕ) → suc i ≡ suc j → i ≡ j
      back i j e = omega arith

  -- distinct places, all of the reach, and a pair of the reach that has none of them
  pub crowded : (xs : List (Pair C K)) (p : ℕ) (g : G.Element) → Distinct G el xs (length xs) →
      ((i : ℕ) (x : Pair C K) → i < length xs → Stands xs i x → Reach m G k reel aim cable x.point (el x.class)) →
      Reach m G k reel aim cable p g → (Holds m G el k reel aim cable xs p g → ⊥) → Crowded {C = C} m G el k reel aim cable (length xs)
  crowded xs p g distinct each new absent =
      ((p, g) ∷ map pair xs, more (length xs) (length (map pair xs)) (length-map xs pair), apart, reached)
    where
      pair : Pair C K → ℕ × G.Element
      pair x = (x.point, el x.class)

      more : (a b : ℕ) → b ≡ a → a < suc b
      more a b e = omega arith

      -- what stands at a place of the mapped list
      mapped : (i : ℕ) (d : ℕ × G.Element) → i < length (map pair xs) → (x : Pair C K) × (i < length xs) × Stands xs i x × (get_or (map pair xs) i d ≡ pair x)
      mapped i d h =
          let h' : i < length xs = subst (λ (n : ℕ). i < n) (length-map xs pair) h in
          let (x, at) = stands_some xs i h' in
          (x, h', at, get_or-map pair xs i x d h' ∙ ap pair (at x))

      apart : Apart {C = C} m G el k reel aim cable ((p, g) ∷ map pair xs)
      apart i zero d lt h e = absurd (not_below i lt)
        where
          not_below : (i : ℕ) → i < 0 → ⊥
          not_below i lt = omega arith
      apart zero (suc j) d lt h e =
          let (x, h', at, f) = mapped j d (omega arith) in
          absent (holds_at xs j x p g h' at ((ap (λ (z : ℕ × G.Element). z.0) (sym (e ∙ f))), ap (λ (z : ℕ × G.Element). z.1) (sym (e ∙ f))))
      apart (suc i) (suc j) d lt h e =
          let (x, h', at, f) = mapped i d (omega arith) in
          let (y, h'', at', f') = mapped j d (omega arith) in
          let same : pair x ≡ pair y = sym f ∙ e ∙ f' in
          not_less i j lt (distinct i j x y h' h'' at at' (ap (λ (z : ℕ × G.Element). z.0) same) (ap (λ (z : ℕ × G.Element). z.1) same))
        where
          not_less : (i j : ℕ) → suc i < suc j → i ≡ j → ⊥
          not_less i j lt e = omega arith

      reached : (i : ℕ) (d : ℕ × G.Element) → i < length ((p, g) ∷ map pair xs) →
          Reach m G k reel aim cable (get_or ((p, g) ∷ map pair xs) i d).0 (get_or ((p, g) ∷ map pair xs) i d).1
      reached zero d h = new
      reached (suc i) d h =
          let (x, h', at, f) = mapped i d (omega arith) in
          subst (λ (z : ℕ × G.Element). Reach m G k reel aim cable z.0 z.1) (sym f) (each i x h' at)
