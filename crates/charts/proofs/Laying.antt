-- What the links of a finished chart say of the map.
use Rattle.std.proofs.Common.{◌≡◌, ℕ, zero, suc, ◌<◌, true, ◌⊎◌, List, [], ◌∷◌, ◌++◌, reverse, length, take, drop, Some, Ok, Err, Option, Result, sym, refl, ap, ◌∙◌, subst, inl, inr, arith, MatchResult}
use Rattle.std.proofs.lemmas.List.{map_push, reverse-append, length-reverse, length-take-le, take_at}
use Rattle.std.proofs.lemmas.Bool.{cases_Bool, false≢true}
use Rattle.std.proofs.lemmas.Option.{same_Some}
use Rattle.kinds.specs.declared.lane.Lane.{Lane}
use Rattle.kinds.specs.declared.refusal.Refusal.{Refusal}
use Rattle.kinds.specs.declared.refusal.Refusal.TheVariants.{NoRun}
use Rattle.kinds.specs.declared.class.Class.{Ghosts as Classes}
use Rattle.kinds.specs.declared.cost.Cost.{Ghosts as Costs}
use Rattle.kinds.specs.Orders.{Under}
use Rattle.kinds.specs.Maps.{Site, Lawful}
use Rattle.kinds.specs.Classes.{crossed}
use Rattle.kinds.specs.Runs.{Run, class_of, cost_of}
use Rattle.kinds.specs.Reaches.{Cheapest, Lies}
use Rattle.kinds.proofs.Orders.{under_antisym, under_trans}
use Rattle.kinds.proofs.Limits.{lies_of_reach, reach_of_lies}
use Rattle.kinds.proofs.Runs.{run_end, run_push, class_push, cost_push, runs_at_reel}
use Rattle.charts.specs.declared.chart.Pair.{Pair}
use Rattle.charts.specs.declared.chart.Chart.{Chart}
use Rattle.charts.specs.Charts.{Stands, Holds, Precedes, Linked, Finished}
use Rattle.charts.specs.Asking.{covering, asked_at}
use Rattle.charts.specs.Finding.{is_pair, Matches, FirstAt}
use Rattle.charts.specs.Trails.{Home, Leads, Runs, RunsIn, WritesRun}
use Rattle.charts.specs.Laid.{stops, Laid, LaysTruly}
use Rattle.charts.proofs.Stands.{none_below, stands_some, stands_unique, stands_take}
use Rattle.charts.proofs.Searches.{pair_passes, passes_pair}
use Rattle.charts.proofs.Trails.{leads_on}
use Rattle.charts.proofs.Joining.{sound_has, covered_tail, asked_is}

module _ {C K : Type 0} (b : Classes C) (p : ℕ) (a : C) where
  -- a first place, behind one that is not it
  pub first_later : (y : Pair C K) (xs : List (Pair C K)) (i : ℕ) → (Matches b p a y → ⊥) → FirstAt b xs p a i → FirstAt b (y ∷ xs) p a (suc i)
  first_later y xs i off f = record { below = omega (arith, f.below); holds = f.holds; first = before }
    where
      before : (j : ℕ) (x : Pair C K) → j < suc i → Stands (y ∷ xs) j x → Matches b p a x → ⊥
      before zero x l at e = off (subst (Matches b p a) (sym (at x)) e)
      before (suc j) x l at e = f.first j x (omega arith) at e

  -- a pair that is held has a first place
  pub holds_first : (m : Site) (c : Costs K) (reel : ℕ) (aim : Option ℕ) (cable : ℕ) (xs : List (Pair C K)) → Holds m b.kind b.element c.costs reel aim cable xs p (b.element a) → (i : ℕ) × FirstAt b xs p a i
  holds_first m c reel aim cable [] h = absurd h
  holds_first m c reel aim cable (x ∷ xs) h = elim (cases_Bool (is_pair b p (b.element a) x)) [
    | inl t ↦ (0, record { below = omega arith; holds = λ y at. subst (Matches b p a) (at y) (pair_passes b p (b.element a) x t); first = λ j y l at e. none_below j l })
    | inr t ↦
        let off : Matches b p a x → ⊥ = λ e. false≢true (sym t ∙ passes_pair b p (b.element a) x e) in
        let (i, f) = holds_first m c reel aim cable xs (rest off h) in
        (suc i, first_later x xs i off f)
  ]
    where
      rest : (Matches b p a x → ⊥) → Holds m b.kind b.element c.costs reel aim cable (x ∷ xs) p (b.element a) → Holds m b.kind b.element c.costs reel aim cable xs p (b.element a)
      rest off (inl e) = absurd (off e)
      rest off (inr h) = h

module _ {C K : Type 0} (m : Site) (law : Lawful m) (b : Classes C) (c : Costs K) (reel : ℕ) (aim : Option ℕ) (cable : ℕ) (xs : List (Pair C K)) (fin : Finished m b.kind b.element c.costs reel aim cable xs) where
  -- how a place of a finished chart is linked
  pub linked_at : (i : ℕ) (x : Pair C K) → i < length xs → Stands xs i x →
      Home b reel x
      ⊎ ((Home b reel x → ⊥) × ((j : ℕ) × (y : Pair C K) × (x.link ≡ Some j) × (j < i) × Stands xs j y × Precedes m b.kind b.element c.costs reel aim cable y x))
  linked_at i x l at = go (subst (Linked m b.kind b.element c.costs reel aim cable (take i xs)) (at x) (fin.linked i x l))
    where
      go : Linked m b.kind b.element c.costs reel aim cable (take i xs) x →
          Home b reel x
          ⊎ ((Home b reel x → ⊥) × ((j : ℕ) × (y : Pair C K) × (x.link ≡ Some j) × (j < i) × Stands xs j y × Precedes m b.kind b.element c.costs reel aim cable y x))
      go (inl (home, e)) = inl home
      go (inr (off, (j, e, lt, before))) =
          let len : length (take i xs) ≡ i = length-take-le i xs (omega arith) in
          let k : j < i = omega arith in
          let (y, aty) = stands_some xs j (omega arith) in
          inr (off, (j, y, e, k, aty, subst (λ (z : Pair C K). Precedes m b.kind b.element c.costs reel aim cable z x) (stands_take xs i j y k aty x) (before x)))

  -- from every place the links lead home
  pub leads_home : (n i : ℕ) → i < n → i < length xs → (ps : List ℕ) × Leads b reel xs i ps
  leads_home zero i lt l = absurd (none_below i lt)
  leads_home (suc n) i lt l =
      let (x, at) = stands_some xs i l in
      elim (linked_at i x l at) [
        | inl home ↦ (x.point ∷ [], (x, l, at, refl, home))
        | inr (off, (j, y, e, k, aty, precedes)) ↦
            let (ps, h) = leads_home n j (omega arith) (omega arith) in
            (x.point ∷ ps, leads_on b reel xs i j x ps l at off e h)
      ]

  -- the reel with the unit costs nothing, and is a point
  pub home_free : (i : ℕ) (x : Pair C K) → i < length xs → Stands xs i x → Home b reel x → (x.cost ≡ c.costs.zero) × (reel < m.points)
  home_free i x l at (e, f) =
      let (reach, cheap) = sound_has m b.kind b.element c.costs reel aim cable xs fin.sound x (i, l, at) in
      let (ns, ls, run, g, h) = cheap.0 in
      let here : reel < m.points = subst (λ (q : ℕ). q < m.points) e (run_end m reel ns ls x.point run) in
      let free = subst (λ (q : ℕ). Cheapest m b.kind c.costs reel q b.kind.unit x.cost) e (subst (λ (u : b.kind.Element). Cheapest m b.kind c.costs reel x.point u x.cost) f cheap) in
      (under_antisym c.costs.order x.cost c.costs.zero (free.1 c.costs.zero (runs_at_reel m law.lanes b.kind c.costs reel here)) (c.costs.least x.cost), here)

  -- a run of the map through the points of the links, with the class and the cost of the place
  abbrev pub Along : Pair C K → List ℕ → Type 0
  Along x ps =
      (ns : List ℕ) × (ls : List Lane) × Run m reel ns ls x.point × (class_of b.kind ls ≡ b.element x.class) × (cost_of c.costs ls ≡ x.cost) × (stops reel ls ≡ reverse ps)

  -- there is one, for every link is a lane
  pub leads_along : (i : ℕ) (x : Pair C K) (ps : List ℕ) → Stands xs i x → Leads b reel xs i ps → Along x ps
  leads_along i x [] at h = absurd h
  leads_along i x (p ∷ []) at (y, l, aty, e, home) =
      let same : y ≡ x = stands_unique xs i y x aty at in
      let (free, here) = home_free i y l aty home in
      subst (λ (z : Pair C K). Along z (p ∷ [])) same
      ([], [], (here, sym home.0), sym home.1, sym free, ap (λ (q : ℕ). q ∷ []) (sym home.0 ∙ e))
  leads_along i x (p ∷ (q ∷ ps)) at (y, l, aty, e, off, (j, link, h)) =
      subst (λ (z : Pair C K). Along z (p ∷ (q ∷ ps))) (stands_unique xs i y x aty at) (go (linked_at i y l aty) (λ z atz. leads_along j z (q ∷ ps) atz h))
    where
      go : Home b reel y
          ⊎ ((Home b reel y → ⊥) × ((j : ℕ) × (z : Pair C K) × (y.link ≡ Some j) × (j < i) × Stands xs j z × Precedes m b.kind b.element c.costs reel aim cable z y)) →
          ((z : Pair C K) → Stands xs j z → Along z (q ∷ ps)) → Along y (p ∷ (q ∷ ps))
      go (inl home) rest = absurd (off home)
      go (inr (off', (j', z, link', lt, atz, (n, lane, named, to, class, cost)))) rest =
          let (ns, ls, run, f, g, s) = rest z (subst (λ (k : ℕ). Stands xs k z) (same_Some j' j (sym link' ∙ link)) atz) in (
            ns ++ (n ∷ []),
            ls ++ (lane ∷ []),
            subst (Run m reel (ns ++ (n ∷ [])) (ls ++ (lane ∷ []))) to (run_push m law.lanes reel ns ls z.point n lane run named),
            class_push b.kind ls lane ∙ ap (λ (u : b.kind.Element). b.kind.mul u (crossed b.kind lane.crossing)) f ∙ class,
            cost_push c.costs ls lane ∙ ap (λ (u : K). c.costs.plus u (c.costs.of lane.length lane.risk)) g ∙ cost,
            ap (λ (ts : List ℕ). reel ∷ ts) (map_push (λ k. k.to) ls lane)
                ∙ ap (λ (ts : List ℕ). ts ++ (lane.to ∷ [])) s
                ∙ ap (λ (t : ℕ). reverse (q ∷ ps) ++ (t ∷ [])) (to ∙ e)
                ∙ sym (reverse-append (p ∷ []) (q ∷ ps)),
          )

  -- so the run of a pair is a cheapest run of the map within the cable
  pub runs_laid : (p : ℕ) (a : C) (i : ℕ) (ps : List ℕ) → Runs b reel xs p a i ps → Laid m b.kind c.costs reel cable p (b.element a) (reverse ps)
  runs_laid p a i ps (f, h) =
      let (x, at) = stands_some xs i f.below in
      let (e, g) = f.holds x at in
      let (ns, ls, run, class, cost, s) = leads_along i x ps at h in
      let (reach, cheap) = sound_has m b.kind b.element c.costs reel aim cable xs fin.sound x (i, f.below, at) in
      let (d, other, within) = lies_of_reach m law.estimates c.costs b.kind reel aim cable x.point (b.element x.class) reach in (
        ns,
        ls,
        subst (Run m reel ns ls) e run,
        class ∙ g,
        s,
        subst (λ (q : ℕ). Cheapest m b.kind c.costs reel q (b.element a) (cost_of c.costs ls)) e
            (subst (λ (u : b.kind.Element). Cheapest m b.kind c.costs reel x.point u (cost_of c.costs ls)) g
            (subst (Cheapest m b.kind c.costs reel x.point (b.element x.class)) (sym cost) cheap)),
        subst (λ (u : K). Under c.costs.order u (c.costs.limit cable)) (sym cost) (under_trans c.costs.order x.cost d (c.costs.limit cable) (cheap.1 d other) within),
      )

  -- and every class in which the cable can lie at a covered point has one
  pub lies_runs : (p : ℕ) (a : C) → covering aim p ≡ true → Lies m b.kind c.costs reel cable p (b.element a) → (i : ℕ) × (ps : List ℕ) × Runs b reel xs p a i ps
  lies_runs p a covered l =
      let reach = reach_of_lies m law.estimates c.costs b.kind reel aim cable p (b.element a) (covered_tail m law.estimates b c reel aim cable xs p aim covered) l in
      let (i, f) = holds_first b p a m c reel aim cable xs (fin.complete p (b.element a) reach) in
      let (ps, h) = leads_home (suc i) i (omega arith) f.below in
      (i, ps, (f, h))

-- a chart that may not be asked is not refused for want of a run
pub asked_refused : (o : Option Chart) (n p : ℕ) → asked_at o n p ≡ Err NoRun → ⊥
asked_refused o n p asked = grind arith

-- what `write_run` says of its answer holds of the map that was charted
pub lays_truly : {C K : Type 0} (b : Classes C) (c : Costs K) (o : Option Chart) (xs : List (Pair C K)) (p : ℕ) (a : C) (from to : List ℕ) (r : Result ℕ Refusal) →
    WritesRun b o xs p a from to r → LaysTruly b c o xs p a to r
lays_truly {C = C} {K = K} b c o xs p a from to r writes m h cable law is fin = go (asked_at o (length xs) p) refl writes
  where
    counted : List (Pair C K)
    counted = take h.pairs xs

    laid : (n : ℕ) → RunsIn b h.reel counted p a from to (Ok n) → Laid m b.kind c.costs h.reel cable p (b.element a) (take n to)
    laid n (i, ps, runs, len, holds) =
        subst (Laid m b.kind c.costs h.reel cable p (b.element a)) (sym (ap (take n) holds ∙ take_at (reverse ps) (drop n from) n (length-reverse ps ∙ sym len)))
        (runs_laid m law b c h.reel h.aim cable counted fin p a i ps runs)

    lost : covering h.aim p ≡ true → RunsIn b h.reel counted p a from to (Err NoRun) → Lies m b.kind c.costs h.reel cable p (b.element a) → ⊥
    lost covers (same, inl (e, none)) l = let (i, ps, runs) = lies_runs m law b c h.reel h.aim cable counted fin p a covers l in none i ps runs
    lost covers (same, inr (e, short)) l = cc

    go : (s : Result Chart Refusal) → asked_at o (length xs) p ≡ s → MatchResult s (λ k. RunsIn b k.reel (take k.pairs xs) p a from to r) (λ e. (r ≡ Err e) × (to ≡ from)) →
        ((n : ℕ) → r ≡ Ok n → Laid m b.kind c.costs h.reel cable p (b.element a) (take n to)) × (r ≡ Err NoRun → Lies m b.kind c.costs h.reel cable p (b.element a) → ⊥)
    go (Ok k) asked written =
        let (same, covers) = asked_is o h k (length xs) p is asked in
        let runs : RunsIn b h.reel counted p a from to r = subst (λ (j : Chart). RunsIn b j.reel (take j.pairs xs) p a from to r) same written in (
          λ n ok. laid n (subst (RunsIn b h.reel counted p a from to) ok runs),
          λ none. lost covers (subst (RunsIn b h.reel counted p a from to) none runs),
        )
    go (Err e) asked (refused, same) = (
      λ n ok. absurd cc,
      λ none l. asked_refused o (length xs) p (asked ∙ cc),
    )
