-- What is listed from a finished chart.
use Rattle.std.proofs.Common.{◌≡◌, ℕ, zero, suc, ◌<◌, Bool, true, false, cond, ◌⊎◌, List, [], ◌∷◌, map, length, get_or, take, set, Some, None, Ok, Err, filter, Option, Result, sym, refl, ap, ◌∙◌, subst, inl, inr, arith, MatchResult}
use Rattle.std.specs.Ordering.{is_gt}
use Rattle.std.specs.List.Sorted.{IsPermutation}
use Rattle.std.specs.List.{swap, ContainsAt as Has, AllByRecursion}
use Rattle.std.proofs.lemmas.List.{length-set, get_or_default, get_or-set_same, get_or-set_other}
use Rattle.std.proofs.ByRecursion.{All-map, all_kept_by, all-has, all_has_itself, All-weaker, has_get_or, kept_by_passes, all_shuffled, has_shuffled}
use Rattle.std.proofs.lemmas.List.Sorted.{IsPermutation-keeps}
use Rattle.std.proofs.lemmas.Bool.{cases_Bool, cases_eq, eqb-true, eq-eqb, true≢false}
use Rattle.kinds.specs.declared.refusal.Refusal.{Refusal}
use Rattle.kinds.specs.declared.class.Class.{Ghosts as Classes}
use Rattle.kinds.specs.declared.cost.Cost.{Ghosts as Costs}
use Rattle.kinds.specs.Maps.{Site, LawfulEstimates}
use Rattle.kinds.specs.Classes.{ClassKind}
use Rattle.kinds.specs.Costs.{CostKind}
use Rattle.kinds.specs.Comparisons.{by_pair, pair_same, then_less}
use Rattle.kinds.specs.Reaches.{tail, Reach, Cheapest, Lies}
use Rattle.kinds.proofs.Orders.{answers}
use Rattle.kinds.proofs.Limits.{tail_no_aim, tail_at_aim, lies_of_reach, reach_of_lies}
use Rattle.charts.specs.declared.chart.Pair.{Pair}
use Rattle.charts.specs.declared.chart.Chart.{Chart}
use Rattle.charts.specs.declared.chart.Priced.{Priced}
use Rattle.charts.specs.Charts.{Holds, Sound, Finished}
use Rattle.charts.specs.Asking.{covering, asked_at}
use Rattle.charts.specs.Ranks.{by_cost}
use Rattle.charts.specs.Listing.{is_at, priced, priced_at, Filled, ListsIn, ListsAt}
use Rattle.charts.specs.Listed.{Names, Before, Lists, ListsTruly}
use Rattle.charts.proofs.Stands.{none_below}

-- one more element in front
pub has_later : {X : Type 0} (y : X) (xs : List X) (x : X) → Has xs x → Has (y ∷ xs) x
has_later y xs x (k, l, at) = (suc k, omega arith, at)

module _ {C : Type 0} {E : Type 0} {K : Type 0} (el : C → E) where
  -- no class comes twice
  abbrev pub Apart : List (Priced C K) → Type 0
  Apart zs = (i j : ℕ) (d : Priced C K) → i < length zs → j < length zs → el (get_or zs i d).class ≡ el (get_or zs j d).class → i ≡ j

  -- one more in front, of a class that does not come
  pub apart_cons : (z : Priced C K) (zs : List (Priced C K)) → ((x : Priced C K) → Has zs x → el x.class ≡ el z.class → ⊥) → Apart zs → Apart (z ∷ zs)
  apart_cons z zs none rest zero zero d l m e = refl
  apart_cons z zs none rest zero (suc j) d l m e = absurd (none (get_or zs j d) (has_get_or zs j d (omega arith)) (sym e))
  apart_cons z zs none rest (suc i) zero d l m e = absurd (none (get_or zs i d) (has_get_or zs i d (omega arith)) e)
  apart_cons z zs none rest (suc i) (suc j) d l m e = ap suc (rest i j d (omega arith) (omega arith) e)

-- where an element stood before two places, a and b, were exchanged
abbrev pub Moved : ℕ → ℕ → ℕ → ℕ → Type 0
Moved a b m n = ((m ≡ b) × (n ≡ a)) ⊎ ((m ≡ a) × (n ≡ b)) ⊎ ((m ≡ a → ⊥) × (m ≡ b → ⊥) × (n ≡ m))

-- no two elements stood at one place
pub moved_once : (a b m n m' n' : ℕ) → Moved a b m n → Moved a b m' n' → n ≡ n' → m ≡ m'
moved_once a b m n m' n' h k e = grind arith

-- every element stood somewhere
pub exchanged_from : {X : Type 0} (xs : List X) (a b m : ℕ) → a < length xs → b < length xs → m < length xs →
    (n : ℕ) × (n < length xs) × ((d : X) → get_or (swap xs a b) m d ≡ get_or xs n d) × Moved a b m n
exchanged_from [] a b m l k h = absurd (none_below m h)
exchanged_from {X = X} (z ∷ zs) a b m l k h = elim (cases_eq m b) [
  | inl e ↦ (a, l, (λ d. ap (λ (i : ℕ). get_or (swap xs a b) i d) e ∙ get_or-set_same (set xs a (get_or xs b z)) b (get_or xs a z) d long ∙ get_or_default xs a z d l), inl (e, refl))
  | inr ne ↦ elim (cases_eq m a) [
    | inl e ↦ (b, k, (λ d. get_or-set_other (set xs a (get_or xs b z)) b m (get_or xs a z) d ne ∙ ap (λ (i : ℕ). get_or (set xs a (get_or xs b z)) i d) e ∙ get_or-set_same xs a (get_or xs b z) d l ∙ get_or_default xs b z d k), inr (inl (e, refl)))
    | inr off ↦ (m, h, (λ d. get_or-set_other (set xs a (get_or xs b z)) b m (get_or xs a z) d ne ∙ get_or-set_other xs a m (get_or xs b z) d off), inr (inr (off, ne, refl)))
  ]
]
  where
    xs : List X
    xs = z ∷ zs

    long : b < length (set xs a (get_or xs b z))
    long = omega (arith, length-set xs a (get_or xs b z))

module _ {C : Type 0} {E : Type 0} {K : Type 0} (el : C → E) where
  -- an exchange leaves the classes apart
  pub apart_exchanged : (zs : List (Priced C K)) (a b : ℕ) → a < length zs → b < length zs → Apart el zs → Apart el (swap zs a b)
  apart_exchanged zs a b l k apart i j d m o e =
      let len : length (swap zs a b) ≡ length zs = same_length zs a b in
      let (n, lt, is, from) = exchanged_from zs a b i l k (omega arith) in
      let (n', lt', is', from') = exchanged_from zs a b j l k (omega arith) in
      moved_once a b i n j n' from from'
      (apart n n' d lt lt' (ap (λ (z : Priced C K). el z.class) (sym (is d)) ∙ e ∙ ap (λ (z : Priced C K). el z.class) (is' d)))
    where
      same_length : (zs : List (Priced C K)) (a b : ℕ) → length (swap zs a b) ≡ length zs
      same_length [] a b = refl
      same_length (z ∷ zs) a b = length-set (set (z ∷ zs) a (get_or (z ∷ zs) b z)) b (get_or (z ∷ zs) a z) ∙ length-set (z ∷ zs) a (get_or (z ∷ zs) b z)

  -- and so does any shuffle
  pub apart_shuffled : (zs ys : List (Priced C K)) → IsPermutation zs ys → Apart el zs → Apart el ys
  apart_shuffled zs ys s apart = IsPermutation-keeps zs (Apart el) apart (λ l i j a b. apart_exchanged l i j a b) ys s

module _ {C K : Type 0} (m : Site) (G : ClassKind) (el : C → G.Element) (k : CostKind K) (reel : ℕ) (aim : Option ℕ) (cable : ℕ) where
  -- a pair that is somewhere in the list is held by it
  pub has_holds : (xs : List (Pair C K)) (x : Pair C K) → Has xs x → Holds m G el k reel aim cable xs x.point (el x.class)
  has_holds [] x (i, l, at) = absurd (none_below i l)
  has_holds (y ∷ xs) x (zero, l, at) = inl (ap (λ (z : Pair C K). z.point) (at x), ap (λ (z : Pair C K). el z.class) (at x))
  has_holds (y ∷ xs) x (suc i, l, at) = inr (has_holds xs x (i, omega arith, at))

  -- every pair of a sound list is in the reach, and cheapest
  pub sound_has : (xs : List (Pair C K)) → Sound m G el k reel aim cable xs → (x : Pair C K) → Has xs x →
      Reach m G k reel aim cable x.point (el x.class) × Cheapest m G k reel x.point (el x.class) x.cost
  sound_has [] s x (i, l, at) = absurd (none_below i l)
  sound_has (y ∷ xs) s x (zero, l, at) =
      subst (λ (z : Pair C K). Reach m G k reel aim cable z.point (el z.class) × Cheapest m G k reel z.point (el z.class) z.cost) (at x) (s.0, s.1)
  sound_has (y ∷ xs) s x (suc i, l, at) = sound_has xs s.3 x (i, omega arith, at)

  module _ (p : ℕ) where
    -- z is a pair of xs at the point, with its cost
    abbrev pub From : List (Pair C K) → Priced C K → Type 0
    From xs z = (y : Pair C K) × Has xs y × (y.point ≡ p) × (priced y ≡ z)

    -- what is gathered comes from there
    pub all_from : (xs : List (Pair C K)) → AllByRecursion (From xs) (priced_at p xs)
    all_from xs = All-map (From xs) priced (filter (is_at p) xs) (both (filter (is_at p) xs) (all_kept_by (is_at p) (Has xs) xs (all_has_itself xs)) (kept_by_passes (is_at p) xs))
      where
        both : (ys : List (Pair C K)) → AllByRecursion (Has xs) ys → AllByRecursion (λ y. is_at p y ≡ true) ys → AllByRecursion (λ y. From xs (priced y)) ys
        both [] a b = tt
        both (y ∷ ys) a b = ((y, a.0, eqb-true y.point p b.0, refl), both ys a.1 b.1)

    -- the gathered list, one pair more
    pub priced_on : (x : Pair C K) (xs : List (Pair C K)) → is_at p x ≡ true → priced_at p (x ∷ xs) ≡ priced x ∷ priced_at p xs
    priced_on x xs e = ap (λ (t : Bool). map priced (cond t (x ∷ filter (is_at p) xs) (filter (is_at p) xs))) e

    -- or none more
    pub priced_off : (x : Pair C K) (xs : List (Pair C K)) → is_at p x ≡ false → priced_at p (x ∷ xs) ≡ priced_at p xs
    priced_off x xs e = ap (λ (t : Bool). map priced (cond t (x ∷ filter (is_at p) xs) (filter (is_at p) xs))) e

    -- a pair at the point is gathered
    pub holds_named : (xs : List (Pair C K)) (g : G.Element) → Holds m G el k reel aim cable xs p g → Names G el k (priced_at p xs) g
    holds_named [] g h = absurd h
    holds_named (x ∷ xs) g (inl (e, f)) =
        subst (λ (zs : List (Priced C K)). Names G el k zs g) (sym (priced_on x xs (eq-eqb x.point p e))) (priced x, (0, omega arith, λ d. refl), f)
    holds_named (x ∷ xs) g (inr h) =
        let (z, has, e) = holds_named xs g h in
        elim (cases_Bool (is_at p x)) [
          | inl t ↦ subst (λ (zs : List (Priced C K)). Names G el k zs g) (sym (priced_on x xs t)) (z, has_later (priced x) (priced_at p xs) z has, e)
          | inr t ↦ subst (λ (zs : List (Priced C K)). Names G el k zs g) (sym (priced_off x xs t)) (z, has, e)
        ]

    -- no class is gathered twice
    pub gathered_apart : (xs : List (Pair C K)) → Sound m G el k reel aim cable xs → Apart el (priced_at p xs)
    gathered_apart [] s = λ i j d l h e. absurd (none_below i l)
    gathered_apart (x ∷ xs) s = elim (cases_Bool (is_at p x)) [
      | inl t ↦ subst (Apart el) (sym (priced_on x xs t)) (apart_cons el (priced x) (priced_at p xs) (single t) (gathered_apart xs s.3))
      | inr t ↦ subst (Apart el) (sym (priced_off x xs t)) (gathered_apart xs s.3)
    ]
      where
        single : is_at p x ≡ true → (z : Priced C K) → Has (priced_at p xs) z → el z.class ≡ el x.class → ⊥
        single t z has e =
            let (y, in-xs, at, is) = all-has (From xs) (priced_at p xs) z (all_from xs) has in
            s.2 (subst (λ (q : ℕ). Holds m G el k reel aim cable xs q (el x.class)) (at ∙ sym (eqb-true x.point p t))
            (subst (Holds m G el k reel aim cable xs y.point) (ap (λ (w : Priced C K). el w.class) is ∙ e) (has_holds xs y in-xs)))

-- of two listed in order whose classes differ, the first comes before the second
pub before_of_order : {C K : Type 0} (b : Classes C) (c : Costs K) (x y : Priced C K) → is_gt ((by_cost b c).cmp x y) ≡ false → (b.element x.class ≡ b.element y.class → ⊥) → Before b.kind b.element c.costs x y
before_of_order {C = C} {K = K} b c x y up differ = elim (answers (by_pair c.costs.order b.kind.order kx ky)) [
  | inl e ↦ elim (then_less (c.costs.order.cmp x.cost y.cost) (b.kind.order.cmp (b.element x.class) (b.element y.class)) e) [
    | inl l ↦ inl l
    | inr (s, l) ↦ inr (c.costs.order.same x.cost y.cost s, l)
  ]
  | inr (inl e) ↦ absurd (differ (ap (λ (k : K × b.kind.Element). k.1) (pair_same c.costs.order b.kind.order kx ky e)))
  | inr (inr e) ↦ absurd (true≢false (sym (ap is_gt e) ∙ up))
]
  where
    kx : K × b.kind.Element
    kx = (x.cost, b.element x.class)

    ky : K × b.kind.Element
    ky = (y.cost, b.element y.class)

module _ {C K : Type 0} (m : Site) (law : LawfulEstimates m) (b : Classes C) (c : Costs K) (reel : ℕ) (aim : Option ℕ) (cable : ℕ) (xs : List (Pair C K)) (p : ℕ) where
  -- at a point that the chart covers nothing is still to come
  pub covered_tail : (a : Option ℕ) → covering a p ≡ true → tail m c.costs a p ≡ c.costs.zero
  covered_tail None e = tail_no_aim m law c.costs p
  covered_tail (Some a) e = ap (λ (q : ℕ). tail m c.costs (Some q) p) (eqb-true a p e) ∙ tail_at_aim m law c.costs p

  -- what is listed from a finished chart at a point that it covers
  pub lists_finished : Finished m b.kind b.element c.costs reel aim cable xs → covering aim p ≡ true → (from to : List (Priced C K)) (n : ℕ) → Filled b c xs p from to n →
      Lists b.kind b.element c.costs m reel cable p (take n to)
  lists_finished fin covered from to n filled = record {
    sound = λ g (z, has, e). subst (Lies m b.kind c.costs reel cable p) e (lies z (all-has (From' xs) zs z here has));
    complete = λ g l.
        let (z, has, e) = holds_named m b.kind b.element c.costs reel aim cable p xs g (fin.complete p g (reach_of_lies m law c.costs b.kind reel aim cable p g (covered_tail aim covered) l)) in
        (z, has_shuffled (priced_at p xs) zs z filled.items has, e);
    sorted = λ i j d l h.
        before_of_order b c (get_or zs i d) (get_or zs j d) (filled.ascends.later i j d (omega arith) h)
        (λ e. off i j l (apart i j d (omega arith) h e));
    cheapest = All-weaker (From' xs) (λ z. Cheapest m b.kind c.costs reel p (b.element z.class) z.cost) cheap zs here;
  }
    where
      zs : List (Priced C K)
      zs = take n to

      From' : List (Pair C K) → Priced C K → Type 0
      From' = From m b.kind b.element c.costs reel aim cable p

      here : AllByRecursion (From' xs) zs
      here = all_shuffled (From' xs) (priced_at p xs) zs filled.items (all_from m b.kind b.element c.costs reel aim cable p xs)

      apart : Apart b.element zs
      apart = apart_shuffled b.element (priced_at p xs) zs filled.items (gathered_apart m b.kind b.element c.costs reel aim cable p xs fin.sound)

      off : (i j : ℕ) → i < j → i ≡ j → ⊥
      off i j l e = omega arith

      lies : (z : Priced C K) → From' xs z → Lies m b.kind c.costs reel cable p (b.element z.class)
      lies z (y, has, at, is) =
          subst (λ (q : ℕ). Lies m b.kind c.costs reel cable q (b.element z.class)) at
          (subst (λ (w : Priced C K). Lies m b.kind c.costs reel cable y.point (b.element w.class)) is
          (lies_of_reach m law c.costs b.kind reel aim cable y.point (b.element y.class) (sound_has m b.kind b.element c.costs reel aim cable xs fin.sound y has).0))

      cheap : (z : Priced C K) → From' xs z → Cheapest m b.kind c.costs reel p (b.element z.class) z.cost
      cheap z (y, has, at, is) =
          subst (λ (q : ℕ). Cheapest m b.kind c.costs reel q (b.element z.class) z.cost) at
          (subst (λ (w : Priced C K). Cheapest m b.kind c.costs reel y.point (b.element w.class) w.cost) is
          (sound_has m b.kind b.element c.costs reel aim cable xs fin.sound y has).1)

-- a chart that may be asked at a point is the one that was given, and covers it
pub asked_is : (o : Option Chart) (h k : Chart) (n p : ℕ) → o ≡ Some h → asked_at o n p ≡ Ok k → (k ≡ h) × (covering h.aim p ≡ true)
asked_is o h k n p is asked = grind arith

-- so what `list` says holds of the map that was charted
pub lists_truly : {C K : Type 0} (b : Classes C) (c : Costs K) (o : Option Chart) (xs : List (Pair C K)) (p : ℕ) (from to : List (Priced C K)) (r : Result ℕ Refusal) →
    ListsAt b c o xs p from to r → ListsTruly b c o xs p to r
lists_truly {C = C} {K = K} b c o xs p from to r lists m h cable n law is fin ok = go (asked_at o (length xs) p) refl lists
  where
    go : (s : Result Chart Refusal) → asked_at o (length xs) p ≡ s → MatchResult s (λ k. ListsIn b c (take k.pairs xs) p from to r) (λ e. (r ≡ Err e) × (to ≡ from)) →
        Lists b.kind b.element c.costs m h.reel cable p (take n to)
    go (Ok k) asked listed =
        let (same, covers) = asked_is o h k (length xs) p is asked in
        lists_finished m law b c h.reel h.aim cable (take h.pairs xs) p fin covers from to n
        (subst (λ (j : Chart). ListsIn b c (take j.pairs xs) p from to (Ok n)) same (subst (ListsIn b c (take k.pairs xs) p from to) ok listed))
    go (Err e) asked (f, g) = absurd cc
