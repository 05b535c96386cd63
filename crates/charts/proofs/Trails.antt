-- Runs along links: from one place there is one at most, and it is no longer than there are places.
use Rattle.std.proofs.Common.{◌≡◌, ℕ, zero, suc, ◌+◌, ◌<◌, ◌≤◌, false, ltb, List, [], ◌∷◌, ◌++◌, length, get_or, take, drop, set, Some, None, Ok, Err, Option, Result, MatchOption, sym, refl, ap, ◌∙◌, subst, inl, inr, arith}
use Rattle.std.specs.Option.{ok_or}
use Rattle.std.proofs.lemmas.Option.{MatchOption-at_some, same_Some}
use Rattle.std.proofs.lemmas.List.{length-drop, length-set, get_or_default, drop_more, take_more, take_more_set}
use Rattle.std.proofs.lemmas.Bool.{cases_Bool, cond-true, cond-false, ltb-true, lt-ltb, false≢true}
use Rattle.kinds.specs.declared.refusal.Refusal.{Refusal}
use Rattle.kinds.specs.declared.refusal.Refusal.TheVariants.{NoRun}
use Rattle.kinds.specs.declared.class.Class.{Ghosts as Classes}
use Rattle.tables.proofs.Pigeonholes.{pigeonhole}
use Rattle.charts.specs.declared.chart.Pair.{Pair}
use Rattle.charts.specs.Charts.{Stands}
use Rattle.charts.specs.Finding.{Finds}
use Rattle.charts.specs.Trails.{on_link, Home, is_home, next_of, Leads, Counts, RunsIn}
use Rattle.charts.proofs.Searches.{pair_passes, passes_pair, nowhere_first, first_once}
use Rattle.charts.proofs.Stands.{none_below, stands_unique}

-- the place that a link names, 0 if there is none
abbrev link_of : Option ℕ → ℕ
link_of None = 0
link_of (Some j) = j

module _ {C K : Type 0} (b : Classes C) (reel : ℕ) (xs : List (Pair C K)) where
  -- the place where a run begins
  pub leads_here : (i : ℕ) (ps : List ℕ) → Leads b reel xs i ps → (x : Pair C K) × (i < length xs) × Stands xs i x
  leads_here i [] h = absurd h
  leads_here i (p ∷ []) h = (h.0, h.1, h.2)
  leads_here i (p ∷ (q ∷ ps)) h = (h.0, h.1, h.2)

  -- from one place the links lead home through one list of points at most
  pub leads_once : (i : ℕ) (ps qs : List ℕ) → Leads b reel xs i ps → Leads b reel xs i qs → ps ≡ qs
  leads_once i [] qs h k = absurd h
  leads_once i (p ∷ []) [] h k = absurd k
  leads_once i (p ∷ []) (r ∷ []) (x, l, a, e, f) (y, m, d, g, t) =
      ap (λ (z : ℕ). z ∷ []) (sym e ∙ ap (λ (z : Pair C K). z.point) (stands_unique xs i x y a d) ∙ g)
  leads_once i (p ∷ []) (r ∷ (s ∷ rs)) (x, l, a, e, f) (y, m, d, g, t, n) = absurd (t (subst (Home b reel) (stands_unique xs i x y a d) f))
  leads_once i (p ∷ (q ∷ ps)) [] h k = absurd k
  leads_once i (p ∷ (q ∷ ps)) (r ∷ []) (x, l, a, e, f, n) (y, m, d, g, t) = absurd (f (subst (Home b reel) (stands_unique xs i y x d a) t))
  leads_once i (p ∷ (q ∷ ps)) (r ∷ (s ∷ rs)) (x, l, a, e, f, (j, n, h)) (y, m, d, g, t, (j', o, k)) =
      let same : x ≡ y = stands_unique xs i x y a d in
      let link : j ≡ j' = same_Some j j' (sym n ∙ ap (λ (z : Pair C K). z.link) same ∙ o) in
      let rest : (q ∷ ps) ≡ (s ∷ rs) = leads_once j (q ∷ ps) (s ∷ rs) h (subst (λ (z : ℕ). Leads b reel xs z (s ∷ rs)) (sym link) k) in
      let head : p ≡ r = sym e ∙ ap (λ (z : Pair C K). z.point) same ∙ g in
      λ w. head w ∷ rest w

  -- the place after so many links
  abbrev pub hops : Pair C K → ℕ → ℕ → ℕ
  hops d i zero = i
  hops d i (suc k) = hops d (link_of (get_or xs i d).link) k

  -- a run is a run from each place on it
  pub leads_hops : (d : Pair C K) (k i : ℕ) (ps : List ℕ) → Leads b reel xs i ps → k < length ps → Leads b reel xs (hops d i k) (drop k ps)
  leads_hops d zero i ps h l = h
  leads_hops d (suc k) i [] h l = absurd h
  leads_hops d (suc k) i (p ∷ []) h l = absurd (none_below k (omega arith))
  leads_hops d (suc k) i (p ∷ (q ∷ ps)) (x, m, a, e, f, (j, n, h)) l =
      let there : link_of (get_or xs i d).link ≡ j = ap (λ (z : Pair C K). link_of z.link) (a d) ∙ ap link_of n in
      leads_hops d k (link_of (get_or xs i d).link) (q ∷ ps) (subst (λ (z : ℕ). Leads b reel xs z (q ∷ ps)) (sym there) h) (omega arith)

  -- a run meets no place twice, so it has no more points than there are places
  pub leads_short : (i : ℕ) (ps : List ℕ) → Leads b reel xs i ps → length ps ≤ length xs
  leads_short i ps h = pigeonhole (length ps) (length xs) (hops d i) below apart
    where
      d : Pair C K
      d = (leads_here i ps h).0

      below : (k : ℕ) → k < length ps → hops d i k < length xs
      below k l = (leads_here (hops d i k) (drop k ps) (leads_hops d k i ps h l)).1

      apart : (k j : ℕ) → k < length ps → j < length ps → hops d i k ≡ hops d i j → k ≡ j
      apart k j l m e =
          let same : drop k ps ≡ drop j ps = leads_once (hops d i j) (drop k ps) (drop j ps) (subst (λ (z : ℕ). Leads b reel xs z (drop k ps)) e (leads_hops d k i ps h l)) (leads_hops d j i ps h m) in
          omega (arith, length-drop k ps, length-drop j ps, ap length same)

  -- a run has a point
  pub leads_some : (i : ℕ) (ps : List ℕ) → Leads b reel xs i ps → 0 < length ps
  leads_some i [] h = absurd h
  leads_some i (p ∷ ps) h = omega arith

  -- a place that leads on begins a longer run
  pub leads_on : (i j : ℕ) (x : Pair C K) (ps : List ℕ) → i < length xs → Stands xs i x → (Home b reel x → ⊥) → x.link ≡ Some j → Leads b reel xs j ps → Leads b reel xs i (x.point ∷ ps)
  leads_on i j x [] l at off e h = absurd h
  leads_on i j x (p ∷ ps) l at off e h = (x, l, at, refl, off, (j, e, h))

  -- what is left of a run behind a place that is not home
  pub leads_rest : (i : ℕ) (x : Pair C K) (ps : List ℕ) → Stands xs i x → (Home b reel x → ⊥) → Leads b reel xs i ps →
      (j : ℕ) × (qs : List ℕ) × (x.link ≡ Some j) × Leads b reel xs j qs × (length ps ≡ 1 + length qs)
  leads_rest i x [] at off h = absurd h
  leads_rest i x (p ∷ []) at off (y, l, a, e, f) = absurd (off (subst (Home b reel) (stands_unique xs i y x a at) f))
  leads_rest i x (p ∷ (q ∷ ps)) at off (y, l, a, e, f, (j, n, h)) =
      (j, (q ∷ ps), ap (λ (z : Pair C K). z.link) (stands_unique xs i x y at a) ∙ n, h, omega arith)

  -- what does not pass the test is not home
  pub off_home : (x : Pair C K) → is_home b reel x ≡ false → Home b reel x → ⊥
  off_home x t h = false≢true (sym t ∙ passes_pair b reel b.kind.unit x h)

  -- what it says of a pair that it leads to s among n places: it is home; it is not, and its link names the place; or names none
  abbrev pub Next : ℕ → Pair C K → Result (Option ℕ) Refusal → Type 0
  Next n x (Ok None) = Home b reel x
  Next n x (Ok (Some j)) = (Home b reel x → ⊥) × (x.link ≡ Some j) × (j < n)
  Next n x (Err e) = (e ≡ NoRun) × (Home b reel x → ⊥) × ((j : ℕ) → x.link ≡ Some j → j < n → ⊥)

  pub next_says : (n : ℕ) (x : Pair C K) → Next n x (next_of b reel n x)
  next_says n x = elim (cases_Bool (is_home b reel x)) [
    | inl t ↦ subst (Next n x) (sym (cond-true (is_home b reel x) (Ok None) (on_link n x.link) t)) (pair_passes b reel b.kind.unit x t)
    | inr t ↦ subst (Next n x) (sym (cond-false (is_home b reel x) (Ok None) (on_link n x.link) t)) (link (off_home x t) x.link refl)
  ]
    where
      link : (Home b reel x → ⊥) → (o : Option ℕ) → x.link ≡ o → Next n x (on_link n o)
      link off None e = (refl, off, λ j f l. cc)
      link off (Some j) e = elim (cases_Bool (ltb j n)) [
        | inl t ↦ subst (Next n x) (sym (cond-true (ltb j n) (Ok (Some j)) (Err NoRun) t)) (off, e, ltb-true j n t)
        | inr t ↦ subst (Next n x) (sym (cond-false (ltb j n) (Ok (Some j)) (Err NoRun) t))
            (refl, off, λ k f l. false≢true (sym t ∙ lt-ltb j n (subst (λ (i : ℕ). i < n) (same_Some k j (sym f ∙ e)) l)))
      ]

  -- after n links from i the place is j: runs from there are the rest of runs from i
  pub record Comes (i n j : ℕ) : Type 0 where
    pub on : (ps : List ℕ) → Leads b reel xs j ps → (qs : List ℕ) × Leads b reel xs i qs × (length qs ≡ n + length ps)
    pub back : (qs : List ℕ) → Leads b reel xs i qs → (ps : List ℕ) × Leads b reel xs j ps × (length qs ≡ n + length ps)

  module _ (i n j : ℕ) (d : Pair C K) (so : Comes i n j) (here : j < length xs) where
    abbrev at_place : Pair C K
    at_place = get_or xs j d

    stands : Stands xs j at_place
    stands e = get_or_default xs j e d here

    says : (r : Result (Option ℕ) Refusal) → r ≡ next_of b reel (length xs) at_place → Next (length xs) at_place r
    says r e = subst (Next (length xs) at_place) (sym e) (next_says (length xs) at_place)

    -- one link more
    pub comes_more : (k : ℕ) → Ok (Some k) ≡ next_of b reel (length xs) at_place → (k < length xs) × Comes i (n + 1) k
    comes_more k e =
        let (off, link, l) = says (Ok (Some k)) e in (
          l,
          record {
            on = λ ps h. let (qs, h', len) = so.on (at_place.point ∷ ps) (leads_on j k at_place ps here stands off link h) in (qs, h', omega arith);
            back = λ qs h.
                let (ps, h', len) = so.back qs h in
                let (k', rs, link', h'', more) = leads_rest j at_place ps stands off h' in
                (rs, subst (λ (z : ℕ). Leads b reel xs z rs) (same_Some k' k (sym link' ∙ link)) h'', omega arith);
          },
        )

    -- home is reached
    pub comes_home : Ok None ≡ next_of b reel (length xs) at_place → Counts b reel xs i (Ok (n + 1))
    comes_home e = let (qs, h, len) = so.on (at_place.point ∷ []) (at_place, here, stands, refl, says (Ok None) e) in (qs, h, omega arith)

    -- the links lead nowhere
    pub comes_nowhere : (r : Refusal) → Err r ≡ next_of b reel (length xs) at_place → Counts b reel xs i (Err r)
    comes_nowhere r e =
        let (is, off, none) = says (Err r) e in (
          is,
          λ qs h.
              let (ps, h', len) = so.back qs h in
              let (k, rs, link, h'', more) = leads_rest j at_place ps stands off h' in
              none k link (leads_here k rs h'').1,
        )

  -- as many links as there are places without coming home: they lead round in a circle
  pub comes_round : (i n j : ℕ) → Comes i n j → length xs ≤ n → Counts b reel xs i (Err NoRun)
  comes_round i n j so l = (refl, λ qs h. let (ps, h', len) = so.back qs h in omega (arith, leads_short i qs h, leads_some j ps h'))

  -- the first n points of the run from i are written, and the rest begins at j
  pub record Written (i n j : ℕ) (buffer : List ℕ) : Type 0 where
    pub points : List ℕ
    pub leads : Leads b reel xs i points
    pub long : length points ≡ length buffer
    pub done : take n buffer ≡ take n points
    pub rest : n < length buffer → Leads b reel xs j (drop n points)
    pub below : n < length buffer → j < length xs

  -- no point is written yet
  pub written_none : (i : ℕ) (buffer : List ℕ) → Counts b reel xs i (Ok (length buffer)) → Written i 0 i buffer
  written_none i buffer (ps, h, e) = record { points = ps; leads = h; long = e; done = refl; rest = λ _. h; below = λ _. (leads_here i ps h).1 }

  -- one point more
  module _ (i n j : ℕ) (buffer : List ℕ) (d : Pair C K) (so : Written i n j buffer) (l : n < length buffer) where
    abbrev read : Pair C K
    read = get_or xs j d

    pub written_more : (k : ℕ) → MatchOption read.link (k ≡ j) (λ m. k ≡ m) → Written i (n + 1) k (set buffer n read.point)
    written_more k next = record {
      points = so.points;
      leads = so.leads;
      long = so.long ∙ sym (length-set buffer n read.point);
      done =
          take_more_set buffer n read.point l ∙ (λ w. so.done w ++ (point (get_or so.points n 0) (drop (n + 1) so.points) rest w ∷ []))
          ∙ sym (take_more so.points n 0 (omega (arith, so.long)));
      rest = λ m. onward (drop (n + 1) so.points) (omega (arith, so.long, length-set buffer n read.point, length-drop (n + 1) so.points)) rest;
      below = λ m. (leads_here k (drop (n + 1) so.points) (onward (drop (n + 1) so.points) (omega (arith, so.long, length-set buffer n read.point, length-drop (n + 1) so.points)) rest)).1;
    }
      where
        rest : Leads b reel xs j (get_or so.points n 0 ∷ drop (n + 1) so.points)
        rest = subst (Leads b reel xs j) (drop_more so.points n 0 (omega (arith, so.long))) (so.rest l)

        point : (p : ℕ) (ps : List ℕ) → Leads b reel xs j (p ∷ ps) → read.point ≡ p
        point p [] (y, lt, a, e, home) = ap (λ (z : Pair C K). z.point) (a d) ∙ e
        point p (q ∷ ps) (y, lt, a, e, off, f) = ap (λ (z : Pair C K). z.point) (a d) ∙ e

        onward : (ps : List ℕ) → 0 < length ps → Leads b reel xs j (get_or so.points n 0 ∷ ps) → Leads b reel xs k ps
        onward [] m h = absurd (none_below 0 m)
        onward (q ∷ ps) m (y, lt, a, e, off, (f, link, h)) =
            subst (λ (z : ℕ). Leads b reel xs z (q ∷ ps)) (sym (MatchOption-at_some (k ≡ j) (λ m. k ≡ m) f (ap (λ (z : Pair C K). z.link) (a d) ∙ link) next)) h

-- the run of a pair
module _ {C K : Type 0} (b : Classes C) (reel : ℕ) (xs : List (Pair C K)) (p : ℕ) (c : C) (from : List ℕ) where
  -- a pair that stands nowhere has none
  pub nowhere_runs : (o : Option ℕ) (e : Refusal) → Finds b xs p c o → Err e ≡ ok_or o NoRun → RunsIn b reel xs p c from from (Err e)
  nowhere_runs None e none is = (refl, inl (cc, λ i ps (f, h). nowhere_first b p c xs i none f))
  nowhere_runs (Some i) e f is = absurd cc

  -- nor one whose first place does not lead home
  pub lost_runs : (o : Option ℕ) (i : ℕ) (e : Refusal) → Finds b xs p c o → Ok i ≡ ok_or o NoRun → Counts b reel xs i (Err e) → RunsIn b reel xs p c from from (Err e)
  lost_runs None i e none is lost = absurd cc
  lost_runs (Some j) i e f is (no-run, none) =
      let same : j ≡ i = cc in
      (refl, inl (no-run, λ k ps (f', h). none ps (subst (λ (m : ℕ). Leads b reel xs m ps) (first_once b p c xs k j f' f ∙ same) h)))
