-- The memory that the commands of a grid write, point by point.
use Rattle.std.proofs.Common.{◌≡◌, ℕ, ◌+◌, ◌*◌, ◌<◌, ◌≤◌, cond, ◌&&◌, eqb, ◌⊎◌, List, [], ◌∷◌, ◌++◌, length, get_or, set, sym, refl, ap, ◌∙◌, inl, inr, arith}
use Rattle.std.proofs.lemmas.List.{get_or-set_same, get_or-set_other, length-set, length-replicate, get_or-replicate, get_or_past}
use Rattle.std.proofs.lemmas.Bool.{cases_eq, cases_lt}
use Rattle.plans.specs.declared.plan.Grid.{Grid}
use Rattle.plans.specs.Plans.{grid, Command, post, block, weigh, point, join, HeadInRange, AllGood}
use Rattle.plans.specs.GridPlans.{head_of}
use Rattle.plans.specs.Holdings.{blank}
use Rattle.plans.specs.Grids.{place}
use Rattle.plans.specs.Meanings.{risk_after, Blocked}
use Rattle.plans.specs.Holdings.{GridTells}
use Rattle.plans.specs.GridSteps.{written, Holds}
use Rattle.plans.proofs.GridPlaces.{place_below, places_fit, same_place, cond_hit, cond_miss, length-written}

-- the risk of a point after one weigh command
get_or-set_risk : (w h : ℕ) (m : List ℕ) (c r d q x : ℕ) → w ≤ 64 → h ≤ 64 → length m ≡ 10240 → c < w → r < h → d < w → q < h
    → get_or (set m (place w d q) x) (place w c r) 0 ≡ cond (eqb d c && eqb q r) x (get_or m (place w c r) 0)
get_or-set_risk w h m c r d q x wl hl long cl rl dl ql =
    elim (cases_eq (place w c r) (place w d q)) [
      | inl e ↦
          let s = same_place w c r d q cl dl e in
          let l : place w d q < length m = omega (arith, place_below w h d q dl ql, places_fit w h wl hl) in
          ap (λ i. get_or (set m (place w d q) x) i 0) e ∙ (get_or-set_same m (place w d q) x 0 l ∙ sym (cond_hit d c q r x (get_or m (place w c r) 0) s.0 s.1))
      | inr n ↦
          get_or-set_other m (place w d q) (place w c r) x 0 n
          ∙ sym (cond_miss d c q r x (get_or m (place w c r) 0) (λ s. n (ap (λ i. r * w + i) (sym s.0) ∙ ap (λ i. i * w + d) (sym s.1))))
    ]

-- the risk of a point after the commands
risk_written : (w h s : ℕ) (before cs : List Command) (m : List ℕ) (c r : ℕ) → w ≤ 64 → h ≤ 64 → length m ≡ 10240 → AllGood (grid w h s) before cs → c < w → r < h
    → get_or (written w m cs) (place w c r) 0 ≡ risk_after (get_or m (place w c r) 0) cs c r
risk_written w h s before [] m c r wl hl long a cl rl = refl
risk_written w h s before (post d q ∷ cs) m c r wl hl long a cl rl = risk_written w h s (before ++ (post d q ∷ [])) cs m c r wl hl long a.1 cl rl
risk_written w h s before (block d q ∷ cs) m c r wl hl long a cl rl =
    risk_written w h s (before ++ (block d q ∷ [])) cs (set m (4096 + place w d q) 1) c r wl hl (length-set m (4096 + place w d q) 1 ∙ long) a.1 cl rl
    ∙ ap (λ k. risk_after k cs c r) (get_or-set_other m (4096 + place w d q) (place w c r) 1 0 (λ e. omega (arith, e, place_below w h c r cl rl, places_fit w h wl hl)))
risk_written w h s before (weigh d q x ∷ cs) m c r wl hl long a cl rl =
    risk_written w h s (before ++ (weigh d q x ∷ [])) cs (set m (place w d q) x) c r wl hl (length-set m (place w d q) x ∙ long) a.1 cl rl
    ∙ ap (λ k. risk_after k cs c r) (get_or-set_risk w h m c r d q x wl hl long cl rl a.0.1.0 a.0.1.1)
risk_written w h s before (point n ∷ cs) m c r wl hl long a cl rl = absurd a.0.0
risk_written w h s before (join e f l x y ∷ cs) m c r wl hl long a cl rl = absurd a.0.0

-- what is written nowhere is as it was
get_or-written_other : (w h s : ℕ) (before cs : List Command) (m : List ℕ) (i : ℕ) → AllGood (grid w h s) before cs
    → ((c r : ℕ) → c < w → r < h → i ≡ place w c r → ⊥) → ((c r : ℕ) → c < w → r < h → i ≡ 4096 + place w c r → ⊥) → get_or (written w m cs) i 0 ≡ get_or m i 0
get_or-written_other w h s before [] m i a u v = refl
get_or-written_other w h s before (post d q ∷ cs) m i a u v = get_or-written_other w h s (before ++ (post d q ∷ [])) cs m i a.1 u v
get_or-written_other w h s before (block d q ∷ cs) m i a u v =
    get_or-written_other w h s (before ++ (block d q ∷ [])) cs (set m (4096 + place w d q) 1) i a.1 u v ∙ get_or-set_other m (4096 + place w d q) i 1 0 (v d q a.0.1.0 a.0.1.1)
get_or-written_other w h s before (weigh d q x ∷ cs) m i a u v =
    get_or-written_other w h s (before ++ (weigh d q x ∷ [])) cs (set m (place w d q) x) i a.1 u v ∙ get_or-set_other m (place w d q) i x 0 (u d q a.0.1.0 a.0.1.1)
get_or-written_other w h s before (point n ∷ cs) m i a u v = absurd a.0.0
get_or-written_other w h s before (join e f l x y ∷ cs) m i a u v = absurd a.0.0

-- a flag that stands stays
flag_stays : (m : List ℕ) (j i : ℕ) → j < length m → get_or m i 0 ≡ 1 → get_or (set m j 1) i 0 ≡ 1
flag_stays m j i l e = elim (cases_eq i j) [ inl f ↦ ap (λ k. get_or (set m j 1) k 0) f ∙ get_or-set_same m j 1 0 l | inr n ↦ get_or-set_other m j i 1 0 n ∙ e ]

-- a point that is blocked before the commands or by them has its flag
flag_written : (w h s : ℕ) (before cs : List Command) (m : List ℕ) (c r : ℕ) → w ≤ 64 → h ≤ 64 → length m ≡ 10240 → AllGood (grid w h s) before cs → c < w → r < h
    → Blocked cs c r ⊎ (get_or m (4096 + place w c r) 0 ≡ 1) → get_or (written w m cs) (4096 + place w c r) 0 ≡ 1
flag_written w h s before [] m c r wl hl long a cl rl (inl b) = absurd b
flag_written w h s before [] m c r wl hl long a cl rl (inr e) = e
flag_written w h s before (post d q ∷ cs) m c r wl hl long a cl rl b = flag_written w h s (before ++ (post d q ∷ [])) cs m c r wl hl long a.1 cl rl b
flag_written w h s before (block d q ∷ cs) m c r wl hl long a cl rl b =
    let in_memory : 4096 + place w d q < length m = omega (arith, place_below w h d q a.0.1.0 a.0.1.1, places_fit w h wl hl) in
    let go : Blocked cs c r ⊎ (get_or (set m (4096 + place w d q) 1) (4096 + place w c r) 0 ≡ 1) → get_or (written w (set m (4096 + place w d q) 1) cs) (4096 + place w c r) 0 ≡ 1 =
    flag_written w h s (before ++ (block d q ∷ [])) cs (set m (4096 + place w d q) 1) c r wl hl (length-set m (4096 + place w d q) 1 ∙ long) a.1 cl rl in
    elim b [
      | inl b ↦ elim b [
        | inl e ↦
            let f : 4096 + place w c r ≡ 4096 + place w d q = sym (ap (λ i. 4096 + (q * w + i)) e.0 ∙ ap (λ i. 4096 + (i * w + c)) e.1) in
            go (inr (ap (λ i. get_or (set m (4096 + place w d q) 1) i 0) f ∙ get_or-set_same m (4096 + place w d q) 1 0 in_memory))
        | inr b ↦ go (inl b)
      ]
      | inr e ↦ go (inr (flag_stays m (4096 + place w d q) (4096 + place w c r) in_memory e))
    ]
flag_written w h s before (weigh d q x ∷ cs) m c r wl hl long a cl rl b =
    let other : get_or (set m (place w d q) x) (4096 + place w c r) 0 ≡ get_or m (4096 + place w c r) 0 =
    get_or-set_other m (place w d q) (4096 + place w c r) x 0 (λ e. omega (arith, e, place_below w h d q a.0.1.0 a.0.1.1, places_fit w h wl hl)) in
    flag_written w h s (before ++ (weigh d q x ∷ [])) cs (set m (place w d q) x) c r wl hl (length-set m (place w d q) x ∙ long) a.1 cl rl
    (elim b [ inl b ↦ inl b | inr e ↦ inr (other ∙ e) ])
flag_written w h s before (point n ∷ cs) m c r wl hl long a cl rl b = absurd a.0.0
flag_written w h s before (join e f l x y ∷ cs) m c r wl hl long a cl rl b = absurd a.0.0

-- a point that no command blocks has its flag as before
free_written : (w h s : ℕ) (before cs : List Command) (m : List ℕ) (c r : ℕ) → w ≤ 64 → h ≤ 64 → AllGood (grid w h s) before cs → c < w → r < h
    → (Blocked cs c r → ⊥) → get_or (written w m cs) (4096 + place w c r) 0 ≡ get_or m (4096 + place w c r) 0
free_written w h s before [] m c r wl hl a cl rl n = refl
free_written w h s before (post d q ∷ cs) m c r wl hl a cl rl n = free_written w h s (before ++ (post d q ∷ [])) cs m c r wl hl a.1 cl rl n
free_written w h s before (block d q ∷ cs) m c r wl hl a cl rl n =
    free_written w h s (before ++ (block d q ∷ [])) cs (set m (4096 + place w d q) 1) c r wl hl a.1 cl rl (λ b. n (inr b))
    ∙ get_or-set_other m (4096 + place w d q) (4096 + place w c r) 1 0 (λ e. n (inl (same_place w c r d q cl a.0.1.0 (omega (arith, e)))))
free_written w h s before (weigh d q x ∷ cs) m c r wl hl a cl rl n =
    free_written w h s (before ++ (weigh d q x ∷ [])) cs (set m (place w d q) x) c r wl hl a.1 cl rl n
    ∙ get_or-set_other m (place w d q) (4096 + place w c r) x 0 (λ e. omega (arith, e, place_below w h d q a.0.1.0 a.0.1.1, places_fit w h wl hl))
free_written w h s before (point k ∷ cs) m c r wl hl a cl rl n = absurd a.0.0
free_written w h s before (join e f l x y ∷ cs) m c r wl hl a cl rl n = absurd a.0.0

get_or-blank : (i : ℕ) → get_or blank i 0 ≡ 0
get_or-blank i =
    elim (cases_lt i 10240) [ inl l ↦ get_or-replicate 10240 i 0 0 l | inr l ↦ get_or_past blank i 0 (omega (arith, length-replicate {A = ℕ} 10240 0)) ]

-- what was written in order is what the commands say point by point
pub tells_from_holds : (cs : List Command) (g : Grid) (m : List ℕ) → HeadInRange (head_of g) → AllGood (head_of g) [] cs → Holds cs g m → GridTells cs g m
tells_from_holds cs g m size good held =
    let w = g.width in
    let h = g.height in
    let s = g.spacing in
    let wl : w ≤ 64 = size.1 in
    let hl : h ≤ 64 = size.3 in
    let long : length blank ≡ 10240 = length-replicate {A = ℕ} 10240 0 in
    let at : (i : ℕ) → get_or m i 0 ≡ get_or (written w blank cs) i 0 = λ i. ap (λ ys. get_or ys i 0) held.wrote in
    record {
      posted = held.posted;
      long = ap length held.wrote ∙ (length-written w blank cs ∙ long);
      risks = λ c r cl rl. at (place w c r) ∙ (risk_written w h s [] cs blank c r wl hl long good cl rl ∙ ap (λ k. risk_after k cs c r) (get_or-blank (place w c r)));
      blocked = λ c r cl rl b. at (4096 + place w c r) ∙ flag_written w h s [] cs blank c r wl hl long good cl rl (inl b);
      free = λ c r cl rl n. at (4096 + place w c r) ∙ (free_written w h s [] cs blank c r wl hl good cl rl n ∙ get_or-blank (4096 + place w c r));
      beyond = λ i l u. at i ∙ (get_or-written_other w h s [] cs blank i good
          (λ c r cl rl e. omega (arith, e, place_below w h c r cl rl))
          (λ c r cl rl e. omega (arith, e)) ∙ get_or-blank i);
      after = λ i l. at i ∙ (get_or-written_other w h s [] cs blank i good
          (λ c r cl rl e. omega (arith, e, place_below w h c r cl rl))
          (λ c r cl rl e. omega (arith, e, place_below w h c r cl rl)) ∙ get_or-blank i);
    }
