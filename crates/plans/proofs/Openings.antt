-- The opening command, and what follows it: two outcomes of the same bytes are the same.
use Rattle.std.proofs.Common.{◌≡◌, ℕ, ◌+◌, ◌/◌, ◌%◌, ◌≤◌, cond, eqb, ltb, ◌⊎◌, List, [], ◌∷◌, ◌++◌, length, sym, refl, ap, ◌∙◌, subst, inl, inr, arith}
use Rattle.std.proofs.lemmas.Bool.{ne_eqb, lt-ltb, le-ltb}
use Rattle.plans.specs.Plans.{Head, grid, road, Command, spell_head, spell_all, HeadInRange, Outcome, accepted, refused, Reads}
use Rattle.plans.proofs.Spelling.{same_head, same_after_head}
use Rattle.plans.proofs.Shapes.{Shape, done, wrong, whole}
use Rattle.plans.proofs.Beginnings.{Beginning, same_beginning}

-- the fault that keeps bytes from having an opening command, or whole where they have one
abbrev start : List ℕ → Shape
start [] = wrong 3 0
start (b ∷ xs) = cond (eqb b 71) (cond (ltb (length xs) 4) (wrong 5 0) whole) (cond (eqb b 77) whole (wrong 3 0))

start_head : (h : Head) (ys : List ℕ) → start (spell_head h ++ ys) ≡ whole
start_head (grid w h s) ys =
    let long : 4 ≤ length (w ∷ (h ∷ (s / 256 ∷ (s % 256 ∷ ys)))) = omega arith in
    let x = le-ltb (length (w ∷ (h ∷ (s / 256 ∷ (s % 256 ∷ ys))))) 4 long in
    simp x
start_head road ys = refl

start_other : (b : ℕ) (xs : List ℕ) → (b ≡ 71 → ⊥) → (b ≡ 77 → ⊥) → start (b ∷ xs) ≡ wrong 3 0
start_other b xs m n =
    let x = ne_eqb b 71 m in
    let y = ne_eqb b 77 n in
    simp (x, y)

-- the outcome where reading stops after these commands
abbrev outcome : Head → List Command → Shape → Outcome
outcome h cs done = accepted h cs
outcome h cs (wrong n i) = refused n (length (spell_head h) + (length (spell_all cs) + i))
outcome h cs whole = refused 0 0

-- the bytes have no opening command
abbrev Shut : List ℕ → Outcome → Type 0
Shut bytes a = (n : ℕ) × (o : ℕ) × (start bytes ≡ wrong n o) × (a ≡ refused n o)

-- what becomes of the bytes after the opening command
abbrev Goes : Head → List ℕ → Outcome → Type 0
Goes h xs a =
    ((HeadInRange h → ⊥) × (a ≡ refused 6 0))
    ⊎ (HeadInRange h × ((cs : List Command) × (x : Shape) × Beginning h [] xs cs x × (a ≡ outcome h cs x)))

-- the bytes have an opening command, and so they go on
abbrev Open : List ℕ → Outcome → Type 0
Open bytes a = (h : Head) × (xs : List ℕ) × (bytes ≡ spell_head h ++ xs) × Goes h xs a

same_refused : {a b n o : ℕ} → n ≡ a → o ≡ b → refused n o ≡ refused a b
same_refused e f = cc

-- every outcome is of one of these two sorts
sorted : (bytes : List ℕ) (a : Outcome) → Reads bytes a → Shut bytes a ⊎ Open bytes a
sorted bytes (accepted h cs) (e, r, g) = inr (h, spell_all cs ++ (69 ∷ []), e, inr (r, (cs, done, record { rest = 69 ∷ []; spelled = refl; good = g; stops = refl }, refl)))
sorted bytes (refused n o) (inl (e, f, g)) = inl (3, 0, ap start e, same_refused f g)
sorted bytes (refused n o) (inr (inl (b, xs, e, k, l, f, g))) = inl (3, 0, ap start e ∙ start_other b xs k l, same_refused f g)
sorted bytes (refused n o) (inr (inr (inl (xs, e, l, f, g)))) =
    let x = lt-ltb (length xs) 4 l in
    inl (5, 0, ap start e ∙ simp x, same_refused f g)
sorted bytes (refused n o) (inr (inr (inr (inl (h, xs, e, r, f, g))))) = inr (h, xs, e, inl (r, same_refused f g))
sorted bytes (refused n o) (inr (inr (inr (inr (h, cs, rest, i, e, r, g, w, f))))) =
    inr (h, spell_all cs ++ rest, e, inr (r, (cs, wrong n i, record { rest = rest; spelled = refl; good = g; stops = w }, ap (λ k. refused n k) f)))

-- one outcome after one opening command
same_goes : (h : Head) (xs : List ℕ) (a b : Outcome) → Goes h xs a → Goes h xs b → a ≡ b
same_goes h xs a b (inl (r, e)) (inl (s, f)) = e ∙ sym f
same_goes h xs a b (inl (r, e)) (inr (s, t)) = absurd (r s)
same_goes h xs a b (inr (r, t)) (inl (s, f)) = absurd (s r)
same_goes h xs a b (inr (r, (cs, x, p, e))) (inr (s, (ds, y, q, f))) =
    let same = same_beginning h [] xs cs ds x y p q in
    e ∙ (ap (λ zs. outcome h zs x) same.0 ∙ (ap (λ z. outcome h ds z) same.1 ∙ sym f))

same_open : (bytes : List ℕ) (a b : Outcome) → Open bytes a → Open bytes b → a ≡ b
same_open bytes a b (h, xs, e, g) (k, ys, f, i) =
    let both : spell_head k ++ ys ≡ spell_head h ++ xs = sym f ∙ e in
    let i' : Goes h ys b = subst (λ (z : Head). Goes z ys b) (same_head k h ys xs both) i in
    same_goes h xs a b g (subst (λ (zs : List ℕ). Goes h zs b) (same_after_head k h ys xs both) i')

-- no bytes are of both sorts
not_both : (bytes : List ℕ) (a b : Outcome) → Shut bytes a → Open bytes b → ⊥
not_both bytes a b (n, o, s, e) (h, xs, f, g) =
    let w : start bytes ≡ whole = ap start f ∙ start_head h xs in
    let z : ◌≡◌ {A = ℕ} 0 1 = cc in
    omega arith

same_shut : (bytes : List ℕ) (a b : Outcome) → Shut bytes a → Shut bytes b → a ≡ b
same_shut bytes a b (n, o, s, e) (k, p, t, f) = cc

-- the bytes allow one outcome only
pub same_outcome : (bytes : List ℕ) (a b : Outcome) → Reads bytes a → Reads bytes b → a ≡ b
same_outcome bytes a b r s =
    elim (sorted bytes a r) [
      | inl x ↦ elim (sorted bytes b s) [ inl y ↦ same_shut bytes a b x y | inr y ↦ absurd (not_both bytes a b x y) ]
      | inr x ↦ elim (sorted bytes b s) [ inl y ↦ absurd (not_both bytes b a y x) | inr y ↦ same_open bytes a b x y ]
    ]
