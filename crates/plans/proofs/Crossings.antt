-- Which ray a lane crosses, where no two posts share a column.
use Rattle.std.proofs.Common.{◌≡◌, ℕ, zero, suc, ◌+◌, ◌<◌, ◌≤◌, true, false, eqb, leb, List, [], ◌∷◌, length, get_or, sym, refl, ap, ◌∙◌, inl, inr, arith}
use Rattle.std.proofs.lemmas.Bool.{eqb-true, eq-eqb, leb-true, le-leb, cases_Bool, cond-true, cond-false, and_parts, and_from}
use Rattle.kinds.specs.declared.crossing.Crossing.TheVariants as cross
use Rattle.plans.specs.declared.plan.Post.{Post}
use Rattle.plans.specs.Rays.{ahead}
use Rattle.plans.specs.Grids.{over, eastward}
use Rattle.plans.specs.Holdings.{nowhere}

over_parts : (p : Post) (c y : ℕ) → over p c y ≡ true → (p.column ≡ c) × (p.row + 1 ≤ y)
over_parts p c y e =
    let h = and_parts (eqb p.column c) (leb (p.row + 1) y) e in
    (eqb-true p.column c h.0, leb-true (p.row + 1) y h.1)

over_from : (p : Post) (c y : ℕ) → p.column ≡ c → p.row + 1 ≤ y → over p c y ≡ true
over_from p c y e h = and_from (eqb p.column c) (leb (p.row + 1) y) (eq-eqb p.column c e) (le-leb (p.row + 1) y h)

-- the first post whose ray the lane crosses decides
eastward_first : (k : ℕ) (ps : List Post) (c y i : ℕ) → i < length ps → over (get_or ps i nowhere) c y ≡ true → ((j : ℕ) → j < i → over (get_or ps j nowhere) c y ≡ false)
    → eastward k ps c y ≡ ahead (k + i)
eastward_first k [] c y i h e f = absurd (omega arith)
eastward_first k (p ∷ ps) c y zero h e f = let same : k ≡ k + 0 = omega arith in cond-true (over p c y) (ahead k) (eastward (k + 1) ps c y) e ∙ ap ahead same
eastward_first k (p ∷ ps) c y (suc i) h e f =
    let same : k + 1 + i ≡ k + suc i = omega arith in
    cond-false (over p c y) (ahead k) (eastward (k + 1) ps c y) (f 0 (omega arith))
    ∙ (eastward_first (k + 1) ps c y i (omega arith) e (λ j l. f (suc j) (omega arith)) ∙ ap ahead same)

-- no two posts share a column
pub record Spread (ps : List Post) : Type 0 where
  pub apart : (i j : ℕ) → i < length ps → j < length ps → (get_or ps i nowhere).column ≡ (get_or ps j nowhere).column → i ≡ j

-- the lane between the columns c and c + 1 on the row y crosses the ray of the post at (c, r) if r + 1 is at most y
pub crosses_ray : (ps : List Post) (c y i : ℕ) → Spread ps → i < length ps → (get_or ps i nowhere).column ≡ c → (get_or ps i nowhere).row + 1 ≤ y → eastward 1 ps c y ≡ ahead (1 + i)
crosses_ray ps c y i s h e l =
    eastward_first 1 ps c y i h (over_from (get_or ps i nowhere) c y e l)
    (λ j m. elim (cases_Bool (over (get_or ps j nowhere) c y)) [
      | inl t ↦ absurd (omega (arith, s.apart j i (omega arith) h ((over_parts (get_or ps j nowhere) c y t).0 ∙ sym e)))
      | inr t ↦ t
    ])

-- and nothing if there is no such post
pub crosses_nothing : (k : ℕ) (ps : List Post) (c y : ℕ) → ((i : ℕ) → i < length ps → (get_or ps i nowhere).column ≡ c → (get_or ps i nowhere).row + 1 ≤ y → ⊥) → eastward k ps c y ≡ cross.None
crosses_nothing k [] c y f = refl
crosses_nothing k (p ∷ ps) c y f =
    elim (cases_Bool (over p c y)) [
      | inl t ↦ let h = over_parts p c y t in absurd (f 0 (omega arith) h.0 h.1)
      | inr t ↦ cond-false (over p c y) (ahead k) (eastward (k + 1) ps c y) t ∙ crosses_nothing (k + 1) ps c y (λ i l e m. f (suc i) (omega arith) e m)
    ]
