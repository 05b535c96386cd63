-- The numbers of a grid's points, and the length of the memory that its commands write.
use Rattle.std.proofs.Common.{◌≡◌, ℕ, ◌+◌, ◌*◌, ◌/◌, ◌%◌, ◌<◌, ◌≤◌, cond, ◌&&◌, eqb, List, [], ◌∷◌, length, sym, refl, ap, ◌∙◌, inl, inr, mul_comm, mul-le-mul, arith}
use Rattle.std.proofs.lemmas.List.{length-set}
use Rattle.std.proofs.lemmas.Bool.{eq-eqb, ne_eqb, cases_eq}
use Rattle.std.proofs.lemmas.Nat.{mul-add-lt, div-mul-add, mod-mul-add}
use Rattle.plans.specs.Plans.{Command, post, block, weigh, point, join}
use Rattle.plans.specs.Grids.{place}
use Rattle.plans.specs.GridSteps.{write, written}

-- a point has a number below the count of points
pub place_below : (w h c r : ℕ) → c < w → r < h → place w c r < h * w
place_below w h c r l m = omega (arith, mul-add-lt r w c h m l, mul_comm w h)

-- the points fit the first part of the memory
pub places_fit : (w h : ℕ) → w ≤ 64 → h ≤ 64 → h * w ≤ 4096
places_fit w h l m = mul-le-mul {n₁ = h} {m₁ = w} {n₂ = 64} {m₂ = 64} m l

-- two points of one number are one
pub same_place : (w c r d q : ℕ) → c < w → d < w → place w c r ≡ place w d q → (d ≡ c) × (q ≡ r)
same_place w c r d q l m e = (
  sym (mod-mul-add q w d m) ∙ (ap (λ i. i % w) (sym e) ∙ mod-mul-add r w c l),
  sym (div-mul-add q w d m) ∙ (ap (λ i. i / w) (sym e) ∙ div-mul-add r w c l),
)

-- a test of two points that are one
pub cond_hit : (d c q r x k : ℕ) → d ≡ c → q ≡ r → cond (eqb d c && eqb q r) x k ≡ x
cond_hit d c q r x k e f = let a = eq-eqb d c e in let b = eq-eqb q r f in simp (a, b)

-- a test of two points that are not
pub cond_miss : (d c q r x k : ℕ) → ((d ≡ c) × (q ≡ r) → ⊥) → cond (eqb d c && eqb q r) x k ≡ k
cond_miss d c q r x k n =
    elim (cases_eq d c) [
      | inl e ↦ let a = eq-eqb d c e in let b = ne_eqb q r (λ f. n (e, f)) in simp (a, b)
      | inr f ↦ let a = ne_eqb d c f in simp a
    ]

length-write : (w : ℕ) (m : List ℕ) (x : Command) → length (write w m x) ≡ length m
length-write w m (post c r) = refl
length-write w m (block c r) = length-set m (4096 + place w c r) 1
length-write w m (weigh c r k) = length-set m (place w c r) k
length-write w m (point s) = refl
length-write w m (join a b l k x) = refl

pub length-written : (w : ℕ) (m : List ℕ) (cs : List Command) → length (written w m cs) ≡ length m
length-written w m [] = refl
length-written w m (x ∷ cs) = length-written w (write w m x) cs ∙ length-write w m x
