-- Parities as seven bits, and as counts of crossings.
use Rattle.std.proofs.Common.{◌≡◌, ℕ, ◌+◌, ◌%◌, Bool, true, false, not, List, [], ◌∷◌, map, length, sym, refl, ap, ◌∙◌, inl, inr, arith, eq-eqb, ne_eqb}
use Rattle.std.proofs.lemmas.Bool.{cases_eq}
use Rattle.kinds.specs.declared.crossing.Crossing.{Crossing}
use Rattle.kinds.specs.declared.crossing.Crossing.TheVariants as cross
use Rattle.kinds.specs.Classes.{product}
use Rattle.classes.specs.Sides.{sides, stored, rays, xor, same, odd, bit_of, crossings, Tells}

-- seven bits, read ray by ray, are those bits
pub map-stored : (xs : List Bool) → length xs ≡ 7 → map (stored xs) rays ≡ xs
map-stored [] h = absurd (omega arith)
map-stored (a ∷ []) h = absurd (omega arith)
map-stored (a ∷ (b ∷ [])) h = absurd (omega arith)
map-stored (a ∷ (b ∷ (c ∷ []))) h = absurd (omega arith)
map-stored (a ∷ (b ∷ (c ∷ (d ∷ [])))) h = absurd (omega arith)
map-stored (a ∷ (b ∷ (c ∷ (d ∷ (e ∷ []))))) h = absurd (omega arith)
map-stored (a ∷ (b ∷ (c ∷ (d ∷ (e ∷ (f ∷ [])))))) h = absurd (omega arith)
map-stored (a ∷ (b ∷ (c ∷ (d ∷ (e ∷ (f ∷ (g ∷ []))))))) h = refl
map-stored (a ∷ (b ∷ (c ∷ (d ∷ (e ∷ (f ∷ (g ∷ (x ∷ xs)))))))) h = absurd (omega arith)

-- one more of a ray's crossings turns its parity
odd_more : (b : Bool) (n : ℕ) → xor b (odd n) ≡ odd (bit_of b + n)
odd_more false n = ap odd (omega arith)
odd_more true n = elim (cases_eq (n % 2) 1) [
  | inl e ↦ ap not (eq-eqb (n % 2) 1 e) ∙ sym (ne_eqb ((1 + n) % 2) 1 (λ h. omega arith))
  | inr f ↦ ap not (ne_eqb (n % 2) 1 f) ∙ sym (eq-eqb ((1 + n) % 2) 1 (omega arith))
]

-- the product tells for each ray whether it is crossed an odd number of times
pub product_tells : (xs : List Crossing) → Tells xs (product sides xs)
product_tells [] r = refl
product_tells (cross.None ∷ xs) r = product_tells xs r
product_tells (cross.Forwards s ∷ xs) r = ap (xor (same r s)) (product_tells xs r) ∙ odd_more (same r s) (crossings r xs)
product_tells (cross.Backwards s ∷ xs) r = ap (xor (same r s)) (product_tells xs r) ∙ odd_more (same r s) (crossings r xs)
