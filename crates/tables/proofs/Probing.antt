-- The way of a hash, step by step, and what a whole turn meets.
use Rattle.std.proofs.Common.{◌≡◌, ℕ, ◌+◌, ◌%◌, ◌<◌, List, length, get_or, Some, None, Option, ap, ◌∙◌, arith}
use native.Mathlib.Nat.{mod-add-mod}
use Rattle.tables.specs.Probes.{way_at, on_way}
use Rattle.tables.specs.Indexes.{Meets, Opens}
use Rattle.tables.proofs.Ways.{way_within, way_comes}

-- each step of the way goes on by one slot
pub way_steps : (n h j a b : ℕ) → 0 < n → a ≡ way_at n h j → b ≡ (a + 1) % n → (b < n) × (b ≡ way_at n h (j + 1))
way_steps n h j a b lt e f =
    let more : h + j + 1 ≡ h + (j + 1) = omega arith in
    let here : b ≡ way_at n h (j + 1) = f ∙ ap (λ k. (k + 1) % n) e ∙ mod-add-mod (h + j) n 1 ∙ ap (λ m. m % n) more in
    (omega (arith, way_within n h (j + 1) lt), here)

-- where the way meets no vacant slot in a whole turn, none of the slots is vacant
pub taken_all : (slots : List ℕ) (h : ℕ) → ((q : ℕ) → q < length slots → on_way slots h q ≡ 0 → ⊥) →
    (i : ℕ) → i < length slots → get_or slots i 0 ≡ 0 → ⊥
taken_all slots h taken i p vacant =
    let (j, q, e) = way_comes (length slots) h i p in
    taken j q (ap (λ a. get_or slots a 0) e ∙ vacant)

-- the first vacant slot on the way is one wherever there is one
pub opens_meets : (slots : List ℕ) (h : ℕ) (r : Option ℕ) → Meets slots h r → Opens slots h r
opens_meets slots h None (j, taken, turn) = taken_all slots h (λ q lt. taken q (omega arith))
opens_meets slots h (Some i) met = met
