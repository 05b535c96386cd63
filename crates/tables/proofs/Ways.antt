-- The way of a hash over n slots: it stays among them, and comes to each.
use Rattle.std.proofs.Common.{◌≡◌, ℕ, ◌+◌, ◌-◌, ◌%◌, ◌<◌, sym, ap, ◌∙◌, inl, inr, mod-lt, mod-eq_of_lt, arith}
use native.Mathlib.Nat.{mod-add-mod, add-mod_right}
use Rattle.std.proofs.lemmas.Bool.{cases_lt}
use Rattle.tables.specs.Probes.{way_at}

-- each slot of the way is one of the slots
pub way_within : (n h j : ℕ) → 0 < n → way_at n h j < n
way_within n h j p = mod-lt (h + j) p

-- within one turn the way comes to each slot
pub way_comes : (n h i : ℕ) → i < n → (j : ℕ) × (j < n) × (way_at n h j ≡ i)
way_comes n h i p =
    let q : 0 < n = omega arith in
    let s : h % n < n = mod-lt h q in
    elim (cases_lt i (h % n)) [
      | inl lt ↦
          let e : h % n + (i + n - h % n) ≡ i + n = omega arith in (
            i + n - h % n,
            omega arith,
            sym (mod-add-mod h n (i + n - h % n)) ∙ ap (λ a. a % n) e ∙ add-mod_right i n ∙ mod-eq_of_lt p,
          )
      | inr le ↦
          let e : h % n + (i - h % n) ≡ i = omega arith in
          (i - h % n, omega arith, sym (mod-add-mod h n (i - h % n)) ∙ ap (λ a. a % n) e ∙ mod-eq_of_lt p)
    ]
