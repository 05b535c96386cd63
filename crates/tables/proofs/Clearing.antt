-- Slots that are all vacant are well kept.
use Rattle.std.proofs.Common.{◌≡◌, ℕ, ◌+◌, ◌≤◌, length, get_or, replicate, Option, sym, ◌∙◌, inl, inr, arith}
use lib.ListN.{length-replicate}
use Rattle.std.proofs.lemmas.List.{get_or_past, get_or-replicate}
use Rattle.std.proofs.lemmas.Bool.{cases_lt}
use Rattle.tables.specs.Probes.{KeyKind}
use Rattle.tables.specs.Indexes.{Has, Indexed}

pub get_or-vacant : (n i : ℕ) → get_or {A = ℕ} (replicate n 0) i 0 ≡ 0
get_or-vacant n i =
    elim (cases_lt i n) [
      | inl lt ↦ get_or-replicate n i 0 0 lt
      | inr ge ↦
          let past : length (replicate {A = ℕ} n 0) ≤ i = omega (arith, length-replicate {A = ℕ} n 0) in
          get_or_past (replicate n 0) i 0 past
    ]

pub indexed_vacant : (K : KeyKind) (at : ℕ → Option K.Meaning) (n : ℕ) → Indexed K at (replicate n 0)
indexed_vacant K at n = record {
  placed = λ i taken. absurd (taken (get_or-vacant n i));
  single = λ i j m a b. absurd (never i m a);
  met = λ i m a. absurd (never i m a);
}
  where
    never : (i : ℕ) (m : K.Meaning) → Has at (replicate n 0) i m → ⊥
    never i m (k, names, has) = let e : k + 1 ≡ 0 = sym names ∙ get_or-vacant n i in omega arith
