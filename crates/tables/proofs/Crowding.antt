-- A well-kept index with more slots than places has a vacant slot.
use Rattle.std.proofs.Common.{◌≡◌, ℕ, zero, suc, ◌+◌, ◌-◌, ◌<◌, ◌≤◌, ◌⊎◌, List, length, get_or, Some, Err, Option, sym, ap, ◌∙◌, inl, inr, arith}
use Rattle.std.proofs.lemmas.Bool.{cases_eq}
use Rattle.tables.specs.Probes.{KeyKind}
use Rattle.tables.specs.declared.index.NotEntered.TheVariants.{Full}
use Rattle.tables.specs.Indexes.{Indexed, Inserts}
use Rattle.tables.proofs.Renaming.{names_once}
use Rattle.tables.proofs.Pigeonholes.{pigeonhole}

-- of the first c slots one is vacant, or all are taken
pub vacant_or_taken : (slots : List ℕ) (c : ℕ) → ((i : ℕ) × (i < c) × (get_or slots i 0 ≡ 0)) ⊎ ((i : ℕ) → i < c → get_or slots i 0 ≡ 0 → ⊥)
vacant_or_taken slots zero = inr (λ i lt e. omega arith)
vacant_or_taken slots (suc c) =
    elim (vacant_or_taken slots c) [
      | inl (i, lt, z) ↦ inl (i, omega arith, z)
      | inr taken ↦ elim (cases_eq (get_or slots c 0) 0) [
        | inl z ↦ inl (c, omega arith, z)
        | inr ne ↦ inr (λ i lt z. elim (cases_eq i c) [ inl e ↦ ne (sym (ap (λ a. get_or slots a 0) e) ∙ z) | inr n ↦ taken i (omega arith) z ])
      ]
    ]

module _ (K : KeyKind) (at : ℕ → Option K.Meaning) (slots : List ℕ) (ix : Indexed K at slots) (n : ℕ) (few : (k : ℕ) (m : K.Meaning) → at k ≡ Some m → k < n) where
  -- slots that are all taken are no more than the places
  pub few_from_taken : ((i : ℕ) → i < length slots → get_or slots i 0 ≡ 0 → ⊥) → length slots ≤ n
  few_from_taken taken = pigeonhole (length slots) n (λ i. get_or slots i 0 - 1) below apart
    where
      below : (i : ℕ) → i < length slots → get_or slots i 0 - 1 < n
      below i lt = let (m, (k, names, has)) = ix.placed i (taken i lt) in let u : get_or slots i 0 ≡ k + 1 = names in omega (arith, few k m has)

      apart : (i j : ℕ) → i < length slots → j < length slots → get_or slots i 0 - 1 ≡ get_or slots j 0 - 1 → i ≡ j
      apart i j lt lt' e =
          let ne = taken i lt in
          let ne' = taken j lt' in
          names_once K at slots ix i j (get_or slots i 0 - 1) (omega arith) (omega arith)

  pub vacant_from_few : n < length slots → (i : ℕ) × (i < length slots) × (get_or slots i 0 ≡ 0)
  vacant_from_few more =
      elim (vacant_or_taken slots (length slots)) [
        | inl vacant ↦ vacant
        | inr taken ↦ absurd (omega (arith, few_from_taken taken))
      ]

  -- so a place more finds a slot
  pub not_full_from_few : n < length slots → (h k : ℕ) (to : List ℕ) → Inserts h k slots to (Err Full) → ⊥
  not_full_from_few more h k to (_, taken, _) = omega (arith, few_from_taken taken)
