-- Two places that exchange their keys, with the slots that name them: what each slot and each place has after it.
use Rattle.std.proofs.Common.{◌≡◌, ℕ, ◌+◌, ◌<◌, List, length, get_or, set, Option, sym, ap, ◌∙◌, inl, inr, arith, length-set, get_or-set_other, get_or-set_same}
use Rattle.std.proofs.lemmas.Bool.{cases_eq}
use Rattle.tables.specs.Probes.{KeyKind}
use Rattle.tables.specs.Indexes.{Names, Indexed, Swapped}
use Rattle.tables.proofs.Meeting.{names_within}
use Rattle.tables.proofs.Renaming.{Alike, indexed_alike, vacant_or_names, names_once}

-- the slots after both writes
abbrev pub rewritten : List ℕ → ℕ → ℕ → ℕ → ℕ → List ℕ
rewritten slots s t p q = set (set slots s (q + 1)) t (p + 1)

module _ (slots : List ℕ) (s t p q : ℕ) (names : Names slots s p) (names' : Names slots t q) where
  length_rewritten : length (rewritten slots s t p q) ≡ length slots
  length_rewritten = length-set (set slots s (q + 1)) t (p + 1) ∙ length-set slots s (q + 1)

  -- the last slot that is written names p
  pub names_last : Names (rewritten slots s t p q) t p
  names_last =
      let lt : t < length (set slots s (q + 1)) = omega (arith, names_within slots t q names', length-set slots s (q + 1)) in
      get_or-set_same (set slots s (q + 1)) t (p + 1) 0 lt

  -- the first names q, if it is another slot
  pub names_first : (s ≡ t → ⊥) → Names (rewritten slots s t p q) s q
  names_first ne = get_or-set_other (set slots s (q + 1)) t s (p + 1) 0 ne ∙ get_or-set_same slots s (q + 1) 0 (names_within slots s p names)

  -- any other slot has its entry
  pub get_or_rewritten : (i : ℕ) → (i ≡ s → ⊥) → (i ≡ t → ⊥) → get_or (rewritten slots s t p q) i 0 ≡ get_or slots i 0
  get_or_rewritten i ne ne' = get_or-set_other (set slots s (q + 1)) t i (p + 1) 0 ne' ∙ get_or-set_other slots s i (q + 1) 0 ne

-- a well-kept index stays so
pub indexed_swapped : (K : KeyKind) (at at' : ℕ → Option K.Meaning) (slots : List ℕ) → Indexed K at slots → (s t p q : ℕ) → Names slots s p → Names slots t q →
    Swapped at at' p q → Indexed K at' (set (set slots s (q + 1)) t (p + 1))
indexed_swapped K at at' slots ix s t p q names names' swapped =
    indexed_alike K at at' slots (rewritten slots s t p q) (length_rewritten slots s t p q names names') alike ix
  where
    one : (i k : ℕ) → (i ≡ s → ⊥) → Names slots i k → k ≡ p → ⊥
    one i k ne n e = ne (names_once K at slots ix i s p (n ∙ ap (λ a. a + 1) e) names)

    other : (i k : ℕ) → (i ≡ t → ⊥) → Names slots i k → k ≡ q → ⊥
    other i k ne n e = ne (names_once K at slots ix i t q (n ∙ ap (λ a. a + 1) e) names')

    alike : (i : ℕ) → Alike at slots at' (rewritten slots s t p q) i
    alike i = elim (cases_eq i t) [
      | inl e ↦
          inr (q, p, ap (λ a. get_or slots a 0) e ∙ names', ap (λ a. get_or (rewritten slots s t p q) a 0) e ∙ names_last slots s t p q names names', sym swapped.one)
      | inr ne' ↦ elim (cases_eq i s) [
        | inl e ↦
            inr (
              p,
              q,
              ap (λ a. get_or slots a 0) e ∙ names,
              ap (λ a. get_or (rewritten slots s t p q) a 0) e ∙ names_first slots s t p q names names' (λ f. ne' (e ∙ f)),
              sym swapped.other,
            )
        | inr ne ↦
            let kept = get_or_rewritten slots s t p q names names' i ne ne' in
            elim (vacant_or_names slots i) [
              | inl z ↦ inl (z, kept ∙ z)
              | inr (k, n) ↦ inr (k, k, n, kept ∙ n, sym (swapped.rest k (one i k ne n) (other i k ne' n)))
            ]
      ]
    ]
