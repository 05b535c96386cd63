-- Slots that name each of the first n places.
use Rattle.std.proofs.Common.{◌≡◌, ℕ, ◌+◌, ◌<◌, List, get_or, set, Some, Ok, Option, sym, ap, ◌∙◌, inl, inr, arith}
use Rattle.std.proofs.lemmas.Bool.{cases_eq}
use Rattle.tables.specs.Indexes.{Names, Absent, Covers, Inserts}
use Rattle.tables.proofs.Entering.{inserts_names, inserts_keeps_names}
use Rattle.tables.proofs.Swapping.{names_first, names_last, get_or_rewritten}

pub covers_none : (slots : List ℕ) → Covers slots 0
covers_none slots k lt = absurd (omega arith)

-- the next place is inserted
pub covers_inserts : (h n : ℕ) (from to : List ℕ) (i : ℕ) → Inserts h n from to (Ok i) → Covers from n → Covers to (n + 1)
covers_inserts h n from to i inserts covers k lt =
    elim (cases_eq k n) [
      | inl e ↦ (i, inserts_names h n from to i inserts ∙ ap (λ a. a + 1) (sym e))
      | inr ne ↦ let (q, names) = covers k (omega arith) in (q, inserts_keeps_names h n from to i inserts q k names)
    ]

-- two slots exchange the places that they name
pub covers_swapped : (slots : List ℕ) (s t p q n : ℕ) → Names slots s p → Names slots t q → Covers slots n → Covers (set (set slots s (q + 1)) t (p + 1)) n
covers_swapped slots s t p q n names names' covers k lt =
    elim (cases_eq k p) [
      | inl e ↦ (t, names_last slots s t p q names names' ∙ ap (λ a. a + 1) (sym e))
      | inr np ↦ elim (cases_eq k q) [
        | inl e ↦ (
          s,
          names_first slots s t p q names names' (λ f. np (e ∙ same f))
              ∙ ap (λ a. a + 1) (sym e),
        )
        | inr nq ↦
            let (i, n') = covers k lt in (
              i,
              get_or_rewritten slots s t p q names names' i (λ f. np (apart i s p f n' names)) (λ f. nq (apart i t q f n' names')) ∙ n',
            )
      ]
    ]
  where
    same : s ≡ t → q ≡ p
    same f = let e : q + 1 ≡ p + 1 = sym names' ∙ ap (λ a. get_or slots a 0) (sym f) ∙ names in omega arith

    apart : (i j r : ℕ) → i ≡ j → Names slots i k → Names slots j r → k ≡ r
    apart i j r f a b = let e : k + 1 ≡ r + 1 = sym a ∙ ap (λ x. get_or slots x 0) f ∙ b in omega arith

-- so a key that no slot has, no place has
pub absent_covered : {M : Type 0} (at : ℕ → Option M) (slots : List ℕ) (m : M) (n : ℕ) → Covers slots n → Absent at slots m → (k : ℕ) → k < n → at k ≡ Some m → ⊥
absent_covered at slots m n covers absent k lt has = let (i, names) = covers k lt in absent i (k, names, has)
