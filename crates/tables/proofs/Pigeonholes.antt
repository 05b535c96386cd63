-- More numbers than there are below n cannot all be below n and apart.
use Rattle.std.proofs.Common.{◌≡◌, ℕ, zero, suc, ◌<◌, ◌≤◌, cond, eqb, ◌⊎◌, sym, ◌∙◌, inl, inr, suc-le-suc, zero-le, arith}
use Rattle.std.proofs.lemmas.Bool.{cases_Bool, eqb-true, eqb-false, cond-true, cond-false}

pub pigeonhole : (m n : ℕ) (f : ℕ → ℕ) → ((i : ℕ) → i < m → f i < n) → ((i j : ℕ) → i < m → j < m → f i ≡ f j → i ≡ j) → m ≤ n
pigeonhole zero n f below apart = zero-le
pigeonhole (suc m) zero f below apart = absurd (omega (arith, below m (omega arith)))
pigeonhole (suc m) (suc n) f below apart = suc-le-suc (pigeonhole m n g below' apart')
  where
    -- whoever has the greatest number takes that of the last
    g : ℕ → ℕ
    g i = cond (eqb (f i) n) (f m) (f i)

    g_is : (i : ℕ) → ((f i ≡ n) × (g i ≡ f m)) ⊎ ((f i ≡ n → ⊥) × (g i ≡ f i))
    g_is i = elim (cases_Bool (eqb (f i) n)) [
      | inl e ↦ inl (eqb-true (f i) n e, cond-true (eqb (f i) n) (f m) (f i) e)
      | inr e ↦ inr (eqb-false (f i) n e, cond-false (eqb (f i) n) (f m) (f i) e)
    ]

    last : (i : ℕ) → i < m → f i ≡ f m → ⊥
    last i lt e = omega (arith, apart i m (omega arith) (omega arith) e)

    below' : (i : ℕ) → i < m → g i < n
    below' i lt = elim (g_is i) [
      | inl (e, is) ↦
          let ne : f m ≡ n → ⊥ = λ h. last i lt (e ∙ sym h) in
          omega (arith, below m (omega arith), is)
      | inr (ne, is) ↦ omega (arith, below i (omega arith), is)
    ]

    apart' : (i j : ℕ) → i < m → j < m → g i ≡ g j → i ≡ j
    apart' i j lt lt' e = elim (g_is i) [
      | inl (a, is) ↦ elim (g_is j) [
        | inl (b, is') ↦ apart i j (omega arith) (omega arith) (a ∙ sym b)
        | inr (b, is') ↦ absurd (last j lt' (sym is' ∙ sym e ∙ is))
      ]
      | inr (a, is) ↦ elim (g_is j) [
        | inl (b, is') ↦ absurd (last i lt (sym is ∙ e ∙ is'))
        | inr (b, is') ↦ apart i j (omega arith) (omega arith) (sym is ∙ e ∙ is')
      ]
    ]
