-- The first thing wrong with a whole command has one number only.
use Rattle.std.proofs.Common.{◌≡◌, ℕ, ◌⊎◌, sym, ◌∙◌, inl, inr}

-- one of four facts fails, and the earlier ones hold
abbrev pub Judged : Type 0 → Type 0 → Type 0 → Type 0 → ℕ → Type 0
Judged R F E M n = ((R → ⊥) × (n ≡ 6)) ⊎ ((R × (F → ⊥) × (n ≡ 7)) ⊎ ((R × F × (E → ⊥) × (n ≡ 8)) ⊎ (R × F × E × (M → ⊥) × (n ≡ 9))))

-- where all four facts hold, none fails
pub none_judged : {R F E M : Type 0} {n : ℕ} → R → F → E → M → Judged R F E M n → ⊥
none_judged r f e m (inl a) = a.0 r
none_judged r f e m (inr (inl a)) = a.1 f
none_judged r f e m (inr (inr (inl a))) = a.2 e
none_judged r f e m (inr (inr (inr a))) = a.3 m

pub same_judged : {R F E M : Type 0} {n k : ℕ} → Judged R F E M n → Judged R F E M k → n ≡ k
same_judged (inl a) (inl b) = a.1 ∙ sym b.1
same_judged (inl a) (inr (inl b)) = absurd (a.0 b.0)
same_judged (inl a) (inr (inr (inl b))) = absurd (a.0 b.0)
same_judged (inl a) (inr (inr (inr b))) = absurd (a.0 b.0)
same_judged (inr (inl a)) (inl b) = absurd (b.0 a.0)
same_judged (inr (inl a)) (inr (inl b)) = a.2 ∙ sym b.2
same_judged (inr (inl a)) (inr (inr (inl b))) = absurd (a.1 b.1)
same_judged (inr (inl a)) (inr (inr (inr b))) = absurd (a.1 b.1)
same_judged (inr (inr (inl a))) (inl b) = absurd (b.0 a.0)
same_judged (inr (inr (inl a))) (inr (inl b)) = absurd (b.1 a.1)
same_judged (inr (inr (inl a))) (inr (inr (inl b))) = a.3 ∙ sym b.3
same_judged (inr (inr (inl a))) (inr (inr (inr b))) = absurd (a.2 b.2)
same_judged (inr (inr (inr a))) (inl b) = absurd (b.0 a.0)
same_judged (inr (inr (inr a))) (inr (inl b)) = absurd (b.1 a.1)
same_judged (inr (inr (inr a))) (inr (inr (inl b))) = absurd (b.2 a.2)
same_judged (inr (inr (inr a))) (inr (inr (inr b))) = a.4 ∙ sym b.4
