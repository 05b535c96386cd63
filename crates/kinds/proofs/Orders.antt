-- What a total order gives: `Under` is reflexive, transitive, total and antisymmetric.
use Rattle.std.proofs.Common.{◌≡◌, ℕ, ◌⊎◌, Ordering, Less, Equal, Greater, sym, refl, ap, ◌∙◌, subst, inl, inr, arith}
use Rattle.std.specs.Ordering.{ordering_reverse}
use Rattle.kinds.specs.Orders.{Ordered, Under}

-- what `cmp` answers, with the equation
pub answers : (a : Ordering) → (a ≡ Less) ⊎ (a ≡ Equal) ⊎ (a ≡ Greater)
answers Less = inl refl
answers Equal = inr (inl refl)
answers Greater = inr (inr refl)

module _ {X : Type 0} (o : Ordered X) where
  pub under_refl : (x : X) → Under o x x
  under_refl x = inr (o.itself x)

  pub under_of_eq : (x y : X) → x ≡ y → Under o x y
  under_of_eq x y e = subst (λ (z : X). Under o x z) e (inr (o.itself x))

  pub less_of_greater : (x y : X) → o.cmp x y ≡ Greater → o.cmp y x ≡ Less
  less_of_greater x y e = o.flip y x ∙ ap ordering_reverse e

  pub greater_of_less : (x y : X) → o.cmp x y ≡ Less → o.cmp y x ≡ Greater
  greater_of_less x y e = o.flip y x ∙ ap ordering_reverse e

  -- below or the same, or above
  pub under_or_above : (x y : X) → Under o x y ⊎ (o.cmp y x ≡ Less)
  under_or_above x y =
      elim (answers (o.cmp x y)) [
        | inl e ↦ inl (inl e)
        | inr (inl e) ↦ inl (inr e)
        | inr (inr e) ↦ inr (less_of_greater x y e)
      ]

  pub under_total : (x y : X) → Under o x y ⊎ Under o y x
  under_total x y = elim (under_or_above x y) [ inl h ↦ inl h | inr h ↦ inr (inl h) ]

  pub under_trans : (x y z : X) → Under o x y → Under o y z → Under o x z
  under_trans x y z (inl a) (inl b) = inl (o.trans x y z a b)
  under_trans x y z (inl a) (inr b) = subst (λ (w : X). Under o x w) (o.same y z b) (inl a)
  under_trans x y z (inr a) h = subst (λ (w : X). Under o w z) (sym (o.same x y a)) h

  -- above is not below or the same
  pub less_not_under : (x y : X) → o.cmp x y ≡ Less → Under o y x → ⊥
  less_not_under x y a (inl b) = let z : ◌≡◌ {A = ℕ} 0 1 = cc (greater_of_less x y a) in omega arith
  less_not_under x y a (inr b) = let z : ◌≡◌ {A = ℕ} 0 1 = cc (greater_of_less x y a) in omega arith

  pub under_antisym : (x y : X) → Under o x y → Under o y x → x ≡ y
  under_antisym x y (inl a) h = absurd (less_not_under x y a h)
  under_antisym x y (inr a) h = o.same x y a

  pub under_of_not_less : (x y : X) → (o.cmp x y ≡ Less → ⊥) → Under o y x
  under_of_not_less x y h = elim (under_or_above y x) [ inl u ↦ u | inr b ↦ absurd (h b) ]

  pub under_of_not_greater : (x y : X) → (o.cmp x y ≡ Greater → ⊥) → Under o x y
  under_of_not_greater x y h = elim (under_or_above x y) [ inl u ↦ u | inr b ↦ absurd (h (greater_of_less y x b)) ]

  pub not_under_of_greater : (x y : X) → o.cmp x y ≡ Greater → Under o x y → ⊥
  not_under_of_greater x y e = less_not_under y x (less_of_greater x y e)

  pub less_of_not_under : (x y : X) → (Under o x y → ⊥) → o.cmp y x ≡ Less
  less_of_not_under x y h = elim (under_or_above x y) [ inl u ↦ absurd (h u) | inr b ↦ b ]

  -- `cmp` decides equality
  pub same_or_not : (x y : X) → (x ≡ y) ⊎ (x ≡ y → ⊥)
  same_or_not x y =
      elim (answers (o.cmp x y)) [
        | inl e ↦ inr (λ s. less_not_under x y e (under_of_eq y x (sym s)))
        | inr (inl e) ↦ inl (o.same x y e)
        | inr (inr e) ↦ inr (λ s. less_not_under y x (less_of_greater x y e) (under_of_eq x y s))
      ]
