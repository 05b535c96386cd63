-- The order in which open pairs are taken up: by bound, then by cost. It is reflexive, transitive and total.
use Rattle.std.proofs.Common.{◌≡◌, ℕ, ◌⊎◌, Option, Ordering, Less, Equal, Greater, sym, refl, ap, ◌∙◌, subst, inl, inr, true≢false}
use Rattle.kinds.specs.Orders.{Under}
use Rattle.kinds.specs.Maps.{Site}
use Rattle.kinds.specs.Costs.{CostKind}
use Rattle.kinds.specs.Reaches.{tail}
use Rattle.std.specs.Ordering.{is_gt, ordering_then}
use Rattle.tables.specs.Orders.{AtMost}
use Rattle.steps.specs.declared.open.Open.{Open}
use Rattle.steps.specs.Opens.{by_bound}
use Rattle.charting.specs.Searching.{NoLater}
use Rattle.kinds.proofs.Orders.{answers, under_refl, under_trans, under_total, less_of_greater, under_of_not_greater}

module _ {K : Type 0} (m : Site) (k : CostKind K) (aim : Option ℕ) where
  pub no_later_refl : (p : ℕ) (c : K) → NoLater m k aim p c p c
  no_later_refl p c = inr (refl, under_refl k.order c)

  pub no_later_trans : (p q r : ℕ) (c d e : K) → NoLater m k aim p c q d → NoLater m k aim q d r e → NoLater m k aim p c r e
  no_later_trans p q r c d e (inl a) (inl b) = inl (k.order.trans _ _ _ a b)
  no_later_trans p q r c d e (inl a) (inr b) = inl (subst (λ (x : K). k.order.cmp (k.plus c (tail m k aim p)) x ≡ Less) b.0 a)
  no_later_trans p q r c d e (inr a) (inl b) = inl (subst (λ (x : K). k.order.cmp x (k.plus e (tail m k aim r)) ≡ Less) (sym a.0) b)
  no_later_trans p q r c d e (inr a) (inr b) = inr (a.0 ∙ b.0, under_trans k.order _ _ _ a.1 b.1)

  pub no_later_total : (p q : ℕ) (c d : K) → NoLater m k aim p c q d ⊎ NoLater m k aim q d p c
  no_later_total p q c d =
      elim (answers (k.order.cmp (k.plus c (tail m k aim p)) (k.plus d (tail m k aim q)))) [
        | inl e ↦ inl (inl e)
        | inr (inl e) ↦
            elim (under_total k.order c d) [
              | inl u ↦ inl (inr (k.order.same _ _ e, u))
              | inr u ↦ inr (inr (sym (k.order.same _ _ e), u))
            ]
        | inr (inr e) ↦ inr (inl (less_of_greater k.order _ _ e))
      ]

  -- as code compares: the bounds a and b first, then the costs c and d
  module _ (p q : ℕ) (c d a b : K) (ea : a ≡ k.plus c (tail m k aim p)) (eb : b ≡ k.plus d (tail m k aim q)) where
    pub no_later_less : k.order.cmp a b ≡ Less → NoLater m k aim p c q d
    no_later_less e = inl (subst (λ (x : K). k.order.cmp x (k.plus d (tail m k aim q)) ≡ Less) ea (subst (λ (x : K). k.order.cmp a x ≡ Less) eb e))

    pub no_later_greater : k.order.cmp a b ≡ Greater → NoLater m k aim q d p c
    no_later_greater e =
        inl
        (less_of_greater k.order _ _
        (subst (λ (x : K). k.order.cmp x (k.plus d (tail m k aim q)) ≡ Greater) ea (subst (λ (x : K). k.order.cmp a x ≡ Greater) eb e)))

    pub no_later_equal : k.order.cmp a b ≡ Equal → (k.order.cmp c d ≡ Greater → ⊥) → NoLater m k aim p c q d
    no_later_equal e ne = inr (sym ea ∙ k.order.same a b e ∙ eb, under_of_not_greater k.order c d ne)

    pub no_later_equal_greater : k.order.cmp a b ≡ Equal → k.order.cmp c d ≡ Greater → NoLater m k aim q d p c
    no_later_equal_greater e gt = inr (sym (sym ea ∙ k.order.same a b e ∙ eb), inl (less_of_greater k.order c d gt))

  -- as records compare: a record that is not greater than another comes no later
  pub no_later_from_at_most : (p q : ℕ) (x w : Open K) → x.bound ≡ k.plus x.cost (tail m k aim p) → w.bound ≡ k.plus w.cost (tail m k aim q) →
      AtMost (by_bound k) x w → NoLater m k aim p x.cost q w.cost
  no_later_from_at_most p q x w ex ew le =
      elim (answers (k.order.cmp x.bound w.bound)) [
        | inl e ↦ no_later_less p q x.cost w.cost x.bound w.bound ex ew e
        | inr (inl e) ↦ no_later_equal p q x.cost w.cost x.bound w.bound ex ew e
            (λ gt. true≢false (sym (ap (λ (r : Ordering). is_gt (ordering_then r (k.order.cmp x.cost w.cost))) e ∙ ap is_gt gt) ∙ le))
        | inr (inr e) ↦ absurd (true≢false (sym (ap (λ (r : Ordering). is_gt (ordering_then r (k.order.cmp x.cost w.cost))) e) ∙ le))
      ]

  -- a cheaper pair's record is not greater than the old one
  pub at_most_from_cheaper : (p : ℕ) (x w : Open K) → x.bound ≡ k.plus x.cost (tail m k aim p) → w.bound ≡ k.plus w.cost (tail m k aim p) →
      k.order.cmp x.cost w.cost ≡ Less → AtMost (by_bound k) x w
  at_most_from_cheaper p x w ex ew less =
      elim (bounds (inl less)) [
        | inl e ↦ ap (λ (r : Ordering). is_gt (ordering_then r (k.order.cmp x.cost w.cost))) e
        | inr e ↦ ap (λ (r : Ordering). is_gt (ordering_then r (k.order.cmp x.cost w.cost))) e ∙ ap is_gt less
      ]
    where
      bounds : Under k.order x.cost w.cost → Under k.order x.bound w.bound
      bounds u =
          subst (λ (a : K). Under k.order a w.bound) (sym ex)
          (subst (λ (a : K). Under k.order (k.plus x.cost (tail m k aim p)) a) (sym ew) (k.mono_left x.cost w.cost (tail m k aim p) u))
