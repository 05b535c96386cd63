-- The test of a pair, and the places that a search has passed.
use Rattle.std.proofs.Common.{◌≡◌, ℕ, ◌<◌, ◌≤◌, true, eqb, List, length, Some, None, Option, sym, ap, ◌∙◌, inl, inr, arith}
use Rattle.std.specs.Ordering.{is_eq}
use Rattle.std.specs.Cmp.{Equal-is}
use Rattle.std.specs.List.{position, position_or_len}
use Rattle.std.proofs.lemmas.Bool.{cases_order, cases_Bool, eqb-true, eq-eqb, false≢true}
use Rattle.std.proofs.lemmas.List.Quantifiers.{position-Some}
use Rattle.std.proofs.lemmas.List.Sums.{fails_before_first}
use Rattle.kinds.specs.declared.class.Class.{Ghosts as Classes}
use Rattle.charts.specs.declared.chart.Pair.{Pair}
use Rattle.charts.specs.Finding.{IsPair, is_pair, matches, Nowhere, FirstAt, Finds}
use Rattle.charts.proofs.Stands.{stands_some}

module _ {C K : Type 0} (b : Classes C) (p : ℕ) (g : b.kind.Element) where
  -- the test passes only the pair
  pub pair_passes : (x : Pair C K) → is_pair b p g x ≡ true → IsPair b p g x
  pair_passes x e = elim (cases_Bool (eqb x.point p)) [
    | inl t ↦ (eqb-true x.point p t, b.kind.order.same (b.element x.class) g ((Equal-is (b.kind.order.cmp (b.element x.class) g)).0 (simp t at e)))
    | inr t ↦ absurd (false≢true (simp t at e))
  ]

  -- and passes it whenever it comes
  pub passes_pair : (x : Pair C K) → IsPair b p g x → is_pair b p g x ≡ true
  passes_pair x (e, f) =
      let t : eqb x.point p ≡ true = eq-eqb x.point p e in
      simp t (ap (λ (h : b.kind.Element). is_eq (b.kind.order.cmp h g)) f ∙ ap is_eq (b.kind.order.itself g))

module _ {C K : Type 0} (b : Classes C) (p : ℕ) (c : C) where
  -- what `position` gives is the first place that passes
  pub finds_position : (xs : List (Pair C K)) (o : Option ℕ) → o ≡ position (matches b p c) xs → Finds b xs p c o
  finds_position xs None e = λ j x l at m. false≢true (sym (fails_before_first (matches b p c) xs j x (omega (arith, past))) ∙ ap (matches b p c) (at x) ∙ passes_pair b p (b.element c) x m)
    where
      past : length xs ≤ position_or_len (matches b p c) xs
      past = grind arith
  finds_position xs (Some i) e = record {
    below = below xs i e;
    holds = λ x at. pair_passes b p (b.element c) x (ap (matches b p c) (sym (at x)) ∙ (position-Some (matches b p c) xs i x (sym e)).1);
    first = λ j x l at m.
        false≢true (sym ((position-Some (matches b p c) xs i x (sym e)).2 j l) ∙ ap (matches b p c) (at x) ∙ passes_pair b p (b.element c) x m);
  }
    where
      below : (xs : List (Pair C K)) (i : ℕ) → Some i ≡ position (matches b p c) xs → i < length xs
      below xs i e = grind arith

  -- a pair that stands nowhere has no first place
  pub nowhere_first : (xs : List (Pair C K)) (i : ℕ) → Nowhere b xs p c → FirstAt b xs p c i → ⊥
  nowhere_first xs i none f = let (x, at) = stands_some xs i f.below in none i x f.below at (f.holds x at)

  -- a pair has one first place
  pub first_once : (xs : List (Pair C K)) (i j : ℕ) → FirstAt b xs p c i → FirstAt b xs p c j → i ≡ j
  first_once xs i j f h = elim (cases_order i j) [
    | inl e ↦ e
    | inr (inl lt) ↦ let (x, at) = stands_some xs i f.below in absurd (h.first i x lt at (f.holds x at))
    | inr (inr gt) ↦ let (x, at) = stands_some xs j h.below in absurd (f.first j x gt at (h.holds x at))
  ]
