-- What one more letter does at the right end of a reduced list.
use Rattle.std.proofs.Common.{◌≡◌, ◌+◌, ◌-◌, ◌<◌, List, [], ◌∷◌, ◌++◌, length, get_or, take, Some, sym, refl, ap, ◌∙◌, subst, inl, inr, arith}
use Rattle.std.proofs.lemmas.List.{take_all, nil_from_length, take_more}
use Rattle.std.proofs.lemmas.Bool.{cases_lt}
use Rattle.classes.specs.declared.letters.Letter.{Letter}
use Rattle.classes.specs.declared.letters.Letter.TheVariants.{LowerA}
use Rattle.classes.specs.Letters.{turned, turned-turned}
use Rattle.classes.specs.Reduced.{Apart, Reduced, EndsIn, act, acts, empty, push_opposite, word_same, acts_append, acts-empty, acts_apart, reduced_push}
use Rattle.classes.specs.Words.{single}

apart_front : (a : Letter) (v u : List Letter) → Apart a (v ++ u) → Apart a v
apart_front a [] u h = tt
apart_front a (b ∷ v) u h = h

reduced_front : (v u : List Letter) → Reduced (v ++ u) → Reduced v
reduced_front [] u h = tt
reduced_front (a ∷ v) u h = (apart_front a v u h.0, reduced_front v u h.1)

opposite_from : (a b : Letter) → a ≡ turned b → b ≡ turned a
opposite_from a b e = sym (turned-turned b) ∙ ap turned (sym e)

right_cancels : (v : List Letter) (b a : Letter) → Reduced (v ++ (b ∷ [])) → b ≡ turned a → (acts (v ++ (b ∷ [])) (single (Some a))).0 ≡ v
right_cancels v b a h e =
    ap (λ z. z.0) (acts_append v (b ∷ []) (single (Some a)))
    ∙ ap (λ z. (acts v z).0) (word_same (act b (single (Some a))) empty (push_opposite b a [] (opposite_from b a e)))
    ∙ acts-empty v (reduced_front v (b ∷ []) h)

right_more : (v : List Letter) (b a : Letter) → Reduced (v ++ (b ∷ [])) → (b ≡ turned a → ⊥) → (acts (v ++ (b ∷ [])) (single (Some a))).0 ≡ (v ++ (b ∷ [])) ++ (a ∷ [])
right_more v b a h n = acts_apart (v ++ (b ∷ [])) (single (Some a)) (reduced_push v b a h (λ e. n (opposite_from a b e)))

module _ (w : List Letter) (a : Letter) (h : Reduced w) where
  last_apart : 0 < length w → w ≡ take (length w - 1) w ++ (get_or w (length w - 1) LowerA ∷ [])
  last_apart p =
      let e : length w ≡ (length w - 1) + 1 = omega arith in
      sym (take_all (length w) w (omega arith)) ∙ ap (λ m. take m w) e ∙ take_more w (length w - 1) LowerA (omega arith)

  -- it cancels
  pub shortened : EndsIn w (turned a) → take (length w - 1) w ≡ (acts w (single (Some a))).0
  shortened e =
      let s = last_apart e.0 in
      sym (ap (λ v. (acts v (single (Some a))).0) s ∙ right_cancels (take (length w - 1) w) (get_or w (length w - 1) LowerA) a (subst Reduced s h) e.1)

  -- it is put at the end
  pub lengthened : (EndsIn w (turned a) → ⊥) → w ++ (a ∷ []) ≡ (acts w (single (Some a))).0
  lengthened f = elim (cases_lt 0 (length w)) [ inl p ↦ some p | inr q ↦ nothing (nil_from_length w (omega arith)) ]
    where
      some : 0 < length w → w ++ (a ∷ []) ≡ (acts w (single (Some a))).0
      some p =
          let s = last_apart p in
          sym (ap (λ v. (acts v (single (Some a))).0) s ∙ right_more (take (length w - 1) w) (get_or w (length w - 1) LowerA) a (subst Reduced s h) (λ e. f (p, e)) ∙ ap (λ v. v ++ (a ∷ [])) (sym s))

      nothing : w ≡ [] → w ++ (a ∷ []) ≡ (acts w (single (Some a))).0
      nothing e = subst (λ v. v ++ (a ∷ []) ≡ (acts v (single (Some a))).0) (sym e) refl
