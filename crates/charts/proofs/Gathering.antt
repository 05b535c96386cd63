-- The pairs at a point, gathered into a list.
use Rattle.std.proofs.Common.{◌≡◌, ℕ, ◌+◌, ◌<◌, Bool, true, false, cond, List, [], ◌∷◌, ◌++◌, map, length, get_or, take, drop, set, filter, Some, None, Option, Bor, Iter, MatchOption, IfSome, sym, ap, ◌∙◌, subst, arith}
use Rattle.std.specs.Fn.{CalledAt}
use Rattle.std.specs.Iterator.{Yields, FindsItem}
use Rattle.std.specs.List.{FoldsTo}
use Rattle.std.specs.Slice.Iter.{iter_rest}
use Rattle.std.proofs.iter.Yields.{fronts}
use Rattle.std.proofs.lemmas.List.{nil_from_length, drop_more, length-drop, take_more, take_more_set}
use denote.Param.Members.{Mut}
use Rattle.charts.specs.declared.chart.Pair.{Pair}
use Rattle.charts.specs.declared.chart.Priced.{Priced}
use Rattle.charts.specs.Listing.{is_at, priced, priced_at}

-- what `find` leaves of the elements that pass: it gives the first of them, and the others are still to come
abbrev pub Left : {X : Type 0} → (X → Bool) → List X → Option (Bor X) → List X → Type 0
Left test xs r ys = MatchOption r (filter test xs ≡ []) (λ x. filter test xs ≡ x.now ∷ filter test ys)

module _ {X F : Type 0} (g : Mut F (Bor (Bor X) × Unit {0}) Bool) (test : X → Bool) (f : F) (pure : (x : Bor X) (b : Bool) (q : F) → CalledAt g f x b q → (q ≡ f) × (b ≡ test x.now)) where
  left_one : (xs ys : List X) (x : X) (b : Bool) → xs ≡ x ∷ ys → test x ≡ b → filter test xs ≡ cond b (x ∷ filter test ys) (filter test ys)
  left_one xs ys x b e t = ap (filter test) e ∙ ap (λ (c : Bool). cond c (x ∷ filter test ys) (filter test ys)) t

  left_after : (xs : List (Bor X)) (s t u : Iter X) (r : Option (Bor X)) (j : F) → Yields fronts s xs t → fronts t r u → FoldsTo (λ p x q. CalledAt g p x false q) f xs j →
      IfSome r (λ x. (h : F) × CalledAt g j x true h) → Left test (iter_rest s) r (iter_rest u)
  left_after [] s t u None j y p e m = ap (filter test) (nil_from_length (iter_rest s) (subst (λ (i : Iter X). length (iter_rest i) ≡ 0) (sym y) p.0))
  left_after [] s t u (Some x) j y p e (h, called) =
      left_one (iter_rest s) (iter_rest u) x.now true (ap iter_rest y ∙ p) (sym ((pure x true h (subst (λ (q : F). CalledAt g q x true h) (sym e) called)).1))
  left_after (x ∷ xs) s t u r j (k, go, y) p (l, called, e) m =
      let (same, off) = pure x false l called in
      subst (λ (zs : List X). MatchOption r (zs ≡ []) (λ x. zs ≡ x.now ∷ filter test (iter_rest u))) (sym (left_one (iter_rest s) (iter_rest k) x.now false go (sym off)))
      (left_after xs k t u r j y p (subst (λ (q : F). FoldsTo (λ p x q. CalledAt g p x false q) q xs j) same e) m)

  pub left_found : (s u : Iter X) (r : Option (Bor X)) → FindsItem fronts g s f r u → Left test (iter_rest s) r (iter_rest u)
  left_found s u r (xs, j, (t, y, p), e, m) = left_after xs s t u r j y p e m

module _ {C K : Type 0} (p : ℕ) (xs : List (Pair C K)) where
  -- the first n that are at p stand in the list, and the others are among the pairs that are left
  pub record Gathered (n : ℕ) (rest : List (Pair C K)) (to : List (Priced C K)) : Type 0 where
    pub done : take n to ≡ take n (priced_at p xs)
    pub left : priced_at p rest ≡ drop n (priced_at p xs)

  module _ (n : ℕ) (rest rest' : List (Pair C K)) (to : List (Priced C K)) (r : Option (Bor (Pair C K))) (so : Gathered n rest to) (long : length to ≡ length (priced_at p xs)) (l : n < length to)
      (found : Left (is_at p) rest r rest') where
    -- the next is written
    pub gathered_more : (x : Bor (Pair C K)) (to' : List (Priced C K)) → r ≡ Some x → to' ≡ set to n (priced x.now) → Gathered (n + 1) rest' to'
    gathered_more x to' some is = record {
      done =
          ap (take (n + 1)) is ∙ take_more_set to n (priced x.now) l ∙ (λ w. so.done w ++ (both.0 w ∷ []))
          ∙ sym (take_more (priced_at p xs) n (priced x.now) (omega (arith, long)));
      left = both.1;
    }
      where
        next : filter (is_at p) rest ≡ x.now ∷ filter (is_at p) rest'
        next = subst (λ (o : Option (Bor (Pair C K))). Left (is_at p) rest o rest') some found

        both : (priced x.now ≡ get_or (priced_at p xs) n (priced x.now)) × (priced_at p rest' ≡ drop (n + 1) (priced_at p xs))
        both =
            let e : priced x.now ∷ priced_at p rest' ≡ get_or (priced_at p xs) n (priced x.now) ∷ drop (n + 1) (priced_at p xs) =
            sym (ap (map priced) next) ∙ so.left ∙ drop_more (priced_at p xs) n (priced x.now) (omega (arith, long)) in
            (cc, cc)

    -- there is a next
    pub gathered_next : r ≡ None → ⊥
    gathered_next none =
        let no : filter (is_at p) rest ≡ [] = subst (λ (o : Option (Bor (Pair C K))). Left (is_at p) rest o rest') none found in
        omega (arith, long, length-drop n (priced_at p xs), ap length (sym so.left ∙ ap (map priced) no))
