-- What stands at a place of a list.
use Rattle.std.proofs.Common.{◌≡◌, ℕ, zero, suc, ◌<◌, ◌≢◌, List, [], ◌∷◌, length, get_or, take, set, sym, refl, ◌∙◌, arith, get_or-set_other, get_or-take, get_or-set_same}
use Rattle.std.proofs.lemmas.List.{get_or_read}
use Rattle.charts.specs.Charts.{Stands}

-- nothing is below none
pub none_below : (i : ℕ) → i < 0 → ⊥
none_below i h = omega arith

module _ {X : Type 0} where
  -- as the read of an element gives it
  pub stands_read : (xs : List X) (i : ℕ) (x : X) → i < length xs → x ≡ get_or xs i x → Stands xs i x
  stands_read xs i x h e d = sym (get_or_read xs i x h e d)

  pub stands_some : (xs : List X) (i : ℕ) → i < length xs → (x : X) × Stands xs i x
  stands_some [] i h = absurd (none_below i h)
  stands_some (x ∷ xs) zero h = (x, λ d. refl)
  stands_some (x ∷ xs) (suc i) h = stands_some xs i (omega arith)

  pub stands_unique : (xs : List X) (i : ℕ) (x y : X) → Stands xs i x → Stands xs i y → x ≡ y
  stands_unique xs i x y a b = sym (a x) ∙ b x

  pub stands_set_same : (xs : List X) (i : ℕ) (v : X) → i < length xs → Stands (set xs i v) i v
  stands_set_same xs i v h d = get_or-set_same xs i v d h

  pub stands_set_other : (xs : List X) (i j : ℕ) (v x : X) → j ≢ i → Stands xs j x → Stands (set xs i v) j x
  stands_set_other xs i j v x ne a d = get_or-set_other xs i j v d ne ∙ a d

  pub stands_unset : (xs : List X) (i j : ℕ) (v x : X) → j ≢ i → Stands (set xs i v) j x → Stands xs j x
  stands_unset xs i j v x ne a d = sym (get_or-set_other xs i j v d ne) ∙ a d

  pub stands_take : (xs : List X) (n i : ℕ) (x : X) → i < n → Stands xs i x → Stands (take n xs) i x
  stands_take xs n i x h a d = get_or-take n xs i d h ∙ a d

  pub stands_untake : (xs : List X) (n i : ℕ) (x : X) → i < n → Stands (take n xs) i x → Stands xs i x
  stands_untake xs n i x h a d = sym (get_or-take n xs i d h) ∙ a d
