-- Products of crossings, in any class kind.
use Rattle.std.proofs.Common.{◌≡◌, ℕ, ◌+◌, ◌<◌, List, [], ◌∷◌, ◌++◌, length, get_or, take, sym, ap, ◌∙◌}
use Rattle.std.proofs.lemmas.List.{take_more}
use Rattle.kinds.specs.declared.crossing.Crossing.{Crossing}
use Rattle.kinds.specs.declared.crossing.Crossing.TheVariants as cross
use Rattle.kinds.specs.Crossings.{other_way}
use Rattle.kinds.specs.Classes.{ClassKind, crossed, product}

module _ (G : ClassKind) where
  -- one more crossing at the end
  pub product-push : (xs : List Crossing) (x : Crossing) → product G (xs ++ (x ∷ [])) ≡ G.mul (product G xs) (crossed G x)
  product-push [] x = G.right (crossed G x) ∙ sym (G.left (crossed G x))
  product-push (y ∷ xs) x = ap (G.mul (crossed G y)) (product-push xs x) ∙ sym (G.assoc (crossed G y) (product G xs) (crossed G x))

  -- one more crossing of those that a loop goes through
  pub product_more : (xs : List Crossing) (i : ℕ) (d : Crossing) → i < length xs → product G (take (i + 1) xs) ≡ G.mul (product G (take i xs)) (crossed G (get_or xs i d))
  product_more xs i d p = ap (product G) (take_more xs i d p) ∙ product-push (take i xs) (get_or xs i d)

  -- a crossing and its opposite change nothing
  pub opposite_cancels : (x : Crossing) (g : G.Element) → G.mul (crossed G x) (G.mul (crossed G (other_way x)) g) ≡ g
  opposite_cancels cross.None g = G.left (G.mul G.unit g) ∙ G.left g
  opposite_cancels (cross.Forwards r) g = sym (G.assoc (G.ray r) (G.inv (G.ray r)) g) ∙ ap (λ h. G.mul h g) (G.inv_right (G.ray r)) ∙ G.left g
  opposite_cancels (cross.Backwards r) g = sym (G.assoc (G.inv (G.ray r)) (G.ray r) g) ∙ ap (λ h. G.mul h g) (G.inv_left (G.ray r)) ∙ G.left g
