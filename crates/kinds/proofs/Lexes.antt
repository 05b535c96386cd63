-- What comparing slices answers, in terms of the order of lists.
use Rattle.std.proofs.Common.{◌≡◌, List, [], ◌∷◌, Ordering, refl, ◌∙◌}
use Rattle.std.specs.Ordering.{ordering_then}
use Rattle.std.specs.Cmp.Lexicographic.{slice_cmp}
use Rattle.kinds.specs.Orders.{Ordered}
use Rattle.kinds.specs.Comparisons.{by_list}

slice_cmp-by_list : {X : Type 0} (o : Ordered X) (R : X → X → Ordering) → ((x y : X) → R x y ≡ o.cmp x y) → (xs ys : List X) → slice_cmp R xs ys ≡ by_list o xs ys
slice_cmp-by_list o R f [] [] = refl
slice_cmp-by_list o R f [] (y ∷ ys) = refl
slice_cmp-by_list o R f (x ∷ xs) [] = refl
slice_cmp-by_list o R f (x ∷ xs) (y ∷ ys) = λ i. ordering_then (f x y i) (slice_cmp-by_list o R f xs ys i)

-- a comparison place by place answers as the order of lists does
pub list_from_lex : {X : Type 0} (o : Ordered X) (R : X → X → Ordering) → ((x y : X) → R x y ≡ o.cmp x y) →
    (xs ys : List X) (r : Ordering) → r ≡ slice_cmp R xs ys → r ≡ by_list o xs ys
list_from_lex o R f xs ys r h = h ∙ slice_cmp-by_list o R f xs ys
