-- Strikes keep the product in every class kind, and every list of crossings is joined to its word written out.
use Rattle.std.proofs.Common.{◌≡◌, Bool, true, false, cond, List, [], ◌∷◌, map, sym, refl, ap, ◌∙◌, subst}
use Rattle.kinds.specs.declared.crossing.Ray.{Ray}
use Rattle.kinds.specs.declared.crossing.Ray.TheVariants.{One, Two, Three, Four, Five, Six, Seven}
use Rattle.kinds.specs.declared.crossing.Crossing.{Crossing}
use Rattle.kinds.specs.declared.crossing.Crossing.TheVariants as cross
use Rattle.kinds.specs.Crossings.{other_way}
use Rattle.kinds.specs.Classes.{ClassKind, crossed, product}
use Rattle.kinds.proofs.Products.{opposite_cancels}
use Rattle.classes.specs.declared.letters.Letter.{Letter}
use Rattle.classes.specs.declared.letters.Letter.TheVariants.{LowerA, UpperA, LowerB, UpperB, LowerC, UpperC, LowerD, UpperD, LowerE, UpperE, LowerF, UpperF, LowerG, UpperG}
use Rattle.classes.specs.Letters.{turned, alike, forwards_of, crossing_of, same_from_alike}
use Rattle.classes.specs.Reduced.{Word, push}
use Rattle.classes.specs.Words.{words, times, word}
use Rattle.classes.specs.Strikes.{Strike, none, pair, later, Joined, done, strike, insert, Names}

module _ (G : ClassKind) where
  pub product_strike : {xs ys : List Crossing} → Strike xs ys → product G xs ≡ product G ys
  product_strike (none {xs}) = G.left (product G xs)
  product_strike (pair x {xs}) = opposite_cancels G x (product G xs)
  product_strike (later x s) = ap (G.mul (crossed G x)) (product_strike s)

  pub product_joined : {xs ys : List Crossing} → Joined xs ys → product G xs ≡ product G ys
  product_joined done = refl
  product_joined (strike s j) = product_strike s ∙ product_joined j
  product_joined (insert s j) = sym (product_strike s) ∙ product_joined j

pub joined_trans : {xs ys zs : List Crossing} → Joined xs ys → Joined ys zs → Joined xs zs
joined_trans done k = k
joined_trans (strike s j) k = strike s (joined_trans j k)
joined_trans (insert s j) k = insert s (joined_trans j k)

pub joined_sym : {xs ys : List Crossing} → Joined xs ys → Joined ys xs
joined_sym done = done
joined_sym (strike s j) = joined_trans (joined_sym j) (insert s done)
joined_sym (insert s j) = joined_trans (joined_sym j) (strike s done)

joined_later : (x : Crossing) {xs ys : List Crossing} → Joined xs ys → Joined (x ∷ xs) (x ∷ ys)
joined_later x done = done
joined_later x (strike s j) = strike (later x s) (joined_later x j)
joined_later x (insert s j) = insert (later x s) (joined_later x j)

crossing_turned : (a : Letter) → other_way (crossing_of a) ≡ crossing_of (turned a)
crossing_turned LowerA = refl
crossing_turned UpperA = refl
crossing_turned LowerB = refl
crossing_turned UpperB = refl
crossing_turned LowerC = refl
crossing_turned UpperC = refl
crossing_turned LowerD = refl
crossing_turned UpperD = refl
crossing_turned LowerE = refl
crossing_turned UpperE = refl
crossing_turned LowerF = refl
crossing_turned UpperF = refl
crossing_turned LowerG = refl
crossing_turned UpperG = refl

crossing_forwards : (r : Ray) → crossing_of (forwards_of r) ≡ cross.Forwards r
crossing_forwards One = refl
crossing_forwards Two = refl
crossing_forwards Three = refl
crossing_forwards Four = refl
crossing_forwards Five = refl
crossing_forwards Six = refl
crossing_forwards Seven = refl

-- the crossings of a list of letters
abbrev spelled : List Letter → List Crossing
spelled w = map crossing_of w

-- a letter's crossing before the crossings of a list is joined to those of the reduced list
joined_push : (a : Letter) (w : List Letter) → Joined (crossing_of a ∷ spelled w) (spelled (push a w))
joined_push a [] = done
joined_push a (b ∷ w) = go (alike b (turned a)) refl
  where
    go : (k : Bool) → alike b (turned a) ≡ k → Joined (crossing_of a ∷ (crossing_of b ∷ spelled w)) (spelled (cond k w (a ∷ (b ∷ w))))
    go false e = done
    go true e =
        subst (λ x. Joined (crossing_of a ∷ (x ∷ spelled w)) (spelled w)) (crossing_turned a ∙ ap crossing_of (sym (same_from_alike b (turned a) e)))
        (strike (pair (crossing_of a)) done)

joined_crossed : (x : Crossing) (y : Word) → Joined (x ∷ spelled y.0) (spelled (times (crossed words x) y).0)
joined_crossed cross.None y = strike none done
joined_crossed (cross.Forwards r) y =
    subst (λ x. Joined (x ∷ spelled y.0) (spelled (push (forwards_of r) y.0))) (crossing_forwards r) (joined_push (forwards_of r) y.0)
joined_crossed (cross.Backwards r) y =
    subst (λ x. Joined (x ∷ spelled y.0) (spelled (push (turned (forwards_of r)) y.0))) (sym (crossing_turned (forwards_of r)) ∙ ap other_way (crossing_forwards r))
    (joined_push (turned (forwards_of r)) y.0)

pub joined_word : (xs : List Crossing) → Joined xs (spelled (word xs))
joined_word [] = done
joined_word (x ∷ xs) = joined_trans (joined_later x (joined_word xs)) (joined_crossed x (product words xs))

-- lists have one word exactly if they are joined
pub joined_from_word : (xs ys : List Crossing) → word xs ≡ word ys → Joined xs ys
joined_from_word xs ys e = joined_trans (subst (λ w. Joined xs (spelled w)) e (joined_word xs)) (joined_sym (joined_word ys))

pub word_from_joined : (xs ys : List Crossing) → Joined xs ys → word xs ≡ word ys
word_from_joined xs ys j = ap (λ g. g.0) (product_joined words j)

pub names_word : (xs : List Crossing) (w : List Letter) → w ≡ word xs → Names xs w
names_word xs w e = record {
  is = e;
  joins = λ ys. ((λ k. joined_from_word xs ys (sym e ∙ k)), (λ j. e ∙ word_from_joined xs ys j));
}
