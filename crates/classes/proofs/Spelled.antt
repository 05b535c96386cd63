-- The word of the crossings that a loop has gone through, one crossing on.
use Rattle.std.proofs.Common.{◌≡◌, ℕ, ◌+◌, ◌<◌, List, length, get_or, take, Some, None, sym, ap, ◌∙◌}
use Rattle.kinds.specs.declared.crossing.Crossing.{Crossing}
use Rattle.kinds.specs.Classes.{product}
use Rattle.kinds.proofs.Products.{product_more}
use Rattle.classes.specs.declared.letters.Letter.{Letter}
use Rattle.classes.specs.Letters.{letter_of}
use Rattle.classes.specs.Reduced.{acts, acts-empty}
use Rattle.classes.specs.Words.{single, word, words}
use Rattle.classes.proofs.Stored.{crossed-single}

module _ (xs : List Crossing) (i : ℕ) (d : Crossing) (w v : List Letter) (p : i < length xs) (h : w ≡ word (take i xs)) where
  more : word (take (i + 1) xs) ≡ (acts (word (take i xs)) (single (letter_of (get_or xs i d)))).0
  more = ap (λ g. g.0) (product_more words xs i d p) ∙ ap (λ x. (acts (word (take i xs)) x).0) (crossed-single (get_or xs i d))

  pub word_letter : (a : Letter) → letter_of (get_or xs i d) ≡ Some a → v ≡ (acts w (single (Some a))).0 → v ≡ word (take (i + 1) xs)
  word_letter a e k = k ∙ (λ j. (acts (h j) (single (sym e j))).0) ∙ sym more

  pub word_none : letter_of (get_or xs i d) ≡ None → v ≡ w → v ≡ word (take (i + 1) xs)
  word_none e k =
      k ∙ h ∙ sym (acts-empty (word (take i xs)) (product words (take i xs)).1) ∙ ap (λ o. (acts (word (take i xs)) (single o)).0) (sym e) ∙ sym more
