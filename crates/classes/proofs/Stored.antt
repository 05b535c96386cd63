-- What one more crossing does to a stored word.
use Rattle.std.proofs.Common.{◌≡◌, ℕ, ◌+◌, ◌-◌, ◌<◌, ◌≤◌, List, length, take, set, Some, None, Option, sym, refl, ap, ◌∙◌, subst, arith, MatchOption}
use Rattle.std.proofs.lemmas.List.{take-take, take_more_set, length-take-le, length_push}
use Rattle.kinds.specs.declared.crossing.Crossing.{Crossing}
use Rattle.kinds.specs.declared.crossing.Crossing.TheVariants as cross
use Rattle.kinds.specs.Classes.{crossed}
use Rattle.classes.specs.declared.letters.Letter.{Letter}
use Rattle.classes.specs.declared.words.Word.{Word as Stored}
use Rattle.classes.specs.Letters.{turned, letter_of}
use Rattle.classes.specs.Reduced.{Reduced, EndsIn, acts, known, word_same, acts-empty}
use Rattle.classes.specs.Words.{longest, Held, single, times, words}
use Rattle.classes.proofs.Ends.{shortened, lengthened}

module _ (s : Stored) (a : Letter) where
  abbrev spelt : List Letter
  spelt = take s.len s.letters

  fits : s.len ≤ length s.letters
  fits = omega (arith, s.room, s.short)

  sound : Reduced spelt
  sound = (known spelt s.reduced).1

  pub cancelled : EndsIn spelt (turned a) → take (s.len - 1) s.letters ≡ (acts spelt (single (Some a))).0
  cancelled e =
      let l : length spelt - 1 ≡ s.len - 1 = omega (arith, length-take-le s.len s.letters fits) in
      sym (take-take (s.len - 1) s.len s.letters (omega arith)) ∙ ap (λ m. take m spelt) (sym l) ∙ shortened spelt a sound e

  pub stored : (i : ℕ) → i ≡ s.len → s.len < longest → (EndsIn spelt (turned a) → ⊥) → take (s.len + 1) (set s.letters i a) ≡ (acts spelt (single (Some a))).0
  stored i e p f = ap (λ j. take (s.len + 1) (set s.letters j a)) e ∙ take_more_set s.letters s.len a (omega (arith, s.room)) ∙ lengthened spelt a sound f

  pub too_long : longest ≤ s.len → (EndsIn spelt (turned a) → ⊥) → length (acts spelt (single (Some a))).0 ≤ longest → ⊥
  too_long p f k = omega (arith, ap length (lengthened spelt a sound f), length_push spelt a, length-take-le s.len s.letters fits)

  -- a list with the letters of a word is reduced
  pub reduced_as : (w : List Letter) → w ≡ (acts spelt (single (Some a))).0 → ∥ Reduced w ∥₁
  reduced_as w e = ∣ subst Reduced (sym e) (acts spelt (single (Some a))).1 ∣₁

-- what a crossing is in the group is its letter alone, or nothing
pub crossed-single : (x : Crossing) → crossed words x ≡ single (letter_of x)
crossed-single cross.None = refl
crossed-single (cross.Forwards r) = refl
crossed-single (cross.Backwards r) = refl

pub after_letter : (r : Option Stored) (w : List Letter) (h : ∥ Reduced w ∥₁) (x : Crossing) (a : Letter) → letter_of x ≡ Some a →
    MatchOption r (length (acts w (single (Some a))).0 ≤ longest → ⊥) (λ s. take s.len s.letters ≡ (acts w (single (Some a))).0) →
    MatchOption r (Held (times (known w h) (crossed words x)) → ⊥) (λ s. known (take s.len s.letters) s.reduced ≡ times (known w h) (crossed words x))
after_letter None w h x a e k = λ m. k (subst (λ y. length (acts w y).0 ≤ longest) (crossed-single x ∙ ap single e) m)
after_letter (Some s) w h x a e k = word_same _ _ (k ∙ ap (λ y. (acts w y).0) (sym (crossed-single x ∙ ap single e)))

pub after_none : (w : List Letter) (h : ∥ Reduced w ∥₁) (x : Crossing) → letter_of x ≡ None → known w h ≡ times (known w h) (crossed words x)
after_none w h x e = word_same _ _ (sym (ap (λ y. (acts w y).0) (crossed-single x ∙ ap single e) ∙ acts-empty w (known w h).1))
