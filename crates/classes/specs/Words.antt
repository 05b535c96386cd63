-- The class kind of words: the free group on seven letters. Assumes nothing.
--     longest          the most letters of a word that is held
--     words            the class kind: reduced words, of which those of at most `longest` letters are held
--     single o         the word of one letter, or of none
--     shortlex         the order of lists of letters: the shorter first, then by the first letter that differs
--     mixed h a        the hash h, going on with the letter a
--     hashed h w       the hash of the letters w, going on from h
--     word xs          the letters of the class of the crossings xs
use Rattle.std.specs.Prelude.{◌≡◌, ℕ, ◌+◌, ◌*◌, ◌%◌, ◌^◌, ◌≤◌, List, [], ◌∷◌, fold, length, Some, None, Option, refl}
use Rattle.std.proofs.Common.{sym, ap, ◌∙◌, arith, lit≤}
use Rattle.kinds.specs.declared.crossing.Crossing.{Crossing}
use Rattle.kinds.specs.Orders.{Ordered}
use Rattle.kinds.specs.Comparisons.{numbers, pairs, lists, keyed}
use Rattle.kinds.specs.Classes.{ClassKind, product}
use Rattle.classes.specs.declared.letters.Letter.{Letter}
use Rattle.classes.specs.Letters.{forwards_of, rank_of, letters}
use Rattle.classes.specs.Reduced.{Word, empty, acts, mirror, word_same, acts-acts, acts-empty, mirror_reduced, mirror_before, mirror_after, length-mirror}

abbrev pub longest : ℕ
longest = 32

abbrev pub single : Option Letter → Word
single None = empty
single (Some a) = (a ∷ [], (tt, tt))

abbrev pub times : Word → Word → Word
times x y = acts x.0 y

abbrev pub inverse : Word → Word
inverse x = (mirror x.0, mirror_reduced x.0 x.1)

abbrev pub Held : Word → Type 0
Held x = length x.0 ≤ longest

pub times-empty : (x : Word) → times x empty ≡ x
times-empty x = word_same (times x empty) x (acts-empty x.0 x.1)

pub inverse_left : (x : Word) → times (inverse x) x ≡ empty
inverse_left x = ap (acts (mirror x.0)) (sym (times-empty x)) ∙ mirror_before x.0 empty

pub inverse_right : (x : Word) → times x (inverse x) ≡ empty
inverse_right x = ap (acts x.0) (sym (times-empty (inverse x))) ∙ mirror_after x.0 empty

pub inverse_held : (x : Word) → Held x → Held (inverse x)
inverse_held x h = omega (arith, length-mirror x.0)

pub held_inverse : (x : Word) → Held (inverse x) → Held x
held_inverse x h = omega (arith, length-mirror x.0)

abbrev pub shortlex : Ordered (List Letter)
shortlex = keyed (λ w. (length w, w)) (λ v w e. ap (λ x. x.1) e) (pairs numbers (lists letters))

abbrev pub words : ClassKind
words = record {
  Element = Word;
  unit = empty;
  mul = times;
  inv = inverse;
  ray = λ r. single (Some (forwards_of r));
  Held = Held;
  order = keyed (λ x. x.0) word_same shortlex;
  assoc = λ x y z. acts-acts x.0 y z;
  left = λ x. refl;
  right = times-empty;
  inv_left = inverse_left;
  inv_right = inverse_right;
  unit_held = lit≤ tt;
  inv_held = inverse_held;
  held_inv = held_inverse;
}

abbrev pub mixed : ℕ → Letter → ℕ
mixed h a = ((h * 31) % 2 ^ 32 + (rank_of a + 1)) % 2 ^ 32

abbrev pub hashed : ℕ → List Letter → ℕ
hashed h w = fold mixed h w

abbrev pub word : List Crossing → List Letter
word xs = (product words xs).0
