-- Reduced lists of letters, and how letters act on them. Assumes nothing.
--     Apart a w        w does not begin with the opposite of a
--     Reduced w        no two neighbours in w are opposite
--     push a w         the letter a put before w, or cancelling there
--     Word             a reduced list of letters, of any length
--     act a x          a letter put before a word, or cancelling there
--     acts w x         the letters w put before the word x, the last one first
--     mirror w         the opposites in the opposite order
--     EndsIn w b       b is the last letter of w
use Rattle.std.specs.Prelude.{◌≡◌, ◌-◌, ◌<◌, Bool, true, false, cond, List, [], ◌∷◌, ◌++◌, length, ◌≢◌, slice_index_or, refl}
use Rattle.std.proofs.Common.{sym, ap, subst, ◌∙◌, arith, length-append}
use Rattle.std.proofs.Math.Logic.{∥∥₁_elim}
use mathlib.Core.HLevel.{Unit-prop, →_prop, ⊥_prop, ×_prop, Σ_prop_path}
use Rattle.classes.specs.declared.letters.Letter.{Letter}
use Rattle.classes.specs.declared.letters.Letter.TheVariants.{LowerA}
use Rattle.classes.specs.Letters.{turned, alike, turned-turned, same_from_alike, apart_from_alike, alike_same, alike_apart}

abbrev pub Apart : Letter → List Letter → Type 0
Apart a [] = Unit {0}
Apart a (b ∷ w) = b ≡ turned a → ⊥

abbrev pub Reduced : List Letter → Type 0
Reduced [] = Unit {0}
Reduced (a ∷ w) = Apart a w × Reduced w

abbrev pub push : Letter → List Letter → List Letter
push a [] = a ∷ []
push a (b ∷ w) = cond (alike b (turned a)) w (a ∷ (b ∷ w))

abbrev pub EndsIn : List Letter → Letter → Type 0
EndsIn w b = (0 < length w) × (slice_index_or w (length w - 1) LowerA ≡ b)

abbrev pub mirror : List Letter → List Letter
mirror [] = []
mirror (a ∷ w) = mirror w ++ (turned a ∷ [])

pub apart_prop : (a : Letter) (w : List Letter) → IsProp (Apart a w)
apart_prop a [] = Unit-prop
apart_prop a (b ∷ w) = →_prop ⊥_prop

pub reduced_prop : (w : List Letter) → IsProp (Reduced w)
reduced_prop [] = Unit-prop
reduced_prop (a ∷ w) = ×_prop (apart_prop a w) (reduced_prop w)

pub push_reduced : (a : Letter) (w : List Letter) → Reduced w → Reduced (push a w)
push_reduced a [] h = (tt, tt)
push_reduced a (b ∷ w) h = go (alike b (turned a)) refl
  where
    go : (k : Bool) → alike b (turned a) ≡ k → Reduced (cond k w (a ∷ (b ∷ w)))
    go true e = h.1
    go false e = (apart_from_alike b (turned a) e, h)

-- where nothing cancels, a letter is put in front
pub push_apart : (a : Letter) (w : List Letter) → Apart a w → push a w ≡ a ∷ w
push_apart a [] h = refl
push_apart a (b ∷ w) h = ap (λ k. cond k w (a ∷ (b ∷ w))) (alike_apart b (turned a) h)

-- a letter before its opposite is gone
pub push_opposite : (a b : Letter) (w : List Letter) → b ≡ turned a → push a (b ∷ w) ≡ w
push_opposite a b w e = ap (λ k. cond k w (a ∷ (b ∷ w))) (alike_same b (turned a) e)

-- a letter and then its opposite undo each other
pub push-push : (a : Letter) (w : List Letter) → Reduced w → push (turned a) (push a w) ≡ w
push-push a [] h = push_opposite (turned a) a [] (sym (turned-turned a))
push-push a (b ∷ w) h = go (alike b (turned a)) refl
  where
    go : (k : Bool) → alike b (turned a) ≡ k → push (turned a) (cond k w (a ∷ (b ∷ w))) ≡ b ∷ w
    go false e = push_opposite (turned a) a (b ∷ w) (sym (turned-turned a))
    go true e =
        let p = same_from_alike b (turned a) e in
        push_apart (turned a) w (subst (λ c. Apart c w) p h.0) ∙ ap (λ c. c ∷ w) (sym p)

abbrev pub Word : Type 0
Word = (w : List Letter) × Reduced w

-- the word of a list that is known to be reduced
abbrev pub known : (w : List Letter) → ∥ Reduced w ∥₁ → Word
known w h = (w, ∥∥₁_elim h (reduced_prop w) (λ r. r))

-- words with the same letters are the same
pub word_same : (x y : Word) → x.0 ≡ y.0 → x ≡ y
word_same x y e = Σ_prop_path reduced_prop e

abbrev pub empty : Word
empty = ([], tt)

abbrev pub act : Letter → Word → Word
act a x = (push a x.0, push_reduced a x.0 x.1)

abbrev pub acts : List Letter → Word → Word
acts [] x = x
acts (a ∷ w) x = act a (acts w x)

pub act-turned-act : (a : Letter) (x : Word) → act (turned a) (act a x) ≡ x
act-turned-act a x = word_same (act (turned a) (act a x)) x (push-push a x.0 x.1)

pub act-act-turned : (a : Letter) (x : Word) → act a (act (turned a) x) ≡ x
act-act-turned a x = subst (λ c. act c (act (turned a) x) ≡ x) (turned-turned a) (act-turned-act (turned a) x)

pub acts-push : (a : Letter) (w : List Letter) (y : Word) → acts (push a w) y ≡ act a (acts w y)
acts-push a [] y = refl
acts-push a (b ∷ w) y = go (alike b (turned a)) refl
  where
    go : (k : Bool) → alike b (turned a) ≡ k → acts (cond k w (a ∷ (b ∷ w))) y ≡ act a (act b (acts w y))
    go true e = sym (act-act-turned a (acts w y)) ∙ ap (λ c. act a (act c (acts w y))) (sym (same_from_alike b (turned a) e))
    go false e = refl

pub acts-acts : (w : List Letter) (y z : Word) → acts (acts w y).0 z ≡ acts w (acts y.0 z)
acts-acts [] y z = refl
acts-acts (a ∷ w) y z = acts-push a (acts w y).0 z ∙ ap (act a) (acts-acts w y z)

pub acts_append : (u v : List Letter) (y : Word) → acts (u ++ v) y ≡ acts u (acts v y)
acts_append [] v y = refl
acts_append (a ∷ u) v y = ap (act a) (acts_append u v y)

-- letters that cancel nothing are put in front
pub acts_apart : (w : List Letter) (y : Word) → Reduced (w ++ y.0) → (acts w y).0 ≡ w ++ y.0
acts_apart [] y h = refl
acts_apart (a ∷ w) y h = ap (push a) (acts_apart w y h.1) ∙ push_apart a (w ++ y.0) h.0

pub acts-empty : (w : List Letter) → Reduced w → (acts w empty).0 ≡ w
acts-empty [] h = refl
acts-empty (a ∷ w) h = ap (push a) (acts-empty w h.1) ∙ push_apart a w h.0

apart_push : (a : Letter) (v : List Letter) (c d : Letter) → Apart a (v ++ (c ∷ [])) → Apart a ((v ++ (c ∷ [])) ++ (d ∷ []))
apart_push a [] c d h = h
apart_push a (b ∷ v) c d h = h

-- one more letter at the right end
pub reduced_push : (v : List Letter) (c d : Letter) → Reduced (v ++ (c ∷ [])) → (d ≢ turned c) → Reduced ((v ++ (c ∷ [])) ++ (d ∷ []))
reduced_push [] c d h n = (n, (tt, tt))
reduced_push (a ∷ v) c d h n = (apart_push a v c d h.0, reduced_push v c d h.1 n)

pub mirror_reduced : (w : List Letter) → Reduced w → Reduced (mirror w)
mirror_reduced [] h = tt
mirror_reduced (a ∷ []) h = (tt, tt)
mirror_reduced (a ∷ (b ∷ w)) h =
    reduced_push (mirror w) (turned b) (turned a) (mirror_reduced (b ∷ w) h.1) (λ e. h.0 (sym (turned-turned b) ∙ sym e))

pub mirror_before : (w : List Letter) (y : Word) → acts (mirror w) (acts w y) ≡ y
mirror_before [] y = refl
mirror_before (a ∷ w) y =
    acts_append (mirror w) (turned a ∷ []) (acts (a ∷ w) y) ∙ ap (acts (mirror w)) (act-turned-act a (acts w y)) ∙ mirror_before w y

pub mirror_after : (w : List Letter) (y : Word) → acts w (acts (mirror w) y) ≡ y
mirror_after [] y = refl
mirror_after (a ∷ w) y =
    ap (λ z. act a (acts w z)) (acts_append (mirror w) (turned a ∷ []) y) ∙ ap (act a) (mirror_after w (act (turned a) y)) ∙ act-act-turned a y

pub length-mirror : (w : List Letter) → length (mirror w) ≡ length w
length-mirror [] = refl
length-mirror (a ∷ w) = omega (arith, length-append (mirror w) (turned a ∷ []), length-mirror w)
