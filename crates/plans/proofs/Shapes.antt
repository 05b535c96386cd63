-- What stands at the front of bytes where a command is to come, told by its letter and by how many bytes follow.
use Rattle.std.proofs.Common.{◌≡◌, ℕ, ◌<◌, ◌≤◌, cond, eqb, ltb, List, [], ◌∷◌, ◌++◌, length, sym, refl, ap, ◌∙◌, inl, inr, arith}
use Rattle.std.proofs.lemmas.List.{length-append}
use Rattle.std.proofs.lemmas.Bool.{ne_eqb, lt-ltb, le-ltb}
use Rattle.plans.specs.Plans.{Head, grid, road, Command, post, block, weigh, point, join, Letter, Belongs, spell, two, four}

-- the end, a fault with its number and offset, or a whole command, good or not
pub data Shape : Type 0 where
  done : Shape
  wrong : ℕ → ℕ → Shape
  whole : Shape

-- how many operand bytes follow a letter, and 0 where the kind of plan has no such command
abbrev width : Head → ℕ → ℕ
width (grid w h s) b = cond (eqb b 82) 2 (cond (eqb b 66) 2 (cond (eqb b 87) 3 0))
width road b = cond (eqb b 80) 4 (cond (eqb b 65) 12 0)

-- after the end command
abbrev ending : List ℕ → Shape
ending [] = done
ending (x ∷ xs) = wrong 10 1

-- the shape of the bytes, for this kind of plan
abbrev pub shape : Head → List ℕ → Shape
shape h [] = wrong 5 0
shape h (b ∷ xs) =
    cond (eqb b 69) (ending xs)
    (cond (eqb (width h b) 0) (wrong 4 0) (cond (ltb (length xs) (width h b)) (wrong 5 0) whole))

-- a letter of the kind, which is not that of the end
abbrev Known : Head → ℕ → ℕ → Type 0
Known h b w = (b ≡ 69 → ⊥) × (width h b ≡ w) × (w ≡ 0 → ⊥)

-- every letter is known by its width
known : (h : Head) (b w : ℕ) → Letter h b w → Known h b w
known (grid c r s) b w (inl (e, f)) = ((λ g. omega (arith, e, g)), ap (λ x. width (grid c r s) x) e ∙ sym f, (λ g. omega (arith, f, g)))
known (grid c r s) b w (inr (inl (e, f))) = ((λ g. omega (arith, e, g)), ap (λ x. width (grid c r s) x) e ∙ sym f, (λ g. omega (arith, f, g)))
known (grid c r s) b w (inr (inr (e, f))) = ((λ g. omega (arith, e, g)), ap (λ x. width (grid c r s) x) e ∙ sym f, (λ g. omega (arith, f, g)))
known road b w (inl (e, f)) = ((λ g. omega (arith, e, g)), ap (λ x. width road x) e ∙ sym f, (λ g. omega (arith, f, g)))
known road b w (inr (e, f)) = ((λ g. omega (arith, e, g)), ap (λ x. width road x) e ∙ sym f, (λ g. omega (arith, f, g)))

-- any other byte has width 0
unknown : (h : Head) (b : ℕ) → ((w : ℕ) → Letter h b w → ⊥) → width h b ≡ 0
unknown (grid c r s) b n =
    let x = ne_eqb b 82 (λ e. n 2 (inl (e, refl))) in
    let y = ne_eqb b 66 (λ e. n 2 (inr (inl (e, refl)))) in
    let z = ne_eqb b 87 (λ e. n 3 (inr (inr (e, refl)))) in
    simp (x, y, z)
unknown road b n =
    let x = ne_eqb b 80 (λ e. n 4 (inl (e, refl))) in
    let y = ne_eqb b 65 (λ e. n 12 (inr (e, refl))) in
    simp (x, y)

-- no command of the kind has this letter
pub shape_unknown : (h : Head) (b : ℕ) (xs : List ℕ) → (b ≡ 69 → ⊥) → ((w : ℕ) → Letter h b w → ⊥) → shape h (b ∷ xs) ≡ wrong 4 0
shape_unknown h b xs e n =
    let x = ne_eqb b 69 e in
    let y = unknown h b n in
    simp (x, y)

-- too few bytes follow the letter
pub shape_short : (h : Head) (b w : ℕ) (xs : List ℕ) → Letter h b w → length xs < w → shape h (b ∷ xs) ≡ wrong 5 0
shape_short h b w xs a l =
    let k = known h b w a in
    let x = ne_eqb b 69 k.0 in
    let y = k.1 in
    let z = ne_eqb w 0 k.2 in
    let t = lt-ltb (length xs) w l in
    simp (x, y, z, t)

-- enough bytes follow the letter
shape_long : (h : Head) (b w : ℕ) (xs : List ℕ) → Letter h b w → w ≤ length xs → shape h (b ∷ xs) ≡ whole
shape_long h b w xs a l =
    let k = known h b w a in
    let x = ne_eqb b 69 k.0 in
    let y = k.1 in
    let z = ne_eqb w 0 k.2 in
    let t = le-ltb (length xs) w l in
    simp (x, y, z, t)

-- a command's letter, and its operands
lettered : (h : Head) (c : Command) → Belongs h c → (b : ℕ) × (ops : List ℕ) × (spell c ≡ b ∷ ops) × Letter h b (length ops)
lettered (grid w h s) (post c r) b = (82, c ∷ r ∷ [], refl, inl (refl, refl))
lettered (grid w h s) (block c r) b = (66, c ∷ r ∷ [], refl, inr (inl (refl, refl)))
lettered (grid w h s) (weigh c r k) b = (87, c ∷ r ∷ k ∷ [], refl, inr (inr (refl, refl)))
lettered (grid w h s) (point n) b = absurd b
lettered (grid w h s) (join e f l k x) b = absurd b
lettered road (post c r) b = absurd b
lettered road (block c r) b = absurd b
lettered road (weigh c r k) b = absurd b
lettered road (point n) b = (80, four n, refl, inl (refl, refl))
lettered road (join e f l k x) b = (65, four e ++ (four f ++ (two l ++ (k ∷ x ∷ []))), refl, inr (refl, refl))

-- a command that is spelled there is whole
pub shape_spell : (h : Head) (c : Command) (ys : List ℕ) → Belongs h c → shape h (spell c ++ ys) ≡ whole
shape_spell h c ys b =
    let l = lettered h c b in
    let ops = l.1 in
    ap (λ xs. shape h (xs ++ ys)) l.2 ∙ shape_long h l.0 (length ops) (ops ++ ys) l.3 (omega (arith, length-append ops ys))
