-- Where reading stops after good commands: there is one reason only, and no good command stands there.
use Rattle.std.proofs.Common.{◌≡◌, ℕ, ◌⊎◌, List, [], ◌∷◌, ◌++◌, sym, ap, ◌∙◌, subst, inl, inr}
use Rattle.plans.specs.Plans.{Head, Command, spell, Belongs, InRange, Fresh, Ended, Room, Good, Fault}
use Rattle.plans.proofs.Spelling.{same_command}
use Rattle.plans.proofs.Shapes.{Shape, done, wrong, whole, shape, shape_unknown, shape_short, shape_spell}
use Rattle.plans.proofs.Judging.{Judged, none_judged, same_judged}

-- reading stops at the rest, with the end or with a fault
abbrev pub Stops : Head → List Command → List ℕ → Shape → Type 0
Stops h cs rest done = rest ≡ 69 ∷ []
Stops h cs rest (wrong n i) = Fault h cs rest n i
Stops h cs rest whole = ⊥

-- a whole command stands there, and what is wrong with it has this number
abbrev Judges : Head → List Command → List ℕ → Shape → Type 0
Judges h cs rest x =
    (c : Command) × (xs : List ℕ) × (n : ℕ) × (rest ≡ spell c ++ xs) × Belongs h c × (x ≡ wrong n 0) × Judged (InRange h c) (Fresh cs c) (Ended cs c) (Room cs c) n

same_wrong : {a b n i : ℕ} → n ≡ a → i ≡ b → wrong a b ≡ wrong n i
same_wrong e f = cc

-- a stop is told by the shape of the rest, or by judging the command that stands there
told : (h : Head) (cs : List Command) (rest : List ℕ) (x : Shape) → Stops h cs rest x → (shape h rest ≡ x) ⊎ Judges h cs rest x
told h cs rest done e = inl (ap (λ ys. shape h ys) e)
told h cs rest (wrong n i) (inl (e, f, g)) = inl (ap (λ ys. shape h ys) e ∙ same_wrong f g)
told h cs rest (wrong n i) (inr (inl (b, xs, e, f, g))) = inl (ap (λ ys. shape h ys) e ∙ same_wrong f g)
told h cs rest (wrong n i) (inr (inr (inl (b, xs, e, l, u, f, g)))) = inl (ap (λ ys. shape h ys) e ∙ (shape_unknown h b xs l u ∙ same_wrong f g))
told h cs rest (wrong n i) (inr (inr (inr (inl (b, xs, w, e, a, l, f, g))))) = inl (ap (λ ys. shape h ys) e ∙ (shape_short h b w xs a l ∙ same_wrong f g))
told h cs rest (wrong n i) (inr (inr (inr (inr (c, xs, e, b, f, j))))) = inr (c, xs, n, e, b, ap (λ k. wrong n k) f, j)
told h cs rest whole s = absurd s

-- a stop is no whole command
not_whole : (h : Head) (cs : List Command) (rest : List ℕ) (x : Shape) → Stops h cs rest x → x ≡ whole → ⊥
not_whole h cs rest x s e = subst (λ (y : Shape). Stops h cs rest y) e s

-- where a command of the plan's kind stands, the shape is no stop
not_shaped : (h : Head) (cs : List Command) (rest : List ℕ) (x : Shape) (c : Command) (xs : List ℕ) → Stops h cs rest x → rest ≡ spell c ++ xs → Belongs h c
    → shape h rest ≡ x → ⊥
not_shaped h cs rest x c xs s e b t = not_whole h cs rest x s (sym t ∙ (ap (λ ys. shape h ys) e ∙ shape_spell h c xs b))

-- where reading stops, no good command stands
pub none_good : (h : Head) (cs : List Command) (rest : List ℕ) (x : Shape) (c : Command) (ys : List ℕ) → Stops h cs rest x → rest ≡ spell c ++ ys → Good h cs c → ⊥
none_good h cs rest x c ys s e g =
    elim (told h cs rest x s) [
      | inl t ↦ not_shaped h cs rest x c ys s e g.0 t
      | inr j ↦
          let same : c ≡ j.0 = same_command c j.0 ys j.1 (sym e ∙ j.3) in
          let good : Good h cs j.0 = subst (λ (d : Command). Good h cs d) same g in
          none_judged good.1 good.2 good.3 good.4 j.6
    ]

-- one command is judged in one way
both_judged : (h : Head) (cs : List Command) (rest : List ℕ) (x y : Shape) → Judges h cs rest x → Judges h cs rest y → x ≡ y
both_judged h cs rest x y a b =
    let same : a.0 ≡ b.0 = same_command a.0 b.0 a.1 b.1 (sym a.3 ∙ b.3) in
    let judged : Judged (InRange h b.0) (Fresh cs b.0) (Ended cs b.0) (Room cs b.0) a.2 =
    subst (λ (d : Command). Judged (InRange h d) (Fresh cs d) (Ended cs d) (Room cs d) a.2) same a.6 in
    a.5 ∙ (ap (λ n. wrong n 0) (same_judged judged b.6) ∙ sym b.5)

-- reading stops in one way only
pub same_stop : (h : Head) (cs : List Command) (rest : List ℕ) (x y : Shape) → Stops h cs rest x → Stops h cs rest y → x ≡ y
same_stop h cs rest x y s t =
    elim (told h cs rest x s) [
      | inl a ↦ elim (told h cs rest y t) [
        | inl b ↦ sym a ∙ b
        | inr j ↦ absurd (not_shaped h cs rest x j.0 j.1 s j.3 j.4 a)
      ]
      | inr i ↦ elim (told h cs rest y t) [
        | inl b ↦ absurd (not_shaped h cs rest y i.0 i.1 t i.3 i.4 b)
        | inr j ↦ both_judged h cs rest x y i j
      ]
    ]
