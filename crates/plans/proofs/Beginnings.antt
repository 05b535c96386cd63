-- Good commands up to a stop: two such beginnings of the same bytes are the same.
use Rattle.std.proofs.Common.{◌≡◌, ℕ, List, [], ◌∷◌, ◌++◌, sym, refl, ap, ◌∙◌, subst, append_assoc}
use Rattle.std.proofs.lemmas.List.{append-nil}
use Rattle.plans.specs.Plans.{Head, Command, spell, spell_all, AllGood}
use Rattle.plans.proofs.Spelling.{same_command, same_left}
use Rattle.plans.proofs.Shapes.{Shape}
use Rattle.plans.proofs.Stops.{Stops, none_good, same_stop}

-- after the commands before, these are good, and then reading stops
pub record Beginning (h : Head) (before : List Command) (bytes : List ℕ) (cs : List Command) (x : Shape) : Type 0 where
  pub rest : List ℕ
  pub spelled : bytes ≡ spell_all cs ++ rest
  pub good : AllGood h before cs
  pub stops : Stops h (before ++ cs) rest x

-- no command is good where reading stops at once
stops_first : (h : Head) (before : List Command) (bytes : List ℕ) (x y : Shape) (c : Command) (cs : List Command) → Beginning h before bytes [] x → Beginning h before bytes (c ∷ cs) y → ⊥
stops_first h before bytes x y c cs a b =
    let s : Stops h before a.rest x = subst (λ (ds : List Command). Stops h ds a.rest x) (append-nil before) a.stops in
    none_good h before a.rest x c (spell_all cs ++ b.rest) s (sym a.spelled ∙ (b.spelled ∙ append_assoc (spell c) (spell_all cs) b.rest)) b.good.0

-- what follows the first command begins so after it
next : (h : Head) (before : List Command) (bytes left : List ℕ) (x : Shape) (c : Command) (cs : List Command) (b : Beginning h before bytes (c ∷ cs) x)
    → left ≡ spell_all cs ++ b.rest → Beginning h (before ++ (c ∷ [])) left cs x
next h before bytes left x c cs b e = record {
  rest = b.rest;
  spelled = e;
  good = b.good.1;
  stops = subst (λ (ds : List Command). Stops h ds b.rest x) (sym (append_assoc before (c ∷ []) cs)) b.stops;
}

-- the first command stands at the front
front : (h : Head) (before : List Command) (bytes : List ℕ) (x : Shape) (c : Command) (cs : List Command) (b : Beginning h before bytes (c ∷ cs) x)
    → bytes ≡ spell c ++ (spell_all cs ++ b.rest)
front h before bytes x c cs b = b.spelled ∙ append_assoc (spell c) (spell_all cs) b.rest

-- the commands are the same, and reading stops in the same way
pub same_beginning : (h : Head) (before : List Command) (bytes : List ℕ) (cs ds : List Command) (x y : Shape)
    → Beginning h before bytes cs x → Beginning h before bytes ds y → (cs ≡ ds) × (x ≡ y)
same_beginning h before bytes [] [] x y a b =
    let same : b.rest ≡ a.rest = sym b.spelled ∙ a.spelled in
    (refl, same_stop h (before ++ []) a.rest x y a.stops (subst (λ (r : List ℕ). Stops h (before ++ []) r y) same b.stops))
same_beginning h before bytes [] (d ∷ ds) x y a b = absurd (stops_first h before bytes x y d ds a b)
same_beginning h before bytes (c ∷ cs) [] x y a b = absurd (stops_first h before bytes y x c cs b a)
same_beginning h before bytes (c ∷ cs) (d ∷ ds) x y a b =
    let left = spell_all cs ++ a.rest in
    let both : spell c ++ left ≡ spell d ++ (spell_all ds ++ b.rest) = sym (front h before bytes x c cs a) ∙ front h before bytes y d ds b in
    let first : d ≡ c = sym (same_command c d left (spell_all ds ++ b.rest) both) in
    let after = same_left c d left (spell_all ds ++ b.rest) both in
    let b' : Beginning h (before ++ (c ∷ [])) left ds y =
    subst (λ (z : Command). Beginning h (before ++ (z ∷ [])) left ds y) first (next h before bytes left y d ds b after) in
    let same = same_beginning h (before ++ (c ∷ [])) left cs ds x y (next h before bytes left x c cs a refl) b' in
    (ap (λ zs. c ∷ zs) same.0 ∙ ap (λ z. z ∷ ds) (sym first), same.1)
