-- Good commands at the front of the bytes: one more of them, and how long they are.
use Rattle.std.proofs.Common.{◌≡◌, ℕ, ◌+◌, List, [], ◌∷◌, ◌++◌, length, Some, Ok, Option, sym, ap, ◌∙◌, subst, append_assoc, Bor}
use Rattle.std.proofs.lemmas.List.{append-nil, length-append}
use Rattle.plans.specs.Plans.{Head, Command, spell, spell_all, Good, AllGood}
use Rattle.plans.specs.Steps.{Begins, Goes, Stepped}

-- good after those before, then good after all of them
all_good_push : (h : Head) (before cs : List Command) (x : Command) → AllGood h before cs → Good h (before ++ cs) x → AllGood h before (cs ++ (x ∷ []))
all_good_push h before [] x a g = (subst (λ bs. Good h bs x) (append-nil before) g, tt)
all_good_push h before (c ∷ cs) x a g =
    (a.0, all_good_push h (before ++ (c ∷ [])) cs x a.1 (subst (λ bs. Good h bs x) (sym (append_assoc before (c ∷ []) cs)) g))

spell_all-push : (cs : List Command) (x : Command) → spell_all (cs ++ (x ∷ [])) ≡ spell_all cs ++ spell x
spell_all-push [] x = append-nil (spell x)
spell_all-push (c ∷ cs) x = ap (λ ys. spell c ++ ys) (spell_all-push cs x) ∙ sym (append_assoc (spell c) (spell_all cs) (spell x))

-- the next command is good too, so it belongs to the beginning
pub begins_push : (h : Head) (bytes : List ℕ) (cs : List Command) (left : List ℕ) (x : Command) (next : List ℕ)
    → Begins h bytes cs left → left ≡ spell x ++ next → Good h cs x → Begins h bytes (cs ++ (x ∷ [])) next
begins_push h bytes cs left x next b e g = record {
  spelled = b.spelled ∙ (ap (λ ys. spell_all cs ++ ys) e ∙ (sym (append_assoc (spell_all cs) (spell x) next) ∙ ap (λ ys. ys ++ next) (sym (spell_all-push cs x))));
  good = all_good_push h [] cs x b.good g;
}

pub length_begins : (h : Head) (bytes : List ℕ) (cs : List Command) (left : List ℕ) → Begins h bytes cs left → length bytes ≡ length (spell_all cs) + length left
length_begins h bytes cs left b = ap length b.spelled ∙ length-append (spell_all cs) left

-- what one step says where it answered what is left
pub goes_at_some : (h : Head) (before after : List Command → Type 0) (left : List ℕ) (o : Option (Bor (List ℕ))) (next : Bor (List ℕ)) (cs : List Command)
    → o ≡ Some next → Stepped h before after left (Ok o) → before cs → Goes h after cs left next.now
goes_at_some h before after left o next cs e s b = (subst (λ (p : Option (Bor (List ℕ))). Stepped h before after left (Ok p)) e s).1 cs b
