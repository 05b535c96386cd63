-- When a queue takes a record, and when it lowers one.
use Rattle.std.proofs.Common.{◌≡◌, ℕ, ◌+◌, ◌<◌, ◌≤◌, Bool, true, false, eqb, ltb, List, [], ◌∷◌, length, get_or, drop, Some, None, Option, Decides, MatchBool, MatchOption, sym, ap, ◌∙◌, subst, true≢false, arith, length-drop, length-take}
use Rattle.std.specs.List.{AllByRecursion, position, position_or_len}
use Rattle.std.proofs.ByRecursion.{All-from_get_or}
use Rattle.std.proofs.lemmas.Bool.{lt-ltb, eqb-true, eqb-false}
use Rattle.std.proofs.lemmas.List.Quantifiers.{position-Some}
use Rattle.std.proofs.lemmas.List.Sums.{fails_before_first}
use Rattle.tables.specs.Orders.{Order, AtMost}
use Rattle.tables.specs.declared.queue.Queue.{Queue}
use Rattle.tables.specs.Queues.{places, waiting, spare, Unchanged, Pushed, Lowers, Lowered}
use Rattle.charts.specs.Charts.{Stands}
use Rattle.charts.proofs.Stands.{stands_some}
use Rattle.steps.specs.declared.open.Open.{Open}

-- those that wait and the free places are all
pub all_places : {X : Type 0} (q : Queue X) → length (places q) ≡ length (waiting q) + length (spare q)
all_places q = omega (arith, length-take q.count (places q), length-drop q.count (places q))

-- where fewer wait than can, a place is free
room_left : {X : Type 0} (q : Queue X) → length (waiting q) < length (places q) → 0 < length (spare q)
room_left q lt = omega (arith, all_places q)

-- and one more waits
pub pushes_so : {X : Type 0} (o : Order X) (q p : Queue X) (x : X) (r : Bool) → length (waiting q) < length (places q) → r ≡ ltb 0 (length (spare q)) →
    MatchBool r (Pushed o (waiting q) x (waiting p) × (spare p ≡ drop 1 (spare q))) (Unchanged q p) → Pushed o (waiting q) x (waiting p)
pushes_so o q p x true lt e w = w.0
pushes_so o q p x false lt e w = absurd (true≢false (sym (e ∙ lt-ltb 0 (length (spare q)) (room_left q lt))))

-- a record that is not greater takes the place of the old one
pub lowers_so : {X : Type 0} (o : Order X) (ws vs : List X) (p : ℕ) (x old : X) (r : Bool) → p < length ws → Stands ws p old → AtMost o x old →
    Decides r (Lowers o ws p x) → MatchBool r (Lowered o ws p x vs) (vs ≡ ws) → Lowered o ws p x vs
lowers_so o ws vs p x old true lt at le decides w = w
lowers_so o ws vs p x old false lt at le decides w = absurd (true≢false (sym (decides.1 (lt, subst (AtMost o x) (sym (at x)) le))))

-- where `position` finds no record with the slot none has it, and what it finds is one
pub slot_waits : {K : Type 0} (s : ℕ) (ws : List (Open K)) (r : Option ℕ) → r ≡ position (λ w. eqb w.slot s) ws →
    MatchOption r (AllByRecursion (λ w. w.slot ≡ s → ⊥) ws) (λ p. (w : Open K) × (p < length ws) × Stands ws p w × (w.slot ≡ s))
slot_waits s [] None e = tt
slot_waits {K = K} s (v ∷ vs) None e =
    All-from_get_or (λ w. w.slot ≡ s → ⊥) (v ∷ vs) v (λ k lt. eqb-false (get_or (v ∷ vs) k v).slot s (fails_before_first (λ w. eqb w.slot s) (v ∷ vs) k v (omega (arith, past))))
  where
    past : length (v ∷ vs) ≤ position_or_len (λ (w : Open K). eqb w.slot s) (v ∷ vs)
    past = grind arith
slot_waits {K = K} s ws (Some p) e = (w, lt, at, eqb-true w.slot s (ap (λ v. eqb v.slot s) (sym (at w)) ∙ (position-Some (λ w. eqb w.slot s) ws p w (sym e)).1))
  where
    lt : p < length ws
    lt = grind arith

    w : Open K
    w = (stands_some ws p lt).0

    at : Stands ws p w
    at = (stands_some ws p lt).1
