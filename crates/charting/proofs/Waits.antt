-- The open pairs go on waiting: one is taken up, one is added, one is lowered.
use Rattle.std.proofs.Common.{◌≡◌, ℕ, ◌+◌, ◌<◌, ◌≤◌, cond, eqb, List, [], ◌∷◌, length, get_or, set, Option, sym, refl, ap, ◌∙◌, subst, inl, inr, arith}
use Rattle.std.specs.List.Sorted.{IsPermutation}
use Rattle.std.specs.List.{ContainsAt as Has, AllByRecursion}
use Rattle.std.proofs.ByRecursion.{All-weaker, all_shuffled, has_shuffled}
use Rattle.std.proofs.lemmas.List.Sorted.{sum_by-IsPermutation, length_permutation}
use Rattle.std.proofs.lemmas.List.Sums.{sum_by-cons}
use Rattle.std.proofs.lemmas.Bool.{cases_eq, eq-eqb, ne_eqb}
use Rattle.kinds.specs.Maps.{Site}
use Rattle.kinds.specs.Costs.{CostKind}
use Rattle.kinds.specs.Reaches.{tail}
use Rattle.tables.specs.Indexes.{Names}
use Rattle.tables.proofs.Swapping.{rewritten, names_last, get_or_rewritten}
use Rattle.charts.specs.declared.chart.Pair.{Pair}
use Rattle.charts.specs.Charts.{Stands}
use Rattle.charts.proofs.Stands.{stands_unique, stands_set_same, stands_unset}
use Rattle.steps.specs.declared.open.Open.{Open}
use Rattle.charting.specs.Waits.{waiting_at, Serves, Waits}
use Rattle.charting.proofs.Elements.{has_first, has_later, has_cases}

module _ {K : Type 0} (s : ℕ) where
  pub one_more : (x : Open K) (ws : List (Open K)) → waiting_at s (x ∷ ws) ≡ cond (eqb x.slot s) 1 0 + waiting_at s ws
  one_more x ws = sum_by-cons (λ w. cond (eqb w.slot s) 1 0) x ws

  -- of records with other slots none has this one
  pub none_waiting : (ws : List (Open K)) → AllByRecursion (λ w. w.slot ≡ s → ⊥) ws → waiting_at s ws ≡ 0
  none_waiting [] a = refl
  none_waiting (x ∷ ws) (ne, a) = one_more x ws ∙ ap (λ b. cond b 1 0 + waiting_at s ws) (ne_eqb x.slot s ne) ∙ let z = none_waiting ws a in omega arith

  pub others_wait : (ws : List (Open K)) → waiting_at s ws ≡ 0 → AllByRecursion (λ w. w.slot ≡ s → ⊥) ws
  others_wait [] e = tt
  others_wait (x ∷ ws) e = (not, others_wait ws (omega (arith, one_more x ws)))
    where
      not : x.slot ≡ s → ⊥
      not h = let f : ◌≡◌ {A = ℕ} (cond (eqb x.slot s) 1 0) 1 = ap (λ b. cond b 1 0) (eq-eqb x.slot s h) in omega (arith, one_more x ws)

  -- beside a record with this slot no other has it
  pub others_apart : (x : Open K) (ws : List (Open K)) → x.slot ≡ s → waiting_at s (x ∷ ws) ≤ 1 → AllByRecursion (λ w. w.slot ≡ s → ⊥) ws
  others_apart x ws h le =
      let f : ◌≡◌ {A = ℕ} (cond (eqb x.slot s) 1 0) 1 = ap (λ b. cond b 1 0) (eq-eqb x.slot s h) in
      others_wait ws (omega (arith, one_more x ws))

  pub waiting_shuffled : (ws vs : List (Open K)) → IsPermutation ws vs → waiting_at s vs ≡ waiting_at s ws
  waiting_shuffled ws vs sh = sum_by-IsPermutation (λ w. cond (eqb w.slot s) 1 0) ws vs sh

-- both facts of each
all_both : {X : Type 0} (P Q R : X → Type 0) → ((x : X) → P x → Q x → R x) → (xs : List X) → AllByRecursion P xs → AllByRecursion Q xs → AllByRecursion R xs
all_both P Q R f [] a b = tt
all_both P Q R f (x ∷ xs) (p, a) (q, b) = (f x p q, all_both P Q R f xs a b)

module _ {C K : Type 0} (m : Site) (k : CostKind K) (aim : Option ℕ) (xs : List (Pair C K)) (slots : List ℕ) where
  -- a record for a pair at this cost
  abbrev pub Prices : Open K → Pair C K → Type 0
  Prices w x = (w.cost ≡ x.cost) × (w.bound ≡ k.plus x.cost (tail m k aim x.point))

  module _ (ws : List (Open K)) (t n : ℕ) (waits : Waits m k aim xs slots ws t n) (x : Open K) (rest : List (Open K)) (sh : IsPermutation ws (x ∷ rest)) where
    -- the record that is taken out serves an open place
    pub taken_serves : (e : ℕ) × (t ≤ e) × (e < n) × Serves m k aim xs slots x e
    taken_serves = (all_shuffled (λ w. (e : ℕ) × (t ≤ e) × (e < n) × Serves m k aim xs slots w e) ws (x ∷ rest) sh waits.each).0

    left_each : AllByRecursion (λ w. (e : ℕ) × (t ≤ e) × (e < n) × Serves m k aim xs slots w e) rest
    left_each = (all_shuffled (λ w. (e : ℕ) × (t ≤ e) × (e < n) × Serves m k aim xs slots w e) ws (x ∷ rest) sh waits.each).1

    left_apart : AllByRecursion (λ w. w.slot ≡ x.slot → ⊥) rest
    left_apart = others_apart x.slot x rest refl (subst (λ a. a ≤ 1) (sym (waiting_shuffled x.slot ws (x ∷ rest) sh)) (waits.once x.slot))

    left_once : (s : ℕ) → waiting_at s rest ≤ 1
    left_once s = omega (arith, one_more s x rest, waiting_shuffled s ws (x ∷ rest) sh, waits.once s)

    left_has : (w : Open K) → Has ws w → (x ≡ w → ⊥) → Has rest w
    left_has w has ne = elim (has_cases x w rest (has_shuffled ws (x ∷ rest) w sh has)) [ inl e ↦ absurd (ne e) | inr h ↦ h ]

    left_count : t + (length rest + 1) ≡ n
    left_count = let e : length (x ∷ rest) ≡ length ws = length_permutation ws (x ∷ rest) sh in omega (arith, waits.count)

    -- the record x of the place j is taken out; the places t and j are swapped, and their slots rewritten
    module _ (single : (i j e : ℕ) → Names slots i e → Names slots j e → i ≡ j) (j u : ℕ) (low : t ≤ j) (high : j < n) (names : Names slots x.slot j) (names' : Names slots u t)
        (ys : List (Pair C K)) (first : (y : Pair C K) → Stands ys t y → Stands xs j y) (second : (y : Pair C K) → Stands ys j y → Stands xs t y)
        (others : (e : ℕ) (y : Pair C K) → (e ≡ t → ⊥) → (e ≡ j → ⊥) → Stands ys e y → Stands xs e y) where
      abbrev pub now_slots : List ℕ
      now_slots = rewritten slots x.slot u j t

      -- a slot that named another place does so still
      same_name : (i e : ℕ) → Names slots i e → (e ≡ j → ⊥) → (e ≡ t → ⊥) → Names now_slots i e
      same_name i e nm nj nt =
          get_or_rewritten slots x.slot u j t names names' i
          (λ f. nj (one x.slot j i e (sym f) names nm))
          (λ f. nt (one u t i e (sym f) names' nm)) ∙ nm
        where
          one : (a p i e : ℕ) → a ≡ i → Names slots a p → Names slots i e → e ≡ p
          one a p i e f na ni = let z : e + 1 ≡ p + 1 = sym ni ∙ ap (λ c. get_or slots c 0) (sym f) ∙ na in omega arith

      -- the record of another open place serves one past t still
      served : (w : Open K) → (e : ℕ) × (t ≤ e) × (e < n) × Serves m k aim xs slots w e → (w.slot ≡ x.slot → ⊥) →
          (e : ℕ) × (t + 1 ≤ e) × (e < n) × Serves m k aim ys now_slots w e
      served w (e, le, lt, serves) ne =
          elim (cases_eq e t) [
            | inl et ↦
                let at_t : Names slots w.slot t = subst (λ a. Names slots w.slot a) et serves.names in
                let slot_u : w.slot ≡ u = single w.slot u t at_t names' in
                let tj : t ≡ j → ⊥ = λ f. not_j (et ∙ f) in (
                  j,
                  (let z : t < j = omega arith in omega arith),
                  high,
                  record {
                    names = subst (λ a. Names now_slots a j) (sym slot_u) (names_last slots x.slot u j t names names');
                    priced = λ y at. serves.priced y (subst (λ a. Stands xs a y) (sym et) (second y at));
                  },
                )
            | inr nt ↦ (
              e,
              omega arith,
              lt,
              record {
                names = same_name w.slot e serves.names not_j nt;
                priced = λ y at. serves.priced y (others e y nt not_j at);
              },
            )
          ]
        where
          not_j : e ≡ j → ⊥
          not_j f = ne (single w.slot x.slot j (subst (λ a. Names slots w.slot a) f serves.names) names)

      not_taken : (w : Open K) (e : ℕ) → Names slots w.slot e → (e ≡ j → ⊥) → x ≡ w → ⊥
      not_taken w e nm nj same = let z : e + 1 ≡ j + 1 = sym nm ∙ ap (λ (v : Open K). get_or slots v.slot 0) (sym same) ∙ names in nj (omega arith)

      all : (e : ℕ) → t + 1 ≤ e → e < n → (w : Open K) × Has rest w × Names now_slots w.slot e
      all e le lt =
          elim (cases_eq e j) [
            | inl ej ↦
                let (w, has, nm) = waits.all t (omega arith) (omega arith) in
                let tj : t ≡ j → ⊥ = λ f. omega arith in (
                  w,
                  left_has w has (not_taken w t nm tj),
                  subst (λ a. Names now_slots w.slot a) (sym ej)
                      (subst (λ a. Names now_slots a j) (sym (single w.slot u t nm names')) (names_last slots x.slot u j t names names')),
                )
            | inr nj ↦
                let (w, has, nm) = waits.all e (omega arith) lt in
                (w, left_has w has (not_taken w e nm nj), same_name w.slot e nm nj (λ f. omega arith))
          ]

      pub waits_taken : Waits m k aim ys now_slots rest (t + 1) n
      waits_taken = record {
        each = all_both (λ w. (e : ℕ) × (t ≤ e) × (e < n) × Serves m k aim xs slots w e) (λ w. w.slot ≡ x.slot → ⊥) (λ w. (e : ℕ) × (t + 1 ≤ e) × (e < n) × Serves m k aim ys now_slots w e) served rest left_each left_apart;
        once = left_once;
        all = all;
        count = omega (arith, left_count);
      }

    -- x is taken out and y is put in its place, for the pair v that is written to the same place j
    module _ (single : (i j e : ℕ) → Names slots i e → Names slots j e → i ≡ j) (j : ℕ) (low : t ≤ j) (high : j < n) (room : j < length xs) (names : Names slots x.slot j)
        (v : Pair C K) (y : Open K) (same : y.slot ≡ x.slot) (prices : Prices y v) (vs : List (Open K)) (back : IsPermutation (y ∷ rest) vs) where
      lowered_serves : (w : Open K) → (e : ℕ) × (t ≤ e) × (e < n) × Serves m k aim xs slots w e → (w.slot ≡ x.slot → ⊥) →
          (e : ℕ) × (t ≤ e) × (e < n) × Serves m k aim (set xs j v) slots w e
      lowered_serves w (e, le, lt, serves) ne = (
        e,
        le,
        lt,
        record { names = serves.names; priced = λ z at. serves.priced z (stands_unset xs j e v z not_j at) },
      )
        where
          not_j : e ≡ j → ⊥
          not_j f = ne (single w.slot x.slot j (subst (λ a. Names slots w.slot a) f serves.names) names)

      new_serves : (e : ℕ) × (t ≤ e) × (e < n) × Serves m k aim (set xs j v) slots y e
      new_serves = (
        j,
        low,
        high,
        record {
          names = subst (λ a. Names slots a j) (sym same) names;
          priced = λ z at. subst (λ (w : Pair C K). Prices y w) (stands_unique (set xs j v) j v z (stands_set_same xs j v room) at) prices;
        },
      )

      pub waits_lowered : Waits m k aim (set xs j v) slots vs t n
      waits_lowered = record {
        each = all_shuffled (λ w. (e : ℕ) × (t ≤ e) × (e < n) × Serves m k aim (set xs j v) slots w e) (y ∷ rest) vs back
            (new_serves, all_both (λ w. (e : ℕ) × (t ≤ e) × (e < n) × Serves m k aim xs slots w e) (λ w. w.slot ≡ x.slot → ⊥) (λ w. (e : ℕ) × (t ≤ e) × (e < n) × Serves m k aim (set xs j v) slots w e) lowered_serves rest left_each left_apart);
        once = λ s. omega (arith, waiting_shuffled s (y ∷ rest) vs back, one_more s y rest, one_more s x rest, waiting_shuffled s ws (x ∷ rest) sh, waits.once s, counted s);
        all = all_lowered;
        count = let e : length vs ≡ length (y ∷ rest) = length_permutation (y ∷ rest) vs back in omega (arith, left_count);
      }
        where
          counted : (s : ℕ) → ◌≡◌ {A = ℕ} (cond (eqb y.slot s) 1 0) (cond (eqb x.slot s) 1 0)
          counted s = ap {B = ℕ} (λ a. cond (eqb a s) 1 0) same

          all_lowered : (e : ℕ) → t ≤ e → e < n → (w : Open K) × Has vs w × Names slots w.slot e
          all_lowered e le lt =
              elim (cases_eq e j) [
                | inl ej ↦ (
                  y,
                  has_shuffled (y ∷ rest) vs y back (has_first y rest),
                  subst (λ a. Names slots a e) (sym same) (subst (λ a. Names slots x.slot a) (sym ej) names),
                )
                | inr nj ↦
                    let (w, has, nm) = waits.all e le lt in
                    (w, has_shuffled (y ∷ rest) vs w back (has_later y w rest (left_has w has (gone w e nm nj))), nm)
              ]
            where
              gone : (w : Open K) (e : ℕ) → Names slots w.slot e → (e ≡ j → ⊥) → x ≡ w → ⊥
              gone w e nm nj f = let z : e + 1 ≡ j + 1 = sym nm ∙ ap (λ (v : Open K). get_or slots v.slot 0) (sym f) ∙ names in nj (omega arith)

  -- a pair v is added at the place n, which a slot that was vacant names now
  module _ (ws : List (Open K)) (t n : ℕ) (waits : Waits m k aim xs slots ws t n) (low : t ≤ n) (room : n < length xs) (v : Pair C K) (x : Open K) (prices : Prices x v)
      (slots' : List ℕ) (vacant : get_or slots x.slot 0 ≡ 0) (names : Names slots' x.slot n) (kept : (i e : ℕ) → Names slots i e → Names slots' i e)
      (vs : List (Open K)) (sh : IsPermutation (x ∷ ws) vs) where
    new_slot : (w : Open K) → (e : ℕ) × (t ≤ e) × (e < n) × Serves m k aim xs slots w e → w.slot ≡ x.slot → ⊥
    new_slot w (e, le, lt, serves) f = let z : e + 1 ≡ 0 = sym serves.names ∙ ap (λ a. get_or slots a 0) f ∙ vacant in omega arith

    added_serves : (w : Open K) → (e : ℕ) × (t ≤ e) × (e < n) × Serves m k aim xs slots w e → (e : ℕ) × (t ≤ e) × (e < n + 1) × Serves m k aim (set xs n v) slots' w e
    added_serves w (e, le, lt, serves) = (
      e,
      le,
      omega arith,
      record { names = kept w.slot e serves.names; priced = λ z at. serves.priced z (stands_unset xs n e v z (λ f. omega arith) at) },
    )

    pub waits_added : Waits m k aim (set xs n v) slots' vs t (n + 1)
    waits_added = record {
      each = all_shuffled (λ w. (e : ℕ) × (t ≤ e) × (e < n + 1) × Serves m k aim (set xs n v) slots' w e) (x ∷ ws) vs sh
          (here, All-weaker (λ w. (e : ℕ) × (t ≤ e) × (e < n) × Serves m k aim xs slots w e) (λ w. (e : ℕ) × (t ≤ e) × (e < n + 1) × Serves m k aim (set xs n v) slots' w e) added_serves ws waits.each);
      once = once;
      all = all_added;
      count = let e : length vs ≡ length (x ∷ ws) = length_permutation (x ∷ ws) vs sh in omega (arith, waits.count);
    }
      where
        here : (e : ℕ) × (t ≤ e) × (e < n + 1) × Serves m k aim (set xs n v) slots' x e
        here = (
          n,
          low,
          omega arith,
          record { names = names; priced = λ z at. subst (λ (w : Pair C K). Prices x w) (stands_unique (set xs n v) n v z (stands_set_same xs n v room) at) prices },
        )

        once : (s : ℕ) → waiting_at s vs ≤ 1
        once s =
            elim (cases_eq x.slot s) [
              | inl e ↦
                  let z = none_waiting s ws (All-weaker (λ w. (e : ℕ) × (t ≤ e) × (e < n) × Serves m k aim xs slots w e) (λ w. w.slot ≡ s → ⊥) (λ w a f. new_slot w a (f ∙ sym e)) ws waits.each) in
                  let f : ◌≡◌ {A = ℕ} (cond (eqb x.slot s) 1 0) 1 = ap (λ b. cond b 1 0) (eq-eqb x.slot s e) in
                  omega (arith, waiting_shuffled s (x ∷ ws) vs sh, one_more s x ws)
              | inr ne ↦
                  let f : ◌≡◌ {A = ℕ} (cond (eqb x.slot s) 1 0) 0 = ap (λ b. cond b 1 0) (ne_eqb x.slot s ne) in
                  omega (arith, waiting_shuffled s (x ∷ ws) vs sh, one_more s x ws, waits.once s)
            ]

        all_added : (e : ℕ) → t ≤ e → e < n + 1 → (w : Open K) × Has vs w × Names slots' w.slot e
        all_added e le lt =
            elim (cases_eq e n) [
              | inl en ↦ (x, has_shuffled (x ∷ ws) vs x sh (has_first x ws), subst (λ a. Names slots' x.slot a) (sym en) names)
              | inr ne ↦
                  let (w, has, nm) = waits.all e le (omega arith) in
                  (w, has_shuffled (x ∷ ws) vs w sh (has_later x w ws has), kept w.slot e nm)
            ]

  -- at the start nothing waits
  pub waits_none : Waits m k aim xs slots [] 0 0
  waits_none = record { each = tt; once = λ s. omega arith; all = λ e le lt. absurd (never e lt); count = refl }
    where
      never : (e : ℕ) → e < 0 → ⊥
      never e lt = omega arith
