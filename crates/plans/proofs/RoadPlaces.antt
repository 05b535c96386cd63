-- The place of a number among others.
use Rattle.std.proofs.Common.{◌≡◌, ℕ, zero, suc, ◌<◌, ◌≤◌, ◌⊎◌, List, [], ◌∷◌, ◌++◌, length, get_or, Some, None, sym, ap, ◌∙◌, inl, inr, arith}
use Rattle.std.proofs.lemmas.List.{length-append, get_or_append_left}
use Rattle.std.proofs.lemmas.Bool.{eq-eqb, ne_eqb, cases_eq, cases_lt, lt-ltb, le-ltb}
use Rattle.plans.specs.Meanings.{index_of}
use Rattle.plans.specs.RoadSteps.{Known, listed}

place_in_same : (m : ℕ) (ns : List ℕ) (n : ℕ) → m ≡ n → index_of (m ∷ ns) n ≡ 0
place_in_same m ns n e = let t = eq-eqb m n e in simp t

place_in_other : (m : ℕ) (ns : List ℕ) (n : ℕ) → (m ≡ n → ⊥) → index_of (m ∷ ns) n ≡ suc (index_of ns n)
place_in_other m ns n ne = let t = ne_eqb m n ne in simp t

pub known_here : (m : ℕ) (ns : List ℕ) (n : ℕ) → m ≡ n → Known (m ∷ ns) n
known_here m ns n e = omega (arith, place_in_same m ns n e)

pub known_later : (m : ℕ) (ns : List ℕ) (n : ℕ) → Known ns n → Known (m ∷ ns) n
known_later m ns n k = elim (cases_eq m n) [ inl e ↦ known_here m ns n e | inr ne ↦ omega (arith, place_in_other m ns n ne) ]

-- a known number is the first or known among the others
pub known_cases : (m : ℕ) (ns : List ℕ) (n : ℕ) → Known (m ∷ ns) n → (m ≡ n) ⊎ Known ns n
known_cases m ns n k = elim (cases_eq m n) [ inl e ↦ inl e | inr ne ↦ inr (omega (arith, place_in_other m ns n ne)) ]

-- the number at a place is known
pub known_from_at : (ns : List ℕ) (k n : ℕ) → k < length ns → get_or ns k 0 ≡ n → Known ns n
known_from_at [] k n l e = absurd (omega arith)
known_from_at (m ∷ ns) zero n l e = known_here m ns n e
known_from_at (m ∷ ns) (suc k) n l e = known_later m ns n (known_from_at ns k n (omega arith) e)

-- a known number stands at its place
pub get_or_place_in : (ns : List ℕ) (n : ℕ) → Known ns n → get_or ns (index_of ns n) 0 ≡ n
get_or_place_in [] n k = absurd (omega arith)
get_or_place_in (m ∷ ns) n k =
    elim (cases_eq m n) [
      | inl e ↦ ap (λ i. get_or (m ∷ ns) i 0) (place_in_same m ns n e) ∙ e
      | inr ne ↦
          let later : Known ns n = omega (arith, place_in_other m ns n ne) in
          ap (λ i. get_or (m ∷ ns) i 0) (place_in_other m ns n ne) ∙ get_or_place_in ns n later
    ]

-- more numbers behind leave the place of a known one
pub place_in_append : (ns ms : List ℕ) (n : ℕ) → Known ns n → index_of (ns ++ ms) n ≡ index_of ns n
place_in_append [] ms n k = absurd (omega arith)
place_in_append (m ∷ ns) ms n k =
    elim (cases_eq m n) [
      | inl e ↦ place_in_same m (ns ++ ms) n e ∙ sym (place_in_same m ns n e)
      | inr ne ↦
          let later : Known ns n = omega (arith, place_in_other m ns n ne) in
          place_in_other m (ns ++ ms) n ne ∙ ap suc (place_in_append ns ms n later) ∙ sym (place_in_other m ns n ne)
    ]

pub known_append : (ns ms : List ℕ) (n : ℕ) → Known ns n → Known (ns ++ ms) n
known_append ns ms n k = omega (arith, place_in_append ns ms n k, length-append ns ms)

-- what is listed at a place, and where
pub listed_below : (ns : List ℕ) (k : ℕ) → k < length ns → listed ns k ≡ Some (get_or ns k 0)
listed_below ns k l = let t = lt-ltb k (length ns) l in simp t

pub listed_past : (ns : List ℕ) (k : ℕ) → length ns ≤ k → listed ns k ≡ None
listed_past ns k l = let t = le-ltb k (length ns) l in simp t

pub below_listed : (ns : List ℕ) (k n : ℕ) → listed ns k ≡ Some n → (k < length ns) × (get_or ns k 0 ≡ n)
below_listed ns k n e =
    elim (cases_lt k (length ns)) [
      | inl l ↦ let s = listed_below ns k l in (l, cc)
      | inr g ↦ let s = listed_past ns k g in let z : ◌≡◌ {A = ℕ} 0 1 = cc in absurd (omega arith)
    ]

pub listed_append : (ns ms : List ℕ) (k : ℕ) → k < length ns → listed (ns ++ ms) k ≡ listed ns k
listed_append ns ms k l =
    listed_below (ns ++ ms) k (omega (arith, length-append ns ms)) ∙ ap Some (get_or_append_left ns ms 0 k l) ∙ sym (listed_below ns k l)
