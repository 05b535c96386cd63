-- What a look-up that finds nothing says of a well-kept index.
use Rattle.std.proofs.Common.{◌≡◌, ℕ, ◌+◌, List, get_or, Some, None, Option, sym, ap, ◌∙◌, subst, inl, inr, arith}
use Rattle.std.proofs.lemmas.Bool.{cases_lt}
use Rattle.tables.specs.Probes.{KeyKind, on_way}
use Rattle.tables.specs.declared.index.Found.{Found}
use Rattle.tables.specs.Indexes.{Absent, Indexed, LooksUp, Exact}

-- a place that a passed slot names does not have the key
pub not_passed : {M : Type 0} (at : ℕ → Option M) (m : M) (k k' : ℕ) → at k ≡ Some m → k' + 1 ≡ k + 1 → (at k' ≡ Some m → ⊥) → ⊥
not_passed at m k k' has e not = let same : k ≡ k' = omega arith in not (subst (λ a. at a ≡ Some m) same has)

pub absent_from_none : (K : KeyKind) (at : ℕ → Option K.Meaning) (slots : List ℕ) (m : K.Meaning) → Indexed K at slots → LooksUp K at slots m None →
    Absent at slots m
absent_from_none K at slots m ix (j, passed, ends) i has =
    let (q, met) = ix.met i m has in
    let here : on_way slots (K.hash m) q ≡ has.0 + 1 = ap (λ a. get_or slots a 0) (sym met.here) ∙ has.1 in
    elim (cases_lt q j) [
      | inl lt ↦ let (k, e, not) = passed q lt in not_passed at m has.0 k has.2 (sym e ∙ here) not
      | inr le ↦
          elim ends [
            | inl all ↦ omega (arith, met.within)
            | inr vacant ↦
                elim (cases_lt j q) [
                  | inl lt ↦ met.before j lt vacant
                  | inr ge ↦
                      let same : q ≡ j = omega arith in
                      let z : has.0 + 1 ≡ 0 = sym here ∙ ap (on_way slots (K.hash m)) same ∙ vacant in
                      omega arith
                ]
          ]
    ]

-- what is answered first on the way is exact in a well-kept index
pub exact_from_first : (K : KeyKind) (at : ℕ → Option K.Meaning) (slots : List ℕ) (m : K.Meaning) (r : Option Found) → LooksUp K at slots m r → Exact K at slots m r
exact_from_first K at slots m None first ix = absent_from_none K at slots m ix first
exact_from_first K at slots m (Some f) (j, passed, lt, here, named, has) ix = (named, has)
