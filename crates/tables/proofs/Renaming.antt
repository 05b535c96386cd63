-- Places that move: a well-kept index stays so if each slot names a place of the same key as before.
use Rattle.std.proofs.Common.{◌≡◌, ℕ, ◌+◌, ◌-◌, ◌⊎◌, List, length, get_or, set, Some, Option, sym, refl, ap, ◌∙◌, inl, inr, arith, length-set, get_or-set_other, get_or-set_same}
use Rattle.std.proofs.lemmas.Bool.{cases_eq}
use Rattle.tables.specs.Probes.{KeyKind}
use Rattle.tables.specs.Indexes.{Names, Has, Indexed}
use Rattle.tables.proofs.Meeting.{met_kept, names_within}

-- the slot i is vacant before and after, or it names places of one key
abbrev pub Alike : {M : Type 0} → (ℕ → Option M) → List ℕ → (ℕ → Option M) → List ℕ → ℕ → Type 0
Alike at from at' to i =
    ((get_or from i 0 ≡ 0) × (get_or to i 0 ≡ 0)) ⊎ ((k : ℕ) × (k' : ℕ) × Names from i k × Names to i k' × (at k ≡ at' k'))

module _ {M : Type 0} (at at' : ℕ → Option M) (from to : List ℕ) (i : ℕ) where
  pub alike_back : Alike at from at' to i → Alike at' to at from i
  alike_back (inl (z, z')) = inl (z', z)
  alike_back (inr (k, k', n, n', e)) = inr (k', k, n', n, sym e)

  pub alike_has : (m : M) → Alike at from at' to i → Has at from i m → Has at' to i m
  alike_has m (inl (z, z')) (q, names, has) = let e : q + 1 ≡ 0 = sym names ∙ z in absurd (omega arith)
  alike_has m (inr (k, k', n, n', e)) (q, names, has) =
      let s : k + 1 ≡ q + 1 = sym n ∙ names in
      let same : k ≡ q = omega arith in
      (k', n', sym e ∙ ap at same ∙ has)

  pub alike_taken : Alike at from at' to i → (get_or from i 0 ≡ 0 → ⊥) → get_or to i 0 ≡ 0 → ⊥
  alike_taken (inl (z, z')) taken v = taken z
  alike_taken (inr (k, k', n, n', e)) taken v = let e : k' + 1 ≡ 0 = sym n' ∙ v in omega arith

module _ (K : KeyKind) (at at' : ℕ → Option K.Meaning) (from to : List ℕ) where
  pub indexed_alike : length to ≡ length from → ((i : ℕ) → Alike at from at' to i) → Indexed K at from → Indexed K at' to
  indexed_alike e alike ix = record {
    placed = λ i taken.
        let (m, has) = ix.placed i (alike_taken at' at to from i (back i) taken) in
        (m, alike_has at at' from to i m (alike i) has);
    single = λ i j m a b. ix.single i j m (had i m a) (had j m b);
    met = λ i m a.
        let (j, met) = ix.met i m (had i m a) in
        (j, met_kept from to (K.hash m) i j e (λ q. alike_taken at at' from to q (alike q)) met);
  }
    where
      back : (i : ℕ) → Alike at' to at from i
      back i = alike_back at at' from to i (alike i)

      had : (i : ℕ) (m : K.Meaning) → Has at' to i m → Has at from i m
      had i m = alike_has at' at to from i m (back i)

-- a slot is vacant or names a place
pub vacant_or_names : (slots : List ℕ) (i : ℕ) → (get_or slots i 0 ≡ 0) ⊎ ((k : ℕ) × Names slots i k)
vacant_or_names slots i =
    elim (cases_eq (get_or slots i 0) 0) [
      | inl z ↦ inl z
      | inr n ↦ inr (get_or slots i 0 - 1, omega arith)
    ]

-- no two slots name one place
pub names_once : (K : KeyKind) (at : ℕ → Option K.Meaning) (slots : List ℕ) → Indexed K at slots → (i j k : ℕ) → Names slots i k → Names slots j k → i ≡ j
names_once K at slots ix i j k a b =
    let (m, (q, n, has)) = ix.placed i (λ z. let e : k + 1 ≡ 0 = sym a ∙ z in omega arith) in
    let s : q + 1 ≡ k + 1 = sym n ∙ a in
    let same : q ≡ k = omega arith in
    let has' : at k ≡ Some m = ap at (sym same) ∙ has in
    ix.single i j m (k, a, has') (k, b, has')

module _ (K : KeyKind) (at at' : ℕ → Option K.Meaning) (slots : List ℕ) (ix : Indexed K at slots) where
  -- a change of places that no slot names
  pub indexed_elsewhere : ((i k : ℕ) → Names slots i k → at k ≡ at' k) → Indexed K at' slots
  indexed_elsewhere same = indexed_alike K at at' slots slots refl alike ix
    where
      alike : (i : ℕ) → Alike at slots at' slots i
      alike i = elim (vacant_or_names slots i) [ inl z ↦ inl (z, z) | inr (k, n) ↦ inr (k, k, n, n, same i k n) ]

  -- the key of the place p, which the slot s named, has moved to the place q, which it names now
  pub indexed_moved : (s p q : ℕ) → Names slots s p → at p ≡ at' q → ((i k : ℕ) → (i ≡ s → ⊥) → Names slots i k → at k ≡ at' k) → Indexed K at' (set slots s (q + 1))
  indexed_moved s p q names moved same = indexed_alike K at at' slots (set slots s (q + 1)) (length-set slots s (q + 1)) alike ix
    where
      alike : (i : ℕ) → Alike at slots at' (set slots s (q + 1)) i
      alike i = elim (cases_eq i s) [
        | inl e ↦ inr (p, q, ap (λ a. get_or slots a 0) e ∙ names, ap (λ a. get_or (set slots s (q + 1)) a 0) e ∙ get_or-set_same slots s (q + 1) 0 (names_within slots s p names), moved)
        | inr ne ↦ elim (vacant_or_names slots i) [
          | inl z ↦ inl (z, get_or-set_other slots s i (q + 1) 0 ne ∙ z)
          | inr (k, n) ↦ inr (k, k, n, get_or-set_other slots s i (q + 1) 0 ne ∙ n, same i k ne n)
        ]
      ]
