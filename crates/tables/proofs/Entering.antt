-- A place more in a well-kept index: the first vacant slot on the way of its key names it.
use Rattle.std.proofs.Common.{◌≡◌, ℕ, ◌+◌, ◌<◌, List, length, get_or, set, Some, Ok, Err, Option, Result, sym, ap, ◌∙◌, subst, inl, inr, arith, length-set, get_or-set_other, get_or-set_same}
use Rattle.std.proofs.lemmas.Bool.{cases_eq}
use Rattle.tables.specs.Probes.{KeyKind, Met}
use Rattle.tables.specs.declared.index.NotEntered.{NotEntered}
use Rattle.tables.specs.declared.index.NotEntered.TheVariants.{Full, NoEntry}
use Rattle.tables.specs.Indexes.{Names, Has, Absent, Indexed, Inserts, Keeps}
use Rattle.tables.proofs.Meeting.{met_within, met_kept}

module _ (slots : List ℕ) (s k : ℕ) (lt : s < length slots) (vacant : get_or slots s 0 ≡ 0) where
  -- the slot names the place
  pub names_here : Names (set slots s (k + 1)) s k
  names_here = get_or-set_same slots s (k + 1) 0 lt

  -- a slot that named a place names it still
  pub names_kept : (i p : ℕ) → Names slots i p → Names (set slots s (k + 1)) i p
  names_kept i p names =
      get_or-set_other slots s i (k + 1) 0 (λ e. let z : p + 1 ≡ 0 = sym names ∙ ap (λ a. get_or slots a 0) e ∙ vacant in omega arith) ∙ names

  -- a slot that is taken is taken still
  pub taken_kept : (i : ℕ) → (get_or slots i 0 ≡ 0 → ⊥) → get_or (set slots s (k + 1)) i 0 ≡ 0 → ⊥
  taken_kept i taken e = taken (sym (get_or-set_other slots s i (k + 1) 0 (λ q. taken (ap (λ a. get_or slots a 0) q ∙ vacant))) ∙ e)

module _ (K : KeyKind) (at : ℕ → Option K.Meaning) (slots : List ℕ) (m : K.Meaning) (k s j : ℕ)
    (ix : Indexed K at slots) (new : at k ≡ Some m) (absent : Absent at slots m) (first : Met slots (K.hash m) s j) (vacant : get_or slots s 0 ≡ 0) where
  lt : s < length slots
  lt = met_within slots (K.hash m) s j first

  -- what another slot names, it named before
  old : (i : ℕ) (p : K.Meaning) → (i ≡ s → ⊥) → Has at (set slots s (k + 1)) i p → Has at slots i p
  old i p ne (q, names, has) = (q, sym (get_or-set_other slots s i (k + 1) 0 ne) ∙ names, has)

  -- what that slot names has the key
  here : (i : ℕ) (p : K.Meaning) → i ≡ s → Has at (set slots s (k + 1)) i p → p ≡ m
  here i p e (q, names, has) =
      let n : k + 1 ≡ q + 1 = sym (names_here slots s k lt vacant) ∙ sym (ap (λ a. get_or (set slots s (k + 1)) a 0) e) ∙ names in
      let same : k ≡ q = omega arith in
      let has' : at k ≡ Some p = ap at same ∙ has in
      cc

  met : (i j : ℕ) (p : K.Meaning) → Met slots (K.hash p) i j → Met (set slots s (k + 1)) (K.hash p) i j
  met i j p = met_kept slots (set slots s (k + 1)) (K.hash p) i j (length-set slots s (k + 1)) (taken_kept slots s k lt vacant)

  pub indexed_inserted : Indexed K at (set slots s (k + 1))
  indexed_inserted = record {
    placed = λ i taken. elim (cases_eq i s) [
      | inl e ↦ (m, (k, ap (λ a. get_or (set slots s (k + 1)) a 0) e ∙ names_here slots s k lt vacant, new))
      | inr ne ↦
          let (p, (q, names, has)) = ix.placed i (λ z. taken (get_or-set_other slots s i (k + 1) 0 ne ∙ z)) in
          (p, (q, names_kept slots s k lt vacant i q names, has))
    ];
    single = λ i i' p a b. elim (cases_eq i s) [
      | inl e ↦ elim (cases_eq i' s) [
        | inl e' ↦ e ∙ sym e'
        | inr ne' ↦ absurd (absent i' (subst (Has at slots i') (here i p e a) (old i' p ne' b)))
      ]
      | inr ne ↦ elim (cases_eq i' s) [
        | inl e' ↦ absurd (absent i (subst (Has at slots i) (here i' p e' b) (old i p ne a)))
        | inr ne' ↦ ix.single i i' p (old i p ne a) (old i' p ne' b)
      ]
    ];
    met = λ i p a. elim (cases_eq i s) [
      | inl e ↦ (j, met i j p (subst (λ x. Met slots x i j) (ap K.hash (sym (here i p e a))) (subst (λ x. Met slots (K.hash m) x j) (sym e) first)))
      | inr ne ↦ let (j', was) = ix.met i p (old i p ne a) in (j', met i j' p was)
    ];
  }

-- whatever became of the place, the index is well kept after it
pub keeps_inserts : (K : KeyKind) (m : K.Meaning) (k : ℕ) (from to : List ℕ) (r : Result ℕ NotEntered) → Inserts (K.hash m) k from to r → Keeps K m k from to
keeps_inserts K m k from to (Ok i) (_, (j, first, vacant), e) at ix new absent =
    subst (Indexed K at) (sym e) (indexed_inserted K at from m k i j ix new absent first vacant)
keeps_inserts K m k from to (Err Full) (_, _, e) at ix new absent = subst (Indexed K at) (sym e) ix
keeps_inserts K m k from to (Err NoEntry) (_, e) at ix new absent = subst (Indexed K at) (sym e) ix

-- the slot that it is inserted at is one of the slots, names it, and the others name what they named
pub inserts_within : (h k : ℕ) (from to : List ℕ) (i : ℕ) → Inserts h k from to (Ok i) → i < length from
inserts_within h k from to i (_, (j, first, vacant), e) = met_within from h i j first

pub inserts_names : (h k : ℕ) (from to : List ℕ) (i : ℕ) → Inserts h k from to (Ok i) → Names to i k
inserts_names h k from to i (_, (j, first, vacant), e) =
    ap (λ s. get_or s i 0) e ∙ names_here from i k (met_within from h i j first) vacant

pub inserts_keeps_names : (h k : ℕ) (from to : List ℕ) (i : ℕ) → Inserts h k from to (Ok i) → (q p : ℕ) → Names from q p → Names to q p
inserts_keeps_names h k from to i (_, (j, first, vacant), e) q p names =
    ap (λ s. get_or s q 0) e ∙ names_kept from i k (met_within from h i j first) vacant q p names

-- it was vacant, and the slots are as many as before
pub inserts_vacant : (h k : ℕ) (from to : List ℕ) (i : ℕ) → Inserts h k from to (Ok i) → get_or from i 0 ≡ 0
inserts_vacant h k from to i (_, (j, first, vacant), e) = vacant

pub inserts_length : (h k : ℕ) (from to : List ℕ) (i : ℕ) → Inserts h k from to (Ok i) → length to ≡ length from
inserts_length h k from to i (_, _, e) = ap length e ∙ length-set from i (k + 1)
