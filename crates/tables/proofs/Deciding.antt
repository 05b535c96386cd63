-- A look-up has one answer, whatever the slots hold.
use Rattle.std.proofs.Common.{◌≡◌, ℕ, ◌+◌, ◌<◌, List, length, get_or, Some, None, Option, sym, refl, ap, ◌∙◌, inl, inr, arith}
use Rattle.std.proofs.lemmas.Bool.{cases_order}
use Rattle.tables.specs.declared.index.Found.{Found}
use Rattle.tables.specs.Probes.{KeyKind, way_at, on_way}
use Rattle.tables.specs.Indexes.{Passed, LooksUp}
use Rattle.tables.proofs.Finding.{not_passed}

module _ (K : KeyKind) (at : ℕ → Option K.Meaning) (slots : List ℕ) (m : K.Meaning) where
  -- the slot that is found was not passed
  reached : (f : Found) (found : LooksUp K at slots m (Some f)) (j : ℕ) → Passed at slots (K.hash m) m j → found.0 < j → ⊥
  reached f (i, passed, within, slot, names, has) j passed' lt =
      let (k, e, not) = passed' i lt in
      not_passed at m f.place k has (sym e ∙ ap (λ a. get_or slots a 0) (sym slot) ∙ names) not

  -- where a look-up ends with nothing, no slot was found at or before that step
  pub found_or_none : (f : Found) → LooksUp K at slots m (Some f) → LooksUp K at slots m None → ⊥
  found_or_none f found (j, passed, ends) =
      let (i, passed', within, slot, names, has) = found in
      elim (cases_order i j) [
        | inl e ↦ elim ends [
          | inl all ↦ omega arith
          | inr vacant ↦ empty i j f.place e (ap (λ a. get_or slots a 0) (sym slot) ∙ names) vacant
        ]
        | inr (inl lt) ↦ reached f found j passed lt
        | inr (inr gt) ↦ elim ends [
          | inl all ↦ omega arith
          | inr vacant ↦ let (k, e, _) = passed' j gt in empty j j k refl e vacant
        ]
      ]
    where
      empty : (i j k : ℕ) → i ≡ j → on_way slots (K.hash m) i ≡ k + 1 → on_way slots (K.hash m) j ≡ 0 → ⊥
      empty i j k e a z = let u : k + 1 ≡ 0 = sym a ∙ ap (on_way slots (K.hash m)) e ∙ z in omega arith

  -- two slots that are found are one
  pub found_once : (f f' : Found) → LooksUp K at slots m (Some f) → LooksUp K at slots m (Some f') → (f.slot ≡ f'.slot) × (f.place ≡ f'.place)
  found_once f f' found found' =
      let (i, passed, within, slot, names, has) = found in
      let (i', passed', within', slot', names', has') = found' in
      let same : i ≡ i' = one i i' (reached f found i' passed') (reached f' found' i passed) in
      let s : f.slot ≡ f'.slot = slot ∙ ap (way_at (length slots) (K.hash m)) same ∙ sym slot' in
      let p : f.place + 1 ≡ f'.place + 1 = sym names ∙ ap (λ a. get_or slots a 0) s ∙ names' in
      (s, omega arith)
    where
      one : (i j : ℕ) → (i < j → ⊥) → (j < i → ⊥) → i ≡ j
      one i j a b = omega arith
