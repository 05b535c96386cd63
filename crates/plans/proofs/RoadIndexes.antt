-- A well-kept index of survey numbers: where a number is found, that it is not there, and one number more.
use Rattle.std.proofs.Common.{◌≡◌, ℕ, ◌+◌, ◌<◌, List, [], ◌∷◌, ◌++◌, length, get_or, Some, Ok, Err, Option, Result, sym, refl, ap, ◌∙◌, arith}
use Rattle.std.proofs.lemmas.List.{length_push, get_or_push}
use Rattle.tables.specs.declared.index.NotEntered.{NotEntered}
use Rattle.tables.specs.declared.index.NotEntered.TheVariants.{Full, NoEntry}
use Rattle.tables.specs.Indexes.{Names, Absent, Indexed, Covers, Inserts, Keeps}
use Rattle.tables.proofs.Renaming.{indexed_elsewhere}
use Rattle.tables.proofs.Covering.{covers_inserts, absent_covered}
use Rattle.tables.proofs.Crowding.{not_full_from_few}
use Rattle.plans.specs.Surveys.{numbers}
use Rattle.plans.specs.Meanings.{index_of}
use Rattle.plans.specs.RoadSteps.{listed, Known}
use Rattle.plans.proofs.RoadPlaces.{known_from_at, get_or_place_in, listed_below, below_listed, listed_append}

-- the index of the same places
pub indexed_same : (at at' : ℕ → Option ℕ) (slots : List ℕ) → ((k : ℕ) → at k ≡ at' k) → Indexed numbers at slots → Indexed numbers at' slots
indexed_same at at' slots same ix = indexed_elsewhere numbers at at' slots ix (λ i k n. same k)

module _ (ns slots : List ℕ) (ix : Indexed numbers (listed ns) slots) where
  -- a place that a slot names has a number
  named_below : (i k : ℕ) → Names slots i k → k < length ns
  named_below i k names =
      let (m, (q, n, has)) = ix.placed i (λ z. let e : k + 1 ≡ 0 = sym names ∙ z in omega arith) in
      let e : q + 1 ≡ k + 1 = sym n ∙ names in
      let same : q ≡ k = omega arith in
      let b = below_listed ns q m has in
      omega (arith, b.0)

  module _ (all : Covers slots (length ns)) where
    -- no number stands at two places
    once : (i k : ℕ) → i < length ns → k < length ns → get_or ns i 0 ≡ get_or ns k 0 → i ≡ k
    once i k il kl e =
        let (p, pn) = all i il in
        let (q, qn) = all k kl in
        let n = get_or ns k 0 in
        let same : p ≡ q = ix.single p q n (i, pn, listed_below ns i il ∙ ap Some e) (k, qn, listed_below ns k kl) in
        let both : i + 1 ≡ k + 1 = sym pn ∙ ap (λ a. get_or slots a 0) same ∙ qn in
        omega arith

    -- a number is known at the place where it is found
    pub known_found : (k n : ℕ) → listed ns k ≡ Some n → Known ns n
    known_found k n e = let b = below_listed ns k n e in known_from_at ns k n b.0 b.1

    pub place_in_found : (k n : ℕ) → listed ns k ≡ Some n → index_of ns n ≡ k
    place_in_found k n e =
        let b = below_listed ns k n e in
        let known = known_found k n e in
        once (index_of ns n) k known b.0 (get_or_place_in ns n known ∙ sym b.1)

    -- a number that no slot names is not known
    pub unknown_absent : (n : ℕ) → Absent (listed ns) slots n → Known ns n → ⊥
    unknown_absent n absent known =
        absent_covered (listed ns) slots n (length ns) all absent (index_of ns n) known (listed_below ns (index_of ns n) known ∙ ap Some (get_or_place_in ns n known))

    module _ (n : ℕ) (new : Known ns n → ⊥) (to : List ℕ) where
      grown : Indexed numbers (listed (ns ++ (n ∷ []))) slots
      grown = indexed_elsewhere numbers (listed ns) (listed (ns ++ (n ∷ []))) slots ix (λ i k names. sym (listed_append ns (n ∷ []) k (named_below i k names)))

      -- with the number inserted as the next place, the index is well kept
      pub indexed_more : Keeps numbers n (length ns) slots to → Indexed numbers (listed (ns ++ (n ∷ []))) to
      indexed_more keeps =
          let here : listed (ns ++ (n ∷ [])) (length ns) ≡ Some n =
          listed_below (ns ++ (n ∷ [])) (length ns) (omega (arith, length_push ns n)) ∙ ap Some (get_or_push ns n 0 (length ns) refl) in
          keeps (listed (ns ++ (n ∷ []))) grown here
          (λ i (k, names, has). new (known_found k n (sym (listed_append ns (n ∷ []) k (named_below i k names)) ∙ has)))

      -- and names each place
      pub covers_more : length ns < length slots → length ns < 65535 → (r : Result ℕ NotEntered) → Inserts n (length ns) slots to r → Covers to (length ns + 1)
      covers_more room few (Ok i) placed = covers_inserts n (length ns) slots to i placed all
      covers_more room few (Err Full) placed =
          absurd (not_full_from_few numbers (listed ns) slots ix (length ns) (λ k m e. (below_listed ns k m e).0) room n (length ns) to placed)
      covers_more room few (Err NoEntry) (many, _) = absurd (omega arith)
