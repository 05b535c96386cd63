-- The index of the found pairs, while places are swapped, added and written.
use Rattle.std.proofs.Common.{◌≡◌, ℕ, ◌+◌, ◌*◌, ◌<◌, ◌≤◌, List, length, get_or, take, set, Some, None, Ok, Err, Result, sym, refl, ap, ◌∙◌, subst, inl, inr, arith, length-set, length-take-le}
use Rattle.std.specs.Result.{result_unwrap_or}
use Rattle.std.proofs.lemmas.Bool.{cases_eq, cases_lt}
use Rattle.kinds.specs.declared.class.Class.{Ghosts as Classes}
use Rattle.tables.specs.declared.index.Found.{Found}
use Rattle.tables.specs.declared.index.NotEntered.{NotEntered}
use Rattle.tables.specs.declared.index.NotEntered.TheVariants.{Full, NoEntry}
use Rattle.tables.specs.Indexes.{Names, Absent, Indexed, Covers, Inserts}
use Rattle.tables.proofs.Crowding.{not_full_from_few}
use Rattle.tables.proofs.Renaming.{indexed_elsewhere, names_once}
use Rattle.tables.proofs.Swapping.{rewritten, indexed_swapped}
use Rattle.charts.specs.declared.chart.Pair.{Pair}
use Rattle.charts.specs.Charts.{Stands}
use Rattle.charts.proofs.Stands.{stands_some, stands_unique, stands_set_same, stands_set_other, stands_take, stands_untake}
use Rattle.steps.specs.Keys.{pair_keys, pairing, pair_of, pair_at}
use Rattle.steps.proofs.Keys.{pair_at-stands, pair_past, at_pair}

module _ {C K : Type 0} (b : Classes C) where
  -- the key of a found place
  pub key_of : (xs : List (Pair C K)) (n i : ℕ) (x : Pair C K) → n ≤ length xs → i < n → Stands xs i x → pair_at b (take n xs) i ≡ Some (pair_of b x)
  key_of xs n i x room lt at =
      pair_at-stands b (take n xs) i x (subst (λ a. i < a) (sym (length-take-le n xs room)) lt) (stands_take xs n i x lt at)

  pub key_past : (xs : List (Pair C K)) (n i : ℕ) → n ≤ length xs → n ≤ i → pair_at b (take n xs) i ≡ None
  key_past xs n i room le = pair_past b (take n xs) i (subst (λ a. a ≤ i) (sym (length-take-le n xs room)) le)

  -- a place with a key is found, and that is its pair
  pub of_key : (xs : List (Pair C K)) (n i : ℕ) (p : ℕ) (g : b.kind.Element) → n ≤ length xs → pair_at b (take n xs) i ≡ Some (pairing b p g) →
      (x : Pair C K) × (i < n) × Stands xs i x × (x.point ≡ p) × (b.element x.class ≡ g)
  of_key xs n i p g room e =
      let (x, lt, at, f, h) = at_pair b (take n xs) i p g e in
      let lt' : i < n = subst (λ a. i < a) (length-take-le n xs room) lt in
      (x, lt', stands_untake xs n i x lt' at, f, h)

  -- the same pair at two places has one key
  pub same_key : (xs ys : List (Pair C K)) (n k i j : ℕ) → n ≤ length xs → k ≤ length ys → i < n → j < k → ((x : Pair C K) → Stands xs i x → (y : Pair C K) × Stands ys j y × (pair_of b y ≡ pair_of b x)) →
      pair_at b (take k ys) j ≡ pair_at b (take n xs) i
  same_key xs ys n k i j room room' lt lt' same =
      let (x, at) = stands_some xs i (omega arith) in
      let (y, at', e) = same x at in
      key_of ys k j y room' lt' at' ∙ ap Some e ∙ sym (key_of xs n i x room lt at)

  module _ (xs : List (Pair C K)) (slots : List ℕ) (n : ℕ) (room : n ≤ length xs) (ix : Indexed (pair_keys b) (pair_at b (take n xs)) slots) where
    pub named_found : (i k : ℕ) → Names slots i k → k < n
    named_found i k names =
        let (m, (q, names', has)) = ix.placed i (λ z. let e : k + 1 ≡ 0 = sym names ∙ z in omega arith) in
        let (x, lt, _, _, _) = of_key xs n q m.0 m.1 room has in
        let e : q + 1 ≡ k + 1 = sym names' ∙ names in
        omega arith

    pub one_name : (i j e : ℕ) → Names slots i e → Names slots j e → i ≡ j
    one_name = names_once (pair_keys b) (pair_at b (take n xs)) slots ix

    -- what a look-up of a found place's own pair gives
    module _ (covers : Covers slots n) (place : ℕ) (lt : place < n) (x : Pair C K) (at : Stands xs place x) where
      pub look_up_finds : Absent (pair_at b (take n xs)) slots (pair_of b x) → ⊥
      look_up_finds absent = let (i, names) = covers place lt in absent i (place, names, key_of xs n place x room lt at)

      pub look_up_names : (f : Found) → Names slots f.slot f.place → pair_at b (take n xs) f.place ≡ Some (pair_of b x) → Names slots f.slot place
      look_up_names f names has =
          let (i, names') = covers place lt in
          subst (λ a. Names slots a place) (ix.single i f.slot (pair_of b x) (place, names', key_of xs n place x room lt at) (f.place, names, has)) names'

    -- two found places are swapped, and their slots rewritten
    pub indexed_exchanged : (ys : List (Pair C K)) (s t p q : ℕ) → Names slots s p → Names slots t q → length ys ≡ length xs →
        ((d : Pair C K) → get_or ys q d ≡ get_or xs p d) → ((d : Pair C K) → get_or ys p d ≡ get_or xs q d) →
        ((e : ℕ) (d : Pair C K) → (e ≡ q → ⊥) → (e ≡ p → ⊥) → get_or ys e d ≡ get_or xs e d) →
        Indexed (pair_keys b) (pair_at b (take n ys)) (rewritten slots s t p q)
    indexed_exchanged ys s t p q names names' len first second others =
        indexed_swapped (pair_keys b) (pair_at b (take n xs)) (pair_at b (take n ys)) slots ix s t p q names names' (record {
          one = moved q p (named_found t q names') (named_found s p names) second;
          other = moved p q (named_found s p names) (named_found t q names') first;
          rest = rest;
        })
      where
        room' : n ≤ length ys
        room' = omega arith

        moved : (i j : ℕ) → i < n → j < n → ((d : Pair C K) → get_or ys j d ≡ get_or xs i d) → pair_at b (take n ys) j ≡ pair_at b (take n xs) i
        moved i j lt lt' same = same_key xs ys n n i j room room' lt lt' (λ x at. (x, (λ d. same d ∙ at d), refl))

        rest : (k : ℕ) → (k ≡ p → ⊥) → (k ≡ q → ⊥) → pair_at b (take n ys) k ≡ pair_at b (take n xs) k
        rest k np nq =
            elim (cases_lt k n) [
              | inl lt ↦ moved k k lt lt (λ d. others k d nq np)
              | inr le ↦ key_past ys n k room' le ∙ sym (key_past xs n k room le)
            ]

    -- a pair is written to the next place, which no slot names yet
    pub indexed_next : (v : Pair C K) → n < length xs → Indexed (pair_keys b) (pair_at b (take (n + 1) (set xs n v))) slots
    indexed_next v more =
        indexed_elsewhere (pair_keys b) (pair_at b (take n xs)) (pair_at b (take (n + 1) (set xs n v))) slots ix
        (λ i k names.
        let lt = named_found i k names in
        sym (same_key xs (set xs n v) n (n + 1) k k room (omega (arith, length-set xs n v)) lt (omega arith)
        (λ x at. (x, stands_set_other xs n k v x (λ e. omega arith) at, refl))))

    pub key_next : (v : Pair C K) → n < length xs → pair_at b (take (n + 1) (set xs n v)) n ≡ Some (pair_of b v)
    key_next v more = key_of (set xs n v) (n + 1) n v (omega (arith, length-set xs n v)) (omega arith) (stands_set_same xs n v more)

    -- no slot had its key, so none has it then
    pub absent_next : (v : Pair C K) → n < length xs → Absent (pair_at b (take n xs)) slots (pair_of b v) → Absent (pair_at b (take (n + 1) (set xs n v))) slots (pair_of b v)
    absent_next v more absent i (k, names, has) =
        let lt = named_found i k names in
        absent i (
          k,
          names,
          sym (same_key xs (set xs n v) n (n + 1) k k room (omega (arith, length-set xs n v)) lt (omega arith)
              (λ x at. (x, stands_set_other xs n k v x (λ e. omega arith) at, refl))) ∙ has,
        )

    -- the same pair is written again to its place
    pub indexed_again : (j : ℕ) (y v : Pair C K) → j < n → Stands xs j y → pair_of b v ≡ pair_of b y → Indexed (pair_keys b) (pair_at b (take n (set xs j v))) slots
    indexed_again j y v lt at e =
        indexed_elsewhere (pair_keys b) (pair_at b (take n xs)) (pair_at b (take n (set xs j v))) slots ix
        (λ i k names. sym (same_key xs (set xs j v) n n k k room (omega (arith, length-set xs j v)) (named_found i k names) (named_found i k names) (kept k)))
      where
        kept : (k : ℕ) (x : Pair C K) → Stands xs k x → (z : Pair C K) × Stands (set xs j v) k z × (pair_of b z ≡ pair_of b x)
        kept k x atk =
            elim (cases_eq k j) [
              | inl f ↦ (
                v,
                subst (λ a. Stands (set xs j v) a v) (sym f) (stands_set_same xs j v (omega arith)),
                e ∙ ap (pair_of b) (stands_unique xs j y x at (subst (λ a. Stands xs a x) f atk)),
              )
              | inr ne ↦ (x, stands_set_other xs j k v x ne atk, refl)
            ]

  -- only found places have keys
  pub keys_few : (xs : List (Pair C K)) (n : ℕ) → n ≤ length xs → (k : ℕ) (m : (pair_keys b).Meaning) → pair_at b (take n xs) k ≡ Some m → k < n
  keys_few xs n room k m has = let (x, lt, _, _, _) = of_key xs n k m.0 m.1 room has in lt

  -- a slot is left for the next pair, so the index takes it
  pub inserts_so : (xs : List (Pair C K)) (slots slots' : List ℕ) (n h i : ℕ) (r : Result ℕ NotEntered) → i ≡ result_unwrap_or r 0 → length xs ≤ 4096 → n < length xs → length slots ≡ 2 * length xs →
      Indexed (pair_keys b) (pair_at b (take (n + 1) xs)) slots → Inserts h n slots slots' r → Inserts h n slots slots' (Ok i)
  inserts_so xs slots slots' n h i (Ok k) e few room slotted ix inserts = subst (λ a. Inserts h n slots slots' (Ok a)) (sym e) inserts
  inserts_so xs slots slots' n h i (Err Full) e few room slotted ix inserts =
      absurd (not_full_from_few (pair_keys b) (pair_at b (take (n + 1) xs)) slots ix (n + 1) (keys_few xs (n + 1) (omega arith)) (omega arith) h n slots' inserts)
  inserts_so xs slots slots' n h i (Err NoEntry) e few room slotted ix inserts = absurd (omega (arith, inserts.0))
