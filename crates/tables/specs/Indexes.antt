-- A hash index over slots: what its calls answer, and what it is to be well kept. Assumes nothing.
--     Names slots i k           the slot i names the place k
--     Has at slots i m          the slot i names a place whose key means m; `at` gives what the key of a place means
--     Absent at slots m         no slot names such a place
--     Indexed K at slots        the index is well kept
--     Covers slots n            each of the first n places is named by a slot
--     NamesOther at m e         the entry e names a place whose key does not mean m
--     Reads at m i e r          r is the slot i, whose entry is e, and the place that it names, whose key means m, or none and e is vacant or names another
--     Passed at slots h m j     the first j slots on the way of the hash h are taken, by places whose keys do not mean m
--     LooksUp K at slots m r    r is the first slot on the way of m that names a place whose key means m, or none if a vacant slot or a whole turn comes first
--     Answers at slots m r      r is a slot and the place that it names, whose key means m, or none and no slot names such a place
--     Exact K at slots m r      r answers so if the index is well kept
--     Taken slots h j           the first j slots on the way of the hash h are taken
--     Meets slots h r           r is the first vacant slot on the way of the hash h, or none and a whole turn is taken
--     Opens slots h r           r is the first vacant slot on the way of the hash h, or none and no slot is vacant
--     Inserts h k from to r     the slots end as `to`: the first vacant slot on the way of h, which r is, names the place k;
--                               or nothing is written, since no slot is vacant, or since an entry, of 16 bits, cannot name k
--     Keeps K m k from to       where k is a place whose key means m, which no slot named yet, a well-kept index stays so
--     Rewrites i k from to r    the slots end as `to`: the slot i, which was taken, names the place k;
--                               or nothing is written, since i is vacant or no slot, or since an entry cannot name k
--     Swapped at at' p q        the places p and q have exchanged their keys, and all others have theirs
--     Lasts K                   how an index stays well kept while places change and move, and that it has room
use Rattle.std.specs.Prelude.{◌≡◌, ℕ, ◌+◌, ◌<◌, ◌≤◌, Bool, true, false, ◌⊎◌, List, length, replicate, Some, None, Ok, Err, Option, Result, ◌≢◌, slice_index, slice_set}
use Rattle.tables.specs.declared.index.Found.{Found}
use Rattle.tables.specs.declared.index.NotEntered.{NotEntered}
use Rattle.tables.specs.declared.index.NotEntered.TheVariants.{Full, NoEntry}
use Rattle.tables.specs.Probes.{KeyKind, Met, way_at, on_way}

abbrev pub Names : List ℕ → ℕ → ℕ → Type 0
Names slots i k = slice_index slots i ≡ k + 1

abbrev pub Has : {M : Type 0} → (ℕ → Option M) → List ℕ → ℕ → M → Type 0
Has at slots i m = (k : ℕ) × Names slots i k × (at k ≡ Some m)

abbrev pub Absent : {M : Type 0} → (ℕ → Option M) → List ℕ → M → Type 0
Absent at slots m = (i : ℕ) → Has at slots i m → ⊥

pub record Indexed (K : KeyKind) (at : ℕ → Option K.Meaning) (slots : List ℕ) : Type 0 where
  -- a slot that is not vacant names a place with a key
  pub placed : (i : ℕ) → (slice_index slots i ≢ 0) → (m : K.Meaning) × Has at slots i m
  -- no two slots name places of one key, so no two name one place
  pub single : (i j : ℕ) (m : K.Meaning) → Has at slots i m → Has at slots j m → i ≡ j
  -- on the way of its key a slot is met before any vacant one
  pub met : (i : ℕ) (m : K.Meaning) → Has at slots i m → (j : ℕ) × Met slots (K.hash m) i j

abbrev pub Covers : List ℕ → ℕ → Type 0
Covers slots n = (k : ℕ) → k < n → (i : ℕ) × Names slots i k

abbrev pub NamesOther : {M : Type 0} → (ℕ → Option M) → M → ℕ → Type 0
NamesOther at m e = (k : ℕ) × (e ≡ k + 1) × (at k ≢ Some m)

abbrev pub Reads : {M : Type 0} → (ℕ → Option M) → M → ℕ → ℕ → Option Found → Type 0
Reads at m i e None = (e ≡ 0) ⊎ NamesOther at m e
Reads at m i e (Some f) = (f.slot ≡ i) × (e ≡ f.place + 1) × (at f.place ≡ Some m)

abbrev pub Passed : {M : Type 0} → (ℕ → Option M) → List ℕ → ℕ → M → ℕ → Type 0
Passed at slots h m j = (q : ℕ) → q < j → NamesOther at m (on_way slots h q)

abbrev pub LooksUp : (K : KeyKind) → (ℕ → Option K.Meaning) → List ℕ → K.Meaning → Option Found → Type 0
LooksUp K at slots m None =
    (j : ℕ) × Passed at slots (K.hash m) m j × ((j ≡ length slots) ⊎ (on_way slots (K.hash m) j ≡ 0))
LooksUp K at slots m (Some f) =
    (j : ℕ) × Passed at slots (K.hash m) m j × (j < length slots) × (f.slot ≡ way_at (length slots) (K.hash m) j) × Names slots f.slot f.place × (at f.place ≡ Some m)

abbrev pub Answers : {M : Type 0} → (ℕ → Option M) → List ℕ → M → Option Found → Type 0
Answers at slots m None = Absent at slots m
Answers at slots m (Some f) = Names slots f.slot f.place × (at f.place ≡ Some m)

abbrev pub Exact : (K : KeyKind) → (ℕ → Option K.Meaning) → List ℕ → K.Meaning → Option Found → Type 0
Exact K at slots m r = Indexed K at slots → Answers at slots m r

abbrev pub Taken : List ℕ → ℕ → ℕ → Type 0
Taken slots h j = (q : ℕ) → q < j → on_way slots h q ≢ 0

abbrev pub Meets : List ℕ → ℕ → Option ℕ → Type 0
Meets slots h None = (j : ℕ) × Taken slots h j × (j ≡ length slots)
Meets slots h (Some i) = (j : ℕ) × Met slots h i j × (slice_index slots i ≡ 0)

abbrev pub Opens : List ℕ → ℕ → Option ℕ → Type 0
Opens slots h None = (i : ℕ) → i < length slots → slice_index slots i ≢ 0
Opens slots h (Some i) = (j : ℕ) × Met slots h i j × (slice_index slots i ≡ 0)

abbrev pub Inserts : ℕ → ℕ → List ℕ → List ℕ → Result ℕ NotEntered → Type 0
Inserts h k from to (Ok i) = (k < 65535) × Opens from h (Some i) × (to ≡ slice_set from i (k + 1))
Inserts h k from to (Err Full) = (k < 65535) × Opens from h None × (to ≡ from)
Inserts h k from to (Err NoEntry) = (65535 ≤ k) × (to ≡ from)

abbrev pub Keeps : (K : KeyKind) → K.Meaning → ℕ → List ℕ → List ℕ → Type 0
Keeps K m k from to = (at : ℕ → Option K.Meaning) → Indexed K at from → at k ≡ Some m → Absent at from m → Indexed K at to

abbrev pub Rewrites : ℕ → ℕ → List ℕ → List ℕ → Bool → Type 0
Rewrites i k from to true = (k < 65535) × (i < length from) × (slice_index from i ≢ 0) × (to ≡ slice_set from i (k + 1))
Rewrites i k from to false = ((65535 ≤ k) ⊎ ((length from ≤ i) ⊎ (slice_index from i ≡ 0))) × (to ≡ from)

pub record Swapped {M : Type 0} (from to : ℕ → Option M) (p q : ℕ) : Type 0 where
  pub one : to p ≡ from q
  pub other : to q ≡ from p
  pub rest : (k : ℕ) → (k ≢ p) → (k ≢ q) → to k ≡ from k

pub record Lasts (K : KeyKind) : Type 0 where
  -- vacant slots are well kept
  pub vacant : (at : ℕ → Option K.Meaning) (n : ℕ) → Indexed K at (replicate n 0)
  -- places that no slot names may change
  pub elsewhere : (at at' : ℕ → Option K.Meaning) (slots : List ℕ) → Indexed K at slots → ((i k : ℕ) → Names slots i k → at k ≡ at' k) → Indexed K at' slots
  -- what the slot s names may move from the place p to the place q, if the slot is rewritten
  pub moved : (at at' : ℕ → Option K.Meaning) (slots : List ℕ) → Indexed K at slots → (s p q : ℕ) → Names slots s p → at p ≡ at' q →
      ((i k : ℕ) → (i ≢ s) → Names slots i k → at k ≡ at' k) → Indexed K at' (slice_set slots s (q + 1))
  -- what the slots s and t name may be swapped, if both slots are rewritten
  pub swapped : (at at' : ℕ → Option K.Meaning) (slots : List ℕ) → Indexed K at slots → (s t p q : ℕ) → Names slots s p → Names slots t q →
      Swapped at at' p q → Indexed K at' (slice_set (slice_set slots s (q + 1)) t (p + 1))
  -- where there are more slots than places, one is vacant
  pub room : (at : ℕ → Option K.Meaning) (slots : List ℕ) → Indexed K at slots → (n : ℕ) → ((k : ℕ) (m : K.Meaning) → at k ≡ Some m → k < n) →
      n < length slots → (i : ℕ) × (i < length slots) × (slice_index slots i ≡ 0)
  -- the first n places stay named when the next place is inserted
  pub covers_next : (h n : ℕ) (from to : List ℕ) (i : ℕ) → Inserts h n from to (Ok i) → Covers from n → Covers to (n + 1)
  -- and when two slots exchange the places that they name
  pub covers_swapped : (slots : List ℕ) (s t p q n : ℕ) → Names slots s p → Names slots t q → Covers slots n → Covers (slice_set (slice_set slots s (q + 1)) t (p + 1)) n
  -- then a key that is absent from the slots is that of none of them
  pub covers_absent : (at : ℕ → Option K.Meaning) (slots : List ℕ) (m : K.Meaning) (n : ℕ) → Covers slots n → Absent at slots m →
      (k : ℕ) → k < n → at k ≢ Some m
