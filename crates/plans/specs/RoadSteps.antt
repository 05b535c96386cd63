-- The reading of a roadmap command by command: what holds in between. Assumes nothing.
--     put m i ys             m with ys written from the place i on
--     listed ns k            the k-th of the numbers ns; none past the last
--     Finds at slots n r     r is a point whose survey number is n, or none, and then no slot of a well-kept index names one
--     NoEnds at slots s t    the numbers s and t are equal, or no slot of a well-kept index names a point that has one of them
--     BothEnds at s t i j    the numbers s and t differ, and the points i and j have them
--     Enters n k from to     the slots end as `to` once the place k, with the hash n, was to be inserted
--     Known ns n             n is one of the numbers ns
--     EndsKnown ns cs        the ends of all lanes are among the numbers ns
--     Holds cs p m slots     the record, the memory and the index are as the commands cs say
--     Takes cs c p m slots   the command c may come after cs, and the record, the memory and the index are as both say
--     Judged h cs c n        the number with which the well spelled command c is refused after cs
use Rattle.std.specs.Prelude.{◌≡◌, ℕ, ◌+◌, ◌<◌, ◌≤◌, cond, ◌⊎◌, List, [], ◌∷◌, ◌++◌, length, take, drop, Some, None, Option, ◌≢◌, nat_lt, slice_index, Result}
use Rattle.tables.specs.declared.index.NotEntered.{NotEntered}
use Rattle.tables.specs.Indexes.{Absent, Indexed, Covers, Inserts}
use Rattle.plans.specs.declared.plan.Road.{Road}
use Rattle.plans.specs.Plans.{Head, road, Command, post, block, weigh, point, join, InRange, Fresh, Ended, Room, Good, joins}
use Rattle.plans.specs.Surveys.{numbers}
use Rattle.plans.specs.Meanings.{surveys_of, index_of}
use Rattle.plans.specs.RoadPlans.{image}

abbrev pub put : List ℕ → ℕ → List ℕ → List ℕ
put m i ys = take i m ++ (ys ++ drop (i + length ys) m)

abbrev pub listed : List ℕ → ℕ → Option ℕ
listed ns k = cond (nat_lt k (length ns)) (Some (slice_index ns k)) None

abbrev pub Finds : (ℕ → Option ℕ) → List ℕ → ℕ → Option ℕ → Type 0
Finds at slots n None = Indexed numbers at slots → Absent at slots n
Finds at slots n (Some k) = at k ≡ Some n

abbrev pub NoEnds : (ℕ → Option ℕ) → List ℕ → ℕ → ℕ → Type 0
NoEnds at slots s t = (s ≡ t) ⊎ (Finds at slots s None ⊎ Finds at slots t None)

abbrev pub BothEnds : (ℕ → Option ℕ) → ℕ → ℕ → ℕ → ℕ → Type 0
BothEnds at s t i j = (s ≢ t) × (at i ≡ Some s) × (at j ≡ Some t)

abbrev pub Enters : ℕ → ℕ → List ℕ → List ℕ → Type 0
Enters n k from to = (r : Result ℕ NotEntered) × Inserts n k from to r

abbrev pub Known : List ℕ → ℕ → Type 0
Known ns n = index_of ns n < length ns

abbrev pub EndsKnown : List ℕ → List Command → Type 0
EndsKnown ns [] = Unit {0}
EndsKnown ns (post c r ∷ cs) = EndsKnown ns cs
EndsKnown ns (block c r ∷ cs) = EndsKnown ns cs
EndsKnown ns (weigh c r k ∷ cs) = EndsKnown ns cs
EndsKnown ns (point s ∷ cs) = EndsKnown ns cs
EndsKnown ns (join s t l k x ∷ cs) = Known ns s × Known ns t × EndsKnown ns cs

pub record Holds (cs : List Command) (p : Road) (m slots : List ℕ) : Type 0 where
  pub counted : p.points ≡ length (surveys_of cs)
  pub joined : p.lanes ≡ joins cs
  pub few_points : length (surveys_of cs) ≤ 512
  pub few_lanes : joins cs ≤ 1024
  pub laid : m ≡ image cs
  pub known : EndsKnown (surveys_of cs) cs
  pub many : length slots ≡ 1024
  pub indexed : Indexed numbers (listed (surveys_of cs)) slots
  pub covers : Covers slots (length (surveys_of cs))

abbrev pub Takes : List Command → Command → Road → List ℕ → List ℕ → Type 0
Takes cs c p m slots = Good road cs c × Holds (cs ++ (c ∷ [])) p m slots

abbrev pub Judged : Head → List Command → Command → ℕ → Type 0
Judged h cs c n =
    ((InRange h c → ⊥) × (n ≡ 6))
    ⊎ ((InRange h c × (Fresh cs c → ⊥) × (n ≡ 7))
    ⊎ ((InRange h c × Fresh cs c × (Ended cs c → ⊥) × (n ≡ 8))
    ⊎ (InRange h c × Fresh cs c × Ended cs c × (Room cs c → ⊥) × (n ≡ 9))))
