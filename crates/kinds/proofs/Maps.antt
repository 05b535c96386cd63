-- Where a map has no lanes.
use Rattle.std.proofs.Common.{◌≡◌, ℕ, ◌<◌, ◌≤◌, true, false, is_some, MatchOption, None, Some, Option, inl, inr, arith}
use Rattle.std.proofs.lemmas.Bool.{cases_lt}
use Rattle.kinds.specs.Maps.{Site, LawfulLanes, Next}
use Rattle.kinds.proofs.Options.{some_from_test, none_from_test, none_from_absurd}

-- from the limit on, no number names a lane
pub no_lane_from_limit : (m : Site) → LawfulLanes m → (p n : ℕ) → m.limit ≤ n → m.lane p n ≡ None
no_lane_from_limit m w p n h = none_from_absurd (m.lane p n) (λ l e. omega (arith, (w.starts p n l e).1))

-- off the map there are no lanes
pub no_lane_off_map : (m : Site) → LawfulLanes m → (p n : ℕ) → m.points ≤ p → m.lane p n ≡ None
no_lane_off_map m w p n h = none_from_absurd (m.lane p n) (λ l e. omega (arith, (w.starts p n l e).0))

-- the first number below the limit that names a lane is the next one
pub next_from_first : (m : Site) → LawfulLanes m → (p n e : ℕ) (o : Option ℕ) → e ≡ m.limit →
    MatchOption o ((k : ℕ) → n ≤ k → k < e → false ≡ is_some (m.lane p k))
    (λ i. (n ≤ i) × (i < e) × (true ≡ is_some (m.lane p i)) × ((k : ℕ) → n ≤ k → k < i → false ≡ is_some (m.lane p k))) →
    Next m p n o
next_from_first m w p n e None q h = λ k a.
    elim (cases_lt k e) [ inl b ↦ none_from_test (m.lane p k) (h k a b) | inr b ↦ no_lane_from_limit m w p k (omega (arith, q)) ]
next_from_first m w p n e (Some i) q h = (h.0, some_from_test (m.lane p i) h.2, λ k a b. none_from_test (m.lane p k) (h.3 k a b))
