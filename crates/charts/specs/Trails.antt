-- Runs along the links of a chart. Assumes nothing.
-- Here b is what classes mean, xs are the counted places and reel is where the runs begin.
--     Home b reel x            the pair x is the reel with the unit
--     is_home b reel x         the test whether it is
--     on_link n o              where the link o leads among n places: to one of them, or it is refused with 16 as it leads nowhere
--     next_of b reel n x       where the pair x leads among n places: to none if it is home, else where its link leads
--     Leads b reel xs i ps     from the place i the links lead home through the points ps: the point of i is the first, the reel the last
--     Counts b reel xs i r     r is how many points lead home from the place i, or 16 if no points do
--     Reversed b reel xs i qs  qs are the points that lead home from the place i, the reel first
--     Runs b reel xs p c i ps  the first place with the pair of the point p and the class c is i, and from there the links lead home through ps
--     RunsIn b reel xs p c from to r      r is how many points the run of that pair has, and the buffer, which was `from`, is `to`: it holds them, the reel first, and then what it held;
--                                         or there is no such run, or the buffer is too short for it, and the buffer is as it was
--     WritesRun b o xs p c from to r      r is that of the counted places of xs, if the chart with the head o may be asked at p; or why it may not, and the buffer is as it was
use Rattle.std.specs.Prelude.{◌≡◌, ℕ, ◌<◌, Bool, cond, ◌⊎◌, List, [], ◌∷◌, ◌++◌, reverse, length, take, drop, Some, None, Ok, Err, Option, Result, MatchResult, nat_lt}
use Rattle.kinds.specs.declared.refusal.Refusal.{Refusal}
use Rattle.kinds.specs.declared.refusal.Refusal.TheVariants.{NoRun, TooShort}
use Rattle.kinds.specs.declared.class.Class.{Ghosts as Classes}
use Rattle.charts.specs.declared.chart.Pair.{Pair}
use Rattle.charts.specs.declared.chart.Chart.{Chart}
use Rattle.charts.specs.Charts.{Stands}
use Rattle.charts.specs.Asking.{asked_at}
use Rattle.charts.specs.Finding.{IsPair, is_pair, FirstAt}

abbrev pub on_link : ℕ → Option ℕ → Result (Option ℕ) Refusal
on_link n None = Err NoRun
on_link n (Some j) = cond (nat_lt j n) (Ok (Some j)) (Err NoRun)

module _ {C K : Type 0} (b : Classes C) (reel : ℕ) where
  abbrev pub Home : Pair C K → Type 0
  Home = IsPair b reel b.kind.unit

  abbrev pub is_home : Pair C K → Bool
  is_home = is_pair b reel b.kind.unit

  abbrev pub next_of : ℕ → Pair C K → Result (Option ℕ) Refusal
  next_of n x = cond (is_home x) (Ok None) (on_link n x.link)

  module _ (xs : List (Pair C K)) where
    abbrev pub Leads : ℕ → List ℕ → Type 0
    Leads i [] = ⊥
    Leads i (p ∷ []) = (x : Pair C K) × (i < length xs) × Stands xs i x × (x.point ≡ p) × Home x
    Leads i (p ∷ (q ∷ ps)) =
        (x : Pair C K) × (i < length xs) × Stands xs i x × (x.point ≡ p) × (Home x → ⊥)
        × ((j : ℕ) × (x.link ≡ Some j) × Leads j (q ∷ ps))

    abbrev pub Counts : ℕ → Result ℕ Refusal → Type 0
    Counts i (Ok n) = (ps : List ℕ) × Leads i ps × (length ps ≡ n)
    Counts i (Err e) = (e ≡ NoRun) × ((ps : List ℕ) → Leads i ps → ⊥)

    abbrev pub Reversed : ℕ → List ℕ → Type 0
    Reversed i buffer = (ps : List ℕ) × Leads i ps × (buffer ≡ reverse ps)

    abbrev pub Runs : ℕ → C → ℕ → List ℕ → Type 0
    Runs p c i ps = FirstAt b xs p c i × Leads i ps

    abbrev pub RunsIn : ℕ → C → List ℕ → List ℕ → Result ℕ Refusal → Type 0
    RunsIn p c from to (Ok n) = (i : ℕ) × (ps : List ℕ) × Runs p c i ps × (n ≡ length ps) × (to ≡ reverse ps ++ drop n from)
    RunsIn p c from to (Err e) =
        (to ≡ from)
        × (((e ≡ NoRun) × ((i : ℕ) (ps : List ℕ) → Runs p c i ps → ⊥))
        ⊎ ((e ≡ TooShort) × ((i : ℕ) × (ps : List ℕ) × Runs p c i ps × (length from < length ps))))

abbrev pub WritesRun : {C K : Type 0} → Classes C → Option Chart → List (Pair C K) → ℕ → C → List ℕ → List ℕ → Result ℕ Refusal → Type 0
WritesRun b o xs p c from to r =
    MatchResult (asked_at o (length xs) p) (λ h. RunsIn b h.reel (take h.pairs xs) p c from to r) (λ e. (r ≡ Err e) × (to ≡ from))
