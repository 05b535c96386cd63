-- What charting answers, and what it leaves in the lent memory. Assumes nothing.
-- Asked for a chart by q on the map m; the memory is the head of the chart, n chart places, n queue places and 2n index slots.
--     Fits places queue slots      the memory has its sizes, n from 1 to 4,096
--     VacantFrom xs n              the places of xs from n on are vacant
--     VacantQueue ws               all queue places are vacant
--     VacantSlots slots            all slots are vacant
--     TooLarge .. n                the reach has more than n pairs, or a class that is not held
--     Done .. xs k                 the first k of xs are the finished chart
--     Answers .. n xs r            r is what is due over n places, which end as xs: 12, 13 or 14 in this order, or the number of pairs charted
--     Charts ..                    charting answers r, and leaves head', places', queue' and slots' where there were head, places, queue and slots
use Rattle.std.specs.Prelude.{◌≡◌, ℕ, ◌*◌, ◌<◌, ◌≤◌, ◌⊎◌, List, length, take, replicate, Some, None, Ok, Err, Option, Result, slice_index_or}
use Rattle.kinds.specs.declared.refusal.Refusal.{Refusal}
use Rattle.kinds.specs.declared.refusal.Refusal.TheVariants.{MemorySize, NoSuchPoint, CableTooLong, ReachTooLarge}
use Rattle.kinds.specs.Maps.{Site}
use Rattle.kinds.specs.declared.class.Class.{Ghosts as Classes}
use Rattle.kinds.specs.declared.cost.Cost.{Ghosts as Costs}
use Rattle.charts.specs.declared.chart.Pair.{Pair}
use Rattle.charts.specs.declared.chart.Chart.{Chart}
use Rattle.charts.specs.Charts.{Finished, Crowded, Unheld}
pub use Rattle.steps.specs.Ends.{NoAim, Pointless, Judged, headed, kept_by, head_of, VacantPlace, VacantRecord}
use Rattle.steps.specs.declared.asked.Asked.{Asked}
use Rattle.steps.specs.declared.open.Open.{Open}

abbrev pub Fits : {X Y : Type 0} → List X → List Y → List ℕ → Type 0
Fits places queue slots = (1 ≤ length places) × (length places ≤ 4096) × (length queue ≡ length places) × (length slots ≡ 2 * length places)

abbrev pub VacantSlots : List ℕ → Type 0
VacantSlots slots = slots ≡ replicate (length slots) 0

module _ {C K : Type 0} (b : Classes C) (c : Costs K) where
  abbrev pub VacantFrom : List (Pair C K) → ℕ → Type 0
  VacantFrom xs n = (i : ℕ) (d : Pair C K) → n ≤ i → i < length xs → VacantPlace b c (slice_index_or xs i d)

module _ {K : Type 0} (c : Costs K) where
  abbrev pub VacantQueue : List (Open K) → Type 0
  VacantQueue ws = (i : ℕ) (d : Open K) → i < length ws → VacantRecord c (slice_index_or ws i d)

module _ {C K : Type 0} (m : Site) (b : Classes C) (c : Costs K) (q : Asked) where
  -- the reach has more pairs than n, or a class that is not held
  abbrev pub TooLarge : ℕ → Type 0
  TooLarge n =
      Crowded {C = C} m b.kind b.element c.costs q.reel q.aim q.cable n
      ⊎ Unheld {C = C} m b.kind b.element c.costs q.reel q.aim q.cable

  -- the first k of the places xs are the finished chart
  abbrev pub Done : List (Pair C K) → ℕ → Type 0
  Done xs k = (k ≤ length xs) × Finished m b.kind b.element c.costs q.reel q.aim q.cable (take k xs)

  -- what the search answers, over n places, which end as xs
  pub data Answers (n : ℕ) (xs : List (Pair C K)) : Result ℕ Refusal → Type 0 where
    no_point : Pointless m q → Answers n xs (Err NoSuchPoint)
    too_long : (Pointless m q → ⊥) → 1000000 < q.cable → Answers n xs (Err CableTooLong)
    too_large : (Pointless m q → ⊥) → q.cable ≤ 1000000 → TooLarge n → Answers n xs (Err ReachTooLarge)
    charted : {k : ℕ} → (Pointless m q → ⊥) → q.cable ≤ 1000000 → (TooLarge n → ⊥) → Done xs k → Answers n xs (Ok k)

module _ {C K : Type 0} (m : Site) (b : Classes C) (c : Costs K) (q : Asked)
    (head : Option Chart) (places : List (Pair C K)) (queue : List (Open K)) (slots : List ℕ)
    (head' : Option Chart) (places' : List (Pair C K)) (queue' : List (Open K)) (slots' : List ℕ) where
  -- nothing is written
  abbrev pub Untouched : Type 0
  Untouched = (head' ≡ head) × (places' ≡ places) × (queue' ≡ queue) × (slots' ≡ slots)

  -- no chart stands, and all memory is vacant
  abbrev pub Emptied : Type 0
  Emptied = (head' ≡ None) × VacantFrom b c places' 0 × VacantQueue c queue' × VacantSlots slots'

  -- a chart of n pairs stands, and all but its places is vacant
  abbrev pub Standing : ℕ → Type 0
  Standing n = (head' ≡ Some (headed m q n)) × VacantFrom b c places' n × VacantQueue c queue' × VacantSlots slots'

  pub data Charts : Result ℕ Refusal → Type 0 where
    wrong_size : (Fits places queue slots → ⊥) → Untouched → Charts (Err MemorySize)
    refused : {e : Refusal} → Fits places queue slots → Answers m b c q (length places) places' (Err e) → Emptied → Charts (Err e)
    charted : {n : ℕ} → Fits places queue slots → Answers m b c q (length places) places' (Ok n) → Standing n → Charts (Ok n)
