-- What holds while a search goes on, in all of its memory. Assumes nothing.
--     Sized xs queue slots         as many queue places as chart places, at most 4,096, and twice as many slots
--     Searching .. xs queue slots s t i n   n pairs are found; below s they are settled and all their lanes followed,
--                                  from s to t settled and their lanes below the number i followed, from t on open.
--                                  The slots name the found pairs, and the open ones wait in the queue
--     Comes .. x i v               the number i names a lane from the pair x within the cable, and v is the pair that it leads to, at what this way costs
--     Follows .. s i n v           v comes from the pair at the place s by the lane number i, whose lanes below i are followed
--     Complete .. xs n             the first n of xs are a finished chart, and nothing was to be refused
--     TooMany .. n e               e says that the reach is too large, and it has more than n pairs, or a class that is not held
-- Of a search x, whose task, memory and numbers stand for those above:
--     keys_at b x j                the key of the found pair at the place j
--     Named b x                    the slots name the found pairs, which stand in the places, at most 4,096
--     Lent x y                     y has the task and the lent places of x, and as many places and queue places
--     Rests .. x                   all lanes of the settled pairs are followed
--     AtHand .. x i                so they are, and the pair after them is settled too and its lanes below the number i followed
--     ComesBy .. x i v            v comes from the pair at hand by the lane number i, whose lanes below i are followed
--     Meeting .. x v               v comes from it by some lane
--     Ended .. x                   the found pairs are a finished chart, and nothing was to be refused
--     Refused .. x e               e says that the reach is too large, and so it is for the places of x
use Rattle.std.specs.Prelude.{◌≡◌, ℕ, ◌+◌, ◌*◌, ◌≤◌, List, length, take, Some, Option}
use Rattle.kinds.specs.declared.refusal.Refusal.{Refusal}
use Rattle.kinds.specs.declared.refusal.Refusal.TheVariants.{ReachTooLarge}
use Rattle.kinds.specs.declared.lane.Lane.{Lane}
use Rattle.kinds.specs.Maps.{Site}
use Rattle.kinds.specs.Classes.{crossed}
use Rattle.kinds.specs.Reaches.{Within}
use Rattle.kinds.specs.declared.class.Class.{Ghosts as Classes}
use Rattle.kinds.specs.declared.cost.Cost.{Ghosts as Costs}
use Rattle.tables.specs.declared.queue.Queue.{Queue}
use Rattle.tables.specs.Queues.{places, waiting, Kept}
use Rattle.tables.specs.Indexes.{Indexed, Covers}
use Rattle.charts.specs.declared.chart.Pair.{Pair}
use Rattle.charts.specs.Charts.{Stands, Finished}
use Rattle.steps.specs.declared.asked.Asked.{Asked}
use Rattle.steps.specs.declared.open.Open.{Open}
use Rattle.charting.specs.Searching.{onward}
use Rattle.charting.specs.Places.{Progress}
use Rattle.steps.specs.Opens.{by_bound}
use Rattle.steps.specs.Keys.{pair_keys, pair_at}
use Rattle.charting.specs.Waits.{Waits}
use Rattle.charting.specs.Charts.{TooLarge}
use Rattle.charting.specs.declared.memory.Search.{Search}

pub record Sized {C K : Type 0} (xs : List (Pair C K)) (queue : Queue (Open K)) (slots : List ℕ) : Type 0 where
  pub few : length xs ≤ 4096
  pub queued : length (places queue) ≡ length xs
  pub slotted : length slots ≡ 2 * length xs

module _ {C K : Type 0} (m : Site) (b : Classes C) (c : Costs K) (q : Asked) where
  pub record Searching (xs : List (Pair C K)) (queue : Queue (Open K)) (slots : List ℕ) (s t i n : ℕ) : Type 0 where
    pub sized : Sized xs queue slots
    pub progress : Progress m b.kind b.element c.costs q.reel q.aim q.cable xs s t i n
    pub indexed : Indexed (pair_keys b) (pair_at b (take n xs)) slots
    pub covers : Covers slots n
    pub waits : Waits m c.costs q.aim xs slots (waiting queue) t n
    pub kept : Kept (by_bound c.costs) (waiting queue)

  pub record Comes (x : Pair C K) (i : ℕ) (l : Lane) (v : Pair C K) : Type 0 where
    pub lane : m.lane x.point i ≡ Some l
    pub within : Within m c.costs q.aim q.cable l.to (onward c.costs x.cost l)
    pub point : v.point ≡ l.to
    pub class : b.element v.class ≡ b.kind.mul (b.element x.class) (crossed b.kind l.crossing)
    pub cost : v.cost ≡ onward c.costs x.cost l

  pub record Follows (xs : List (Pair C K)) (queue : Queue (Open K)) (slots : List ℕ) (s i n : ℕ) (v : Pair C K) : Type 0 where
    pub searching : Searching xs queue slots s (s + 1) i n
    pub from : Pair C K
    pub stands : Stands xs s from
    pub lane : Lane
    pub comes : Comes from i lane v
    pub link : v.link ≡ Some s

  pub record Complete (xs : List (Pair C K)) (n : ℕ) : Type 0 where
    pub room : n ≤ length xs
    pub finished : Finished m b.kind b.element c.costs q.reel q.aim q.cable (take n xs)
    pub exact : TooLarge {C = C} m b c q (length xs) → ⊥

  abbrev pub TooMany : ℕ → Refusal → Type 0
  TooMany n e = (e ≡ ReachTooLarge) × TooLarge {C = C} m b c q n

module _ {M C K : Type 0} where
  abbrev pub keys_at : (b : Classes C) → Search M C K → ℕ → Option (pair_keys b).Meaning
  keys_at b x = pair_at b (take x.found x.places.now)

  pub record Named (b : Classes C) (x : Search M C K) : Type 0 where
    pub few : length x.places.now ≤ 4096
    pub room : x.found ≤ length x.places.now
    pub indexed : Indexed (pair_keys b) (keys_at b x) x.slots.now
    pub covers : Covers x.slots.now x.found

  pub record Lent (x y : Search M C K) : Type 0 where
    pub task : y.task ≡ x.task
    pub held : y.places.ghost_name ≡ x.places.ghost_name
    pub long : length y.places.now ≡ length x.places.now
    pub queued : length (places y.queue.now) ≡ length (places x.queue.now)

  module _ (site : M → Site) (b : Classes C) (c : Costs K) (x : Search M C K) where
    abbrev pub Rests : Type 0
    Rests = Searching (site x.task.now.map.now) b c x.task.now.asked x.places.now x.queue.now x.slots.now x.settled x.settled 0 x.found

    abbrev pub AtHand : ℕ → Type 0
    AtHand i = Searching (site x.task.now.map.now) b c x.task.now.asked x.places.now x.queue.now x.slots.now x.settled (x.settled + 1) i x.found

    abbrev pub ComesBy : ℕ → Pair C K → Type 0
    ComesBy i v = Follows (site x.task.now.map.now) b c x.task.now.asked x.places.now x.queue.now x.slots.now x.settled i x.found v

    abbrev pub Meeting : Pair C K → Type 0
    Meeting v = (i : ℕ) × ComesBy i v

    abbrev pub Ended : Type 0
    Ended = Complete (site x.task.now.map.now) b c x.task.now.asked x.places.now x.found

    abbrev pub Refused : Refusal → Type 0
    Refused e = TooMany (site x.task.now.map.now) b c x.task.now.asked (length x.places.now) e
