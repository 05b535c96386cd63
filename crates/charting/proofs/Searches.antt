-- Each step of a search keeps what holds in all of its memory.
use Rattle.std.proofs.Common.{◌≡◌, ℕ, zero, suc, ◌+◌, ◌-◌, ◌*◌, ◌<◌, ◌≤◌, List, ◌∷◌, length, get_or, take, set, replicate, Some, None, Less, sym, refl, ap, ◌∙◌, subst, inl, inr, add-zero, arith, length-set}
use Rattle.std.specs.List.{ContainsAt as Has, AllByRecursion}
use Rattle.std.proofs.lemmas.List.Sorted.{IsPermutation-sym, IsPermutation-trans}
use Rattle.std.proofs.ByRecursion.{all-has}
use Rattle.kinds.specs.declared.lane.Lane.{Lane}
use Rattle.kinds.specs.declared.class.Class.{Ghosts as Classes}
use Rattle.kinds.specs.declared.cost.Cost.{Ghosts as Costs}
use Rattle.kinds.specs.Maps.{Site, LawfulLanes, LawfulEstimates, Lawful, Next}
use Rattle.kinds.specs.Classes.{crossed}
use Rattle.kinds.specs.Reaches.{tail, Within}
use Rattle.tables.specs.declared.queue.Queue.{Queue}
use Rattle.tables.specs.Orders.{AtMost}
use Rattle.tables.specs.Queues.{places, waiting, Kept, Popped}
use Rattle.tables.specs.Indexes.{Names, Absent, Indexed}
use Rattle.tables.proofs.Meeting.{names_within}
use Rattle.tables.proofs.Swapping.{rewritten}
use Rattle.tables.proofs.Clearing.{get_or-vacant, indexed_vacant}
use Rattle.tables.proofs.Covering.{covers_none, covers_inserts, covers_swapped, absent_covered}
use Rattle.tables.proofs.Entering.{inserts_names, inserts_keeps_names, inserts_length, inserts_vacant}
use Rattle.charts.specs.declared.chart.Pair.{Pair}
use Rattle.charts.specs.Charts.{Stands}
use Rattle.charts.proofs.Stands.{stands_some, stands_unique, stands_set_same}
use Rattle.steps.specs.declared.asked.Asked.{Asked}
use Rattle.steps.specs.declared.open.Open.{Open}
use Rattle.steps.specs.Opens.{by_bound}
use Rattle.steps.specs.Keys.{pair_keys, pair_of, pair_at}
use Rattle.charting.specs.Searching.{onward, NoLater}
use Rattle.charting.specs.Places.{Progress}
use Rattle.charting.specs.Waits.{Serves, Waits}
use Rattle.charting.specs.Steps.{Swaps, Adds, Lowers}
use Rattle.steps.specs.Leads.{Leads}
use Rattle.charting.specs.Charts.{TooLarge}
use Rattle.charting.specs.declared.memory.Search.{Search}
use Rattle.charting.specs.Searches.{Sized, Searching, Follows, Complete, Lent}
use Rattle.kinds.proofs.Orders.{under_of_not_less}
use Rattle.charting.proofs.Elements.{taken_out, nil_from_length, stands_got}
use Rattle.charting.proofs.Laters.{no_later_from_at_most, at_most_from_cheaper}
use Rattle.charting.proofs.Advances.{progress_taken, progress_open, progress_no_lane, progress_too_far, progress_no_cheaper, progress_lowered, progress_added, progress_crowded, progress_unheld, progress_closed, progress_started, progress_finished, progress_exact}
use Rattle.charting.proofs.Waits.{taken_serves, waits_taken, waits_lowered, waits_added, waits_none}
use Rattle.charting.proofs.Indexing.{one_name, key_of, of_key, indexed_exchanged, indexed_next, key_next, absent_next, indexed_again}

-- a search that has the task and memory of one that has those of a third
pub lent_on : {M C K : Type 0} {x y z : Search M C K} → Lent x y → Lent y z → Lent x z
lent_on l l' = record { task = l'.task ∙ l.task; held = l'.held ∙ l.held; long = l'.long ∙ l.long; queued = l'.queued ∙ l.queued }

-- a number that names a lane is low
pub next_low : {m : Site} (lanes : LawfulLanes m) {p i k : ℕ} → Next m p i (Some k) → (i ≤ k) × (k < m.limit) × (k < 16384)
next_low lanes {p} {i} {k} (le, (l, e), _) = let t = lanes.starts p k l e in (le, t.1, omega (arith, lanes.few_lanes))

law : {m : Site} → LawfulLanes m → LawfulEstimates m → Lawful m
law lanes estimates = record { lanes = lanes; estimates = estimates }

-- at the start no pair is found
module _ {C K : Type 0} (b : Classes C) (xs : List (Pair C K)) (slots : List ℕ) (vacant : slots ≡ replicate (length slots) 0) where
  pub no_keys : Indexed (pair_keys b) (pair_at b (take 0 xs)) slots
  no_keys = subst (Indexed (pair_keys b) (pair_at b (take 0 xs))) (sym vacant) (indexed_vacant (pair_keys b) (pair_at b (take 0 xs)) (length slots))

module _ {C K : Type 0} (m : Site) (c : Costs K) (q : Asked) (xs : List (Pair C K)) (queue : Queue (Open K)) (slots : List ℕ) (idle : length (waiting queue) ≡ 0) where
  nothing_waits : Waits m c.costs q.aim xs slots (waiting queue) 0 0
  nothing_waits = subst (λ (w : List (Open K)). Waits m c.costs q.aim xs slots w 0 0) (sym (nil_from_length (waiting queue) idle)) (waits_none m c.costs q.aim xs slots)

nothing_kept : {K : Type 0} (c : Costs K) (queue : Queue (Open K)) → length (waiting queue) ≡ 0 → Kept (by_bound c.costs) (waiting queue)
nothing_kept c queue idle = record { below = λ p k d low high lt. absurd (omega arith) }

module _ {C K : Type 0} {m : Site} (lanes : LawfulLanes m) (estimates : LawfulEstimates m) {b : Classes C} {c : Costs K} {q : Asked} where
  -- the least record x leaves the queue, and the pair that it serves is swapped to the place s
  module _ {xs : List (Pair C K)} {queue : Queue (Open K)} {slots : List ℕ} {s n : ℕ} (h : Searching m b c q xs queue slots s s 0 n)
      {x : Open K} {rest : List (Open K)} (popped : Popped (by_bound c.costs) (waiting queue) x rest) where
    -- the place that the record serves
    pub taken_place : (e : ℕ) × (s ≤ e) × (e < n) × Serves m c.costs q.aim xs slots x e
    taken_place = taken_serves m c.costs q.aim xs slots (waiting queue) s n h.waits x rest popped.items

    -- what the code reads of it
    pub taken_reads : (x.slot < length slots) × (1 ≤ get_or slots x.slot 0) × (get_or slots x.slot 0 - 1 < n) × (s < n) × Names slots x.slot (get_or slots x.slot 0 - 1)
    taken_reads =
        let (e, le, lt, serves) = taken_place in
        let nm : get_or slots x.slot 0 ≡ e + 1 = serves.names in
        (names_within slots x.slot e serves.names, omega arith, omega arith, omega arith, omega arith)

    pub searching_taken : {j : ℕ} → Names slots x.slot j → {ys : List (Pair C K)} → Swaps xs ys s j → (u : ℕ) → Names slots u s →
        (queue' : Queue (Open K)) → waiting queue' ≡ rest → length (places queue') ≡ length (places queue) →
        {slots' : List ℕ} → slots' ≡ rewritten slots x.slot u j s →
        Searching m b c q ys queue' slots' s (s + 1) 0 n
    searching_taken {j} names {ys} swaps u names' queue' e len {slots'} f =
        subst (λ (t : List ℕ). Searching m b c q ys queue' t s (s + 1) 0 n) (sym f) (record {
          sized = record {
            few = omega (arith, h.sized.few, swaps.long);
            queued = len ∙ h.sized.queued ∙ sym swaps.long;
            slotted = length-set (set slots x.slot (s + 1)) u (j + 1) ∙ length-set slots x.slot (s + 1) ∙ h.sized.slotted ∙ ap (λ a. 2 * a) (sym swaps.long);
          };
          progress = progress_taken (law lanes estimates) h.progress ys j low high at least swaps.long swaps.first swaps.second swaps.others;
          indexed = indexed_exchanged b xs slots n h.progress.room h.indexed ys x.slot u j s names names' swaps.long swaps.first swaps.second (λ i d a a'. swaps.others i d a a');
          covers = covers_swapped slots x.slot u j s n names names' h.covers;
          waits = subst (λ (w : List (Open K)). Waits m c.costs q.aim ys (rewritten slots x.slot u j s) w (s + 1) n) (sym e)
              (waits_taken m c.costs q.aim xs slots (waiting queue) s n h.waits x rest popped.items (one_name b xs slots n h.progress.room h.indexed) j u low high names names' ys
              (λ z at' d. sym (swaps.first d) ∙ at' d) (λ z at' d. sym (swaps.second d) ∙ at' d) (λ i z a a' at' d. sym (swaps.others i d a a') ∙ at' d));
          kept = subst (Kept (by_bound c.costs)) (sym e) (popped.kept h.kept);
        })
      where
        place : ℕ
        place = taken_place.0

        same : taken_place.0 ≡ j
        same = let z : taken_place.0 + 1 ≡ j + 1 = sym taken_place.3.names ∙ names in omega arith

        low : s ≤ j
        low = subst (λ a. s ≤ a) same taken_place.1

        high : j < n
        high = subst (λ a. a < n) same taken_place.2

        serves : Serves m c.costs q.aim xs slots x j
        serves = subst (λ a. Serves m c.costs q.aim xs slots x a) same taken_place.3

        found : (y : Pair C K) × Stands xs j y
        found = stands_some xs j (omega (arith, h.progress.room, high))

        y : Pair C K
        y = found.0

        at : Stands xs j found.0
        at = found.1

        least : (e : ℕ) (z : Pair C K) → s ≤ e → e < n → Stands xs e z → NoLater m c.costs q.aim found.0.point found.0.cost z.point z.cost
        least e z le lt ate =
            let (w, has, nm) = h.waits.all e le lt in
            let (e', le', lt', ser) = all-has (λ v. (e : ℕ) × (s ≤ e) × (e < n) × Serves m c.costs q.aim xs slots v e) (waiting queue) w h.waits.each has in
            let eq : e' ≡ e = (let zz : e' + 1 ≡ e + 1 = sym ser.names ∙ nm in omega arith) in
            let px = serves.priced found.0 found.1 in
            let pw = ser.priced z (subst (λ a. Stands xs a z) (sym eq) ate) in
            subst (λ (k : K). NoLater m c.costs q.aim found.0.point k z.point z.cost) px.0
            (subst (λ (k : K). NoLater m c.costs q.aim found.0.point x.cost z.point k) pw.0
            (no_later_from_at_most m c.costs q.aim found.0.point z.point x w
            (px.1 ∙ ap (λ (k : K). c.costs.plus k (tail m c.costs q.aim found.0.point)) (sym px.0))
            (pw.1 ∙ ap (λ (k : K). c.costs.plus k (tail m c.costs q.aim z.point)) (sym pw.0))
            (subst (AtMost (by_bound c.costs) x) (has.2 w) ((popped.least h.kept).each has.0 w has.1))))

  -- the memory stays as it is, and the search goes on
  pub searching_on : {xs : List (Pair C K)} {queue : Queue (Open K)} {slots : List ℕ} {s t i n s' i' : ℕ} → Searching m b c q xs queue slots s t i n →
      Progress m b.kind b.element c.costs q.reel q.aim q.cable xs s' t i' n → Searching m b c q xs queue slots s' t i' n
  searching_on h p = record { sized = h.sized; progress = p; indexed = h.indexed; covers = h.covers; waits = h.waits; kept = h.kept }

  module _ {xs : List (Pair C K)} {queue : Queue (Open K)} {slots : List ℕ} {s i n : ℕ} {v : Pair C K} (f : Follows m b c q xs queue slots s i n v) where
    h : Searching m b c q xs queue slots s (s + 1) i n
    h = f.searching

    -- no found place has the pair that no slot names
    pub met_nowhere : Absent (pair_at b (take n xs)) slots (pair_of b v) → (a : ℕ) (z : Pair C K) → a < n → Stands xs a z →
        z.point ≡ f.lane.to → b.element z.class ≡ b.kind.mul (b.element f.from.class) (crossed b.kind f.lane.crossing) → ⊥
    met_nowhere absent a z lt at e e' =
        absent_covered (pair_at b (take n xs)) slots (pair_of b v) n f.searching.covers absent a lt
        (key_of b xs n a z f.searching.progress.room lt at ∙ ap Some pair)
      where
        pair : pair_of b z ≡ pair_of b v
        pair j = ((e ∙ sym f.comes.point) j, (e' ∙ sym f.comes.class) j)

    -- the pair is new, and no place is left
    pub met_crowded : Absent (pair_at b (take n xs)) slots (pair_of b v) → length xs ≤ n → TooLarge m b c q (length xs)
    met_crowded absent full =
        inl (progress_crowded (law lanes estimates) f.searching.progress f.stands f.comes.lane f.comes.within
        (omega (arith, f.searching.progress.room)) (met_nowhere absent))

    -- the pair is new, and is added
    pub met_new : Absent (pair_at b (take n xs)) slots (pair_of b v) → n < length xs →
        {ys : List (Pair C K)} (queue' : Queue (Open K)) {slots' : List ℕ} → length (places queue') ≡ length (places queue) → {bound : K} → bound ≡ c.costs.plus v.cost (tail m c.costs q.aim v.point) →
        Adds b c n v bound xs slots (waiting queue) ys slots' (waiting queue') → Searching m b c q ys queue' slots' s (s + 1) (i + 1) (n + 1)
    met_new absent room {ys} queue' {slots'} size {bound} e adds =
        subst (λ (zs : List (Pair C K)). Searching m b c q zs queue' slots' s (s + 1) (i + 1) (n + 1)) (sym adds.places) (record {
          sized = record {
            few = omega (arith, long, f.searching.sized.few);
            queued = size ∙ f.searching.sized.queued ∙ sym long;
            slotted = inserts_length ((pair_keys b).hash (pair_of b v)) n slots slots' adds.slot adds.inserts ∙ f.searching.sized.slotted ∙ ap (λ a. 2 * a) (sym long);
          };
          progress = progress_added (law lanes estimates) f.searching.progress f.stands v f.comes.lane f.comes.within room
              (met_nowhere absent) f.comes.point f.comes.class f.comes.cost f.link;
          indexed = adds.keeps (pair_at b (take (n + 1) (set xs n v))) (indexed_next b xs slots n f.searching.progress.room f.searching.indexed v room)
              (key_next b xs slots n f.searching.progress.room f.searching.indexed v room) (absent_next b xs slots n f.searching.progress.room f.searching.indexed v room absent);
          covers = covers_inserts ((pair_keys b).hash (pair_of b v)) n slots slots' adds.slot adds.inserts f.searching.covers;
          waits = waits_added m c.costs q.aim xs slots (waiting queue) (s + 1) n f.searching.waits f.searching.progress.found room v (record { bound = bound; cost = v.cost; slot = adds.slot }) (refl, e)
              slots' (inserts_vacant ((pair_keys b).hash (pair_of b v)) n slots slots' adds.slot adds.inserts) (inserts_names ((pair_keys b).hash (pair_of b v)) n slots slots' adds.slot adds.inserts)
              (inserts_keeps_names ((pair_keys b).hash (pair_of b v)) n slots slots' adds.slot adds.inserts) (waiting queue') adds.waits.items;
          kept = adds.waits.kept f.searching.kept;
        })
      where
        long : length (set xs n v) ≡ length xs
        long = length-set xs n v

    -- the slot u is found to name the place j of the pair
    module _ (j u : ℕ) (answer : Indexed (pair_keys b) (pair_at b (take n xs)) slots → Names slots u j × (pair_at b (take n xs) j ≡ Some (pair_of b v))) where
      names : Names slots u j
      names = (answer f.searching.indexed).0

      has : pair_at b (take n xs) j ≡ Some (pair_of b v)
      has = (answer f.searching.indexed).1

      pub met_within : j < length xs
      met_within = let (x, lt, _, _, _) = of_key b xs n j v.point (b.element v.class) f.searching.progress.room has in omega (arith, f.searching.progress.room)

      -- a slot has a number of 16 bits
      pub met_slot : u < 65536
      met_slot = omega (arith, names_within slots u j names, f.searching.sized.slotted, f.searching.sized.few)

      pub met_stands : (i : ℕ) (d : Pair C K) → i ≡ j → Stands xs j (get_or xs i d)
      met_stands i d e = stands_got xs j i d met_within e

      -- y stands there
      module _ {y : Pair C K} (at : Stands xs j y) where
        met_place : (j < n) × (y.point ≡ v.point) × (b.element y.class ≡ b.element v.class)
        met_place =
            let (x, lt, at', e, e') = of_key b xs n j v.point (b.element v.class) f.searching.progress.room has in
            let same : x ≡ y = stands_unique xs j x y at' at in
            (lt, ap (λ (z : Pair C K). z.point) (sym same) ∙ e, ap (λ (z : Pair C K). b.element z.class) (sym same) ∙ e')

        -- it costs no more already
        pub met_no_cheaper : (c.costs.order.cmp v.cost y.cost ≡ Less → ⊥) → Searching m b c q xs queue slots s (s + 1) (i + 1) n
        met_no_cheaper not =
            searching_on f.searching
            (progress_no_cheaper (law lanes estimates) f.searching.progress f.stands j f.comes.lane met_place.0 at
            (met_place.1 ∙ f.comes.point) (met_place.2 ∙ f.comes.class) (under_of_not_less c.costs.order (onward c.costs f.from.cost f.lane) y.cost (λ e. not (ap (λ k. c.costs.order.cmp k y.cost) f.comes.cost ∙ e))))

        module _ (less : c.costs.order.cmp v.cost y.cost ≡ Less) where
          less' : c.costs.order.cmp (onward c.costs f.from.cost f.lane) y.cost ≡ Less
          less' = ap (λ k. c.costs.order.cmp k y.cost) (sym f.comes.cost) ∙ less

          -- it is open, since settled pairs are cheapest
          met_open : s + 1 ≤ j
          met_open = progress_open (law lanes estimates) f.searching.progress f.stands j f.comes.lane at
              (met_place.1 ∙ f.comes.point) (met_place.2 ∙ f.comes.class) less'

          -- so it waits
          pub met_waits : AllByRecursion (λ w. w.slot ≡ u → ⊥) (waiting queue) → ⊥
          met_waits none =
              let (w, is, nm) = f.searching.waits.all j met_open met_place.0 in
              all-has (λ w. w.slot ≡ u → ⊥) (waiting queue) w none is (one_name b xs slots n f.searching.progress.room f.searching.indexed w.slot u j nm names)

          -- and its record is not less than the new one
          pub met_less : {bound : K} → bound ≡ c.costs.plus v.cost (tail m c.costs q.aim v.point) → (w : Open K) → Has (waiting queue) w → w.slot ≡ u →
              AtMost (by_bound c.costs) (record { bound = bound; cost = v.cost; slot = u }) w
          met_less {bound} e w is slot =
              let (e', le, lt, serves) = all-has (λ v. (e : ℕ) × (s + 1 ≤ e) × (e < n) × Serves m c.costs q.aim xs slots v e) (waiting queue) w f.searching.waits.each is in
              let eq : e' ≡ j = (let z : e' + 1 ≡ j + 1 = sym serves.names ∙ ap (λ a. get_or slots a 0) slot ∙ names in omega arith) in
              let (cost, bounds) = serves.priced y (subst (λ a. Stands xs a y) (sym eq) at) in
              at_most_from_cheaper m c.costs q.aim v.point (record { bound = bound; cost = v.cost; slot = u }) w e
              (bounds ∙ ap (λ (k : K). c.costs.plus k (tail m c.costs q.aim y.point)) (sym cost) ∙ ap (λ p. c.costs.plus w.cost (tail m c.costs q.aim p)) met_place.1)
              (ap (λ k. c.costs.order.cmp v.cost k) cost ∙ less)

          -- it is lowered
          pub met_lowered : {bound : K} → bound ≡ c.costs.plus v.cost (tail m c.costs q.aim v.point) → (queue' : Queue (Open K)) → length (places queue') ≡ length (places queue) →
              Lowers c u (record { bound = bound; cost = v.cost; slot = u }) (waiting queue) (waiting queue') → Searching m b c q (set xs j v) queue' slots s (s + 1) (i + 1) n
          met_lowered {bound} e queue' size lowers = record {
            sized = record {
              few = omega (arith, long, f.searching.sized.few);
              queued = size ∙ f.searching.sized.queued ∙ sym long;
              slotted = f.searching.sized.slotted ∙ ap (λ a. 2 * a) (sym long);
            };
            progress = progress_lowered (law lanes estimates) f.searching.progress f.stands j v f.comes.lane f.comes.within met_place.0 at
                (met_place.1 ∙ f.comes.point) (met_place.2 ∙ f.comes.class) less' f.comes.point f.comes.class f.comes.cost f.link;
            indexed = indexed_again b xs slots n f.searching.progress.room f.searching.indexed j y v met_place.0 at (λ k. (sym met_place.1 k, sym met_place.2 k));
            covers = f.searching.covers;
            waits =
                let (rest, out, in') = taken_out (waiting queue) lowers.at (record { bound = bound; cost = v.cost; slot = u }) lowers.old lowers.within lowers.stands in
                waits_lowered m c.costs q.aim xs slots (waiting queue) (s + 1) n f.searching.waits lowers.old rest out (one_name b xs slots n f.searching.progress.room f.searching.indexed) j met_open met_place.0 met_within
                (subst (λ a. Names slots a j) (sym lowers.slot) names) v (record { bound = bound; cost = v.cost; slot = u }) (sym lowers.slot) (refl, e) (waiting queue')
                (IsPermutation-trans (record { bound = bound; cost = v.cost; slot = u } ∷ rest) (set (waiting queue) lowers.at (record { bound = bound; cost = v.cost; slot = u })) (waiting queue')
                (IsPermutation-sym (set (waiting queue) lowers.at (record { bound = bound; cost = v.cost; slot = u })) (record { bound = bound; cost = v.cost; slot = u } ∷ rest) in') lowers.lowered.items);
            kept = lowers.lowered.kept f.searching.kept;
          }
            where
              long : length (set xs j v) ≡ length xs
              long = length-set xs j v

  -- the pair x is at hand, at the place s
  module _ {xs : List (Pair C K)} {queue : Queue (Open K)} {slots : List ℕ} {s i n : ℕ} (h : Searching m b c q xs queue slots s (s + 1) i n) where
    pub hand_within : s < length xs
    hand_within = omega (arith, h.progress.found, h.progress.room)

    pub hand_stands : (j : ℕ) (d : Pair C K) → j ≡ s → Stands xs s (get_or xs j d)
    hand_stands j d e = stands_got xs s j d hand_within e

    module _ {x : Pair C K} (at : Stands xs s x) where
      pub searching_no_lane : m.lane x.point i ≡ None → Searching m b c q xs queue slots s (s + 1) (i + 1) n
      searching_no_lane e =
          searching_on h (progress_no_lane (law lanes estimates) h.progress at e)

      module _ {l : Lane} (e : m.lane x.point i ≡ Some l) {cost : K} (is : cost ≡ onward c.costs x.cost l) where
        pub searching_too_far : (Within m c.costs q.aim q.cable l.to cost → ⊥) → Searching m b c q xs queue slots s (s + 1) (i + 1) n
        searching_too_far far =
            searching_on h
            (progress_too_far (law lanes estimates) h.progress at e (λ w. far (subst (Within m c.costs q.aim q.cable l.to) (sym is) w)))

        pub searching_unheld : Within m c.costs q.aim q.cable l.to cost → (b.kind.Held (b.kind.mul (b.element x.class) (crossed b.kind l.crossing)) → ⊥) → TooLarge m b c q (length xs)
        searching_unheld w not =
            inr (progress_unheld (law lanes estimates) h.progress at e (subst (Within m c.costs q.aim q.cable l.to) is w) not)

        pub searching_follows : Within m c.costs q.aim q.cable l.to cost → {v : Pair C K} → Leads b x l s cost (Some v) → Follows m b c q xs queue slots s i n v
        searching_follows w {v} (vp, vc, vk, vl) = record {
          searching = h;
          from = x;
          stands = at;
          lane = l;
          comes = record { lane = e; within = subst (Within m c.costs q.aim q.cable l.to) is w; point = vp; class = vc; cost = vk ∙ is };
          link = vl;
        }

    -- numbers that name no lane are passed over
    pub searching_skips : {x : Pair C K} → Stands xs s x → (d : ℕ) → ((j : ℕ) → i ≤ j → j < i + d → m.lane x.point j ≡ None) → Searching m b c q xs queue slots s (s + 1) (i + d) n
    searching_skips {x} at d none = searching_on h (skip d none)
      where
        next : (i d : ℕ) → i + suc d ≡ (i + d) + 1
        next i d = omega arith

        skip : (d : ℕ) → ((j : ℕ) → i ≤ j → j < i + d → m.lane x.point j ≡ None) → Progress m b.kind b.element c.costs q.reel q.aim q.cable xs s (s + 1) (i + d) n
        skip zero none = subst (λ a. Progress m b.kind b.element c.costs q.reel q.aim q.cable xs s (s + 1) a n) (sym (add-zero i)) h.progress
        skip (suc d) none =
            subst (λ a. Progress m b.kind b.element c.costs q.reel q.aim q.cable xs s (s + 1) a n) (sym (next i d))
            (progress_no_lane (law lanes estimates) (skip d (λ j le lt. none j le (omega arith))) at (none (i + d) (omega arith) (omega arith)))

    -- no number from i on names a lane: the pair at hand is done with
    pub searching_closed : {x : Pair C K} → Stands xs s x → ((j : ℕ) → i ≤ j → m.lane x.point j ≡ None) → Searching m b c q xs queue slots (s + 1) (s + 1) 0 n
    searching_closed {x} at none =
        let past = searching_skips at m.limit (λ j le lt. none j le) in
        searching_on h
        (progress_closed (law lanes estimates) 0 past.progress (omega arith))

    -- the next number that names a lane, and when none does
    pub searching_to : {x : Pair C K} → Stands xs s x → {k : ℕ} → Next m x.point i (Some k) → Searching m b c q xs queue slots s (s + 1) k n
    searching_to at {k} (le, _, none) =
        subst (λ a. Searching m b c q xs queue slots s (s + 1) a n) (sum le) (searching_skips at (k - i) (λ j low high. none j low (omega arith)))
      where
        sum : i ≤ k → i + (k - i) ≡ k
        sum le = omega arith

    pub searching_past : {x : Pair C K} → Stands xs s x → Next m x.point i None → Searching m b c q xs queue slots (s + 1) (s + 1) 0 n
    searching_past at none = searching_closed at none

  -- no pair is open any more
  pub complete : (held : (x : C) → b.kind.Held (b.element x)) {xs : List (Pair C K)} {queue : Queue (Open K)} {slots : List ℕ} {s n : ℕ} → Searching m b c q xs queue slots s s 0 n → s ≡ n → Complete m b c q xs n
  complete held {xs} {queue} {slots} {s} {n} h e = record {
    room = h.progress.room;
    finished = progress_finished (law lanes estimates) p;
    exact = progress_exact (law lanes estimates) p held;
  }
    where
      p : Progress m b.kind b.element c.costs q.reel q.aim q.cable xs n n 0 n
      p = subst (λ a. Progress m b.kind b.element c.costs q.reel q.aim q.cable xs a a 0 n) e h.progress

  -- at the start no pair is found
  module _ {xs : List (Pair C K)} {queue : Queue (Open K)} {slots : List ℕ} (here : q.reel < m.points) (sized : Sized xs queue slots) (idle : length (waiting queue) ≡ 0) (vacant : slots ≡ replicate (length slots) 0) where
    pub searching_started : Within m c.costs q.aim q.cable q.reel c.costs.zero → 0 < length xs → {v : Pair C K} → v.point ≡ q.reel → b.element v.class ≡ b.kind.unit → v.cost ≡ c.costs.zero → v.link ≡ None →
        {ys : List (Pair C K)} (queue' : Queue (Open K)) {slots' : List ℕ} → length (places queue') ≡ length (places queue) → {bound : K} → bound ≡ c.costs.plus v.cost (tail m c.costs q.aim v.point) →
        Adds b c 0 v bound xs slots (waiting queue) ys slots' (waiting queue') → Searching m b c q ys queue' slots' 0 0 0 1
    searching_started w some {v} vp vc vk vl {ys} queue' {slots'} size {bound} e adds =
        subst (λ (zs : List (Pair C K)). Searching m b c q zs queue' slots' 0 0 0 1) (sym adds.places) (record {
          sized = record {
            few = omega (arith, long, sized.few);
            queued = size ∙ sized.queued ∙ sym long;
            slotted = inserts_length ((pair_keys b).hash (pair_of b v)) 0 slots slots' adds.slot adds.inserts ∙ sized.slotted ∙ ap (λ a. 2 * a) (sym long);
          };
          progress = progress_started m (law lanes estimates) b.kind b.element c.costs q.reel q.aim q.cable (set xs 0 v) v here w (omega (arith, long)) (stands_set_same xs 0 v some) vp vc vk vl;
          indexed = adds.keeps (pair_at b (take 1 (set xs 0 v))) (indexed_next b xs slots 0 (omega arith) (no_keys b xs slots vacant) v some) (key_next b xs slots 0 (omega arith) (no_keys b xs slots vacant) v some)
              (absent_next b xs slots 0 (omega arith) (no_keys b xs slots vacant) v some (λ i has. let z : has.0 + 1 ≡ 0 = sym has.1 ∙ ap (λ (l : List ℕ). get_or l i 0) vacant ∙ get_or-vacant (length slots) i in omega arith));
          covers = covers_inserts ((pair_keys b).hash (pair_of b v)) 0 slots slots' adds.slot adds.inserts (covers_none slots);
          waits = waits_added m c.costs q.aim xs slots (waiting queue) 0 0 (nothing_waits m c q xs queue slots idle) (omega arith) some v (record { bound = bound; cost = v.cost; slot = adds.slot }) (refl, e)
              slots' (inserts_vacant ((pair_keys b).hash (pair_of b v)) 0 slots slots' adds.slot adds.inserts) (inserts_names ((pair_keys b).hash (pair_of b v)) 0 slots slots' adds.slot adds.inserts)
              (inserts_keeps_names ((pair_keys b).hash (pair_of b v)) 0 slots slots' adds.slot adds.inserts) (waiting queue') adds.waits.items;
          kept = adds.waits.kept (nothing_kept c queue idle);
        })
      where
        long : length (set xs 0 v) ≡ length xs
        long = length-set xs 0 v
