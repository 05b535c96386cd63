-- What pricing a run answers. Assumes nothing.
--     HeldAlong G ls       every beginning of the lanes has a held class
--     halted_at h i        why a run that halts for h at the lane at the place i has no price
--     Stepped .. a n r     r is where a run that has come to a comes to by the lane n, or that there is no such lane, or that its class is not held
--     At .. p ns ls a      the lane numbers ns name a run from p along the lanes ls, with held classes along it, that comes to a
--     Prices .. p ns r     r is the end, class and cost of the run from p along the lane numbers ns;
--                          or p is no point; or the place of the first number that names no lane; or after how many lanes the class is first not held
use Rattle.std.specs.Prelude.{◌≡◌, ℕ, ◌+◌, ◌<◌, ◌≤◌, List, [], ◌∷◌, ◌++◌, length, take, Some, None, Ok, Err, Result, slice_index_or}
use Rattle.kinds.specs.declared.lane.Lane.{Lane}
use Rattle.kinds.specs.declared.map.Map.{Ghosts as Maps}
use Rattle.kinds.specs.declared.class.Class.{Ghosts as Classes}
use Rattle.kinds.specs.declared.cost.Cost.{Ghosts as Costs}
use Rattle.kinds.specs.declared.pricing.Along.{Along}
use Rattle.kinds.specs.declared.pricing.Halt.{Halt}
use Rattle.kinds.specs.declared.pricing.Halt.TheVariants.{NoLane, NotHeld}
use Rattle.kinds.specs.declared.pricing.Unpriced.{Unpriced}
use Rattle.kinds.specs.declared.pricing.Unpriced.TheVariants.{NoPoint, LaneMissing, ClassNotHeld}
use Rattle.kinds.specs.Classes.{ClassKind, crossed}
use Rattle.kinds.specs.Runs.{Run, class_of, cost_of}

abbrev pub HeldAlong : (G : ClassKind) → List Lane → Type 0
HeldAlong G ls = (i : ℕ) → i ≤ length ls → G.Held (class_of G (take i ls))

abbrev pub halted_at : Halt → ℕ → Unpriced
halted_at NoLane i = LaneMissing i
halted_at NotHeld i = ClassNotHeld (i + 1)

module _ {M C K : Type 0} (a : Maps M) (b : Classes C) (c : Costs K) (m : M) where
  abbrev pub Stepped : Along C K → ℕ → Result (Along C K) Halt → Type 0
  Stepped from n (Ok to) =
      (l : Lane) × ((a.site m).lane from.end n ≡ Some l) × (to.end ≡ l.to)
      × (b.element to.class ≡ b.kind.mul (b.element from.class) (crossed b.kind l.crossing))
      × (to.cost ≡ c.costs.plus from.cost (c.costs.of l.length l.risk))
  Stepped from n (Err NoLane) = (a.site m).lane from.end n ≡ None
  Stepped from n (Err NotHeld) =
      (l : Lane) × ((a.site m).lane from.end n ≡ Some l)
      × (b.kind.Held (b.kind.mul (b.element from.class) (crossed b.kind l.crossing)) → ⊥)

  abbrev pub At : ℕ → List ℕ → List Lane → Along C K → Type 0
  At p ns ls to =
      Run (a.site m) p ns ls to.end × HeldAlong b.kind ls
      × (b.element to.class ≡ class_of b.kind ls) × (to.cost ≡ cost_of c.costs ls)

  abbrev pub Prices : ℕ → List ℕ → Result (Along C K) Unpriced → Type 0
  Prices p ns (Ok to) = (ls : List Lane) × At p ns ls to
  Prices p ns (Err NoPoint) = (a.site m).points ≤ p
  Prices p ns (Err (LaneMissing i)) =
      (i < length ns)
      × ((ls : List Lane) × (q : ℕ) × Run (a.site m) p (take i ns) ls q × HeldAlong b.kind ls × ((d : ℕ) → (a.site m).lane q (slice_index_or ns i d) ≡ None))
  Prices p ns (Err (ClassNotHeld i)) =
      (i ≤ length ns)
      × ((ls : List Lane) × (l : Lane) × (q : ℕ) × Run (a.site m) p (take i ns) (ls ++ (l ∷ [])) q × HeldAlong b.kind ls
      × (b.kind.Held (class_of b.kind (ls ++ (l ∷ []))) → ⊥))
