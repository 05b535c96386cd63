-- Runs, their class and their cost. Assumes nothing.
--     Run m p ns ls q       from the point p the lane numbers ns name the lanes ls, each starting where the one before ended, and the last ends at q
--     class_of G ls         the class of the lanes: the product of their crossings from first to last
--     cost_of k ls          the cost of the lanes: the sum of their costs from first to last
use Rattle.std.specs.Prelude.{◌≡◌, ℕ, ◌<◌, List, [], ◌∷◌, map, Some}
use Rattle.kinds.specs.declared.lane.Lane.{Lane}
use Rattle.kinds.specs.Maps.{Site}
use Rattle.kinds.specs.Classes.{ClassKind, product}
use Rattle.kinds.specs.Costs.{CostKind}

abbrev pub Run : Site → ℕ → List ℕ → List Lane → ℕ → Type 0
Run m p [] [] q = (p < m.points) × (p ≡ q)
Run m p [] (l ∷ ls) q = ⊥
Run m p (n ∷ ns) [] q = ⊥
Run m p (n ∷ ns) (l ∷ ls) q = (m.lane p n ≡ Some l) × Run m l.to ns ls q

abbrev pub class_of : (G : ClassKind) → List Lane → G.Element
class_of G ls = product G (map (λ l. l.crossing) ls)

abbrev pub cost_of : {K : Type 0} → CostKind K → List Lane → K
cost_of k [] = k.zero
cost_of k (l ∷ ls) = k.plus (k.of l.length l.risk) (cost_of k ls)
