-- Rays and crossings by their numbers. Assumes nothing.
--     crossings         nothing, and then the seven rays forwards
--     ahead n           the ray with the number n, 1 to 7, crossed forwards, and nothing at any other number
--     is_crossing b     the byte b stands for a crossing
--     crossing_of b     the crossing that it stands for: 0 none, 1 to 7 forwards, 129 to 135 backwards
use Rattle.std.specs.Prelude.{ℕ, ◌-◌, Bool, cond, ◌&&◌, ◌||◌, List, [], ◌∷◌, nat_le, nat_lt, slice_index_or}
use Rattle.kinds.specs.declared.crossing.Ray.TheVariants.{One, Two, Three, Four, Five, Six, Seven}
use Rattle.kinds.specs.declared.crossing.Crossing.{Crossing}
use Rattle.kinds.specs.declared.crossing.Crossing.TheVariants as cross
use Rattle.kinds.specs.Crossings.{other_way}

abbrev pub crossings : List Crossing
crossings = cross.None ∷ cross.Forwards One ∷ cross.Forwards Two ∷ cross.Forwards Three ∷ cross.Forwards Four ∷ cross.Forwards Five ∷ cross.Forwards Six ∷ cross.Forwards Seven ∷ []

abbrev pub ahead : ℕ → Crossing
ahead n = slice_index_or crossings n cross.None

abbrev pub is_crossing : ℕ → Bool
is_crossing b = nat_le b 7 || (nat_le 129 b && nat_le b 135)

abbrev pub crossing_of : ℕ → Crossing
crossing_of b = cond (nat_lt b 128) (ahead b) (other_way (ahead (b - 128)))
