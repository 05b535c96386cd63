-- Rays and crossings. Assumes nothing.
--     numbered r       the number of the ray r, 1 to 7
--     Numbers n r      r is the ray with the number n, or an error with n if there is no such ray
--     other_way x      the crossing x the other way
use Rattle.std.specs.Prelude.{◌≡◌, ℕ, ◌<◌, ◌⊎◌, Result, MatchResult}
use Rattle.kinds.specs.declared.crossing.Ray.{Ray}
use Rattle.kinds.specs.declared.crossing.Ray.TheVariants.{One, Two, Three, Four, Five, Six, Seven}
use Rattle.kinds.specs.declared.crossing.NoRay.{NoRay}
use Rattle.kinds.specs.declared.crossing.Crossing.{Crossing}
use Rattle.kinds.specs.declared.crossing.Crossing.TheVariants as cross

abbrev pub numbered : Ray → ℕ
numbered One = 1
numbered Two = 2
numbered Three = 3
numbered Four = 4
numbered Five = 5
numbered Six = 6
numbered Seven = 7

abbrev pub Numbers : ℕ → Result Ray NoRay → Type 0
Numbers n r = MatchResult r (λ ray. numbered ray ≡ n) (λ e. (e.0 ≡ n) × ((n ≡ 0) ⊎ (7 < n)))

abbrev pub other_way : Crossing → Crossing
other_way cross.None = cross.None
other_way (cross.Forwards r) = cross.Backwards r
other_way (cross.Backwards r) = cross.Forwards r
