-- How crossings are written: a to g for the rays forwards, A to G backwards, - for none. Assumes nothing.
--     symbol_of x           the character of the crossing x
--     Reads c r             r is the crossing whose character is c, or an error with c if c is no crossing's
use Rattle.std.specs.Prelude.{◌≡◌, ℕ, ◌+◌, Result, MatchResult, ◌≢◌}
use Rattle.kinds.specs.declared.crossing.Crossing.{Crossing}
use Rattle.kinds.specs.declared.crossing.Crossing.TheVariants as cross
use Rattle.kinds.specs.declared.crossing.NoCrossing.{NoCrossing}
use Rattle.kinds.specs.Crossings.{numbered}

abbrev pub symbol_of : Crossing → ℕ
symbol_of cross.None = 45
symbol_of (cross.Forwards r) = 96 + numbered r
symbol_of (cross.Backwards r) = 64 + numbered r

abbrev pub Reads : ℕ → Result Crossing NoCrossing → Type 0
Reads c r = MatchResult r (λ x. symbol_of x ≡ c) (λ e. (e.0 ≡ c) × ((x : Crossing) → symbol_of x ≢ c))
