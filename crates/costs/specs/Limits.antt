-- Where costs stop. Assumes nothing.
--     most         the largest length
--     steepest     the largest slope that is a limit
use Rattle.std.specs.Prelude.{ℕ}

abbrev pub most : ℕ
most = 1000000000

abbrev pub steepest : ℕ
steepest = 255
