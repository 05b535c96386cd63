-- Survey numbers as they lie in plan memory. Assumes nothing.
--     number_at m i       the number that the four bytes from the place i on spell, high byte first
--     survey_place k      the place of the k-th point's survey number
--     survey_at m n k     the survey number of the k-th of n points; none if k is no such point, or if it lies past the memory
--     numbers             survey numbers as keys: each means itself, and is its own hash
use Rattle.std.specs.Prelude.{ℕ, ◌+◌, ◌*◌, cond, List, length, Some, None, Option, nat_le, nat_lt, slice_index}
use Rattle.tables.specs.Probes.{KeyKind}

abbrev pub number_at : List ℕ → ℕ → ℕ
number_at m i = slice_index m i * 16777216 + slice_index m (i + 1) * 65536 + slice_index m (i + 2) * 256 + slice_index m (i + 3)

abbrev pub survey_place : ℕ → ℕ
survey_place k = 8192 + 4 * k

abbrev pub survey_at : List ℕ → ℕ → ℕ → Option ℕ
survey_at m n k = cond (nat_lt k n) (cond (nat_le (survey_place k + 4) (length m)) (Some (number_at m (survey_place k))) None) None

abbrev pub numbers : KeyKind
numbers = record { Meaning = ℕ; hash = λ n. n }
