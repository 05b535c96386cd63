-- That the bytes of a plan allow one outcome only. Assumes nothing.
--     OneOutcome       two outcomes of the same bytes are the same
use Rattle.std.specs.Prelude.{◌≡◌, ℕ, List}
use Rattle.plans.specs.Plans.{Outcome, Reads}

abbrev pub OneOutcome : Type 0
OneOutcome = (bytes : List ℕ) (a b : Outcome) → Reads bytes a → Reads bytes b → a ≡ b
