-- The numbers of the faults. Assumes nothing.
--     fault_number f        the number of the refusal that the fault f leads to, 4 to 10
use Rattle.std.specs.Prelude.{ℕ}
use Rattle.plans.specs.declared.fault.Fault.{Fault}
use Rattle.plans.specs.declared.fault.Fault.TheVariants.{UnknownCommand, CutShort, OutOfRange, GivenTwice, BadEnds, TooMany, AfterEnd}

abbrev pub fault_number : Fault → ℕ
fault_number UnknownCommand = 4
fault_number CutShort = 5
fault_number OutOfRange = 6
fault_number GivenTwice = 7
fault_number BadEnds = 8
fault_number TooMany = 9
fault_number AfterEnd = 10
