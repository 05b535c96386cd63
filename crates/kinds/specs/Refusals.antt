-- The numbers of the refusals, and the offsets that some of them carry. Assumes nothing.
--     number_of r       the number of the refusal r, 1 to 21
--     offset_of r       where in the plan it stands: refusals 3 to 10 carry an offset
use Rattle.std.specs.Prelude.{ℕ, Some, None, Option}
use Rattle.kinds.specs.declared.refusal.Refusal.{Refusal}
use Rattle.kinds.specs.declared.refusal.Refusal.TheVariants.{PlanTooLong, MemorySize, NotAPlan, UnknownCommand, CutShort, OutOfRange, GivenTwice, BadEnds, TooMany, AfterEnd, NoChart, NoSuchPoint, CableTooLong, ReachTooLarge, NotCovered, NoRun, TooShort, WrongState, NoLane, BeyondCable, NotHome}

abbrev pub number_of : Refusal → ℕ
number_of PlanTooLong = 1
number_of MemorySize = 2
number_of NotAPlan = 3
number_of (UnknownCommand at) = 4
number_of (CutShort at) = 5
number_of (OutOfRange at) = 6
number_of (GivenTwice at) = 7
number_of (BadEnds at) = 8
number_of (TooMany at) = 9
number_of (AfterEnd at) = 10
number_of NoChart = 11
number_of NoSuchPoint = 12
number_of CableTooLong = 13
number_of ReachTooLarge = 14
number_of NotCovered = 15
number_of NoRun = 16
number_of TooShort = 17
number_of WrongState = 18
number_of NoLane = 19
number_of BeyondCable = 20
number_of NotHome = 21

abbrev pub offset_of : Refusal → Option ℕ
offset_of PlanTooLong = None
offset_of MemorySize = None
offset_of NotAPlan = Some 0
offset_of (UnknownCommand at) = Some at
offset_of (CutShort at) = Some at
offset_of (OutOfRange at) = Some at
offset_of (GivenTwice at) = Some at
offset_of (BadEnds at) = Some at
offset_of (TooMany at) = Some at
offset_of (AfterEnd at) = Some at
offset_of NoChart = None
offset_of NoSuchPoint = None
offset_of CableTooLong = None
offset_of ReachTooLarge = None
offset_of NotCovered = None
offset_of NoRun = None
offset_of TooShort = None
offset_of WrongState = None
offset_of NoLane = None
offset_of BeyondCable = None
offset_of NotHome = None
