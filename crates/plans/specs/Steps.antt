-- How far the reading of commands has come. Assumes nothing.
--     Begins h bytes cs left   the bytes begin with the commands cs, each good after those before it, and these bytes are left
--     Fails h bytes n o        after good commands stands a fault: number n, at offset o from the first command
--     Goes h after cs left next  what is left begins with one more command, good after the commands cs; `next` is left after it, and `after` holds of all of them
--     Read h before after left r  what reading the command at the front of `left` answers, whatever commands `before` held of: what is left, where `after` holds of one more, or a fault
--     Stepped h before after left r  the same, or none at the end command
--     Ends h bytes after       the bytes are good commands, of which `after` holds, up to one end command
--     Run h bytes after r      what reading all of the commands answers
use Rattle.std.specs.Prelude.{◌≡◌, ℕ, ◌+◌, ◌<◌, ◌≤◌, List, [], ◌∷◌, ◌++◌, length, Some, None, Ok, Err, Option, Result}
use Rattle.std.specs.Borrow.{Bor}
use Rattle.plans.specs.declared.fault.Stop.{Stop}
use Rattle.plans.specs.Plans.{Head, Command, spell, spell_all, Good, AllGood, Fault}
use Rattle.plans.specs.Faults.{fault_number}

pub record Begins (h : Head) (bytes : List ℕ) (cs : List Command) (left : List ℕ) : Type 0 where
  pub spelled : bytes ≡ spell_all cs ++ left
  pub good : AllGood h [] cs

pub record Fails (h : Head) (bytes : List ℕ) (n o : ℕ) : Type 0 where
  pub commands : List Command
  pub left : List ℕ
  pub at : ℕ
  pub begins : Begins h bytes commands left
  pub fault : Fault h commands left n at
  pub offset : o ≡ length (spell_all commands) + at

pub record Goes (h : Head) (after : List Command → Type 0) (cs : List Command) (left next : List ℕ) : Type 0 where
  pub command : Command
  pub spelled : left ≡ spell command ++ next
  pub good : Good h cs command
  pub holds : after (cs ++ (command ∷ []))

abbrev pub Read : Head → (List Command → Type 0) → (List Command → Type 0) → List ℕ → Result (Bor (List ℕ)) Stop → Type 0
Read h before after left (Ok next) = (length next.now < length left) × ((cs : List Command) → before cs → Goes h after cs left next.now)
Read h before after left (Err e) = (e.at ≤ length left) × ((cs : List Command) → before cs → Fault h cs left (fault_number e.fault) e.at)

abbrev pub Stepped : Head → (List Command → Type 0) → (List Command → Type 0) → List ℕ → Result (Option (Bor (List ℕ))) Stop → Type 0
Stepped h before after left (Ok None) = (left ≡ 69 ∷ []) × ((cs : List Command) → before cs → after cs)
Stepped h before after left (Ok (Some next)) = Read h before after left (Ok next)
Stepped h before after left (Err e) = Read h before after left (Err e)

pub record Ends (h : Head) (bytes : List ℕ) (after : List Command → Type 0) : Type 0 where
  pub commands : List Command
  pub begins : Begins h bytes commands (69 ∷ [])
  pub holds : after commands

abbrev pub Run : Head → List ℕ → (List Command → Type 0) → Result Unit Stop → Type 0
Run h bytes after (Ok x) = Ends h bytes after
Run h bytes after (Err e) = (e.at ≤ length bytes) × Fails h bytes (fault_number e.fault) e.at
